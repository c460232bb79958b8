use Rattle.std.proofs.Common.{arith, ◌≤◌, ◌+◌, length, subst}
use Rattle.http_edge.specs.Reading.{Fills}
use Rattle.front_session.specs.Views.{given}
use Rattle.front_session.proofs.LookLemmas.{none_read, never_begins, begins_too_long, wants, nothing_begins}
use Rattle.front_session.proofs.looking.look.Goals as goal

pub returns-in-Malformed : goal.returns-in-Malformed
returns-in-Malformed c =
    let fills = subst (λ l. Fills c.args.ahead.now c.read_head.new.ahead (given l) (given c.read_head.new.source.left.now)) c.new-nothing.ensures c.in-Malformed.ensures.fills in
    let same = none_read _ _ _ fills in
    rw (c.requires.owed, ← same) (never_begins c.read_head.new.ahead c.args.place c.in-Malformed.ensures.within c.in-Malformed.ensures.facts)

pub returns-in-TooLong : goal.returns-in-TooLong
returns-in-TooLong c =
    let fills = subst (λ l. Fills c.args.ahead.now c.read_head.new.ahead (given l) (given c.read_head.new.source.left.now)) c.new-nothing.ensures c.in-TooLong.ensures.fills in
    let same = none_read _ _ _ fills in
    let facts = c.in-TooLong.ensures.facts in
    rw (c.requires.owed, ← same) (begins_too_long c.read_head.new.ahead c.args.place facts.0 facts.1 facts.2)

pub returns-in-End : goal.returns-in-End
returns-in-End c =
    let fills = subst (λ l. Fills c.args.ahead.now c.read_head.new.ahead (given l) (given c.read_head.new.source.left.now)) c.new-nothing.ensures c.in-End.ensures.fills in
    let same = none_read _ _ _ fills in
    let room : length c.read_head.new.ahead + c.wanted-in-End.result ≤ 16384 = omega (arith, c.wanted-in-End.ensures.room, c.len-in-End.ensures.count) in
    rw (c.requires.owed, ← same)
    (wants c.read_head.new.ahead c.args.place c.wanted-in-End.result (nothing_begins c.read_head.new.ahead c.in-End.ensures.facts.0)
    c.wanted-in-End.ensures.some c.wanted-in-End.ensures.place room)
