use Rattle.std.proofs.Common.{◌≡◌, sym, ◌∙◌, true, false}
use Rattle.std.proofs.lemmas.Bool.{false≢true}
use Rattle.std.proofs.lemmas.Slice.Eq.{bytes_eq-Decides}
use Rattle.engine_text.specs.Texts.{same_bytes}
use Rattle.engine_text.specs.declared.entry.Entry.{Entry}
use Rattle.machine_model.specs.Ready.{is_ready}
use Rattle.journal_lines.specs.Entry.{lacks_ticket, NoTicket}
use Rattle.history_replay.specs.Standing.{Standing}
use Rattle.history_replay.proofs.EntryLemmas.{lawful_now, said_wrong, other_dues, not_ready, right_entry, other_reply}
use Rattle.history_replay.proofs.entry.check_entry.Goals as goal

pub returns-then-lacks_ticket : goal.returns-then-lacks_ticket
returns-then-lacks_ticket g c =
    let s : Standing = g.M.Replays.standing c.args.machine.now in
    let e : Entry = c.args.entry.now in
    let lacks : lacks_ticket s.state e.conn e.call ≡ true = cc in
    said_wrong s e _ c.wrong.result _ _ c.wrong.ensures (NoTicket lacks)

pub returns-in-Other : goal.returns-in-Other
returns-in-Other g c =
    let s : Standing = g.M.Replays.standing c.args.machine.now in
    let e : Entry = c.args.entry.now in
    let holds : lacks_ticket s.state e.conn e.call ≡ false = cc in
    other_dues s e (g.M.Replays.standing c.run_dues.new.machine) c.in_ok-run_dues.field-0 c.in_ok-kept-in-Other.kept c.in-Other.found holds
    c.in_ok-run_dues.ensures c.in-Other.is c.in_ok-kept-in-Other.ensures

pub returns-then-not-can_answer : goal.returns-then-not-can_answer
returns-then-not-can_answer g c =
    let s : Standing = g.M.Replays.standing c.args.machine.now in
    let e : Entry = c.args.entry.now in
    let now : Standing = g.M.Replays.standing c.run_dues.new.machine in
    let holds : lacks_ticket s.state e.conn e.call ≡ false = cc in
    let never : is_ready now.state e.call ≡ false = cc in
    said_wrong s e _ c.wrong-then-not-can_answer.result _ _ c.wrong-then-not-can_answer.ensures
    (not_ready s e now c.in_ok-run_dues.field-0 holds c.in_ok-run_dues.ensures c.in-Made.is never)

pub found_reply-requires : goal.found_reply-requires
found_reply-requires g c =
    let s : Standing = g.M.Replays.standing c.args.machine.now in
    let e : Entry = c.args.entry.now in
    let now : Standing = g.M.Replays.standing c.run_dues.new.machine in
    let holds : lacks_ticket s.state e.conn e.call ≡ false = cc in
    let ready : is_ready now.state e.call ≡ true = cc in
    lawful_now s e now c.in_ok-run_dues.field-0 c.requires holds c.in_ok-run_dues.ensures c.in-Made.is ready

pub returns-then-is : goal.returns-then-is
returns-then-is g c =
    let s : Standing = g.M.Replays.standing c.args.machine.now in
    let e : Entry = c.args.entry.now in
    let now : Standing = g.M.Replays.standing c.run_dues.new.machine in
    let holds : lacks_ticket s.state e.conn e.call ≡ false = cc in
    let ready : is_ready now.state e.call ≡ true = cc in
    let tests : same_bytes c.in_ok-kept.kept c.in_ok-found.found ≡ true = cc in
    right_entry s e now (g.M.Replays.standing c.found_reply.new.machine) c.in_ok-run_dues.field-0 c.in_ok-kept.kept c.in_ok-found.found holds
    c.in_ok-run_dues.ensures c.in-Made.is ready c.in_ok-kept.ensures c.in_ok-found.ensures.text
    ((bytes_eq-Decides c.in_ok-kept.kept c.in_ok-found.found).0 tests) c.in_ok-found.ensures.made

pub returns : goal.returns
returns g c =
    let s : Standing = g.M.Replays.standing c.args.machine.now in
    let e : Entry = c.args.entry.now in
    let now : Standing = g.M.Replays.standing c.run_dues.new.machine in
    let holds : lacks_ticket s.state e.conn e.call ≡ false = cc in
    let ready : is_ready now.state e.call ≡ true = cc in
    let tests : same_bytes c.in_ok-kept.kept c.in_ok-found.found ≡ false = cc in
    other_reply s e now c.in_ok-run_dues.field-0 c.in_ok-kept.kept c.in_ok-found.found holds
    c.in_ok-run_dues.ensures c.in-Made.is ready c.in_ok-kept.ensures c.in_ok-found.ensures.text
    (λ same. false≢true (sym tests ∙ (bytes_eq-Decides c.in_ok-kept.kept c.in_ok-found.found).1 same))
