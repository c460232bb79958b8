use Rattle.std.proofs.Common.{arith, ◌≡◌, length, drop, subst, sym}
use Rattle.std.proofs.lemmas.List.{take-append-le}
use Rattle.engine_ports.specs.Source.{SourceGave}
use Rattle.front_session.proofs.ReadLemmas.{came, cut, nothing_between, read_ended, read_failed}
use Rattle.front_session.proofs.fronting.want.Goals as goal

pub returns-then-ahead_len-eq0 : goal.returns-then-ahead_len-eq0
returns-then-ahead_len-eq0 g c =
    let len : length c.args.front.now.ahead ≡ 0 = omega (arith, c.ahead_len.ensures) in
    read_ended c.read.new.into c.read.new.into _ _ _ _ c.args.front.now c.in-End.ensures.says c.in-End.ensures.same
    (nothing_between c.args.front.now c.requires.owed c.requires.stage c.requires.none len)

pub returns-in-Bytes : goal.returns-in-Bytes
returns-in-Bytes g c =
    let says = c.in-Bytes.ensures.says in
    let first = take-append-le c.in-Bytes.count c.read.new.into (drop c.args.size c.args.into.now) says.1 in
    let gave = subst (λ l. SourceGave (g.W.TwoWays.source c.args.ways.now) l (g.W.TwoWays.source c.read.new.self)) (sym first) says.2 in
    came _ _ _ c.args.front.now c.requires.owed c.requires.stage c.args.into.now _ _ _ gave c.in-Bytes.ensures.same c.feed.ensures

pub returns-else-ahead_len-eq0 : goal.returns-else-ahead_len-eq0
returns-else-ahead_len-eq0 g c =
    cut _ _ _ c.args.front.now c.requires.owed c.requires.stage c.args.into.now c.read.new.into _ _ c.requires.none c.in-End.ensures.says c.in-End.ensures.same c.stand.ensures

pub returns-in-Failed : goal.returns-in-Failed
returns-in-Failed g c = read_failed c.read.new.into c.read.new.into _ _ _ _ c.args.front.now c.in-Failed.ensures.says c.in-Failed.ensures.same
