use Rattle.std.proofs.Common.{sym, arith}
use Rattle.daemon_shared.proofs.RunLemmas.{joins_one, keep_at}
use Rattle.daemon_shared.proofs.session_list.Sessions.join_number.Goals as goal

pub join_one-requires-clause-keeps : goal.join_one-requires-clause-keeps
join_one-requires-clause-keeps g c κs within =
    let long = c.args.self.now.running.ok.0 in
    keep_at _ _ _ _ c.args.self.now.running.items _ c.index_mut.result.now (omega (arith, c.if-place-len.true, c.len.ensures, long)) (sym c.index_mut.ensures.value) c.requires.keep

pub returns-then-place-len-clause-joins : goal.returns-then-place-len-clause-joins
returns-then-place-len-clause-joins g c =
    let long = c.args.self.now.running.ok.0 in
    joins_one _ _ _ _ c.args.self.now.running.items _ c.index_mut.result.now c.join_one.new.one (omega (arith, c.if-place-len.true, c.len.ensures, long)) (sym c.index_mut.ensures.value)
    c.join_one.ensures.began c.join_one.ensures.keeps c.requires.keep
