use Rattle.std.proofs.Common.{◌≡◌, ◌+◌, ◌<◌, true, List, ap, ◌∙◌, arith}
use Rattle.engine_text.specs.declared.container.Container.{Container}
use Rattle.machine_model.specs.Consistency.{is_there}
use Rattle.machine_model.specs.Names.{anonymous, holder}
use Rattle.machine_tables.proofs.NameLemmas.{following}
use Rattle.machine_tables.proofs.names.first_free.Goals as goal

pub loop-i-preserved : goal.loop-i-preserved
loop-i-preserved c =
    let cs : List Container = c.args.table.now.containers in
    let called : c.as_str.result.now ≡ anonymous (c.args.n + c.loop-i.i) = c.as_str.ensures ∙ c.loop-i.invariant.name in
    let told = c.is_taken.ensures in
    let same = ap (λ t. is_there (holder t cs)) called in
    let test = c.if-not-is_taken.false in
    let taken : is_there (holder (anonymous (c.args.n + c.loop-i.i)) cs) ≡ true = cc in
    let low : c.loop-i.i < c.args.most = c.loop-i-test.true in
    record {
      name = c.in_ok-name-2.ensures ∙ ap anonymous (omega arith);
      same = following c.args.most c.loop-i.i c.args.n cs low taken ∙ c.loop-i.invariant.same;
    }
