use Rattle.std.proofs.Common.{◌≡◌, ℕ, subst}
use Rattle.std.specs.Prelude.{IfOk, string_bytes}
use Rattle.drill_model.specs.declared.deed.Deed.{Deed}
use Rattle.drill_model.specs.declared.deed.Program.{Program}
use Rattle.drill_model.specs.Requests.{box_of, program_of, request_by, request_of}
use Rattle.engine_drill.proofs.request.request_of.Goals as goal

pub returns : goal.returns
unfolding request_of
returns c =
    let r = c.request_by.result in
    subst (λ (d : Deed). IfOk r (λ s. string_bytes s ≡ request_by d (box_of c.args.word) (program_of c.args.word))) c.deed_of.ensures
    (subst (λ (k : ℕ). IfOk r (λ s. string_bytes s ≡ request_by c.deed_of.result k (program_of c.args.word))) c.box_of.ensures
    (subst (λ (p : Program). IfOk r (λ s. string_bytes s ≡ request_by c.deed_of.result c.box_of.result p)) c.program_of.ensures
    c.request_by.ensures))
