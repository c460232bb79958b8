use Rattle.std.proofs.Common.{ap, not, eqb, map, ◌∙◌, rules}
use Rattle.std.proofs.lemmas.Fn.{filter_same}
use Rattle.std.proofs.lemmas.List.Elements.{All-filter, All-same}
use Rattle.volume_table.specs.declared.references.Reference.{Reference}
use Rattle.volume_table.specs.Volumes.{VolumeTable, released}
use Rattle.volume_table.specs.VolumesInside.{IsWithin, use_in}
use Rattle.volume_table.proofs.ReferenceLemmas.{uses_left}
use Rattle.volume_table.proofs.volumes.Volumes.release.Goals as goal

pub invariant_of-self : goal.invariant_of-self
invariant_of-self c =
    let test = λ (r : Reference). not (eqb r.container c.args.container) in
    let is = filter_same _ test _ (λ x b f' called. search rules) c.self.inside.references.items _ c.retain.ensures.filtered in
    record {
      ordered = c.self.invariant.ordered;
      within = All-same (IsWithin c.self.inside.volumes.items) _ _ is (All-filter test (IsWithin c.self.inside.volumes.items) c.self.inside.references.items c.self.invariant.within);
    }

pub returns-clause-uses : goal.returns-clause-uses
returns-clause-uses c =
    let test = λ (r : Reference). not (eqb r.container c.args.container) in
    let is = filter_same _ test _ (λ x b f' called. search rules) c.self.inside.references.items _ c.retain.ensures.filtered in
    ap (map (use_in c.self.inside.volumes.items)) is
    ∙ uses_left c.self.inside.volumes.items c.args.container c.self.inside.references.items
    ∙ ap (λ (t : VolumeTable). released c.args.container t.uses) c.self.view_is
