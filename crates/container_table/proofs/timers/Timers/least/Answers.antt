use Rattle.std.proofs.Common.{◌≡◌, List, [], ◌∷◌, ◌∙◌, refl, ap}
use Rattle.std.specs.Prelude.{slice_get}
use Rattle.engine_text.specs.declared.step.DueAction.{DueAction}
use Rattle.container_table.specs.Tables.{Timed}
use Rattle.container_table.specs.Timers.{least}
use Rattle.container_table.proofs.TimerLemmas.{first_of, first_is_least}
use Rattle.container_table.proofs.timers.Timers.least.Goals as goal

get_first : (ds : List DueAction) → slice_get ds 0 ≡ first_of ds
get_first [] = refl
get_first (d ∷ ds) = refl

pub returns : goal.returns
returns c =
    c.copied.ensures ∙ c.first.ensures.value ∙ ap (λ (ds : List DueAction). slice_get ds 0) c.deref.ensures.value ∙ get_first c.self.inside.due.items
    ∙ first_is_least c.self.inside.listed.items c.self.inside.due.items c.self.invariant.listed c.self.invariant.due
    ∙ ap (λ (k : Timed). least k.timers) c.self.view_is
