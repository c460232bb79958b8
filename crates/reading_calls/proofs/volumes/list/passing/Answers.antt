use Rattle.std.proofs.Common.{◌≡◌, ◌+◌, ◌∷◌, [], ◌++◌, Bool, List, ap, sym, ◌∙◌, filter, map, take}
use Rattle.std.proofs.lemmas.List.{take_more}
use Rattle.engine_text.specs.declared.volume.Volume.{Volume}
use Rattle.machine_model.specs.Filters.{passes, volume_fits}
use Rattle.machine_model.specs.Views.{listed_volume}
use Rattle.reading_calls.proofs.VolumesToldLemmas.{further}
use Rattle.reading_calls.proofs.volumes.list.passing.Goals as goal

pub loop-v-preserved : goal.loop-v-preserved
loop-v-preserved c =
    let vs : List Volume = c.args.volumes.now in
    let v : Volume = c.v-item.result in
    let p : Volume → Bool = λ w. passes (volume_fits w) c.args.rows.now in
    let more : take (c.loop-v.v-index + 1) vs ≡ take c.loop-v.v-index vs ++ v ∷ [] = take_more vs c.loop-v.v-index _ c.loop-v-test.true ∙ ap (λ x. take c.loop-v.v-index vs ++ x ∷ []) (sym c.v-item.is) in
    c.in_ok-add_shown.ensures ∙ (ap (λ l. l ++ map listed_volume (filter p (v ∷ []))) c.loop-v.invariant ∙ further p vs c.loop-v.v-index v more)
