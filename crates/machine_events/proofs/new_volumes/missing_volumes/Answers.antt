use Rattle.std.proofs.Common.{◌≡◌, ◌+◌, ◌∷◌, [], ◌++◌, List, ap, sym, ◌∙◌, take}
use Rattle.std.proofs.lemmas.List.{take_more}
use Rattle.engine_text.specs.declared.mounts.Mount.{Mount}
use Rattle.machine_events.specs.NewVolumes.{missing_volumes}
use Rattle.machine_events.proofs.new_volumes.missing_volumes.Goals as goal

pub loop-m-preserved : goal.loop-m-preserved
loop-m-preserved c =
    let ms : List Mount = c.args.mounts.now in
    let m : Mount = c.m-item.result in
    let more : take (c.loop-m.m-index + 1) ms ≡ take c.loop-m.m-index ms ++ m ∷ [] = take_more ms c.loop-m.m-index _ c.loop-m-test.true ∙ ap (λ x. take c.loop-m.m-index ms ++ x ∷ []) (sym c.m-item.is) in
    c.in_ok-note_missing.ensures (take c.loop-m.m-index ms) c.loop-m.invariant ∙ ap (λ l. missing_volumes c.args.moment l c.args.volumes.now.volumes) (sym more)
