use Rattle.std.proofs.Common.{◌≡◌, List, [], ◌∷◌, ◌++◌, ap, sym, ◌∙◌, true, false}
use Rattle.engine_text.specs.declared.volume.Volume.{Volume}
use Rattle.machine_events.proofs.CreateLemmas.{is_known, known_more, made_as, new_more}
use Rattle.machine_events.proofs.new_volumes.note_missing.Goals as goal

pub returns-then-is_known : goal.returns-then-is_known
returns-then-is_known c = λ before e.
    let vs : List Volume = c.args.volumes.now.volumes in
    let known : is_known c.args.mount.now.volume c.args.made.now.items vs ≡ true =
    ap (λ n. is_known n c.args.made.now.items vs) (sym c.as_str.ensures)
    ∙ (ap (λ l. is_known c.as_str.result.now l vs) (sym c.as_slice.ensures.value) ∙ (sym c.is_known.ensures ∙ c.if-is_known.true)) in
    known_more c.args.moment before c.args.mount.now vs c.args.made.now.items e known

pub returns : goal.returns
returns c = λ before e.
    let vs : List Volume = c.args.volumes.now.volumes in
    let known : is_known c.args.mount.now.volume c.args.made.now.items vs ≡ false =
    ap (λ n. is_known n c.args.made.now.items vs) (sym c.as_str.ensures)
    ∙ (ap (λ l. is_known c.as_str.result.now l vs) (sym c.as_slice.ensures.value) ∙ (sym c.is_known.ensures ∙ c.if-is_known.false)) in
    let v : Volume = record { name = c.in_ok-copy.field-0; labels = c.new.result; created = c.args.moment } in
    new_more c.args.moment before c.args.mount.now vs c.args.made.now.items _ v e known
    (c.push_reserved.ensures.items ∙ ap (λ (l : List Volume). l ++ v ∷ []) c.in_ok-reserve.ensures.items)
    (made_as _ _ c.args.mount.now.volume c.args.moment c.in_ok-copy.ensures c.new.ensures)
