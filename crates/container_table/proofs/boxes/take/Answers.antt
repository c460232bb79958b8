use Rattle.std.proofs.Common.{ℕ, ◌+◌, List, length, ◌∙◌, ap, sym, Some, arith}
use Rattle.std.specs.Prelude.{◌==◌}
use Rattle.std.specs.List.{remove}
use Rattle.std.proofs.lemmas.List.Edits.{length-remove}
use Rattle.container_table.specs.Held.{contents, numbers_of, rooms_of}
use Rattle.container_table.specs.Logs.{container_in}
use Rattle.container_table.specs.declared.held.Held.{Held}
use Rattle.container_table.proofs.HeldLemmas.{find_value, contents_removed, numbers_alone}
use Rattle.container_table.proofs.BoxLemmas.{rooms_removed, numbers_removed}
use Rattle.container_table.proofs.boxes.take.Goals as goal

pub returns-clause-value : goal.returns-clause-value
returns-clause-value c =
    find_value (λ d. d.number == c.args.number) c.args.boxes.now.list.items c.args.i c.remove-place.result (numbers_alone c.args.number (contents c.args.boxes.now.list.items) c.requires.boxed.order) c.requires.place
    ∙ ap (λ (h : Held). Some (container_in h)) (ap (λ b. b.value) (sym c.remove-place.ensures.value) ∙ sym (c.replace-gone.ensures.value ∙ c.deref_mut.ensures.value))

pub returns-clause-contents : goal.returns-clause-contents
returns-clause-contents c =
    ap contents c.remove-place.ensures.items
    ∙ contents_removed (λ d. d.number == c.args.number) c.args.boxes.now.list.items c.args.i (numbers_alone c.args.number (contents c.args.boxes.now.list.items) c.requires.boxed.order) c.requires.place

pub returns-clause-rooms : goal.returns-clause-rooms
returns-clause-rooms c =
    ap rooms_of c.remove-place.ensures.items
    ∙ rooms_removed c.args.number c.args.boxes.now.list.items c.args.i (numbers_alone c.args.number (contents c.args.boxes.now.list.items) c.requires.boxed.order) c.requires.place

pub returns-clause-numbers : goal.returns-clause-numbers
returns-clause-numbers c =
    c.remove.ensures.items ∙ ap (λ (ns : List ℕ). remove ns c.args.i) c.requires.boxed.numbers
    ∙ numbers_removed c.args.number (contents c.args.boxes.now.list.items) c.args.i c.requires.boxed.order c.requires.place
    ∙ ap numbers_of (sym (contents_removed (λ d. d.number == c.args.number) c.args.boxes.now.list.items c.args.i (numbers_alone c.args.number (contents c.args.boxes.now.list.items) c.requires.boxed.order) c.requires.place))
    ∙ ap (λ bs. numbers_of (contents bs)) (sym c.remove-place.ensures.items)

pub returns-clause-len : goal.returns-clause-len
returns-clause-len c =
    ap (λ bs. length bs + 1) c.remove-place.ensures.items ∙ length-remove c.args.boxes.now.list.items c.args.i c.requires.bound

pub returns-clause-numbers_len : goal.returns-clause-numbers_len
returns-clause-numbers_len c =
    ap (λ (ns : List ℕ). length ns + 1) c.remove.ensures.items ∙ length-remove c.args.boxes.now.numbers.items c.args.i (omega (arith, c.requires.len, c.requires.bound))
