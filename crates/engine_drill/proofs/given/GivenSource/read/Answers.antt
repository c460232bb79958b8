use Rattle.std.proofs.Common.{arith, ◌≡◌, ◌≤◌, ◌+◌, ◌-◌, ◌++◌, ℕ, List, length, take, drop, sym, ap, ◌∙◌, length-append, length-drop}
use Rattle.std.proofs.lemmas.List.{take-append-drop, take-append-le, take-take, drop-drop, length-take-le, take_rest}
use Rattle.drill_model.specs.Source.{Supply}
use Rattle.engine_drill.proofs.given.GivenSource.read.Goals as goal

-- what is read from a place on is what stands in the front of the buffer, and the rest
reads_front : (bytes into new : List ℕ) (at n : ℕ) → n ≤ length (drop at bytes) → new ≡ take n (drop at bytes)
    → drop at bytes ≡ take n (new ++ drop n into) ++ drop (at + n) bytes
reads_front bytes into new at n le e =
    let len : n ≤ length new = rw e (omega (arith, length-take-le n (drop at bytes) le)) in
    let front : take n (new ++ drop n into) ≡ take n (drop at bytes) = rw (take-append-le n new (drop n into) len, e) (take-take n n (drop at bytes) (omega arith)) in
    rw (front, ← drop-drop n at bytes) (sym (take-append-drop n (drop at bytes)))

pub returns : goal.returns
returns c =
    let at = c.self.inside.at in
    let bytes = c.self.inside.bytes.items in
    let count = c.min-count.result in
    let rest : take (length c.deref.result.now - at) (drop at c.deref.result.now) ≡ drop at bytes = rw c.deref.ensures.value (take_rest bytes at) in
    let new_is : c.copy_from_slice.new.self ≡ take count (drop at bytes) = c.copy_from_slice.ensures.after ∙ ap (take count) rest in
    let least = rw rest at c.min-count.ensures in
    let le : count ≤ length (drop at bytes) = omega (arith, least) in
    let left_is : drop at bytes ≡ c.args.self.now.left = ap (λ (s : Supply). s.left) c.self.view_is in
    let ends_is : c.self.inside.ends ≡ c.args.self.now.ends = ap (λ (s : Supply). s.ends) c.self.view_is in (
      omega (arith, least, length-drop at bytes, c.if-self-len.false, c.len.ensures, c.self.invariant, c.requires),
      omega (arith, least, length-append c.copy_from_slice.new.self (drop count c.args.into.now), length-drop count c.args.into.now, ap length new_is, length-take-le count (drop at bytes) le),
      record {
        gave = sym left_is ∙ reads_front bytes c.args.into.now c.copy_from_slice.new.self at count le new_is;
        faults = omega arith;
        ends = omega (arith, ends_is);
      },
    )
