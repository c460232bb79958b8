use Rattle.std.proofs.Common.{arith, ◌≡◌, ◌≤◌, ℕ, List, length, ◌+◌, ◌-◌, ◌++◌, take, drop, sym, ap, ◌∙◌, length-append, length-drop}
use Rattle.std.proofs.lemmas.List.{take-append-drop, take-append-le, take-take, drop-drop, length-take-le, take_rest}
use Rattle.engine_ports.proofs.memory.MemSourceSource.read.Goals as goal

-- what is read from a place on is what stands in the front of the buffer, and the rest
reads_front : (bytes into new : List ℕ) (at n : ℕ) → n ≤ length (drop at bytes) → new ≡ take n (drop at bytes)
    → drop at bytes ≡ take n (new ++ drop n into) ++ drop (at + n) bytes
reads_front bytes into new at n le e =
    let len : n ≤ length new = rw e (omega (arith, length-take-le n (drop at bytes) le)) in
    let front : take n (new ++ drop n into) ≡ take n (drop at bytes) = rw (take-append-le n new (drop n into) len, e) (take-take n n (drop at bytes) (omega arith)) in
    rw (front, ← drop-drop n at bytes) (sym (take-append-drop n (drop at bytes)))

pub returns-clause-says : goal.returns-clause-says
returns-clause-says c =
    let rest : take (length c.deref-2.result.now - c.self.inside.at) (drop c.self.inside.at c.deref-2.result.now) ≡ drop c.self.inside.at c.self.inside.bytes.items = rw c.deref-2.ensures.value (take_rest c.self.inside.bytes.items c.self.inside.at) in
    let new_is : c.copy_from_slice.new.self ≡ take c.min-count.result (drop c.self.inside.at c.self.inside.bytes.items) = c.copy_from_slice.ensures.after ∙ ap (take c.min-count.result) rest in
    let m1 = rw rest at c.min.ensures in
    let m2 = c.min-count.ensures in
    let le : c.min-count.result ≤ length (drop c.self.inside.at c.self.inside.bytes.items) = omega arith in
    let left_is : drop c.self.inside.at c.self.inside.bytes.items ≡ c.args.self.now.left = ap (λ x. x.left) c.self.view_is in
    let faults_is : c.self.inside.faults ≡ c.args.self.now.faults = ap (λ x. x.faults) c.self.view_is in
    let ends_is : c.self.inside.ends ≡ c.args.self.now.ends = ap (λ x. x.ends) c.self.view_is in (
      omega (arith, length-drop c.self.inside.at c.self.inside.bytes.items),
      omega (arith, length-append c.copy_from_slice.new.self (drop c.min-count.result c.args.into.now), length-drop c.min-count.result c.args.into.now, ap length new_is, length-take-le _ _ le),
      record {
        gave = sym left_is ∙ reads_front c.self.inside.bytes.items c.args.into.now c.copy_from_slice.new.self c.self.inside.at c.min-count.result le new_is;
        faults = omega arith;
        ends = omega arith;
      },
    )
