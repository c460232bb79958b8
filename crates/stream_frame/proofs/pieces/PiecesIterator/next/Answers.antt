use Rattle.std.proofs.Common.{◌≡◌, ℕ, ◌<◌, [], ◌∷◌, List, length, Bool, true, false, sym, ap, ◌∙◌, subst, arith}
use Rattle.std.specs.Prelude.{◌==◌, if◌then◌else◌, Ok}
use Rattle.std.proofs.lemmas.Bool.Decides.{nat_tests}
use Rattle.stream_frame.specs.Steps.{IsNextOf, items_of}
use Rattle.stream_frame.specs.Demuxing.{Item}
use Rattle.stream_frame.proofs.ChunkLemmas.{walks_none, walks_some, walks_fault}
use Rattle.stream_frame.proofs.pieces.PiecesIterator.next.Goals as goal

no_length : (n : ℕ) → (n == 0) ≡ true → n ≡ 0
no_length n e = grind (arith, nat_tests)

some_length : (n : ℕ) → (n == 0) ≡ false → 0 < n
some_length n e = grind (arith, nat_tests)

untold : (t : Bool) (xs : List Item) → t ≡ false → (if t then [] else xs) ≡ xs
untold t xs e = ap (λ (b : Bool). if b then [] else xs) e

pub returns-then-is_empty-clause-steps : goal.returns-then-is_empty-clause-steps
returns-then-is_empty-clause-steps c =
    let old = c.args.self.now in
    let at = subst (λ n. IsNextOf n c.past_headers-piece.new.demux.rest) c.in-Payload.is c.next.ensures in
    let t = walks_none old.demux c.past_headers-piece.new.demux c.take_part.new.self old.piece.now c.past_headers-piece.result.now
    c.part_of.result.0.now c.part_of.result.1.now c.in-Payload.kind c.in-Payload.missing
    c.past_headers-piece.ensures.items at.0 at.1 c.part_of.ensures.joined c.part_of.ensures.within c.part_of.ensures.all
    (c.take_part.ensures _ _ at.0) (no_length (length c.part_of.result.0.now) (sym c.is_empty.ensures ∙ c.if-is_empty.true)) in
    (untold old.told _ c.if-self.false ∙ t.0, untold old.told _ c.if-self.false ∙ t.1)

pub returns-else-is_empty-clause-steps : goal.returns-else-is_empty-clause-steps
returns-else-is_empty-clause-steps c =
    let old = c.args.self.now in
    let at = subst (λ n. IsNextOf n c.past_headers-piece.new.demux.rest) c.in-Payload.is c.next.ensures in
    untold old.told _ c.if-self.false
    ∙ (walks_some old.demux c.past_headers-piece.new.demux c.take_part.new.self old.piece.now c.past_headers-piece.result.now
    c.part_of.result.0.now c.part_of.result.1.now c.in-Payload.kind c.in-Payload.missing
    c.past_headers-piece.ensures.items at.0 at.1 c.part_of.ensures.joined c.part_of.ensures.within c.part_of.ensures.all
    (c.take_part.ensures _ _ at.0) (some_length (length c.part_of.result.0.now) (sym c.is_empty.ensures ∙ c.if-is_empty.false))
    ∙ ap (λ (l : List Item). Ok (c.in-Payload.kind, c.part_of.result.0.now) ∷ l) (sym (untold old.told (items_of c.take_part.new.self c.part_of.result.1.now) c.if-self.false)))

pub returns-else-is_empty-clause-goes : goal.returns-else-is_empty-clause-goes
returns-else-is_empty-clause-goes c = let e = ap length (returns-else-is_empty-clause-steps c) in
    record { on = λ _. (tt, tt, omega arith); keeps = tt; rests = λ _. tt }

pub returns-in-Faulted-clause-steps : goal.returns-in-Faulted-clause-steps
returns-in-Faulted-clause-steps c =
    let old = c.args.self.now in
    let at = subst (λ n. IsNextOf n c.past_headers-piece.new.demux.rest) c.in-Faulted.is c.next.ensures in
    untold old.told _ c.if-self.false
    ∙ walks_fault old.demux c.past_headers-piece.new.demux old.piece.now c.past_headers-piece.result.now c.in-Faulted.fault c.past_headers-piece.ensures.items at

pub returns-in-Faulted-clause-goes : goal.returns-in-Faulted-clause-goes
returns-in-Faulted-clause-goes c = let e = ap length (returns-in-Faulted-clause-steps c) in
    record { on = λ _. (tt, tt, omega arith); keeps = tt; rests = λ _. tt }
