-- Counts of a journal that grows.
use Rattle.std.proofs.Common.{◌≡◌, ◌≤◌, ◌+◌, ℕ, List, [], ◌∷◌, ◌++◌, length, refl, ap, ◌∙◌, arith, length-append, append-nil}
use Rattle.std.specs.List.{flat_map}
use Rattle.std.proofs.lemmas.Grind.{flat_map-append}
use Rattle.std.proofs.lemmas.List.{length-replicate}
use Rattle.journal_lines.specs.Stored.{due_steps, entry_steps, stored_history}
use Rattle.journal_lines.specs.KeptJournal.{ends_behind, ends_from, ends_of, tickets_begun}
use Rattle.engine_text.specs.declared.entry.Entry.{Entry}
use Rattle.engine_text.specs.declared.reply.Reply.{Reply}
use Rattle.engine_text.specs.declared.step.Step.{Step}

-- one more entry
ends_more : (n : ℕ) (es : List Entry) (e : Entry) → ends_from n (es ++ e ∷ []) ≡ ends_behind (ends_from n es) e
ends_more n [] e = refl
ends_more n (x ∷ es) e = ends_more (ends_behind n x) es e

pub ends_grow : (es : List Entry) (e : Entry) → ends_of (es ++ e ∷ []) ≡ ends_behind (ends_of es) e
ends_grow es e = ends_more 0 es e

-- an entry begins at most one ticket
begun_one : (r : Reply) → tickets_begun r ≤ 1
begun_one (Reply.Begun ticket) = omega arith
begun_one r = omega arith

few_from : (n : ℕ) (es : List Entry) → ends_from n es ≤ n + length es
few_from n [] = omega arith
few_from n (e ∷ es) = omega (arith, few_from (ends_behind n e) es, begun_one e.reply)

pub few_ends : (es : List Entry) → ends_of es ≤ length es
few_ends es = let from = few_from 0 es in omega (arith, from)

stored : (es : List Entry) (n : ℕ) → length (stored_history es n) ≡ length (flat_map entry_steps es) + n
stored es n =
    length-append (flat_map entry_steps es) (due_steps n)
    ∙ ap (λ (k : ℕ). length (flat_map entry_steps es) + k) (length-replicate n Step.Due)

-- one more due step
pub due_grows : (es : List Entry) (n : ℕ) → length (stored_history es (n + 1)) ≡ length (stored_history es n) + 1
due_grows es n = omega (arith, stored es (n + 1), stored es n)

-- the due steps since the last entry are among the steps
pub since_within : (es : List Entry) (n : ℕ) → n ≤ length (stored_history es n)
since_within es n = omega (arith, stored es n)

one : (e : Entry) → length (entry_steps e ++ []) ≡ e.dues + 1
one e =
    ap length (append-nil (entry_steps e))
    ∙ length-append (due_steps e.dues) (Step.Call e.conn e.moment e.call ∷ [])
    ∙ ap (λ (k : ℕ). k + 1) (length-replicate e.dues Step.Due)

-- one more entry, which has the due steps before it
pub entry_grows : (es : List Entry) (e : Entry) → length (stored_history (es ++ e ∷ []) 0) ≡ length (stored_history es e.dues) + 1
entry_grows es e =
    let cut : length (flat_map entry_steps (es ++ e ∷ [])) ≡ length (flat_map entry_steps es) + (e.dues + 1) =
    ap length (flat_map-append entry_steps es (e ∷ []))
    ∙ length-append (flat_map entry_steps es) (entry_steps e ++ [])
    ∙ ap (λ (k : ℕ). length (flat_map entry_steps es) + k) (one e) in
    omega (arith, stored (es ++ e ∷ []) 0, stored es e.dues, cut)
