-- A ticket that a connection has begun and hasn't ended stands, and its end has a place.
use Rattle.std.proofs.Common.{◌≡◌, ◌≤◌, ◌<◌, ◌+◌, ◌==◌, ◌&&◌, ℕ, List, [], ◌∷◌, ◌++◌, Bool, true, false, cond, refl, sym, ◌∙◌, ap, subst, length, arith, Option, Some, None}
use Rattle.std.specs.Prelude.{IsFalse, IsTrue, ◌^◌}
use Rattle.std.specs.List.{filter}
use Rattle.std.proofs.lemmas.Bool.{false≢true, eq-eqb}
use Rattle.std.proofs.lemmas.Bool.Decides.{nat_tests}
use Rattle.engine_text.specs.declared.call.Call.{Call}
use Rattle.engine_text.specs.declared.call.Call.TheVariants as call
use Rattle.engine_text.specs.declared.entry.Entry.{Entry}
use Rattle.engine_text.specs.declared.reply.Reply.{Reply}
use Rattle.engine_text.specs.declared.reply.Reply.TheVariants as reply
use Rattle.engine_text.specs.declared.step.Step.{Step}
use Rattle.engine_text.specs.declared.ticket.Ticket.{Ticket}
use Rattle.journal_lines.specs.KeptJournal.{ends_behind, ends_of, tickets_begun}
use Rattle.machine_model.specs.State.{State}
use Rattle.machine_model.specs.Consistency.{IsConsistent}
use Rattle.machine_model.specs.History.{Charter, IsLegal, IsLawful, AreLawful, after_step, has_steps, reply_of, state_after, state_from, opening_state, is_drop, SomeDues}
use Rattle.machine_model.specs.Statuses.{gives_ticket, is_reply_of}
use Rattle.machine_model.specs.Step.{at_moment}
use Rattle.machine_model.proofs.CallLemmas.{obeys}
use Rattle.machine_model.proofs.Histories.{run_append, lawful_back, legal_front}
use Rattle.machine_model.proofs.Laws.{consistency_law}
use Rattle.machine_model.proofs.ObeyLemmas.{HaveReplies}
use Rattle.machine_model.proofs.StandingLemmas.{Held, one_holder, held_due, held_call, held_begun, tickets_call, tickets_due, tickets_take, tickets_drop}
use Rattle.session_model.specs.Turning.{ends_ticket, is_end_of, HasBegun, HasTicket}
use Rattle.daemon_core.specs.Storing.{HoldsTicket, drop_of}
use Rattle.daemon_core.specs.Keeping.{history_of}
use Rattle.daemon_core.specs.Telling.{HasEnds, HasPlaces, IsToldBySome}
use Rattle.daemon_core.specs.declared.stored.Stored.{Stored}
use Rattle.daemon_core.proofs.CallLemmas.{have_replies}

-- ---- it stands

abbrev IsCons : List Step → Type 0
IsCons [] = ⊥
IsCons (x ∷ xs) = Unit {0}

none_first : (b : Bool) (x : Step) (ys : List Step) → cond b (x ∷ ys) ys ≡ [] → (b ≡ false) × (ys ≡ [])
none_first true x ys h = absurd (subst IsCons h tt)
none_first false x ys h = (refl, h)

and_is : (x y : Bool) → x ≡ true → y ≡ true → (x && y) ≡ true
and_is true y f g = g
and_is false y f g = absurd (false≢true f)

-- its number is another, or another connection ends it, which it isn't
by_number : (same : Bool) (k n j m : ℕ) (s : State) (t : ℕ) (c : Call) → (m == n) ≡ same → ((j == k) && (m == n)) ≡ false
    → Held j m s.tickets → ((m == n) ≡ false → Held k n (after_step s (Step.Call j t c)).tickets)
    → Held k n s.tickets → Held k n (after_step s (Step.Call j t c)).tickets
by_number false k n j m s t c is other its more h = more is
by_number true k n j m s t c is other its more h =
    let number : m ≡ n = grind (arith, nat_tests, is) in
    let holder : j ≡ k = one_holder j k n s.tickets (subst (λ x. Held j x s.tickets) number its) h in
    absurd (false≢true (sym other ∙ and_is (j == k) (m == n) (eq-eqb j k holder) is))

call_keeps : (k n : ℕ) (s : State) (j t : ℕ) (c : Call) → IsLawful s (Step.Call j t c) → ((j == k) && is_end_of n c) ≡ false
    → Held k n s.tickets → Held k n (after_step s (Step.Call j t c)).tickets
call_keeps k n s j t (call.Take m) lawful other h =
    by_number (m == n) k n j m s t (call.Take m) refl other lawful.1.1 (λ is. held_call k n s j t (call.Take m) is h) h
call_keeps k n s j t (call.Drop m) lawful other h =
    by_number (m == n) k n j m s t (call.Drop m) refl other lawful.1.1 (λ is. held_call k n s j t (call.Drop m) is h) h
call_keeps k n s j t c lawful other h = held_call k n s j t c tt h

-- steps that don't end it
pub steps_keep : (k n : ℕ) (s : State) (xs : List Step) → AreLawful s xs → filter (ends_ticket k n) xs ≡ [] → Held k n s.tickets
    → Held k n (state_from s xs).tickets
steps_keep k n s [] lawful none h = h
steps_keep k n s (Step.Due ∷ xs) lawful none h = steps_keep k n (after_step s Step.Due) xs lawful.1 none (held_due k n s h)
steps_keep k n s (Step.Call j t c ∷ xs) lawful none h =
    let both = none_first ((j == k) && is_end_of n c) (Step.Call j t c) (filter (ends_ticket k n) xs) none in
    steps_keep k n (after_step s (Step.Call j t c)) xs lawful.1 both.1 (call_keeps k n s j t c lawful.0 both.0 h)

-- whoever began it and hasn't ended it holds it
held_of : (ch : Charter) (k n : ℕ) (h : List Step) → IsLegal ch h → HasBegun ch k n h → Held k n (state_after ch h).tickets
held_of ch k n h legal (before, behind, t, c, none, is, begun) =
    let s : State = state_after ch before in
    let x : Step = Step.Call k t c in
    let whole : IsLegal ch (before ++ x ∷ behind) = subst (IsLegal ch) is legal in
    let front : IsLegal ch before = legal_front ch before (x ∷ behind) whole in
    let back : AreLawful s (x ∷ behind) = lawful_back (opening_state ch) before (x ∷ behind) whole.1 in
    let first : Held k n (after_step s x).tickets =
    held_begun k n t c s (have_replies ch before) (consistency_law ch before front).tickets.below begun in
    let last : Held k n (state_from (after_step s x) behind).tickets =
    steps_keep k n (after_step s x) behind back.1 none first in
    subst (λ (y : State). Held k n y.tickets) (sym (ap (state_after ch) is ∙ run_append ch before (x ∷ behind))) last

pub holds_at : (ch : Charter) (k : ℕ) (h : List Step) (c : Call) → IsLegal ch h → HasTicket ch k h c → HoldsTicket (state_after ch h) k c
holds_at ch k h (call.Take n) legal has = held_of ch k n h legal has
holds_at ch k h (call.Drop n) legal has = held_of ch k n h legal has
holds_at ch k h c legal has = tt

dues_keep : (k n : ℕ) (s : State) (u : ℕ) (xs : List Step) → SomeDues s u xs → Held k n s.tickets → Held k n (state_from s xs).tickets
dues_keep k n s u [] some h = h
dues_keep k n s u (Step.Due ∷ xs) some h = dues_keep k n (after_step s Step.Due) u xs some.1 (held_due k n s h)
dues_keep k n s u (Step.Call j t c ∷ xs) some h = absurd some

-- also behind what is due
pub holds_on : (k : ℕ) (s : State) (u : ℕ) (xs : List Step) (c : Call) → SomeDues s u xs → HoldsTicket s k c → HoldsTicket (state_from s xs) k c
holds_on k s u xs (call.Take n) some h = dues_keep k n s u xs some h
holds_on k s u xs (call.Drop n) some h = dues_keep k n s u xs some h
holds_on k s u xs c some h = tt

-- ---- which call is a drop

pub none_dropped : (c : Call) → drop_of (Some c) ≡ None → IsFalse (is_drop c)
none_dropped (call.Drop n) h = let never : ⊥ = cc in absurd never
none_dropped c h = refl

drop_in : Option ℕ → ℕ
drop_in None = 0
drop_in (Some n) = n

pub dropped : (o : Option Call) (n : ℕ) → drop_of o ≡ Some n → o ≡ Some (call.Drop n)
unfolding drop_in
dropped None n h = let never : ⊥ = cc in absurd never
dropped (Some (call.Drop m)) n h = ap (λ x. Some (call.Drop x)) (ap drop_in h)
dropped (Some c) n h = let never : ⊥ = cc in absurd never

-- ---- the places of ends

-- a reply begins one ticket at most
few_begun : (r : Reply) → tickets_begun r ≤ 1
few_begun (reply.Begun n) = omega arith
few_begun (reply.Answer status body) = omega arith
few_begun (reply.LogStream spec) = omega arith
few_begun (reply.EventStream first until filter) = omega arith
few_begun (reply.JournalStream count) = omega arith
few_begun (reply.Fed taken) = omega arith
few_begun reply.Dropped = omega arith

-- and none to a call that gives none
none_begun : (c : Call) (r : Reply) → gives_ticket c ≡ false → IsTrue (is_reply_of c r) → tickets_begun r ≡ 0
none_begun c (reply.Begun n) none is = absurd (false≢true (sym none ∙ is))
none_begun c (reply.Answer status body) none is = refl
none_begun c (reply.LogStream spec) none is = refl
none_begun c (reply.EventStream first until filter) none is = refl
none_begun c (reply.JournalStream count) none is = refl
none_begun c (reply.Fed taken) none is = refl
none_begun c reply.Dropped none is = refl

answers : (s : State) (k t : ℕ) (c : Call) (r : Reply) → HaveReplies s → r ≡ reply_of s k t c → IsTrue (is_reply_of c r)
answers s k t c r have is = subst (λ x. IsTrue (is_reply_of c x)) (sym is) ((obeys c k (at_moment t s)).reply have)

-- behind an entry the ends of the tickets have their places
abbrev pub IsPlaced : Stored → Entry → List Ticket → Type 0
IsPlaced d e tickets =
    (length d.journal.entries + 1 + ends_behind (ends_of d.journal.entries) e ≤ d.journal.room)
    × (length d.journal.entries + 1 + length tickets ≤ d.journal.room)

abbrev entry_with : ℕ → ℕ → ℕ → Call → Reply → Entry
entry_with dues k t c r = record { dues = dues; conn = k; moment = t; call = c; reply = r }

-- where there was place for it
pub call_placed : (s : State) (k t dues : ℕ) (c : Call) (r : Reply) (d : Stored) → HaveReplies s → IsLawful s (Step.Call k t c)
    → IsConsistent s → r ≡ reply_of s k t c → d.machine.memory.state ≡ s
    → length d.journal.entries + ends_of d.journal.entries ≤ d.journal.room → HasEnds d → HasPlaces d c
    → IsPlaced d (entry_with dues k t c r) (after_step s (Step.Call k t c)).tickets
call_placed s k t dues (call.Take n) r d have lawful kept is at places ends wide =
    let less = tickets_take s k t n lawful.1.1 in
    let none = none_begun (call.Take n) r refl (answers s k t (call.Take n) r have is) in
    let same = ap (λ (y : State). length y.tickets) at in
    (omega (arith, less, none, same, places, ends), omega (arith, less, same, ends))
call_placed s k t dues (call.Drop n) r d have lawful kept is at places ends wide =
    let less = tickets_drop s k t n lawful.1.1 in
    let none = none_begun (call.Drop n) r refl (answers s k t (call.Drop n) r have is) in
    let same = ap (λ (y : State). length y.tickets) at in
    (omega (arith, less, none, same, places, ends), omega (arith, less, same, ends))
call_placed s k t dues c r d have lawful kept is at places ends wide =
    let more = tickets_call s k t c lawful kept in
    let few = few_begun r in
    let same = ap (λ (y : State). length y.tickets) at in
    (omega (arith, few, same, wide), omega (arith, more, same, wide))

-- a due step has no entry, and brings no ticket
pub due_placed : (s : State) (len room : ℕ) → len + length s.tickets ≤ room → len + length (after_step s Step.Due).tickets ≤ room
due_placed s len room ends = let more = tickets_due s in omega (arith, ends, more)

-- ---- few steps stand before a lawful one

few_steps : (s : State) → IsTrue (has_steps s) → s.step_count < 2 ^ 57
few_steps s h = let few : s.step_count < 2 ^ 56 = grind (arith, nat_tests, h) in omega (arith, few)

pub few_due : (s : State) → IsLawful s Step.Due → s.step_count < 2 ^ 57
few_due s lawful = few_steps s lawful.0

-- a take and a drop are of a ticket that stands beside them
pub few_before : (s : State) (k t : ℕ) (c : Call) → IsLawful s (Step.Call k t c) → IsConsistent s → s.step_count < 2 ^ 57
few_before s k t (call.Take n) lawful kept =
    let less = tickets_take s k t n lawful.1.1 in
    let most = kept.counts.steps in
    omega (arith, less, most)
few_before s k t (call.Drop n) lawful kept =
    let less = tickets_drop s k t n lawful.1.1 in
    let most = kept.counts.steps in
    omega (arith, less, most)
few_before s k t c lawful kept = few_steps s lawful.1.1

pub told_replies : (d : Stored) → IsToldBySome d → HaveReplies d.machine.memory.state
told_replies d (ch, told) = subst HaveReplies (sym told.state) (have_replies ch (history_of d.journal))
