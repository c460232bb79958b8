-- What each call obeys: its events fold to the new summary, and its reply is one of its operation's.
use Rattle.std.specs.Option.{option_map_or, unwrap_or}
use Rattle.std.proofs.Common.{◌≡◌, ℕ, ◌<◌, ◌≤◌, ◌==◌, ◌&&◌, Bool, true, false, List, [], ◌∷◌, IsTrue, Option, Some, None, find, if◌then◌else◌, refl, sym, subst, arith}
use Rattle.std.proofs.lemmas.Bool.{leb-true}
use Rattle.std.specs.List.{AllByRecursion}
use Rattle.container_table.specs.Reference.{container_by}
use Rattle.machine_model.specs.State.{State, container_numbered}
use Rattle.machine_model.specs.Chain.{Effect, and_then, change, still}
use Rattle.machine_model.specs.Outcome.{Outcome, by_found, at_reference, answers, replies, refused}
use Rattle.machine_model.specs.Tickets.{begun, begins}
use Rattle.engine_text.specs.Soundness.{IsSound, is_signal, if_given}
use Rattle.machine_model.specs.Statuses.{is_status_of, is_ticket_status, is_reply_of, gives_ticket}
use Rattle.machine_model.specs.Consistency.{IsFrozenRight}
use Rattle.machine_model.proofs.Fold.RowLemmas.{Same, Is, found_number, same_some}
use Rattle.machine_model.proofs.Fold.TellLemmas.{Fit, Folded, Tells, LifeInRange, folded_by, folded_at, folded_still, tells_then, tells_apart}
use Rattle.engine_text.specs.declared.call.Call.{Call}
use Rattle.engine_text.specs.declared.container.Container.{Container}
use Rattle.engine_text.specs.declared.container.Found.{Found}
use Rattle.engine_text.specs.declared.event.FoldRow.{FoldRow}
use Rattle.engine_text.specs.declared.reply.Reply.{Reply}
use Rattle.engine_text.specs.declared.signal.Signal.{Signal}
use Rattle.engine_text.specs.declared.ticket.Asked.{Asked}
use Rattle.machine_model.specs.Refusals.{no_such_container}

-- what the fold needs of the state of a call
pub record Stands (s : State) : Type 0 where
  pub fit : Fit s
  pub frozen : AllByRecursion (IsFrozenRight s) s.containers

-- the reply of a ticket, if it is there
abbrev pub IsTicketReply : Option Reply → Type 0
IsTicketReply None = Unit {0}
IsTicketReply (Some (Reply.Answer status body)) = IsTrue (is_ticket_status status)
IsTicketReply (Some _) = ⊥

abbrev pub HaveReplies : State → Type 0
HaveReplies s = AllByRecursion (λ t. IsTicketReply t.reply) s.tickets

pub record Obeys (k : Call) (s : State) (o : Outcome) : Type 0 where
  pub folds : Stands s → IsSound k → Folded s o.effect
  pub reply : HaveReplies s → IsTrue (is_reply_of k o.reply)

-- ---- calls that change nothing

pub obeys_reply : (k : Call) (s : State) (reply : Reply) → IsTrue (is_reply_of k reply) → Obeys k s (replies reply still s)
obeys_reply k s reply is = record { folds = λ h sound. folded_still s h.fit; reply = λ h. is }

pub obeys_answer : (k : Call) (s : State) (status : ℕ) (body : List ℕ) → IsTrue (is_status_of k status) → Obeys k s (answers status body s)
obeys_answer k s status body is = obeys_reply k s (Reply.Answer status body) is

-- ---- calls that change something

-- of no container
pub obeys_apart : (k : Call) (s : State) (reply : Reply) (e : State → Effect) → (HaveReplies s → IsTrue (is_reply_of k reply)) → (IsSound k → Tells 0 Same e Same) → Obeys k s (replies reply e s)
obeys_apart k s reply e is tells = record { folds = λ h sound. folded_by 0 Same e s (λ r c id h. h) (tells sound) h.fit; reply = is }

-- of the container that was found
pub obeys_found : (k : Call) (s : State) (c : Container) (reply : Reply) (e : State → Effect) (Q : FoldRow → Container → Type 0)
    → container_numbered c.number s ≡ Some c → IsTrue (is_reply_of k reply) → ((r : FoldRow) (d : Container) → r.id ≡ d.id → Q r d → Same r d)
    → (Stands s → IsSound k → Tells c.number (Is c Same) e Q) → Obeys k s (replies reply e s)
obeys_found k s c reply e Q found is same tells = record {
  folds = λ h sound. folded_at c Q e s same found (tells h sound) h.fit;
  reply = λ h. is;
}

-- with a ticket
pub obeys_ticket : (k : Call) (s : State) (connection : ℕ) (c : Container) (asked : Asked) (e : State → Effect) (Q : FoldRow → Container → Type 0)
    → container_numbered c.number s ≡ Some c → IsTrue (gives_ticket k) → ((r : FoldRow) (d : Container) → r.id ≡ d.id → Q r d → Same r d)
    → (Stands s → IsSound k → Tells c.number (Is c Same) e Q) → Obeys k s (begins connection c asked e s)
obeys_ticket k s connection c asked e Q found is same tells = record {
  folds = λ h sound.
      let begin : Tells c.number (Is c Same) (change (begun connection c.number asked)) (Is c Same) =
      tells_apart (begun connection c.number asked) (λ s. refl) (λ s fit. fit) in
      folded_at c Q (and_then (change (begun connection c.number asked)) e) s same found (tells_then begin (tells h sound)) h.fit;
  reply = λ h. is;
}

-- ---- references

one_case : (k : Call) (s : State) (n : ℕ) (target : List ℕ) (f : Container → State → Outcome) (o : Option Container) → container_numbered n s ≡ o
    → IsTrue (is_status_of k 404) → ((c : Container) → container_numbered c.number s ≡ Some c → Obeys k s (f c s)) → Obeys k s (option_map_or f o (refused 404 (no_such_container target)) s)
one_case k s n target f None e none one = obeys_answer k s 404 _ none
one_case k s n target f (Some c) e none one = one c (subst (λ m. container_numbered m s ≡ Some c) (sym (found_number n c s.containers e)) e)

found_case : (k : Call) (s : State) (found : Found) (target : List ℕ) (f : Container → State → Outcome) → IsTrue (is_status_of k 404) → IsTrue (is_status_of k 400)
    → ((c : Container) → container_numbered c.number s ≡ Some c → Obeys k s (f c s)) → Obeys k s (by_found found target f s)
found_case k s (Found.One n) target f none many one = one_case k s n target f (container_numbered n s) refl none one
found_case k s Found.None target f none many one = obeys_answer k s 404 _ none
found_case k s Found.Many target f none many one = obeys_answer k s 400 _ many

-- of each container that may be found
pub obeys_at : (k : Call) (s : State) (target : List ℕ) (f : Container → State → Outcome) → IsTrue (is_status_of k 404) → IsTrue (is_status_of k 400)
    → ((c : Container) → container_numbered c.number s ≡ Some c → Obeys k s (f c s)) → Obeys k s (at_reference target f s)
obeys_at k s target f none many one = found_case k s (container_by s.containers target) target f none many one

-- ---- signals

pub both_true : (a b : Bool) → (a && b) ≡ true → (a ≡ true) × (b ≡ true)
both_true true true e = (refl, refl)
both_true true false e = absurd (cc)
both_true false b e = absurd (cc)

pub signal_range : (signal : Signal) → is_signal signal ≡ true → (1 ≤ signal.number) × (signal.number ≤ 31)
signal_range signal e = let both = both_true _ _ e in (leb-true 1 signal.number both.0, leb-true signal.number 31 both.1)

pub low_signal : (signal : Signal) → is_signal signal ≡ true → signal.number < 128
low_signal signal e = omega (arith, (signal_range signal e).1)

found_by : {A : Type 0} (P : A → Type 0) (b : Bool) (x y : A) (rest : Option A) → (if b then Some x else rest) ≡ Some y → P x → (rest ≡ Some y → P y) → P y
found_by P true x y rest e px more = subst P (same_some x y e) px
found_by P false x y rest e px more = more e

-- what holds of each holds of the one that is found
pub found_all : {A : Type 0} (P : A → Type 0) (p : A → Bool) (y : A) (xs : List A) → find p xs ≡ Some y → AllByRecursion P xs → P y
found_all P p y [] e all = absurd (cc)
found_all P p y (x ∷ xs) e all = found_by P (p x) x y (find p xs) e all.0 (λ more. found_all P p y xs more all.1)

pub low_used : (o : Option Signal) (c : Container) → if_given is_signal o ≡ true → LifeInRange c → (unwrap_or o c.life.stop_signal).number < 128
low_used None c sound in_range = omega (arith, in_range.2)
low_used (Some signal) c sound in_range = low_signal signal sound

pub low_own : (s : State) (c : Container) → Fit s → container_numbered c.number s ≡ Some c → LifeInRange c
low_own s c fit found = found_all LifeInRange (λ d. d.number == c.number) c s.containers found fit.4
