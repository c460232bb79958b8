-- What a remove obeys.
use Rattle.std.proofs.Common.{◌≡◌, ℕ, ◌+◌, Bool, true, false, List, [], Some, refl, arith}
use Rattle.machine_model.specs.State.{State, container_numbered, is_live, set_timer}
use Rattle.machine_model.specs.Chain.{and_then, renew}
use Rattle.machine_model.specs.Outcome.{replies}
use Rattle.machine_model.specs.Call.{outcome_of}
use Rattle.machine_model.specs.EventTexts.{kill_event}
use Rattle.machine_model.specs.Effects.Cancel.{cancel_restart}
use Rattle.machine_model.specs.Effects.Destroy.{destroy}
use Rattle.machine_model.specs.Calls.Remove.{to_remove, removing, if_it_lives, kill_to_remove, remove_running, remove_restarting, remove_dead, by_status}
use Rattle.machine_model.proofs.Fold.RowLemmas.{Same, Is}
use Rattle.machine_model.proofs.Fold.TellLemmas.{Tells, tells_then, tells_from, tells_still, tells_at, tells_quiet, tells_apart}
use Rattle.machine_model.proofs.ObeyLemmas.{Obeys, obeys_answer, obeys_found, obeys_ticket, obeys_at}
use Rattle.machine_model.proofs.Effects.LaunchLemmas.{Awake, awake_same}
use Rattle.machine_model.proofs.Effects.MeetLemmas.{awake_if, tells_meet}
use Rattle.machine_model.proofs.Effects.CancelLemmas.{tells_cancel}
use Rattle.machine_model.proofs.Effects.DestroyLemmas.{tells_destroy}
use Rattle.machine_model.proofs.Effects.EndMainLemmas.{awake_renew}
use Rattle.machine_model.proofs.Effects.HaltLemmas.{same_mark}
use Rattle.engine_text.specs.declared.call.Call.{Call}
use Rattle.engine_text.specs.declared.container.Container.{Container}
use Rattle.engine_text.specs.declared.reply.Reply.{Reply}
use Rattle.engine_text.specs.declared.status.Status.{Status}
use Rattle.engine_text.specs.declared.owner.Owner.TheVariants.{Container as OfContainer}
use Rattle.engine_text.specs.declared.ticket.Asked.TheVariants as Asked
use Rattle.container_table.specs.declared.rank.Rank.{Rank}

tells_if_it_lives : (b : Bool) (n : ℕ) → Tells n Awake (if_it_lives b n) Awake
tells_if_it_lives false n = tells_still
tells_if_it_lives true n =
    tells_then (awake_renew removing (λ l h. h) (λ c. refl) (λ l. refl)) (tells_apart (λ s. set_timer Rank.RemovalDeadline n (s.clock + 10000) s) (λ s. refl) (λ s fit. fit))

tells_to_remove : (n : ℕ) → Tells n Same (kill_to_remove n) Awake
tells_to_remove n =
    let marks : Tells n Same (renew n to_remove) Same = same_mark to_remove (λ l h. h) (λ c. refl) in
    let lives : Tells n Awake (λ s. if_it_lives (is_live (OfContainer n) s) n s) Awake =
    tells_at (λ s. if_it_lives (is_live (OfContainer n) s) n) (λ s. tells_if_it_lives (is_live (OfContainer n) s) n) in
    tells_then (tells_quiet n (kill_event 9) (λ c t rs. refl)) (tells_then marks (tells_then (tells_meet 9 n (omega arith)) lives))

gone : (target : List ℕ) (force : Bool) (s : State) (c : Container) → container_numbered c.number s ≡ Some c
    → Obeys (Call.Remove target force) s (replies (Reply.Answer 204 []) (destroy c.number) s)
gone target force s c found =
    obeys_found (Call.Remove target force) s c (Reply.Answer 204 []) (destroy c.number) Same found refl (λ r d id h. h)
    (λ h sound. tells_destroy c.number (Is c Same) Same)

running : (target : List ℕ) (force : Bool) (connection : ℕ) (s : State) (c : Container) → container_numbered c.number s ≡ Some c
    → Obeys (Call.Remove target force) s (remove_running force connection c s)
running target false connection s c found = obeys_answer (Call.Remove target false) s 409 _ refl
running target true connection s c found =
    obeys_ticket (Call.Remove target true) s connection c Asked.Remove (kill_to_remove c.number) Awake found refl awake_same
    (λ h sound. tells_from (λ r d id h. h.1) (tells_to_remove c.number))

restarts : (target : List ℕ) (force : Bool) (s : State) (c : Container) → container_numbered c.number s ≡ Some c → c.life.status ≡ Status.Restarting
    → Obeys (Call.Remove target force) s (remove_restarting force c s)
restarts target false s c found e = obeys_answer (Call.Remove target false) s 409 _ refl
restarts target true s c found e =
    obeys_found (Call.Remove target true) s c (Reply.Answer 204 []) (and_then (cancel_restart c.number) (destroy c.number)) Same found refl (λ r d id h. h)
    (λ h sound. tells_from (awake_if Status.Restarting c e refl) (tells_then (tells_cancel c.number) (tells_destroy c.number Awake Same)))

dead : (target : List ℕ) (force : Bool) (s : State) (c : Container) (b : Bool) → container_numbered c.number s ≡ Some c → Obeys (Call.Remove target force) s (remove_dead b c s)
dead target force s c true found = obeys_answer (Call.Remove target force) s 409 _ refl
dead target force s c false found = gone target force s c found

by : (target : List ℕ) (force : Bool) (connection : ℕ) (s : State) (c : Container) (u : Status) → container_numbered c.number s ≡ Some c → c.life.status ≡ u
    → Obeys (Call.Remove target force) s (by_status u force connection c s)
by target force connection s c Status.Created found e = gone target force s c found
by target force connection s c Status.Running found e = running target force connection s c found
by target force connection s c Status.Paused found e = running target force connection s c found
by target force connection s c Status.Restarting found e = restarts target force s c found e
by target force connection s c Status.Removing found e = obeys_answer (Call.Remove target force) s 409 _ refl
by target force connection s c Status.Exited found e = gone target force s c found
by target force connection s c Status.Dead found e = dead target force s c (is_live (OfContainer c.number) s) found

pub remove_obeys : (target : List ℕ) (force : Bool) (connection : ℕ) (s : State) → Obeys (Call.Remove target force) s (outcome_of (Call.Remove target force) connection s)
remove_obeys target force connection s =
    obeys_at (Call.Remove target force) s target (λ c. by_status c.life.status force connection c) refl refl
    (λ c found. by target force connection s c c.life.status found refl)
