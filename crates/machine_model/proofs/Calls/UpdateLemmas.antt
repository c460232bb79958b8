-- What an update obeys.
use Rattle.std.proofs.Common.{◌≡◌, ℕ, Bool, true, false, List, Option, Some, refl, sym, ◌∙◌}
use Rattle.machine_model.specs.State.{State, container_numbered}
use Rattle.machine_model.specs.Chain.{renew}
use Rattle.machine_model.specs.Call.{outcome_of}
use Rattle.machine_model.specs.EventTexts.{plain_event}
use Rattle.machine_model.specs.Ranges.{IsLifeInRange}
use Rattle.machine_model.specs.Summary.{summary_row}
use Rattle.machine_model.specs.Calls.Update.{is_excluded, governed, updated, update, by_excluded, update_standing, by_status}
use Rattle.machine_model.proofs.Fold.RowLemmas.{Same, made}
use Rattle.machine_model.proofs.Fold.TellLemmas.{Tells, tells_then, tells_from, tells_quiet, tells_renew}
use Rattle.machine_model.proofs.ObeyLemmas.{Obeys, obeys_answer, obeys_found, obeys_at}
use Rattle.engine_text.specs.declared.call.Call.{Call}
use Rattle.engine_text.specs.declared.container.Container.{Container}
use Rattle.engine_text.specs.declared.container.Life.{Life}
use Rattle.engine_text.specs.declared.policy.Policy.{Policy}
use Rattle.engine_text.specs.declared.reply.Reply.{Reply}
use Rattle.engine_text.specs.declared.status.Status.{Status}
use Rattle.engine_text.specs.declared.event.Action.TheVariants.{Update}

in_range : (policy : Option Policy) (l : Life) → IsLifeInRange l → IsLifeInRange (governed policy l)
in_range policy l h = h

same_row : (policy : Option Policy) (c : Container) → summary_row (made (λ name. name) (governed policy) c) ≡ summary_row c
same_row policy c = refl

tells_update : (policy : Option Policy) (c : Container) → Tells c.number Same (update policy c) Same
tells_update policy c =
    let marks : Tells c.number Same (renew c.number (governed policy)) Same =
    tells_renew (λ s. governed policy) (λ s l h. in_range policy l h) (λ s fit r d id h. h ∙ sym (same_row policy d)) in
    tells_then marks (tells_quiet c.number (plain_event Update) (λ c t rs. refl))

own : (target : List ℕ) (policy : Option Policy) (s : State) (c : Container) (b : Bool) → container_numbered c.number s ≡ Some c → Obeys (Call.Update target policy) s (by_excluded b policy c s)
own target policy s c true found = obeys_answer (Call.Update target policy) s 409 _ refl
own target policy s c false found =
    obeys_found (Call.Update target policy) s c (Reply.Answer 200 updated) (update policy c) Same found refl (λ r d id h. h)
    (λ h sound. tells_from (λ r d id h. h.1) (tells_update policy c))

stands : (target : List ℕ) (policy : Option Policy) (s : State) (c : Container) → container_numbered c.number s ≡ Some c → Obeys (Call.Update target policy) s (update_standing policy c s)
stands target policy s c found = own target policy s c (is_excluded c.life.auto_remove policy) found

by : (target : List ℕ) (policy : Option Policy) (s : State) (c : Container) (u : Status) → container_numbered c.number s ≡ Some c → Obeys (Call.Update target policy) s (by_status u policy c s)
by target policy s c Status.Created found = stands target policy s c found
by target policy s c Status.Running found = stands target policy s c found
by target policy s c Status.Paused found = stands target policy s c found
by target policy s c Status.Restarting found = stands target policy s c found
by target policy s c Status.Removing found = obeys_answer (Call.Update target policy) s 409 _ refl
by target policy s c Status.Exited found = stands target policy s c found
by target policy s c Status.Dead found = obeys_answer (Call.Update target policy) s 409 _ refl

pub update_obeys : (target : List ℕ) (policy : Option Policy) (connection : ℕ) (s : State) → Obeys (Call.Update target policy) s (outcome_of (Call.Update target policy) connection s)
update_obeys target policy connection s =
    obeys_at (Call.Update target policy) s target (λ c. by_status c.life.status policy c) refl refl (λ c found. by target policy s c c.life.status found)
