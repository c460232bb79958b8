-- What feeds obey.
use Rattle.std.proofs.Common.{ℕ, Bool, true, false, List, Option, Some, None, refl}
use Rattle.proc_kernel.specs.Processes.{feed, feed_end}
use Rattle.machine_model.specs.State.{State, container_numbered, change_process}
use Rattle.machine_model.specs.Call.{outcome_of}
use Rattle.machine_model.specs.Streams.{RunState, Coming, Live, Over, run_state}
use Rattle.machine_model.specs.Calls.Feed.{feed_process, end_input, feed_by, ends_if, ends_with, end_by_owner, feed_end_by}
use Rattle.machine_model.proofs.Fold.RowLemmas.{Same}
use Rattle.machine_model.proofs.Fold.TellLemmas.{Tells, tells_still, tells_at, tells_apart}
use Rattle.machine_model.proofs.ObeyLemmas.{Obeys, obeys_reply, obeys_apart}
use Rattle.machine_model.proofs.Processes.CodeLemmas.{all_changed, coded_feed, coded_feed_end}
use Rattle.engine_text.specs.declared.call.Call.{Call}
use Rattle.engine_text.specs.declared.container.Container.{Container}
use Rattle.engine_text.specs.declared.event.FoldRow.{FoldRow}
use Rattle.engine_text.specs.declared.reply.Reply.{Reply}
use Rattle.engine_text.specs.declared.owner.Owner.{Owner}
use Rattle.engine_text.specs.declared.owner.Owner.TheVariants.{Container as OfContainer, Exec as OfExec}

by : (owner : Owner) (run : ℕ) (bytes : List ℕ) (s : State) (r : RunState) → Obeys (Call.Feed owner run bytes) s (feed_by r owner bytes s)
by owner run bytes s Over = obeys_reply (Call.Feed owner run bytes) s (Reply.Fed false) refl
by owner run bytes s Coming = obeys_reply (Call.Feed owner run bytes) s (Reply.Fed false) refl
by owner run bytes s Live =
    obeys_apart (Call.Feed owner run bytes) s (Reply.Fed true) (feed_process owner bytes) (λ h. refl)
    (λ sound. tells_apart (λ s. change_process owner (feed bytes s.clock) s) (λ s. refl)
    (λ s fit. (fit.0, fit.1, fit.2, all_changed owner (feed bytes s.clock) (λ p h. coded_feed bytes s.clock p h) s.processes fit.3, fit.4, fit.5)))

pub feed_obeys : (owner : Owner) (run : ℕ) (bytes : List ℕ) (connection : ℕ) (s : State) → Obeys (Call.Feed owner run bytes) s (outcome_of (Call.Feed owner run bytes) connection s)
feed_obeys owner run bytes connection s = by owner run bytes s (run_state owner run s)

-- ---- the end of the input

tells_end : {n : ℕ} {P : FoldRow → Container → Type 0} (owner : Owner) → Tells n P (end_input owner) P
tells_end owner =
    tells_apart (λ s. change_process owner (feed_end s.clock) s) (λ s. refl)
    (λ s fit. (fit.0, fit.1, fit.2, all_changed owner (feed_end s.clock) (λ p h. coded_feed_end s.clock p h) s.processes fit.3, fit.4, fit.5))

tells_if : (b : Bool) (owner : Owner) → Tells 0 Same (ends_if b owner) Same
tells_if true owner = tells_end owner
tells_if false owner = tells_still

tells_of : (o : Option Container) (owner : Owner) → Tells 0 Same (ends_with o owner) Same
tells_of None owner = tells_still
tells_of (Some c) owner = tells_if c.life.stdin_once owner

tells_owner : (owner : Owner) → Tells 0 Same (end_by_owner owner) Same
tells_owner (OfExec n) = tells_end (OfExec n)
tells_owner (OfContainer n) = tells_at (λ s. ends_with (container_numbered n s) (OfContainer n)) (λ s. tells_of (container_numbered n s) (OfContainer n))

ends_by : (owner : Owner) (run : ℕ) (s : State) (r : RunState) → Obeys (Call.FeedEnd owner run) s (feed_end_by r owner s)
ends_by owner run s Over = obeys_reply (Call.FeedEnd owner run) s (Reply.Fed false) refl
ends_by owner run s Coming = obeys_reply (Call.FeedEnd owner run) s (Reply.Fed false) refl
ends_by owner run s Live =
    obeys_apart (Call.FeedEnd owner run) s (Reply.Fed true) (end_by_owner owner) (λ h. refl) (λ sound. tells_owner owner)

pub feed_end_obeys : (owner : Owner) (run connection : ℕ) (s : State) → Obeys (Call.FeedEnd owner run) s (outcome_of (Call.FeedEnd owner run) connection s)
feed_end_obeys owner run connection s = ends_by owner run s (run_state owner run s)
