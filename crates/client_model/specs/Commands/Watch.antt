-- `watch UNTIL` (own: what the events from the first on tell of each container; Docker Engine API v1.43, SystemEvents).
use Rattle.std.specs.Prelude.{ℕ, zero, suc, List, ◌++◌, map, codes, decimal, Bool, Option, Some, None, if◌then◌else◌}
use Rattle.engine_text.specs.declared.event.FoldRow.{FoldRow}
use Rattle.event_ring.specs.Fold.{fold_of}
use Rattle.response_reader.specs.Heads.{first_in}
use Rattle.client_model.specs.Words.{one_word}
use Rattle.client_model.specs.Plans.{Plan, fails, kept, asks_for, reads, prints_all, done}
use Rattle.client_model.specs.Streams.{events_in}
use Rattle.client_model.specs.Commands.Events.{events_request}
use Rattle.client_model.specs.declared.fault.Fault.TheVariants as F
use Rattle.client_model.specs.declared.command.Command.{Command}
use Rattle.client_model.specs.declared.command.Command.TheVariants as command

abbrev pub read_watch : List (List ℕ) → Option Command
read_watch = one_word command.Watch

abbrev pub live_word : Bool → List ℕ
live_word live = if live then codes "live" else codes "not-live"

abbrev pub paused_word : Bool → List ℕ
paused_word paused = if paused then codes "paused" else codes "not-paused"

-- `ID NAME live|not-live paused|not-paused CODE`
abbrev pub row_line : FoldRow → List ℕ
row_line r =
    r.id ++ codes " " ++ r.name ++ codes " " ++ live_word r.live ++ codes " " ++ paused_word r.paused ++ codes " "
    ++ decimal r.code

-- it prints a line of each container of which the events tell, by the number of their first
abbrev pub watched : Option ℕ → List ℕ → Bool → Plan
watched None body whole = fails F.Answer
watched (Some zero) body whole = reads events_in (λ es. prints_all (map row_line (fold_of es)) done) body whole
watched (Some (suc n)) body whole = fails F.EventsGone

abbrev pub watch_plan : List ℕ → Plan
watch_plan until = asks_for (kept (events_request (codes "0") until)) (λ h body whole. watched (first_in h.form) body whole)
