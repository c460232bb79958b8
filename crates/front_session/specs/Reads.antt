-- What a read of a front says (own).
use Rattle.std.specs.Prelude.{ℕ, ◌≡◌, ◌<◌, ◌≤◌, ◌⊎◌, List, [], ◌++◌, length, take, Option, Some, None, Err}
use Rattle.std.specs.List.{flat_map}
use Rattle.engine_ports.specs.Rose.{Rose}
use Rattle.engine_ports.specs.Source.{SourceView, SourceGave, SourceEnded}
use Rattle.engine_ports.specs.Sink.{SinkView, SinkTook, WriteSays}
use Rattle.engine_ports.specs.declared.ports.Failed.{Failed}
use Rattle.engine_ports.specs.declared.ports.Got.{Got}
use Rattle.engine_ports.specs.declared.ports.Got.TheVariants as got
use Rattle.http_edge.specs.Message.{Request}
use Rattle.http_edge.specs.Spelling.{Begins}
use Rattle.lab_front.specs.declared.table.Row.{Row}
use Rattle.front_session.specs.Ways.{way_of}
use Rattle.front_session.specs.Fronts.{Deed, handing, writing, answer_by}
use Rattle.front_session.specs.Front.{Front, DoesStill}
use Rattle.front_session.specs.Steps.{IsAnsweredBy}
use Rattle.front_session.specs.declared.standing.Stage.TheVariants.{Closed, Ended, Lost}

-- a front, and what its connection's source and sink tell
pub record Whole : Type 0 where
  pub source : SourceView
  pub sink : SinkView
  pub front : Front

abbrev pub whole : SourceView → SinkView → Front → Whole
whole source sink front = record { source = source; sink = sink; front = front }

-- answers, one after another
abbrev pub joined : List (List ℕ) → List ℕ
joined texts = flat_map (λ text. text) texts

-- These answers were written, and then these bytes handed on: whatever is still to come of the connection, the front still does the rest of
-- what it would have done. It stands at an end only where the source ended, and has lost an answer only where it had.
pub record Progress (old new : Whole) (texts : List (List ℕ)) (handed : List ℕ) : Type 0 where
  pub read : List ℕ
  pub gave : SourceGave old.source read new.source
  pub took : SinkTook old.sink (joined texts) new.sink
  pub does : (more : List ℕ) (later : List Deed) → DoesStill new.front more later
      → DoesStill old.front (read ++ more) (writing texts ++ (handing handed ++ later))
  pub ended : new.front.stage ≡ Ended → (old.front.stage ≡ Ended) ⊎ SourceEnded old.source new.source
  pub lost : new.front.stage ≡ Lost → old.front.stage ≡ Lost

-- some answers were written whole, and the one to the request behind them wasn't
pub record Loses (old new : Whole) : Type 0 where
  pub texts : List (List ℕ)
  pub mid : Whole
  pub before : Progress old mid texts []
  pub request : Request
  pub behind : List ℕ
  pub begins : Begins mid.front.ahead request behind
  pub row : Row
  pub way : IsAnsweredBy (way_of request) row
  pub fault : Failed
  pub broke : WriteSays (Err fault) (answer_by request row) mid.sink new.sink
  pub source : new.source ≡ mid.source
  pub stage : new.front.stage ≡ Lost

-- why a read fails: one of the connection's source did; an answer was lost; or one was lost before
pub data Fails (old new : Whole) : Type 0 where
  ReadFailed : (texts : List (List ℕ)) → Progress old new texts [] → Rose old.source.faults new.source.faults → Fails old new
  AnswerLost : Loses old new → Fails old new
  WasLost : old.front.stage ≡ Lost → new ≡ old → Fails old new

-- nothing more comes: the source had ended, or ended; or an answer closed the connection
abbrev pub HasEnded : Whole → Whole → Type 0
HasEnded old new = (old.front.stage ≡ Ended) ⊎ (SourceEnded old.source new.source ⊎ (new.front.stage ≡ Closed))

-- what a read of a front says: behind some answers bytes are handed on; or nothing more comes, and nothing is left to do; or it fails
abbrev pub FrontReads : Got → List ℕ → Whole → Whole → Type 0
FrontReads (got.Bytes n) into old new =
    (0 < n) × (n ≤ length into) × (texts : List (List ℕ)) × Progress old new texts (take n into)
FrontReads got.End into old new =
    HasEnded old new × DoesStill new.front [] [] × (texts : List (List ℕ)) × Progress old new texts []
FrontReads got.Failed into old new = Fails old new

-- what a part of it says: the read is over, or it goes on, and no answer was lost
abbrev pub GoesSo : Option Got → List ℕ → Whole → Whole → Type 0
GoesSo (Some over) into old new = FrontReads over into old new
GoesSo None into old new = (new.front.stage ≡ Lost → ⊥) × (texts : List (List ℕ)) × Progress old new texts []
