-- What a step of a front says, which reads and writes nothing (own).
use Rattle.std.specs.Prelude.{ℕ, ◌≡◌, ◌<◌, ◌≤◌, ◌⊎◌, ◌+◌, ◌-◌, List, [], ◌∷◌, ◌++◌, length, take, map}
use Rattle.httparse.specs.Spans.{header_bytes}
use Rattle.httparse.specs.declared.spans.HeaderSpan.{HeaderSpan}
use Rattle.httparse.specs.declared.spans.RequestSpans.{RequestSpans}
use Rattle.http_edge.specs.Limits.{head_limit}
use Rattle.http_edge.specs.Message.{Request}
use Rattle.http_edge.specs.Framing.{framing_of}
use Rattle.http_edge.specs.Spelling.{Begins, HasNoRequest}
use Rattle.http_edge.specs.Outcome.{request_at}
use Rattle.json_answer.specs.Answer.{terms_of, json_answer}
use Rattle.json_answer.specs.declared.asking.Terms.{Terms}
use Rattle.lab_front.specs.Texts.{status_of, text_of}
use Rattle.lab_front.specs.declared.table.Row.{Row}
use Rattle.front_session.specs.Ways.{way_framed, way_of}
use Rattle.front_session.specs.Fronts.{Writes, handing}
use Rattle.front_session.specs.Front.{Front, DoesStill, Does}
use Rattle.front_session.specs.declared.choosing.Way.{Way}
use Rattle.front_session.specs.declared.choosing.Way.TheVariants.{Answered, Closes}
use Rattle.front_session.specs.declared.standing.Stage.{Stage}
use Rattle.front_session.specs.declared.standing.Stage.TheVariants.{Within, Open, Closed, Ended, Lost}
use Rattle.front_session.specs.declared.stepping.Act.{Act}
use Rattle.front_session.specs.declared.stepping.Act.TheVariants as act

-- an answer of the table
abbrev pub row_answer : Terms → Row → List ℕ
row_answer terms row = json_answer terms (status_of row) (text_of row)

-- it stands at no end, and has lost no answer, where it hadn't
abbrev pub AddsNoEnd : Front → Front → Type 0
AddsNoEnd old new = (new.stage ≡ Ended → old.stage ≡ Ended) × (new.stage ≡ Lost → old.stage ≡ Lost)

-- nor does it stand there at all
abbrev pub StaysOpen : Front → Type 0
StaysOpen f = (f.stage ≡ Ended → ⊥) × (f.stage ≡ Lost → ⊥)

-- a request that the front answers by this row
abbrev pub IsAnsweredBy : Way → Row → Type 0
IsAnsweredBy way row = (way ≡ Answered row) ⊎ (way ≡ Closes row)

-- so many bytes may be handed on as they come
abbrev pub MayPass : ℕ → Stage → Type 0
MayPass size (Within left) = size ≤ left
MayPass size Open = Unit {0}
MayPass size stage = ⊥

-- bytes were handed on; a request was taken, and is to be answered; so many bytes are handed on as they come; so many are wanted
-- before a request is whole; the front goes on; nothing more comes; or an answer was lost
abbrev pub Steps : Act → List ℕ → Front → Front → Type 0
Steps (act.Gave n) into old new =
    (0 < n) × (n ≤ length into) × Does old (handing (take n into)) new × AddsNoEnd old new
Steps (act.Answers terms row) into old new =
    Does old (Writes (row_answer terms row) ∷ []) new × StaysOpen new
    × (request : Request) × (behind : List ℕ) × Begins old.ahead request behind × IsAnsweredBy (way_of request) row × (terms ≡ terms_of request)
Steps (act.Passes size) into old new =
    (new ≡ old) × (0 < size) × (size ≤ length into) × (old.owed ≡ []) × (old.ahead ≡ []) × MayPass size old.stage
Steps (act.Wants size) into old new =
    (new ≡ old) × (0 < size) × (size ≤ length into) × (length old.ahead + size ≤ head_limit) × (old.owed ≡ []) × (old.stage ≡ Within 0)
    × HasNoRequest old.ahead
Steps act.On into old new = Does old [] new × StaysOpen new
Steps act.Ended into old new = (new ≡ old) × ((old.stage ≡ Ended) ⊎ (old.stage ≡ Closed)) × DoesStill old [] []
Steps act.Lost into old new = (new ≡ old) × (old.stage ≡ Lost)

-- where it stands behind so many bytes that were handed on as they came
abbrev pub stage_behind : ℕ → Stage → Stage
stage_behind count (Within left) = Within (left - count)
stage_behind count stage = stage

-- the request of a head that stands at these places, by itself: what it asks of its answer, and how it is treated
abbrev pub Treats : List ℕ → List HeaderSpan → RequestSpans → Terms × Way → Type 0
Treats bytes spans found treated =
    let request : Request = request_at (take found.len bytes) spans found [] in
    (treated.0 ≡ terms_of request)
    × (treated.1 ≡ way_framed (framing_of found.version (map (header_bytes bytes) (take found.headers spans))) request)

-- at most so many bytes are handed on: of those ahead, or, where none is, as they come
abbrev pub Hands : ℕ → Act → List ℕ → List ℕ → List ℕ → Type 0
Hands most (act.Gave n) into before after = (0 < n) × (n ≤ length into) × (n ≤ most) × (before ≡ take n into ++ after)
Hands most (act.Passes size) into before after =
    (0 < size) × (size ≤ length into) × (size ≤ most) × (before ≡ []) × (after ≡ [])
Hands most other into before after = ⊥

-- a step that leaves the place as it is, which has so many bytes
abbrev pub StepsBy : Act → ℕ → Front → Front → Type 0
StepsBy did size old new = (into : List ℕ) → length into ≡ size → Steps did into old new
