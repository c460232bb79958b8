-- What the client's requests are for the daemon (own).
use Rattle.std.specs.Prelude.{ℕ, ◌≡◌, ◌⊎◌, List, [], ◌∷◌, ◌++◌, map, Option}
use Rattle.engine_text.specs.Words.{AreUtf8}
use Rattle.response_reader.specs.Answers.{Answer, TellsSoFar}
use Rattle.api_routes.specs.Class.{class_of}
use Rattle.client_model.specs.Judgement.{Judgement}
use Rattle.client_model.specs.Plans.{Asked}
use Rattle.client_model.specs.Client.{plan_for, said_by}
use Rattle.client_model.specs.Runs.{Outside, Exchange, AreAnswered, IsEnded, IsBrokenOff}
use Rattle.client_laws.specs.Table.{Entry, calls_for}

-- what is asked, as the daemon classifies it
abbrev pub entry_of : Asked → Entry
entry_of asked = record { class = class_of asked.request; input = asked.input }

abbrev pub entries_of : List Asked → List Entry
entries_of = map entry_of

-- The requests that a line asks are, as the daemon classifies them, and by what follows each, those of the table, in order, by
-- the line's words and by the answers before each; so there are as many as the table has up to the first answer that ends the
-- command.
abbrev pub AsksCalls : List (List ℕ) → Type 0
AsksCalls words = (judgement : Option Judgement) (answers : List Answer)
    → entries_of (said_by (plan_for words) judgement answers).asked ≡ calls_for words answers

-- so of all words that are texts
abbrev pub RequestsAreCalls : Type 0
RequestsAreCalls = (words : List (List ℕ)) → AreUtf8 words → AsksCalls words

-- ---- of one call of the client

-- one that came to its end asked the calls of the answers that its connections gave
abbrev pub EndsByCalls : List (List ℕ) → Type 0
EndsByCalls words = (status : ℕ) (o o' : Outside) (run : IsEnded words status o o')
    → entries_of run.said.asked ≡ calls_for words run.answers

-- each gave its answer to what was asked first
abbrev pub AreAnsweredFirst : List Exchange → List Asked → List Answer → Type 0
AreAnsweredFirst xs asked answers =
    (done : List Asked) × (more : List Asked) × (asked ≡ done ++ more) × AreAnswered xs done answers

-- each but the last did, and the last tells at least so much of one
abbrev pub AreToldSoFar : List Exchange → List Asked → List Answer → Type 0
AreToldSoFar xs asked answers =
    (before : List Exchange) × (last : Exchange) × (whole : List Answer) × (answer : Answer)
    × (xs ≡ before ++ last ∷ []) × (answers ≡ whole ++ answer ∷ [])
    × AreAnsweredFirst before asked whole × TellsSoFar last.given answer

-- and so did one that was broken off, as far as they had come
abbrev pub BreaksOffByCalls : List (List ℕ) → Type 0
BreaksOffByCalls words = (status : ℕ) (o o' : Outside) (run : IsBrokenOff words status o o')
    → (answers : List Answer)
    × (AreAnsweredFirst run.course.xs run.course.said.asked answers ⊎ AreToldSoFar run.course.xs run.course.said.asked answers)
    × (entries_of run.course.said.asked ≡ calls_for words answers)
