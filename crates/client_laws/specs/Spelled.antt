-- What the client's requests are to a daemon (RFC 9112, sections 3 to 6: a request line, fields, and a body by its length).
use Rattle.std.specs.Prelude.{ℕ, ◌≤◌, ◌+◌, List, length, Option, All, sum_by}
use Rattle.http_edge.specs.Spelling.{Spells}
use Rattle.response_reader.specs.Answers.{Answer}
use Rattle.client_model.specs.Judgement.{Judgement}
use Rattle.client_model.specs.Requests.{request_bytes}
use Rattle.client_model.specs.Plans.{Asked}
use Rattle.client_model.specs.Client.{plan_for, said_by}

-- the most bytes of a line's words, with one more for each. own: with it each request is within a daemon's limits
abbrev pub words_limit : ℕ
words_limit = 4096

-- the words, with one byte more for each, have together at most so many bytes
abbrev pub IsShortLine : List (List ℕ) → Type 0
IsShortLine words = sum_by (λ word. length word + 1) words ≤ words_limit

-- the bytes of what is asked are one spelling of it
abbrev pub IsSpelled : Asked → Type 0
IsSpelled asked = Spells (request_bytes asked.request) asked.request

-- each request that a short line asks for, whatever the answers are, is spelled by its bytes
abbrev pub RequestsAreSpelled : Type 0
RequestsAreSpelled =
    (words : List (List ℕ)) (judgement : Option Judgement) (answers : List Answer) → IsShortLine words
    → All IsSpelled (said_by (plan_for words) judgement answers).asked
