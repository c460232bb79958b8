-- The heads of answers, for the code that tells answers apart (own).
use Rattle.std.specs.Prelude.{ℕ, Bool, false, if◌then◌else◌, List, ◌++◌, codes}
use Rattle.http_edge.specs.Response.{first_lines}
use Rattle.http_edge.specs.declared.head.Head.{Head}
use Rattle.http_edge.specs.declared.head.Form.{Form}
use Rattle.http_edge.specs.declared.head.Form.TheVariants.{Empty, Json}
use Rattle.response_reader.specs.Heads.{is_bare}

-- the form of an answer with a body of that length, where its status has one
abbrev pub form_by : Bool → ℕ → Form
form_by bare size = if bare then Empty else Json size

-- the head of an answer
abbrev pub head_by : ℕ → ℕ → Head
head_by status size = record { status = status; form = form_by (is_bare status) size; close = false }

-- what stands before the length in a head that tells one
abbrev pub before_length : ℕ → List ℕ
before_length status = first_lines status false ++ codes "Content-Length: "
