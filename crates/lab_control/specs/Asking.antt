-- Which request asks control for what (own; the parts of a target: RFC 9112, section 3.2.1).
use Rattle.std.specs.Prelude.{ℕ, List, Bool, ◌==◌, ◌&&◌, leb, length, if◌then◌else◌, Option, Some, None, codes}
use Rattle.std.specs.Char.{is_ascii_digit}
use Rattle.std.specs.List.{before_first, after_first, list_all}
use Rattle.std.specs.Str.{bytes_eq}
use Rattle.std.specs.Str.Parse.{digits_value}
use Rattle.http_edge.specs.Message.{Request}
use Rattle.lab_control.specs.declared.asking.Move.TheVariants.{To, By}
use Rattle.lab_control.specs.declared.asking.Asked.{Asked}
use Rattle.lab_control.specs.declared.asking.Asked.TheVariants.{Moment, Move, NoMove, Journal, Description, Stop, Other}

-- ---- moves

-- one to 13 decimal digits
abbrev pub is_number : List ℕ → Bool
is_number word = leb 1 (length word) && leb (length word) 13 && list_all is_ascii_digit word

-- the number that they write
abbrev pub number_in : List ℕ → Option ℕ
number_in word = if is_number word then Some (digits_value 10 word) else None

-- the move by a key and the number behind it
abbrev pub move_by : List ℕ → Option ℕ → Asked
move_by key None = NoMove
move_by key (Some ms) =
    if bytes_eq key (codes "to") then Move (To ms)
    else if bytes_eq key (codes "by") then Move (By ms)
    else NoMove

-- `to=MS` or `by=MS`, cut at the first equals sign, and nothing beside it
abbrev pub move_in : List ℕ → Asked
move_in query = move_by (before_first (λ b. b == 61) query) (number_in (after_first (λ b. b == 61) query))

-- ---- the table

-- the method and the path are these
abbrev pub is_row : List ℕ → List ℕ → List ℕ → List ℕ → Bool
is_row method path row_method row_path = bytes_eq method row_method && bytes_eq path row_path

-- only a move of the clock has a query that is read
abbrev pub asked_by : List ℕ → List ℕ → List ℕ → Asked
asked_by method path query =
    if is_row method path (codes "GET") (codes "/clock") then Moment
    else if is_row method path (codes "POST") (codes "/clock") then move_in query
    else if is_row method path (codes "GET") (codes "/journal") then Journal
    else if is_row method path (codes "GET") (codes "/openapi.yaml") then Description
    else if is_row method path (codes "POST") (codes "/stop") then Stop
    else Other

-- by its method and its target, cut at the first question mark
abbrev pub asked_of : Request → Asked
asked_of request =
    asked_by request.method (before_first (λ b. b == 63) request.target) (after_first (λ b. b == 63) request.target)
