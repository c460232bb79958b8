-- The parts of a target (RFC 9112, section 3.2.1): its path, its query, and a segment's text (RFC 3986, section 2.1).
use Rattle.std.specs.Prelude.{ℕ, List, [], ◌∷◌, Bool, true, false, ◌&&◌, ◌==◌, if◌then◌else◌, Option, Some, None, Result, Ok, Err}
use Rattle.std.specs.List.{before_first, after_first}
use Rattle.std.specs.Char.{is_digit}
use Rattle.std.specs.Str.{is_utf8}
use Rattle.percent_encoding.specs.Percent.{percent_sign, percent_decode}
use Rattle.api_routes.specs.declared.fault.Fault.{Fault}
use Rattle.api_routes.specs.declared.fault.Fault.TheVariants.{BadPath}

-- `b'?'`
abbrev pub question_mark : ℕ
question_mark = 63

-- what stands before the first question mark
abbrev pub path_of : List ℕ → List ℕ
path_of target = before_first (λ b. b == question_mark) target

-- what stands behind it, if there is one
abbrev pub query_of : List ℕ → List ℕ
query_of target = after_first (λ b. b == question_mark) target

-- every percent sign begins an escape of two hexadecimal digits
unfoldable pub escapes_well : List ℕ → Bool
escapes_well [] = true
escapes_well (b ∷ []) = if b == percent_sign then false else true
escapes_well (b ∷ c ∷ []) = if b == percent_sign then false else escapes_well (c ∷ [])
escapes_well (b ∷ c ∷ d ∷ rest) =
    if b == percent_sign then is_digit c 16 && is_digit d 16 && escapes_well rest else escapes_well (c ∷ d ∷ rest)

-- the text that a segment stands for, if its escapes are well and it is a text
unfoldable pub segment_text : List ℕ → Result (List ℕ) Fault
segment_text segment =
    if escapes_well segment && is_utf8 (percent_decode segment) then Ok (percent_decode segment) else Err BadPath

abbrev pub second : List (List ℕ) → Option (List ℕ)
second [] = None
second (s ∷ []) = None
second (s ∷ t ∷ rest) = Some t

-- the text of a path's parameter, which is the second segment of every row that has one; a word of a row is its own text
abbrev pub parameter_in : Option (List ℕ) → Result (List ℕ) Fault
parameter_in None = Ok []
parameter_in (Some segment) = segment_text segment

abbrev pub parameter_of : List (List ℕ) → Result (List ℕ) Fault
parameter_of segments = parameter_in (second segments)
