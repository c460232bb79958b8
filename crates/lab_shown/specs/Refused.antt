-- Refusals as tools read them (Docker Engine API v1.43, ContainerStart and VolumeDelete; the docker command line, which ends a run with 127 where
-- its start is refused by a text with `executable file not found` in it; own: which answers these are, by their texts).
use Rattle.std.specs.Prelude.{ℕ, List, ◌++◌, ◌-◌, Bool, ◌==◌, ◌&&◌, if◌then◌else◌, Option, Some, None, option_map, option_and_then, unwrap_or, length, take, drop, nat_eq, codes}
use Rattle.std.specs.List.{position_or_len, starts_with, ends_with}
use Rattle.http_edge.specs.Response.{head_text}
use Rattle.http_edge.specs.declared.head.Form.TheVariants.{Empty}
use Rattle.lab_shown.specs.Shown.{answer_of, close_in}

-- whether the connection closes, and the text of an answer of this status, where the piece is one: it begins at the first brace
abbrev pub body_in : ℕ → List ℕ → Option (Bool × List ℕ)
body_in status piece =
    let place : ℕ = position_or_len (λ b. b == 123) piece in
    option_map (λ close. (close, drop place piece)) (close_in (take place piece) status (length (drop place piece)))

-- an answer of this status as it is told, and another piece, or what isn't told otherwise, as it is
abbrev pub shown_as : ℕ → (Bool × List ℕ → Option (List ℕ)) → List ℕ → List ℕ
shown_as status tells piece = unwrap_or (option_and_then tells (body_in status piece)) piece

-- ---- a word that is no program's

-- what ends its text
unfoldable pub not_found : List ℕ
not_found = codes ": executable file not found in $PATH\"}"

-- its text without the end
abbrev pub word_in : List ℕ → Option (List ℕ)
word_in body =
    if starts_with nat_eq body (codes "{\"message\":\"unknown command: ") && ends_with nat_eq body (codes "\"}") then
    Some (take (length body - 2) body)
    else None

-- an answer of status 400 with such a text, as command lines read it
abbrev pub start_told : Bool × List ℕ → Option (List ℕ)
start_told told = option_map (λ front. answer_of 400 told.0 (front ++ not_found)) (word_in told.1)

-- ---- a volume that doesn't stand, removed with force

-- the text of a volume that doesn't stand
abbrev pub is_missing : List ℕ → Bool
is_missing body = starts_with nat_eq body (codes "{\"message\":\"get ") && ends_with nat_eq body (codes ": no such volume\"}")

-- an answer without a body
abbrev pub gone_text : Bool → List ℕ
gone_text close = head_text (record { status = 204; form = Empty; close = close })

-- an answer of status 404 with such a text, as tools read it: the volume is gone
abbrev pub removal_told : Bool × List ℕ → Option (List ℕ)
removal_told told = if is_missing told.1 then Some (gone_text told.0) else None
