-- An answer to an inspect of a container as it is shown (RFC 9112, section 4; RFC 8259; own: where its members are put in).
use Rattle.std.specs.Prelude.{ℕ, List, [], ◌∷◌, ◌++◌, ◌+◌, Bool, true, false, ◌==◌, if◌then◌else◌, Option, Some, None, option_map, option_and_then, unwrap_or, length, take, drop, nat_eq}
use Rattle.std.specs.List.{position_or_len, starts_with}
use Rattle.std.specs.Str.{bytes_eq}
use Rattle.http_edge.specs.Response.{head_text}
use Rattle.http_edge.specs.declared.head.Head.{Head}
use Rattle.http_edge.specs.declared.head.Form.TheVariants.{Json}
use Rattle.lab_shown.specs.Texts.{own_members, host_key, host_members}

-- where a text first stands in another
abbrev pub place_in : List ℕ → List ℕ → Option ℕ
place_in text [] = None
place_in text (b ∷ rest) =
    if starts_with nat_eq (b ∷ rest) text then Some 0 else option_map (λ k. k + 1) (place_in text rest)

-- the head of a JSON answer of this status and length, and such an answer with this body
abbrev pub head_by : ℕ → ℕ → Bool → Head
head_by status size close = record { status = status; form = Json size; close = close }

abbrev pub answer_of : ℕ → Bool → List ℕ → List ℕ
answer_of status close body = head_text (head_by status (length body) close) ++ body

abbrev pub is_head : List ℕ → ℕ → ℕ → Bool → Bool
is_head head status size close = bytes_eq head (head_text (head_by status size close))

-- whether the connection closes behind the answer with this head, where it is one
abbrev pub close_in : List ℕ → ℕ → ℕ → Option Bool
close_in head status size =
    if is_head head status size false then Some false
    else if is_head head status size true then Some true
    else None

-- a body with more members, by what stands between its first brace and the key of the host's settings, and behind that
abbrev pub more : List ℕ → List ℕ → List ℕ
more before behind = own_members ++ (before ++ (host_key ++ (host_members ++ behind)))

-- a body with that key, with more members
abbrev pub more_in : List ℕ → Option (List ℕ)
more_in body =
    option_map (λ place. more (drop 1 (take place body)) (drop (place + length host_key) body)) (place_in host_key body)

-- an answer of this head and body, with more members, where it is one to an inspect
abbrev pub shown_behind : List ℕ → List ℕ → Option (List ℕ)
shown_behind head body = option_and_then (λ close. option_map (answer_of 200 close) (more_in body)) (close_in head 200 (length body))

-- an answer to an inspect with more members, and another piece as it is: a body begins at the first brace
abbrev pub shown : List ℕ → List ℕ
shown piece =
    unwrap_or
    (shown_behind (take (position_or_len (λ b. b == 123) piece) piece) (drop (position_or_len (λ b. b == 123) piece) piece))
    piece
