-- A list of containers with one item alone (Docker Engine API v1.43, ContainerList; RFC 8259; own: where an item begins and ends).
use Rattle.std.specs.Prelude.{ℕ, List, [], ◌∷◌, ◌++◌, ◌+◌, ◌-◌, Bool, true, false, ◌==◌, ◌&&◌, if◌then◌else◌, Option, Some, None, option_map, unwrap_or, length, take, drop, nat_eq, codes}
use Rattle.std.specs.List.{position_or_len, starts_with, ends_with}
use Rattle.lab_shown.specs.Shown.{place_in, close_in, answer_of}

-- what an item but the first begins with, which stands in no JSON text inside of another
unfoldable pub next_item : List ℕ
next_item = codes ",{\"Command\":\""

-- a place, where there is one
abbrev pub place_if : Bool → ℕ → Option ℕ
place_if here place = if here then Some place else None

-- the later of two places, of which the second is the later one
abbrev pub later_of : Option ℕ → Option ℕ → Option ℕ
later_of first None = first
later_of first (Some place) = Some place

-- where a text last stands in another
abbrev pub last_in : List ℕ → List ℕ → Option ℕ
last_in text [] = None
last_in text (b ∷ rest) =
    later_of (place_if (starts_with nat_eq (b ∷ rest) text) 0) (option_map (λ k. k + 1) (last_in text rest))

-- where the item begins in which a place lies: behind the last comma before it, or behind the bracket
abbrev pub begin_of : List ℕ → ℕ → ℕ
begin_of body place = unwrap_or (option_map (λ k. k + 1) (last_in next_item (take place body))) 1

-- how many bytes stand from there up to the item's end: up to the next comma, or up to the bracket
abbrev pub rest_of : List ℕ → ℕ → ℕ
rest_of body place = unwrap_or (place_in next_item (drop place body)) (length (drop place body) - 1)

abbrev pub item_at : List ℕ → ℕ → List ℕ
item_at body place = drop (begin_of body place) (take (place + rest_of body place) body)

-- the item in which a text first stands, or nothing
abbrev pub item_in : List ℕ → List ℕ → List ℕ
item_in text body = unwrap_or (option_map (item_at body) (place_in text body)) []

-- a list of this item alone, or of nothing
abbrev pub list_of : List ℕ → List ℕ
list_of item = codes "[" ++ (item ++ codes "]")

-- a list with the item alone in which a text first stands
abbrev pub listed : List ℕ → List ℕ → List ℕ
listed text body = list_of (item_in text body)

-- whether the connection closes, and the list, where a piece is such an answer: a list begins at the first bracket
abbrev pub list_in : List ℕ → Option (Bool × List ℕ)
list_in piece =
    let place : ℕ = position_or_len (λ b. b == 91) piece in
    option_map (λ close. (close, drop place piece)) (close_in (take place piece) 200 (length (drop place piece)))

-- an answer that is a list with this item alone, and another piece as it is
abbrev pub listed_in : List ℕ → List ℕ → List ℕ
listed_in text piece = unwrap_or (option_map (λ told. answer_of 200 told.0 (listed text told.1)) (list_in piece)) piece

-- ---- the item of a name

-- what stands in it, and in no other
abbrev pub text_of : List ℕ → List ℕ
text_of name = codes "\"Names\":[\"/" ++ (name ++ codes "\"]")

-- ---- a head by itself

-- the head of an answer of status 200
abbrev pub is_alone : List ℕ → Bool
is_alone piece = starts_with nat_eq piece (codes "HTTP/1.1 200 OK\r\n") && ends_with nat_eq piece (codes "\r\n\r\n")

abbrev pub stands : Option ℕ → Bool
stands None = false
stands (Some place) = true

-- whether the connection closes behind it
abbrev pub head_alone : List ℕ → Option Bool
head_alone piece = if is_alone piece then Some (stands (place_in (codes "\r\nConnection: close\r\n") piece)) else None
