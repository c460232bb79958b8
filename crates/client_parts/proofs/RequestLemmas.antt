-- A request, piece by piece.
use Rattle.std.proofs.Common.{◌≡◌, sym, ap, ◌∙◌, ℕ, ◌<◌, List, [], ◌∷◌, ◌++◌, length, take, map, flat_map, codes, decimal, ◌≤◌, append_assoc, arith}
use Rattle.std.proofs.lemmas.List.{take_all}
use Rattle.std.proofs.lemmas.Grind.{flat_map-append}
use Rattle.std.proofs.lemmas.List.Folds.{flat_map-map}
use Rattle.client_model.specs.Requests.{Query, path_text, query_text, request_bytes, request_of, manner_fields, body_fields, field_line}
use Rattle.client_model.specs.declared.manner.Manner.{Manner}
use Rattle.client_parts.specs.Heads.{behind_target, segment_text}
use denote.Ref.{Bor}

-- all segments are the path
pub all_segments : (before : List ℕ) (path : List (Bor (List ℕ))) (i : ℕ) → length path ≤ i
    → before ++ flat_map (λ s. segment_text s.now) (take i path) ≡ before ++ path_text (map (λ s. s.now) path)
all_segments before path i all =
    ap (λ t. before ++ t) (ap (flat_map (λ s. segment_text s.now)) (take_all i path all) ∙ sym (flat_map-map segment_text (λ (s : Bor (List ℕ)). s.now) path))

sized_joined : (o a d r t : List ℕ) → ((o ++ a) ++ d) ++ (r ++ t) ≡ o ++ (((a ++ d) ++ r) ++ t)
sized_joined o a d r t = simp append_assoc

-- the fields of a body that isn't empty
pub body_spelled : (before body : List ℕ) → 0 < length body
    → ((before ++ codes "Content-Length: ") ++ decimal (length body)) ++ codes "\r\nContent-Type: application/json\r\n"
    ≡ before ++ flat_map field_line (body_fields body)
body_spelled before [] some = absurd (omega arith)
body_spelled before (b ∷ body) some =
    sized_joined before (codes "Content-Length: ") (decimal (length (b ∷ body))) (codes "\r\n") (codes "Content-Type: application/json\r\n")

-- ---- pieces added one after the other

-- another name for a piece
pub added_as : (x o a a' : List ℕ) → x ≡ o ++ a → a ≡ a' → x ≡ o ++ a'
added_as x o a a' e is = e ∙ ap (λ t. o ++ t) is

pub added_3 : (o a b c x y z : List ℕ) → x ≡ o ++ a → y ≡ x ++ b → z ≡ y ++ c → z ≡ ((o ++ a) ++ b) ++ c
added_3 o a b c x y z e f g = g ∙ ap (λ t. t ++ c) (f ∙ ap (λ t. t ++ b) e)

pub added_8 : (a b c d e f g h w s t u v x y z r : List ℕ)
    → w ≡ [] → s ≡ w ++ a → t ≡ s ++ b → u ≡ t ++ c → v ≡ u ++ d → x ≡ v ++ e → y ≡ x ++ f → z ≡ y ++ g → r ≡ z ++ h
    → r ≡ ((((((a ++ b) ++ c) ++ d) ++ e) ++ f) ++ g) ++ h
added_8 a b c d e f g h w s t u v x y z r i j k l m n o p q =
    q ∙ ap (λ z. z ++ h) (p ∙ ap (λ z. z ++ g) (o ∙ ap (λ z. z ++ f) (n ∙ ap (λ z. z ++ e) (m ∙ ap (λ z. z ++ d)
    (l ∙ ap (λ z. z ++ c) (k ∙ ap (λ z. z ++ b) (j ∙ ap (λ z. z ++ a) i)))))))

-- the pieces make the request
joined : (m s v p q h f g e b : List ℕ)
    → ((((((m ++ (s ++ v)) ++ p) ++ q) ++ (h ++ f)) ++ g) ++ e) ++ b ≡ (((((m ++ s) ++ ((v ++ p) ++ q)) ++ h) ++ (f ++ g)) ++ e) ++ b
joined m s v p q h f g e b = simp append_assoc

pub spelled : (method : List ℕ) (manner : Manner) (path : List (List ℕ)) (query : Query) (body : List ℕ)
    → ((((((method ++ codes " /v1.43") ++ path_text path) ++ query_text query) ++ behind_target manner) ++ flat_map field_line (body_fields body)) ++ codes "\r\n") ++ body
    ≡ request_bytes (request_of method manner path query body)
spelled method manner path query body =
    let fields = (codes "Host", codes "engine") ∷ manner_fields manner in
    let version = codes " HTTP/1.1\r\n" in
    joined method (codes " ") (codes "/v1.43") (path_text path) (query_text query) version (flat_map field_line fields) (flat_map field_line (body_fields body)) (codes "\r\n") body
    ∙ ap (λ fs. ((((method ++ codes " ") ++ ((codes "/v1.43" ++ path_text path) ++ query_text query)) ++ version) ++ fs) ++ codes "\r\n" ++ body)
    (sym (flat_map-append field_line fields (body_fields body)))
