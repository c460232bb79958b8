-- A target's path and query, and the path's segments, read back (RFC 3986, section 3.3; RFC 9112, section 3.2.1).
use Rattle.std.proofs.Common.{◌≡◌, ◌≢◌, ℕ, false, List, [], ◌∷◌, ◌++◌, map, All, ◌==◌, refl, ap, ◌∙◌, append-nil, arith}
use Rattle.std.proofs.lemmas.Bool.{ne_eqb}
use Rattle.std.proofs.lemmas.List.Elements.{All-nil, All-cons, All-append, All-weaker}
use Rattle.std.proofs.lemmas.List.Splits.{slice_split_none, slice_split_at}
use Rattle.form_urlencoded.proofs.FormLemmas.{split_once_before_at, split_once_after_at, split_once_before_none, split_once_after_none}
use Rattle.route_laws.specs.Segments.{pieces, segments}
use Rattle.api_routes.specs.Path.{path_of, query_of}
use Rattle.client_model.specs.Requests.{path_text, query_text, Query}
use Rattle.client_laws.proofs.EscapeLemmas.{escaped, IsInside, escaped-inside}
use Rattle.client_laws.proofs.FormLemmas.{form}

abbrev IsNoSlash : ℕ → Type 0
IsNoSlash b = (b == 47) ≡ false

no-slash : (b : ℕ) → IsInside b → IsNoSlash b
no-slash b inside = ne_eqb b 47 inside.0

-- ---- segments

pieces-path : (s : List ℕ) (path : List (List ℕ)) → All IsNoSlash s → pieces (s ++ path_text path) ≡ s ∷ map escaped path
pieces-path s [] none = ap pieces (append-nil s) ∙ slice_split_none (λ b. b == 47) s none
pieces-path s (t ∷ path) none =
    slice_split_at (λ b. b == 47) s 47 (escaped t ++ path_text path) none refl
    ∙ ap (λ x. s ∷ x) (pieces-path (escaped t) path (All-weaker IsInside IsNoSlash no-slash (escaped t) (escaped-inside t)))

-- the first segment and those behind it, each escaped
pub path-segments : (s : List ℕ) (path : List (List ℕ)) → segments (path_text (s ∷ path)) ≡ map escaped (s ∷ path)
path-segments s path = pieces-path (escaped s) path (All-weaker IsInside IsNoSlash no-slash (escaped s) (escaped-inside s))

-- ---- path and query

abbrev IsNoMark : ℕ → Type 0
IsNoMark b = b ≢ 63

path-no-mark : (path : List (List ℕ)) → All IsNoMark (path_text path)
path-no-mark [] = All-nil IsNoMark
path-no-mark (s ∷ path) =
    All-cons IsNoMark 47 (escaped s ++ path_text path) (λ e. omega arith)
    (All-append IsNoMark (escaped s) (path_text path) (All-weaker IsInside IsNoMark (λ b inside. inside.1) (escaped s) (escaped-inside s)) (path-no-mark path))

pub target-path : (path : List (List ℕ)) (query : Query) → path_of (path_text path ++ query_text query) ≡ path_text path
target-path path [] = ap path_of (append-nil (path_text path)) ∙ split_once_before_none 63 (path_text path) (path-no-mark path)
target-path path (pair ∷ query) = split_once_before_at 63 (path_text path) (form (pair ∷ query)) (path-no-mark path)

pub target-query : (path : List (List ℕ)) (query : Query) → query_of (path_text path ++ query_text query) ≡ form query
target-query path [] = ap query_of (append-nil (path_text path)) ∙ split_once_after_none 63 (path_text path) (path-no-mark path)
target-query path (pair ∷ query) = split_once_after_at 63 (path_text path) (form (pair ∷ query)) (path-no-mark path)
