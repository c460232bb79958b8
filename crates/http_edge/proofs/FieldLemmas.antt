use Rattle.std.proofs.Common.{arith, ◌≡◌, ◌<◌, ℕ, List, [], ◌∷◌, length, ◌+◌, ◌++◌, take, map, get_or, sym, ap, subst, ◌∙◌, Bool, true, false, cond}
use Rattle.std.specs.Prelude.{filter}
use Rattle.std.specs.Char.{to_ascii_lowercase}
use Rattle.std.specs.Str.{str_eq_ignore_ascii_case}
use Rattle.std.proofs.lemmas.List.{take_more, map-append, append-nil}
use Rattle.std.proofs.lemmas.List.Elements.{filter-append}
use Rattle.std.proofs.lemmas.Slice.Eq.{bytes_eq-Decides}
use Rattle.httparse.specs.Spans.{header_bytes, span_bytes}
use Rattle.httparse.specs.declared.spans.HeaderSpan.{HeaderSpan}
use Rattle.http_edge.specs.Fields.{Counts}
use Rattle.http_edge.specs.declared.fields.Occurrences.{Occurrences}
use Rattle.http_edge.specs.Message.{Header, is_named, values_named}

of_one : (b : Bool) (f : Header) → map (λ (x : Header). x.1) (cond b (f ∷ []) []) ≡ cond b (f.1 ∷ []) []
of_one true f = λ i. f.1 ∷ []
of_one false f = λ i. []

-- one field more
values_push : (name : List ℕ) (fs : List Header) (f : Header)
    → values_named name (fs ++ f ∷ []) ≡ values_named name fs ++ cond (is_named name f) (f.1 ∷ []) []
values_push name fs f =
    ap (map (λ (x : Header). x.1)) (filter-append (is_named name) fs (f ∷ []))
    ∙ map-append (λ (x : Header). x.1) (filter (is_named name) fs) (filter (is_named name) (f ∷ []))
    ∙ ap (λ l. values_named name fs ++ l) (of_one (is_named name f) f)

values_more : (name buffer : List ℕ) (fields : List HeaderSpan) (i : ℕ) (d : HeaderSpan) → i < length fields
    → values_named name (map (header_bytes buffer) (take (i + 1) fields))
    ≡ values_named name (map (header_bytes buffer) (take i fields)) ++ cond (is_named name (header_bytes buffer (get_or fields i d))) (span_bytes buffer (get_or fields i d).value ∷ []) []
values_more name buffer fields i d lt =
    ap (λ l. values_named name (map (header_bytes buffer) l)) (take_more fields i d lt)
    ∙ ap (values_named name) (map-append (header_bytes buffer) (take i fields) (get_or fields i d ∷ []))
    ∙ values_push name (map (header_bytes buffer) (take i fields)) (header_bytes buffer (get_or fields i d))

pub same_name : (a b name : List ℕ) → b ≡ a → map to_ascii_lowercase b ≡ map to_ascii_lowercase name → str_eq_ignore_ascii_case a name ≡ true
same_name a b name e same = (bytes_eq-Decides (map to_ascii_lowercase a) (map to_ascii_lowercase name)).1 (ap (map to_ascii_lowercase) (sym e) ∙ same)

pub other_name : (a b name : List ℕ) → b ≡ a → (map to_ascii_lowercase b ≡ map to_ascii_lowercase name → ⊥) → str_eq_ignore_ascii_case a name ≡ false
other_name a b name e other = grind (arith, bytes_eq-Decides (map to_ascii_lowercase a) (map to_ascii_lowercase name), e, other)

-- a field of the name adds its value, and another field nothing
pub counts_named : (name buffer : List ℕ) (fields : List HeaderSpan) (i : ℕ) (d : HeaderSpan) (found : Occurrences) → i < length fields
    → is_named name (header_bytes buffer (get_or fields i d)) ≡ true
    → Counts found (values_named name (map (header_bytes buffer) (take i fields)) ++ span_bytes buffer (get_or fields i d).value ∷ [])
    → Counts found (values_named name (map (header_bytes buffer) (take (i + 1) fields)))
counts_named name buffer fields i d found lt is counts =
    let e = values_more name buffer fields i d lt ∙ ap (λ b. values_named name (map (header_bytes buffer) (take i fields)) ++ cond b (span_bytes buffer (get_or fields i d).value ∷ []) []) is in
    subst (Counts found) (sym e) counts

pub counts_other : (name buffer : List ℕ) (fields : List HeaderSpan) (i : ℕ) (d : HeaderSpan) (found : Occurrences) → i < length fields
    → is_named name (header_bytes buffer (get_or fields i d)) ≡ false
    → Counts found (values_named name (map (header_bytes buffer) (take i fields)))
    → Counts found (values_named name (map (header_bytes buffer) (take (i + 1) fields)))
counts_other name buffer fields i d found lt is counts =
    let e = values_more name buffer fields i d lt ∙ ap (λ b. values_named name (map (header_bytes buffer) (take i fields)) ++ cond b (span_bytes buffer (get_or fields i d).value ∷ []) []) is ∙ append-nil (values_named name (map (header_bytes buffer) (take i fields))) in
    subst (Counts found) (sym e) counts
