-- The lines of events, told one after the other.
use Rattle.std.proofs.Common.{◌≡◌, ◌≤◌, ◌+◌, ℕ, zero, suc, true, false, List, [], ◌∷◌, ◌++◌, Option, refl, sym, ◌∙◌, ap, append_assoc, append-nil, arith, length, take, drop}
use Rattle.std.specs.Prelude.{filter}
use Rattle.std.specs.List.{flat_map}
use Rattle.std.proofs.lemmas.Grind.{flat_map-append}
use Rattle.std.proofs.lemmas.List.Elements.{filter-append}
use Rattle.api_json.specs.Event.{event_line_text}
use Rattle.engine_text.specs.declared.event.Event.{Event}
use Rattle.engine_text.specs.declared.filter.FilterRow.{FilterRow}
use Rattle.machine_model.specs.EventLines.{is_told, lines_of}

-- ---- two lists of events

pub lines_append : (filters : List FilterRow) (until : Option ℕ) (es vs : List Event)
    → lines_of filters until (es ++ vs) ≡ lines_of filters until es ++ lines_of filters until vs
lines_append filters until es vs =
    ap (flat_map event_line_text) (filter-append (is_told filters until) es vs)
    ∙ flat_map-append event_line_text (filter (is_told filters until) es) (filter (is_told filters until) vs)

-- ---- one event

-- it is told
pub line_told : (filters : List FilterRow) (until : Option ℕ) (e : Event) → is_told filters until e ≡ true
    → lines_of filters until (e ∷ []) ≡ event_line_text e
line_told filters until e is = rw is (append-nil (event_line_text e))

-- it isn't
pub line_untold : (filters : List FilterRow) (until : Option ℕ) (e : Event) → is_told filters until e ≡ false → lines_of filters until (e ∷ []) ≡ []
line_untold filters until e is = rw is refl

-- ---- one event more

taken_more : {A : Type 0} (n : ℕ) (xs : List A) (x : A) (rest : List A) → drop n xs ≡ x ∷ rest
    → (take (suc n) xs ≡ take n xs ++ x ∷ []) × (drop (suc n) xs ≡ rest)
taken_more zero [] x rest is = let never : ⊥ = cc in absurd never
taken_more zero (y ∷ ys) x rest is = (cc, cc)
taken_more (suc n) [] x rest is = let never : ⊥ = cc in absurd never
taken_more (suc n) (y ∷ ys) x rest is = let more = taken_more n ys x rest is in (ap (λ l. y ∷ l) more.0, more.1)

-- the lines of the first n, and of the next one
pub lines_more : (filters : List FilterRow) (until : Option ℕ) (events : List Event) (n : ℕ) (e : Event) (rest : List Event) (old out out' : List ℕ)
    → drop n events ≡ e ∷ rest → out ≡ old ++ lines_of filters until (take n events) → out' ≡ out ++ lines_of filters until (e ∷ [])
    → (drop (n + 1) events ≡ rest) × (out' ≡ old ++ lines_of filters until (take (n + 1) events))
lines_more filters until events n e rest old out out' is told more =
    let next = taken_more n events e rest is in
    let at : suc n ≡ n + 1 = omega arith in (
      ap (λ m. drop m events) (sym at) ∙ next.1,
      more ∙ ap (λ y. y ++ lines_of filters until (e ∷ [])) told
          ∙ append_assoc old (lines_of filters until (take n events)) (lines_of filters until (e ∷ []))
          ∙ ap (λ y. old ++ y) (sym (lines_append filters until (take n events) (e ∷ []))
          ∙ ap (lines_of filters until) (sym next.0 ∙ ap (λ m. take m events) at)),
    )

-- so many of them there are
pub some_more : (n : ℕ) (events : List Event) (e : Event) (rest : List Event) → drop n events ≡ e ∷ rest → n + 1 ≤ length events
some_more zero [] e rest is = let never : ⊥ = cc in absurd never
some_more zero (v ∷ events) e rest is = omega arith
some_more (suc n) [] e rest is = let never : ⊥ = cc in absurd never
some_more (suc n) (v ∷ events) e rest is = let more = some_more n events e rest is in omega (arith, more)
