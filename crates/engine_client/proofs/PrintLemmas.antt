-- Lines with their ends, and the plans that print them.
use Rattle.std.proofs.Common.{◌≡◌, ◌<◌, ◌≤◌, ℕ, ◌+◌, List, [], ◌∷◌, ◌++◌, length, take, get_or, refl, sym, ap, ◌∙◌, append-nil, append_assoc, codes}
use Rattle.std.proofs.lemmas.Grind.{flat_map-append}
use Rattle.std.proofs.lemmas.List.{take_more, take_all}
use Rattle.client_model.specs.Plans.{Ends, Done, to_out, prints, prints_all, ends, done}
use Rattle.engine_client.specs.Printing.{lines_text}

one_more : (lines : List (List ℕ)) (i : ℕ) (line text : List ℕ) → i < length lines → line ≡ get_or lines i line → text ≡ line
    → lines_text (take i lines) ++ (text ++ codes "\n") ≡ lines_text (take (i + 1) lines)
one_more lines i line text within at is =
    ap (λ t. lines_text (take i lines) ++ (t ++ codes "\n")) (is ∙ at)
    ∙ ap (λ t. lines_text (take i lines) ++ t) (sym (append-nil (get_or lines i line ++ codes "\n")))
    ∙ sym (flat_map-append (λ (l : List ℕ). l ++ codes "\n") (take i lines) (get_or lines i line ∷ []))
    ∙ ap lines_text (sym (take_more lines i line within))

pub line_more : (lines : List (List ℕ)) (i : ℕ) (line text so_far : List ℕ) → i < length lines → line ≡ get_or lines i line → text ≡ line
    → so_far ≡ lines_text (take i lines) → (so_far ++ text) ++ codes "\n" ≡ lines_text (take (i + 1) lines)
line_more lines i line text so_far within at is before =
    append_assoc so_far text (codes "\n") ∙ ap (λ l. l ++ (text ++ codes "\n")) before ∙ one_more lines i line text within at is

pub lines_all : (lines : List (List ℕ)) (i : ℕ) (text : List ℕ) → length lines ≤ i → text ≡ lines_text (take i lines) → text ≡ lines_text lines
lines_all lines i text all is = is ∙ ap lines_text (take_all i lines all)

-- ---- the plans that print them

pub prints_so : (line : List ℕ) → prints line done ≡ Ends (to_out (line ++ codes "\n")) (Done 0)
prints_so line = λ i. Ends (record { out = append-nil (line ++ codes "\n") i; err = [] }) (Done 0)

pub prints_all_so : (lines : List (List ℕ)) (status : ℕ) → prints_all lines (ends status) ≡ Ends (to_out (lines_text lines)) (Done status)
prints_all_so [] status = refl
prints_all_so (line ∷ lines) status = ap (prints line) (prints_all_so lines status)

pub line_written : (line text : List ℕ) → text ≡ line ++ codes "\n" → prints line done ≡ Ends (to_out text) (Done 0)
line_written line text is = prints_so line ∙ ap (λ t. Ends (to_out t) (Done 0)) (sym is)

pub lines_written : (lines : List (List ℕ)) (text : List ℕ) → text ≡ lines_text lines → prints_all lines done ≡ Ends (to_out text) (Done 0)
lines_written lines text is = prints_all_so lines 0 ∙ ap (λ t. Ends (to_out t) (Done 0)) (sym is)
