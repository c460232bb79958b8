-- Whether bytes begin with a head can be told, piece by piece.
use Rattle.std.proofs.Common.{arith, ◌≡◌, ◌<◌, ◌≤◌, ◌⊎◌, inl, inr, ℕ, zero, suc, List, [], ◌∷◌, ◌++◌, length, sym, ap, subst, refl, ◌∙◌, Bool, true, false, append_assoc, append-nil, length-append}
use Rattle.std.specs.Prelude.{IsUtf8}
use Rattle.std.specs.List.{flat_map}
use Rattle.std.specs.Str.{is_utf8}
use Rattle.std.proofs.lemmas.Bool.{cases_order, cases_Bool}
use Rattle.std.proofs.lemmas.Str.{IsUtf8-from_is_utf8, is_utf8-from_IsUtf8}
use Rattle.std.proofs.lemmas.List.Elements.{All-nil, All-cons, All-head, All-tail}
use Rattle.httparse.specs.Grammar.{is_token_byte, is_uri_byte, is_value_byte, AllPass, LineEnd, crlf, lf, print_end, print_blank, print_version, Field, IsField, print_field, RequestHead, ReadsRequest, HasNoRequest as HasNoHead}
use Rattle.httparse.specs.Pieces.{Piece, Begins, Then, Stops, is_newline, Newline, Blank, Word, Method, Target, Version, Text, FieldLine, Section, RequestStart}
use Rattle.httparse.proofs.PieceLemmas.{IsDeterministic, newline_not_stopped, print_end_unique, Blank_deterministic, Word_deterministic, Method_deterministic, Target_deterministic, Version_deterministic, Name_deterministic, RequestStart_deterministic, FieldLine_parts, Section_skip, Section_line, space_ends_token, colon_ends_token}
use Rattle.httparse.proofs.GrammarLemmas.{request_tree, request_head, request_pieces, request_from_pieces}
use Rattle.http_edge.proofs.RoomLemmas.{end_takes, field_takes}

-- whether the text begins with the piece can be told
abbrev pub IsTold : {A : Type 0} → Piece A → List ℕ → Type 0
IsTold {A} G text = Begins G text ⊎ ((a : A) (rest : List ℕ) → G a text rest → ⊥)

-- one piece and then another
pub then_told : {A B : Type 0} (G : Piece A) (H : Piece B) → IsDeterministic G → ((text : List ℕ) → IsTold G text) → ((text : List ℕ) → IsTold H text) → (text : List ℕ) → IsTold (Then G H) text
then_told {A} {B} G H det first second text = go (first text)
  where
    later : (a : A) (middle : List ℕ) → G a text middle → IsTold H middle → IsTold (Then G H) text
    later a middle g (inl h) = inl ((a, h.0), h.1, (middle, g, h.2))
    later a middle g (inr none) = inr (λ ab rest x. none ab.1 rest (subst (λ m. H ab.1 m rest) (det.unique ab.0 a text x.0 middle x.1 g).1 x.2))

    go : IsTold G text → IsTold (Then G H) text
    go (inl g) = later g.0 g.1 g.2 (second g.1)
    go (inr none) = inr (λ ab rest x. none ab.0 x.0 x.1)

-- given bytes at the front
abbrev pub HasFront : List ℕ → List ℕ → Type 0
HasFront front text = ((rest : List ℕ) × (text ≡ front ++ rest)) ⊎ ((rest : List ℕ) → text ≡ front ++ rest → ⊥)

front_more : (b c : ℕ) (front text : List ℕ) → b ≡ c → HasFront front text → HasFront (b ∷ front) (c ∷ text)
front_more b c front text same (inl x) = let e = x.1 in inl (x.0, cc)
front_more b c front text same (inr none) = inr (λ rest e. none rest (cc))

pub front_told : (front text : List ℕ) → HasFront front text
front_told [] text = inl (text, refl)
front_told (b ∷ front) [] = inr (λ rest e. cc)
front_told (b ∷ front) (c ∷ text) = go (cases_order b c) (front_told front text)
  where
    go : (b ≡ c) ⊎ ((b < c) ⊎ (c < b)) → HasFront front text → HasFront (b ∷ front) (c ∷ text)
    go (inl same) later = front_more b c front text same later
    go (inr (inl less)) later = inr (λ rest e. let same : c ≡ b = cc in omega arith)
    go (inr (inr more)) later = inr (λ rest e. let same : c ≡ b = cc in omega arith)

newline_told : (text : List ℕ) → IsTold Newline text
newline_told text = go (front_told (print_end crlf) text) (front_told (print_end lf) text)
  where
    neither : ((rest : List ℕ) → text ≡ print_end crlf ++ rest → ⊥) → ((rest : List ℕ) → text ≡ print_end lf ++ rest → ⊥) → (end : LineEnd) (rest : List ℕ) → Newline end text rest → ⊥
    neither m n crlf rest x = m rest x
    neither m n lf rest x = n rest x

    go : HasFront (print_end crlf) text → HasFront (print_end lf) text → IsTold Newline text
    go (inl x) other = inl (crlf, x.0, x.1)
    go (inr m) (inl x) = inl (lf, x.0, x.1)
    go (inr m) (inr n) = inr (neither m n)

version_told : (text : List ℕ) → IsTold Version text
version_told text = go (front_told (print_version 0) text) (front_told (print_version 1) text)
  where
    neither : ((rest : List ℕ) → text ≡ print_version 0 ++ rest → ⊥) → ((rest : List ℕ) → text ≡ print_version 1 ++ rest → ⊥) → (minor : ℕ) (rest : List ℕ) → Version minor text rest → ⊥
    neither m n zero rest x = m rest x.1
    neither m n (suc zero) rest x = n rest x.1
    neither m n (suc (suc k)) rest x = omega (arith, x.0)

    go : HasFront (print_version 0) text → HasFront (print_version 1) text → IsTold Version text
    go (inl x) other = inl (0, x.0, (omega arith, x.1))
    go (inr m) (inl x) = inl (1, x.0, (omega arith, x.1))
    go (inr m) (inr n) = inr (neither m n)

-- neither an empty line nor another byte stands there
not_blank : (text : List ℕ) → (Stops is_newline text → ⊥) → ((end : LineEnd) (rest : List ℕ) → Newline end text rest → ⊥) → (ends : List LineEnd) (rest : List ℕ) → Blank ends text rest → ⊥
not_blank text stops none [] rest x = stops (subst (Stops is_newline) (sym x.0) x.1)
not_blank text stops none (d ∷ ds) rest x = none d (print_blank ds ++ rest) (x.0 ∙ append_assoc (print_end d) (print_blank ds) rest)

blank_here : (text : List ℕ) → ((end : LineEnd) (rest : List ℕ) → Newline end text rest → ⊥) → IsTold Blank text
blank_here [] none = inr (not_blank [] (λ stops. stops) none)
blank_here (b ∷ text) none = go (cases_Bool (is_newline b))
  where
    go : (is_newline b ≡ true) ⊎ (is_newline b ≡ false) → IsTold Blank (b ∷ text)
    go (inl is) = inr (not_blank (b ∷ text) (λ stops. let fails : true ≡ false = sym is ∙ stops in cc) none)
    go (inr is) = inl ([], b ∷ text, (refl, is))

blank_after : (end : LineEnd) (text middle : List ℕ) → text ≡ print_end end ++ middle → IsTold Blank middle → IsTold Blank text
blank_after end text middle e (inl x) =
    inl (end ∷ x.0, x.1, (e ∙ ap (λ l. print_end end ++ l) x.2.0 ∙ sym (append_assoc (print_end end) (print_blank x.0) x.1), x.2.1))
blank_after end text middle e (inr none) = inr go
  where
    go : (ends : List LineEnd) (rest : List ℕ) → Blank ends text rest → ⊥
    go [] rest y = newline_not_stopped end middle rest (sym e ∙ y.0) y.1
    go (d ∷ ds) rest y =
        let same = print_end_unique end d middle (print_blank ds ++ rest) (sym e ∙ y.0 ∙ append_assoc (print_end d) (print_blank ds) rest) in
        none ds rest (same.1, y.1)

blank_step : (text : List ℕ) → IsTold Newline text → ((rest : List ℕ) → length rest < length text → IsTold Blank rest) → IsTold Blank text
blank_step text (inl x) shorter = blank_after x.0 text x.1 x.2 (shorter x.1 (omega (arith, ap length x.2, length-append (print_end x.0) x.1, end_takes x.0)))
blank_step text (inr none) shorter = blank_here text none

-- the empty lines, by the length of the text
blank_told : (n : ℕ) (text : List ℕ) → length text ≤ n → IsTold Blank text
blank_told zero text le = blank_step text (newline_told text) (λ rest less. absurd (omega (arith, less, le)))
blank_told (suc n) text le = blank_step text (newline_told text) (λ rest less. blank_told n rest (omega (arith, less, le)))

-- some bytes that pass the test, and then the byte stop
abbrev Run : (ℕ → Bool) → ℕ → Piece (List ℕ)
Run test stop word text rest = AllPass test word × (text ≡ word ++ stop ∷ rest)

run_told : (test : ℕ → Bool) (stop : ℕ) → test stop ≡ false → (text : List ℕ) → IsTold (Run test stop) text
run_told test stop ends [] = inr none
  where
    none : (word rest : List ℕ) → Run test stop word [] rest → ⊥
    none [] rest x = let e = x.1 in cc
    none (c ∷ word) rest x = let e = x.1 in cc
run_told test stop ends (b ∷ text) = go (cases_Bool (test b)) (run_told test stop ends text)
  where
    passed : test b ≡ true → ((word rest : List ℕ) → Run test stop word text rest → ⊥) → (word rest : List ℕ) → Run test stop word (b ∷ text) rest → ⊥
    passed is none [] rest x = let e = x.1 in let same : b ≡ stop = cc in let fails : true ≡ false = sym is ∙ ap test same ∙ ends in cc
    passed is none (c ∷ word) rest x = let e = x.1 in none word rest (All-tail (λ v. test v ≡ true) c word x.0, cc)

    failed : test b ≡ false → (b ≡ stop → ⊥) → (word rest : List ℕ) → Run test stop word (b ∷ text) rest → ⊥
    failed is other [] rest x = let e = x.1 in other (cc)
    failed is other (c ∷ word) rest x =
        let e = x.1 in
        let same : b ≡ c = cc in
        let passes : test c ≡ true = All-head (λ v. test v ≡ true) c word x.0 in
        let fails : true ≡ false = sym passes ∙ ap test (sym same) ∙ is in cc

    at_stop : test b ≡ false → (b ≡ stop) ⊎ ((b < stop) ⊎ (stop < b)) → IsTold (Run test stop) (b ∷ text)
    at_stop is (inl same) = inl ([], text, (All-nil (λ v. test v ≡ true), ap (λ c. c ∷ text) same))
    at_stop is (inr (inl less)) = inr (failed is (λ same. omega (arith, same, less)))
    at_stop is (inr (inr more)) = inr (failed is (λ same. omega (arith, same, more)))

    go : (test b ≡ true) ⊎ (test b ≡ false) → IsTold (Run test stop) text → IsTold (Run test stop) (b ∷ text)
    go (inl is) (inl x) = inl (b ∷ x.0, x.1, (All-cons (λ v. test v ≡ true) b x.0 is x.2.0, ap (λ l. b ∷ l) x.2.1))
    go (inl is) (inr none) = inr (passed is none)
    go (inr is) later = at_stop is (cases_order b stop)

word_told : (test : ℕ → Bool) (stop : ℕ) → test stop ≡ false → (text : List ℕ) → IsTold (Word test stop) text
word_told test stop ends text = go (run_told test stop ends text)
  where
    no_word : (text rest : List ℕ) → text ≡ stop ∷ rest → (word : List ℕ) (other : List ℕ) → Word test stop word text other → ⊥
    no_word text rest is [] other x = omega (arith, x.0)
    no_word text rest is (c ∷ word) other x =
        let e = x.2 in
        let same : stop ≡ c = cc in
        let passes : test c ≡ true = All-head (λ v. test v ≡ true) c word x.1 in
        let fails : true ≡ false = sym passes ∙ ap test (sym same) ∙ ends in cc

    some : (word rest : List ℕ) → Run test stop word text rest → IsTold (Word test stop) text
    some [] rest x = inr (no_word text rest x.1)
    some (c ∷ word) rest x = inl (c ∷ word, rest, (omega arith, x.0, x.1))

    go : IsTold (Run test stop) text → IsTold (Word test stop) text
    go (inl x) = some x.0 x.1 x.2
    go (inr none) = inr (λ word rest x. none word rest (x.1, x.2))

target_told : (text : List ℕ) → IsTold Target text
target_told text = go (word_told is_uri_byte 32 refl text)
  where
    by_text : (word rest : List ℕ) → Word is_uri_byte 32 word text rest → (is_utf8 word ≡ true) ⊎ (is_utf8 word ≡ false) → IsTold Target text
    by_text word rest x (inl is) = inl (word, rest, (x, IsUtf8-from_is_utf8 word is))
    by_text word rest x (inr is) = inr (λ other end y.
        let same = ((Word_deterministic is_uri_byte 32 refl).unique other word text end rest y.0 x).0 in
        let fails : true ≡ false = sym (is_utf8-from_IsUtf8 word (subst IsUtf8 same y.1)) ∙ is in cc)

    go : IsTold (Word is_uri_byte 32) text → IsTold Target text
    go (inl x) = by_text x.0 x.1 x.2 (cases_Bool (is_utf8 x.0))
    go (inr none) = inr (λ word rest x. none word rest x.0)

text_told : (text : List ℕ) → IsTold Text text
text_told [] = inr none
  where
    ends_none : (end : LineEnd) (rest : List ℕ) → [] ≡ print_end end ++ rest → ⊥
    ends_none crlf rest e = cc
    ends_none lf rest e = cc

    none : (t : List ℕ × LineEnd) (rest : List ℕ) → Text t [] rest → ⊥
    none t rest x = by_raw t.0 t.1 x.1
      where
        by_raw : (raw : List ℕ) (end : LineEnd) → [] ≡ raw ++ (print_end end ++ rest) → ⊥
        by_raw [] end e = ends_none end rest e
        by_raw (c ∷ raw) end e = cc
text_told (b ∷ text) = go (cases_Bool (is_value_byte b)) (text_told text) (newline_told (b ∷ text))
  where
    no_end : is_value_byte b ≡ true → (end : LineEnd) (rest : List ℕ) → b ∷ text ≡ print_end end ++ rest → ⊥
    no_end is crlf rest e = let same : b ≡ 13 = cc in let fails : true ≡ false = sym is ∙ ap is_value_byte same in cc
    no_end is lf rest e = let same : b ≡ 10 = cc in let fails : true ≡ false = sym is ∙ ap is_value_byte same in cc

    passed : is_value_byte b ≡ true → ((t : List ℕ × LineEnd) (rest : List ℕ) → Text t text rest → ⊥) → (raw : List ℕ) (end : LineEnd) (rest : List ℕ) → Text (raw, end) (b ∷ text) rest → ⊥
    passed is none [] end rest x = no_end is end rest x.1
    passed is none (c ∷ raw) end rest x = let e = x.1 in none (raw, end) rest (All-tail (λ v. is_value_byte v ≡ true) c raw x.0, cc)

    failed : is_value_byte b ≡ false → ((end : LineEnd) (rest : List ℕ) → Newline end (b ∷ text) rest → ⊥) → (raw : List ℕ) (end : LineEnd) (rest : List ℕ) → Text (raw, end) (b ∷ text) rest → ⊥
    failed is none [] end rest x = none end rest x.1
    failed is none (c ∷ raw) end rest x =
        let e = x.1 in
        let same : b ≡ c = cc in
        let passes : is_value_byte c ≡ true = All-head (λ v. is_value_byte v ≡ true) c raw x.0 in
        let fails : true ≡ false = sym passes ∙ ap is_value_byte (sym same) ∙ is in cc

    go : (is_value_byte b ≡ true) ⊎ (is_value_byte b ≡ false) → IsTold Text text → IsTold Newline (b ∷ text) → IsTold Text (b ∷ text)
    go (inl is) (inl x) newline = inl ((b ∷ x.0.0, x.0.1), x.1, (All-cons (λ v. is_value_byte v ≡ true) b x.0.0 is x.2.0, ap (λ l. b ∷ l) x.2.1))
    go (inl is) (inr none) newline = inr (λ t rest x. passed is none t.0 t.1 rest x)
    go (inr is) later (inl x) = inl (([], x.0), x.1, (All-nil (λ v. is_value_byte v ≡ true), x.2))
    go (inr is) later (inr none) = inr (λ t rest x. failed is none t.0 t.1 rest x)

field_told : (text : List ℕ) → IsTold FieldLine text
field_told text = go (then_told (Word is_token_byte 58) Text Name_deterministic (word_told is_token_byte 58 colon_ends_token) text_told text)
  where
    regroup : (name raw end rest : List ℕ) → name ++ 58 ∷ (raw ++ (end ++ rest)) ≡ (name ++ 58 ∷ raw ++ end) ++ rest
    regroup name raw end rest = sym (simp append_assoc)

    go : IsTold (Then (Word is_token_byte 58) Text) text → IsTold FieldLine text
    go (inl x) =
        let name = x.2.1 in
        let raw = x.2.2 in
        let f : Field = record { name = x.0.0; raw = x.0.1.0; end = x.0.1.1 } in
        inl (f, x.1, (record { name = (name.0, name.1); raw = raw.0 }, name.2 ∙ ap (λ m. x.0.0 ++ 58 ∷ m) raw.1 ∙ regroup x.0.0 x.0.1.0 (print_end x.0.1.1) x.1))
    go (inr none) = inr (λ f rest x. none (f.name, (f.raw, f.end)) rest (FieldLine_parts f text rest x))

section_after : (f : Field) (text middle : List ℕ) → FieldLine f text middle → IsTold Section middle → IsTold Section text
section_after f text middle line (inl x) =
    inl (
      (f ∷ x.0.0, x.0.1),
      x.1,
      (
        All-cons IsField f x.0.0 line.0 x.2.0,
        line.1 ∙ ap (λ l. print_field f ++ l) x.2.1 ∙ regroup (print_field f) (flat_map print_field x.0.0) (print_end x.0.1) x.1,
      ),
    )
  where
    regroup : (a b c rest : List ℕ) → a ++ ((b ++ c) ++ rest) ≡ ((a ++ b) ++ c) ++ rest
    regroup a b c rest = sym (simp append_assoc)
section_after f text middle line (inr none) = inr (λ s rest x.
    let skip = Section_skip (f ∷ []) s.0 s.1 text middle rest (All-cons IsField f [] line.0 (All-nil IsField), line.1 ∙ ap (λ l. l ++ middle) (sym (append-nil (print_field f)))) x in
    none (skip.0, s.1) rest skip.2)

section_step : (text : List ℕ) → IsTold Newline text → IsTold FieldLine text → ((rest : List ℕ) → length rest < length text → IsTold Section rest) → IsTold Section text
section_step text (inl x) field shorter = inl (([], x.0), x.1, (All-nil IsField, x.2))
section_step text (inr none) (inl x) shorter =
    section_after x.0 text x.1 x.2 (shorter x.1 (omega (arith, ap length x.2.1, length-append (print_field x.0) x.1, field_takes x.0 x.2.0)))
section_step text (inr none) (inr other) shorter = inr (λ s rest x. neither (Section_line s text rest x))
  where
    neither : Begins Newline text ⊎ Begins FieldLine text → ⊥
    neither (inl x) = none x.0 x.1 x.2
    neither (inr x) = other x.0 x.1 x.2

-- the field lines and the empty line after them, by the length of the text
pub section_told : (n : ℕ) (text : List ℕ) → length text ≤ n → IsTold Section text
section_told zero text le = section_step text (newline_told text) (field_told text) (λ rest less. absurd (omega (arith, less, le)))
section_told (suc n) text le = section_step text (newline_told text) (field_told text) (λ rest less. section_told n rest (omega (arith, less, le)))

method_told : (text : List ℕ) → IsTold Method text
method_told = word_told is_token_byte 32 space_ends_token

start_told : (text : List ℕ) → IsTold RequestStart text
start_told =
    then_told Blank (Then Method (Then Target (Then Version Newline))) Blank_deterministic (λ text. blank_told (length text) text (omega arith))
    (then_told Method (Then Target (Then Version Newline)) Method_deterministic method_told
    (then_told Target (Then Version Newline) Target_deterministic target_told
    (then_told Version Newline Version_deterministic version_told newline_told)))

-- the bytes begin with a head, or with none
pub head_told : (text : List ℕ) → ((h : RequestHead) × (rest : List ℕ) × ReadsRequest text h rest) ⊎ HasNoHead text
head_told text = go (then_told RequestStart Section RequestStart_deterministic start_told (λ rest. section_told (length rest) rest (omega arith)) text)
  where
    go : IsTold (Then RequestStart Section) text → ((h : RequestHead) × (rest : List ℕ) × ReadsRequest text h rest) ⊎ HasNoHead text
    go (inl x) = inl (request_head x.0, x.1, request_from_pieces text x.0 x.1 x.2)
    go (inr none) = inr (λ h rest reads. none (request_tree h) rest (request_pieces text h rest reads))
