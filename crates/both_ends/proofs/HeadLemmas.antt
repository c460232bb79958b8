-- The bytes of a head begin no other head.
use Rattle.std.specs.Fmt.{digits}
use Rattle.std.proofs.Common.{arith, ◌≡◌, ◌<◌, ◌≤◌, ◌^◌, ℕ, List, [], ◌∷◌, ◌++◌, length, take, drop, get_or, Bool, true, false, refl, sym, ap, subst, ◌∙◌, codes, append_assoc, length-append}
use Rattle.std.specs.Prelude.{decimal}
use Rattle.std.specs.Char.{is_ascii_digit}
use Rattle.std.proofs.lemmas.Bool.Decides.{nat_tests}
use Rattle.std.proofs.lemmas.List.{get_or_append_left, take_at}
use Rattle.std.proofs.lemmas.Fmt.{decimal_is_IsNumeral, decimal_injective}
use Rattle.std.proofs.lemmas.Str.Parse.{digit_at}
use Rattle.http_edge.specs.Response.{phrase_of, connection_line, form_lines, framed_head, head_by, head_text, takeover_head}
use Rattle.http_edge.specs.declared.head.Head.{Head}
use Rattle.http_edge.specs.declared.head.Form.{Form}
use Rattle.http_edge.specs.declared.head.Form.TheVariants.{Json, Plain, Empty, ChunkedFrames, ChunkedJson, ChunkedPlain, Takeover}
use Rattle.response_reader.specs.Heads.{is_bare, Fits}
use Rattle.response_reader.specs.Matching.{is_framed}
use Rattle.response_reader.specs.Numbers.{HasNoDigit, IsDigitsEnd}
use Rattle.response_reader.proofs.NumberLemmas.{digits_taken}

-- ---- lists that begin alike

pub cancelled : (a x y : List ℕ) → a ++ x ≡ a ++ y → x ≡ y
cancelled [] x y e = e
cancelled (b ∷ a) x y e = cancelled a x y (ap (drop 1) e)

-- ---- numbers

digit_in : (n : ℕ) → n < 2 ^ 64 → (i : ℕ) → i < length (decimal n) → is_ascii_digit (get_or (decimal n) i 0) ≡ true
digit_in n fits i lt =
    let numeral = decimal_is_IsNumeral n fits in
    let at = digit_at (decimal n) i numeral.0.1 lt in
    let low : 48 ≤ get_or (decimal n) i 0 = at.0 in
    let high : get_or (decimal n) i 0 ≤ 57 = at.1 in
    grind (arith, nat_tests)

behind_digits : (ds p : List ℕ) → HasNoDigit p → length ds < length (ds ++ p) → is_ascii_digit (get_or (ds ++ p) (length ds) 0) ≡ false
behind_digits [] [] none lt = absurd (omega (arith, lt))
behind_digits [] (b ∷ p) none lt = none
behind_digits (d ∷ ds) p none lt = behind_digits ds p none (omega (arith, lt))

digits_end : (n : ℕ) → n < 2 ^ 64 → (p : List ℕ) → HasNoDigit p → IsDigitsEnd (decimal n ++ p) (length (decimal n))
digits_end n fits p none = record {
  within = omega (arith, length-append (decimal n) p);
  digits = λ k lt. ap is_ascii_digit (get_or_append_left (decimal n) p 0 k lt) ∙ digit_in n fits k lt;
  behind = λ lt. behind_digits (decimal n) p none lt;
}

-- the digits of a number, and no digit behind them, begin no other number's
pub one_number : (m n : ℕ) (p q : List ℕ) → m < 2 ^ 64 → n < 2 ^ 64 → HasNoDigit p → HasNoDigit q → decimal m ++ p ≡ decimal n ++ q → (m ≡ n) × (p ≡ q)
one_number m n p q low high no_p no_q e =
    let mine : take (length (decimal m)) (decimal m ++ p) ≡ decimal m = take_at (decimal m) p (length (decimal m)) refl in
    let theirs : take (length (decimal m)) (decimal m ++ p) ≡ decimal n = digits_taken (decimal m ++ p) (length (decimal m)) n (digits_end m low p no_p) high (q, e, no_q) in
    let same : m ≡ n = decimal_injective m n low high (sym mine ∙ theirs) in
    (same, cancelled (decimal m) p q (e ∙ ap (λ k. decimal k ++ q) (sym same)))

-- ---- the lines behind the status

abbrev pub version : List ℕ
version = codes "HTTP/1.1 "

abbrev api_line : List ℕ
api_line = codes "\r\nApi-Version: 1.43\r\n"

-- those that the form and the closing decide, and what stands behind the head
abbrev last_lines : Bool → Form → List ℕ → List ℕ
last_lines close form x = connection_line close ++ (form_lines form ++ (codes "\r\n" ++ x))

abbrev pub behind_status : ℕ → Bool → Form → List ℕ → List ℕ
behind_status status close form x = codes " " ++ (phrase_of status ++ (api_line ++ last_lines close form x))

grouped : (h d s p v c f e x : List ℕ) → (h ++ d ++ s ++ p ++ v ++ c ++ f ++ e) ++ x ≡ h ++ (d ++ (s ++ (p ++ (v ++ (c ++ (f ++ (e ++ x)))))))
grouped h d s p v c f e x = simp append_assoc

framed_text : (status : ℕ) (close : Bool) (form : Form) (x : List ℕ)
    → framed_head status close form ++ x ≡ version ++ (decimal status ++ behind_status status close form x)
framed_text status close form x =
    grouped version (decimal status) (codes " ") (phrase_of status) api_line (connection_line close) (form_lines form) (codes "\r\n") x

-- ---- heads that may stand at the front of an answer

-- what a head's text begins with: the version, its status, and no digit behind that
abbrev pub Opens : ℕ → List ℕ → Type 0
Opens status bytes = (rest : List ℕ) × (bytes ≡ version ++ (decimal status ++ rest)) × HasNoDigit rest

pub framed_opens : (form : Form) (status : ℕ) (close : Bool) (x : List ℕ) → is_framed form ≡ true → Opens status (head_by form status close ++ x)
framed_opens (Json n) status close x is = (behind_status status close (Json n) x, framed_text status close (Json n) x, refl)
framed_opens (Plain n) status close x is = (behind_status status close (Plain n) x, framed_text status close (Plain n) x, refl)
framed_opens Empty status close x is = (behind_status status close Empty x, framed_text status close Empty x, refl)
framed_opens ChunkedFrames status close x is = (behind_status status close ChunkedFrames x, framed_text status close ChunkedFrames x, refl)
framed_opens (ChunkedJson first) status close x is = (behind_status status close (ChunkedJson first) x, framed_text status close (ChunkedJson first) x, refl)
framed_opens ChunkedPlain status close x is = (behind_status status close ChunkedPlain x, framed_text status close ChunkedPlain x, refl)
framed_opens (Takeover upgrade) status close x is = absurd (cc)

abbrev behind_upgraded : List ℕ
behind_upgraded = codes " UPGRADED\r\nContent-Type: application/vnd.docker.multiplexed-stream\r\nConnection: Upgrade\r\nUpgrade: tcp\r\n\r\n"

abbrev behind_taken : List ℕ
behind_taken = codes " OK\r\nContent-Type: application/vnd.docker.raw-stream\r\n\r\n"

upgraded_text : takeover_head true ≡ version ++ (decimal 101 ++ behind_upgraded)
unfolding digits
upgraded_text = refl

taken_text : takeover_head false ≡ version ++ (decimal 200 ++ behind_taken)
unfolding digits
taken_text = refl

three : (a b c x : List ℕ) → (a ++ (b ++ c)) ++ x ≡ a ++ (b ++ (c ++ x))
three a b c x = simp append_assoc

pub upgraded_opens : (x : List ℕ) → takeover_head true ++ x ≡ version ++ (decimal 101 ++ (behind_upgraded ++ x))
upgraded_opens x = ap (λ l. l ++ x) upgraded_text ∙ three version (decimal 101) behind_upgraded x

taken_opens : (x : List ℕ) → takeover_head false ++ x ≡ version ++ (decimal 200 ++ (behind_taken ++ x))
taken_opens x = ap (λ l. l ++ x) taken_text ∙ three version (decimal 200) behind_taken x

bare_low : (status : ℕ) → is_bare status ≡ true → (200 ≤ status) × (status < 600)
bare_low status is = (grind (arith, nat_tests, is), grind (arith, nat_tests, is))

-- a head that fits is of a status below 600
fit_low : (form : Form) (status : ℕ) (close : Bool) → Fits form status close → status < 600
fit_low (Json n) status close fits = fits.0.0.1
fit_low (Plain n) status close fits = fits.0.0.1
fit_low Empty status close fits = (bare_low status fits).1
fit_low ChunkedFrames status close fits = fits.0.1
fit_low (ChunkedJson first) status close fits = fits.0.0.1
fit_low ChunkedPlain status close fits = fits.0.1
fit_low (Takeover true) status close fits = omega (arith, fits.0)
fit_low (Takeover false) status close fits = omega (arith, fits.0)

-- and begins with it
fit_opens : (form : Form) (status : ℕ) (close : Bool) (x : List ℕ) → Fits form status close → Opens status (head_by form status close ++ x)
fit_opens (Json n) status close x fits = framed_opens (Json n) status close x refl
fit_opens (Plain n) status close x fits = framed_opens (Plain n) status close x refl
fit_opens Empty status close x fits = framed_opens Empty status close x refl
fit_opens ChunkedFrames status close x fits = framed_opens ChunkedFrames status close x refl
fit_opens (ChunkedJson first) status close x fits = framed_opens (ChunkedJson first) status close x refl
fit_opens ChunkedPlain status close x fits = framed_opens ChunkedPlain status close x refl
fit_opens (Takeover true) status close x fits =
    (behind_upgraded ++ x, upgraded_opens x ∙ ap (λ s. version ++ (decimal s ++ (behind_upgraded ++ x))) (sym fits.0), refl)
fit_opens (Takeover false) status close x fits =
    (behind_taken ++ x, taken_opens x ∙ ap (λ s. version ++ (decimal s ++ (behind_taken ++ x))) (sym fits.0), refl)

-- two that begin the same bytes have one status
one_status : (m n : ℕ) (a b : List ℕ) → m < 2 ^ 64 → n < 600 → Opens m a → Opens n b → a ≡ b → m ≡ n
one_status m n a b low high first second e =
    (one_number m n first.0 second.0 low (omega (arith, high)) first.2 second.2
    (cancelled version (decimal m ++ first.0) (decimal n ++ second.0) (sym first.1 ∙ (e ∙ second.1)))).0

pub same_status : (status : ℕ) (bytes : List ℕ) (h : Head) (y : List ℕ) → status < 2 ^ 64 → Opens status bytes → Fits h.form h.status h.close
    → bytes ≡ head_text h ++ y → status ≡ h.status
same_status status bytes h y low opens fits e =
    one_status status h.status bytes (head_text h ++ y) low (fit_low h.form h.status h.close fits) opens (fit_opens h.form h.status h.close y fits) e

-- ---- lines of one status

abbrev first_in : List ℕ → ℕ → ℕ
first_in l k = get_or l k 0

-- how the lines of a form go on: `Content-Length`, `Content-Type` or `Server`
differs : (k a b : ℕ) (x y : List ℕ) → x ≡ y → first_in x k ≡ a → first_in y k ≡ b → (a ≡ b → ⊥) → ⊥
differs k a b x y e is other not = not (sym is ∙ (ap (λ l. first_in l k) e ∙ other))

abbrev json_end : List ℕ → List ℕ
json_end x = codes "\r\nContent-Type: application/json\r\nServer: engined\r\n\r\n" ++ x

abbrev plain_end : List ℕ → List ℕ
plain_end x = codes "\r\nContent-Type: text/plain; charset=utf-8\r\nServer: engined\r\n\r\n" ++ x

sized : (a d b c s e x : List ℕ) → ((((a ++ d) ++ b) ++ c) ++ s) ++ (e ++ x) ≡ a ++ (d ++ ((((b ++ c) ++ s) ++ e) ++ x))
sized a d b c s e x = simp append_assoc

json_lines : (n : ℕ) (x : List ℕ) → form_lines (Json n) ++ (codes "\r\n" ++ x) ≡ codes "Content-Length: " ++ (decimal n ++ json_end x)
json_lines n x = sized (codes "Content-Length: ") (decimal n) (codes "\r\nContent-Type: ") (codes "application/json") (codes "\r\nServer: engined\r\n") (codes "\r\n") x

plain_lines : (n : ℕ) (x : List ℕ) → form_lines (Plain n) ++ (codes "\r\n" ++ x) ≡ codes "Content-Length: " ++ (decimal n ++ plain_end x)
plain_lines n x = sized (codes "Content-Length: ") (decimal n) (codes "\r\nContent-Type: ") (codes "text/plain; charset=utf-8") (codes "\r\nServer: engined\r\n") (codes "\r\n") x

-- the lines of a form and what stands behind them
abbrev pub Lines : Form → List ℕ → List ℕ
Lines form x = form_lines form ++ (codes "\r\n" ++ x)

-- what a form has of numbers is small
abbrev pub IsSmall : Form → Type 0
IsSmall (Json n) = n < 2 ^ 64
IsSmall (Plain n) = n < 2 ^ 64
IsSmall form = Unit {0}

fit_small : (form : Form) (status : ℕ) (close : Bool) → Fits form status close → IsSmall form
fit_small (Json n) status close fits = fits.1
fit_small (Plain n) status close fits = fits.1
fit_small Empty status close fits = tt
fit_small ChunkedFrames status close fits = tt
fit_small (ChunkedJson first) status close fits = tt
fit_small ChunkedPlain status close fits = tt
fit_small (Takeover upgrade) status close fits = tt

same_json : (n m : ℕ) (x y : List ℕ) → n < 2 ^ 64 → m < 2 ^ 64 → Lines (Json n) x ≡ Lines (Json m) y → (Json n ≡ Json m) × (x ≡ y)
same_json n m x y low high e =
    let one = one_number n m (json_end x) (json_end y) low high refl refl
    (cancelled (codes "Content-Length: ") _ _ (sym (json_lines n x) ∙ (e ∙ json_lines m y))) in
    (ap Json one.0, cancelled (codes "\r\nContent-Type: application/json\r\nServer: engined\r\n\r\n") x y one.1)

not_plain : (n m : ℕ) (x y : List ℕ) → n < 2 ^ 64 → m < 2 ^ 64 → Lines (Json n) x ≡ Lines (Plain m) y → ⊥
not_plain n m x y low high e =
    let one = one_number n m (json_end x) (plain_end y) low high refl refl
    (cancelled (codes "Content-Length: ") _ _ (sym (json_lines n x) ∙ (e ∙ plain_lines m y))) in
    differs 16 97 116 (json_end x) (plain_end y) one.1 refl refl (λ is. omega (arith, is))

same_lines : (n : ℕ) (x : List ℕ) (form : Form) (y : List ℕ) → n < 2 ^ 64 → IsSmall form → is_framed form ≡ true → Lines (Json n) x ≡ Lines form y → (Json n ≡ form) × (x ≡ y)
same_lines n x (Json m) y low small is e = same_json n m x y low small e
same_lines n x (Plain m) y low small is e = absurd (not_plain n m x y low small e)
same_lines n x Empty y low small is e = absurd (differs 0 67 83 (Lines (Json n) x) (Lines Empty y) e refl refl (λ is. omega (arith, is)))
same_lines n x ChunkedFrames y low small is e = absurd (differs 8 76 84 (Lines (Json n) x) (Lines ChunkedFrames y) e refl refl (λ is. omega (arith, is)))
same_lines n x (ChunkedJson first) y low small is e = absurd (differs 8 76 84 (Lines (Json n) x) (Lines (ChunkedJson first) y) e refl refl (λ is. omega (arith, is)))
same_lines n x ChunkedPlain y low small is e = absurd (differs 8 76 84 (Lines (Json n) x) (Lines ChunkedPlain y) e refl refl (λ is. omega (arith, is)))
same_lines n x (Takeover upgrade) y low small is e = absurd (cc)

empty_lines : (x : List ℕ) (form : Form) (y : List ℕ) → is_framed form ≡ true → Lines Empty x ≡ Lines form y → (Empty ≡ form) × (x ≡ y)
empty_lines x Empty y is e = (refl, cancelled (codes "Server: engined\r\n\r\n") x y e)
empty_lines x (Json m) y is e = absurd (differs 0 83 67 (Lines Empty x) (Lines (Json m) y) e refl refl (λ is. omega (arith, is)))
empty_lines x (Plain m) y is e = absurd (differs 0 83 67 (Lines Empty x) (Lines (Plain m) y) e refl refl (λ is. omega (arith, is)))
empty_lines x ChunkedFrames y is e = absurd (differs 0 83 67 (Lines Empty x) (Lines ChunkedFrames y) e refl refl (λ is. omega (arith, is)))
empty_lines x (ChunkedJson first) y is e = absurd (differs 0 83 67 (Lines Empty x) (Lines (ChunkedJson first) y) e refl refl (λ is. omega (arith, is)))
empty_lines x ChunkedPlain y is e = absurd (differs 0 83 67 (Lines Empty x) (Lines ChunkedPlain y) e refl refl (λ is. omega (arith, is)))
empty_lines x (Takeover upgrade) y is e = absurd (cc)

-- the fourth letter of a form's lines isn't that of `Connection`
fourth : Form → ℕ
fourth (Json n) = 116
fourth (Plain n) = 116
fourth Empty = 118
fourth ChunkedFrames = 116
fourth (ChunkedJson first) = 116
fourth ChunkedPlain = 116
fourth (Takeover upgrade) = 10

fourth_is : (form : Form) (x : List ℕ) → is_framed form ≡ true → first_in (Lines form x) 3 ≡ fourth form
unfolding fourth
fourth_is (Json n) x is = refl
fourth_is (Plain n) x is = refl
fourth_is Empty x is = refl
fourth_is ChunkedFrames x is = refl
fourth_is (ChunkedJson first) x is = refl
fourth_is ChunkedPlain x is = refl
fourth_is (Takeover upgrade) x is = absurd (cc)

not_closing : (form : Form) → is_framed form ≡ true → 110 ≡ fourth form → ⊥
unfolding fourth
not_closing (Json n) is e = omega (arith, e)
not_closing (Plain n) is e = omega (arith, e)
not_closing Empty is e = omega (arith, e)
not_closing ChunkedFrames is e = omega (arith, e)
not_closing (ChunkedJson first) is e = omega (arith, e)
not_closing ChunkedPlain is e = omega (arith, e)
not_closing (Takeover upgrade) is e = cc

-- the lines of two forms tell whether each closes
one_closing : (c d : Bool) (f g : Form) (x y : List ℕ) → is_framed f ≡ true → is_framed g ≡ true → last_lines c f x ≡ last_lines d g y
    → (c ≡ d) × (Lines f x ≡ Lines g y)
one_closing true true f g x y is_f is_g e = (refl, cancelled (codes "Connection: close\r\n") (Lines f x) (Lines g y) e)
one_closing false false f g x y is_f is_g e = (refl, e)
one_closing true false f g x y is_f is_g e =
    absurd (differs 3 110 (fourth g) (last_lines true f x) (last_lines false g y) e refl (fourth_is g y is_g) (not_closing g is_g))
one_closing false true f g x y is_f is_g e =
    absurd (differs 3 110 (fourth f) (last_lines true g y) (last_lines false f x) (sym e) refl (fourth_is f x is_f) (not_closing f is_f))

-- ---- heads with a body of a length, and without a body

-- the head of such an answer
abbrev pub sized_head : ℕ → Form → Bool → Head
sized_head status form close = record { status = status; form = form; close = close }

-- its text begins no head that takes over
not_taken : (status : ℕ) (close : Bool) (form : Form) (x y : List ℕ) → status ≡ 200 → behind_status status close form x ≡ behind_taken ++ y → ⊥
not_taken status close form x y is e =
    let at : behind_status 200 close form x ≡ behind_taken ++ y = subst (λ s. behind_status s close form x ≡ behind_taken ++ y) is e in
    differs 5 65 67 (behind_status 200 close form x) (behind_taken ++ y) at refl refl (λ is. omega (arith, is))

-- what is behind one status
behind_same : (m n : ℕ) (p q : List ℕ) → m < 2 ^ 64 → n < 2 ^ 64 → HasNoDigit p → HasNoDigit q → version ++ (decimal m ++ p) ≡ version ++ (decimal n ++ q) → (m ≡ n) × (p ≡ q)
behind_same m n p q low high no_p no_q e = one_number m n p q low high no_p no_q (cancelled version (decimal m ++ p) (decimal n ++ q) e)

lines_same : (m n : ℕ) (c d : Bool) (f g : Form) (x y : List ℕ) → m ≡ n → behind_status m c f x ≡ behind_status n d g y → last_lines c f x ≡ last_lines d g y
lines_same m n c d f g x y is e =
    let at : behind_status m c f x ≡ behind_status m d g y = e ∙ ap (λ s. behind_status s d g y) (sym is) in
    cancelled api_line _ _ (cancelled (phrase_of m) _ _ (cancelled (codes " ") _ _ at))

-- of such a form the lines tell the form
abbrev pub IsTold : Form → Type 0
IsTold form = (is_framed form ≡ true) × ((x : List ℕ) (g : Form) (y : List ℕ) → IsSmall g → is_framed g ≡ true → Lines form x ≡ Lines g y → (form ≡ g) × (x ≡ y))

pub json_told : (n : ℕ) → n < 2 ^ 64 → IsTold (Json n)
json_told n low = (refl, λ x g y small is e. same_lines n x g y low small is e)

pub empty_told : IsTold Empty
empty_told = (refl, λ x g y small is e. empty_lines x g y is e)

head_is : (m n : ℕ) (f g : Form) (c d : Bool) → m ≡ n → f ≡ g → c ≡ d → sized_head m f c ≡ sized_head n g d
head_is m n f g c d s form close =
    ap (λ s. sized_head s f c) s ∙ (ap (λ f. sized_head n f c) form ∙ ap (λ c. sized_head n g c) close)

framed_same : (status : ℕ) (form : Form) (close : Bool) (x : List ℕ) (h : Head) (y : List ℕ) → status < 2 ^ 64 → IsTold form → is_framed h.form ≡ true
    → Fits h.form h.status h.close → framed_head status close form ++ x ≡ framed_head h.status h.close h.form ++ y → (sized_head status form close ≡ h) × (x ≡ y)
framed_same status form close x h y low told is fits e =
    let one = behind_same status h.status _ _ low (omega (arith, fit_low h.form h.status h.close fits)) refl refl
    (sym (framed_text status close form x) ∙ (e ∙ framed_text h.status h.close h.form y)) in
    let lines = one_closing close h.close form h.form x y told.0 is (lines_same status h.status close h.close form h.form x y one.0 one.1) in
    let forms = told.1 x h.form y (fit_small h.form h.status h.close fits) is lines.1 in
    (head_is status h.status form h.form close h.close one.0 forms.0 lines.0, forms.1)

by_form : (status : ℕ) (form : Form) (close : Bool) (x : List ℕ) (s : ℕ) (g : Form) (c : Bool) (y : List ℕ) → status < 2 ^ 64 → 102 ≤ status → IsTold form → Fits g s c
    → framed_head status close form ++ x ≡ head_by g s c ++ y → (sized_head status form close ≡ sized_head s g c) × (x ≡ y)
by_form status form close x s (Json n) c y low more told fits e = framed_same status form close x (sized_head s (Json n) c) y low told refl fits e
by_form status form close x s (Plain n) c y low more told fits e = framed_same status form close x (sized_head s (Plain n) c) y low told refl fits e
by_form status form close x s Empty c y low more told fits e = framed_same status form close x (sized_head s Empty c) y low told refl fits e
by_form status form close x s ChunkedFrames c y low more told fits e = framed_same status form close x (sized_head s ChunkedFrames c) y low told refl fits e
by_form status form close x s (ChunkedJson first) c y low more told fits e = framed_same status form close x (sized_head s (ChunkedJson first) c) y low told refl fits e
by_form status form close x s ChunkedPlain c y low more told fits e = framed_same status form close x (sized_head s ChunkedPlain c) y low told refl fits e
by_form status form close x s (Takeover true) c y low more told fits e =
    let one = behind_same status 101 _ _ low (omega arith) refl refl (sym (framed_text status close form x) ∙ (e ∙ upgraded_opens y)) in
    absurd (omega (arith, one.0, more))
by_form status form close x s (Takeover false) c y low more told fits e =
    let one = behind_same status 200 _ _ low (omega arith) refl refl (sym (framed_text status close form x) ∙ (e ∙ taken_opens y)) in
    absurd (not_taken status close form x y one.0 one.1)

-- the text of such a head begins no other head's, and what stands behind them is the same
pub same_head : (status : ℕ) (form : Form) (close : Bool) (x : List ℕ) (h : Head) (y : List ℕ) → status < 2 ^ 64 → 102 ≤ status → IsTold form → Fits h.form h.status h.close
    → framed_head status close form ++ x ≡ head_text h ++ y → (sized_head status form close ≡ h) × (x ≡ y)
same_head status form close x h y low more told fits e = by_form status form close x h.status h.form h.close y low more told fits e

-- ---- the head that upgrades

abbrev pub upgraded : Head
upgraded = record { status = 101; form = Takeover true; close = false }

not_final : (s : ℕ) (p q : List ℕ) → s < 600 → 200 ≤ s → HasNoDigit p → HasNoDigit q → version ++ (decimal 101 ++ p) ≡ version ++ (decimal s ++ q) → ⊥
not_final s p q low final no_p no_q e =
    let one = behind_same 101 s p q (omega arith) (omega (arith, low)) no_p no_q e in omega (arith, one.0, final)

framed_final : (s : ℕ) (g : Form) (c : Bool) (x y : List ℕ) → s < 600 → 200 ≤ s → takeover_head true ++ x ≡ framed_head s c g ++ y → ⊥
framed_final s g c x y low final e = not_final s _ _ low final refl refl (sym (upgraded_opens x) ∙ (e ∙ framed_text s c g y))

taken_by : (x : List ℕ) (s : ℕ) (g : Form) (c : Bool) (y : List ℕ) → Fits g s c → takeover_head true ++ x ≡ head_by g s c ++ y → (upgraded ≡ sized_head s g c) × (x ≡ y)
taken_by x s (Json n) c y fits e = absurd (framed_final s (Json n) c x y fits.0.0.1 fits.0.0.0 e)
taken_by x s (Plain n) c y fits e = absurd (framed_final s (Plain n) c x y fits.0.0.1 fits.0.0.0 e)
taken_by x s Empty c y fits e = absurd (framed_final s Empty c x y (bare_low s fits).1 (bare_low s fits).0 e)
taken_by x s ChunkedFrames c y fits e = absurd (framed_final s ChunkedFrames c x y fits.0.1 fits.0.0 e)
taken_by x s (ChunkedJson first) c y fits e = absurd (framed_final s (ChunkedJson first) c x y fits.0.0.1 fits.0.0.0 e)
taken_by x s ChunkedPlain c y fits e = absurd (framed_final s ChunkedPlain c x y fits.0.1 fits.0.0 e)
taken_by x s (Takeover true) c y fits e =
    (head_is 101 s (Takeover true) (Takeover true) false c (sym fits.0) refl (sym fits.1), cancelled (takeover_head true) x y e)
taken_by x s (Takeover false) c y fits e =
    absurd (not_final 200 _ _ (omega arith) (omega arith) refl refl (sym (upgraded_opens x) ∙ (e ∙ taken_opens y)))

pub same_upgraded : (x : List ℕ) (h : Head) (y : List ℕ) → Fits h.form h.status h.close → takeover_head true ++ x ≡ head_text h ++ y → (upgraded ≡ h) × (x ≡ y)
same_upgraded x h y fits e = taken_by x h.status h.form h.close y fits e
