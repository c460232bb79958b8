-- The lines of events, one after another.
use Rattle.std.proofs.Common.{◌≡◌, ◌≤◌, ◌<◌, ℕ, List, [], ◌∷◌, ◌++◌, length, refl, sym, ap, ◌∙◌, subst, append_assoc, Option, Some, None, option_map, Ok, Err, Bool, true, false, cond, codes, arith}
use Rattle.std.specs.Prelude.{◌==◌, ◌&&◌, nat_le, if◌then◌else◌}
use Rattle.std.specs.List.{slice_split, onto_first, list_all}
use Rattle.std.specs.Str.{is_utf8}
use Rattle.std.proofs.lemmas.Str.{is_utf8-from_IsUtf8, IsUtf8-from_is_utf8}
use Rattle.std.proofs.lemmas.Bool.Decides.{nat_tests}
use Rattle.std.proofs.lemmas.Slice.Eq.{bytes_eq-Decides}
use Rattle.std.proofs.lemmas.List.Splits.{slice_split_none, slice_split_at}
use Rattle.serde_json.specs.Data.{Data}
use Rattle.json_laws.specs.Text.{data_of}
use Rattle.json_laws.proofs.Lines.{line_read}
use Rattle.engine_text.specs.Pairs.{ArePairsUtf8}
use Rattle.engine_text.specs.Texts.{same_bytes}
use Rattle.engine_text.specs.declared.event.Event.{Event}
use Rattle.engine_text.specs.declared.event.FoldRow.{FoldRow}
use Rattle.engine_text.specs.declared.pairs.Pair.{Pair}
use Rattle.api_json.specs.EventRules.{attributes_fit}
use Rattle.api_json.specs.Event.{IsLine, IsLineRefusal, event_of, event_data, event_line_text, if_there}
use Rattle.api_json.specs.declared.fault.Refused.{Refused}
use Rattle.api_json.specs.declared.fault.Refused.TheVariants.{BadBody}
use Rattle.api_json.specs.declared.fault.BodyFault.{BodyFault}
use Rattle.api_json.proofs.EventLemmas.{sound, event_back}
use Rattle.event_ring.specs.Fold.{fold_kind, fold_on, fold_of}
use Rattle.machine_model.specs.History.{greatest_moment}
use Rattle.client_model.specs.Streams.{is_event_utf8, if_line, event_in, events_of_lines, events_in}
use Rattle.client_model.specs.declared.fault.Fault.{Fault}
use Rattle.client_model.specs.declared.fault.Fault.TheVariants as F
use Rattle.engine_client.specs.Cutting.{HasNoLineEnd, IsCut, FoldsOrFails}
use Rattle.engine_client.specs.Reading.{ReadsOrFails}

-- ---- tests

and_true : (a b : Bool) → (a && b) ≡ true → (a ≡ true) × (b ≡ true)
and_true true b e = (refl, e)
and_true false b e = absurd (cc)

true_and : (a b : Bool) → a ≡ true → b ≡ true → (a && b) ≡ true
true_and a b e f = rw (e, f) refl

le_so : (m n : ℕ) → nat_le m n ≡ true → m ≤ n
le_so m n e = grind (arith, nat_tests)

so_le : (m n : ℕ) → m ≤ n → nat_le m n ≡ true
so_le m n e = grind (arith, nat_tests)

pairs_so : (ps : List Pair) → list_all (λ pair. is_utf8 pair.key && is_utf8 pair.value) ps ≡ true → ArePairsUtf8 ps
pairs_so [] e = tt
pairs_so (p ∷ ps) e =
    let parts = and_true (is_utf8 p.key && is_utf8 p.value) (list_all (λ (pair : Pair). is_utf8 pair.key && is_utf8 pair.value) ps) e in
    let texts = and_true (is_utf8 p.key) (is_utf8 p.value) parts.0 in
    (IsUtf8-from_is_utf8 p.key texts.0, IsUtf8-from_is_utf8 p.value texts.1, pairs_so ps parts.1)

so_pairs : (ps : List Pair) → ArePairsUtf8 ps → list_all (λ pair. is_utf8 pair.key && is_utf8 pair.value) ps ≡ true
so_pairs [] h = refl
so_pairs (p ∷ ps) h =
    true_and (is_utf8 p.key && is_utf8 p.value) (list_all (λ (pair : Pair). is_utf8 pair.key && is_utf8 pair.value) ps)
    (true_and (is_utf8 p.key) (is_utf8 p.value) (is_utf8-from_IsUtf8 p.key h.0) (is_utf8-from_IsUtf8 p.value h.1)) (so_pairs ps h.2)

-- ---- one line

pub event_taken : (front line : List ℕ) (e : Event) → line ≡ front ++ 10 ∷ [] → IsLine e → event_line_text e ≡ line → event_in front ≡ Some e
event_taken front line e ends h is =
    ap (λ (o : Option Data). if_there (if_there o event_of) (if_line front)) (line_read (event_data e) front 10 (sound e h) (is ∙ ends))
    ∙ ap (λ (o : Option Event). if_there o (if_line front)) (event_back e h)
    ∙ ap (λ (t : Bool). if t then Some e else None) test
  where
    utf8 : is_event_utf8 e ≡ true
    utf8 = true_and (is_utf8 e.id) _ (is_utf8-from_IsUtf8 e.id h.2) (so_pairs e.attributes h.3)

    test : (nat_le e.moment greatest_moment && attributes_fit e.kind e.action e.attributes && is_event_utf8 e && same_bytes (event_line_text e) (front ++ codes "\n")) ≡ true
    test =
        true_and _ _ (true_and _ _ (true_and _ _ (so_le e.moment greatest_moment h.0) h.1) utf8)
        ((bytes_eq-Decides (event_line_text e) (front ++ codes "\n")).1 (is ∙ ends))

event_refused : (front line : List ℕ) (x : BodyFault) → line ≡ front ++ 10 ∷ [] → IsLineRefusal line (BadBody x) → event_in front ≡ None
event_refused front line x ends refusal = by_event (if_there (data_of front) event_of)
  where
    by_test : (e : Event) (t : Bool)
        → (nat_le e.moment greatest_moment && attributes_fit e.kind e.action e.attributes && is_event_utf8 e && same_bytes (event_line_text e) (front ++ codes "\n")) ≡ t
        → (if t then Some e else None) ≡ None
    by_test e false is = refl
    by_test e true is =
        let all = and_true (nat_le e.moment greatest_moment && attributes_fit e.kind e.action e.attributes && is_event_utf8 e) (same_bytes (event_line_text e) (front ++ codes "\n")) is in
        let three = and_true (nat_le e.moment greatest_moment && attributes_fit e.kind e.action e.attributes) (is_event_utf8 e) all.0 in
        let two = and_true (nat_le e.moment greatest_moment) (attributes_fit e.kind e.action e.attributes) three.0 in
        let texts = and_true (is_utf8 e.id) (list_all (λ (pair : Pair). is_utf8 pair.key && is_utf8 pair.value) e.attributes) three.1 in
        let line_is : IsLine e = (le_so e.moment greatest_moment two.0, two.1, IsUtf8-from_is_utf8 e.id texts.0, pairs_so e.attributes texts.1) in
        absurd (refusal.1 e line_is ((bytes_eq-Decides (event_line_text e) (front ++ codes "\n")).0 all.1 ∙ sym ends))

    by_event : (o : Option Event) → if_there o (if_line front) ≡ None
    by_event None = refl
    by_event (Some e) = by_test e _ refl

pub event_refused_as : (front line : List ℕ) (refused : Refused) (x : BodyFault) → refused ≡ BadBody x → line ≡ front ++ 10 ∷ [] → IsLineRefusal line refused → event_in front ≡ None
event_refused_as front line refused x is ends refusal = event_refused front line x ends (subst (IsLineRefusal line) is refusal)

-- ---- lines

lines_cons : (front line : List ℕ) (lines : List (List ℕ))
    → events_of_lines (front ∷ line ∷ lines) ≡ if_there (event_in front) (λ e. option_map (λ es. e ∷ es) (events_of_lines (line ∷ lines)))
lines_cons [] line lines = refl
lines_cons (b ∷ front) line lines = refl

onto_some : (x : ℕ) (parts : List (List ℕ)) → (line : List ℕ) × (lines : List (List ℕ)) × (onto_first x parts ≡ line ∷ lines)
onto_some x [] = (x ∷ [], [], refl)
onto_some x (part ∷ parts) = (x ∷ part, parts, refl)

split_some : (text : List ℕ) → (line : List ℕ) × (lines : List (List ℕ)) × (slice_split (λ b. b == 10) text ≡ line ∷ lines)
split_some [] = ([], [], refl)
split_some (x ∷ xs) = by_test (x == 10)
  where
    by_test : (t : Bool) → (line : List ℕ) × (lines : List (List ℕ)) × (cond t ([] ∷ slice_split (λ b. b == 10) xs) (onto_first x (slice_split (λ b. b == 10) xs)) ≡ line ∷ lines)
    by_test true = ([], slice_split (λ b. b == 10) xs, refl)
    by_test false = onto_some x (slice_split (λ b. b == 10) xs)

-- the events of a text, by those of its first line and of the rest
pub events_cut : (text line rest front : List ℕ) → HasNoLineEnd front → line ≡ front ++ 10 ∷ [] → line ++ rest ≡ text
    → events_in text ≡ if_there (event_in front) (λ e. option_map (λ es. e ∷ es) (events_in rest))
events_cut text line rest front none ends is =
    let s = split_some rest in
    ap events_in (sym is ∙ ap (λ l. l ++ rest) ends ∙ append_assoc front (10 ∷ []) rest)
    ∙ ap events_of_lines (slice_split_at (λ b. b == 10) front 10 rest none refl ∙ ap (λ ls. front ∷ ls) s.2)
    ∙ lines_cons front s.0 s.1
    ∙ ap (λ ls. if_there (event_in front) (λ e. option_map (λ es. e ∷ es) (events_of_lines ls))) (sym s.2)

-- what is told of the rest is told of the whole
abbrev pub Folds : List FoldRow → List ℕ → List ℕ → Type 0
Folds rows rest body = option_map (fold_on rows) (events_in rest) ≡ option_map fold_of (events_in body)

map_twice : (e : Event) (rows : List FoldRow) (o : Option (List Event))
    → option_map (fold_on rows) (option_map (λ es. e ∷ es) o) ≡ option_map (fold_on (fold_kind e.kind e rows)) o
map_twice e rows (Some es) = refl
map_twice e rows None = refl

pub folds_more : (rows rows' : List FoldRow) (rest line behind body : List ℕ) (x : Unit {0}) → Folds rows rest body → IsCut rest line behind
    → ((front : List ℕ) → line ≡ front ++ 10 ∷ [] → FoldsOrFails (Ok x) (event_in front) rows rows') → Folds rows' behind body
folds_more rows rows' rest line behind body x before (front, none, ends, is) folds =
    let f = folds front ends in
    ap (λ rs. option_map (fold_on rs) (events_in behind)) f.2 ∙ sym (map_twice f.0 rows (events_in behind))
    ∙ ap (λ o. option_map (fold_on rows) (if_there o (λ e. option_map (λ es. e ∷ es) (events_in behind)))) (sym f.1)
    ∙ ap (option_map (fold_on rows)) (sym (events_cut rest line behind front none ends is)) ∙ before

pub folds_fail : (rows rows' : List FoldRow) (rest line behind body : List ℕ) (fault : Fault) → Folds rows rest body → IsCut rest line behind
    → ((front : List ℕ) → line ≡ front ++ 10 ∷ [] → FoldsOrFails (Err fault) (event_in front) rows rows')
    → ReadsOrFails {A = List FoldRow} (Err fault) (option_map fold_of (events_in body))
folds_fail rows rows' rest line behind body fault before (front, none, ends, is) folds = by_fault fault (folds front ends)
  where
    by_fault : (fault : Fault) → FoldsOrFails (Err fault) (event_in front) rows rows' → ReadsOrFails {A = List FoldRow} (Err fault) (option_map fold_of (events_in body))
    by_fault F.Answer none_is =
        sym before ∙ ap (option_map (fold_on rows)) (events_cut rest line behind front none ends is)
        ∙ ap (λ o. option_map (fold_on rows) (if_there o (λ e. option_map (λ es. e ∷ es) (events_in behind)))) none_is
    by_fault F.NoMemory m = tt
    by_fault F.Words m = absurd m
    by_fault F.Input m = absurd m
    by_fault F.Output m = absurd m
    by_fault F.Errors m = absurd m
    by_fault F.NoCode m = absurd m
    by_fault (F.AnswerTo request status) m = absurd m
    by_fault F.NoCheck m = absurd m
    by_fault F.EventsGone m = absurd m
    by_fault F.TooLong m = absurd m
    by_fault (F.Refused message) m = absurd m
    by_fault F.Link m = absurd m
    by_fault F.Connection m = absurd m

pub read_fails : (fault : Fault) (meaning : Option Event) (rows : List FoldRow) → ReadsOrFails {A = Event} (Err fault) meaning → FoldsOrFails (Err fault) meaning rows rows
read_fails F.Answer meaning rows is = is
read_fails F.NoMemory meaning rows is = tt
read_fails F.Words meaning rows is = absurd is
read_fails F.Input meaning rows is = absurd is
read_fails F.Output meaning rows is = absurd is
read_fails F.Errors meaning rows is = absurd is
read_fails F.NoCode meaning rows is = absurd is
read_fails (F.AnswerTo request status) meaning rows is = absurd is
read_fails F.NoCheck meaning rows is = absurd is
read_fails F.EventsGone meaning rows is = absurd is
read_fails F.TooLong meaning rows is = absurd is
read_fails (F.Refused message) meaning rows is = absurd is
read_fails F.Link meaning rows is = absurd is
read_fails F.Connection meaning rows is = absurd is

pub folds_first : (rows : List FoldRow) (body : List ℕ) → rows ≡ [] → Folds rows body body
folds_first rows body is = ap (λ rs. option_map (fold_on rs) (events_in body)) is

last_none : (o : Option Event) → if_there o (λ e. option_map (λ es. e ∷ es) (events_of_lines [])) ≡ None
last_none (Some e) = refl
last_none None = refl

-- without a line end nothing is an event
pub unended : (b : ℕ) (bs : List ℕ) → HasNoLineEnd (b ∷ bs) → events_in (b ∷ bs) ≡ None
unended b bs none = ap events_of_lines (slice_split_none (λ x. x == 10) (b ∷ bs) none) ∙ last_none (event_in (b ∷ bs))

pub some_text : (text : List ℕ) → (length text == 0) ≡ false → 0 < length text
some_text text some = grind (arith, nat_tests)

pub no_line : (rows : List FoldRow) (rest body : List ℕ) → Folds rows rest body → 0 < length rest → HasNoLineEnd rest → option_map fold_of (events_in body) ≡ None
no_line rows [] body before some none = absurd (omega arith)
no_line rows (b ∷ bs) body before some none = sym before ∙ ap (option_map (fold_on rows)) (unended b bs none)

pub folded : (rows : List FoldRow) (rest body : List ℕ) → Folds rows rest body → rest ≡ [] → option_map fold_of (events_in body) ≡ Some rows
folded rows rest body before none = sym before ∙ ap (λ l. option_map (fold_on rows) (events_in l)) none
