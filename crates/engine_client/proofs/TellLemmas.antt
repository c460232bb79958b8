-- `health`: the changes told as events are seen, up to the end.
use Rattle.std.proofs.Common.{◌≡◌, ◌<◌, ◌≤◌, ℕ, zero, suc, ◌+◌, ◌-◌, List, [], ◌∷◌, ◌++◌, length, take, drop, get_or, map, Option, Some, None, Result, Ok, Err, Bool, true, false, ◌&&◌, nat_le, nat_lt, if◌then◌else◌, refl, sym, ap, ap₂, ◌∙◌, subst, append_assoc, append-nil, arith}
use Rattle.std.specs.Prelude.{OnOk}
use Rattle.std.specs.List.{AllByRecursion}
use Rattle.std.proofs.lemmas.Bool.{and_parts}
use Rattle.std.proofs.lemmas.Bool.Decides.{nat_tests}
use Rattle.std.proofs.lemmas.List.{map-append, take_more, take_all, drop_all, at_drop_more}
use Rattle.std.proofs.lemmas.List.Sums.{fold-append}
use Rattle.serde_json.specs.Written.{compact_text}
use Rattle.engine_text.specs.Texts.{same_bytes}
use Rattle.engine_text.specs.declared.event.Event.{Event}
use Rattle.engine_text.specs.declared.memory.NoMemory.{NoMemory}
use Rattle.engine_text.specs.declared.pairs.Pair.{Pair}
use Rattle.health_watch.specs.Runs.{is_container, marks_by, marks_of}
use Rattle.health_watch.specs.Health.{Standing, health_at, health_of}
use Rattle.health_watch.specs.Watching.{Watched, health_told, given, told_to, with_event, asked_to, IsUntold, MayCome, NextSays}
use Rattle.health_watch.specs.declared.health.Change.{Change}
use Rattle.client_model.specs.Commands.Health.{do_rise, attributes_behind, attributes_by, change_data, change_line, standing_line, health_lines}
use Rattle.client_model.specs.declared.checked.Checked.{Checked}
use Rattle.engine_client.specs.Telling.{latest, line_with, Tells, TellsBefore, told_before, MayFollow, Sees}

-- ---- lists

all_weaker : {A : Type 0} (P Q : A → Type 0) (xs : List A) → ((x : A) → P x → Q x) → AllByRecursion P xs → AllByRecursion Q xs
all_weaker P Q [] on all = tt
all_weaker P Q (x ∷ xs) on all = (on x all.0, all_weaker P Q xs on all.1)

all_joined : {A : Type 0} (P : A → Type 0) (xs ys : List A) → AllByRecursion P xs → AllByRecursion P ys → AllByRecursion P (xs ++ ys)
all_joined P [] ys all more = more
all_joined P (x ∷ xs) ys all more = (all.0, all_joined P xs ys all.1 more)

map_same : {A B : Type 0} (P : A → Type 0) (f g : A → B) (xs : List A) → AllByRecursion P xs → ((x : A) → P x → f x ≡ g x) → map f xs ≡ map g xs
map_same P f g [] all same = refl
map_same P f g (x ∷ xs) all same = λ i. same x all.0 i ∷ map_same P f g xs all.1 same i

-- ---- moments

le_so : (m n : ℕ) → nat_le m n ≡ true → m ≤ n
le_so m n e = grind (arith, nat_tests)

so_le : (m n : ℕ) → m ≤ n → nat_le m n ≡ true
so_le m n e = grind (arith, nat_tests)

not_le : (m n : ℕ) → n < m → nat_le m n ≡ false
not_le m n e = grind (arith, nat_tests)

not_lt : (m n : ℕ) → n ≤ m → nat_lt m n ≡ false
not_lt m n e = grind (arith, nat_tests)

asked_told : (u m : ℕ) → m ≤ u → asked_to u (Some m) ≡ u
asked_told u m low = ap (λ (t : Bool). if t then m else u) (not_lt u m low)

asked_untold : (u : ℕ) (told : Option ℕ) (m : ℕ) → IsUntold told m → m ≤ u → asked_to u told ≡ u
asked_untold u None m untold low = refl
asked_untold u (Some t) m untold low = asked_told u t (omega (arith, untold, low))

untold_later : (told : Option ℕ) (m n : ℕ) → IsUntold told m → m < n → IsUntold told n
untold_later None m n untold low = tt
untold_later (Some t) m n untold low = omega (arith, untold, low)

asked_at : (n seen : ℕ) → seen ≤ n + 1 → asked_to n (told_before seen) ≡ n
asked_at n zero low = refl
asked_at n (suc k) low = asked_told n k (omega (arith, low))

untold_at : (seen m : ℕ) → IsUntold (told_before seen) m → seen ≤ m
untold_at zero m untold = omega arith
untold_at (suc n) m untold = omega (arith, untold)

untold_before : (m : ℕ) → IsUntold (told_before m) m
untold_before zero = tt
untold_before (suc n) = omega arith

-- ---- changes up to a moment

-- what was told on the way there
pub record HasTold (id : List ℕ) (attributes : List Pair) (until : ℕ) (w x : Watched) (lines lines' : List (List ℕ)) : Type 0 where
  pub changes : List Change
  pub is : x ≡ record w { told = x.told }
  pub asked : asked_to until x.told ≡ asked_to until w.told
  pub given_so : given x ≡ given w ++ changes
  pub lines_so : lines' ≡ lines ++ map (line_with id attributes) changes
  pub between : AllByRecursion (λ (c : Change). IsUntold w.told c.moment × (c.moment ≤ until)) changes
  pub untold : (m : ℕ) → IsUntold x.told m → IsUntold w.told m

pub told_first : (id : List ℕ) (attributes : List Pair) (until : ℕ) (w : Watched) (lines : List (List ℕ)) → HasTold id attributes until w w lines lines
told_first id attributes until w lines = record {
  changes = [];
  is = refl;
  asked = refl;
  given_so = sym (append-nil (given w));
  lines_so = sym (append-nil lines);
  between = tt;
  untold = λ m u. u;
}

module _ (id : List ℕ) (attributes : List Pair) (until : ℕ) (w x y : Watched) (lines l l' : List (List ℕ)) where
  pub told_more : (c : Change) (line : List ℕ) → HasTold id attributes until w x lines l → NextSays until x (Some c) y → line ≡ line_with id attributes c → l' ≡ l ++ line ∷ []
      → HasTold id attributes until w y lines l'
  told_more c line h says line_is added =
      let f : Change → List ℕ = line_with id attributes in
      let told_is : y.told ≡ Some c.moment = ap (λ (v : Watched). v.told) says.0 in
      record {
        changes = h.changes ++ c ∷ [];
        is = says.0 ∙ ap (told_to c.moment) h.is ∙ sym (ap (λ (t : Option ℕ). record w { told = t }) told_is);
        asked = ap (asked_to until) told_is ∙ asked_told until c.moment says.3 ∙ sym (asked_untold until x.told c.moment says.2 says.3) ∙ h.asked;
        given_so = says.1 ∙ ap (λ (g : List Change). g ++ c ∷ []) h.given_so ∙ append_assoc (given w) h.changes (c ∷ []);
        lines_so =
            added ∙ ap₂ (λ (a : List (List ℕ)) (b : List ℕ). a ++ b ∷ []) h.lines_so line_is ∙ append_assoc lines (map f h.changes) (f c ∷ [])
            ∙ ap (λ (ls : List (List ℕ)). lines ++ ls) (sym (map-append f h.changes (c ∷ [])));
        between = all_joined (λ (d : Change). IsUntold w.told d.moment × (d.moment ≤ until)) h.changes (c ∷ []) h.between ((h.untold c.moment says.2, says.3), tt);
        untold = λ m u. h.untold m (untold_later x.told c.moment m says.2 (subst (λ (t : Option ℕ). IsUntold t m) told_is u));
      }

  pub told_all : HasTold id attributes until w x lines l → NextSays until x None y → l' ≡ l → Tells id attributes until w y lines l'
  told_all h says same = record {
    changes = h.changes;
    is = says.0 ∙ ap (λ (n : ℕ). told_to n x) h.asked ∙ ap (told_to (asked_to until w.told)) h.is;
    given_so = says.1 ∙ h.given_so;
    lines_so = same ∙ h.lines_so;
    between = h.between;
  }

-- how many moments may still be told
abbrev pub left : ℕ → Option ℕ → ℕ
left until None = until + 2
left until (Some told) = until + 1 - told

left_less : (until : ℕ) (told : Option ℕ) (m : ℕ) → IsUntold told m → m ≤ until → left until (Some m) < left until told
left_less until None m untold low = omega (arith, low)
left_less until (Some t) m untold low = omega (arith, untold, low)

pub told_less : (until : ℕ) (x y : Watched) (c : Change) → NextSays until x (Some c) y → left until y.told < left until x.told
told_less until x y c says =
    subst (λ (t : Option ℕ). left until t < left until x.told) (sym (ap (λ (v : Watched). v.told) says.0)) (left_less until x.told c.moment says.2 says.3)

-- ---- changes before a moment

pub before_none : (id : List ℕ) (attributes : List Pair) (m : ℕ) (w : Watched) (lines : List (List ℕ)) → m ≡ 0 → TellsBefore id attributes m w w lines lines
before_none id attributes zero w lines is = (refl, refl)
before_none id attributes (suc n) w lines is = absurd (omega (arith, is))

pub before_some : (id : List ℕ) (attributes : List Pair) (m : ℕ) (w x : Watched) (lines lines' : List (List ℕ)) → (m ≡ 0 → ⊥) → Tells id attributes (m - 1) w x lines lines'
    → TellsBefore id attributes m w x lines lines'
before_some id attributes zero w x lines lines' not tells = absurd (not refl)
before_some id attributes (suc n) w x lines lines' not tells = let is : suc n - 1 ≡ n = omega arith in subst (λ (u : ℕ). Tells id attributes u w x lines lines') is tells

-- what they are, where all before the last event were told
record HasToldBefore (id : List ℕ) (attributes : List Pair) (m : ℕ) (w x : Watched) (lines lines' : List (List ℕ)) : Type 0 where
  pub changes : List Change
  pub is : x ≡ record w { told = told_before m }
  pub given_so : given x ≡ given w ++ changes
  pub lines_so : lines' ≡ lines ++ map (line_with id attributes) changes
  pub between : AllByRecursion (λ (c : Change). (w.seen ≤ c.moment) × (c.moment < m)) changes

has_told_before : (id : List ℕ) (attributes : List Pair) (m : ℕ) (w x : Watched) (lines lines' : List (List ℕ)) → MayFollow w m → TellsBefore id attributes m w x lines lines'
    → HasToldBefore id attributes m w x lines lines'
has_told_before id attributes zero w x lines lines' follows (is, same) =
    let none : w.seen ≡ 0 = omega (arith, follows.1) in
    record {
      changes = [];
      is = is ∙ ap (λ (t : Option ℕ). record w { told = t }) (follows.0 ∙ ap told_before none);
      given_so = ap given is ∙ sym (append-nil (given w));
      lines_so = same ∙ sym (append-nil lines);
      between = tt;
    }
has_told_before id attributes (suc n) w x lines lines' follows tells = record {
  changes = tells.changes;
  is = tells.is ∙ ap (λ (u : ℕ). told_to u w) (ap (asked_to n) follows.0 ∙ asked_at n w.seen (omega (arith, follows.1)));
  given_so = tells.given_so;
  lines_so = tells.lines_so;
  between = all_weaker (λ (c : Change). IsUntold w.told c.moment × (c.moment ≤ n)) (λ (c : Change). (w.seen ≤ c.moment) × (c.moment < suc n)) tells.changes
      (λ c p. (untold_at w.seen c.moment (subst (λ (t : Option ℕ). IsUntold t c.moment) follows.0 p.0), omega (arith, p.1))) tells.between;
}

pub may_come : (id : List ℕ) (attributes : List Pair) (m : ℕ) (w x : Watched) (lines lines' : List (List ℕ)) → MayFollow w m → TellsBefore id attributes m w x lines lines' → MayCome x m
may_come id attributes m w x lines lines' follows tells =
    subst (λ (v : Watched). MayCome v m) (sym (has_told_before id attributes m w x lines lines' follows tells).is) (follows.1, untold_before m)

-- ---- events, one after another

marks_more : (id : List ℕ) (es : List Event) (e : Event) → marks_of id (es ++ e ∷ []) ≡ marks_of id es ++ marks_by id e
marks_more id [] e = append-nil (marks_by id e)
marks_more id (x ∷ es) e = ap (λ ms. marks_by id x ++ ms) (marks_more id es e) ∙ sym (append_assoc (marks_by id x) (marks_of id es) (marks_by id e))

now_taken : (own by : Bool) (a b : List Pair) → by ≡ true → (if own && by then a else b) ≡ (if own then a else b)
now_taken true by a b is = ap (λ (t : Bool). if t then a else b) is
now_taken false by a b is = refl

later_kept : (own by : Bool) (a b : List Pair) → by ≡ false → (if own && by then a else b) ≡ b
later_kept true by a b is = ap (λ (t : Bool). if t then a else b) is
later_kept false by a b is = refl

-- behind an event, the attributes at its moment or later, and before it
attributes_now : (id : List ℕ) (m : ℕ) (es : List Event) (e : Event) (found : List Pair) → e.moment ≤ m → attributes_by id m es ≡ found → attributes_by id m (es ++ e ∷ []) ≡ latest id found e
attributes_now id m es e found low is =
    fold-append (attributes_behind id m) [] es (e ∷ []) ∙ ap (λ (f : List Pair). attributes_behind id m f e) is
    ∙ now_taken (is_container e.kind && same_bytes e.id id) (nat_le e.moment m) e.attributes found (so_le e.moment m low)

attributes_before : (id : List ℕ) (m : ℕ) (es : List Event) (e : Event) → m < e.moment → attributes_by id m (es ++ e ∷ []) ≡ attributes_by id m es
attributes_before id m es e low =
    fold-append (attributes_behind id m) [] es (e ∷ [])
    ∙ later_kept (is_container e.kind && same_bytes e.id id) (nat_le e.moment m) e.attributes (attributes_by id m es) (not_le e.moment m low)

-- the first events were seen, and all changes before the last of them were told
pub record IsSoFar (c : Checked) (end : ℕ) (seen rest : List Event) (w : Watched) (lines : List (List ℕ)) (attributes : List Pair) : Type 0 where
  pub id_is : w.id ≡ c.id
  pub spec_is : w.spec ≡ c.spec
  pub marks_are : w.marks ≡ marks_of c.id seen
  pub told_is : w.told ≡ told_before w.seen
  pub low : w.seen ≤ end
  pub rises : do_rise end w.seen rest ≡ true
  pub attributes_are : (m : ℕ) → w.seen ≤ m → attributes_by c.id m seen ≡ attributes
  pub lines_are : lines ≡ map (change_line c.id seen) (given w)
  pub past : AllByRecursion (λ (x : Change). x.moment < w.seen) (given w)

abbrev fresh : Checked → Watched
fresh c = record { id = c.id; spec = c.spec; marks = []; seen = 0; told = None }

pub far_first : (c : Checked) (end : ℕ) (events : List Event) (w : Watched) (lines : List (List ℕ)) (attributes : List Pair) → w ≡ fresh c → lines ≡ [] → attributes ≡ []
    → do_rise end 0 events ≡ true → IsSoFar c end [] events w lines attributes
far_first c end events w lines attributes is none bare rising =
    let seen_is : w.seen ≡ 0 = ap (λ (v : Watched). v.seen) is in
    let given_is : given w ≡ [] = ap given is in
    record {
      id_is = ap (λ (v : Watched). v.id) is;
      spec_is = ap (λ (v : Watched). v.spec) is;
      marks_are = ap (λ (v : Watched). v.marks) is;
      told_is = ap (λ (v : Watched). v.told) is ∙ sym (ap told_before seen_is);
      low = omega (arith, seen_is);
      rises = subst (λ (n : ℕ). do_rise end n events ≡ true) (sym seen_is) rising;
      attributes_are = λ m low. sym bare;
      lines_are = none ∙ sym (ap (map (change_line c.id [])) given_is);
      past = subst (AllByRecursion (λ (x : Change). x.moment < w.seen)) (sym given_is) tt;
    }

-- what do_rise says of the next event
pub next_rises : (end from : ℕ) (e : Event) (rest : List Event) → do_rise end from (e ∷ rest) ≡ true → (from ≤ e.moment) × (e.moment ≤ end) × (do_rise end e.moment rest ≡ true)
next_rises end from e rest rising =
    let all = and_parts (nat_le from e.moment && nat_le e.moment end) (do_rise end e.moment rest) rising in
    let both = and_parts (nat_le from e.moment) (nat_le e.moment end) all.0 in
    (le_so from e.moment both.0, le_so e.moment end both.1, all.1)

module _ (c : Checked) (end : ℕ) (seen rest : List Event) (e : Event) (w : Watched) (lines : List (List ℕ)) (attributes : List Pair) where
  pub far_follows : IsSoFar c end seen (e ∷ rest) w lines attributes → MayFollow w e.moment
  far_follows far = (far.told_is, (next_rises end w.seen e rest far.rises).0)

  pub far_bound : IsSoFar c end seen (e ∷ rest) w lines attributes → e.moment ≤ end
  far_bound far = (next_rises end w.seen e rest far.rises).1

  -- the changes that were told behind the last event have its attributes
  lines_with : (changes : List Change) → IsSoFar c end seen (e ∷ rest) w lines attributes → AllByRecursion (λ (x : Change). (w.seen ≤ x.moment) × (x.moment < e.moment)) changes
      → map (line_with c.id attributes) changes ≡ map (change_line c.id seen) changes
  lines_with changes far between =
      map_same (λ (x : Change). (w.seen ≤ x.moment) × (x.moment < e.moment)) (line_with c.id attributes) (change_line c.id seen) changes between
      (λ x p. ap (λ (a : List Pair). compact_text (change_data c.id a x)) (sym (far.attributes_are x.moment p.0)))

  pub far_more : (x : Watched) (lines' : List (List ℕ)) (attributes' : List Pair) → IsSoFar c end seen (e ∷ rest) w lines attributes → Sees c.id attributes e w x lines lines'
      → attributes' ≡ latest c.id attributes e → IsSoFar c end (seen ++ e ∷ []) rest x lines' attributes'
  far_more x lines' attributes' far sees latest_is =
      let rising = next_rises end w.seen e rest far.rises in
      let t = has_told_before c.id attributes e.moment w sees.before lines lines' (far_follows far) sees.tells in
      let x_is : x ≡ with_event e (record w { told = told_before e.moment }) = sees.is ∙ ap (with_event e) t.is in
      let seen_is : x.seen ≡ e.moment = ap (λ (v : Watched). v.seen) x_is in
      let given_is : given x ≡ given w ++ t.changes = ap (λ (s : Standing). s.changes) sees.same ∙ t.given_so in
      let before : AllByRecursion (λ (d : Change). d.moment < e.moment) (given x) =
      subst (AllByRecursion (λ (d : Change). d.moment < e.moment)) (sym given_is)
      (all_joined (λ (d : Change). d.moment < e.moment) (given w) t.changes
      (all_weaker (λ (d : Change). d.moment < w.seen) (λ (d : Change). d.moment < e.moment) (given w) (λ d p. omega (arith, p, rising.0)) far.past)
      (all_weaker (λ (d : Change). (w.seen ≤ d.moment) × (d.moment < e.moment)) (λ (d : Change). d.moment < e.moment) t.changes (λ d p. p.1) t.between)) in
      record {
        id_is = ap (λ (v : Watched). v.id) x_is ∙ far.id_is;
        spec_is = ap (λ (v : Watched). v.spec) x_is ∙ far.spec_is;
        marks_are = ap (λ (v : Watched). v.marks) x_is ∙ ap₂ (λ ms i. ms ++ marks_by i e) far.marks_are far.id_is ∙ sym (marks_more c.id seen e);
        told_is = ap (λ (v : Watched). v.told) x_is ∙ sym (ap told_before seen_is);
        low = omega (arith, seen_is, rising.1);
        rises = subst (λ (n : ℕ). do_rise end n rest ≡ true) (sym seen_is) rising.2;
        attributes_are = λ m low.
            attributes_now c.id m seen e attributes (omega (arith, seen_is, low)) (far.attributes_are m (omega (arith, seen_is, low, rising.0))) ∙ sym latest_is;
        lines_are =
            t.lines_so ∙ ap₂ (λ (a b : List (List ℕ)). a ++ b) far.lines_are (lines_with t.changes far t.between)
            ∙ sym (map-append (change_line c.id seen) (given w) t.changes)
            ∙ ap (map (change_line c.id seen)) (sym given_is)
            ∙ map_same (λ (d : Change). d.moment < e.moment) (change_line c.id seen) (change_line c.id (seen ++ e ∷ [])) (given x) before
            (λ d p. ap (λ (a : List Pair). compact_text (change_data c.id a d)) (sym (attributes_before c.id d.moment seen e p)));
        past = all_weaker (λ (d : Change). d.moment < e.moment) (λ (d : Change). d.moment < x.seen) (given x) (λ d p. omega (arith, p, seen_is)) before;
      }

-- the lines are all, once all changes up to the end were told
pub far_all : (c : Checked) (end : ℕ) (events : List Event) (w x : Watched) (lines lines' : List (List ℕ)) (attributes : List Pair)
    → IsSoFar c end events [] w lines attributes → Tells c.id attributes end w x lines lines'
    → lines' ++ standing_line c.id (health_told x) ∷ [] ≡ health_lines c end events
far_all c end events w x lines lines' attributes far tells =
    let asked : asked_to end w.told ≡ end = ap (asked_to end) far.told_is ∙ asked_at end w.seen (omega (arith, far.low)) in
    let x_is : x ≡ told_to end w = tells.is ∙ ap (λ (u : ℕ). told_to u w) asked in
    let health : health_told x ≡ health_of events c.id c.spec end = ap health_told x_is ∙ ap₂ (λ s ms. health_at s ms end) far.spec_is far.marks_are in
    let same : map (line_with c.id attributes) tells.changes ≡ map (change_line c.id events) tells.changes =
    map_same (λ (d : Change). IsUntold w.told d.moment × (d.moment ≤ end)) (line_with c.id attributes) (change_line c.id events) tells.changes tells.between
    (λ d p. ap (λ (a : List Pair). compact_text (change_data c.id a d))
    (sym (far.attributes_are d.moment (untold_at w.seen d.moment (subst (λ (t : Option ℕ). IsUntold t d.moment) far.told_is p.0))))) in
    let all : lines' ≡ map (change_line c.id events) (health_of events c.id c.spec end).changes =
    tells.lines_so ∙ ap₂ (λ (a b : List (List ℕ)). a ++ b) far.lines_are same ∙ sym (map-append (change_line c.id events) (given w) tells.changes)
    ∙ ap (map (change_line c.id events)) (sym tells.given_so) ∙ ap (λ (s : Standing). map (change_line c.id events) s.changes) health in
    ap₂ (λ (ls : List (List ℕ)) (s : Standing). ls ++ standing_line c.id s ∷ []) all health

-- ---- the same by places

pub far_can : (c : Checked) (end : ℕ) (es : List Event) (i : ℕ) (e : Event) (w : Watched) (lines : List (List ℕ)) (attributes : List Pair) → i < length es → e ≡ get_or es i e
    → IsSoFar c end (take i es) (drop i es) w lines attributes → MayFollow w e.moment × (e.moment ≤ end)
far_can c end es i e w lines attributes low is far =
    let dropped : drop i es ≡ e ∷ drop (i + 1) es = at_drop_more (λ (xs : List Event). xs) es i e low ∙ ap (λ (x : Event). x ∷ drop (i + 1) es) (sym is) in
    let here = subst (λ (rest : List Event). IsSoFar c end (take i es) rest w lines attributes) dropped far in
    (far_follows c end (take i es) (drop (i + 1) es) e w lines attributes here, far_bound c end (take i es) (drop (i + 1) es) e w lines attributes here)

pub far_next : (c : Checked) (end : ℕ) (es : List Event) (i : ℕ) (e : Event) (id : List ℕ) (w x : Watched) (lines lines' : List (List ℕ)) (attributes attributes' : List Pair)
    → i < length es → e ≡ get_or es i e → id ≡ c.id → IsSoFar c end (take i es) (drop i es) w lines attributes → Sees id attributes e w x lines lines' → attributes' ≡ latest id attributes e
    → IsSoFar c end (take (i + 1) es) (drop (i + 1) es) x lines' attributes'
far_next c end es i e id w x lines lines' attributes attributes' low is id_is far sees latest_is =
    let dropped : drop i es ≡ e ∷ drop (i + 1) es = at_drop_more (λ (xs : List Event). xs) es i e low ∙ ap (λ (x : Event). x ∷ drop (i + 1) es) (sym is) in
    let taken : take (i + 1) es ≡ take i es ++ e ∷ [] = take_more es i e low ∙ ap (λ (x : Event). take i es ++ x ∷ []) (sym is) in
    subst (λ (seen : List Event). IsSoFar c end seen (drop (i + 1) es) x lines' attributes') (sym taken)
    (far_more c end (take i es) (drop (i + 1) es) e w lines attributes x lines' attributes'
    (subst (λ (rest : List Event). IsSoFar c end (take i es) rest w lines attributes) dropped far)
    (subst (λ (n : List ℕ). Sees n attributes e w x lines lines') id_is sees) (latest_is ∙ ap (λ (n : List ℕ). latest n attributes e) id_is))

pub far_end : (c : Checked) (end : ℕ) (es : List Event) (i : ℕ) (id : List ℕ) (w x : Watched) (lines lines' all : List (List ℕ)) (attributes : List Pair) (line : List ℕ)
    → length es ≤ i → id ≡ c.id → IsSoFar c end (take i es) (drop i es) w lines attributes → Tells id attributes end w x lines lines' → line ≡ standing_line id (health_told x)
    → all ≡ lines' ++ line ∷ [] → all ≡ health_lines c end es
far_end c end es i id w x lines lines' all attributes line high id_is far tells line_is added =
    let whole : IsSoFar c end es [] w lines attributes =
    subst (λ (seen : List Event). IsSoFar c end seen [] w lines attributes) (take_all i es high)
    (subst (λ (rest : List Event). IsSoFar c end (take i es) rest w lines attributes) (drop_all i es high) far) in
    added ∙ ap (λ (l : List ℕ). lines' ++ l ∷ []) (line_is ∙ ap (λ (n : List ℕ). standing_line n (health_told x)) id_is)
    ∙ far_all c end es w x lines lines' attributes whole (subst (λ (n : List ℕ). Tells n attributes end w x lines lines') id_is tells)

-- ---- where memory was had

pub before_if : (r : Result (Unit {0}) NoMemory) (id : List ℕ) (attributes : List Pair) (m : ℕ) (w x : Watched) (lines lines' : List (List ℕ)) → (m ≡ 0 → ⊥)
    → OnOk r (Tells id attributes (m - 1) w x lines lines') → OnOk r (TellsBefore id attributes m w x lines lines')
before_if (Ok u) id attributes m w x lines lines' not tells = before_some id attributes m w x lines lines' not tells
before_if (Err e) id attributes m w x lines lines' not tells = tt

pub sees_if : (r : Result (Unit {0}) NoMemory) (id : List ℕ) (attributes : List Pair) (e : Event) (w before x : Watched) (lines lines' : List (List ℕ))
    → TellsBefore id attributes e.moment w before lines lines' → OnOk r (x ≡ with_event e before) → health_told x ≡ health_told before → OnOk r (Sees id attributes e w x lines lines')
sees_if (Ok u) id attributes e w before x lines lines' tells is same = record { before = before; tells = tells; is = is; same = same }
sees_if (Err fault) id attributes e w before x lines lines' tells is same = tt
