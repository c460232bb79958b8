-- A turn on a shared daemon is a turn, with steps of others before it.
use Rattle.std.proofs.Common.{◌≡◌, ◌≤◌, ◌==◌, ◌||◌, ◌+◌, ℕ, List, [], ◌∷◌, ◌++◌, Bool, true, false, cond, if◌then◌else◌, Option, Some, None, refl, sym, ◌∙◌, ap, subst, inl, arith, append-nil, append_assoc, length}
use Rattle.std.specs.Prelude.{IsTrue, map, ◌≢◌}
use Rattle.std.specs.List.{filter}
use Rattle.std.proofs.lemmas.Bool.{false≢true}
use Rattle.std.proofs.lemmas.Bool.Decides.{nat_tests}
use Rattle.std.proofs.lemmas.List.Elements.{filter-append}
use Rattle.engine_text.specs.declared.call.Call.{Call}
use Rattle.engine_text.specs.declared.call.Call.TheVariants as call
use Rattle.engine_text.specs.declared.step.Step.{Step}
use Rattle.machine_model.specs.State.{State}
use Rattle.machine_model.specs.History.{Charter, IsLegal, HasNone, HasNoCall, own_calls, is_own, calls_of, bears, events_of, input_of, state_after, moment_used}
use Rattle.session_model.specs.declared.turned.Part.{Part}
use Rattle.session_model.specs.declared.turned.Turned.{Turned}
use Rattle.session_model.specs.Pass.{Only, is_call}
use Rattle.session_model.specs.Turning.{Turns, Turn, TurnSays, MayAsk, HasBegun, ends_ticket}
use Rattle.daemon_core.specs.JournalTurns.{JournalSays, JournalTurn}
use Rattle.daemon_core.specs.Keeping.{history_of}
use Rattle.daemon_core.specs.PartTurns.{PartDues, PartTurn}
use Rattle.daemon_core.specs.Storing.{pass_of}
use Rattle.daemon_core.specs.declared.daemon.Daemon.{Daemon}
use Rattle.daemon_core.proofs.CountLemmas.{bits_count}
use Rattle.daemon_core.proofs.EventLemmas.{counted_on}
use Rattle.atomic_table.specs.Seated.{TableId}
use Rattle.atomic_table.specs.declared.shared.Seat.{Seat}
use Rattle.turnstile.specs.declared.view.View.{View}
use Rattle.turnstile.specs.Steps.{steps_by, only_by, ByOne}
use Rattle.turnstile.specs.Claims.{Claim, pair_claim, Each, Stands, bit, times}
use Rattle.turnstile.proofs.Totals.{each_last}
use Rattle.turnstile.proofs.Lists.{none_of_others}
use Rattle.turnstile.specs.Turns.{IsPass, EachMet, Turned as TurnedBy}
use Rattle.daemon_shared.specs.declared.one_daemon.OneDaemon.{OneDaemon}
use Rattle.daemon_shared.specs.declared.one_daemon.Opening.{Opening}
use Rattle.daemon_shared.specs.Sharing.{author_of, charter_by, IsKept, charter_in, opening_in, with_calls, shared_pass, home_of, Makes, MakesPart, LooksAt}

-- ---- steps of one number

same_if : (b : Bool) (x : Step) (xs ys : List Step) → xs ≡ ys → (if b then x ∷ xs else xs) ≡ cond b (x ∷ ys) ys
same_if true x xs ys e = ap (λ l. x ∷ l) e
same_if false x xs ys e = e

-- the steps of one number, in the words of the machine
pub by_same : (n : ℕ) (xs : List Step) → steps_by author_of n xs ≡ calls_of n xs
by_same n [] = refl
by_same n (Step.Due ∷ xs) = by_same n xs
by_same n (Step.Call k t c ∷ xs) = same_if (k == n) (Step.Call k t c) (steps_by author_of n xs) (calls_of n xs) (by_same n xs)

not_first : (b : Bool) (x : Step) (ys : List Step) → cond b (x ∷ ys) ys ≡ [] → (b ≡ false) × (ys ≡ [])
not_first true x ys h = absurd (omega (arith, ap length h))
not_first false x ys h = (refl, h)

both_not : (b b' : Bool) → b ≡ false → b' ≡ false → (b || b') ≡ false
both_not true b' e f = absurd (false≢true (sym e))
both_not false b' e f = f

skips : (b : Bool) (x : Step) (xs : List Step) → b ≡ false → xs ≡ [] → cond b (x ∷ xs) xs ≡ []
skips true x xs h e = absurd (false≢true (sym h))
skips false x xs h e = e

-- no call of a number and none of its input
pub none_both : (n : ℕ) (xs : List Step) → HasNoCall n xs → HasNoCall (input_of n) xs → HasNone n xs
none_both n [] e f = refl
none_both n (Step.Due ∷ xs) e f = none_both n xs e f
none_both n (Step.Call k t c ∷ xs) e f =
    let p = not_first (k == n) (Step.Call k t c) (calls_of n xs) e in
    let q = not_first (k == input_of n) (Step.Call k t c) (calls_of (input_of n) xs) f in
    skips (is_own n (Step.Call k t c)) (Step.Call k t c) (own_calls n xs) (both_not (k == n) (k == input_of n) p.0 q.0) (none_both n xs p.1 q.1)

shorter : (b : Bool) (x : Step) (xs ys : List Step) → length ys ≤ length xs
    → length (cond b (x ∷ ys) ys) ≤ length (x ∷ xs)
shorter true x xs ys h = omega arith
shorter false x xs ys h = omega arith

-- who has the calls of one number has at most all
fewer : (j : ℕ) (xs : List Step) → length (calls_of j xs) ≤ length (filter is_call xs)
fewer j [] = omega arith
fewer j (Step.Due ∷ xs) = fewer j xs
fewer j (Step.Call i t c ∷ xs) =
    shorter (bears j (Step.Call i t c)) (Step.Call i t c) (filter is_call xs) (calls_of j xs) (fewer j xs)

first_is : (b : Bool) (x : Step) (xs ys : List Step) → length ys ≤ length xs → x ∷ xs ≡ cond b (x ∷ ys) ys
    → IsTrue b × (xs ≡ ys)
first_is true x xs ys h e = (refl, cc)
first_is false x xs ys h e = absurd (omega (arith, ap length e))

only_if : (b : Bool) (o : Bool) → b ≡ true → o ≡ true → (if b then o else false) ≡ true
only_if true o e f = f
only_if false o e f = absurd (false≢true e)

-- where all calls are of one number, none is another's
pub only_of : (k : ℕ) (xs : List Step) → filter is_call xs ≡ calls_of k xs → only_by author_of k xs ≡ true
only_of k [] e = refl
only_of k (Step.Due ∷ xs) e = only_of k xs e
only_of k (Step.Call i t c ∷ xs) e =
    let p = first_is (bears k (Step.Call i t c)) (Step.Call i t c) (filter is_call xs) (calls_of k xs) (fewer k xs) e in
    only_if (i == k) (only_by author_of k xs) p.0 (only_of k xs p.1)

pub cancel : (a x y : List Step) → a ++ x ≡ a ++ y → x ≡ y
cancel [] x y e = e
cancel (s ∷ a) x y e = cancel a x y cc

-- ---- what may be asked

-- who makes no call ends no ticket
unended : (k n : ℕ) (xs : List Step) → HasNoCall k xs → filter (ends_ticket k n) xs ≡ []
unended k n [] h = refl
unended k n (Step.Due ∷ xs) h = unended k n xs h
unended k n (Step.Call j t c ∷ xs) h = let p = not_first (j == k) (Step.Call j t c) (calls_of k xs) h in rw p.0 (unended k n xs p.1)

begun_on : (ch : Charter) (k n : ℕ) (h h' xs : List Step) → HasNoCall k xs → h' ≡ h ++ xs → HasBegun ch k n h → HasBegun ch k n h'
begun_on ch k n h h' xs none at (before, behind, t, c, stands, is, reply) = (
  before,
  behind ++ xs,
  t,
  c,
  filter-append (ends_ticket k n) behind xs ∙ ap (λ x. x ++ filter (ends_ticket k n) xs) stands ∙ unended k n xs none,
  at ∙ ap (λ x. x ++ xs) is ∙ append_assoc before (Step.Call k t c ∷ behind) xs,
  reply,
)

may_on : (ch : Charter) (k : ℕ) (h h' xs : List Step) (c : Option Call) → HasNoCall k xs → h' ≡ h ++ xs → MayAsk ch k h c → MayAsk ch k h' c
may_on ch k h h' xs None q at m = tt
may_on ch k h h' xs (Some (call.Take n)) q at m = (m.0, begun_on ch k n h h' xs q at m.1)
may_on ch k h h' xs (Some (call.Drop n)) q at m = (m.0, begun_on ch k n h h' xs q at m.1)
may_on ch k h h' xs (Some c) q at m = m

-- what could be asked can be asked of every history that the turn may meet
pub each_met : (k : ℕ) (c : Option Call) (v : View Step Opening) → v.number ≡ k → MayAsk (charter_in v.charter) k v.seen c
    → EachMet author_of IsKept v (λ o h. MayAsk (charter_by o) k h c)
each_met k c v num may o h is legal others =
    let none : HasNoCall k others.more = sym (by_same k others.more) ∙ subst (λ n. steps_by author_of n others.more ≡ []) num others.none_own in
    may_on (charter_by o) k v.seen h others.more c none others.is (subst (λ x. MayAsk x k v.seen c) (ap charter_in is) may)

-- nor has it fewer events
pub counted_met : (number : ℕ) (v : View Step Opening) → number ≤ length (events_of (charter_in v.charter) v.seen)
    → EachMet author_of IsKept v (λ o h. number ≤ length (events_of (charter_by o) h))
counted_met number v le o h is legal others =
    counted_on (charter_by o) v.seen h others.more number (subst (λ ch. number ≤ length (events_of ch v.seen)) (ap charter_in is) le) others.is

-- ---- joined numbers

not_on : (b : Bool) (n : ℕ) → bit b + n ≡ 0 → (b ≡ false) × (n ≡ 0)
not_on true n e = absurd (omega (arith, e))
not_on false n e = (refl, omega (arith, e))

-- calls of a number that neither part has
calls_same : (m : ℕ) (seen more own : List Step) → calls_of m more ≡ [] → calls_of m own ≡ [] → calls_of m (seen ++ more ++ own) ≡ calls_of m seen
calls_same m seen more own e f =
    filter-append (bears m) (seen ++ more) own ∙ ap (λ x. calls_of m (seen ++ more) ++ x) f ∙ append-nil (calls_of m (seen ++ more))
    ∙ filter-append (bears m) seen more ∙ ap (λ x. calls_of m seen ++ x) e ∙ append-nil (calls_of m seen)

not_same : (a b : ℕ) → (a == b) ≡ false → b ≢ a
not_same a b e = λ is. grind (arith, nat_tests, e, is)

-- joined numbers keep their calls in a turn of another number
pub counted_same : (k : ℕ) (met seen more own : List Step) (claims : List (Claim Step)) → times k claims ≡ 0
    → Each (Stands author_of met more) claims → only_by author_of k own ≡ true
    → map (with_calls (seen ++ more ++ own)) claims ≡ map (with_calls seen) claims
counted_same k met seen more own [] apart stand only = refl
counted_same k met seen more own (c ∷ cs) apart stand only =
    let p = not_on (c.0 == k) (times k cs) apart in
    let here : calls_of c.0 (seen ++ more ++ own) ≡ calls_of c.0 seen =
    calls_same c.0 seen more own (sym (by_same c.0 more) ∙ stand.0.1) (sym (by_same c.0 own) ∙ none_of_others author_of k c.0 (not_same c.0 k p.0) own only) in
    ap (λ x. (c.0, x) ∷ map (with_calls (seen ++ more ++ own)) cs) here ∙ ap (λ l. (c.0, calls_of c.0 seen) ∷ l) (counted_same k met seen more own cs p.1 stand.1 only)

-- ---- a turn

-- a daemon's history is legal, and 64 bits count its steps
pub kept_by : (d : Daemon) → IsKept (opening_in d) (history_of d.stored.journal)
kept_by d = (d.legal, bits_count (charter_by (opening_in d)) (history_of d.stored.journal) d.legal)

-- what a daemon's own turn makes
pub makes_of : (o : Opening) (ch' : Charter) (k handed : ℕ) (c : Option Call) (a : Turned) (h h' : List Step)
    → Turn k handed c a (pass_of (charter_by o) h) (pass_of ch' h') → Makes o k handed c a h h'
makes_of o ch' k handed c a h h' turn =
    let t = turn.turns in
    let none = t.alone refl in
    let here : h ++ t.others ≡ h = ap (λ x. h ++ x) none ∙ append-nil h in
    let at : h' ≡ h ++ t.own = t.seen ∙ ap (λ x. x ++ t.own) here in
    record {
      own = t.own;
      is = at;
      only = cancel (filter is_call h) (filter is_call t.own) (calls_of k t.own)
          (sym (filter-append is_call h t.own) ∙ sym (ap (filter is_call) at) ∙ t.own_calls);
      says = subst (λ x. TurnSays (charter_by o) (state_after (charter_by o) x) k handed c a t.own) here turn.says;
    }

pub makes_by_one : (o : Opening) (k handed : ℕ) (c : Option Call) (a : Turned) (h h' : List Step) → Makes o k handed c a h h' → ByOne author_of k h h'
makes_by_one o k handed c a h h' m = record { more = m.own; is = m.is; own = only_of k m.own m.only }

-- the own steps of a turn, and those of others before them
unfoldable pub shared_turns : (t t' : TableId) → t' ≡ t → (k : ℕ) (told : Opening → List Step → List Step → Type 0) (v w : View Step Opening)
    → v.number ≡ k → times v.number v.joined_calls ≡ 0 → (turned : TurnedBy author_of IsKept told v w) → (own : List Step)
    → w.seen ≡ turned.met ++ own → filter is_call own ≡ calls_of k own → Turns k (shared_pass t v) (shared_pass t' w)
shared_turns table table' same_table k told v w num apart t own is only =
    let more = t.others.more in
    let opening : charter_in w.charter ≡ charter_in v.charter = ap (λ (x : View Step Opening). charter_in x.charter) t.after in
    let under : charter_in v.charter ≡ charter_by t.charter = ap charter_in t.charter_is in
    let number : w.number ≡ v.number = ap (λ (x : View Step Opening). x.number) t.after in
    let none : HasNoCall k more = sym (by_same k more) ∙ subst (λ n. steps_by author_of n more ≡ []) num t.others.none_own in
    let seen : w.seen ≡ v.seen ++ more ++ own = is ∙ ap (λ x. x ++ own) t.others.is in
    let before : calls_of k (v.seen ++ more) ≡ calls_of k v.seen =
    filter-append (bears k) v.seen more ∙ ap (λ x. calls_of k v.seen ++ x) none ∙ append-nil (calls_of k v.seen) in
    let calls : calls_of k w.seen ≡ calls_of k v.seen ++ calls_of k own =
    ap (calls_of k) seen ∙ filter-append (bears k) (v.seen ++ more) own ∙ ap (λ x. x ++ calls_of k own) before in
    let joined_stand = each_last (Stands author_of t.met more) (pair_claim v.pair v.number) v.joined_calls t.stand.1 in
    let looks : w.looks ≡ v.looks + 1 = ap (λ (x : View Step Opening). x.looks) t.after in
    record {
      others = more;
      own = own;
      seen = seen;
      apart = none;
      strangers = λ on.
          let claimed = subst (λ b. Each (Stands author_of t.met more) ((v.number, v.own_calls) ∷ (pair_claim b v.number ++ v.joined_calls))) on t.stand in
          none_both k more none (sym (by_same (input_of k) more) ∙ subst (λ n. steps_by author_of (n + 2147483648) more ≡ []) num claimed.1.0.1);
      alone = λ h. absurd (false≢true h);
      legal = subst (λ x. IsLegal x w.seen) (sym (opening ∙ under)) t.seen_legal.0;
      own_calls = ap (λ n. calls_of n w.seen) (number ∙ num) ∙ calls ∙ ap (λ n. calls_of n v.seen ++ calls_of k own) (sym num);
      looks = omega (arith, looks);
      looked = λ _. inl (omega (arith, looks));
      stays = record {
        joined_calls = ap (λ (x : View Step Opening). map (with_calls w.seen) x.joined_calls) t.after
            ∙ ap (λ h. map (with_calls h) v.joined_calls) seen
            ∙ counted_same v.number t.met v.seen more own v.joined_calls apart joined_stand
            (only_of v.number own (only ∙ ap (λ n. calls_of n own) (sym num)));
        number = ap Only number;
        pair = ap (λ (x : View Step Opening). x.pair) t.after;
        charter = opening;
        alone = refl;
        home = ap home_of same_table;
      };
    }

pub shared : (t t' : TableId) → t' ≡ t → (k handed : ℕ) (c : Option Call) (a : Turned) (v w : View Step Opening) → v.number ≡ k
    → times v.number v.joined_calls ≡ 0 → TurnedBy author_of IsKept (λ o h h'. Makes o k handed c a h h') v w → Turn k handed c a (shared_pass t v) (shared_pass t' w)
unfolding shared_turns
shared table table' same_table k handed c a v w num apart t =
    let under : charter_in v.charter ≡ charter_by t.charter = ap charter_in t.charter_is in
    let own = t.answer.own in
    record {
      turns = shared_turns table table' same_table k (λ o h h'. Makes o k handed c a h h') v w num apart t own t.answer.is t.answer.only;
      says = subst (λ (z : Charter × List Step). TurnSays z.0 (state_after z.0 z.1) k handed c a own) (λ i. (sym under i, t.others.is i)) t.answer.says;
    }

-- ---- a part of a stream

-- what a daemon's own asking for it makes
pub part_of : (o : Opening) (ch' : Charter) (k handed : ℕ) (a : Part) (told : Charter → List Step → Type 0) (h h' : List Step)
    → PartTurn k handed a told (pass_of (charter_by o) h) (pass_of ch' h') → MakesPart o k handed a told h h'
part_of o ch' k handed a told h h' turn =
    let t = turn.turns in
    let here : h ++ t.others ≡ h = ap (λ x. h ++ x) (t.alone refl) ∙ append-nil h in
    let at : h' ≡ h ++ t.own = t.seen ∙ ap (λ x. x ++ t.own) here in
    let Dues : State → Type 0 = λ s. PartDues s (moment_used s handed) a t.own in
    record {
      own = t.own;
      is = at;
      only = cancel (filter is_call h) (filter is_call t.own) (calls_of k t.own)
          (sym (filter-append is_call h t.own) ∙ sym (ap (filter is_call) at) ∙ t.own_calls);
      dues = subst (λ x. Dues (state_after (charter_by o) x)) here turn.dues;
      says = turn.says;
    }

pub part_by_one : (o : Opening) (k handed : ℕ) (a : Part) (told : Charter → List Step → Type 0) (h h' : List Step)
    → MakesPart o k handed a told h h' → ByOne author_of k h h'
part_by_one o k handed a told h h' m = record { more = m.own; is = m.is; own = only_of k m.own m.only }

pub shared_part : (t t' : TableId) → t' ≡ t → (k handed : ℕ) (a : Part) (told : Charter → List Step → Type 0) (v w : View Step Opening)
    → v.number ≡ k → times v.number v.joined_calls ≡ 0 → TurnedBy author_of IsKept (λ o h h'. MakesPart o k handed a told h h') v w
    → PartTurn k handed a told (shared_pass t v) (shared_pass t' w)
unfolding shared_turns
shared_part table table' same_table k handed a told v w num apart t =
    let under : charter_in v.charter ≡ charter_by t.charter = ap charter_in t.charter_is in
    let own = t.answer.own in
    let Dues : State → Type 0 = λ s. PartDues s (moment_used s handed) a own in
    record {
      turns = shared_turns table table' same_table k (λ o h h'. MakesPart o k handed a told h h') v w num apart t own t.answer.is t.answer.only;
      dues = subst (λ (z : Charter × List Step). Dues (state_after z.0 z.1)) (λ i. (sym under i, t.others.is i)) t.answer.dues;
      says = subst (λ ch. told ch w.seen) (sym under) t.answer.says;
    }

-- a part of the journal, which makes no step
pub shared_look : (t t' : TableId) → t' ≡ t → (k number : ℕ) (a : Part) (old new : List ℕ) (v w : View Step Opening)
    → v.number ≡ k → times v.number v.joined_calls ≡ 0 → TurnedBy author_of IsKept (λ o h h'. LooksAt o number a old new h h') v w
    → JournalTurn k number a old new (shared_pass t v) (shared_pass t' w)
unfolding shared_turns
shared_look table table' same_table k number a old new v w num apart t =
    let under : charter_in v.charter ≡ charter_by t.charter = ap charter_in t.charter_is in
    record {
      turns = shared_turns table table' same_table k (λ o h h'. LooksAt o number a old new h h') v w num apart t []
          (t.answer.0 ∙ sym (append-nil t.met)) refl;
      still = refl;
      says = subst (λ ch. JournalSays ch w.seen number a old new) (sym under) t.answer.1;
    }

-- ---- the pass

none_of_length : {A : Type 0} (l : List A) → length l ≡ 0 → l ≡ []
none_of_length [] e = refl
none_of_length (x ∷ l) e = absurd (omega (arith, e))

-- the pass that a Shared holds
pub held : (table : TableId) (p : Seat (Option OneDaemon) (View Step Opening)) → p.table_id ≡ table → length p.me.1 ≡ 0 → p.me.0.spent ≡ false → p.me.0.holds_turn ≡ false → IsPass table p
held table p mine empty live between = record { own_table = mine; empty = none_of_length p.me.1 empty; live = live; between = between }

home_same : (t u : TableId) → home_of t ≡ home_of u → t ≡ u
home_same t u e = λ i. record { words = words i; slots = slots i; views_name = views_name i; atom = atom i; block = block i; offset = offset i; slot_names = slot_names i }
  where
    words : t.words ≡ u.words
    words = cc

    slots : t.slots ≡ u.slots
    slots = cc

    views_name : t.views_name ≡ u.views_name
    views_name = cc

    atom : t.atom ≡ u.atom
    atom = cc

    block : t.block ≡ u.block
    block = cc

    offset : t.offset ≡ u.offset
    offset = cc

    slot_names : t.slot_names ≡ u.slot_names
    slot_names = cc

-- a pass of one turnstile, by the home that it began with
pub still_held : (table there : TableId) (p q : Seat (Option OneDaemon) (View Step Opening)) → IsPass there q → p.table_id ≡ table → home_of q.table_id ≡ home_of p.table_id → IsPass table q
still_held table there p q is mine same = record { own_table = home_same q.table_id p.table_id same ∙ mine; empty = is.empty; live = is.live; between = is.between }
