-- A connection's second pass: parted off, and taken in again.
use Rattle.std.proofs.Common.{◌≡◌, ◌==◌, ◌+◌, ℕ, List, [], ◌∷◌, ◌++◌, Bool, true, false, if◌then◌else◌, Option, Some, map, refl, sym, ◌∙◌, ap, subst, inl, inr, arith, append-nil, length}
use Rattle.std.specs.Prelude.{Contains}
use Rattle.std.proofs.lemmas.Bool.{false≢true}
use Rattle.std.proofs.lemmas.List.Elements.{filter-append, Contains-append_right}
use Rattle.engine_text.specs.declared.step.Step.{Step}
use Rattle.machine_model.specs.History.{IsLegal, calls_of, bears, input_of}
use Rattle.session_model.specs.Pass.{Only, IsConnection}
use Rattle.atomic_table.specs.Seated.{TableId}
use Rattle.turnstile.specs.declared.view.View.{View}
use Rattle.turnstile.specs.Steps.{steps_by}
use Rattle.turnstile.specs.Claims.{Claim, pair_claim, bit, times, Each, EachFront}
use Rattle.turnstile.specs.Views.{claims, admits, admittee, parted, admitted, joined}
use Rattle.turnstile.specs.Plays.{Learned}
use Rattle.turnstile.specs.Turns.{Looked}
use Rattle.turnstile.proofs.Totals.{times-append}
use Rattle.daemon_shared.specs.declared.one_daemon.Opening.{Opening}
use Rattle.daemon_shared.specs.Sharing.{author_of, charter_in, IsKept, with_calls, shared_pass, home_of}
use Rattle.daemon_core.specs.Pairing.{Parted, IsOther, Rejoined}
use Rattle.daemon_shared.proofs.TurnLemmas.{by_same}

each_behind : (P : Claim Step → Type 0) (a b : List (Claim Step)) → Each P (a ++ b) → Each P b
each_behind P [] b e = e
each_behind P (c ∷ a) b e = each_behind P a b e.1

not_root : (b : Bool) (n : ℕ) (v : View Step Opening) → b ≡ false → (if b then admitted v n else parted v) ≡ parted v
not_root true n v e = absurd (false≢true (sym e))
not_root false n v e = refl

none_front : (xs ys : List Step) → xs ++ ys ≡ [] → xs ≡ []
none_front [] ys e = refl
none_front (x ∷ xs) ys e = absurd (omega (arith, ap length e))

-- who isn't the root gives its input's number away
gives_away : (k : ℕ) (v from v' : View Step Opening) → IsConnection k → v.number ≡ k → Looked author_of IsKept v from
    → v' ≡ admits (input_of k) from → v' ≡ parted from
gives_away k v from v' low num looked left =
    let number : from.number ≡ v.number = ap (λ (x : View Step Opening). x.number) looked.after in
    let low' : (from.number == 4294967295) ≡ false = (let e = number ∙ num in grind (arith, e, low)) in
    left ∙ not_root (from.number == 4294967295) (input_of k) from low'

-- and has joined as many numbers as before
pub parted_apart : (k : ℕ) (v from v' : View Step Opening) → IsConnection k → v.number ≡ k → Looked author_of IsKept v from
    → v' ≡ admits (input_of k) from → times v.number v.joined_calls ≡ 0 → times v'.number v'.joined_calls ≡ 0
parted_apart k v from v' low num looked left apart =
    ap (λ (x : View Step Opening). times x.number x.joined_calls) (gives_away k v from v' low num looked left)
    ∙ ap (λ (x : View Step Opening). times x.number x.joined_calls) looked.after ∙ apart

-- its history is legal
pub parted_legal : (k : ℕ) (v from v' : View Step Opening) → IsConnection k → v.number ≡ k → Looked author_of IsKept v from
    → v' ≡ admits (input_of k) from → IsLegal (charter_in v'.charter) v'.seen
parted_legal k v from v' low num looked left =
    let parts = gives_away k v from v' low num looked left in
    let charter : v'.charter ≡ Some looked.charter =
    ap (λ (x : View Step Opening). x.charter) parts ∙ ap (λ (x : View Step Opening). x.charter) looked.after ∙ looked.charter_is in
    subst (λ (z : Option Opening × List Step). IsLegal (charter_in z.0) z.1)
    (λ i. (sym charter i, sym (ap (λ (x : View Step Opening). x.seen) parts) i)) looked.seen_legal.0

-- the new pass has joined none
pub new_apart : (n : ℕ) (from w : View Step Opening) → w ≡ admittee n from → times w.number w.joined_calls ≡ 0
new_apart n from w right = ap (λ (x : View Step Opening). times x.number x.joined_calls) right

-- what it takes to part a pass off
pub parted_off : (k : ℕ) (t0 t1 t3 : TableId) (v from v' w : View Step Opening)
    → IsConnection k → v.number ≡ k → Looked author_of IsKept v from
    → v' ≡ admits (input_of k) from → w ≡ admittee (input_of k) from → Learned author_of IsKept w
    → t3 ≡ t0 → t1 ≡ t3 → Parted k (shared_pass t0 v) (shared_pass t3 v') (shared_pass t1 w)
parted_off k t0 t1 t3 v from v' w low num looked left right new home home' =
    let n = input_of k in
    let parts = gives_away k v from v' low num looked left in
    let number : from.number ≡ v.number = ap (λ (x : View Step Opening). x.number) looked.after in
    let looks : from.looks ≡ v.looks + 1 = ap (λ (x : View Step Opening). x.looks) looked.after in
    let same_looks : v'.looks ≡ from.looks = ap (λ (x : View Step Opening). x.looks) parts in
    let seen_v : v'.seen ≡ from.seen = ap (λ (x : View Step Opening). x.seen) parts in
    let seen_w : w.seen ≡ from.seen = ap (λ (x : View Step Opening). x.seen) right in
    let grows : from.seen ≡ v.seen ++ looked.others.more = looked.others.is in
    let number_w : w.number ≡ n = ap (λ (x : View Step Opening). x.number) right in
    let fresh : calls_of n w.seen ≡ [] =
    sym (by_same n w.seen) ∙ ap (λ x. steps_by author_of x w.seen) (sym number_w) ∙ sym new.own.0 ∙ ap (λ (x : View Step Opening). x.own_calls) right in
    let none : calls_of k looked.others.more ≡ [] = sym (by_same k looked.others.more) ∙ subst (λ x. steps_by author_of x looked.others.more ≡ []) num looked.others.none_own in
    record {
      connection = low;
      number = ap Only num;
      own = ap Only number_w;
      home = ap home_of home';
      charter = ap (λ (x : View Step Opening). charter_in x.charter) right ∙ ap (λ (x : View Step Opening). charter_in x.charter) looked.after;
      none_joined = ap (λ (x : View Step Opening). map (with_calls w.seen) x.joined_calls) right;
      behind = (looked.others.more, seen_v ∙ grows);
      seen = seen_w ∙ sym seen_v;
      quiet = ap (calls_of k) (seen_v ∙ grows) ∙ filter-append (bears k) v.seen looked.others.more ∙ ap (λ x. calls_of k v.seen ++ x) none ∙ append-nil (calls_of k v.seen);
      before = none_front (calls_of n v.seen) (calls_of n looked.others.more)
          (sym (filter-append (bears n) v.seen looked.others.more) ∙ sym (ap (calls_of n) (seen_w ∙ grows)) ∙ fresh);
      fresh = fresh;
      given = ap (λ (x : View Step Opening). x.pair) parts;
      looked = inl (omega (arith, looks, same_looks));
      same = record {
        number = ap Only (ap (λ (x : View Step Opening). x.number) parts ∙ number);
        charter = ap (λ (x : View Step Opening). charter_in x.charter) parts ∙ ap (λ (x : View Step Opening). charter_in x.charter) looked.after;
        alone = refl;
        home = ap home_of home;
      };
    }

pub only_is : {a b : ℕ} → Only a ≡ Only b → a ≡ b
only_is e = cc

-- the pass of an input isn't the root
pub other_apart : (k : ℕ) (t4 t2 : TableId) (m w w' : View Step Opening) → IsOther k (shared_pass t4 m) (shared_pass t2 w) → w' ≡ w → w'.number ≡ 4294967295 → ⊥
other_apart k t4 t2 m w w' other e is =
    let low = other.connection in
    let own : w.number ≡ input_of k = only_is other.own in
    let same : w'.number ≡ w.number = ap (λ (x : View Step Opening). x.number) e in
    omega (arith, low, own, same, is)

-- ---- joined numbers

none_mapped : (f : Claim Step → Claim Step) (l : List (Claim Step)) → map f l ≡ [] → l ≡ []
none_mapped f [] e = refl
none_mapped f (c ∷ l) e = absurd (omega (arith, ap length e))

-- the input's number is among the joined ones, with its calls
keeps_input : (k : ℕ) (h : List Step) (before : List (Claim Step)) (w : View Step Opening) → w.number ≡ input_of k
    → Contains (map (with_calls h) (before ++ claims w)) (input_of k, calls_of (input_of k) h)
keeps_input k h [] w is =
    subst (λ n. Contains (map (with_calls h) (claims w)) (n, calls_of n h)) is (0, omega arith, refl)
keeps_input k h (c ∷ cs) w is =
    Contains-append_right (with_calls h c ∷ []) (map (with_calls h) (cs ++ claims w)) (input_of k, calls_of (input_of k) h) (keeps_input k h cs w is)

no_pair : (b : Bool) (n m : ℕ) (cs : List (Claim Step)) → (m + 2147483648 == n) ≡ false → times n cs ≡ 0 → times n (pair_claim b m ++ cs) ≡ 0
no_pair true n m cs e f = let z : bit (m + 2147483648 == n) ≡ 0 = ap bit e in omega (arith, z, f)
no_pair false n m cs e f = f

no_claim : (n : ℕ) (w : View Step Opening) → (w.number == n) ≡ false → (w.number + 2147483648 == n) ≡ false → w.joined_calls ≡ []
    → times n (claims w) ≡ 0
no_claim n w own pair joined_none =
    let z : bit (w.number == n) ≡ 0 = ap bit own in
    let rest : times n (pair_claim w.pair w.number ++ w.joined_calls) ≡ 0 =
    no_pair w.pair n w.number w.joined_calls pair (ap (times n) joined_none) in
    omega (arith, z, rest)

-- where the input's pass was joined, the own number still isn't
pub still_apart : (k : ℕ) (t4 t2 : TableId) (m w z : View Step Opening) → IsOther k (shared_pass t4 m) (shared_pass t2 w)
    → z ≡ joined m w → times m.number m.joined_calls ≡ 0 → times z.number z.joined_calls ≡ 0
still_apart k t4 t2 m w z other joins apart =
    let own : w.number ≡ input_of k = only_is other.own in
    let num : m.number ≡ k = only_is other.number in
    let none = no_claim m.number w (grind (arith, own, num)) (grind (arith, own, num)) (none_mapped (with_calls w.seen) w.joined_calls other.none_joined) in
    let both = times-append m.number m.joined_calls (claims w) in
    ap (λ (x : View Step Opening). times x.number x.joined_calls) joins ∙ omega (arith, both, apart, none)

-- what it leaves to take it in
pub taken_in : (k : ℕ) (t4 t2 t5 : TableId) (m w z : View Step Opening)
    → IsOther k (shared_pass t4 m) (shared_pass t2 w)
    → Learned author_of IsKept w → Learned author_of IsKept m → z ≡ joined m w → Learned author_of IsKept z
    → t5 ≡ t4 → Rejoined k (shared_pass t4 m) (shared_pass t2 w) (shared_pass t5 z)
taken_in k t4 t2 t5 m w z other learned_w learned_m joins learned home =
    let n = input_of k in
    let fronts = subst (λ (x : View Step Opening). EachFront z.seen x.ends) joins learned.fronts in
    let owns = subst (λ (x : View Step Opening). Each (λ c. c.1 ≡ steps_by author_of c.0 z.seen) (claims x)) joins learned.own in
    let back = each_behind (λ c. c.1 ≡ steps_by author_of c.0 z.seen) m.joined_calls (claims w) (each_behind (λ c. c.1 ≡ steps_by author_of c.0 z.seen) (pair_claim m.pair m.number) (m.joined_calls ++ claims w) owns.1) in
    record {
      mine = fronts.0;
      theirs = fronts.1.0;
      own_calls = sym (by_same k z.seen) ∙ subst (λ x. steps_by author_of x z.seen ≡ steps_by author_of x m.seen) (only_is other.number) (sym owns.0 ∙ learned_m.own.0) ∙ by_same k m.seen;
      input_calls = sym (by_same n z.seen) ∙ subst (λ x. steps_by author_of x z.seen ≡ steps_by author_of x w.seen) (only_is other.own) (sym back.0 ∙ learned_w.own.0) ∙ by_same n w.seen;
      keeps = inr (subst (λ l. Contains (map (with_calls z.seen) l) (n, calls_of n z.seen)) (sym (ap (λ (x : View Step Opening). x.joined_calls) joins))
          (keeps_input k z.seen m.joined_calls w (only_is other.own)));
      legal = subst (λ x. IsLegal x z.seen) (sym (ap charter_in learned.charter_is)) learned.seen_legal.0;
      looks = ap (λ (x : View Step Opening). x.looks) joins;
      same = record {
        number = ap Only (ap (λ (x : View Step Opening). x.number) joins);
        charter = ap (λ (x : View Step Opening). charter_in x.charter) joins;
        alone = refl;
        home = ap home_of home;
      };
    }
