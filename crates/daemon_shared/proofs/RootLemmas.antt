-- Lists that go together, and the root: it admits passes, and takes them in.
use Rattle.std.proofs.Common.{◌≡◌, ◌==◌, ◌+◌, ◌-◌, ◌<◌, ◌≤◌, ◌⊎◌, ℕ, suc, List, [], ◌∷◌, ◌++◌, length, map, Option, Bool, true, false, if◌then◌else◌, Result, Ok, Err, refl, sym, ◌∙◌, ap, subst, inl, inr, ⊎_elim, arith, append-nil, append_assoc, length-append}
use Rattle.std.specs.Prelude.{IfErr, IsErrAnd, Contains}
use Rattle.std.proofs.lemmas.List.Elements.{Contains-append_cases, Contains-push_cases}
use Rattle.atomic_table.specs.Seated.{TableId}
use Rattle.engine_text.specs.declared.step.Step.{Step}
use Rattle.engine_ports.specs.Rose.{Rose}
use Rattle.engine_ports.specs.Door.{Outside, DoorView, IsEmpty}
use Rattle.machine_model.specs.History.{Extends}
use Rattle.session_model.specs.Pass.{Only}
use Rattle.session_model.specs.declared.ending.Worst.{Worst}
use Rattle.session_model.specs.declared.ending.Worst.TheVariants as worst
use Rattle.turnstile.specs.Claims.{times, passed, EachFront}
use Rattle.turnstile.specs.Views.{claims, joined, admitted, parted, admits}
use Rattle.turnstile.specs.Plays.{Learned}
use Rattle.turnstile.specs.Turns.{Looked, IsAdmitted}
use Rattle.turnstile.specs.declared.view.View.{View}
use Rattle.daemon_shared.specs.Sharing.{author_of, IsKept}
use Rattle.daemon_shared.specs.Running.{Halts}
use Rattle.daemon_shared.specs.Sessions.{SharedSeat, IsRoot, Grows, IsReady, CanServe}
use Rattle.daemon_shared.specs.Threads.{AllPairs}
use Rattle.daemon_shared.specs.declared.one_daemon.Opening.{Opening}
use Rattle.daemon_shared.specs.declared.admission.Begun.{Begun}

-- ---- lists

module _ {A B : Type 0} where
  pub pairs_more : (R : A → B → Type 0) (xs : List A) (ys : List B) (x : A) (y : B) → AllPairs R xs ys → R x y → AllPairs R (xs ++ x ∷ []) (ys ++ y ∷ [])
  pairs_more R [] [] x y h r = (r, tt)
  pairs_more R (a ∷ xs) (b ∷ ys) x y h r = (h.0, pairs_more R xs ys x y h.1 r)
  pairs_more R [] (b ∷ ys) x y h r = absurd h
  pairs_more R (a ∷ xs) [] x y h r = absurd h

  pub pairs_to : (R Q : A → B → Type 0) → ((x : A) (y : B) → R x y → Q x y) → (xs : List A) (ys : List B) → AllPairs R xs ys → AllPairs Q xs ys
  pairs_to R Q go [] [] h = tt
  pairs_to R Q go (a ∷ xs) (b ∷ ys) h = (go a b h.0, pairs_to R Q go xs ys h.1)
  pairs_to R Q go [] (b ∷ ys) h = absurd h
  pairs_to R Q go (a ∷ xs) [] h = absurd h

pub none_left : {A : Type 0} (l : List A) → length l ≡ 0 → l ≡ []
none_left [] e = refl
none_left (x ∷ l) e = absurd (omega (arith, e))

-- so many came and aren't left
pub owed_more : (n a b : ℕ) → n < 2147483646 → n ≤ a → Rose a b → n + 1 ≤ b
owed_more n a b few le (inl lt) = omega arith
owed_more n a b few le (inr top) = omega arith

-- ---- the root

pub only_same : (a b : ℕ) → Only a ≡ Only b → a ≡ b
only_same a b e = cc

pub root_again : (table : TableId) (o : Option Opening) (k : ℕ) (root : SharedSeat) → IsRoot table o k root → IsRoot table root.me.0.charter root.me.0.next root
root_again table o k root is = record { pass = is.pass; number = is.number; next_is = refl; charter = refl; own_calls = is.own_calls }

pub root_now : (table : TableId) (o : Option Opening) (k : ℕ) (root : SharedSeat) → IsRoot table o k root → IsRoot table root.me.0.charter k root
root_now table o k root is = record { pass = is.pass; number = is.number; next_is = is.next_is; charter = refl; own_calls = is.own_calls }

-- a session may take what was taken in
pub can_serve : {Q S K C : Type 0} (seat : Q → SharedSeat) (told : S → K → C → Outside) (table : TableId) (o : Option Opening) (n : ℕ) (b : Begun Q S K C)
    → IsReady seat told table o n b → n < 2147483646 → CanServe seat table b
can_serve seat told table o n b ready few = record {
  connection = subst (λ m. m < 2147483646) (sym ready.number) few;
  pass = ready.newcomer.pass;
  number = ready.newcomer.number ∙ sym ready.number;
  pair = ready.newcomer.pair;
  apart = ap (λ l. times (seat b.pass).me.0.number l) ready.newcomer.joined_calls;
}

-- an error that is handed on
pub passed_on : {A E : Type 0} (P : E → Type 0) (r : Result A E) (e : E) → IsErrAnd r (λ x. x ≡ e) → P e → IfErr r P
passed_on P (Ok x) e is p = tt
passed_on P (Err x) e is p = subst P (sym is) p

module _ {A : Type 0} where
  -- the first, or one behind it
  pub contains_cons : (y : A) (ys : List A) (x : A) → Contains (y ∷ ys) x → (y ≡ x) ⊎ Contains ys x
  contains_cons y ys x h = ⊎_elim
      (λ (f : Contains (y ∷ []) x). ⊎_elim (λ (z : Contains [] x). absurd (omega (arith, z.1))) (λ (e : y ≡ x). inl e) (Contains-push_cases [] y x f))
      (λ (g : Contains ys x). inr g)
      (Contains-append_cases (y ∷ []) ys x h)

  pub contains_same : (xs ys : List A) (x : A) → xs ≡ ys → Contains xs x → Contains ys x
  contains_same xs ys x e h = subst (λ l. Contains l x) e h

pub map_length : {A B : Type 0} (f : A → B) (l : List A) → length (map f l) ≡ length l
map_length f [] = refl
map_length f (x ∷ l) = ap suc (map_length f l)

pub extends_two : (a b c : List Step) → Extends a b → Extends b c → Extends a c
extends_two a b c f g = (f.0 ++ g.0, g.1 ∙ ap (λ x. x ++ g.0) f.1 ∙ append_assoc a f.0 g.0)

-- what goes on and isn't longer is the same
pub extends_same : (a b : List Step) → Extends a b → length b ≤ length a → b ≡ a
extends_same a b f le = f.1 ∙ (ap (λ l. a ++ l) (none_left f.0 (let e = ap length f.1 ∙ length-append a f.0 in omega (arith, e, le))) ∙ append-nil a)

-- a root that took another pass in grew
pub fronts_on : (v w z : View Step Opening) → z ≡ joined v w → Learned author_of IsKept z → Extends v.seen z.seen × Extends w.seen z.seen
fronts_on v w z e learned = let f = subst (λ (l : List (List Step)). EachFront z.seen l) (ap (λ (u : View Step Opening). u.ends) e) learned.fronts in (f.0, f.1.0)

pub grows_joined : (v w z : View Step Opening) → z ≡ joined v w → Extends v.seen z.seen → Grows v z
grows_joined v w z e ext = record { seen = ext; more = claims w; joined_calls = ap (λ (u : View Step Opening). u.joined_calls) e }

-- ---- a root that admits

grows_two : (u v w : View Step Opening) → Grows u v → Grows v w → Grows u w
grows_two u v w f g = record {
  seen = extends_two u.seen v.seen w.seen f.seen g.seen;
  more = f.more ++ g.more;
  joined_calls = g.joined_calls ∙ (ap (λ l. l ++ g.more) f.joined_calls ∙ append_assoc u.joined_calls f.more g.more);
}

grows_looked : (v w : View Step Opening) → Looked author_of IsKept v w → Grows v w
grows_looked v w l = record {
  seen = (l.others.more, l.others.is);
  more = [];
  joined_calls = ap (λ (u : View Step Opening). u.joined_calls) l.after ∙ sym (append-nil v.joined_calls);
}

grows_admits : (b : Bool) (n : ℕ) (v : View Step Opening) → Grows v (if b then admitted v n else parted v)
grows_admits true n v = record { seen = ([], sym (append-nil v.seen)); more = passed v.next (n - v.next); joined_calls = refl }
grows_admits false n v = record { seen = ([], sym (append-nil v.seen)); more = []; joined_calls = sym (append-nil v.joined_calls) }

seen_admits : (b : Bool) (n : ℕ) (v : View Step Opening) → (if b then admitted v n else parted v).seen ≡ v.seen
seen_admits true n v = refl
seen_admits false n v = refl

pub grows_admitted : (n : ℕ) (table : TableId) (old new result : SharedSeat) → IsAdmitted author_of IsKept n table old new result → Grows old.me.0 new.me.0
grows_admitted n table old new result a = subst (λ (z : View Step Opening). Grows old.me.0 z) (sym a.left)
    (grows_two old.me.0 a.looked_to (admits n a.looked_to) (grows_looked old.me.0 a.looked_to a.looked) (grows_admits (a.looked_to.number == 4294967295) n a.looked_to))

-- the new one has seen what the root has
pub saw_admitted : (n : ℕ) (table : TableId) (old new result : SharedSeat) → IsAdmitted author_of IsKept n table old new result → result.me.0.seen ≡ new.me.0.seen
saw_admitted n table old new result a = ap (λ (z : View Step Opening). z.seen) a.is
    ∙ sym (ap (λ (z : View Step Opening). z.seen) a.left ∙ seen_admits (a.looked_to.number == 4294967295) n a.looked_to)

looks_admits : (b : Bool) (n : ℕ) (v : View Step Opening) → (if b then admitted v n else parted v).looks ≡ v.looks
looks_admits true n v = refl
looks_admits false n v = refl

-- it looked once
pub looks_admitted : (n : ℕ) (table : TableId) (old new result : SharedSeat) → IsAdmitted author_of IsKept n table old new result → new.me.0.looks ≡ old.me.0.looks + 1
looks_admitted n table old new result a = ap (λ (z : View Step Opening). z.looks) a.left
    ∙ (looks_admits (a.looked_to.number == 4294967295) n a.looked_to ∙ ap (λ (z : View Step Opening). z.looks) a.looked.after)

pub halts_on : (why : Worst) (most n : ℕ) (d d1 d2 : DoorView) → d2.coming ≡ d1.coming → d2.faults ≡ d1.faults → Halts why most n d d1 → Halts why most n d d2
halts_on worst.Closed most n d d1 d2 c f (inl full) = inl full
halts_on worst.Closed most n d d1 d2 c f (inr empty) = inr (subst (λ z. IsEmpty z) (sym c) empty)
halts_on worst.Fault most n d d1 d2 c f rose = subst (λ z. Rose d.faults z) (sym f) rose
halts_on worst.NoMemory most n d d1 d2 c f u = tt
halts_on worst.Stopped most n d d1 d2 c f never = absurd never
halts_on worst.Refused most n d d1 d2 c f never = absurd never
