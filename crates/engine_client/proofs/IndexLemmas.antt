-- The places that are kept for ids, behind a change at one of them.
use Rattle.std.proofs.Common.{◌≡◌, ℕ, List, [], ◌∷◌, ◌++◌, drop, refl, sym, ap, ◌∙◌, subst, append-nil, Option, Some, None, Result, Ok, Err, Bool, true, false, cond}
use Rattle.std.specs.Prelude.{if◌then◌else◌, OnOk, OnErr}
use Rattle.std.specs.Option.{option_map_or}
use Rattle.std.specs.HashMap.{get_by_text}
use Rattle.std.specs.Str.{bytes_eq}
use Rattle.std.specs.declared.alloc.Global.{Global}
use Rattle.std.specs.declared.collections.VecDeque.{VecDeque}
use Rattle.std.proofs.lemmas.Slice.Eq.{bytes_eq-Decides}
use Rattle.engine_text.specs.Texts.{same_bytes}
use Rattle.engine_client.specs.Rows.{Places, places_at}

-- ---- what a call came to

pub on_ok : {X E : Type 0} (r : Result X E) (A B : Type 0) → (A → B) → OnOk r A → OnOk r B
on_ok (Ok x) A B f a = f a
on_ok (Err e) A B f a = tt

pub on_err : {X E : Type 0} (r : Result X E) (A B : Type 0) → (A → B) → OnErr r A → OnErr r B
on_err (Ok x) A B f a = tt
on_err (Err e) A B f a = f a

pub either_way : {X E : Type 0} (r : Result X E) (A B C : Type 0) → (A → C) → (B → C) → OnOk r A → OnErr r B → C
either_way (Ok x) A B C f g a b = f a
either_way (Err e) A B C f g a b = g b

-- ---- a change at one id

abbrev places_of : Option (VecDeque ℕ Global) → List ℕ
places_of o = option_map_or (λ (there : VecDeque ℕ Global). there.items) o []

module _ (m n : Places) (id : List ℕ) (w : VecDeque ℕ Global) (has : (q : List ℕ) → get_by_text n q ≡ cond (bytes_eq id q) (Some w) (get_by_text m q)) where
  -- what is kept now, by what was and what is there
  module _ (change : List ℕ → List ℕ → List ℕ) (now : w.items ≡ change id (places_at m id)) where
    changed : (q : List ℕ) → places_at n q ≡ cond (bytes_eq id q) (change q (places_at m q)) (places_at m q)
    changed q = by (bytes_eq id q) refl (has q)
      where
        by : (t : Bool) → bytes_eq id q ≡ t → get_by_text n q ≡ cond t (Some w) (get_by_text m q)
            → places_at n q ≡ cond t (change q (places_at m q)) (places_at m q)
        by true same is =
            ap places_of is ∙ now ∙ ap (λ i. change i (places_at m i)) ((bytes_eq-Decides id q).0 same)
        by false other is = ap places_of is

  -- a place more
  pub pushed : (v : VecDeque ℕ Global) (place : ℕ) → get_by_text m id ≡ Some v → w.items ≡ v.items ++ place ∷ []
      → (q : List ℕ) → places_at n q ≡ places_at m q ++ (if same_bytes id q then place ∷ [] else [])
  pushed v place was now q =
      changed (λ i l. l ++ place ∷ []) (now ∙ ap (λ l. l ++ place ∷ []) (sym (ap places_of was))) q ∙ by (bytes_eq id q)
    where
      by : (t : Bool) → cond t (places_at m q ++ place ∷ []) (places_at m q) ≡ places_at m q ++ (if t then place ∷ [] else [])
      by true = refl
      by false = sym (append-nil (places_at m q))

  -- the first is gone
  pub popped : (v : VecDeque ℕ Global) → get_by_text m id ≡ Some v → w.items ≡ drop 1 v.items
      → (q : List ℕ) → places_at n q ≡ (if same_bytes id q then drop 1 (places_at m q) else places_at m q)
  popped v was now = changed (λ i l. drop 1 l) (now ∙ ap (λ l. drop 1 l) (sym (ap places_of was)))

  -- none changed
  pub kept : (v : VecDeque ℕ Global) → get_by_text m id ≡ Some v → w.items ≡ v.items → (q : List ℕ) → places_at n q ≡ places_at m q
  kept v was now q = changed (λ i l. l) (now ∙ sym (ap places_of was)) q ∙ by (bytes_eq id q)
    where
      by : (t : Bool) → cond t (places_at m q) (places_at m q) ≡ places_at m q
      by true = refl
      by false = refl

  -- the first place of an id
  pub put : (place : ℕ) → w.items ≡ place ∷ [] → (q : List ℕ) → places_at n q ≡ (if same_bytes id q then place ∷ [] else places_at m q)
  put place now = changed (λ i l. place ∷ []) now

-- that, as a place more
pub put_more : (m n : Places) (id : List ℕ) (place : ℕ) → places_at m id ≡ []
    → ((q : List ℕ) → places_at n q ≡ (if same_bytes id q then place ∷ [] else places_at m q))
    → (q : List ℕ) → places_at n q ≡ places_at m q ++ (if same_bytes id q then place ∷ [] else [])
put_more m n id place none has q = has q ∙ by (same_bytes id q) refl
  where
    by : (t : Bool) → same_bytes id q ≡ t → (if t then place ∷ [] else places_at m q) ≡ places_at m q ++ (if t then place ∷ [] else [])
    by true same = ap (λ l. l ++ place ∷ []) (sym (ap (places_at m) (sym ((bytes_eq-Decides id q).0 same)) ∙ none))
    by false other = sym (append-nil (places_at m q))

-- an id without places
pub none_at : (m : Places) (id : List ℕ) → get_by_text m id ≡ None → places_at m id ≡ []
none_at m id none = ap places_of none

-- and nothing is taken away
pub none_gone : (m : Places) (id : List ℕ) → get_by_text m id ≡ None
    → (q : List ℕ) → places_at m q ≡ (if same_bytes id q then drop 1 (places_at m q) else places_at m q)
none_gone m id none q = by (same_bytes id q) refl
  where
    by : (t : Bool) → same_bytes id q ≡ t → places_at m q ≡ (if t then drop 1 (places_at m q) else places_at m q)
    by true same =
        let empty : places_at m q ≡ [] = ap (places_at m) (sym ((bytes_eq-Decides id q).0 same)) ∙ none_at m id none in
        empty ∙ sym (ap (λ l. drop 1 l) empty)
    by false other = refl
