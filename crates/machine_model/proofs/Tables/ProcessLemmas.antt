-- The table of processes after a change, an end and a beginning.
use Rattle.std.proofs.Common.{◌≡◌, ◌≢◌, ℕ, Bool, true, false, List, [], ◌∷◌, ◌++◌, Option, Some, None, refl, ap, sym, ◌∙◌, map, if◌then◌else◌, inl, inr, ◌⊎◌}
use Rattle.std.proofs.lemmas.Bool.Decides.{eqb_tells}
use Rattle.std.specs.Prelude.{option_map}
use Rattle.std.specs.List.{AllByRecursion}
use Rattle.engine_text.specs.Owner.{same_owner}
use Rattle.proc_kernel.specs.Processes.{Process}
use Rattle.proc_kernel.specs.Tables.{Entry, process_of, change, without, begun}
use Rattle.machine_model.specs.Consistency.{AreDistinct}
use Rattle.machine_model.proofs.OwnerLemmas.{owner_is, same_owner-refl}
use Rattle.engine_text.specs.declared.owner.Owner.{Owner}
use Rattle.engine_text.specs.declared.owner.Owner.TheVariants.{Container as OfContainer}

decide : (b : Bool) → (b ≡ true) ⊎ (b ≡ false)
decide true = inl refl
decide false = inr refl

pub other_owner : (m n : ℕ) → m ≢ n → same_owner (OfContainer m) (OfContainer n) ≡ false
other_owner m n h = elim (eqb_tells m n) [ inl e ↦ absurd (h e.1) | inr e ↦ e.0 ]

-- one owner is not another where a third is like one of them
unlike : (a o p : Owner) → same_owner a o ≡ true → same_owner p o ≡ false → same_owner a p ≡ false
unlike a o p e f = elim (decide (same_owner a p)) [
  | inl g ↦ let one : a ≡ o = owner_is a o e in let two : a ≡ p = owner_is a p g in
      let contra : same_owner p o ≡ true = ap (λ x. same_owner x o) (sym two) ∙ e in absurd (cc)
  | inr g ↦ g
]

-- ---- a beginning

pub begun_stands : (o : Owner) (p : Process) (es : List Entry) → process_of o es ≡ None → process_of o (es ++ begun o p ∷ []) ≡ Some p
begun_stands o p [] h = ap (λ b. if b then Some p else None) (same_owner-refl o)
begun_stands o p (e ∷ es) h =
    elim (decide (same_owner e.owner o)) [
      | inl b ↦ let c : Some e.process ≡ None = sym (ap (λ x. if x then Some e.process else process_of o es) b) ∙ h in absurd (cc)
      | inr b ↦ let rest : process_of o es ≡ None = sym (ap (λ x. if x then Some e.process else process_of o es) b) ∙ h in
          ap (λ x. if x then Some e.process else process_of o (es ++ begun o p ∷ [])) b ∙ begun_stands o p es rest
    ]

pub begun_others : (o q : Owner) (p : Process) (es : List Entry) → same_owner o q ≡ false → process_of q (es ++ begun o p ∷ []) ≡ process_of q es
begun_others o q p [] h = ap (λ b. if b then Some p else None) h
begun_others o q p (e ∷ es) h = ap (λ r. if same_owner e.owner q then Some e.process else r) (begun_others o q p es h)

-- ---- a change

step_either : (f : Process → Process) (b : Bool) (p : Process) (r : Option Process) → (if b then Some (f p) else option_map f r) ≡ option_map f (if b then Some p else r)
step_either f true p r = refl
step_either f false p r = refl

pub changed_stands : (o : Owner) (f : Process → Process) (es : List Entry) → process_of o (change o f es) ≡ option_map f (process_of o es)
changed_stands o f [] = refl
changed_stands o f (e ∷ es) =
    elim (decide (same_owner e.owner o)) [
      | inl b ↦
          ap (λ c. process_of o (if c then record e { process = f e.process } ∷ es else e ∷ change o f es)) b
          ∙ (ap (λ c. if c then Some (f e.process) else process_of o es) b
          ∙ sym (ap (λ c. option_map f (if c then Some e.process else process_of o es)) b))
      | inr b ↦
          ap (λ c. process_of o (if c then record e { process = f e.process } ∷ es else e ∷ change o f es)) b
          ∙ (ap (λ c. if c then Some e.process else process_of o (change o f es)) b
          ∙ (changed_stands o f es
          ∙ sym (ap (λ c. option_map f (if c then Some e.process else process_of o es)) b)))
    ]

pub changed_others : (o q : Owner) (f : Process → Process) (es : List Entry) → same_owner o q ≡ false → process_of q (change o f es) ≡ process_of q es
changed_others o q f [] h = refl
changed_others o q f (e ∷ es) h =
    elim (decide (same_owner e.owner o)) [
      | inl b ↦
          let off : same_owner e.owner q ≡ false = ap (λ x. same_owner x q) (owner_is e.owner o b) ∙ h in
          ap (λ c. process_of q (if c then record e { process = f e.process } ∷ es else e ∷ change o f es)) b
          ∙ (ap (λ c. if c then Some (f e.process) else process_of q es) off
          ∙ sym (ap (λ c. if c then Some e.process else process_of q es) off))
      | inr b ↦
          ap (λ c. process_of q (if c then record e { process = f e.process } ∷ es else e ∷ change o f es)) b
          ∙ ap (λ r. if same_owner e.owner q then Some e.process else r) (changed_others o q f es h)
    ]

All_either : (Q : Entry → Type 0) (b : Bool) (x y : Entry) (xs ys : List Entry) → Q x → Q y → AllByRecursion Q xs → AllByRecursion Q ys → AllByRecursion Q (if b then y ∷ xs else x ∷ ys)
All_either Q true x y xs ys px py pxs pys = (py, pxs)
All_either Q false x y xs ys px py pxs pys = (px, pys)

pub All_changed : (P : Entry → Type 0) (o : Owner) (f : Process → Process) → ((e : Entry) → P e → P (record e { process = f e.process })) → (es : List Entry) → AllByRecursion P es → AllByRecursion P (change o f es)
All_changed P o f makes [] h = tt
All_changed P o f makes (e ∷ es) h = All_either P (same_owner e.owner o) e (record e { process = f e.process }) es (change o f es) h.0 (makes e h.0) h.1 (All_changed P o f makes es h.1)

owners_either : (b : Bool) (x y : Entry) (xs ys : List Entry) → y.owner ≡ x.owner → map (λ e. e.owner) ys ≡ map (λ e. e.owner) xs → map (λ e. e.owner) (if b then y ∷ xs else x ∷ ys) ≡ x.owner ∷ map (λ e. e.owner) xs
owners_either true x y xs ys e r = ap (λ o. o ∷ map (λ e. e.owner) xs) e
owners_either false x y xs ys e r = ap (λ l. x.owner ∷ l) r

pub changed_owners : (o : Owner) (f : Process → Process) (es : List Entry) → map (λ e. e.owner) (change o f es) ≡ map (λ e. e.owner) es
changed_owners o f [] = refl
changed_owners o f (e ∷ es) = owners_either (same_owner e.owner o) e (record e { process = f e.process }) es (change o f es) refl (changed_owners o f es)

-- ---- an end

All_rest : {A : Type 0} (Q : A → Type 0) (b : Bool) (x : A) (xs ys : List A) → Q x → AllByRecursion Q xs → AllByRecursion Q ys → AllByRecursion Q (if b then xs else x ∷ ys)
All_rest Q true x xs ys px pxs pys = pxs
All_rest Q false x xs ys px pxs pys = (px, pys)

pub All_without : (P : Entry → Type 0) (o : Owner) (es : List Entry) → AllByRecursion P es → AllByRecursion P (without o es)
All_without P o [] h = tt
All_without P o (e ∷ es) h = All_rest P (same_owner e.owner o) e es (without o es) h.0 h.1 (All_without P o es h.1)

pub gone_others : (o q : Owner) (es : List Entry) → same_owner o q ≡ false → process_of q (without o es) ≡ process_of q es
gone_others o q [] h = refl
gone_others o q (e ∷ es) h =
    elim (decide (same_owner e.owner o)) [
      | inl b ↦
          let off : same_owner e.owner q ≡ false = ap (λ x. same_owner x q) (owner_is e.owner o b) ∙ h in
          ap (λ c. process_of q (if c then es else e ∷ without o es)) b ∙ sym (ap (λ c. if c then Some e.process else process_of q es) off)
      | inr b ↦
          ap (λ c. process_of q (if c then es else e ∷ without o es)) b ∙ ap (λ r. if same_owner e.owner q then Some e.process else r) (gone_others o q es h)
    ]

pub none_of : (o : Owner) (es : List Entry) → AllByRecursion (λ p. o ≢ p) (map (λ e. e.owner) es) → process_of o es ≡ None
none_of o [] h = refl
none_of o (e ∷ es) h =
    elim (decide (same_owner e.owner o)) [
      | inl b ↦ absurd (h.0 (sym (owner_is e.owner o b)))
      | inr b ↦ ap (λ c. if c then Some e.process else process_of o es) b ∙ none_of o es h.1
    ]

pub gone : (o : Owner) (es : List Entry) → AreDistinct (map (λ e. e.owner) es) → process_of o (without o es) ≡ None
gone o [] d = refl
gone o (e ∷ es) d =
    elim (decide (same_owner e.owner o)) [
      | inl b ↦
          let one : e.owner ≡ o = owner_is e.owner o b in
          ap (λ c. process_of o (if c then es else e ∷ without o es)) b ∙ none_of o es (rw (← one) d.0)
      | inr b ↦
          ap (λ c. process_of o (if c then es else e ∷ without o es)) b ∙ (ap (λ c. if c then Some e.process else process_of o (without o es)) b ∙ gone o es d.1)
    ]

All_owner_rest : (Q : Owner → Type 0) (o : Owner) (es : List Entry) → AllByRecursion Q (map (λ e. e.owner) es) → AllByRecursion Q (map (λ e. e.owner) (without o es))
All_owner_rest Q o [] h = tt
All_owner_rest Q o (e ∷ es) h = owner_rest (same_owner e.owner o) (All_owner_rest Q o es h.1)
  where
    owner_rest : (b : Bool) → AllByRecursion Q (map (λ e. e.owner) (without o es)) → AllByRecursion Q (map (λ e. e.owner) (if b then es else e ∷ without o es))
    owner_rest true r = h.1
    owner_rest false r = (h.0, r)

distinct_either : (b : Bool) (e : Entry) (xs ys : List Entry) → AllByRecursion (λ p. e.owner ≢ p) (map (λ e. e.owner) ys) → AreDistinct (map (λ e. e.owner) xs) → AreDistinct (map (λ e. e.owner) ys)
    → AreDistinct (map (λ e. e.owner) (if b then xs else e ∷ ys))
distinct_either true e xs ys a d r = d
distinct_either false e xs ys a d r = (a, r)

pub distinct_without : (o : Owner) (es : List Entry) → AreDistinct (map (λ e. e.owner) es) → AreDistinct (map (λ e. e.owner) (without o es))
distinct_without o [] d = tt
distinct_without o (e ∷ es) d = distinct_either (same_owner e.owner o) e es (without o es) (All_owner_rest (λ p. e.owner ≢ p) o es d.0) d.1 (distinct_without o es d.1)
