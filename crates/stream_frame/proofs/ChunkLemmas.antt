-- A run of payload bytes at once.
use Rattle.std.proofs.Common.{◌≡◌, ◌⊎◌, ℕ, suc, ◌+◌, ◌-◌, ◌≤◌, ◌<◌, List, [], ◌∷◌, ◌++◌, length, Bool, true, false, refl, sym, ap, ◌∙◌, subst, ⊎_elim, inl, inr, arith, length-append}
use Rattle.std.specs.Prelude.{nat_le, if◌then◌else◌, Ok, Err}
use Rattle.std.proofs.lemmas.Bool.Decides.{nat_tests}
use Rattle.engine_text.specs.declared.script.Stream.{Stream}
use Rattle.stream_frame.specs.declared.fault.FrameFault.{FrameFault}
use Rattle.stream_frame.specs.Demuxing.{Rest, Header, Payload, Faulted, Held}
use Rattle.stream_frame.specs.declared.demux.Next.{Next}
use Rattle.stream_frame.specs.declared.demux.Next.TheVariants as next
use Rattle.stream_frame.specs.Steps.{IsNextOf, IsPastHeader, counted, by_payload, held_after, extend, items_of}

abbrev lacking : Stream → ℕ → ℕ → Held
lacking kind missing at = record { rest = Payload kind missing; at = at }

count_on : (at n : ℕ) → counted n (counted 1 at) ≡ counted (suc n) at
count_on at n = omega arith

rest_on : (kind : Stream) (missing n : ℕ) (s t : Bool) → 1 ≤ missing → nat_le (missing - 1) n ≡ s → nat_le missing (suc n) ≡ t
    → (if s then Header [] else Payload kind (missing - 1 - n)) ≡ (if t then Header [] else Payload kind (missing - suc n))
rest_on kind missing n true true some a b = refl
rest_on kind missing n true false some a b = absurd (grind (arith, nat_tests))
rest_on kind missing n false true some a b = absurd (grind (arith, nat_tests))
rest_on kind missing n false false some a b = ap (Payload kind) (omega arith)

by_on : (kind : Stream) (missing n at : ℕ) → 1 ≤ missing → by_payload kind (missing - 1) n (counted 1 at) ≡ by_payload kind missing (suc n) at
by_on kind missing n at some =
    let r = rest_on kind missing n (nat_le (missing - 1) n) (nat_le missing (suc n)) some refl refl in
    let c = count_on at n in
    λ i. record { rest = r i; at = c i }

-- where more than one byte is missing
more_missing : (kind : Stream) (missing : ℕ) → 2 ≤ missing → nat_le missing 1 ≡ false
more_missing kind missing more = grind (arith, nat_tests)

after_one : (kind : Stream) (missing at : ℕ) → 2 ≤ missing → by_payload kind missing 1 at ≡ lacking kind (missing - 1) (counted 1 at)
after_one kind missing at more =
    ap (λ (t : Bool). record { rest = if t then Header [] else Payload kind (missing - 1); at = counted 1 at }) (more_missing kind missing more)

pub held_chunk : (kind : Stream) (missing at b : ℕ) (bs rest : List ℕ) → suc (length bs) ≤ missing
    → held_after (lacking kind missing at) (b ∷ bs ++ rest) ≡ held_after (by_payload kind missing (suc (length bs)) at) rest
held_chunk kind missing at b [] rest le = refl
held_chunk kind missing at b (c ∷ cs) rest le =
    ap (λ (h : Held). held_after h (c ∷ cs ++ rest)) (after_one kind missing at (omega arith))
    ∙ (held_chunk kind (missing - 1) (counted 1 at) c cs rest (omega arith)
    ∙ ap (λ (h : Held). held_after h rest) (by_on kind missing (suc (length cs)) at (omega arith)))

-- the last byte of an item
last_byte : (kind : Stream) (missing at b : ℕ) (rest : List ℕ) (t : Bool) → nat_le missing 1 ≡ t → 1 ≤ missing → (rest ≡ []) ⊎ (1 ≡ missing)
    → (if t then Ok (kind, b ∷ []) ∷ items_of (record { rest = if t then Header [] else Payload kind (missing - 1); at = counted 1 at }) rest
    else extend kind b (items_of (record { rest = if t then Header [] else Payload kind (missing - 1); at = counted 1 at }) rest))
    ≡ Ok (kind, b ∷ []) ∷ items_of (record { rest = if t then Header [] else Payload kind (missing - 1); at = counted 1 at }) rest
last_byte kind missing at b rest true is some ends = refl
last_byte kind missing at b [] false is some ends = refl
last_byte kind missing at b (x ∷ xs) false is some ends = absurd (⊎_elim (λ (e : x ∷ xs ≡ []). cc) (λ (e : 1 ≡ missing). grind (arith, nat_tests)) ends)

pub items_chunk : (kind : Stream) (missing at b : ℕ) (bs rest : List ℕ) → suc (length bs) ≤ missing → (rest ≡ []) ⊎ (suc (length bs) ≡ missing)
    → items_of (lacking kind missing at) (b ∷ bs ++ rest) ≡ Ok (kind, b ∷ bs) ∷ items_of (by_payload kind missing (suc (length bs)) at) rest
items_chunk kind missing at b [] rest le ends = last_byte kind missing at b rest (nat_le missing 1) refl le ends
items_chunk kind missing at b (c ∷ cs) rest le ends =
    let more : 2 ≤ missing = omega arith in
    let ends' : (rest ≡ []) ⊎ (suc (length cs) ≡ missing - 1) = ⊎_elim (λ e. inl e) (λ (e : suc (suc (length cs)) ≡ missing). inr (omega arith)) ends in
    ap (λ (t : Bool). if t then Ok (kind, b ∷ []) ∷ items_of (by_payload kind missing 1 at) (c ∷ cs ++ rest) else extend kind b (items_of (by_payload kind missing 1 at) (c ∷ cs ++ rest))) (more_missing kind missing more)
    ∙ (ap (λ (h : Held). extend kind b (items_of h (c ∷ cs ++ rest))) (after_one kind missing at more)
    ∙ (ap (extend kind b) (items_chunk kind (missing - 1) (counted 1 at) c cs rest (omega arith) ends')
    ∙ ap (λ (h : Held). Ok (kind, b ∷ c ∷ cs) ∷ items_of h rest) (by_on kind missing (suc (length cs)) at (omega arith))))

-- what a walk meets at a payload
module _ (d e f : Held) (piece p part rest : List ℕ) (kind : Stream) (missing : ℕ)
    (same : items_of e p ≡ items_of d piece) (is : e.rest ≡ Payload kind missing) (lacks : 0 < missing)
    (joined : p ≡ part ++ rest) (within : length part ≤ missing) (ends : (rest ≡ []) ⊎ (length part ≡ missing))
    (after : f ≡ by_payload kind missing (length part) e.at) where
  empty : (xs : List ℕ) → length xs ≡ 0 → xs ≡ []
  empty [] z = refl
  empty (x ∷ xs) z = absurd (omega arith)

  whole : items_of d piece ≡ items_of (lacking kind missing e.at) (part ++ rest)
  whole = sym same ∙ (ap (λ (r : Rest). items_of (record { rest = r; at = e.at }) p) is ∙ ap (items_of (lacking kind missing e.at)) joined)

  pub walks_none : length part ≡ 0 → (items_of d piece ≡ []) × (items_of f rest ≡ [])
  walks_none zero_long =
      let none : part ≡ [] = empty part zero_long in
      let bare : rest ≡ [] = ⊎_elim (λ e. e) (λ (e : length part ≡ missing). absurd (let z : length part ≡ 0 = ap length none in omega arith)) ends in
      let over : part ++ rest ≡ [] = λ i. none i ++ bare i in
      let left : f ≡ by_payload kind missing 0 e.at = after ∙ ap (λ l. by_payload kind missing (length l) e.at) none in
      let still : nat_le missing 0 ≡ false = grind (arith, nat_tests) in
      let kept : by_payload kind missing 0 e.at ≡ record { rest = Payload kind (missing - 0); at = counted 0 e.at } = ap (λ (t : Bool). record { rest = if t then Header [] else Payload kind (missing - 0); at = counted 0 e.at }) still in
      (whole ∙ ap (items_of (lacking kind missing e.at)) over, (λ i. items_of (left i) (bare i)) ∙ ap (λ (h : Held). items_of h []) kept)

  pub walks_some : 0 < length part → items_of d piece ≡ Ok (kind, part) ∷ items_of f rest
  walks_some some = whole ∙ (chunk part within ends some ∙ ap (λ (h : Held). Ok (kind, part) ∷ items_of h rest) (sym after))
    where
      chunk : (xs : List ℕ) → length xs ≤ missing → (rest ≡ []) ⊎ (length xs ≡ missing) → 0 < length xs
          → items_of (lacking kind missing e.at) (xs ++ rest) ≡ Ok (kind, xs) ∷ items_of (by_payload kind missing (length xs) e.at) rest
      chunk [] le es full = absurd (omega arith)
      chunk (x ∷ xs) le es full = items_chunk kind missing e.at x xs rest le es

-- what a pass does at a payload
module _ (e f : Held) (p part rest : List ℕ) (kind : Stream) (missing : ℕ)
    (is : e.rest ≡ Payload kind missing) (lacks : 0 < missing) (some : 0 < length p)
    (joined : p ≡ part ++ rest) (within : length part ≤ missing) (ends : (rest ≡ []) ⊎ (length part ≡ missing))
    (after : f ≡ by_payload kind missing (length part) e.at) where
  pub pass_some : 0 < length part
  pass_some = let sum : length p ≡ length part + length rest = ap length joined ∙ length-append part rest in
      ⊎_elim (λ (b : rest ≡ []). let z : length rest ≡ 0 = ap length b in omega arith) (λ (l : length part ≡ missing). omega arith) ends

  pub pass_held : held_after e p ≡ held_after f rest
  pass_held = ap (λ (r : Rest). held_after (record { rest = r; at = e.at }) p) is
      ∙ (ap (held_after (lacking kind missing e.at)) joined ∙ (chunk part within pass_some ∙ ap (λ (h : Held). held_after h rest) (sym after)))
    where
      chunk : (xs : List ℕ) → length xs ≤ missing → 0 < length xs → held_after (lacking kind missing e.at) (xs ++ rest) ≡ held_after (by_payload kind missing (length xs) e.at) rest
      chunk [] le full = absurd (omega arith)
      chunk (x ∷ xs) le full = held_chunk kind missing e.at x xs rest le

  pub pass_shorter : length rest < length p
  pass_shorter = let sum : length p ≡ length part + length rest = ap length joined ∙ length-append part rest in let s = pass_some in omega arith

-- where a pass ends
pub pass_over : (e : Held) (p : List ℕ) (n : Next) → IsNextOf n e.rest → IsPastHeader e.rest p → ((kind : Stream) (missing : ℕ) → n ≡ next.Payload kind missing → ⊥) → e ≡ held_after e p
pass_over e p (next.Header have) is past none = ap (held_after e) (sym (subst (λ (r : Rest). IsPastHeader r p) is.1 past))
pass_over e p (next.Payload kind missing) is past none = absurd (none kind missing refl)
pass_over e p (next.Faulted fault) is past none = subst (λ (h : Held). h ≡ held_after h p) (λ i. record { rest = sym is i; at = e.at }) (stays p)
  where
    stays : (xs : List ℕ) → record { rest = Faulted fault; at = e.at } ≡ held_after (record { rest = Faulted fault; at = e.at }) xs
    stays [] = refl
    stays (x ∷ xs) = stays xs

pub walks_fault : (d e : Held) (piece p : List ℕ) (fault : FrameFault) → items_of e p ≡ items_of d piece → e.rest ≡ Faulted fault → items_of d piece ≡ Err fault ∷ []
walks_fault d e piece p fault same is = sym same ∙ (ap (λ (r : Rest). items_of (record { rest = r; at = e.at }) p) is ∙ told e.at p)
  where
    told : (at : ℕ) (xs : List ℕ) → items_of (record { rest = Faulted fault; at = at }) xs ≡ Err fault ∷ []
    told at [] = refl
    told at (x ∷ xs) = told at xs
