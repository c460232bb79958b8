-- Bytes that are handed on.
use Rattle.std.proofs.Common.{arith, ◌≡◌, ◌<◌, ◌≤◌, ◌-◌, inl, inr, ℕ, List, [], ◌++◌, length, take, drop, refl, sym, ap, subst, ◌∙◌, append_assoc, append-nil, length-append}
use Rattle.std.specs.Prelude.{min}
use Rattle.std.proofs.lemmas.List.{take-append-drop, length-take-le}
use Rattle.front_session.specs.Fronts.{Deed, handing}
use Rattle.front_session.specs.Front.{GoesWithin, front_at}
use Rattle.front_session.specs.Steps.{Steps, Hands}
use Rattle.front_session.specs.declared.standing.Stage.{Stage}
use Rattle.front_session.specs.declared.standing.Stage.TheVariants.{Within, Open, Closed, Ended}
use Rattle.front_session.specs.declared.stepping.Act.{Act}
use Rattle.front_session.specs.declared.stepping.Act.TheVariants as act
use Rattle.front_session.proofs.ProgressLemmas.{no_bytes, handing_on, handing_then}

-- a front of the bytes, and the others
pub parted : (bytes front rest : List ℕ) (n : ℕ) → front ≡ take n bytes → rest ≡ drop n bytes → bytes ≡ front ++ rest
parted bytes front rest n f r = sym (ap (λ l. l ++ rest) f ∙ ap (λ l. take n bytes ++ l) r ∙ take-append-drop n bytes)

-- bytes that were to be handed on
pub owed_given : (owed later ahead into : List ℕ) (stage : Stage) (n : ℕ) → n ≡ min (length owed) (length into) → 0 < length owed → 0 < length into
    → take n into ≡ take n owed → later ≡ drop n owed → Steps (act.Gave n) into (front_at owed ahead stage) (front_at later ahead stage)
owed_given owed later ahead into stage n is some room front left = (
  omega (arith, is, some, room),
  omega (arith, is),
  λ more deeds d. (
    d.0,
    ap (λ l. handing (take n into) ++ l) d.1 ∙ handing_then (take n into) later d.0
        ∙ ap (λ l. handing l ++ d.0) (sym (parted owed (take n into) later n front left)),
    d.2,
  ),
  (λ e. e, λ e. e),
)

-- within a request's body
module _ (n left : ℕ) (into before after : List ℕ) (fits : n ≤ length into) (le : n ≤ left) (is : before ≡ take n into ++ after) where
  bytes_are : (more : List ℕ) → before ++ more ≡ take n into ++ (after ++ more)
  bytes_are more = ap (λ l. l ++ more) is ∙ append_assoc (take n into) after more

  len : length (take n into) ≡ n
  len = length-take-le n into fits

  pub within_on : (more : List ℕ) (later : List Deed) → GoesWithin (left - n) (after ++ more) later
      → GoesWithin left (before ++ more) (handing (take n into) ++ later)
  within_on more later (inl (body, behind, rest, sized, e, deeds, fronted)) = inl (
    take n into ++ body,
    behind,
    rest,
    omega (arith, length-append (take n into) body, len, sized, le),
    bytes_are more ∙ ap (λ l. take n into ++ l) e ∙ sym (append_assoc (take n into) body behind),
    ap (λ l. handing (take n into) ++ l) deeds ∙ handing_then (take n into) body rest,
    fronted,
  )
  within_on more later (inr (less, deeds)) = inr (
    omega (arith, ap length (bytes_are more), length-append (take n into) (after ++ more), len, less, le),
    ap (λ l. handing (take n into) ++ l) deeds ∙ sym (handing_on (take n into) (after ++ more)) ∙ ap handing (sym (bytes_are more)),
  )

  pub open_on : (more : List ℕ) (later : List Deed) → later ≡ handing (after ++ more) → handing (take n into) ++ later ≡ handing (before ++ more)
  open_on more later deeds =
      ap (λ l. handing (take n into) ++ l) deeds ∙ sym (handing_on (take n into) (after ++ more)) ∙ ap handing (sym (bytes_are more))

pub within_gave : (n left : ℕ) (into before after : List ℕ) → Hands left (act.Gave n) into before after
    → Steps (act.Gave n) into (front_at [] before (Within left)) (front_at [] after (Within (left - n)))
within_gave n left into before after (some, fits, le, is) = (
  some,
  fits,
  λ more later d.
      (handing (take n into) ++ later, refl, within_on n left into before after fits le is more later (subst (GoesWithin (left - n) (after ++ more)) (sym d.1) d.2)),
  (λ e. absurd (cc), λ e. absurd (cc)),
)

pub within_passes : (size left : ℕ) (into before after : List ℕ) → Hands left (act.Passes size) into before after
    → Steps (act.Passes size) into (front_at [] before (Within left)) (front_at [] after (Within left))
within_passes size left into before after (some, fits, le, none, same) =
    (ap (λ l. front_at [] l (Within left)) (same ∙ sym none), some, fits, refl, none, le)

-- where all is handed on
pub open_hands : (did : Act) (most : ℕ) (into before after : List ℕ) → Hands most did into before after → Steps did into (front_at [] before Open) (front_at [] after Open)
open_hands (act.Gave n) most into before after (some, fits, le, is) = (
  some,
  fits,
  λ more later d. (handing (take n into) ++ later, refl, open_on n most into before after fits le is more later (d.1 ∙ d.2)),
  (λ e. absurd (cc), λ e. absurd (cc)),
)
open_hands (act.Passes size) most into before after (some, fits, le, none, same) =
    (ap (λ l. front_at [] l Open) (same ∙ sym none), some, fits, refl, none, tt)
open_hands (act.Answers terms row) most into before after h = absurd h
open_hands (act.Wants size) most into before after h = absurd h
open_hands act.On most into before after h = absurd h
open_hands act.Ended most into before after h = absurd h
open_hands act.Lost most into before after h = absurd h

-- what was kept as the source ended
pub ended_gave : (ahead after into : List ℕ) (n : ℕ) → n ≡ min (length ahead) (length into) → 0 < length ahead → 0 < length into
    → take n into ≡ take n ahead → after ≡ drop n ahead → Steps (act.Gave n) into (front_at [] ahead Ended) (front_at [] after Ended)
ended_gave ahead after into n is some room front left = (
  omega (arith, is, some, room),
  omega (arith, is),
  λ more later d. (
    handing (take n into) ++ later,
    refl,
    (
      d.2.0,
      ap (λ l. handing (take n into) ++ l) (d.1 ∙ d.2.1) ∙ sym (handing_on (take n into) after)
          ∙ ap handing (sym (parted ahead (take n into) after n front left)),
    ),
  ),
  (λ e. refl, λ e. absurd (cc)),
)

-- nothing was kept
pub ended_all : (ahead into : List ℕ) → length ahead ≡ 0 → Steps act.Ended into (front_at [] ahead Ended) (front_at [] ahead Ended)
ended_all ahead into none = (refl, inl refl, ([], refl, (refl, ap handing (sym (no_bytes ahead none)))))

pub closed_all : (owed ahead into : List ℕ) → owed ≡ [] → Steps act.Ended into (front_at owed ahead Closed) (front_at owed ahead Closed)
closed_all owed ahead into none = (refl, inr refl, ([], ap handing (sym none) ∙ sym (append-nil (handing owed)), refl))

pub ahead_gave : (ahead after into : List ℕ) (n most : ℕ) → n ≡ min (length ahead) most → 0 < length ahead → 0 < most → most ≤ length into
    → take n into ≡ take n ahead → after ≡ drop n ahead → (0 < n) × (n ≤ length into) × (n ≤ most) × (ahead ≡ take n into ++ after)
ahead_gave ahead after into n most is some room fits front left =
    (omega (arith, is, some, room), omega (arith, is, fits), omega (arith, is), parted ahead (take n into) after n front left)
