-- When two owners are one.
use Rattle.std.proofs.Common.{◌≡◌, true, refl, ap, inl, inr}
use Rattle.std.proofs.lemmas.Bool.Decides.{eqb_tells}
use Rattle.engine_text.specs.Owner.{same_owner}
use Rattle.engine_text.specs.declared.owner.Owner.{Owner}
use Rattle.engine_text.specs.declared.owner.Owner.TheVariants.{Container as OfContainer, Exec as OfExec}

pub owner_is : (a b : Owner) → same_owner a b ≡ true → a ≡ b
owner_is (OfContainer m) (OfContainer n) e = elim (eqb_tells m n) [ inl h ↦ ap OfContainer h.1 | inr h ↦ absurd (cc) ]
owner_is (OfExec m) (OfExec n) e = elim (eqb_tells m n) [ inl h ↦ ap OfExec h.1 | inr h ↦ absurd (cc) ]
owner_is (OfContainer m) (OfExec n) e = absurd (cc)
owner_is (OfExec m) (OfContainer n) e = absurd (cc)

pub same_owner-refl : (o : Owner) → same_owner o o ≡ true
same_owner-refl (OfContainer n) = elim (eqb_tells n n) [ inl h ↦ h.0 | inr h ↦ absurd (h.1 refl) ]
same_owner-refl (OfExec n) = elim (eqb_tells n n) [ inl h ↦ h.0 | inr h ↦ absurd (h.1 refl) ]
