-- The least of what is due is found one after the other.
use Rattle.std.proofs.Common.{◌≡◌, Bool, true, false, List, [], ◌∷◌, ◌++◌, Option, Some, None, refl, ap, sym, ◌∙◌, subst, arith, if◌then◌else◌, inl, inr, append-nil}
use Rattle.std.proofs.lemmas.Bool.Decides.{nat_tests}
use Rattle.container_table.specs.Timers.{is_before, least}
use Rattle.container_table.proofs.LeastLemmas.{IsIn, IsFirst, IsLeastOf, all_after, least_is, least_of_these}
use Rattle.machine_model.proofs.ListLemmas.{all_append}
use Rattle.machine_tables.specs.LeastDue.{lesser}
use Rattle.engine_text.specs.declared.step.DueAction.{DueAction}

in_front : (d : DueAction) (ds es : List DueAction) → IsIn d ds → IsIn d (ds ++ es)
in_front d [] es i = absurd i
in_front d (y ∷ ys) es i = elim i [ inl e ↦ inl e | inr j ↦ inr (in_front d ys es j) ]

behind : (d : DueAction) (ds es : List DueAction) → IsIn d es → IsIn d (ds ++ es)
behind d [] es i = i
behind d (y ∷ ys) es i = inr (behind d ys es i)

-- ---- two lists

-- what isn't before one isn't before what that one isn't before
not_before_either : (a b c : DueAction) → is_before a b ≡ false → is_before c a ≡ false → is_before c b ≡ false
not_before_either a b c e f = grind (arith, nat_tests, e, f)

first_after : (a b : DueAction) (ds : List DueAction) → is_before a b ≡ false → IsFirst a ds → IsFirst b ds
first_after a b [] e f = tt
first_after a b (x ∷ xs) e f = (not_before_either a b x e f.0, first_after a b xs e f.1)

of_both : (a b : Option DueAction) (xs ys : List DueAction) → IsLeastOf xs a → IsLeastOf ys b → lesser a b ≡ least (xs ++ ys)
of_both a None xs ys first second = subst (λ (l : List DueAction). a ≡ least (xs ++ l)) (sym second) (least_so a xs first ∙ ap least (sym (append-nil xs)))
  where
    least_so : (o : Option DueAction) (ds : List DueAction) → IsLeastOf ds o → o ≡ least ds
    least_so None ds e = sym (ap least e)
    least_so (Some d) ds of = sym (least_is d ds of.0 of.1)
of_both None (Some d) xs ys first second = subst (λ (l : List DueAction). Some d ≡ least (l ++ ys)) (sym first) (sym (least_is d ys second.0 second.1))
of_both (Some b) (Some d) xs ys first second = by_order (is_before d b) refl
  where
    by_order : (t : Bool) → is_before d b ≡ t → Some (if t then d else b) ≡ least (xs ++ ys)
    by_order true e = sym (least_is d (xs ++ ys) (behind d xs ys second.0) (all_append (λ y. is_before y d ≡ false) xs ys (all_after d b xs e first.1) second.1))
    by_order false e = sym (least_is b (xs ++ ys) (in_front b xs ys first.0) (all_append (λ y. is_before y b ≡ false) xs ys first.1 (first_after d b ys e second.1)))

pub least_both : (xs ys : List DueAction) → lesser (least xs) (least ys) ≡ least (xs ++ ys)
least_both xs ys = of_both (least xs) (least ys) xs ys (least_of_these xs) (least_of_these ys)
