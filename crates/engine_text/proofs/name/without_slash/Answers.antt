use Rattle.std.proofs.Common.{◌≡◌, ℕ, List, [], ◌∷◌, refl, ap, inl, inr}
use Rattle.std.proofs.lemmas.Bool.Decides.{eqb_tells}
use Rattle.engine_text.specs.Texts.{without_slash}
use lib.Utf8
use Rattle.engine_text.proofs.name.without_slash.Goals as goal

-- a text that isn't a slash and a rest is the same without one
same : (xs : List ℕ) → ((rest : List ℕ) → xs ≡ 47 ∷ rest → ⊥) → xs ≡ without_slash xs
same [] h = refl
same (x ∷ xs) h = elim (eqb_tells x 47) [ inl e ↦ absurd (h xs (ap (λ n. n ∷ xs) e.1)) | inr e ↦ rw e.0 refl ]

pub returns-in-None : goal.returns-in-None
unfolding lib.Utf8.encode
returns-in-None c = same c.args.name.now (λ rest e. c.in-None.ensures.cases rest e)
