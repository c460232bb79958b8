-- A closed session that answered no request but its last.
use Rattle.std.proofs.Common.{◌≡◌, inl, inr, ◌⊎◌, ℕ, List, [], ◌∷◌, ◌++◌, refl, sym, ap, subst, ◌∙◌}
use Rattle.engine_text.specs.declared.step.Step.{Step}
use Rattle.machine_model.specs.History.{Charter, IsLegal}
use Rattle.http_edge.specs.Message.{Request}
use Rattle.http_edge.specs.Spelling.{Begins, ReadsRequests}
use Rattle.session_model.specs.declared.ending.Ending.TheVariants.{Closed}
use Rattle.session_model.specs.Exchange.{IsAnswered}
use Rattle.session_model.specs.Session.{Span, AreAnswered, NoneYet, OneMore, Ends, EndsBy, IsWritten, IsSession}
use Rattle.both_ends.specs.BothEnds.{Visit, Served, OnesAreServed}

no_end : {A : Type 0} (xs : List A) (x : A) → xs ++ x ∷ [] ≡ [] → ⊥
no_end [] x e = cc
no_end (y ∷ xs) x e = cc

none_answered : (ch : Charter) (k : ℕ) (rs : List Request) (a b : List Step) (w ms : List ℕ) → AreAnswered ch k rs a b w ms → rs ≡ []
    → (b ≡ a) × (w ≡ []) × (ms ≡ [])
none_answered ch k rs a b w ms (NoneYet at) none = (refl, refl, refl)
none_answered ch k rs a b w ms (OneMore before r from mid to v u ns os done one) none = absurd (no_end before r none)

module _ (ch : Charter) (v : Visit) (s : IsSession ch v.number Closed v.pumps v.span) (legal : IsLegal ch v.span.to) (alone : s.done ≡ []) where
  abbrev last : Span
  last = record v.span { from = s.mid; written = s.last; handed = s.late }

  abbrev none : (s.mid ≡ v.span.from) × (s.bytes ≡ []) × (s.early ≡ [])
  none = none_answered ch v.number s.done v.span.from s.mid s.bytes s.early s.answered alone

  wrote : v.span.written ≡ s.last
  wrote = s.wrote ∙ ap (λ l. l ++ s.last) none.1

  handed : v.span.handed ≡ s.late
  handed = s.handed ∙ ap (λ l. l ++ s.late) none.2

  read : v.span.read ≡ s.tail
  read = subst (λ rs. ReadsRequests v.span.read rs s.tail) alone s.requests

  ended : (r : Request) (behind : List ℕ) → EndsBy ch v.number r behind Closed v.pumps last → EndsBy ch v.number r behind Closed v.pumps v.span
  ended r behind by = record {
    flow = by.flow;
    whole = by.whole;
    answered = subst (λ a. IsAnswered ch v.number r behind a v.span.to by.flow by.whole v.span.handed) none.0
        (subst (λ ms. IsAnswered ch v.number r behind s.mid v.span.to by.flow by.whole ms) (sym handed) by.answered);
    written = subst (λ w. IsWritten Closed by.flow by.whole w v.span.old.sink v.span.new.sink) (sym wrote) by.written;
    cause = by.cause;
    pumped = by.pumped;
  }

  one_served : Ends ch v.number Closed s.tail v.pumps last → ((r : Request) × Served ch v r) ⊎ (v.span.written ≡ [])
  one_served (inl end) = inr (wrote ∙ end.0.1)
  one_served (inr (r, behind, begins, by)) =
      inl (r, record { legal = legal; behind = behind; begins = subst (λ bytes. Begins bytes r behind) (sym read) begins; answers = ended r behind by })

pub ones_are_served : OnesAreServed
ones_are_served ch v s legal alone = one_served ch v s legal alone s.ends
