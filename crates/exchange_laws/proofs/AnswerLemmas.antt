-- What a request is answered by: its bytes alone, its call, or that there is no memory or no room for that.
use Rattle.std.proofs.Common.{arith, ◌≡◌, ℕ, List, [], ◌∷◌, refl, sym, ◌∙◌, subst, Option, Some, None}
use Rattle.engine_text.specs.declared.call.Call.{Call}
use Rattle.engine_text.specs.declared.step.Step.{Step}
use Rattle.http_edge.specs.Message.{Request}
use Rattle.machine_model.specs.History.{Charter}
use Rattle.api_routes.specs.Class.{class_of}
use Rattle.session_model.specs.Exchange.{Flow, call_of, IsAnswered, AtOnce, FromItsBytes, ByItsCall, JournalIsFull, OutOfMemory}
use Rattle.session_model.proofs.HistoryLemmas.{quiet_same}
use Rattle.session_model.proofs.TurnLemmas.{moves_same}
use Rattle.exchange_laws.specs.Laws.{law_answers}

abbrev IsNone : Option Call → Type 0
IsNone None = Unit {0}
IsNone (Some c) = ⊥

-- it asks for a call
asked_for : (r : Request) (c : Call) (ms : List ℕ) → call_of (class_of r) ≡ Some c → call_of (class_of r) ≡ None → ms ≡ []
asked_for r c ms class none = absurd (subst IsNone (sym none ∙ class) tt)

-- by what is told of how it goes on, of its bytes and of the moments
pub as_told : (ch : Charter) (k : ℕ) (r : Request) (behind : List ℕ) (a b : List Step) (flow g : Flow) (w v ms ns : List ℕ) → flow ≡ g → w ≡ v → ms ≡ ns
    → IsAnswered ch k r behind a b g v ns → IsAnswered ch k r behind a b flow w ms
as_told ch k r behind a b flow g w v ms ns flows bytes moments row =
    subst (λ x. IsAnswered ch k r behind a b x w ms) (sym flows)
    (subst (λ x. IsAnswered ch k r behind a b g x ms) (sym bytes) (subst (λ x. IsAnswered ch k r behind a b g v x) (sym moments) row))

pub answers : law_answers
unfolding moves_same
answers k r p q v w = record {
  direct = λ answer class. record {
    moves = moves_same k p v;
    answer = λ behind. AtOnce _ [] (FromItsBytes answer class (quiet_same k p.seen));
  };
  unclassed = record {
    moves = moves_same k p v;
    answer = λ behind. AtOnce _ [] (OutOfMemory [] (quiet_same k p.seen) (λ none. refl) (omega arith));
  };
  replied = λ handed c status body class f. record {
    moves = f.moves;
    answer = λ behind. as_told p.charter k r behind p.seen q.seen _ _ _ _ _ (handed ∷ []) refl refl f.one (AtOnce _ _ (ByItsCall c status handed body class f.came.0));
  };
  full = λ handed c class f. record {
    moves = f.moves;
    answer = λ behind. as_told p.charter k r behind p.seen q.seen _ _ _ _ _ (handed ∷ []) refl refl f.one (AtOnce _ _ (JournalIsFull c handed class f.came.0 f.came.1));
  };
  short = λ handed c class f. record {
    moves = f.moves;
    answer = λ behind. as_told p.charter k r behind p.seen q.seen _ _ _ _ _ (handed ∷ []) refl refl f.one
        (AtOnce _ _ (OutOfMemory (handed ∷ []) f.came (asked_for r c (handed ∷ []) class) (omega arith)));
  };
}
