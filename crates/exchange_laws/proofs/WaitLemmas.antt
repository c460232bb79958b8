-- A request whose call gave a ticket: what the wait for it came to.
use Rattle.std.proofs.Common.{◌≡◌, ℕ, List, ◌∷◌, ◌++◌, refl, ◌∙◌, ap, subst}
use Rattle.engine_ports.specs.Clock.{ClockView}
use Rattle.engine_text.specs.declared.call.Call.{Call}
use Rattle.engine_text.specs.declared.reply.Reply.{Reply}
use Rattle.engine_text.specs.declared.reply.Reply.TheVariants as reply
use Rattle.session_model.specs.declared.followed.Followed.TheVariants as F
use Rattle.session_model.specs.declared.turned.Awaited.{Awaited}
use Rattle.session_model.specs.declared.turned.Turned.TheVariants as T
use Rattle.session_model.specs.Exchange.{flow_of, IsGivenUp, IsWaited, AtOnce, ByItsTicket, DroppedForMemory, WaitIsStopped}
use Rattle.session_model.specs.Pass.{PassView}
use Rattle.session_model.specs.Responses.{terms_of, out_of_memory_response, stopping_response}
use Rattle.session_model.proofs.TurnLemmas.{moves_on}
use Rattle.attach_hub.specs.Waiting.{AwaitSays, IsDropped}
use Rattle.exchange_laws.specs.Answers.{broken_flow}
use Rattle.exchange_laws.specs.Laws.{law_waits}
use Rattle.exchange_laws.specs.Turns.{TurnComes}
use Rattle.exchange_laws.proofs.AnswerLemmas.{as_told}

-- the moments of a wait: that of its call, and those behind it
since_call : (k handed n : ℕ) (c : Call) (p q : PassView) (v w : ClockView) (ms : List ℕ) → (f : TurnComes k handed c (T.Begun n) p q v w)
    → f.moves.handed ++ ms ≡ handed ∷ ms
since_call k handed n c p q v w ms f = ap (λ x. x ++ ms) f.one

-- the ticket was taken
pub wait_taken : (k handed n : ℕ) (c : Call) (p q s : PassView) (u v w : ClockView) (ms : List ℕ) (given : Reply)
    → (f : TurnComes k handed c (T.Begun n) p q u v) → AwaitSays p.charter k n q.seen s.seen (Awaited.Replied given) ms v w
    → IsWaited p.charter k c (f.moves.handed ++ ms) p.seen s.seen given
wait_taken k handed n c p q s u v w ms given f (others, last, is, made, answer) =
    (n, handed, last, others, q.seen, since_call k handed n c p q u v ms f ∙ ap (λ y. handed ∷ y) is, f.came, made)

-- or dropped
pub wait_dropped : (k handed n : ℕ) (c : Call) (p q s : PassView) (u v : ClockView) (ms : List ℕ)
    → (f : TurnComes k handed c (T.Begun n) p q u v) → IsDropped p.charter k n q.seen s.seen
    → IsGivenUp p.charter k c (f.moves.handed ++ ms) p.seen s.seen
wait_dropped k handed n c p q s u v ms f (given, made) =
    (n, handed, ms, q.seen, given, since_call k handed n c p q u v ms f, f.came, made)

pub waited : law_waits
unfolding moves_on
waited k handed n r c (Awaited.Replied given) whole p q s u v w class late first last says (status, body, is, bytes) = record {
  moves = moves_on k p q s u v w first.moves last;
  answer = λ behind. as_told p.charter k r behind p.seen s.seen (flow_of (terms_of r)) (flow_of (terms_of r)) whole _ _ _ refl bytes refl
      (AtOnce _ _ (ByItsTicket c status body _ class late
      (wait_taken k handed n c p q s u v w last.handed (reply.Answer status body) first
      (subst (λ y. AwaitSays p.charter k n q.seen s.seen (Awaited.Replied y) last.handed v w) is says))));
}
waited k handed n r c Awaited.Stopped whole p q s u v w class late first last says bytes = record {
  moves = moves_on k p q s u v w first.moves last;
  answer = λ behind. as_told p.charter k r behind p.seen s.seen (broken_flow F.Stopped) (broken_flow F.Stopped) whole (stopping_response (terms_of r)) _ _ refl bytes refl
      (WaitIsStopped c _ class late (wait_dropped k handed n c p q s u v last.handed first says.0));
}
waited k handed n r c Awaited.WriteFault whole p q s u v w class late first last says bytes = record {
  moves = moves_on k p q s u v w first.moves last;
  answer = λ behind. as_told p.charter k r behind p.seen s.seen (flow_of (terms_of r)) (flow_of (terms_of r)) whole (out_of_memory_response (terms_of r)) _ _ refl bytes refl
      (AtOnce _ _ (DroppedForMemory c _ class late (wait_dropped k handed n c p q s u v last.handed first says)));
}
waited k handed n r c Awaited.NoMemory whole p q s u v w class late first last says bytes = record {
  moves = moves_on k p q s u v w first.moves last;
  answer = λ behind. as_told p.charter k r behind p.seen s.seen (flow_of (terms_of r)) (flow_of (terms_of r)) whole (out_of_memory_response (terms_of r)) _ _ refl bytes refl
      (AtOnce _ _ (DroppedForMemory c _ class late (wait_dropped k handed n c p q s u v last.handed first says)));
}
