-- A session that has done nothing, wherever the history stands.
use Rattle.std.proofs.Common.{arith, ◌≡◌, ◌++◌, ℕ, List, [], slice_range, refl, sym, ◌∙◌, ap, subst}
use Rattle.std.proofs.lemmas.Bool.{false≢true}
use Rattle.engine_ports.proofs.PortLemmas.{source_none, sink_none}
use Rattle.engine_text.specs.declared.step.Step.{Step}
use Rattle.machine_model.specs.History.{Charter}
use Rattle.session_model.specs.Session.{NoneYet, Span}
use Rattle.session_model.proofs.HistoryLemmas.{quiet_same}
use Rattle.polled_model.specs.Polls.{Ports, outside_of}
use Rattle.polled_model.specs.Stages as stage
use Rattle.session_poll.specs.declared.session.Session.{Session}
use Rattle.session_poll.specs.Standing.{IsAt, IsIn, IsNew, unread}

-- what it has done
abbrev pub beginning : List Step → Ports → Span
beginning a v = record { read = []; written = []; handed = []; from = a; to = a; old = outside_of v 0; new = outside_of v 0 }

none_unread : (from to : ℕ) (items : List ℕ) → from ≡ 0 → to ≡ 0 → slice_range items from to ≡ []
none_unread from to items is is' = ap (λ n. slice_range items n to) is ∙ ap (λ n. slice_range items 0 n) is'

reads_nothing : (ch : Charter) (k : ℕ) (a : List Step) (v : Ports) (tail : List ℕ) → tail ≡ [] → stage.Reads ch k tail (beginning a v)
reads_nothing ch k a v tail is = record {
  mid = a;
  stands = record { done = []; requests = sym is; answered = NoneYet a };
  quiet = quiet_same k a;
}

pub new_at : (ch : Charter) (k : ℕ) (x : Session) (a : List Step) (v : Ports) → IsNew k x → IsAt ch k x (beginning a v)
new_at ch k x a v new = record {
  stands = subst (λ state. IsIn ch k state x (beginning a v)) (sym new.state)
      ([], (new.reader.2, new.reader.0), reads_nothing ch k a v (unread x) (none_unread x.from x.to x.piece.items new.from new.to));
  moved = record {
    ends = λ is. absurd (false≢true (sym new.ended ∙ is));
    source = source_none v.source.source;
    sink = sink_none v.sink.sink;
    stops = omega arith;
  };
  piece = record { unread = omega (arith, new.from); inside = omega (arith, new.to); size = new.size };
}
