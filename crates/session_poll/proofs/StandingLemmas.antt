-- Where a session stands it is on its way, and stays there beside others.
use Rattle.std.proofs.Common.{arith, ◌≡◌, ℕ, List, [], slice_range, refl, sym, ◌∙◌, ap, subst}
use Rattle.std.proofs.lemmas.Bool.{false≢true}
use Rattle.engine_ports.proofs.PortLemmas.{source_none, sink_none}
use Rattle.engine_text.specs.declared.step.Step.{Step}
use Rattle.machine_model.specs.History.{Charter}
use Rattle.session_model.specs.Exchange.{IsQuiet}
use Rattle.session_model.specs.Session.{NoneYet, Span}
use Rattle.session_model.proofs.HistoryLemmas.{quiet_same}
use Rattle.polled_model.specs.Progress.{IsProgress}
use Rattle.polled_model.specs.Polls.{Ports, grown, outside_of}
use Rattle.polled_model.specs.Stages as stage
use Rattle.polled_model.specs.Steps.{StaysBeside}
use Rattle.polled_model.proofs.ProgressLemmas.{progress}
use Rattle.polled_model.proofs.StageLemmas as steps
use Rattle.session_poll.specs.declared.session.Session.{Session}
use Rattle.session_poll.specs.declared.state.State.{State}
use Rattle.session_poll.specs.Standing.{IsAt, IsIn, law_again, law_beside, law_new, law_standing, unread}

-- ---- on its way

in_progress : (ch : Charter) (k : ℕ) (state : State) (x : Session) (s : Span) → IsIn ch k state x s → IsProgress ch k s
in_progress ch k State.Reads x s (bytes, read, reads) = (progress ch k s).reads _ reads
in_progress ch k (State.Asks call terms early) x s (r, tail, read, reads, begins, asks, is, is') = (progress ch k s).reads tail reads
in_progress ch k (State.Waits ticket terms) x s (r, is, read, waits) = (progress ch k s).waits ticket r _ waits
in_progress ch k (State.WaitsEarly ticket terms out) x s (r, is, read, waits) = (progress ch k s).early ticket r _ _ waits
in_progress ch k (State.Opens call terms) x s (r, tail, read, reads, begins, opens, is) = (progress ch k s).reads tail reads
in_progress ch k (State.Streams given terms place out) x s (r, body, is, read, streams) = (progress ch k s).streams r _ given place body _ streams
in_progress ch k (State.Sends answer) x s (r, flow, read, sends, behind, decided) = (progress ch k s).sends flow r _ _ sends
in_progress ch k (State.Refuses out status) x s refuses = (progress ch k s).refuses status _ refuses

pub standing : law_standing
standing ch k x s at = in_progress ch k x.state x s at.stands

-- ---- beside steps of others

in_beside : (ch : Charter) (k : ℕ) (state : State) (x : Session) (s : Span) (b : List Step) → StaysBeside ch k s b → IsIn ch k state x s
    → IsIn ch k state x (record s { to = b })
in_beside ch k State.Reads x s b stays (bytes, read, reads) = (bytes, read, stays.reads _ reads)
in_beside ch k (State.Asks call terms early) x s b stays (r, tail, read, reads, begins, asks, is, is') =
    (r, tail, read, stays.reads tail reads, begins, asks, is, is')
in_beside ch k (State.Waits ticket terms) x s b stays (r, is, read, waits) = (r, is, read, stays.waits ticket r _ waits)
in_beside ch k (State.WaitsEarly ticket terms out) x s b stays (r, is, read, waits) = (r, is, read, stays.early ticket r _ _ waits)
in_beside ch k (State.Opens call terms) x s b stays (r, tail, read, reads, begins, opens, is) = (r, tail, read, stays.reads tail reads, begins, opens, is)
in_beside ch k (State.Streams given terms place out) x s b stays (r, body, is, read, streams) = (r, body, is, read, stays.streams r _ given place body _ streams)
in_beside ch k (State.Sends answer) x s b stays (r, flow, read, sends, behind, decided) = (r, flow, read, stays.sends flow r _ _ sends, behind, decided)
in_beside ch k (State.Refuses out status) x s b stays refuses = stays.refuses status _ refuses

pub at_beside : (ch : Charter) (k : ℕ) (x : Session) (s : Span) (b : List Step) → IsQuiet k s.to b → IsAt ch k x s → IsAt ch k x (record s { to = b })
at_beside ch k x s b quiet at = record {
  stands = in_beside ch k x.state x s b (steps.beside ch k s b quiet) at.stands;
  moved = at.moved;
  piece = at.piece;
}

pub beside : law_beside
beside ch k x v a b quiet (s, is, ports, at) =
    (record s { to = b }, refl, ports, at_beside ch k x s b (subst (λ y. IsQuiet k y b) (sym is) quiet) at)

pub again : law_again
again k told pause cx x x' p q v v' polls (s, is, ports, at) = (
  grown s polls.read polls.written polls.moments q.seen told.stop v',
  refl,
  refl,
  (polls.comes s is ports at).0,
)

-- ---- a new one

-- what it has done
abbrev beginning : List Step → Ports → Span
beginning a v = record { read = []; written = []; handed = []; from = a; to = a; old = outside_of v 0; new = outside_of v 0 }

none_unread : (from to : ℕ) (items : List ℕ) → from ≡ 0 → to ≡ 0 → slice_range items from to ≡ []
none_unread from to items is is' = ap (λ n. slice_range items n to) is ∙ ap (λ n. slice_range items 0 n) is'

reads_nothing : (ch : Charter) (k : ℕ) (a : List Step) (v : Ports) (tail : List ℕ) → tail ≡ [] → stage.Reads ch k tail (beginning a v)
reads_nothing ch k a v tail is = record {
  mid = a;
  stands = record { done = []; requests = sym is; answered = NoneYet a };
  quiet = quiet_same k a;
}

pub new_stands : law_new
new_stands ch k x a v new = (
  beginning a v,
  refl,
  refl,
  record {
    stands = subst (λ state. IsIn ch k state x (beginning a v)) (sym new.state)
        ([], (new.reader.2, new.reader.0), reads_nothing ch k a v (unread x) (none_unread x.from x.to x.piece.items new.from new.to));
    moved = record {
      ends = λ is. absurd (false≢true (sym new.ended ∙ is));
      source = source_none v.source.source;
      sink = sink_none v.sink.sink;
      stops = omega arith;
    };
    piece = record { unread = omega (arith, new.from); inside = omega (arith, new.to); size = new.size };
  },
)
