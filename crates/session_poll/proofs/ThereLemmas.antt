-- What a state tells, as its source, its sink and the stops of its daemon go on.
use Rattle.std.proofs.Common.{arith, ◌≡◌, ◌≤◌, ℕ, Bool, true, false, List, ◌++◌, length, inl, sym, ◌∙◌, ap, subst, None, Some}
use Rattle.std.specs.Prelude.{IsTrue, IsFalse}
use Rattle.std.proofs.lemmas.Bool.{false≢true}
use Rattle.engine_ports.specs.Door.{Outside, outside}
use Rattle.engine_ports.specs.Rose.{Rose}
use Rattle.engine_ports.specs.Sink.{SinkTook}
use Rattle.engine_ports.specs.Source.{SourceEnded, SourceGave, SourceView}
use Rattle.engine_ports.proofs.PortLemmas.{rose_since, rose_until, sink_on, source_on}
use Rattle.engine_text.specs.declared.call.Call.{Call}
use Rattle.engine_text.specs.declared.reply.Reply.{Reply}
use Rattle.http_edge.specs.Message.{Request}
use Rattle.machine_model.specs.History.{Charter}
use Rattle.session_model.specs.declared.followed.Followed.TheVariants as F
use Rattle.session_model.specs.Exchange.{Flow, GoesOn, Closes, Leaves}
use Rattle.session_model.specs.Session.{Cause, Span, is_pumped}
use Rattle.polled_model.specs.Polls.{Ports, StandsAtPorts, outside_of, stops_after, told_stop}
use Rattle.polled_model.specs.Stages as stage
use Rattle.session_poll.specs.declared.session.Session.{Session}
use Rattle.session_poll.specs.declared.state.State.{State}
use Rattle.session_poll.specs.Going.{IsPolled}
use Rattle.session_poll.specs.Standing.{HasMoved, HasPiece, IsAt, IsIn}

-- ---- causes

true_not : (true ≡ false) → ⊥
true_not is = false≢true (sym is)

pub cause_on : (flow : Flow) (o u w : Outside) → IsFalse (is_pumped flow) → u.sink.faults ≤ w.sink.faults → u.clock.stops ≤ w.clock.stops
    → Cause flow o u → Cause flow o w
cause_on GoesOn o u w none faults stops cause = tt
cause_on Closes o u w none faults stops cause = tt
cause_on (Leaves F.Stopped None) o u w none faults stops cause = (rose_until o.clock.stops u.clock.stops w.clock.stops cause.0 stops, tt)
cause_on (Leaves F.WriteFault None) o u w none faults stops cause = (rose_until o.sink.faults u.sink.faults w.sink.faults cause.0 faults, tt)
cause_on (Leaves F.Whole None) o u w none faults stops cause = (tt, tt)
cause_on (Leaves (F.Lagged next first) None) o u w none faults stops cause = (tt, tt)
cause_on (Leaves F.NoMemory None) o u w none faults stops cause = (tt, tt)
cause_on (Leaves f (Some end)) o u w none faults stops cause = absurd (true_not none)

-- ---- states

module _ (ch : Charter) (k : ℕ) (s : Span) (o : Outside) where
  abbrev there : Span
  there = record s { new = o }

  pub reads_there : (tail : List ℕ) → stage.Reads ch k tail s → stage.Reads ch k tail there
  reads_there tail x = record { mid = x.mid; stands = x.stands; quiet = x.quiet }

  ticket_there : (n : ℕ) (r : Request) (c : Call) (behind bytes : List ℕ) → stage.HoldsTicket ch k n r c behind bytes s
      → stage.HoldsTicket ch k n r c behind bytes there
  ticket_there n r c behind bytes x = record {
    tail = x.tail;
    mid = x.mid;
    at = x.at;
    early = x.early;
    m = x.m;
    others = x.others;
    stands = x.stands;
    begins = x.begins;
    asks = x.asks;
    made = x.made;
    quiet = x.quiet;
    handed = x.handed;
  }

  pub waits_there : (n : ℕ) (r : Request) (behind : List ℕ) → stage.Waits ch k n r behind s → stage.Waits ch k n r behind there
  waits_there n r behind (c, late, x) = (c, late, ticket_there n r c behind s.written x)

  pub early_there : (n : ℕ) (r : Request) (behind rest : List ℕ) → stage.WaitsEarly ch k n r behind rest s → stage.WaitsEarly ch k n r behind rest there
  early_there n r behind rest x = record {
    c = x.c;
    bytes = x.bytes;
    sent = x.sent;
    soon = x.soon;
    ticket = ticket_there n r x.c behind x.bytes x.ticket;
    head = x.head;
    wrote = x.wrote;
  }

  pub streams_there : (r : Request) (behind : List ℕ) (given : Reply) (place : ℕ) (body rest : List ℕ) → stage.Streams ch k r behind given place body rest s
      → stage.Streams ch k r behind given place body rest there
  streams_there r behind given place body rest x = record {
    c = x.c;
    tail = x.tail;
    mid = x.mid;
    at = x.at;
    now = x.now;
    bytes = x.bytes;
    sent = x.sent;
    chunks = x.chunks;
    early = x.early;
    m = x.m;
    late = x.late;
    stands = x.stands;
    begins = x.begins;
    asks = x.asks;
    form = x.form;
    made = x.made;
    told = x.told;
    reaches = x.reaches;
    comes = x.comes;
    cut = x.cut;
    since = x.since;
    quiet = x.quiet;
    whole = x.whole;
    wrote = x.wrote;
    handed = x.handed;
  }

  pub sends_there : (flow : Flow) (r : Request) (behind rest : List ℕ) → stage.Sends ch k flow r behind rest s → stage.Sends ch k flow r behind rest there
  sends_there flow r behind rest x = record {
    tail = x.tail;
    mid = x.mid;
    at = x.at;
    bytes = x.bytes;
    sent = x.sent;
    early = x.early;
    late = x.late;
    stands = x.stands;
    begins = x.begins;
    answer = x.answer;
    quiet = x.quiet;
    wrote = x.wrote;
    handed = x.handed;
  }

  pub refuses_there : (status : ℕ) (rest : List ℕ) → stage.Refuses ch k status rest s → stage.Refuses ch k status rest there
  refuses_there status rest x = record {
    tail = x.tail;
    mid = x.mid;
    bytes = x.bytes;
    sent = x.sent;
    stands = x.stands;
    refused = x.refused;
    whole = x.whole;
    quiet = x.quiet;
    wrote = x.wrote;
  }

  in_there : (state : State) (x : Session) → s.new.sink.faults ≤ o.sink.faults → s.new.clock.stops ≤ o.clock.stops → IsIn ch k state x s
      → IsIn ch k state x there
  in_there State.Reads x faults stops (bytes, read, reads) = (bytes, read, reads_there _ reads)
  in_there (State.Asks call terms early) x faults stops (r, tail, read, reads, begins, asks, is, is') =
      (r, tail, read, reads_there tail reads, begins, asks, is, is')
  in_there (State.Waits ticket terms) x faults stops (r, is, read, waits) = (r, is, read, waits_there ticket r _ waits)
  in_there (State.WaitsEarly ticket terms out) x faults stops (r, is, read, waits) = (r, is, read, early_there ticket r _ _ waits)
  in_there (State.Opens call terms) x faults stops (r, tail, read, reads, begins, opens, is) = (r, tail, read, reads_there tail reads, begins, opens, is)
  in_there (State.Streams given terms place out) x faults stops (r, body, is, read, streams) =
      (r, body, is, read, streams_there r _ given place body _ streams)
  in_there (State.Sends answer) x faults stops (r, flow, read, sends, behind, decided) =
      (r, flow, read, sends_there flow r _ _ sends, behind, (decided.0, decided.1, cause_on flow s.old s.new o decided.0 faults stops decided.2))
  in_there (State.Refuses out status) x faults stops refuses = refuses_there status _ refuses

-- ---- a port was asked

-- a source that ended since has ended since before
since_end : (u v w : SourceView) → u.ends ≤ v.ends → SourceEnded v w → SourceEnded u w
since_end u v w le ended = record { rose = rose_since u.ends v.ends w.ends le ended.rose; spent = ended.spent }

-- the ports tell outside what they told before
pub still_told : (s : Span) (v v' : Ports) → StandsAtPorts s v → v'.source.source ≡ v.source.source → v'.sink.sink ≡ v.sink.sink → StandsAtPorts s v'
still_told s v v' ports source sink =
    ports ∙ ap (λ x. outside x v.sink.sink (record { moments = None; stops = s.new.clock.stops })) (sym source)
    ∙ ap (λ x. outside v'.source.source x (record { moments = None; stops = s.new.clock.stops })) (sym sink)

module _ (ch : Charter) (k : ℕ) (x : Session) (s : Span) (v v' : Ports) where
  -- these bytes were written, and the source is as it was
  pub at_written : (part : List ℕ) → StandsAtPorts s v → SinkTook v.sink.sink part v'.sink.sink → v'.source.source ≡ v.source.source
      → IsIn ch k x.state x (record s { written = s.written ++ part }) → HasMoved x.ended s.read s.written s.old s.new
      → HasPiece x.from x.to (length x.piece.items)
      → IsAt ch k x (record s { written = s.written ++ part; new = outside_of v' s.new.clock.stops })
  at_written part ports took same stands moved piece =
      let sink : SinkTook s.new.sink part v'.sink.sink = subst (λ u. SinkTook u part v'.sink.sink) (sym (ap (λ o. o.sink) ports)) took in
      let source : s.new.source ≡ v'.source.source = ap (λ o. o.source) ports ∙ sym same in
      record {
        stands = in_there ch k (record s { written = s.written ++ part }) (outside_of v' s.new.clock.stops) x.state x sink.faults (omega arith) stands;
        moved = record {
          ends = λ over. subst (SourceEnded s.old.source) source (moved.ends over);
          source = subst (SourceGave s.old.source s.read) source moved.source;
          sink = sink_on s.old.sink s.new.sink v'.sink.sink s.written part moved.sink sink;
          stops = moved.stops;
        };
        piece = piece;
      }

  -- these were read, or the source ended, and the sink is as it was
  pub at_read : (more : List ℕ) (ended : Bool) → StandsAtPorts s v → SourceGave v.source.source more v'.source.source → v'.sink.sink ≡ v.sink.sink
      → (IsTrue x.ended → SourceEnded v.source.source v'.source.source)
      → IsIn ch k x.state x (record s { read = s.read ++ more }) → HasMoved ended s.read s.written s.old s.new
      → HasPiece x.from x.to (length x.piece.items)
      → IsAt ch k x (record s { read = s.read ++ more; new = outside_of v' s.new.clock.stops })
  at_read more ended ports gave same over stands moved piece =
      let at : s.new.source ≡ v.source.source = ap (λ o. o.source) ports in
      let source : SourceGave s.new.source more v'.source.source = subst (λ u. SourceGave u more v'.source.source) (sym at) gave in
      let sink : s.new.sink ≡ v'.sink.sink = ap (λ o. o.sink) ports ∙ sym same in
      record {
        stands = in_there ch k (record s { read = s.read ++ more }) (outside_of v' s.new.clock.stops) x.state x (omega (arith, ap (λ u. u.faults) sink)) (omega arith) stands;
        moved = record {
          ends = λ is. since_end s.old.source s.new.source v'.source.source moved.source.ends
              (subst (λ u. SourceEnded u v'.source.source) (sym at) (over is));
          source = source_on s.old.source s.new.source v'.source.source s.read more moved.source source;
          sink = subst (SinkTook s.old.sink s.written) sink moved.sink;
          stops = moved.stops;
        };
        piece = piece;
      }

-- ---- a poll begins

stops_more : (stop : Bool) (n : ℕ) → n ≤ stops_after stop n
stops_more true n = omega arith
stops_more false n = omega arith

rose_told : (stop : Bool) (m n : ℕ) → m ≤ n → IsTrue stop → Rose m (stops_after stop n)
rose_told true m n le is = inl (omega (arith, le))
rose_told false m n le is = absurd (false≢true is)

pub told_so : (ch : Charter) (k : ℕ) (stop : Bool) (x : Session) (s : Span) → IsAt ch k x s → IsPolled ch k stop x (told_stop s stop)
told_so ch k stop x s at = (
  record {
    stands = in_there ch k s (told_stop s stop).new x.state x (omega arith) (stops_more stop s.new.clock.stops) at.stands;
    moved = record {
      ends = at.moved.ends;
      source = at.moved.source;
      sink = at.moved.sink;
      stops = let more = stops_more stop s.new.clock.stops in let since = at.moved.stops in omega (arith, more, since);
    };
    piece = at.piece;
  },
  rose_told stop s.old.clock.stops s.new.clock.stops at.moved.stops,
)
