-- Following a stream goes on and ends, by what its connection stands on.
use Rattle.std.proofs.Common.{◌≡◌, ℕ, List, [], refl, sym, ap, subst, Bool, Err}
use Rattle.engine_ports.specs.Sink.{SinkTook, WriteSays}
use Rattle.engine_ports.specs.declared.ports.Failed.{Failed}
use Rattle.engine_text.specs.declared.reply.Reply.{Reply}
use Rattle.engine_text.specs.declared.reply.Reply.TheVariants as reply
use Rattle.engine_text.specs.declared.step.Step.{Step}
use Rattle.machine_model.specs.History.{Extends}
use Rattle.session_model.specs.declared.followed.Followed.TheVariants as F
use Rattle.session_model.specs.declared.turned.Part.{Part}
use Rattle.session_model.specs.declared.turned.Part.TheVariants as P
use Rattle.session_model.specs.Pass.{IsNumber}
use Rattle.attach_hub.specs.Connection.{ConnectionView, Who}
use Rattle.attach_hub.specs.Following.{CanFollow, FollowsSince, written_of}
use Rattle.attach_hub.specs.Polling.{PollSays}
use Rattle.attach_hub.specs.Streams.{PartOf, StandsIn, first_of}
use Rattle.attach_hub.specs.declared.polling.Polled.TheVariants.{Again, Stopped, WriteFault}
use Rattle.attach_hub.proofs.FollowLemmas.{AsksPart, Following, following, asks_from, part_number, more, failed, stopped, unread, short, gone, whole, paused}

-- ---- what a part tells

-- of which connection, of pass and clock, and that nothing was written
pub record PartAt (w : Who) (r : Reply) (place : ℕ) (part : Part) (old new : List ℕ) (x y : ConnectionView) : Type 0 where
  pub who : y.who ≡ w
  pub asks : AsksPart w.number r place part old new x.pass y.pass x.clock y.clock
  pub sink : y.sink ≡ x.sink

-- a line of the journal
line_at : (count place : ℕ) (part : Part) (old new : List ℕ) (x y : ConnectionView) → PartOf (reply.JournalStream count) place part old new x y
    → PartAt x.who (reply.JournalStream count) place part old new x y
line_at count place P.Whole old new x y (same, below, none) = record {
  who = ap (λ (z : ConnectionView). z.who) same;
  asks = ((below, none, ap (λ (z : ConnectionView). z.pass) same), ap (λ (z : ConnectionView). z.clock) same);
  sink = ap (λ (z : ConnectionView). z.sink) same;
}
line_at count place part old new x y (same, le, turn) = record {
  who = ap (λ (z : ConnectionView). z.who) same;
  asks = ((le, turn), ap (λ (z : ConnectionView). z.clock) same);
  sink = ap (λ (z : ConnectionView). z.sink) same;
}

part_here : (r : Reply) (place : ℕ) (part : Part) (old new : List ℕ) (x y : ConnectionView) → PartOf r place part old new x y
    → PartAt x.who r place part old new x y
part_here (reply.JournalStream count) place part old new x y says = line_at count place part old new x y says
part_here r place part old new x y (same, handed, clock, turn) =
    record { who = ap (λ (z : ConnectionView). z.who) same; asks = (handed, clock, turn); sink = ap (λ (z : ConnectionView). z.sink) same }

part_at : (w : Who) (r : Reply) (place : ℕ) (part : Part) (old new : List ℕ) (x y : ConnectionView) → x.who ≡ w → PartOf r place part old new x y
    → PartAt w r place part old new x y
part_at w r place part old new x y is says = subst (λ v. PartAt v r place part old new x y) is (part_here r place part old new x y says)

-- the number is still the pass's
pub numbered : (r : Reply) (place : ℕ) (part : Part) (old new : List ℕ) (x y : ConnectionView) → IsNumber x.pass.number x.who.number
    → PartOf r place part old new x y → IsNumber y.pass.number y.who.number
numbered r place part old new x y is says =
    let at = part_here r place part old new x y says in
    subst (λ (w : Who). IsNumber y.pass.number w.number) (sym at.who)
    (part_number x.who.number r place part old new x.pass y.pass x.clock y.clock is at.asks)

-- ---- where following stands

-- from whichever earlier history it could be followed
pub record FollowsTo (r : Reply) (chunked : Bool) (x y : ConnectionView) (place : ℕ) : Type 0 where
  pub who : y.who ≡ x.who
  pub number : IsNumber y.pass.number y.who.number
  pub since : (base : List Step) → Extends base x.pass.seen → CanFollow x.pass.charter base r
      → Following base x.who.number r chunked x.pass y.pass x.sink y.sink x.clock y.clock place

pub begins : (r : Reply) (chunked : Bool) (x : ConnectionView) (place : ℕ) → IsNumber x.pass.number x.who.number → place ≡ first_of r
    → FollowsTo r chunked x x place
begins r chunked x place number is = record {
  who = refl;
  number = number;
  since = λ base e may. following base x.who.number r chunked x.pass x.sink x.clock place is e may;
}

pub part_stands : (r : Reply) (chunked : Bool) (x y : ConnectionView) (place : ℕ) → StandsIn x.pass.charter x.pass.seen r (first_of r)
    → FollowsTo r chunked x y place → StandsIn y.pass.charter y.pass.seen r place
part_stands r chunked x y place stands f =
    asks_from x.who.number r chunked x.pass y.pass x.sink y.sink x.clock y.clock place stands f.since

-- up to date, it pauses
pub pauses : (r : Reply) (chunked : Bool) (old new : List ℕ) (x y z y' : ConnectionView) (place : ℕ) → FollowsTo r chunked x y place
    → PartOf r place P.UpToDate old new y z → PollSays Again z y' → FollowsTo r chunked x y' place
pauses r chunked old new x y z y' place f says (same, stood) =
    let at = part_at x.who r place P.UpToDate old new y z f.who says in
    subst (λ v. FollowsTo r chunked x v place) (sym same) (record {
      who = at.who;
      number = numbered r place P.UpToDate old new y z f.number says;
      since = λ base e may. paused base x.who.number r chunked old new x.pass y.pass z.pass x.sink y.sink z.sink x.clock y.clock z.clock y'.clock place
          (f.since base e may) at.asks (at.sink, stood);
    })

-- more was written
pub goes_on : (r : Reply) (chunked : Bool) (old new : List ℕ) (x y z y' : ConnectionView) (place next : ℕ) → FollowsTo r chunked x y place
    → PartOf r place (P.More next) old new y z → old ≡ [] → y' ≡ record z { sink = y'.sink } → SinkTook z.sink (written_of chunked new) y'.sink
    → FollowsTo r chunked x y' next
goes_on r chunked old new x y z y' place next f says empty same took =
    let at = part_at x.who r place (P.More next) old new y z f.who says in
    subst (λ v. FollowsTo r chunked x v next) (sym same) (record {
      who = at.who;
      number = numbered r place (P.More next) old new y z f.number says;
      since = λ base e may. more base x.who.number next r chunked old new x.pass y.pass z.pass x.sink y.sink y'.sink x.clock y.clock z.clock place
          (f.since base e may) at.asks empty (subst (λ u. SinkTook u (written_of chunked new) y'.sink) at.sink took);
    })

-- ---- it ends

pub ends_stopped : (r : Reply) (chunked : Bool) (old new : List ℕ) (x y z y' : ConnectionView) (place : ℕ) → FollowsTo r chunked x y place
    → PartOf r place P.UpToDate old new y z → PollSays Stopped z y' → FollowsSince r chunked F.Stopped x y'
ends_stopped r chunked old new x y z y' place f says (same, stood, rose) =
    let at = part_at x.who r place P.UpToDate old new y z f.who says in
    subst (λ v. FollowsSince r chunked F.Stopped x v) (sym same) (record {
      since = λ base e may. stopped base x.who.number r chunked old new x.pass y.pass z.pass x.sink y.sink z.sink x.clock y.clock z.clock y'.clock place
          (f.since base e may) at.asks (at.sink, stood, rose);
    })

pub ends_unread : (r : Reply) (chunked : Bool) (old new : List ℕ) (x y z y' : ConnectionView) (place : ℕ) → FollowsTo r chunked x y place
    → PartOf r place P.UpToDate old new y z → PollSays WriteFault z y' → FollowsSince r chunked F.WriteFault x y'
ends_unread r chunked old new x y z y' place f says (same, took, rose) =
    let at = part_at x.who r place P.UpToDate old new y z f.who says in
    subst (λ v. FollowsSince r chunked F.WriteFault x v) (sym same) (record {
      since = λ base e may. unread base x.who.number r chunked old new x.pass y.pass z.pass x.sink z.sink y'.sink x.clock y.clock z.clock z.clock place
          (subst (λ u. Following base x.who.number r chunked x.pass y.pass x.sink u x.clock y.clock place) (sym at.sink) (f.since base e may))
          at.asks (took, rose, refl);
    })

pub ends_failed : (r : Reply) (chunked : Bool) (old new : List ℕ) (fault : Failed) (x y z y' : ConnectionView) (place next : ℕ) → FollowsTo r chunked x y place
    → PartOf r place (P.More next) old new y z → old ≡ [] → y' ≡ record z { sink = y'.sink } → WriteSays (Err fault) (written_of chunked new) z.sink y'.sink
    → FollowsSince r chunked F.WriteFault x y'
ends_failed r chunked old new fault x y z y' place next f says empty same wrote =
    let at = part_at x.who r place (P.More next) old new y z f.who says in
    subst (λ v. FollowsSince r chunked F.WriteFault x v) (sym same) (record {
      since = λ base e may. failed base x.who.number next r chunked old new fault x.pass y.pass z.pass x.sink z.sink y'.sink x.clock y.clock z.clock place
          (subst (λ u. Following base x.who.number r chunked x.pass y.pass x.sink u x.clock y.clock place) (sym at.sink) (f.since base e may))
          at.asks empty wrote;
    })

pub ends_whole : (r : Reply) (chunked : Bool) (old new : List ℕ) (x y z : ConnectionView) (place : ℕ) → FollowsTo r chunked x y place
    → PartOf r place P.Whole old new y z → FollowsSince r chunked F.Whole x z
ends_whole r chunked old new x y z place f says =
    let at = part_at x.who r place P.Whole old new y z f.who says in record {
      since = λ base e may. whole base x.who.number r chunked old new x.pass y.pass z.pass x.sink z.sink x.clock y.clock z.clock place may
          (subst (λ u. Following base x.who.number r chunked x.pass y.pass x.sink u x.clock y.clock place) (sym at.sink) (f.since base e may)) at.asks;
    }

pub ends_gone : (r : Reply) (chunked : Bool) (old new : List ℕ) (x y z : ConnectionView) (place next first : ℕ) → FollowsTo r chunked x y place
    → PartOf r place (P.Gone next first) old new y z → FollowsSince r chunked (F.Lagged next first) x z
ends_gone r chunked old new x y z place next first f says =
    let at = part_at x.who r place (P.Gone next first) old new y z f.who says in record {
      since = λ base e may. gone base x.who.number next first r chunked old new x.pass y.pass z.pass x.sink z.sink x.clock y.clock z.clock place
          (subst (λ u. Following base x.who.number r chunked x.pass y.pass x.sink u x.clock y.clock place) (sym at.sink) (f.since base e may)) at.asks;
    }

pub ends_short : (r : Reply) (chunked : Bool) (old new : List ℕ) (x y z : ConnectionView) (place : ℕ) → FollowsTo r chunked x y place
    → PartOf r place P.NoMemory old new y z → FollowsSince r chunked F.NoMemory x z
ends_short r chunked old new x y z place f says =
    let at = part_at x.who r place P.NoMemory old new y z f.who says in record {
      since = λ base e may. short base x.who.number r chunked old new x.pass y.pass z.pass x.sink z.sink x.clock y.clock z.clock place
          (subst (λ u. Following base x.who.number r chunked x.pass y.pass x.sink u x.clock y.clock place) (sym at.sink) (f.since base e may)) at.asks;
    }

-- ---- in other words

-- of a connection as it is seen from inside
pub viewed : (r : Reply) (place : ℕ) (part : Part) (old new : List ℕ) (x x' y : ConnectionView) → x' ≡ x → PartOf r place part old new x' y
    → PartOf r place part old new x y
viewed r place part old new x x' y is says = subst (λ v. PartOf r place part old new v y) is says

-- of the reply that gives the stream
pub of_stream : (r s : Reply) (place : ℕ) (part : Part) (old new : List ℕ) (x y : ConnectionView) → s ≡ r → PartOf r place part old new x y
    → PartOf s place part old new x y
of_stream r s place part old new x y is says = subst (λ v. PartOf v place part old new x y) (sym is) says
