-- Lives go on beside those of others, and end.
use Rattle.std.proofs.Common.{◌≡◌, ◌≤◌, ◌⊎◌, ℕ, Bool, List, [], ◌∷◌, ◌++◌, Option, None, Some, All, inl, inr, refl, sym, ◌∙◌, ap, subst, arith, append_assoc, append-nil}
use Rattle.std.specs.Prelude.{Contains}
use Rattle.std.specs.List.{filter}
use Rattle.std.proofs.lemmas.List.Elements.{All-weaker, Contains-append_left, filter-append}
use Rattle.engine_ports.specs.Rose.{Rose}
use Rattle.engine_ports.specs.Clock.{ClockView}
use Rattle.engine_ports.specs.Door.{Outside}
use Rattle.engine_ports.specs.Source.{SourceView, SourceEnded}
use Rattle.engine_ports.proofs.PortLemmas.{rose_until}
use Rattle.engine_text.specs.declared.step.Step.{Step}
use Rattle.machine_model.specs.History.{Charter, HasNone}
use Rattle.session_model.specs.declared.ending.Ending.{Ending}
use Rattle.session_model.specs.declared.ending.Ending.TheVariants as E
use Rattle.session_model.specs.declared.followed.Followed.{Followed}
use Rattle.session_model.specs.declared.followed.Followed.TheVariants as F
use Rattle.session_model.specs.declared.followed.PumpEnd.{PumpEnd}
use Rattle.session_model.specs.declared.followed.PumpEnd.TheVariants as P
use Rattle.session_model.specs.Exchange.{Flow, GoesOn, Closes, Leaves, IsQuiet}
use Rattle.session_model.specs.Session.{Cause, Ends, EndsAt, FollowCause, IsSession, PumpCause, Span}
use Rattle.session_model.proofs.HistoryLemmas.{none_append, quiet_same}
use Rattle.polled_model.specs.Polls.{Ports, feeds_end}
use Rattle.session_poll.proofs.StepLemmas.{fed_on, none_fed}
use Rattle.engine_loop.specs.Lives.{AllLived, FeedsSo, Life, Lived, Lives, Run, by_clock, history}

-- ---- a session by another clock

module _ (v v' : ClockView) (o u : Outside) (go : Rose o.clock.stops u.clock.stops → Rose v.stops v'.stops) where
  follow_by : (f : Followed) → FollowCause f o u → FollowCause f (by_clock o v) (by_clock u v')
  follow_by F.Whole h = tt
  follow_by F.Stopped h = go h
  follow_by (F.Lagged next first) h = tt
  follow_by F.WriteFault h = h
  follow_by F.NoMemory h = tt

  pump_by : (p : Option PumpEnd) → PumpCause p o u → PumpCause p (by_clock o v) (by_clock u v')
  pump_by None h = tt
  pump_by (Some P.Ended) h = h
  pump_by (Some P.Gone) h = tt
  pump_by (Some P.Stopped) h = go h
  pump_by (Some P.JournalFull) h = tt
  pump_by (Some P.ReadFault) h = h
  pump_by (Some P.NoMemory) h = tt

  cause_by : (flow : Flow) → Cause flow o u → Cause flow (by_clock o v) (by_clock u v')
  cause_by GoesOn h = tt
  cause_by Closes h = tt
  cause_by (Leaves f p) h = (follow_by f h.0, pump_by p h.1)

abbrev clocked : Span → ClockView → ClockView → Span
clocked s v v' = record s { old = by_clock s.old v; new = by_clock s.new v' }

ends_at_by : (e : Ending) (tail : List ℕ) (s : Span) (v v' : ClockView) → EndsAt e tail s → EndsAt e tail (clocked s v v')
ends_at_by E.Closed tail s v v' h = h
ends_at_by E.CutShort tail s v v' h = h
ends_at_by (E.Refused status) tail s v v' h = h
ends_at_by E.Stopped tail s v v' h = h
ends_at_by E.JournalFull tail s v v' h = h
ends_at_by (E.Lagged next first) tail s v v' h = h
ends_at_by E.ReadFault tail s v v' h = h
ends_at_by E.WriteFault tail s v v' h = h
ends_at_by E.NoMemory tail s v v' h = h

ends_by : (ch : Charter) (k : ℕ) (e : Ending) (tail : List ℕ) (pumps : Bool) (s : Span) (v v' : ClockView)
    → (Rose s.old.clock.stops s.new.clock.stops → Rose v.stops v'.stops) → Ends ch k e tail pumps s → Ends ch k e tail pumps (clocked s v v')
ends_by ch k e tail pumps s v v' go (inl (at, same, none, unpumped)) = inl (ends_at_by e tail s v v' at, same, none, unpumped)
ends_by ch k e tail pumps s v v' go (inr (r, behind, begins, by)) = inr (
  r,
  behind,
  begins,
  record {
    flow = by.flow;
    whole = by.whole;
    answered = by.answered;
    written = by.written;
    cause = cause_by v v' s.old s.new go by.flow by.cause;
    pumped = by.pumped;
  },
)

pub session_by : (ch : Charter) (k : ℕ) (e : Ending) (pumps : Bool) (s : Span) (v v' : ClockView)
    → (Rose s.old.clock.stops s.new.clock.stops → Rose v.stops v'.stops) → IsSession ch k e pumps s → IsSession ch k e pumps (clocked s v v')
session_by ch k e pumps s v v' go x = record {
  done = x.done;
  tail = x.tail;
  mid = x.mid;
  bytes = x.bytes;
  last = x.last;
  early = x.early;
  late = x.late;
  requests = x.requests;
  answered = x.answered;
  ends = ends_by ch k e x.tail pumps (record s { from = x.mid; written = x.last; handed = x.late }) v v' go x.ends;
  wrote = x.wrote;
  handed = x.handed;
}

-- ---- beside others

-- the loop has gone on by these steps and moments
abbrev pub further : Run → List Step → List ℕ → ClockView → Run
further r own ns t = record r { added = r.added ++ own; moments = r.moments ++ ns; clock_now = t }

fed_further : (k : ℕ) (r : Run) (own : List Step) (ns : List ℕ) (t : ClockView) (v v' : SourceView) → filter (feeds_end k) own ≡ [] → FeedsSo r k v v' → FeedsSo (further r own ns t) k v v'
fed_further k r own ns t v v' none (inl f) = inl (fed_on k r.added own f none)
fed_further k r own ns t v v' none (inr ended) = inr ended

module _ (r : Run) (own : List Step) (ns : List ℕ) (t : ClockView) (later : r.clock_now.stops ≤ t.stops) (k : ℕ) (none : HasNone k own) where
  pub lived_further : (l : Life) → Lived r k l → Lived (further r own ns t) k l
  lived_further l x = record {
    new = x.new;
    source = x.source;
    sink = x.sink;
    before = x.before;
    none_before = x.none_before;
    to = x.to;
    behind = x.behind ++ own;
    goes_on = sym (append_assoc r.given r.added own) ∙ ap (λ h. h ++ own) x.goes_on ∙ append_assoc x.to x.behind own;
    none_behind = none_append k x.behind own x.none_behind none;
    at_moments = All-weaker (λ m. Contains r.moments m) (λ m. Contains (r.moments ++ ns) m) (λ m. Contains-append_left r.moments ns m) l.handed x.at_moments;
    feeds = fed_further k r own ns t l.came.source l.left.source (none_fed k own none) x.feeds;
    pumps = x.pumps;
    session = session_by r.charter k l.ending x.pumps _ r.clock t (λ rose. rose_until r.clock.stops r.clock_now.stops t.stops rose later) x.session;
  }

  stops_further : (n : ℕ) → (n ≡ 0) ⊎ Rose r.clock.stops r.clock_now.stops → (n ≡ 0) ⊎ Rose r.clock.stops t.stops
  stops_further n (inl none) = inl none
  stops_further n (inr rose) = inr (rose_until r.clock.stops r.clock_now.stops t.stops rose later)

  pub lives_further : (came : Outside) (now : Ports) (s : Span) → Lives r k came now s → Lives (further r own ns t) k came now (record s { to = history (further r own ns t) })
  lives_further came now s x = record {
    new = x.new;
    source = x.source;
    sink = x.sink;
    before = x.before;
    none_before = x.none_before;
    from = x.from;
    to = refl;
    at_moments = All-weaker (λ m. Contains r.moments m) (λ m. Contains (r.moments ++ ns) m) (λ m. Contains-append_left r.moments ns m) s.handed x.at_moments;
    feeds = fed_further k r own ns t came.source now.source.source (none_fed k own none) x.feeds;
    old = x.old;
    at_ports = x.at_ports;
    stops = stops_further s.new.clock.stops x.stops;
  }

  pub quiet_further : (s : Span) → s.to ≡ history r → IsQuiet k s.to (history (further r own ns t))
  quiet_further s is = (own, none, sym (append_assoc r.given r.added own) ∙ ap (λ h. h ++ own) (sym is))
