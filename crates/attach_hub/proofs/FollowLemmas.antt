-- Following a stream goes on, and ends.
use Rattle.std.proofs.Common.{◌≡◌, ◌≤◌, max, ℕ, List, [], ◌∷◌, ◌++◌, refl, sym, ◌∙◌, ap, subst, append_assoc, append-nil, Bool, true, false, None, Some, Err, ◌<◌}
use Rattle.std.specs.List.{last_or}
use Rattle.std.specs.Prelude.{IsFalse, IsSomeAnd}
use Rattle.engine_ports.specs.Rose.{Rose}
use Rattle.engine_ports.specs.Sink.{SinkView, SinkTook, WriteSays}
use Rattle.engine_ports.specs.Clock.{ClockView, ClockHanded, ClockStood}
use Rattle.engine_ports.specs.declared.ports.Failed.{Failed}
use Rattle.engine_ports.proofs.PortLemmas.{sink_none, sink_on, rose_since}
use Rattle.engine_text.specs.declared.reply.Reply.{Reply}
use Rattle.engine_text.specs.declared.reply.Reply.TheVariants as reply
use Rattle.engine_text.specs.declared.step.Step.{Step}
use Rattle.machine_model.specs.State.{State}
use Rattle.machine_model.specs.History.{Charter, Extends, HasNone, IsLegal, acts_by, moment_used, state_after, state_from}
use Rattle.session_model.specs.declared.followed.Followed.TheVariants as F
use Rattle.session_model.specs.declared.turned.Part.{Part}
use Rattle.session_model.specs.declared.turned.Part.TheVariants as P
use Rattle.session_model.specs.Exchange.{AtSome}
use Rattle.session_model.specs.Moments.{ComesTo}
use Rattle.session_model.specs.Pass.{PassView, IsNumber}
use Rattle.session_model.specs.Turning.{found}
use Rattle.session_model.proofs.HistoryLemmas.{dues_done, dues_none, extends_on, extends_same, some_none}
use Rattle.session_model.proofs.DueLemmas.{dues_clock, some_clock}
use Rattle.session_model.proofs.MomentLemmas.{last_on, none_handed}
use Rattle.session_model.proofs.TurnLemmas.{moves_on, moves_same, state_seen}
use Rattle.daemon_core.specs.JournalTurns.{JournalSays, JournalTurn}
use Rattle.daemon_core.specs.PartTurns.{PartDues, PartTurn}
use Rattle.attach_hub.specs.Following.{CanFollow, FollowsFrom, IsSent, written_of}
use Rattle.attach_hub.specs.Streams.{PartSays, StandsIn, first_of}
use Rattle.attach_hub.proofs.StandLemmas.{Stands, look_stands, stands_on, stands_pause, stands_same, turn_stands}
use Rattle.attach_hub.proofs.PieceLemmas.{sent_more, sent_none}
use Rattle.attach_hub.proofs.JournalTellLemmas.{JournalSaid}
use Rattle.attach_hub.proofs.TellLemmas.{IsDone, IsLooked, Said, SaidAt, Told, said_short, told_first, told_later, told_more, told_broken, told_either, told_gone, told_whole, events_any, ends_whole, ends_stopped, ends_failed, ends_short, whole_comes, stopped_comes, lapsed_comes, short_comes}
use Rattle.attach_hub.specs.Connection.{view_of}

-- ---- where following stands

-- the body so far was written, and is what was told of the stream to that place
pub record Following (base : List Step) (k : ℕ) (reply : Reply) (chunked : Bool) (p q : PassView) (u u' : SinkView) (v v' : ClockView) (place : ℕ) : Type 0 where
  pub from : Extends base p.seen
  pub stands : Stands k p q v v'
  pub timed : ComesTo reply F.WriteFault stands.moves.handed
  pub body : List ℕ
  pub sent : List ℕ
  pub pieces : IsSent chunked body sent
  pub sink : SinkTook u sent u'
  pub told : Told reply p.charter base q.seen body place

pub following : (base : List Step) (k : ℕ) (reply : Reply) (chunked : Bool) (p : PassView) (u : SinkView) (v : ClockView) (first : ℕ) → first ≡ first_of reply
    → Extends base p.seen → CanFollow p.charter base reply → Following base k reply chunked p p u u v v first
unfolding stands_same moves_same
following base k reply chunked p u v first is from may = record {
  from = from;
  stands = stands_same k p v;
  timed = none_handed reply;
  body = [];
  sent = [];
  pieces = sent_none chunked;
  sink = sink_none u;
  told = subst (Told reply p.charter base p.seen []) (sym is)
      (told_later reply p.charter base base p.seen [] (first_of reply) from (told_first reply p.charter base may));
}

-- a part may be asked from there
pub asks_from : (k : ℕ) (r : Reply) (chunked : Bool) (p q : PassView) (u u' : SinkView) (v v' : ClockView) (place : ℕ)
    → StandsIn p.charter p.seen r (first_of r)
    → ((base : List Step) → Extends base p.seen → CanFollow p.charter base r → Following base k r chunked p q u u' v v' place)
    → StandsIn q.charter q.seen r place
asks_from k (reply.EventStream first until filter) chunked p q u u' v v' place stands f =
    let g = f p.seen (extends_same p.seen) stands in
    subst (λ ch. StandsIn ch q.seen (reply.EventStream first until filter) place) (sym g.stands.moves.stays.charter) g.told.counted
asks_from k (reply.LogStream spec) chunked p q u u' v v' place stands f = tt
asks_from k (reply.JournalStream count) chunked p q u u' v v' place stands f = tt
asks_from k r chunked p q u u' v v' place stands f = tt

-- ---- a part is asked for

-- what is told of pass and clock
abbrev JournalPart : ℕ → ℕ → ℕ → Part → List ℕ → List ℕ → PassView → PassView → Type 0
JournalPart k count place P.Whole old new p q = (count < place) × (new ≡ old) × (q ≡ p)
JournalPart k count place part old new p q = (place ≤ count) × JournalTurn k place part old new p q

abbrev pub AsksPart : ℕ → Reply → ℕ → Part → List ℕ → List ℕ → PassView → PassView → ClockView → ClockView → Type 0
AsksPart k (reply.JournalStream count) place part old new p q v v' = JournalPart k count place part old new p q × (v' ≡ v)
AsksPart k r place part old new p q v v' =
    (handed : ℕ) × ClockHanded v (handed ∷ []) v' × PartTurn k handed part (PartSays r handed place part old new) p q

-- behind due steps alone
part_none : (k : ℕ) (s : State) (u : ℕ) (part : Part) (own : List Step) → PartDues s u part own
    → HasNone k own × ((state_from s own).clock ≤ max s.clock u)
part_none k s u P.NoMemory own h = (some_none k s u own h, some_clock s u own h)
part_none k s u (P.More next) own h = (dues_none k s u own h, dues_clock s u own h)
part_none k s u P.UpToDate own h = (dues_none k s u own h, dues_clock s u own h)
part_none k s u P.Whole own h = (dues_none k s u own h, dues_clock s u own h)
part_none k s u (P.Gone next first) own h = (dues_none k s u own h, dues_clock s u own h)

unfoldable part_stands : (k handed : ℕ) (part : Part) (told : Charter → List Step → Type 0) (p q : PassView) (v w : ClockView)
    → ClockHanded v (handed ∷ []) w → PartTurn k handed part told p q → Stands k p q v w
part_stands k handed part told p q v w clock turn =
    let none = part_none k _ _ part turn.turns.own turn.dues in turn_stands k handed p q turn.turns v w none.0 none.1 clock

-- what a part of the stream finds, under the first pass's charter
record Asked (base : List Step) (k : ℕ) (reply : Reply) (chunked : Bool) (part : Part) (old new : List ℕ) (p q : PassView) (u u' : SinkView) (v v' : ClockView) (place : ℕ) : Type 0 where
  now : Following base k reply chunked p q u u' v v' place
  said : Said reply place part old new now.stands.moves.handed p.charter q.seen
  looked : IsLooked reply part now.stands.moves.handed p.charter base q.seen

-- nothing is due in a history that a part was up to date with
done_by : (k handed : ℕ) (part : Part) (told : Charter → List Step → Type 0) (base : List Step) (p q : PassView) (ms : List ℕ)
    → last_or None ms ≡ Some handed → Extends base p.seen → PartTurn k handed part told p q → IsDone part ms p.charter base q.seen
done_by k handed P.UpToDate told base p q ms last from turn =
    let turns = turn.turns in
    let at : List Step = p.seen ++ turns.others in
    let u : ℕ = moment_used (found k p q turns) handed in
    subst (λ o. IsSomeAnd o (λ m. AtSome base q.seen (λ at. IsFalse (acts_by (state_after p.charter q.seen) (moment_used (state_after p.charter at) m))))) (sym last) (
      at,
      extends_on base p.seen at from (turns.others, refl),
      (turns.own, turns.seen),
      subst (λ s. acts_by s u ≡ false) (state_seen k p q turns) (dues_done (found k p q turns) u turns.own turn.dues),
    )
done_by k handed (P.More next) told base p q ms last from turn = tt
done_by k handed P.Whole told base p q ms last from turn = tt
done_by k handed (P.Gone next first) told base p q ms last from turn = tt
done_by k handed P.NoMemory told base p q ms last from turn = tt

-- following goes on where the connection rests
goes_on : (base : List Step) (k : ℕ) (reply : Reply) (chunked : Bool) (p q q2 : PassView) (u u' : SinkView) (v v1 v2 : ClockView) (place : ℕ)
    → (f : Following base k reply chunked p q u u' v v1 place) (stands : Stands k q q2 v1 v2)
    → ComesTo reply F.WriteFault (f.stands.moves.handed ++ stands.moves.handed) → Following base k reply chunked p q2 u u' v v2 place
unfolding stands_on moves_on
goes_on base k reply chunked p q q2 u u' v v1 v2 place f stands timed = record {
  from = f.from;
  stands = stands_on k p q q2 v v1 v2 f.stands stands;
  timed = timed;
  body = f.body;
  sent = f.sent;
  pieces = f.pieces;
  sink = f.sink;
  told = told_later reply p.charter base q.seen q2.seen f.body place stands.moves.extends f.told;
}

-- of a log and of events, at a moment of the clock
asked_at : (base : List Step) (k handed : ℕ) (reply : Reply) (chunked : Bool) (part : Part) (old new : List ℕ) (p q q2 : PassView) (u u' : SinkView)
    (v v1 v2 : ClockView) (place : ℕ) (f : Following base k reply chunked p q u u' v v1 place)
    → ClockHanded v1 (handed ∷ []) v2 → PartTurn k handed part (PartSays reply handed place part old new) q q2
    → ComesTo reply F.WriteFault (f.stands.moves.handed ++ handed ∷ [])
    → (now : Following base k reply chunked p q2 u u' v v2 place) × SaidAt reply place part old new now.stands.moves.handed p.charter q2.seen
    × IsDone part now.stands.moves.handed p.charter base q2.seen
unfolding goes_on part_stands stands_on turn_stands moves_on
asked_at base k handed reply chunked part old new p q q2 u u' v v1 v2 place f clock turn timed =
    let stays = f.stands.moves.stays in
    let stands = part_stands k handed part (PartSays reply handed place part old new) q q2 v1 v2 clock turn in (
      goes_on base k reply chunked p q q2 u u' v v1 v2 place f stands timed,
      record {
        handed = handed;
        says = subst (λ ch. PartSays reply handed place part old new ch q2.seen) stays.charter turn.says;
        last = last_on None f.stands.moves.handed handed;
        legal = subst (λ ch. IsLegal ch q2.seen) (turn.turns.stays.charter ∙ stays.charter) turn.turns.legal;
      },
      subst (λ ch. IsDone part (f.stands.moves.handed ++ handed ∷ []) ch base q2.seen) stays.charter
          (done_by k handed part (PartSays reply handed place part old new) base q q2 (f.stands.moves.handed ++ handed ∷ [])
          (last_on None f.stands.moves.handed handed) (extends_on base p.seen q.seen f.from f.stands.moves.extends) turn),
    )

-- of the journal: behind its last line without a look
asked_line : (base : List Step) (k count : ℕ) (chunked : Bool) (part : Part) (old new : List ℕ) (p q q2 : PassView) (u u' : SinkView)
    (v v1 v2 : ClockView) (place : ℕ) → Following base k (reply.JournalStream count) chunked p q u u' v v1 place
    → JournalPart k count place part old new q q2 → v2 ≡ v1
    → Following base k (reply.JournalStream count) chunked p q2 u u' v v2 place × JournalSaid p.charter count q2.seen place part old new
unfolding look_stands
asked_line base k count chunked P.Whole old new p q q2 u u' v v1 v2 place f j still = (
  subst (λ x. Following base k (reply.JournalStream count) chunked p x u u' v v2 place) (sym j.2)
      (subst (λ w. Following base k (reply.JournalStream count) chunked p q u u' v w place) (sym still) f),
  j.0,
)
asked_line base k count chunked part old new p q q2 u u' v v1 v2 place f j still =
    let stays = f.stands.moves.stays in (
      goes_on base k (reply.JournalStream count) chunked p q q2 u u' v v1 v2 place f
          (look_stands k q q2 j.1.turns v1 v2 j.1.still still) (append-nil f.stands.moves.handed ∙ f.timed),
      (j.0, subst (λ ch. JournalSays ch q2.seen place part old new) stays.charter j.1.says),
    )

asked : (base : List Step) (k : ℕ) (reply : Reply) (chunked : Bool) (part : Part) (old new : List ℕ) (p q q2 : PassView) (u u' : SinkView)
    (v v1 v2 : ClockView) (place : ℕ) → Following base k reply chunked p q u u' v v1 place
    → AsksPart k reply place part old new q q2 v1 v2 → Asked base k reply chunked part old new p q2 u u' v v2 place
asked base k (reply.JournalStream count) chunked part old new p q q2 u u' v v1 v2 place f (turn, still) =
    let a = asked_line base k count chunked part old new p q q2 u u' v v1 v2 place f turn still in
    record { now = a.0; said = a.1; looked = tt }
asked base k (reply.LogStream spec) chunked part old new p q q2 u u' v v1 v2 place f (handed, clock, turn) =
    let a = asked_at base k handed (reply.LogStream spec) chunked part old new p q q2 u u' v v1 v2 place f clock turn tt in
    record { now = a.0; said = a.1; looked = a.2 }
asked base k (reply.EventStream first until filter) chunked part old new p q q2 u u' v v1 v2 place f (handed, clock, turn) =
    let a = asked_at base k handed (reply.EventStream first until filter) chunked part old new p q q2 u u' v v1 v2 place f clock turn
    (events_any first until filter (f.stands.moves.handed ++ handed ∷ [])) in
    record { now = a.0; said = a.1; looked = a.2 }
asked base k r chunked part old new p q q2 u u' v v1 v2 place f turn = absurd f.told

-- the number is the pass's
line_number : (k count place : ℕ) (part : Part) (old new : List ℕ) (p q : PassView) → IsNumber p.number k → JournalPart k count place part old new p q
    → IsNumber q.number k
line_number k count place P.Whole old new p q is j = subst (λ (x : PassView). IsNumber x.number k) (sym j.2) is
line_number k count place (P.More next) old new p q is j = subst (λ n. IsNumber n k) (sym j.1.turns.stays.number) is
line_number k count place P.UpToDate old new p q is j = subst (λ n. IsNumber n k) (sym j.1.turns.stays.number) is
line_number k count place (P.Gone next first) old new p q is j = subst (λ n. IsNumber n k) (sym j.1.turns.stays.number) is
line_number k count place P.NoMemory old new p q is j = subst (λ n. IsNumber n k) (sym j.1.turns.stays.number) is

pub part_number : (k : ℕ) (r : Reply) (place : ℕ) (part : Part) (old new : List ℕ) (p q : PassView) (v v' : ClockView) → IsNumber p.number k
    → AsksPart k r place part old new p q v v' → IsNumber q.number k
part_number k (reply.JournalStream count) place part old new p q v v' is (turn, still) = line_number k count place part old new p q is turn
part_number k (reply.LogStream spec) place part old new p q v v' is (handed, clock, turn) = subst (λ n. IsNumber n k) (sym turn.turns.stays.number) is
part_number k (reply.EventStream first until filter) place part old new p q v v' is (handed, clock, turn) = subst (λ n. IsNumber n k) (sym turn.turns.stays.number) is
part_number k (reply.Answer status body) place part old new p q v v' is (handed, clock, turn) = subst (λ n. IsNumber n k) (sym turn.turns.stays.number) is
part_number k (reply.Begun ticket) place part old new p q v v' is (handed, clock, turn) = subst (λ n. IsNumber n k) (sym turn.turns.stays.number) is
part_number k (reply.Fed taken) place part old new p q v v' is (handed, clock, turn) = subst (λ n. IsNumber n k) (sym turn.turns.stays.number) is
part_number k reply.Dropped place part old new p q v v' is (handed, clock, turn) = subst (λ n. IsNumber n k) (sym turn.turns.stays.number) is

-- the same of a sink that is as it was
sink_same : (base : List Step) (k : ℕ) (reply : Reply) (chunked : Bool) (p q : PassView) (u u1 u2 : SinkView) (v v' : ClockView) (place : ℕ)
    → u2 ≡ u1 → Following base k reply chunked p q u u1 v v' place → Following base k reply chunked p q u u2 v v' place
sink_same base k reply chunked p q u u1 u2 v v' place same f = subst (λ x. Following base k reply chunked p q u x v v' place) (sym same) f

-- up to date, it pauses
pub paused : (base : List Step) (k : ℕ) (reply : Reply) (chunked : Bool) (old new : List ℕ) (p q q2 : PassView) (u u1 u' : SinkView) (v v0 v1 v2 : ClockView) (place : ℕ)
    → Following base k reply chunked p q u u1 v v0 place → AsksPart k reply place P.UpToDate old new q q2 v0 v1
    → (u' ≡ u1) × ClockStood v1 v2 → Following base k reply chunked p q2 u u' v v2 place
unfolding stands_pause
paused base k reply chunked old new p q q2 u u1 u' v v0 v1 v2 place f turn (same, stood) =
    let a = asked base k reply chunked P.UpToDate old new p q q2 u u' v v0 v1 place (sink_same base k reply chunked p q u u1 u' v v0 place same f) turn in
    record {
      from = a.now.from;
      stands = stands_pause k p q2 v v1 v2 a.now.stands stood;
      timed = a.now.timed;
      body = a.now.body;
      sent = a.now.sent;
      pieces = a.now.pieces;
      sink = a.now.sink;
      told = a.now.told;
    }

-- ---- more was told

pub more : (base : List Step) (k next : ℕ) (reply : Reply) (chunked : Bool) (old new : List ℕ) (p q q2 : PassView) (u u1 u2 : SinkView)
    (v v1 v2 : ClockView) (place : ℕ) → Following base k reply chunked p q u u1 v v1 place
    → AsksPart k reply place (P.More next) old new q q2 v1 v2 → old ≡ []
    → SinkTook u1 (written_of chunked new) u2 → Following base k reply chunked p q2 u u2 v v2 next
more base k next reply chunked old new p q q2 u u1 u2 v v1 v2 place f turn empty took =
    let a = asked base k reply chunked (P.More next) old new p q q2 u u1 v v1 v2 place f turn in
    record {
      from = a.now.from;
      stands = a.now.stands;
      timed = a.now.timed;
      body = a.now.body ++ new;
      sent = a.now.sent ++ written_of chunked new;
      pieces = sent_more chunked a.now.body a.now.sent new a.now.pieces;
      sink = sink_on u u1 u2 a.now.sent (written_of chunked new) a.now.sink took;
      told = told_more reply p.charter base q2.seen a.now.body old new a.now.stands.moves.handed place next (extends_on base p.seen q2.seen a.now.from a.now.stands.moves.extends) a.now.told a.said empty;
    }

-- ---- a stream that isn't whole

pub stopped : {n : ℕ} {l l' : ℕ × ℕ × ℕ} (base : List Step) (k : ℕ) (reply : Reply) (chunked : Bool) (old new : List ℕ) (p q q2 : PassView) (u u1 u' : SinkView) (v v0 v1 v2 : ClockView) (place : ℕ)
    → Following base k reply chunked p q u u1 v v0 place → AsksPart k reply place P.UpToDate old new q q2 v0 v1
    → (u' ≡ u1) × ClockStood v1 v2 × Rose v1.stops v2.stops → FollowsFrom base reply chunked F.Stopped (view_of k l p u v) (view_of n l' q2 u' v2)
unfolding stands_pause
stopped base k reply chunked old new p q q2 u u1 u' v v0 v1 v2 place f turn (same, stood, rose) =
    let a = asked base k reply chunked P.UpToDate old new p q q2 u u' v v0 v1 place (sink_same base k reply chunked p q u u1 u' v v0 place same f) turn in
    let stands = stands_pause k p q2 v v1 v2 a.now.stands stood in
    record {
      moves = stands.moves;
      still = a.now.stands.still;
      quiet = a.now.stands.quiet;
      whole = false;
      by_end = refl;
      comes = stopped_comes reply p.charter q2.seen old new a.now.stands.moves.handed place a.now.timed a.said;
      body = a.now.body;
      sent = a.now.sent;
      part = a.now.sent;
      tells = told_broken reply p.charter base q2.seen a.now.body place
          (said_short reply p.charter q2.seen P.UpToDate old new a.now.stands.moves.handed place tt a.said) a.now.told;
      ends = ends_stopped reply p.charter base q2.seen a.now.body old new a.now.stands.moves.handed place a.now.told a.said a.looked;
      pieces = a.now.pieces;
      taken = refl;
      sink = a.now.sink;
      cause = rose_since v.stops v1.stops v2.stops a.now.stands.moves.clock.stops rose;
    }

pub short : {n : ℕ} {l l' : ℕ × ℕ × ℕ} (base : List Step) (k : ℕ) (reply : Reply) (chunked : Bool) (old new : List ℕ) (p q q2 : PassView) (u u' : SinkView) (v v1 v2 : ClockView) (place : ℕ)
    → Following base k reply chunked p q u u' v v1 place → AsksPart k reply place P.NoMemory old new q q2 v1 v2
    → FollowsFrom base reply chunked F.NoMemory (view_of k l p u v) (view_of n l' q2 u' v2)
short base k reply chunked old new p q q2 u u' v v1 v2 place f turn =
    let a = asked base k reply chunked P.NoMemory old new p q q2 u u' v v1 v2 place f turn in
    record {
      moves = a.now.stands.moves;
      still = a.now.stands.still;
      quiet = a.now.stands.quiet;
      whole = false;
      by_end = refl;
      comes = short_comes reply a.now.stands.moves.handed a.now.timed;
      body = a.now.body;
      sent = a.now.sent;
      part = a.now.sent;
      tells = told_broken reply p.charter base q2.seen a.now.body place
          (said_short reply p.charter q2.seen P.NoMemory old new a.now.stands.moves.handed place tt a.said) a.now.told;
      ends = ends_short reply p.charter a.now.body a.now.stands.moves.handed base q2.seen;
      pieces = a.now.pieces;
      taken = refl;
      sink = a.now.sink;
      cause = tt;
    }

-- what comes next is no longer kept
pub gone : {n : ℕ} {l l' : ℕ × ℕ × ℕ} (base : List Step) (k next first : ℕ) (reply : Reply) (chunked : Bool) (old new : List ℕ) (p q q2 : PassView) (u u' : SinkView)
    (v v1 v2 : ClockView) (place : ℕ) → Following base k reply chunked p q u u' v v1 place
    → AsksPart k reply place (P.Gone next first) old new q q2 v1 v2 → FollowsFrom base reply chunked (F.Lagged next first) (view_of k l p u v) (view_of n l' q2 u' v2)
gone base k next first reply chunked old new p q q2 u u' v v1 v2 place f turn =
    let a = asked base k reply chunked (P.Gone next first) old new p q q2 u u' v v1 v2 place f turn in
    record {
      moves = a.now.stands.moves;
      still = a.now.stands.still;
      quiet = a.now.stands.quiet;
      whole = false;
      by_end = refl;
      comes = lapsed_comes reply next first a.now.stands.moves.handed a.now.timed;
      body = a.now.body;
      sent = a.now.sent;
      part = a.now.sent;
      tells = told_broken reply p.charter base q2.seen a.now.body place
          (said_short reply p.charter q2.seen (P.Gone next first) old new a.now.stands.moves.handed place tt a.said) a.now.told;
      ends = told_gone reply p.charter base q2.seen a.now.body old new a.now.stands.moves.handed place next first (extends_on base p.seen q2.seen a.now.from a.now.stands.moves.extends) a.now.told a.said;
      pieces = a.now.pieces;
      taken = refl;
      sink = a.now.sink;
      cause = tt;
    }

-- its peer is gone
pub unread : {n : ℕ} {l l' : ℕ × ℕ × ℕ} (base : List Step) (k : ℕ) (reply : Reply) (chunked : Bool) (old new : List ℕ) (p q q2 : PassView) (u u1 u2 : SinkView) (v v0 v1 v2 : ClockView) (place : ℕ)
    → Following base k reply chunked p q u u1 v v0 place → AsksPart k reply place P.UpToDate old new q q2 v0 v1
    → SinkTook u1 [] u2 × Rose u1.faults u2.faults × (v2 ≡ v1) → FollowsFrom base reply chunked F.WriteFault (view_of k l p u v) (view_of n l' q2 u2 v2)
unread base k reply chunked old new p q q2 u u1 u2 v v0 v1 v2 place f turn (took, rose, same) =
    let a = asked base k reply chunked P.UpToDate old new p q q2 u u1 v v0 v2 place f (subst (AsksPart k reply place P.UpToDate old new q q2 v0) (sym same) turn) in
    record {
      moves = a.now.stands.moves;
      still = a.now.stands.still;
      quiet = a.now.stands.quiet;
      whole = false;
      by_end = tt;
      comes = a.now.timed;
      body = a.now.body;
      sent = a.now.sent;
      part = a.now.sent;
      tells = told_broken reply p.charter base q2.seen a.now.body place
          (said_short reply p.charter q2.seen P.UpToDate old new a.now.stands.moves.handed place tt a.said) a.now.told;
      ends = ends_failed reply p.charter a.now.body a.now.stands.moves.handed base q2.seen;
      pieces = a.now.pieces;
      taken = ([], append-nil a.now.sent);
      sink = subst (λ x. SinkTook u x u2) (append-nil a.now.sent) (sink_on u u1 u2 a.now.sent [] a.now.sink took);
      cause = rose_since u.faults u1.faults u2.faults a.now.sink.faults rose;
    }

-- ---- a write failed

pub failed : {n : ℕ} {l l' : ℕ × ℕ × ℕ} (base : List Step) (k next : ℕ) (reply : Reply) (chunked : Bool) (old new : List ℕ) (x : Failed) (p q q2 : PassView) (u u1 u2 : SinkView)
    (v v1 v2 : ClockView) (place : ℕ) → Following base k reply chunked p q u u1 v v1 place
    → AsksPart k reply place (P.More next) old new q q2 v1 v2 → old ≡ []
    → WriteSays (Err x) (written_of chunked new) u1 u2 → FollowsFrom base reply chunked F.WriteFault (view_of k l p u v) (view_of n l' q2 u2 v2)
failed base k next reply chunked old new x p q q2 u u1 u2 v v1 v2 place f turn empty (part, (cut, front), took, rose) =
    let bytes : List ℕ = written_of chunked new in
    let a = asked base k reply chunked (P.More next) old new p q q2 u u1 v v1 v2 place f turn in
    let told = told_more reply p.charter base q2.seen a.now.body old new a.now.stands.moves.handed place next (extends_on base p.seen q2.seen a.now.from a.now.stands.moves.extends) a.now.told a.said empty in
    let either = told_either reply p.charter base q2.seen (a.now.body ++ new) next told in
    record {
      moves = a.now.stands.moves;
      still = a.now.stands.still;
      quiet = a.now.stands.quiet;
      whole = either.whole;
      by_end = tt;
      comes = either.comes a.now.stands.moves.handed a.now.timed;
      body = a.now.body ++ new;
      sent = a.now.sent ++ bytes;
      part = a.now.sent ++ part;
      tells = either.tells;
      ends = ends_failed reply p.charter (a.now.body ++ new) a.now.stands.moves.handed base q2.seen;
      pieces = sent_more chunked a.now.body a.now.sent new a.now.pieces;
      taken = (cut, append_assoc a.now.sent part cut ∙ ap (λ y. a.now.sent ++ y) front);
      sink = sink_on u u1 u2 a.now.sent part a.now.sink took;
      cause = rose_since u.faults u1.faults u2.faults a.now.sink.faults rose;
    }

-- ---- a stream that is whole

pub whole : {n : ℕ} {l l' : ℕ × ℕ × ℕ} (base : List Step) (k : ℕ) (reply : Reply) (chunked : Bool) (old new : List ℕ) (p q q2 : PassView) (u u' : SinkView)
    (v v1 v2 : ClockView) (place : ℕ) → CanFollow p.charter base reply → Following base k reply chunked p q u u' v v1 place
    → AsksPart k reply place P.Whole old new q q2 v1 v2 → FollowsFrom base reply chunked F.Whole (view_of k l p u v) (view_of n l' q2 u' v2)
whole base k reply chunked old new p q q2 u u' v v1 v2 place may f turn =
    let a = asked base k reply chunked P.Whole old new p q q2 u u' v v1 v2 place f turn in
    record {
      moves = a.now.stands.moves;
      still = a.now.stands.still;
      quiet = a.now.stands.quiet;
      whole = true;
      by_end = refl;
      comes = whole_comes reply p.charter q2.seen old new a.now.stands.moves.handed place a.now.timed a.said;
      body = a.now.body;
      sent = a.now.sent;
      part = a.now.sent;
      tells = told_whole reply p.charter base q2.seen a.now.body old new a.now.stands.moves.handed place may (extends_on base p.seen q2.seen a.now.from a.now.stands.moves.extends) a.now.told a.said;
      ends = ends_whole reply p.charter a.now.body a.now.stands.moves.handed base q2.seen;
      pieces = a.now.pieces;
      taken = refl;
      sink = a.now.sink;
      cause = tt;
    }
