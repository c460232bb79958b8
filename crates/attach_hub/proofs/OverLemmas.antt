-- A log's stream that takes its connection over: its body, what rose outside, and where nothing is pumped.
use Rattle.std.proofs.Common.{◌≡◌, inl, refl, ℕ, List, [], append-nil, sym, ◌∙◌, ap, subst, Bool, true, false, length, None}
use Rattle.std.specs.Prelude.{IsTrue, unwrap_or}
use Rattle.engine_ports.specs.Clock.{ClockView}
use Rattle.engine_ports.specs.Door.{outside}
use Rattle.engine_ports.specs.Sink.{SinkView}
use Rattle.engine_ports.specs.Source.{SourceView}
use Rattle.engine_ports.proofs.PortLemmas.{source_none}
use Rattle.engine_text.specs.declared.reply.LogSpec.{LogSpec}
use Rattle.engine_text.specs.declared.reply.Reply.TheVariants.{LogStream}
use Rattle.engine_text.specs.declared.step.Step.{Step}
use Rattle.machine_model.specs.History.{Charter, state_after}
use Rattle.machine_model.specs.LogStream.{IsLogStream, log_bytes, log_of, log_reach}
use Rattle.machine_model.specs.State.{State}
use Rattle.session_model.specs.declared.followed.Followed.{Followed}
use Rattle.session_model.specs.declared.followed.Followed.TheVariants as F
use Rattle.session_model.specs.Exchange.{IsBody, is_whole}
use Rattle.session_model.specs.Pass.{PassView}
use Rattle.session_model.specs.Progress.{Moves, GoesOver}
use Rattle.session_model.specs.Session.{FollowCause}
use Rattle.session_model.proofs.AddsLemmas.{owns}
use Rattle.session_model.proofs.HistoryLemmas.{extends_same}
use Rattle.session_model.proofs.TurnLemmas.{same_pass}
use Rattle.attach_hub.specs.Following.{FollowsSince, HasCause, IsTaken, IsWholeBy, MayFollow}
use Rattle.attach_hub.specs.Sides.{RunsOver}
use Rattle.attach_hub.specs.Connection.{view_of}

-- ---- its body

-- all of a log's stream is a beginning of it
unfinished : (s : State) (spec : LogSpec) (body : List ℕ) → IsLogStream s spec true body → IsLogStream s spec false body
unfinished s spec body (kept, (end, known, is)) =
    let reach : log_reach s spec ≡ end = ap (λ o. unwrap_or o (length (log_of s spec.owner))) known in
    (kept, ([], append-nil body ∙ is ∙ ap (log_bytes s spec spec.first) (sym reach)))

begins_so : (whole : Bool) (ch : Charter) (spec : LogSpec) (a b : List Step) (body : List ℕ) → IsBody ch (LogStream spec) whole a b body
    → IsBody ch (LogStream spec) false a b body
begins_so true ch spec a b body (at, first, last, is) = (at, first, last, unfinished (state_after ch at) spec body is)
begins_so false ch spec a b body tells = tells

-- it is whole where the stream was
pub told_so : (f : Followed) (whole : Bool) (ch : Charter) (spec : LogSpec) (a b : List Step) (body : List ℕ) → IsWholeBy f whole
    → IsBody ch (LogStream spec) whole a b body → IsBody ch (LogStream spec) (is_whole f) a b body
told_so F.Whole whole ch spec a b body is tells = subst (λ x. IsBody ch (LogStream spec) x a b body) is tells
told_so F.Stopped whole ch spec a b body is tells = subst (λ x. IsBody ch (LogStream spec) x a b body) is tells
told_so (F.Lagged next first) whole ch spec a b body is tells = subst (λ x. IsBody ch (LogStream spec) x a b body) is tells
told_so F.NoMemory whole ch spec a b body is tells = subst (λ x. IsBody ch (LogStream spec) x a b body) is tells
told_so F.WriteFault whole ch spec a b body is tells = begins_so whole ch spec a b body tells

-- what rose outside
pub cause_of : (f : Followed) (s s' : SourceView) (u u' : SinkView) (v v' : ClockView) → HasCause f u u' v v'
    → FollowCause f (outside s u v) (outside s' u' v')
cause_of F.Whole s s' u u' v v' cause = tt
cause_of F.Stopped s s' u u' v v' cause = cause
cause_of (F.Lagged next first) s s' u u' v v' cause = tt
cause_of F.WriteFault s s' u u' v v' cause = cause
cause_of F.NoMemory s s' u u' v v' cause = tt

-- ---- where nothing is pumped

goes_alone : (k : ℕ) (pumped : Bool) (p q : PassView) (v v' : ClockView) → IsTrue p.pair → Moves k p q v v' → GoesOver k pumped p q v v'
goes_alone k pumped p q v v' pair moves = record {
  handed = moves.handed;
  clock = moves.clock;
  extends = moves.extends;
  same = same_pass p q moves.stays;
  adds = λ every. owns k p q moves.adds;
  stays = λ b. moves.stays;
  input = λ b. inl (moves.stays.pair ∙ pair);
  within = λ h b. moves.within h;
}

-- its run takes no input
pub runs_unfed : {n m : ℕ} {l l1 l2 l3 : ℕ × ℕ × ℕ} (k : ℕ) (spec : LogSpec) (f : Followed) (p q : PassView) (ahead : List ℕ) (s : SourceView) (u u' : SinkView)
    (v v' : ClockView) → IsTrue p.pair → MayFollow (state_after p.charter p.seen) spec → spec.feed ≡ None
    → FollowsSince (LogStream spec) false f (view_of k l2 p u v) (view_of m l3 q u' v') → RunsOver spec f None (view_of k l p u v) (view_of n l1 q u' v') ahead s s
unfolding goes_alone
runs_unfed k spec f p q ahead s u u' v v' pair may none since =
    let sent = since.since p.seen (extends_same p.seen) may in
    record {
      body = sent.body;
      part = sent.part;
      pumps = record { read = []; gave = source_none s; holds = (none, sent.quiet pair) };
      unread = λ e. refl;
      tells = told_so f sent.whole p.charter spec p.seen q.seen sent.body sent.by_end sent.tells;
      ends = sent.ends;
      taken = subst (IsTaken f sent.part) sent.pieces sent.taken;
      sink = sent.sink;
      cause = (cause_of f s s u u' v v' sent.cause, tt);
      goes = goes_alone k _ p q v v' pair sent.moves;
    }
