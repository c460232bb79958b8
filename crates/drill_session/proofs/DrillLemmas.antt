-- The one session of a drill.
use Rattle.std.proofs.Common.{arith, ◌≡◌, ◌⊎◌, inl, inr, ℕ, List, [], Some, subst, sym}
use Rattle.std.specs.Prelude.{Result, Ok, Err, IsErrAnd}
use Rattle.std.specs.List.{concat}
use Rattle.engine_ports.specs.Clock.{ClockView}
use Rattle.engine_ports.specs.Sink.{SinkView}
use Rattle.engine_ports.specs.Door.{outside}
use Rattle.engine_ports.specs.Rose.{Rose}
use Rattle.engine_ports.specs.Memory.{Store, sink_of}
use Rattle.engine_text.specs.declared.memory.NoMemory.{NoMemory}
use Rattle.engine_text.specs.declared.step.Step.{Step}
use Rattle.machine_model.specs.History.{Charter}
use Rattle.session_model.specs.declared.ending.Ending.{Ending}
use Rattle.session_model.specs.declared.ending.Ending.TheVariants as E
use Rattle.session_model.specs.Guarantee.{Serves}
use Rattle.session_model.specs.Pass.{PassView}
use Rattle.session_model.specs.Session.{EndingCause}
use Rattle.session_model.proofs.CauseLemmas.{causes}
use Rattle.daemon_core.specs.Storing.{pass_of}
use Rattle.drill_model.specs.Source.{Supply, full_source, empty_sink}
use Rattle.drill_model.specs.Requests.{drill_requests}
use Rattle.drill_session.specs.Running.{Session, IsReport, Drills}
use Rattle.drill_session.specs.declared.drill.Drilled.{Drilled}
use Rattle.drill_session.specs.declared.drill.Drilled.TheVariants.{Reported}
use Rattle.drill_model.proofs.UnrefusedLemmas.{IsUnrefused, ends_unrefused}

-- what was served is the session
module _ (ch c : Charter) (requests : ℕ) (e : Ending) (t t' : ClockView) (h : List Step) (p : PassView) (from to : Supply) (sink : SinkView) (taken : Store)
    (new : p ≡ pass_of ch []) (source_is : from ≡ record { left = concat (drill_requests ch.seed requests); ends = 0 }) (sink_is : sink ≡ empty_sink)
    (served : Serves 0 e p (pass_of c h) (outside (full_source from.left from.ends) sink t) (outside (full_source to.left to.ends) (sink_of taken) t')) where
  pub first : Serves 0 e (pass_of ch []) (pass_of c h)
      (outside (full_source (concat (drill_requests ch.seed requests)) 0) empty_sink t)
      (outside (full_source to.left to.ends) (sink_of taken) t')
  first =
      subst (λ (u : SinkView). Serves 0 e (pass_of ch []) (pass_of c h)
      (outside (full_source (concat (drill_requests ch.seed requests)) 0) u t) (outside (full_source to.left to.ends) (sink_of taken) t')) sink_is
      (subst (λ (s : Supply). Serves 0 e (pass_of ch []) (pass_of c h)
      (outside (full_source s.left s.ends) sink t) (outside (full_source to.left to.ends) (sink_of taken) t')) source_is
      (subst (λ (q : PassView). Serves 0 e q (pass_of c h)
      (outside (full_source from.left from.ends) sink t) (outside (full_source to.left to.ends) (sink_of taken) t')) new served))

  -- the daemon stays the one that was opened
  pub same_charter : c ≡ ch
  same_charter = first.goes.same.charter

  abbrev pub session_of : Session ch requests e t t'
  session_of = record {
    history = h;
    left = to.left;
    ends = to.ends;
    written = taken.wrote;
    faults = taken.faults;
    serves = subst (λ (d : Charter). Serves 0 e (pass_of ch []) (pass_of d h)
        (outside (full_source (concat (drill_requests ch.seed requests)) 0) empty_sink t)
        (outside (full_source to.left to.ends) (sink_of taken) t')) same_charter first;
  }

-- a closed session and its report
pub reported : (ch : Charter) (requests : ℕ) (e : Ending) (t t' : ClockView) (written : List ℕ) (h : List Step) (text : List ℕ) → e ≡ E.Closed
    → IsReport ch requests written h text
    → (s : Session ch requests e t t') → s.written ≡ written → s.history ≡ h → Drills ch requests (Ok (Reported text)) t t'
reported ch requests e t t' written h text is report =
    subst (λ (x : Ending). (s : Session ch requests x t t') → s.written ≡ written → s.history ≡ h → Drills ch requests (Ok (Reported text)) t t') (sym is)
    (λ s wrote seen. (
      s,
      subst (λ (l : List Step). IsReport ch requests s.written l text) (sym seen)
          (subst (λ (w : List ℕ). IsReport ch requests w h text) (sym wrote) report),
    ))

-- a call of it found no memory, before it or behind it
pub wants : (r : Result Drilled NoMemory) (none : NoMemory) (ch : Charter) (requests : ℕ) (t t' : ClockView) → IsErrAnd r (λ e. e ≡ none)
    → (t' ≡ t) ⊎ ((e : Ending) × Session ch requests e t t') → Drills ch requests r t t'
wants (Ok x) none ch requests t t' is when = absurd is
wants (Err x) none ch requests t t' is when = when

-- ---- how it doesn't end

never_rose : Rose 0 0 → ⊥
never_rose (inl less) = omega (arith, less)
never_rose (inr top) = omega (arith, top)

caused : (ch : Charter) (requests : ℕ) (e : Ending) (t t' : ClockView) (s : Session ch requests e t t')
    → EndingCause (Some e) (outside (full_source (concat (drill_requests ch.seed requests)) 0) empty_sink t)
    (outside (full_source s.left s.ends) (record { wrote = Some s.written; faults = s.faults }) t')
caused ch requests e t t' s =
    let v = s.serves in
    causes ch 0 e v.pumps
    (record {
      read = v.read;
      written = v.written;
      handed = v.goes.handed;
      from = [];
      to = s.history;
      old = outside (full_source (concat (drill_requests ch.seed requests)) 0) empty_sink t;
      new = outside (full_source s.left s.ends) (record { wrote = Some s.written; faults = s.faults }) t';
    }) v.session

-- no read of it fails
pub no_read_fault : (ch : Charter) (requests : ℕ) (t t' : ClockView) → Session ch requests E.ReadFault t t' → ⊥
no_read_fault ch requests t t' s = never_rose (caused ch requests E.ReadFault t t' s)

-- it is stopped where the clock's stops rose
pub stopped_by : (ch : Charter) (requests : ℕ) (t t' : ClockView) → Session ch requests E.Stopped t t' → Rose t.stops t'.stops
stopped_by ch requests t t' s = caused ch requests E.Stopped t t' s

-- no request of it is refused or cut, and none asks for a stream
pub unrefused : (ch : Charter) (requests : ℕ) (e : Ending) (t t' : ClockView) → Session ch requests e t t' → IsUnrefused e
unrefused ch requests e t t' s =
    let v = s.serves in
    ends_unrefused ch 0 ch.seed requests s.left e v.pumps
    (record {
      read = v.read;
      written = v.written;
      handed = v.goes.handed;
      from = [];
      to = s.history;
      old = outside (full_source (concat (drill_requests ch.seed requests)) 0) empty_sink t;
      new = outside (full_source s.left s.ends) (record { wrote = Some s.written; faults = s.faults }) t';
    })
    v.source.gave (λ ended. ended.spent) v.session
