-- What a cause of a broken call is, by the count that rose or by what was refused.
use Rattle.std.proofs.Common.{arith, ◌≡◌, ◌≤◌, ℕ, List, [], ◌∷◌, ◌++◌, length, drop, refl, sym, ap, ◌∙◌, subst, append-nil, length-append, None, true}
use Rattle.engine_ports.specs.Rose.{Rose}
use Rattle.engine_ports.specs.Sink.{SinkView, IsFront}
use Rattle.engine_ports.proofs.PortLemmas.{rose_since, rose_until}
use Rattle.response_reader.specs.Answers.{Answer}
use Rattle.client_model.specs.Plans.{Plan, Asked, Written, nothing, joined}
use Rattle.client_model.specs.Client.{said, said_by}
use Rattle.client_model.specs.Runs.{Outside, Exchange, shows_unfit, AreFronts, Course, CauseBehind, CauseWithin, missed_by}
use Rattle.client_model.specs.declared.fault.Fault.{Fault}
use Rattle.client_model.specs.declared.fault.Fault.TheVariants as F
use Rattle.client_exchange.specs.Outputs.{Outputs, outputs, BothTook}
use Rattle.client_exchange.specs.Telling.{HadToWrite, CountsAll}
use Rattle.client_exchange.specs.Exchanges.{Reach, FailsOn}
use Rattle.client_exchange.specs.Walks.{AsksFirst, FailsAlone}
use Rattle.engine_client.specs.Running.{outside_of}

-- ---- causes behind exchanges

-- the front of a list whose rest is told too
longer_none : (old part more : List ℕ) → IsFront old part → part ++ more ≡ old → more ≡ []
longer_none old part more (cut, is) e =
    none_of more (omega (arith, ap length is, length-append old cut, ap length e, length-append part more))
  where
    none_of : (l : List ℕ) → length l ≡ 0 → l ≡ []
    none_of [] none = refl
    none_of (b ∷ l) some = absurd (omega (arith, some))

-- why nothing more was asked, where this was written before and that was to be
pub alone_cause : (next : Plan) (fault : Fault) (c : Course) (sooner w : Written) (o m : Outside) (p q : Reach)
    → c.said.written ≡ joined w (said_by next None []).written → AreFronts sooner w
    → BothTook (outputs o.out o.err) w p.shown → q.shown ≡ outputs m.out m.err → (AsksFirst next → (c.wrote ≡ c.said.written) × (length (said_by next None []).asked ≡ 1))
    → FailsAlone next fault p q → CauseBehind fault c sooner (said_by next None []).asked o m
alone_cause next F.Output c sooner w o m p q is fronts took same one (rose, some) = (
  rose_since o.out.faults p.shown.out.faults m.out.faults took.out.faults
      (subst (λ (s : Outputs). Rose p.shown.out.faults s.out.faults) same rose),
  λ e. some (longer_none sooner.out w.out (said_by next None []).written.out fronts.out (sym (ap (λ (u : Written). u.out) is) ∙ e)),
)
alone_cause next F.NoMemory c sooner w o m p q is fronts took same one r = tt
alone_cause next F.Link c sooner w o m p q is fronts took same one r = one r
alone_cause next F.Errors c sooner w o m p q is fronts took same one r = absurd r
alone_cause next F.Input c sooner w o m p q is fronts took same one r = absurd r
alone_cause next F.Connection c sooner w o m p q is fronts took same one r = absurd r
alone_cause next F.Words c sooner w o m p q is fronts took same one r = absurd r
alone_cause next F.Answer c sooner w o m p q is fronts took same one r = absurd r
alone_cause next F.NoCode c sooner w o m p q is fronts took same one r = absurd r
alone_cause next (F.AnswerTo request status) c sooner w o m p q is fronts took same one r = absurd r
alone_cause next F.NoCheck c sooner w o m p q is fronts took same one r = absurd r
alone_cause next F.EventsGone c sooner w o m p q is fronts took same one r = absurd r
alone_cause next F.TooLong c sooner w o m p q is fronts took same one r = absurd r
alone_cause next (F.Refused message) c sooner w o m p q is fronts took same one r = absurd r

-- what is told behind it doesn't change it
pub behind_until : (fault : Fault) (c : Course) (sooner : Written) (more : List Asked) (o m : Outside) (e : SinkView) → CauseBehind fault c sooner more o m
    → CauseBehind fault c sooner more o (outside_of m.link m.input m.out e)
behind_until F.Output c sooner more o m e r = r
behind_until F.NoMemory c sooner more o m e r = r
behind_until F.Link c sooner more o m e r = r
behind_until F.Errors c sooner more o m e r = absurd r
behind_until F.Input c sooner more o m e r = absurd r
behind_until F.Connection c sooner more o m e r = absurd r
behind_until F.Words c sooner more o m e r = absurd r
behind_until F.Answer c sooner more o m e r = absurd r
behind_until F.NoCode c sooner more o m e r = absurd r
behind_until (F.AnswerTo request status) c sooner more o m e r = absurd r
behind_until F.NoCheck c sooner more o m e r = absurd r
behind_until F.EventsGone c sooner more o m e r = absurd r
behind_until F.TooLong c sooner more o m e r = absurd r
behind_until (F.Refused message) c sooner more o m e r = absurd r

-- ---- causes within an exchange

rest_none : (bytes more : List ℕ) → bytes ++ more ≡ bytes → more ≡ []
rest_none [] more e = e
rest_none (b ∷ bytes) more e = rest_none bytes more (ap (drop 1) e)

module _ (starved : Type 0) (x : Exchange) (answer : Answer) (now : Asked) (c : Course) (o m : Outside) (p : Reach) (w part v old : Written) where
  pub within_cause : (fault : Fault) → old ≡ w → c.wrote ≡ joined w part → c.said.written ≡ joined w v
      → BothTook (outputs o.out o.err) w p.shown → (starved → (now.input ≡ true) × Rose o.input.faults m.input.faults) → FailsOn starved fault x p.shown (outputs m.out m.err)
      → HadToWrite fault v → CountsAll fault (shows_unfit now.showing answer) x.given answer part v → CauseWithin fault x answer now c old o m
  within_cause F.Connection is wrote said took rose r had all =
      let counted = all refl in (r, counted.0, counted.1, wrote ∙ ap (joined w) counted.2 ∙ sym said)
  within_cause F.Input is wrote said took rose r had all = rose r
  within_cause F.Output is wrote said took rose r had all = (
    rose_since o.out.faults p.shown.out.faults m.out.faults took.out.faults r,
    λ e. had (rest_none w.out v.out (sym (ap (λ (u : Written). u.out) said) ∙ e ∙ ap (λ (u : Written). u.out) is)),
  )
  within_cause F.Errors is wrote said took rose r had all = (
    rose_since o.err.faults p.shown.err.faults m.err.faults took.err.faults r,
    λ e. had (rest_none w.err v.err (sym (ap (λ (u : Written). u.err) said) ∙ e ∙ ap (λ (u : Written). u.err) is)),
  )
  within_cause F.NoMemory is wrote said took rose r had all =
      said ∙ ap (joined w) had ∙ (λ i. record { out = append-nil w.out i; err = append-nil w.err i }) ∙ sym is
  within_cause F.Words is wrote said took rose r had all = absurd r
  within_cause F.Answer is wrote said took rose r had all = absurd r
  within_cause F.NoCode is wrote said took rose r had all = absurd r
  within_cause (F.AnswerTo request status) is wrote said took rose r had all = absurd r
  within_cause F.NoCheck is wrote said took rose r had all = absurd r
  within_cause F.EventsGone is wrote said took rose r had all = absurd r
  within_cause F.TooLong is wrote said took rose r had all = absurd r
  within_cause (F.Refused message) is wrote said took rose r had all = absurd r
  within_cause F.Link is wrote said took rose r had all = absurd r

pub within_until : (fault : Fault) (x : Exchange) (answer : Answer) (now : Asked) (c : Course) (old : Written) (o m : Outside) (e : SinkView) → m.err.faults ≤ e.faults
    → CauseWithin fault x answer now c old o m → CauseWithin fault x answer now c old o (outside_of m.link m.input m.out e)
within_until F.Errors x answer now c old o m e le r = (rose_until o.err.faults m.err.faults e.faults r.0 le, r.1)
within_until F.Output x answer now c old o m e le r = r
within_until F.Input x answer now c old o m e le r = r
within_until F.Connection x answer now c old o m e le r = r
within_until F.NoMemory x answer now c old o m e le r = r
within_until F.Link x answer now c old o m e le r = absurd r
within_until F.Words x answer now c old o m e le r = absurd r
within_until F.Answer x answer now c old o m e le r = absurd r
within_until F.NoCode x answer now c old o m e le r = absurd r
within_until (F.AnswerTo request status) x answer now c old o m e le r = absurd r
within_until F.NoCheck x answer now c old o m e le r = absurd r
within_until F.EventsGone x answer now c old o m e le r = absurd r
within_until F.TooLong x answer now c old o m e le r = absurd r
within_until (F.Refused message) x answer now c old o m e le r = absurd r

-- behind another fault than the link's connecting failed as often
pub as_often : (fault : Fault) (n m : ℕ) → (fault ≡ F.Link → ⊥) → m ≡ n → m ≡ missed_by fault n
as_often F.Link n m other same = absurd (other refl)
as_often F.Connection n m other same = same
as_often F.Input n m other same = same
as_often F.Output n m other same = same
as_often F.Errors n m other same = same
as_often F.NoMemory n m other same = same
as_often F.Words n m other same = same
as_often F.Answer n m other same = same
as_often F.NoCode n m other same = same
as_often (F.AnswerTo request status) n m other same = same
as_often F.NoCheck n m other same = same
as_often F.EventsGone n m other same = same
as_often F.TooLong n m other same = same
as_often (F.Refused message) n m other same = same
