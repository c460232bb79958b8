-- Facts of a session that ends well: none of its answers is that of a wait that was stopped.
use Rattle.std.proofs.Common.{◌≡◌, ℕ, Bool, List, [], inl, inr, refl, sym, ◌∙◌, ap, subst, Option, Some, None}
use Rattle.engine_text.specs.declared.step.Step.{Step}
use Rattle.machine_model.specs.History.{Charter}
use Rattle.http_edge.specs.Message.{Request}
use Rattle.session_model.specs.declared.ending.Ending.{Ending}
use Rattle.session_model.specs.declared.followed.Followed.{Followed}
use Rattle.session_model.specs.declared.followed.Followed.TheVariants as F
use Rattle.session_model.specs.Completeness.{EndsWell, IsCalm}
use Rattle.session_model.specs.Exchange.{Flow, GoesOn, Leaves, IsAnswered, IsSentInChunks, InChunks, WaitIsStopped, OfBrokenWait, flow_behind}
use Rattle.session_model.specs.Responses.{terms_of}
use Rattle.session_model.specs.Session.{AreAnswered, NoneYet, OneMore, Ends, EndsBy, IsSession, Span, ending_of}
use Rattle.session_model.proofs.AnswerFacts.{IsCalmEnding, ends_unstopped}
use Rattle.session_model.proofs.CompleteLemmas.{completeness}

-- ---- what is served

-- a wait whose head came early wasn't stopped
abbrev pub IsServedInChunks : (ch : Charter) (k : ℕ) (r : Request) (behind : List ℕ) (a b : List Step) (f : Followed) (head body ms : List ℕ)
    → IsSentInChunks ch k r behind a b f head body ms → Type 0
IsServedInChunks ch k r behind a b f head body ms (OfBrokenWait c g ns is early broke given) = g ≡ F.Stopped → ⊥
IsServedInChunks ch k r behind a b f head body ms row = Unit {0}

-- it is an answer, but not that of a wait that was stopped
abbrev pub IsServed : (ch : Charter) (k : ℕ) (r : Request) (behind : List ℕ) (a b : List Step) (flow : Flow) (w ms : List ℕ)
    → IsAnswered ch k r behind a b flow w ms → Type 0
IsServed ch k r behind a b flow w ms (InChunks f head body chunks ns row cut) = IsServedInChunks ch k r behind a b f head body ns row
IsServed ch k r behind a b flow w ms (WaitIsStopped c ns is late given) = ⊥
IsServed ch k r behind a b flow w ms row = Unit {0}

-- so are all of these
abbrev pub AreServed : (ch : Charter) (k : ℕ) (rs : List Request) (a b : List Step) (w ms : List ℕ) → AreAnswered ch k rs a b w ms → Type 0
AreServed ch k rs a b w ms (NoneYet at) = Unit {0}
AreServed ch k rs a b w ms (OneMore done r at mid to v u ns ls before one) =
    AreServed ch k done at mid v ns before × IsServed ch k r [] mid to GoesOn u ls one

-- and the last answer
abbrev pub LastIsServed : (ch : Charter) (k : ℕ) (e : Ending) (tail : List ℕ) (pumps : Bool) (s : Span) → Ends ch k e tail pumps s → Type 0
LastIsServed ch k e tail pumps s (inl h) = Unit {0}
LastIsServed ch k e tail pumps s (inr (r, behind, begins, x)) = IsServed ch k r behind s.from s.to x.flow x.whole s.handed x.answered

-- ---- an answer behind which a stop doesn't leave the connection is served

served_in_chunks : (ch : Charter) (k : ℕ) (r : Request) (behind : List ℕ) (a b : List Step) (f : Followed) (head body ms : List ℕ)
    → (row : IsSentInChunks ch k r behind a b f head body ms) → (flow_behind (terms_of r) f ≡ Leaves F.Stopped None → ⊥)
    → IsServedInChunks ch k r behind a b f head body ms row
served_in_chunks ch k r behind a b f head body ms (OfBrokenWait c g ns is early broke given) goes = λ stopped. goes (ap (flow_behind (terms_of r)) stopped)
served_in_chunks ch k r behind a b f head body ms row goes = tt

served : (ch : Charter) (k : ℕ) (r : Request) (behind : List ℕ) (a b : List Step) (flow : Flow) (w ms : List ℕ)
    → (x : IsAnswered ch k r behind a b flow w ms) → (flow ≡ Leaves F.Stopped None → ⊥) → IsServed ch k r behind a b flow w ms x
served ch k r behind a b flow w ms (InChunks f head body chunks ns row cut) goes = served_in_chunks ch k r behind a b f head body ns row goes
served ch k r behind a b flow w ms (WaitIsStopped c ns is late given) goes = goes refl
served ch k r behind a b flow w ms row goes = tt

abbrev IsOn : Flow → Type 0
IsOn GoesOn = Unit {0}
IsOn flow = ⊥

pub all_served : (ch : Charter) (k : ℕ) (rs : List Request) (a b : List Step) (w ms : List ℕ) → (x : AreAnswered ch k rs a b w ms)
    → AreServed ch k rs a b w ms x
all_served ch k rs a b w ms (NoneYet at) = tt
all_served ch k rs a b w ms (OneMore done r at mid to v u ns ls before one) =
    (all_served ch k done at mid v ns before, served ch k r [] mid to GoesOn u ls one (λ is. subst IsOn is tt))

-- ---- of a session that ends well

abbrev IsCalmFor : Option Ending → Type 0
IsCalmFor (Some e) = IsCalmEnding e
IsCalmFor None = Unit {0}

ends_uncut : (ch : Charter) (k : ℕ) (r : Request) (behind : List ℕ) (e : Ending) (pumps : Bool) (s : Span) → IsCalmEnding e
    → (x : EndsBy ch k r behind e pumps s) → x.flow ≡ Leaves F.Stopped None → ⊥
ends_uncut ch k r behind e pumps s calm x is = elim (x.written) [
  | inl g ↦ subst IsCalmFor (sym g.0 ∙ ap ending_of is) calm
  | inr g ↦ subst IsCalmEnding g.0 calm
]

pub last_served : (ch : Charter) (k : ℕ) (e : Ending) (tail : List ℕ) (pumps : Bool) (s : Span) → IsCalmEnding e → (x : Ends ch k e tail pumps s)
    → LastIsServed ch k e tail pumps s x
last_served ch k e tail pumps s calm (inl h) = tt
last_served ch k e tail pumps s calm (inr (r, behind, begins, x)) =
    served ch k r behind s.from s.to x.flow x.whole s.handed x.answered (ends_uncut ch k r behind e pumps s calm x)

-- where nothing fails and nothing is stopped, each answer is served, and the session ends well
pub served_completely : (ch : Charter) (k : ℕ) (e : Ending) (pumps : Bool) (s : Span) → IsCalm s.old s.new → (x : IsSession ch k e pumps s)
    → AreServed ch k x.done s.from x.mid x.bytes x.early x.answered
    × LastIsServed ch k e x.tail pumps (record s { from = x.mid; written = x.last; handed = x.late }) x.ends
    × EndsWell e x.tail s.new
served_completely ch k e pumps s calm x =
    let well = completeness ch k e pumps s calm x in (
      all_served ch k x.done s.from x.mid x.bytes x.early x.answered,
      last_served ch k e x.tail pumps (record s { from = x.mid; written = x.last; handed = x.late }) (ends_unstopped e x.tail s.new well) x.ends,
      well,
    )
