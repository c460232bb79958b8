-- What answering a connection of control says (own; requests one after another: RFC 9112, section 9.3).
use Rattle.std.specs.Prelude.{ℕ, ◌≡◌, ◌⊎◌, Bool, true, false, List, [], ◌∷◌, ◌++◌, Option, Result, Ok, Err}
use Rattle.engine_ports.specs.Rose.{Rose}
use Rattle.engine_ports.specs.Source.{SourceView, SourceGave, SourceEnded}
use Rattle.engine_ports.specs.Sink.{SinkView, IsFront, SinkTook}
use Rattle.engine_ports.specs.declared.ports.Failed.{Failed}
use Rattle.http_edge.specs.Message.{Request}
use Rattle.http_edge.specs.Spelling.{Begins, ReadsRequests}
use Rattle.http_edge.specs.Refusal.{AwaitsMore, IsRefused, IsUnfinished}
use Rattle.http_edge.specs.Response.{refusal_bytes}
use Rattle.json_answer.specs.Answer.{terms_of}
use Rattle.json_answer.specs.declared.asking.Terms.{Terms}
use Rattle.lab_control.specs.Asking.{asked_of}
use Rattle.control_session.specs.Answering.{terms_by, way_by, IsAnswer}
use Rattle.control_session.specs.declared.way.Way.{Way}
use Rattle.control_session.specs.declared.way.Way.TheVariants.{On, Closes, Stops}

-- what a request asks of its answer
abbrev pub terms_asked : Request → Terms
terms_asked r = terms_by (asked_of r) (terms_of r)

-- a piece was written whole; or a front of it, and the write failed
abbrev pub IsWritten : Result (Unit {0}) Failed → List ℕ → List ℕ → SinkView → SinkView → Type 0
IsWritten (Ok x) whole part u u' = part ≡ whole
IsWritten (Err x) whole part u u' = IsFront part whole × Rose u.faults u'.faults

-- the connection ends, and maybe the program
abbrev pub EndsSo : Way → Bool → Type 0
EndsSo On stops = ⊥
EndsSo Closes stops = stops ≡ false
EndsSo Stops stops = stops ≡ true

-- where no request is answered any more: the tail is refused, empty, or cut by the end or by a fault
abbrev pub EndsAt : List ℕ → List ℕ → SourceView → SourceView → Type 0
EndsAt tail part s s' =
    ((status : ℕ) × IsRefused tail status × IsFront part (refusal_bytes status))
    ⊎ ((part ≡ []) × (((tail ≡ []) ⊎ IsUnfinished tail) × SourceEnded s s' ⊎ AwaitsMore tail × Rose s.faults s'.faults))

module _ {T : Type 0} (time : Option T) where
  -- requests were answered whole, one after the other
  pub data AreAnswered : List Request → List ℕ → Type 0 where
    NoneYet : AreAnswered [] []
    OneMore : (rs : List Request) (r : Request) (w v : List ℕ)
        → AreAnswered rs w → IsAnswer time (asked_of r) (terms_asked r) v → AreAnswered (rs ++ r ∷ []) (w ++ v)

  -- the answer to a request is the last of the connection
  pub record EndsBy (r : Request) (stops : Bool) (part : List ℕ) (u u' : SinkView) : Type 0 where
    pub written : Result (Unit {0}) Failed
    pub whole : List ℕ
    pub answer : IsAnswer time (asked_of r) (terms_asked r) whole
    pub is_written : IsWritten written whole part u u'
    pub ends : EndsSo (way_by (asked_of r) (terms_asked r) written) stops

  abbrev pub Ends : List ℕ → Bool → List ℕ → SourceView → SourceView → SinkView → SinkView → Type 0
  Ends tail stops part s s' u u' =
      (EndsAt tail part s s' × (stops ≡ false))
      ⊎ ((r : Request) × (behind : List ℕ) × Begins tail r behind × EndsBy r stops part u u')

  -- some first requests of what was read are answered, and then the connection ends
  pub record Controls (stops : Bool) (s s' : SourceView) (u u' : SinkView) : Type 0 where
    pub read : List ℕ
    pub done : List Request
    pub tail : List ℕ
    pub bytes : List ℕ
    pub part : List ℕ
    pub source : SourceGave s read s'
    pub sink : SinkTook u (bytes ++ part) u'
    pub requests : ReadsRequests read done tail
    pub answered : AreAnswered done bytes
    pub ends : Ends tail stops part s s' u u'

  -- so is a connection answered; without memory for a reader nothing is read or written
  abbrev pub ControlSays : Bool → SourceView → SourceView → SinkView → SinkView → Type 0
  ControlSays stops s s' u u' =
      Controls stops s s' u u' ⊎ ((stops ≡ false) × (s' ≡ s) × (u' ≡ u))
