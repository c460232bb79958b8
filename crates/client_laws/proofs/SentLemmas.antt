-- What connections were sent, by the table.
use Rattle.std.proofs.Common.{ℕ, List, [], ◌∷◌, map, refl, subst}
use Rattle.std.specs.List.{AllZip}
use Rattle.engine_text.specs.Words.{AreUtf8}
use Rattle.client_model.specs.Plans.{Asked}
use Rattle.client_laws.specs.Sent.{IsSent, AreSentUpTo, EndedCallsSend, BrokenCallsSend}
use Rattle.client_laws.specs.Asked.{entries_of}
use Rattle.client_laws.specs.SentCalls.{IsSentAs, AreSentAsUpTo, SendsCalls, SendsCallsSoFar}
use Rattle.client_laws.proofs.LineLemmas.{ends-by-calls, breaks-off-by-calls}

sent-as : (input : List ℕ) (sents : List (List ℕ)) (asked : List Asked) → AllZip (IsSent input) sents asked → AllZip (IsSentAs input) sents (entries_of asked)
sent-as input [] [] h = h
sent-as input [] (a ∷ asked) h = absurd h
sent-as input (s ∷ sents) [] h = absurd h
sent-as input (s ∷ sents) (a ∷ asked) h = ((a.request, refl, h.0), sent-as input sents asked h.1)

pub sends-calls : (words : List (List ℕ)) → AreUtf8 words → EndedCallsSend → SendsCalls words
sends-calls words texts sends status o o' run short =
    subst (AllZip (IsSentAs run.input) (map (λ x. x.sent) run.xs)) (ends-by-calls words texts status o o' run)
    (sent-as run.input (map (λ x. x.sent) run.xs) run.said.asked (sends words status o o' run short))

sent-up-to : (input : List ℕ) (sents : List (List ℕ)) (asked : List Asked) → AreSentUpTo input sents asked → AreSentAsUpTo input sents (entries_of asked)
sent-up-to input [] asked h = tt
sent-up-to input (s ∷ []) [] h = absurd h
sent-up-to input (s ∷ []) (a ∷ asked) h = (h.0, h.1, (a.request, refl, h.2))
sent-up-to input (s ∷ t ∷ sents) [] h = absurd h
sent-up-to input (s ∷ t ∷ sents) (a ∷ asked) h = ((a.request, refl, h.0), sent-up-to input (t ∷ sents) asked h.1)

pub sends-calls-so-far : (words : List (List ℕ)) → AreUtf8 words → BrokenCallsSend → SendsCallsSoFar words
sends-calls-so-far words texts sends status o o' run short =
    let says = breaks-off-by-calls words texts status o o' run in (
      says.0,
      says.1,
      subst (AreSentAsUpTo run.course.input (map (λ x. x.sent) run.course.xs)) says.2
          (sent-up-to run.course.input (map (λ x. x.sent) run.course.xs) run.course.said.asked (sends words status o o' run short)),
    )
