-- What the class of a request tells of its call and of its answer (own).
use Rattle.std.specs.Prelude.{◌≡◌, ◌==◌, ◌||◌, ℕ, Bool, IsTrue}
use Rattle.engine_text.specs.declared.call.Call.{Call}
use Rattle.engine_text.specs.Soundness.{IsSound}
use Rattle.http_edge.specs.Message.{Request}
use Rattle.api_routes.specs.Class.{class_of}
use Rattle.api_routes.specs.declared.class.Class.{Class}
use Rattle.api_routes.specs.declared.class.Class.TheVariants.{Direct, Ask, Stream}
use Rattle.api_routes.specs.declared.class.DirectAnswer.{DirectAnswer}

-- what is true of the call of a class, where it has one
abbrev pub OfItsCall : (Call → Type 0) → Class → Type 0
OfItsCall P (Direct answer) = Unit {0}
OfItsCall P (Ask c) = P c
OfItsCall P (Stream c takeover) = P c

-- the call of a class is sound: its values lie within their bounds
abbrev pub CallsAreSound : Type 0
CallsAreSound = (r : Request) → OfItsCall IsSound (class_of r)

-- the statuses that a request's bytes alone may have: what was asked for, a bad request, no such route
abbrev pub is_direct_status : ℕ → Bool
is_direct_status status = status == 200 || status == 400 || status == 404

-- each direct answer has one of them, so that no other error comes without a call
abbrev pub AnswersHaveStatus : Type 0
AnswersHaveStatus = (r : Request) (answer : DirectAnswer) → class_of r ≡ Direct answer → IsTrue (is_direct_status answer.status)
