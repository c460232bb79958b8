-- One request of a command, by the plan that asks it (own).
use Rattle.std.specs.Prelude.{ℕ, ◌≡◌, ◌&&◌, List, [], Bool, true, false, Option, Some, Result, Ok, Err}
use Rattle.engine_ports.specs.Source.{SourceView}
use Rattle.http_edge.specs.Message.{Request}
use Rattle.http_edge.specs.declared.head.Head.{Head}
use Rattle.response_reader.specs.Heads.{first_in}
use Rattle.client_model.specs.Plans.{Plan, Asked, writes, named, asks_for, fails}
use Rattle.client_model.specs.Streams.{shows, may_end}
use Rattle.client_model.specs.declared.fault.Fault.{Fault}
use Rattle.client_model.specs.declared.showing.Showing.{Showing}
use Rattle.client_model.specs.declared.showing.Showing.TheVariants.{Kept, Copied, Demuxed}
use Rattle.client_exchange.specs.declared.body.Body.{Body}
use Rattle.client_exchange.specs.Exchanges.{Reach}
use Rattle.client_exchange.specs.Walks.{IsAsking, Walks, Does}
use Rattle.client_exchange.specs.Feeding.{Feeds, FedDoes}

-- a request, by whether standard input follows it and how the body of its answer is shown
abbrev pub asked_as : Request → Bool → Showing → Asked
asked_as request input showing = record { request = request; input = input; showing = showing }

-- how a plan goes on: by the number of the first event, where it is told; by the body, where it is kept; and by whether all of
-- that came and ends where it may
abbrev pub Onward : Type 0
Onward = Option ℕ → List ℕ → Bool → Plan

-- by an answer that doesn't refuse it writes what the body shows, and goes on
abbrev pub shown_then : Showing → Onward → Head → List ℕ → Bool → Plan
shown_then Kept next h body whole = next (first_in h.form) body whole
shown_then Copied next h body whole = writes (shows Copied body) (next (first_in h.form) [] (whole && may_end Copied body))
shown_then Demuxed next h body whole = writes (shows Demuxed body) (next (first_in h.form) [] (whole && may_end Demuxed body))

-- it asks, shows the body as it comes, and goes on
abbrev pub asks_then : Asked → Onward → Plan
asks_then asked next = asks_for asked (λ h body whole. shown_then asked.showing next h body whole)

-- it fails behind a body that isn't whole
abbrev pub FailsShort : Onward → Type 0
FailsShort next = (first : Option ℕ) (body : List ℕ) → (fault : Fault) × (next first body false ≡ fails fault)

-- whole exchanges bring a plan to the next; all of standard input follows one of their requests, or it is untouched
abbrev pub Brings : Bool → Plan → SourceView → SourceView → Reach → Plan → Reach → Type 0
Brings true plan v v' o next o' = Feeds plan v v' o next o'
Brings false plan v v' o next o' = Walks plan o next o' × (v' ≡ v)

-- what was done of a plan of which one request may be followed by standard input, or none is
abbrev pub DoesAs : Bool → Plan → Result ℕ Fault → SourceView → SourceView → Reach → Reach → Type 0
DoesAs true plan result v v' o o' = FedDoes plan result v v' o o'
DoesAs false plan result v v' o o' = Does plan result o o' × (v' ≡ v)

-- the body was shown, and the plan that goes on by it is reached, or fails by a fault that names the answer; or the plan ended or
-- broke off
abbrev pub AskDoes : Asked → Result Body Fault → SourceView → SourceView → Reach → Reach → Type 0
AskDoes asked (Ok body) v v' o o' =
    (next : Onward) → IsAsking (next body.first body.bytes.items body.whole)
    → Brings asked.input (asks_then asked next) v v' o
    (named body.line (Some body.status) (next body.first body.bytes.items body.whole)) o'
AskDoes asked (Err fault) v v' o o' =
    (next : Onward) → FailsShort next → DoesAs asked.input (asks_then asked next) (Err fault) v v' o o'
