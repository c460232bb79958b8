-- With what a call is replied whose answer has a status below 400.
use Rattle.std.proofs.Common.{arith, ◌≡◌, ◌<◌, ◌≤◌, ◌^◌, ◌++◌, ℕ, List, [], Bool, true, false, Option, Some, None, IsTrue, sym, ap, subst}
use Rattle.std.proofs.lemmas.Bool.Decides.{nat_tests}
use Rattle.engine_text.specs.Id.{id_of}
use Rattle.engine_text.specs.declared.call.AttachAsk.{AttachAsk}
use Rattle.engine_text.specs.declared.call.Call.{Call}
use Rattle.engine_text.specs.declared.call.CreateSpec.{CreateSpec}
use Rattle.engine_text.specs.declared.call.Until.{Until}
use Rattle.engine_text.specs.declared.container.Container.{Container}
use Rattle.engine_text.specs.declared.reply.Reply.{Reply}
use Rattle.engine_text.specs.declared.step.Step.{Step}
use Rattle.machine_model.specs.State.{State}
use Rattle.machine_model.specs.Filters.{is_image}
use Rattle.machine_model.specs.History.{Charter, state_after}
use Rattle.machine_model.specs.Names.{holder, chosen_name}
use Rattle.machine_model.specs.Statuses.{is_status_of, is_reply_of, gives_ticket}
use Rattle.machine_model.specs.Step.{at_moment}
use Rattle.machine_model.specs.Calls.Create.{by_image, by_holder}
use Rattle.machine_model.proofs.ReplyLemmas.{replies_law}
use Rattle.response_reader.specs.Heads.{is_bare}
use Rattle.session_model.specs.Exchange.{IsMade}
use Rattle.both_ends.proofs.CodeLemmas.{created_text}

-- ---- statuses

module _ (ch : Charter) (k : ℕ) (c : Call) (a b : List Step) where
  -- a call is answered with one of its own statuses
  pub has_status : (status : ℕ) (body : List ℕ) → IsMade ch k k c a b (Reply.Answer status body) → is_status_of c status ≡ true
  has_status status body made = subst (λ r. IsTrue (is_reply_of c r)) (sym made.7) (replies_law ch (a ++ made.0) k made.2 c)

  -- and gives a ticket only where it may
  pub has_ticket : (n : ℕ) → IsMade ch k k c a b (Reply.Begun n) → gives_ticket c ≡ true
  has_ticket n made = subst (λ r. IsTrue (is_reply_of c r)) (sym made.7) (replies_law ch (a ++ made.0) k made.2 c)

pub start_small : (target : List ℕ) (status : ℕ) → is_status_of (Call.Start target) status ≡ true → status < 2 ^ 64
start_small target status is = let low : status ≤ 409 = grind (arith, nat_tests, is) in omega (arith, low)

pub start_bare : (target : List ℕ) (status : ℕ) → is_status_of (Call.Start target) status ≡ true → status < 400 → (is_bare status ≡ true) × (102 ≤ status)
start_bare target status is low = (grind (arith, nat_tests, is, low), grind (arith, nat_tests, is, low))

pub remove_small : (target : List ℕ) (status : ℕ) → is_status_of (Call.Remove target false) status ≡ true → status < 2 ^ 64
remove_small target status is = let low : status ≤ 409 = grind (arith, nat_tests, is) in omega (arith, low)

pub remove_bare : (target : List ℕ) (status : ℕ) → is_status_of (Call.Remove target false) status ≡ true → status < 400 → (is_bare status ≡ true) × (102 ≤ status)
remove_bare target status is low = (grind (arith, nat_tests, is, low), grind (arith, nat_tests, is, low))

pub create_small : (spec : CreateSpec) (status : ℕ) → is_status_of (Call.Create spec) status ≡ true → status < 2 ^ 64
create_small spec status is = let low : status ≤ 409 = grind (arith, nat_tests, is) in omega (arith, low)

pub wait_refused : (target : List ℕ) (until : Until) (status : ℕ) → is_status_of (Call.Wait target until) status ≡ true → (400 ≤ status) × (status < 600)
wait_refused target until status is = (grind (arith, nat_tests, is), grind (arith, nat_tests, is))

pub attach_refused : (target : List ℕ) (ask : AttachAsk) (status : ℕ) → is_status_of (Call.Attach target ask) status ≡ true → (400 ≤ status) × (status < 600)
attach_refused target ask status is = (grind (arith, nat_tests, is), grind (arith, nat_tests, is))

-- ---- the reply that tells an id

unfoldable pub status_in : Reply → ℕ
status_in (Reply.Answer status body) = status
status_in r = 0

unfoldable pub body_in : Reply → List ℕ
body_in (Reply.Answer status body) = body
body_in r = []

-- what a create is replied with, below 400: 201, and the id of a number
abbrev pub TellsId : ℕ → List ℕ → Type 0
TellsId status body = (seed : List ℕ) × (n : ℕ) × (status ≡ 201) × (body ≡ created_text (id_of seed n))

other_status : (status s : ℕ) (body text : List ℕ) → Reply.Answer status body ≡ Reply.Answer s text → 400 ≤ s → status < 400 → ⊥
unfolding status_in
other_status status s body text is more low = let same : status ≡ s = ap status_in is in omega (arith, same, more, low)

held : (o : Option Container) (name : List ℕ) (spec : CreateSpec) (s : State) (status : ℕ) (body : List ℕ) → status < 400
    → Reply.Answer status body ≡ (by_holder o name spec s).reply → TellsId status body
unfolding status_in body_in
held (Some other) name spec s status body low is = absurd (other_status status 409 body _ is (omega arith) low)
held None name spec s status body low is = (s.seed, s.next_number, ap status_in is, ap body_in is)

imaged : (b : Bool) (spec : CreateSpec) (s : State) (status : ℕ) (body : List ℕ) → status < 400
    → Reply.Answer status body ≡ (by_image b spec s).reply → TellsId status body
imaged true spec s status body low is =
    let name : List ℕ = chosen_name spec.name s.next_number s.containers in held (holder name s.containers) name spec s status body low is
imaged false spec s status body low is = absurd (other_status status 404 body _ is (omega arith) low)

pub create_reply : (ch : Charter) (k : ℕ) (spec : CreateSpec) (a b : List Step) (status : ℕ) (body : List ℕ) → status < 400
    → IsMade ch k k (Call.Create spec) a b (Reply.Answer status body) → TellsId status body
create_reply ch k spec a b status body low made =
    imaged (is_image spec.image) spec (at_moment made.2 (state_after ch (a ++ made.0))) status body low made.7
