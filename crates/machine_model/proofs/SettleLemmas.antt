-- Tickets that are settled at a step's end keep their numbers, and stand as before.
use Rattle.std.proofs.Common.{◌≡◌, ◌<◌, List, [], ◌∷◌, Option, Some, None, map, refl, ap, sym, subst}
use Rattle.std.specs.Prelude.{IsTrue, find, ◌==◌, option_and_then}
use Rattle.std.specs.List.{AllByRecursion}
use Rattle.machine_model.specs.State.{State, container_numbered}
use Rattle.machine_model.specs.Chain.{Died}
use Rattle.machine_model.specs.Effects.Settle.{settled, settle_tickets, reply_of}
use Rattle.machine_model.specs.Consistency.{AreDistinct, is_there, TicketStands, HasTickets}
use Rattle.engine_text.specs.declared.reply.Reply.{Reply}
use Rattle.engine_text.specs.declared.ticket.Ticket.{Ticket}
use Rattle.engine_text.specs.declared.container.Container.{Container}

stands_by : (s : State) (t : Ticket) (x : Option Reply) → IsTrue (is_there (container_numbered t.container s)) → TicketStands s t x
stands_by s t None there = there
stands_by s t (Some reply) there = tt

stands_settled : (s : State) (died : List Died) (t : Ticket) (o : Option Reply) → t.reply ≡ o → TicketStands s t o
    → TicketStands s (settled o t died s) (settled o t died s).reply
stands_settled s died t None e stands = stands_by s t (option_and_then (λ (c : Container). reply_of t.asked (find (λ d. d.number == c.number) died) c s) (container_numbered t.container s)) stands
stands_settled s died t (Some reply) e stands = subst (λ x. TicketStands s t x) (sym e) tt

number_settled : (s : State) (died : List Died) (t : Ticket) (o : Option Reply) → (settled o t died s).number ≡ t.number
number_settled s died t None = refl
number_settled s died t (Some reply) = refl

numbers_settled : (s : State) (died : List Died) (ts : List Ticket) → map (λ t. t.number) (map (λ t. settled t.reply t died s) ts) ≡ map (λ t. t.number) ts
numbers_settled s died [] = refl
numbers_settled s died (t ∷ ts) = rw (number_settled s died t t.reply) (ap (λ ns. t.number ∷ ns) (numbers_settled s died ts))

all_settled : (s : State) (died : List Died) (P : Ticket → Type 0) → ((t : Ticket) → P t → P (settled t.reply t died s)) → (ts : List Ticket)
    → AllByRecursion P ts → AllByRecursion P (map (λ t. settled t.reply t died s) ts)
all_settled s died P keeps [] all = tt
all_settled s died P keeps (t ∷ ts) all = (keeps t all.0, all_settled s died P keeps ts all.1)

pub settle-tickets : (s : State) (died : List Died) → HasTickets s → HasTickets (settle_tickets died s)
settle-tickets s died h = record {
  stand = all_settled s died (λ t. TicketStands s t t.reply) (λ t stands. stands_settled s died t t.reply refl stands) s.tickets h.stand;
  numbers = subst AreDistinct (sym (numbers_settled s died s.tickets)) h.numbers;
  below = all_settled s died (λ t. t.number < s.next_ticket) (λ t low. subst (λ n. n < s.next_ticket) (sym (number_settled s died t t.reply)) low) s.tickets h.below;
}
