-- Tickets keep distinct numbers, and one that isn't ready names a container that stands, through every effect.
use Rattle.std.proofs.Common.{◌≡◌, ◌≢◌, ℕ, ◌+◌, ◌<◌, ◌==◌, Bool, true, false, List, [], ◌∷◌, ◌++◌, IsTrue, Option, Some, None, find, map, if◌then◌else◌, refl, ap, sym, ◌∙◌, subst, arith}
use Rattle.std.proofs.lemmas.Bool.{eq-eqb}
use Rattle.std.specs.List.{AllByRecursion}
use Rattle.container_table.specs.Lists.{update_first, remove_first}
use Rattle.machine_model.specs.State.{State}
use Rattle.machine_model.specs.Chain.{Effect}
use Rattle.machine_model.specs.Consistency.{AreDistinct, is_there, TicketStands, HasTickets}
use Rattle.machine_model.specs.Due.{timed_out}
use Rattle.machine_model.specs.Effects.Destroy.{answer, answered, last_reply, last_answer}
use Rattle.machine_model.specs.Effects.Meet.{logged}
use Rattle.machine_model.proofs.ListLemmas.{all_append, all_weaken, all_mapped, distinct_more, found_in_more}
use Rattle.machine_model.proofs.Fold.RowLemmas.{made}
use Rattle.machine_model.proofs.Tables.NumberLemmas.{other_stands}
use Rattle.machine_model.proofs.ClosureLemmas.{IsClosed}
use Rattle.machine_model.proofs.ChangeLemmas.{all_removed, distinct_removed}
use Rattle.machine_model.proofs.Kept.NameLemmas.{}
use Rattle.engine_text.specs.declared.container.Container.{Container}
use Rattle.engine_text.specs.declared.container.Life.{Life}
use Rattle.engine_text.specs.declared.reply.Reply.{Reply}
use Rattle.engine_text.specs.declared.ticket.Asked.{Asked}
use Rattle.engine_text.specs.declared.ticket.Ticket.{Ticket}

-- ---- the relation

-- one that isn't ready names a container among these
abbrev pub StandsIn : List Container → Ticket → Option Reply → Type 0
StandsIn cs t None = IsTrue (is_there (find (λ c. c.number == t.container) cs))
StandsIn cs t (Some reply) = Unit {0}

abbrev pub TicketsOf : List Container → List Ticket → ℕ → Type 0
TicketsOf cs ts next =
    AllByRecursion (λ t. StandsIn cs t t.reply) ts × AreDistinct (map (λ t. t.number) ts) × AllByRecursion (λ t. t.number < next) ts

abbrev pub KeepsTickets : State → Effect → Type 0
KeepsTickets s e = TicketsOf s.containers s.tickets s.next_ticket → TicketsOf e.state.containers e.state.tickets e.state.next_ticket

-- ---- other containers

stands_by : (cs new : List Container) (t : Ticket) (o : Option Reply) → (is_there (find (λ c. c.number == t.container) cs) ≡ true → is_there (find (λ c. c.number == t.container) new) ≡ true)
    → StandsIn cs t o → StandsIn new t o
stands_by cs new t None k h = k h
stands_by cs new t (Some reply) k h = tt

over : (cs new : List Container) (ts : List Ticket) (next : ℕ) → ((n : ℕ) → is_there (find (λ c. c.number == n) cs) ≡ true → is_there (find (λ c. c.number == n) new) ≡ true)
    → TicketsOf cs ts next → TicketsOf new ts next
over cs new ts next k h = (all_weaken (λ t. StandsIn cs t t.reply) (λ t. StandsIn new t t.reply) (λ t stands. stands_by cs new t t.reply (k t.container) stands) ts h.0, h.1, h.2)

there_at : (b : Bool) (x y : Container) (r : Option Container) → is_there (if b then Some x else r) ≡ true → is_there (if b then Some y else r) ≡ true
there_at true x y r h = refl
there_at false x y r h = h

there_past : (b : Bool) (x : Container) (r t : Option Container) → (is_there r ≡ true → is_there t ≡ true) → is_there (if b then Some x else r) ≡ true → is_there (if b then Some x else t) ≡ true
there_past true x r t k h = refl
there_past false x r t k h = k h

there_cons : (hit : Bool) (m : ℕ) (g : List ℕ → List ℕ) (f : Life → Life) (c : Container) (cs new : List Container)
    → (is_there (find (λ c. c.number == m) cs) ≡ true → is_there (find (λ c. c.number == m) new) ≡ true)
    → is_there (find (λ c. c.number == m) (c ∷ cs)) ≡ true → is_there (find (λ c. c.number == m) (if hit then made g f c ∷ cs else c ∷ new)) ≡ true
there_cons true m g f c cs new k h = there_at (c.number == m) c (made g f c) (find (λ c. c.number == m) cs) h
there_cons false m g f c cs new k h = there_past (c.number == m) c (find (λ c. c.number == m) cs) (find (λ c. c.number == m) new) k h

-- what stood stands
pub there_changed : (n m : ℕ) (g : List ℕ → List ℕ) (f : Life → Life) (cs : List Container) → is_there (find (λ c. c.number == m) cs) ≡ true
    → is_there (find (λ c. c.number == m) (update_first (λ c. c.number == n) (made g f) cs)) ≡ true
there_changed n m g f [] h = h
there_changed n m g f (c ∷ cs) h = there_cons (c.number == n) m g f c cs (update_first (λ c. c.number == n) (made g f) cs) (there_changed n m g f cs) h

-- ---- other tickets

-- a change that leaves numbers, containers and replies that are there
pub record IsTicketMark (f : Ticket → Ticket) : Type 0 where
  pub number : (t : Ticket) → (f t).number ≡ t.number

mapped_numbers : (f : Ticket → Ticket) → IsTicketMark f → (ts : List Ticket) → map (λ t. t.number) (map f ts) ≡ map (λ t. t.number) ts
mapped_numbers f mark [] = refl
mapped_numbers f mark (t ∷ ts) =
    let one : (f t).number ≡ t.number = mark.number t in
    let more : map (λ t. t.number) (map f ts) ≡ map (λ t. t.number) ts = mapped_numbers f mark ts in
    λ i. one i ∷ more i

pub all_through : {A : Type 0} (P Q : A → Type 0) (f : A → A) → ((x : A) → P x → Q (f x)) → (xs : List A) → AllByRecursion P xs → AllByRecursion Q (map f xs)
all_through P Q f k [] h = tt
all_through P Q f k (x ∷ xs) h = (k x h.0, all_through P Q f k xs h.1)

through : (cs new : List Container) (ts : List Ticket) (next : ℕ) (f : Ticket → Ticket) → IsTicketMark f → ((t : Ticket) → StandsIn cs t t.reply → StandsIn new (f t) (f t).reply)
    → TicketsOf cs ts next → TicketsOf new (map f ts) next
through cs new ts next f mark k h = (
  all_through (λ t. StandsIn cs t t.reply) (λ t. StandsIn new t t.reply) f k ts h.0,
  subst AreDistinct (sym (mapped_numbers f mark ts)) h.1,
  all_through (λ t. t.number < next) (λ t. t.number < next) f (λ t low. subst (λ n. n < next) (sym (mark.number t)) low) ts h.2,
)

ready : (cs : List Container) (t : Ticket) (o : Option Reply) (r : Reply) → StandsIn cs t (answered o r)
ready cs t None r = tt
ready cs t (Some old) r = tt

-- ---- the removal of a container

pub last_number : (b : Bool) (c : Container) (t : Ticket) → (if b then answer (last_reply t.asked c.life.code) t else t).number ≡ t.number
last_number true c t = refl
last_number false c t = refl

last_by : (b : Bool) (c : Container) (cs : List Container) (t : Ticket) → (t.container == c.number) ≡ b → StandsIn cs t t.reply
    → StandsIn (remove_first (λ d. d.number == c.number) cs) (if b then answer (last_reply t.asked c.life.code) t else t) (if b then answer (last_reply t.asked c.life.code) t else t).reply
last_by true c cs t e h = ready (remove_first (λ d. d.number == c.number) cs) (answer (last_reply t.asked c.life.code) t) t.reply (last_reply t.asked c.life.code)
last_by false c cs t e h =
    stands_by cs (remove_first (λ d. d.number == c.number) cs) t t.reply
    (λ there. ap is_there (other_stands c.number t.container cs (λ same. let yes_it_is : (t.container == c.number) ≡ true = eq-eqb t.container c.number (sym same) in let never : false ≡ true = sym e ∙ yes_it_is in absurd (cc))) ∙ there) h

-- ---- deadlines

timed_number : (a : Asked) (c : Container) (t : Ticket) → (timed_out a c t).number ≡ t.number
timed_number Asked.Remove c t = refl
timed_number Asked.Stop c t = refl
timed_number Asked.Restart c t = refl
timed_number (Asked.Wait until) c t = refl

timed_stands : (a : Asked) (c : Container) (cs : List Container) (t : Ticket) → StandsIn cs t t.reply → StandsIn cs (timed_out a c t) (timed_out a c t).reply
timed_stands Asked.Remove c cs t h = ready cs (timed_out Asked.Remove c t) t.reply _
timed_stands Asked.Stop c cs t h = h
timed_stands Asked.Restart c cs t h = h
timed_stands (Asked.Wait until) c cs t h = h

pub either_number : (b : Bool) (c : Container) (t : Ticket) → (if b then timed_out t.asked c t else t).number ≡ t.number
either_number true c t = timed_number t.asked c t
either_number false c t = refl

either_stands : (b : Bool) (c : Container) (cs : List Container) (t : Ticket) → StandsIn cs t t.reply
    → StandsIn cs (if b then timed_out t.asked c t else t) (if b then timed_out t.asked c t else t).reply
either_stands true c cs t h = timed_stands t.asked c cs t h
either_stands false c cs t h = h

-- ---- one ticket more

map_more : (ts : List Ticket) (t : Ticket) → map (λ t. t.number) (ts ++ t ∷ []) ≡ map (λ t. t.number) ts ++ t.number ∷ []
map_more [] t = refl
map_more (x ∷ ts) t = ap (λ l. x.number ∷ l) (map_more ts t)

begun_tickets : (cs : List Container) (ts : List Ticket) (next : ℕ) (t : Ticket) → t.number ≡ next → StandsIn cs t t.reply → TicketsOf cs ts next → TicketsOf cs (ts ++ t ∷ []) (next + 1)
begun_tickets cs ts next t is stands h = (
  all_append (λ t. StandsIn cs t t.reply) ts (t ∷ []) h.0 (stands, tt),
  subst AreDistinct (sym (map_more ts t))
      (distinct_more (map (λ t. t.number) ts) t.number h.1
      (all_mapped (λ n. n ≢ t.number) (λ (t : Ticket). t.number) ts (all_weaken (λ u. u.number < next) (λ u. u.number ≢ t.number) (λ u low e. omega (arith, low, e, is)) ts h.2))),
  all_append (λ t. t.number < next + 1) ts (t ∷ []) (all_weaken (λ t. t.number < next) (λ t. t.number < next + 1) (λ t low. omega (arith, low)) ts h.2) (omega (arith, is), tt),
)

-- ---- every effect

pub tickets_closed : IsClosed KeepsTickets
tickets_closed = record {
  on_still = λ s h. h;
  on_after = λ s a b first second h. second (first h);
  on_told = λ s v at h. h;
  on_mounts = λ s a c h. h;
  on_ended = λ s d h. h;
  on_renew = λ s n f mark h.
      over s.containers (update_first (λ c. c.number == n) (made (λ name. name) f) s.containers) s.tickets s.next_ticket (λ m there. there_changed n m (λ name. name) f s.containers there) h;
  on_log = λ s n stream payload h.
      over s.containers (update_first (λ c. c.number == n) (made (λ name. name) (logged stream payload s.clock)) s.containers) s.tickets s.next_ticket
      (λ m there. there_changed n m (λ name. name) (logged stream payload s.clock) s.containers there) h;
  on_output = λ s n stream payload h. h;
  on_process = λ s owner f h. h;
  on_drop = λ s owner h. h;
  on_spawn = λ s owner program stdin room h. h;
  on_timers = λ s timers h. h;
  on_exec = λ s n f mark h. h;
  on_destroyed = λ s c found h.
      through s.containers (remove_first (λ d. d.number == c.number) s.containers) s.tickets s.next_ticket (last_answer c) (record { number = λ t. last_number (t.container == c.number) c t })
      (λ t stands. last_by (t.container == c.number) c s.containers t refl stands) h;
  on_begun = λ s connection c asked found h. begun_tickets s.containers s.tickets s.next_ticket _ refl (ap is_there found) h;
  on_time_out = λ s c h.
      through s.containers s.containers s.tickets s.next_ticket (λ t. if t.container == c.number then timed_out t.asked c t else t)
      (record { number = λ t. either_number (t.container == c.number) c t }) (λ t stands. either_stands (t.container == c.number) c s.containers t stands) h;
  on_end_ticket = λ s n h. (
    all_removed (λ t. StandsIn s.containers t t.reply) (λ t. t.number == n) s.tickets h.0,
    distinct_removed (λ t. t.number) (λ t. t.number == n) s.tickets h.1,
    all_removed (λ t. t.number < s.next_ticket) (λ t. t.number == n) s.tickets h.2,
  );
  on_made_volume = λ s name labels none h. h;
  on_gone_volume = λ s name unused h. h;
  on_made = λ s name spec free stand h. over s.containers (s.containers ++ _ ∷ []) s.tickets s.next_ticket (λ m there. found_in_more (λ c. c.number == m) s.containers _ there) h;
  on_made_exec = λ s c words stdin out err found h. h;
  on_renamed = λ s c name found free h.
      over s.containers (update_first (λ d. d.number == c.number) (made (λ old. name) (λ l. l)) s.containers) s.tickets s.next_ticket (λ m there. there_changed c.number m (λ old. name) (λ l. l) s.containers there) h;
}

-- ---- as HasTickets

to_stands : (s : State) (t : Ticket) (o : Option Reply) → StandsIn s.containers t o → TicketStands s t o
to_stands s t None h = h
to_stands s t (Some reply) h = tt

of_stands : (s : State) (t : Ticket) (o : Option Reply) → TicketStands s t o → StandsIn s.containers t o
of_stands s t None h = h
of_stands s t (Some reply) h = tt

pub tickets_of : (s : State) → HasTickets s → TicketsOf s.containers s.tickets s.next_ticket
tickets_of s h = (all_weaken (λ t. TicketStands s t t.reply) (λ t. StandsIn s.containers t t.reply) (λ t stands. of_stands s t t.reply stands) s.tickets h.stand, h.numbers, h.below)

pub has_tickets : (s : State) → TicketsOf s.containers s.tickets s.next_ticket → HasTickets s
has_tickets s h = record {
  stand = all_weaken (λ t. StandsIn s.containers t t.reply) (λ t. TicketStands s t t.reply) (λ t stands. to_stands s t t.reply stands) s.tickets h.0;
  numbers = h.1;
  below = h.2;
}
