-- Tickets settled one after the other.
use Rattle.std.proofs.Common.{◌≡◌, ℕ, zero, suc, ◌+◌, ◌<◌, ◌≤◌, List, [], ◌∷◌, ◌++◌, Option, Some, None, refl, ap, sym, ◌∙◌, arith, map, length, get_or, take, drop, find, add-one, ◌==◌, Bool, true, false, if◌then◌else◌}
use Rattle.std.specs.Prelude.{slice_get, option_and_then}
use Rattle.std.proofs.Math.ListN.{set}
use Rattle.engine_text.specs.declared.container.Container.{Container}
use Rattle.engine_text.specs.declared.reply.Reply.{Reply}
use Rattle.engine_text.specs.declared.ticket.Ticket.{Ticket}
use Rattle.engine_text.specs.declared.ticket.Asked.{Asked}
use Rattle.engine_text.specs.declared.call.Until.{Until}
use Rattle.machine_model.specs.State.{State, container_numbered}
use Rattle.machine_model.specs.Chain.{Died}
use Rattle.machine_model.specs.Effects.Settle.{settled, settle_tickets, reply_of, wait_reply}
use Rattle.machine_tables.specs.Held.{ticket_in, tickets_in, replies_in, answered_by, ready_by, ready_or}
use Rattle.machine_tables.specs.declared.held.RemovalResult.{RemovalResult}
use Rattle.machine_tables.specs.Places.{at_place}
use Rattle.machine_tables.specs.Settled.{settled_at, settled_place, replies_for}
use Rattle.machine_tables.specs.declared.held.HeldTicket.{HeldTicket}
use Rattle.machine_tables.specs.declared.held.Ready.{Ready}

-- ---- the state's tickets don't count

wait_same : (u : Until) (o : Option Died) (c : Container) (s : State) (ts : List Ticket) → wait_reply u o c (record s { tickets = ts }) ≡ wait_reply u o c s
wait_same Until.NotRunning o c s ts = refl
wait_same Until.NextExit o c s ts = refl
wait_same Until.Removed o c s ts = refl

of_same : (a : Asked) (o : Option Died) (c : Container) (s : State) (ts : List Ticket) → reply_of a o c (record s { tickets = ts }) ≡ reply_of a o c s
of_same Asked.Stop o c s ts = refl
of_same Asked.Restart o c s ts = refl
of_same Asked.Remove o c s ts = refl
of_same (Asked.Wait u) o c s ts = wait_same u o c s ts

by_same : (o : Option Container) (a : Asked) (died : List Died) (s : State) (ts : List Ticket) → (option_and_then (λ (c : Container). reply_of a (find (λ d. d.number == c.number) died) c (record s { tickets = ts })) o) ≡ option_and_then (λ (c : Container). reply_of a (find (λ d. d.number == c.number) died) c s) o
by_same None a died s ts = refl
by_same (Some c) a died s ts = of_same a (find (λ d. d.number == c.number) died) c s ts

same_settled : (o : Option Reply) (t : Ticket) (died : List Died) (s : State) (ts : List Ticket) → settled o t died (record s { tickets = ts }) ≡ settled o t died s
same_settled (Some r) t died s ts = refl
same_settled None t died s ts = ap (λ r. record t { reply = r }) (by_same (container_numbered t.container s) t.asked died s ts)

settled_reply : (o : Option Reply) (t : Ticket) (died : List Died) (s : State) → settled o t died s ≡ record t { reply = (settled o t died s).reply }
settled_reply (Some r) t died s = refl
settled_reply None t died s = refl

-- ---- places

-- a change at a place, in what the items mean
pub map_place : {A B : Type 0} (f : A → B) (g : A → A) (h : B → B) (xs : List A) (i : ℕ) (d : A) → i < length xs → f (g (get_or xs i d)) ≡ h (f (get_or xs i d)) → map f (at_place g i xs) ≡ at_place h i (map f xs)
map_place f g h [] i d low e = refl
map_place f g h (x ∷ xs) zero d low e = ap (λ y. y ∷ map f xs) e
map_place f g h (x ∷ xs) (suc i) d low e = ap (λ l. f x ∷ l) (map_place f g h xs i d (omega arith) e)

get_place : {A B : Type 0} (f : A → B) (xs : List A) (i : ℕ) (d : A) → i < length xs → slice_get (map f xs) i ≡ Some (f (get_or xs i d))
get_place f [] i d low = absurd (omega arith)
get_place f (x ∷ xs) zero d low = refl
get_place f (x ∷ xs) (suc i) d low = get_place f xs i d (omega arith)

-- an item is put where it was taken
pub set_at_place : {A : Type 0} (f : A → A) (xs : List A) (i : ℕ) (d y : A) → i < length xs → y ≡ f (get_or xs i d) → set xs i y ≡ at_place f i xs
set_at_place f [] i d y low e = absurd (omega arith)
set_at_place f (x ∷ xs) zero d y low e = ap (λ z. z ∷ xs) e
set_at_place f (x ∷ xs) (suc i) d y low e = ap (λ l. x ∷ l) (set_at_place f xs i d y (omega arith) e)

same_place : {A : Type 0} (f g : A → A) → ((x : A) → f x ≡ g x) → (i : ℕ) (xs : List A) → at_place f i xs ≡ at_place g i xs
same_place f g e i [] = refl
same_place f g e zero (x ∷ xs) = ap (λ y. y ∷ xs) (e x)
same_place f g e (suc i) (x ∷ xs) = ap (λ l. x ∷ l) (same_place f g e i xs)

next_place : {A : Type 0} (g : A → A) (xs : List A) (i : ℕ) → i < length xs → at_place g i (map g (take i xs) ++ drop i xs) ≡ map g (take (suc i) xs) ++ drop (suc i) xs
next_place g [] i low = absurd (omega arith)
next_place g (x ∷ xs) zero low = refl
next_place g (x ∷ xs) (suc i) low = ap (λ l. g x ∷ l) (next_place g xs i (omega arith))

-- the ticket at a place has its reply
pub settled_here : (seed : List ℕ) (items : List HeldTicket) (i : ℕ) (t : HeldTicket) (ready : Option Ready) (died : List Died) (s : State) → i < length items → s.tickets ≡ tickets_in seed items → s.seed ≡ seed
    → settled_at (slice_get s.tickets i) died s ≡ replies_for (slice_get s.tickets i) s ready
    → tickets_in seed (at_place (λ (t : HeldTicket). record t { ready = ready }) i items) ≡ at_place (λ t. settled t.reply t died s) i (tickets_in seed items)
settled_here seed items i d ready died s low is same h =
    let t : HeldTicket = get_or items i d in
    let got : slice_get s.tickets i ≡ Some (ticket_in seed t) = ap (λ l. slice_get l i) is ∙ get_place (ticket_in seed) items i d low in
    let r : (settled (ticket_in seed t).reply (ticket_in seed t) died s).reply ≡ replies_in seed t.container ready =
    sym (ap (λ o. settled_at o died s) got) ∙ (h ∙ (ap (λ o. replies_for o s ready) got ∙ ap (λ k. replies_in k t.container ready) same)) in
    map_place (ticket_in seed) (λ (t : HeldTicket). record t { ready = ready }) (λ t. settled t.reply t died s) items i d low
    (ap (λ o. record (ticket_in seed t) { reply = o }) (sym r) ∙ sym (settled_reply (ticket_in seed t).reply (ticket_in seed t) died s))

-- ---- the loop

abbrev pub upto : ℕ → List Died → State → State
upto i died s = record s { tickets = map (λ (t : Ticket). settled t.reply t died s) (take i s.tickets) ++ drop i s.tickets }

length_upto : {A : Type 0} (g : A → A) (xs : List A) (i : ℕ) → length (map g (take i xs) ++ drop i xs) ≡ length xs
length_upto g [] zero = refl
length_upto g [] (suc i) = refl
length_upto g (x ∷ xs) zero = refl
length_upto g (x ∷ xs) (suc i) = ap suc (length_upto g xs i)

pub upto_low : (i : ℕ) (died : List Died) (s a : State) → a ≡ upto i died s → i < length s.tickets → i < length a.tickets
upto_low i died s a e low =
    let same : length a.tickets ≡ length s.tickets = ap (λ (z : State). length z.tickets) e ∙ length_upto (λ (t : Ticket). settled t.reply t died s) s.tickets i in
    omega (arith, same, low)

pub upto_next : (i : ℕ) (died : List Died) (s a b : State) → a ≡ upto i died s → i < length s.tickets → b ≡ settled_place i died a → b ≡ upto (i + 1) died s
upto_next i died s a b e low h =
    let ts : List Ticket = map (λ (t : Ticket). settled t.reply t died s) (take i s.tickets) ++ drop i s.tickets in
    h ∙ (ap (λ z. settled_place i died z) e
    ∙ ap (λ l. record s { tickets = l })
    (same_place (λ (t : Ticket). settled t.reply t died (record s { tickets = ts })) (λ (t : Ticket). settled t.reply t died s) (λ t. same_settled t.reply t died s ts) i ts
    ∙ (next_place (λ (t : Ticket). settled t.reply t died s) s.tickets i low
    ∙ ap (λ k. map (λ (t : Ticket). settled t.reply t died s) (take k s.tickets) ++ drop k s.tickets) (sym (add-one i)))))

none_left : {A : Type 0} (g : A → A) (xs : List A) (i : ℕ) → length xs ≤ i → map g (take i xs) ++ drop i xs ≡ map g xs
none_left g [] zero far = refl
none_left g [] (suc i) far = refl
none_left g (x ∷ xs) zero far = absurd (omega arith)
none_left g (x ∷ xs) (suc i) far = ap (λ l. g x ∷ l) (none_left g xs i (omega arith))

pub upto_end : (i : ℕ) (died : List Died) (s a : State) → a ≡ upto i died s → length s.tickets ≤ i → a ≡ settle_tickets died s
upto_end i died s a e far = e ∙ ap (λ l. record s { tickets = l }) (none_left (λ (t : Ticket). settled t.reply t died s) s.tickets i far)

-- ---- a loop over all places

-- the first so many changed
abbrev pub changed_upto : {A : Type 0} → (A → A) → ℕ → List A → List A
changed_upto g i xs = map g (take i xs) ++ drop i xs

pub changed_low : {A : Type 0} (g : A → A) (i : ℕ) (xs ys : List A) → ys ≡ changed_upto g i xs → i < length xs → i < length ys
changed_low g i xs ys e low =
    let same : length ys ≡ length xs = ap length e ∙ length_upto g xs i in
    omega (arith, same, low)

pub changed_next : {A : Type 0} (g : A → A) (i : ℕ) (xs ys zs : List A) → ys ≡ changed_upto g i xs → i < length xs → zs ≡ at_place g i ys → zs ≡ changed_upto g (i + 1) xs
changed_next g i xs ys zs e low h =
    h ∙ (ap (at_place g i) e ∙ (next_place g xs i low ∙ ap (λ k. map g (take k xs) ++ drop k xs) (sym (add-one i))))

pub changed_end : {A : Type 0} (g : A → A) (i : ℕ) (xs ys : List A) → ys ≡ changed_upto g i xs → length xs ≤ i → ys ≡ map g xs
changed_end g i xs ys e far = e ∙ none_left g xs i far

-- ---- a ticket that is answered

answered_either : (b : Bool) (t : HeldTicket) (r : Option Ready) → (if b then record t { ready = r } else t) ≡ record t { ready = (if b then record t { ready = r } else t).ready }
answered_either true t r = refl
answered_either false t r = refl

pub put_answered : (removal : RemovalResult) (n : ℕ) (ready : Option Ready) (xs : List HeldTicket) (i : ℕ) → i < length xs → ((t : HeldTicket) → slice_get xs i ≡ Some t → ready ≡ (answered_by removal n t).ready) → at_place (λ (t : HeldTicket). record t { ready = ready }) i xs ≡ at_place (answered_by removal n) i xs
put_answered removal n ready [] i low e = absurd (omega arith)
put_answered removal n ready (x ∷ xs) zero low e =
    ap (λ (t : HeldTicket). t ∷ xs) (ap (λ r. record x { ready = r }) (e x refl) ∙ sym (answered_either (x.container == n) x (ready_or x.ready (ready_by removal x.asked))))
put_answered removal n ready (x ∷ xs) (suc i) low e = ap (λ l. x ∷ l) (put_answered removal n ready xs i (omega arith) e)

-- a ticket more
pub one_more : (seed : List ℕ) (t : HeldTicket) (ts : List HeldTicket) → tickets_in seed (ts ++ t ∷ []) ≡ tickets_in seed ts ++ ticket_in seed t ∷ []
one_more seed t [] = refl
one_more seed t (x ∷ xs) = ap (λ l. ticket_in seed x ∷ l) (one_more seed t xs)
