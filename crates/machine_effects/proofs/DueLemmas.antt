-- What deadlines and timers change.
use Rattle.std.proofs.Common.{◌≡◌, ℕ, ◌+◌, ◌==◌, Bool, true, false, List, [], ◌∷◌, Option, Some, None, refl, ap, sym, ◌∙◌, map, find, if◌then◌else◌, subst}
use Rattle.std.proofs.lemmas.Bool.{eqb-true}
use Rattle.engine_text.specs.Id.{id_of}
use Rattle.engine_text.specs.Scripts.{Program}
use Rattle.engine_text.specs.declared.container.Container.{Container}
use Rattle.engine_text.specs.declared.container.Life.{Life}
use Rattle.engine_text.specs.declared.reply.Reply.TheVariants.{Answer}
use Rattle.engine_text.specs.declared.ticket.Asked.{Asked}
use Rattle.engine_text.specs.declared.ticket.Ticket.{Ticket}
use Rattle.container_table.specs.Lists.{update_first}
use Rattle.machine_model.specs.Consistency.{is_there}
use Rattle.machine_model.specs.State.{State, container_numbered, change_life, clear_timer}
use Rattle.machine_model.specs.Chain.{Died, change, with_found}
use Rattle.machine_model.specs.EventTexts.{kill_event}
use Rattle.std.specs.Prelude.{option_map}
use Rattle.machine_model.specs.Due.{died, timed_out, time_out, restarted, stop_deadline}
use Rattle.machine_model.specs.Effects.Meet.{meet_signal}
use Rattle.machine_model.specs.Effects.Destroy.{answered}
use Rattle.machine_model.specs.Outcome.{message_text}
use Rattle.machine_model.specs.Refusals.{removal_timed_out}
use Rattle.machine_events.specs.Deadlines.{HasId, timed_out_at}
use Rattle.machine_events.specs.Fit.{CanEndBy, CanLaunch, CanSettle, HasEnded}
use Rattle.machine_tables.specs.Held.{ticket_in, tickets_in, replies_in, answered_by, late_ready, ready_or}
use Rattle.machine_events.specs.ChangedLives.{renewed, changed_life, counted}
use Rattle.machine_events.specs.Memory.{Room}
use Rattle.machine_tables.specs.declared.held.RemovalResult.{RemovalResult}
use Rattle.machine_tables.specs.declared.held.HeldTicket.{HeldTicket}
use Rattle.machine_events.specs.declared.end_memory.EndMemory.{EndMemory}
use Rattle.container_table.specs.declared.life_change.LifeChange.{LifeChange}
use Rattle.container_table.specs.declared.rank.Rank.{Rank}
use Rattle.machine_tables.specs.declared.held.Ready.{Ready}
use Rattle.machine_events.proofs.DiedToldLemmas.{behind_event}
use Rattle.machine_events.proofs.SettleLemmas.{found_updated, has_number, launch_alike, launch_changed, settle_clear}

-- ---- tickets

ready_late : (seed : List ℕ) (n : ℕ) (c : Container) (a : Asked) (o : Option Ready) (t : Ticket) → c.id ≡ id_of seed n → t.reply ≡ replies_in seed n o
    → record t { reply = replies_in seed n (ready_or o (late_ready a)) } ≡ timed_out a c t
ready_late seed n c Asked.Remove None t is e =
    ap (λ i. record t { reply = Some (Answer 409 (message_text (removal_timed_out i))) }) (sym is)
    ∙ ap (λ r. record t { reply = answered r (Answer 409 (message_text (removal_timed_out c.id))) }) (sym e)
ready_late seed n c Asked.Remove (Some r) t is e =
    ap (λ q. record t { reply = q }) (sym (ap (λ q. answered q (Answer 409 (message_text (removal_timed_out c.id)))) e))
ready_late seed n c Asked.Stop None t is e = ap (λ q. record t { reply = q }) (sym e)
ready_late seed n c Asked.Stop (Some r) t is e = ap (λ q. record t { reply = q }) (sym e)
ready_late seed n c Asked.Restart None t is e = ap (λ q. record t { reply = q }) (sym e)
ready_late seed n c Asked.Restart (Some r) t is e = ap (λ q. record t { reply = q }) (sym e)
ready_late seed n c (Asked.Wait u) None t is e = ap (λ q. record t { reply = q }) (sym e)
ready_late seed n c (Asked.Wait u) (Some r) t is e = ap (λ q. record t { reply = q }) (sym e)

late_either : (seed : List ℕ) (n : ℕ) (c : Container) (b : Bool) (t : HeldTicket) → c.id ≡ id_of seed n → (t.container == n) ≡ b
    → ticket_in seed (if b then record t { ready = ready_or t.ready (late_ready t.asked) } else t) ≡ (if b then timed_out t.asked c (ticket_in seed t) else ticket_in seed t)
late_either seed n c true t is of =
    let same : t.container ≡ n = eqb-true t.container n of in
    ready_late seed t.container c t.asked t.ready (ticket_in seed t) (is ∙ ap (id_of seed) (sym same)) refl
late_either seed n c false t is of = refl

tickets_late : (seed : List ℕ) (n : ℕ) (c : Container) (ts : List HeldTicket) → c.id ≡ id_of seed n
    → tickets_in seed (map (answered_by RemovalResult.TimedOut n) ts) ≡ map (λ (t : Ticket). if t.container == n then timed_out t.asked c t else t) (tickets_in seed ts)
tickets_late seed n c [] is = refl
tickets_late seed n c (t ∷ ts) is =
    ap (λ x. x ∷ tickets_in seed (map (answered_by RemovalResult.TimedOut n) ts)) (late_either seed n c (t.container == n) t is refl)
    ∙ ap (λ l. (if t.container == n then timed_out t.asked c (ticket_in seed t) else ticket_in seed t) ∷ l) (tickets_late seed n c ts is)

-- the tickets in memory are answered as the state's are
pub timed_out_found : (n : ℕ) (s : State) (seed : List ℕ) (ts : List HeldTicket) (o : Option Container) → container_numbered n s ≡ o → s.tickets ≡ tickets_in seed ts → s.seed ≡ seed → HasId n s
    → (c : Container) → o ≡ Some c → record s { tickets = tickets_in seed (map (answered_by RemovalResult.TimedOut n) ts) } ≡ (timed_out_at n s).state
timed_out_found n s seed ts o found is same id c e =
    let at : container_numbered n s ≡ Some c = found ∙ e in
    let number : c.number ≡ n = has_number n s c at in
    let named : c.id ≡ id_of seed n = id c at ∙ ap (λ k. id_of k n) same in
    ap (λ l. record s { tickets = l }) (tickets_late seed n c ts named ∙ ap (λ l. map (λ (t : Ticket). if t.container == n then timed_out t.asked c t else t) l) (sym is)
    ∙ ap (λ m. map (λ (t : Ticket). if t.container == m then timed_out t.asked c t else t) s.tickets) (sym number))
    ∙ sym (ap (λ q. (with_found q (λ (d : Container). change (time_out d)) s).state) at)

pub timed_out_none : (n : ℕ) (s : State) → container_numbered n s ≡ None → s ≡ (timed_out_at n s).state
timed_out_none n s e = sym (ap (λ q. (with_found q (λ (d : Container). change (time_out d)) s).state) e)

pub some_there : (o : Option Container) → is_there o ≡ true → (c : Container) × (o ≡ Some c)
some_there None e = absurd (cc)
some_there (Some c) e = (c, refl)

pub none_there : (o : Option Container) → is_there o ≡ false → o ≡ None
none_there None e = refl
none_there (Some c) e = absurd (cc)

-- ---- a restart more

same_either : {A : Type 0} (f g : A → A) (p : A → Bool) (b : Bool) (x : A) (y : A) (xs ys zs : List A) → (if b then Some x else find p xs) ≡ Some y → f y ≡ g y → (find p xs ≡ Some y → ys ≡ zs)
    → (if b then f x ∷ xs else x ∷ ys) ≡ (if b then g x ∷ xs else x ∷ zs)
same_either f g p true x y xs ys zs e h rest = let is : x ≡ y = cc in ap (λ z. z ∷ xs) (ap f is ∙ (h ∙ ap g (sym is)))
same_either f g p false x y xs ys zs e h rest = ap (λ l. x ∷ l) (rest e)

-- two changes that agree on what is found
pub update_same : {A : Type 0} (f g : A → A) (p : A → Bool) (xs : List A) (y : A) → find p xs ≡ Some y → f y ≡ g y → update_first p f xs ≡ update_first p g xs
update_same f g p [] y e h = absurd (cc)
update_same f g p (x ∷ xs) y e h = same_either f g p (p x) x y xs (update_first p f xs) (update_first p g xs) e h (λ r. update_same f g p xs y r h)

pub restarts_counted : (n : ℕ) (s : State) (c : Container) → container_numbered n s ≡ Some c → change_life n (changed_life (LifeChange.Restarted (c.life.restarts + 1))) s ≡ change_life n restarted s
restarts_counted n s c e = ap (λ l. record s { containers = l }) (update_same (renewed (counted (c.life.restarts + 1))) (renewed restarted) (λ (d : Container). d.number == n) s.containers c e refl)

unfound_either : {A : Type 0} (p : A → Bool) (f : A → A) (b : Bool) (x : A) (xs ys : List A) → (if b then Some x else find p xs) ≡ None → (find p xs ≡ None → xs ≡ ys) → x ∷ xs ≡ (if b then f x ∷ xs else x ∷ ys)
unfound_either p f true x xs ys e rest = absurd (cc)
unfound_either p f false x xs ys e rest = ap (λ l. x ∷ l) (rest e)

-- where nothing is found nothing is changed
pub update_unfound : {A : Type 0} (p : A → Bool) (f : A → A) (xs : List A) → find p xs ≡ None → xs ≡ update_first p f xs
update_unfound p f [] e = refl
update_unfound p f (x ∷ xs) e = unfound_either p f (p x) x xs (update_first p f xs) e (update_unfound p f xs)

pub none_counted : (n : ℕ) (s : State) → container_numbered n s ≡ None → s ≡ change_life n restarted s
none_counted n s e = ap (λ l. record s { containers = l }) (update_unfound (λ (d : Container). d.number == n) (renewed restarted) s.containers e)

-- after it the container may be launched
pub launch_timed : (n : ℕ) (script : Option Program) (s a b : State) → a ≡ clear_timer Rank.RestartTimer n s → b ≡ change_life n restarted a → CanLaunch n script s → CanLaunch n script b
launch_timed n script s a b h k can =
    subst (λ (z : State). CanLaunch n script z) (sym k)
    (launch_changed n script restarted (λ l. refl) (λ l. refl) a
    (subst (λ (z : State). CanLaunch n script z) (sym h) (launch_alike n script s (clear_timer Rank.RestartTimer n s) refl refl can)))

-- what follows is ready where SIGKILL ends the process
pub end_deadline : (n : ℕ) (brought : EndMemory) (room other : Room) (s a : State) → a ≡ clear_timer Rank.StopDeadline n s → other ≡ room → CanEndBy (stop_deadline n) n brought room s → CanEndBy (meet_signal 9 n) n brought other a
end_deadline n brought room other s a at same h ended =
    let y : State = clear_timer Rank.StopDeadline n s in
    subst (λ (r : Room). CanSettle n brought r a) (sym same)
    (subst (λ (z : State). CanSettle n brought room z) (sym at)
    (settle_clear n brought room Rank.StopDeadline n s (h
    (subst (λ (d : List Died). HasEnded d) (sym (behind_event (kill_event 9) n y (λ z. (meet_signal 9 n z).died)))
    (subst (λ (z : State). HasEnded (meet_signal 9 n z).died) at ended)))))

-- ---- an id stays

id_found : (seed : List ℕ) (n : ℕ) (f : Life → Life) (o : Option Container) → ((c : Container) → o ≡ Some c → c.id ≡ id_of seed n) → (c : Container) → option_map (renewed f) o ≡ Some c → c.id ≡ id_of seed n
id_found seed n f None named c e = absurd (cc)
id_found seed n f (Some d) named c e =
    let is : renewed f d ≡ c = cc in
    sym (ap (λ (x : Container). x.id) is) ∙ named d refl

id_renewed : (n : ℕ) (f : Life → Life) (s : State) → HasId n s → HasId n (change_life n f s)
id_renewed n f s h c at = id_found s.seed n f (container_numbered n s) h c (sym (found_updated (λ (d : Container). d.number == n) (renewed f) s.containers (λ d. refl)) ∙ at)

pub id_changed : (n : ℕ) (s a b : State) → a ≡ clear_timer Rank.RemovalDeadline n s → b ≡ change_life n died a → HasId n s → HasId n b
id_changed n s a b h k id =
    subst (λ (z : State). HasId n z) (sym k) (id_renewed n died a (subst (λ (z : State). HasId n z) (sym h) id))
