-- A connection that was made, and left.
use Rattle.std.proofs.Common.{◌≡◌, ◌⊎◌, ◌<◌, inl, inr, ℕ, List, [], ◌∷◌, ◌++◌, refl, sym, subst, ap, ◌∙◌, Bool, false, Option, Some, None, Result, Ok, Err, arith}
use Rattle.std.specs.Prelude.{not, cond, filter, bytes_eq}
use Rattle.std.specs.Cmp.Lexicographic.{bytes_decides}
use Rattle.engine_ports.specs.Rose.{Rose}
use Rattle.engine_ports.specs.Source.{SourceView, SourceGave}
use Rattle.engine_ports.specs.Sink.{SinkView, SinkTook}
use Rattle.engine_ports.specs.Door.{Came, ToldLast}
use Rattle.engine_ports.specs.Link.{LinkView, Wire, wire, Connects, Misses as LinkMisses, Leaves, others, but_for}
use Rattle.engine_ports.proofs.PortLemmas.{source_none}
use Rattle.response_reader.specs.Answers.{Answer, NoHead}
use Rattle.response_reader.proofs.HeadLemmas.{nothing_begins}
use Rattle.client_model.specs.Plans.{nothing}
use Rattle.client_model.specs.Runs.{Exchange, shows_unfit, IsSilent, WasSent, HaveCome, AreLeft}
use Rattle.client_model.specs.declared.fault.Fault.{Fault}
use Rattle.client_model.specs.declared.fault.Fault.TheVariants as F
use Rattle.client_exchange.specs.Outputs.{Outputs, BothTook}
use Rattle.client_exchange.specs.Taking.{Taken}
use Rattle.client_exchange.specs.Telling.{Told, ReadFails, HadToWrite, BreaksOff}
use Rattle.client_exchange.specs.Exchanges.{SendFails, IsUnsent, ConverseSays, MeetsOne, IsAnswered, HasGone, HasRefused, FailsOn, HasBroken, HasMissed, ExchangeSays}
use Rattle.client_exchange.specs.Feeding.{InputFails, TalkSays, FedSays}
use Rattle.client_exchange.specs.declared.failure.Failure.{Failure}
use Rattle.client_exchange.specs.declared.got.Got.{Got}
use Rattle.client_model.specs.declared.showing.Showing.{Showing}
use Rattle.client_exchange.proofs.OutputLemmas.{both_none, fronts_none}

-- a connection that was made is owed
pub is_owed : (address : List ℕ) (w : Wire) (v v' : LinkView) → Connects address w v v' → 0 < v'.owed
is_owed address w v v' c = by_rose c.owed
  where
    by_rose : Rose v.owed v'.owed → 0 < v'.owed
    by_rose (inl less) = omega (arith, less)
    by_rose (inr top) = omega (arith, top)

came_one : (o o' o'' : Option (List Wire)) (w : Wire) → Came o w o' → o'' ≡ o' → HaveCome o (w ∷ []) o''
came_one (Some before) (Some now) o'' w came is = subst (HaveCome (Some before) (w ∷ [])) (sym is) came
came_one None None o'' w came is = subst (HaveCome None (w ∷ [])) (sym is) tt
came_one (Some before) None o'' w came is = absurd came
came_one None (Some now) o'' w came is = absurd came

left_one : (o o' o'' : Option (List Wire)) (w : Wire) → o' ≡ o → ToldLast o' w o'' → AreLeft o (w ∷ []) o''
left_one o o' o'' w is left = go o o'' (subst (λ x. ToldLast x w o'') is left)
  where
    go : (o o'' : Option (List Wire)) → ToldLast o w o'' → AreLeft o (w ∷ []) o''
    go (Some before) (Some now) left = left
    go None None left = tt
    go (Some before) None left = absurd left
    go None (Some now) left = absurd left

-- a connection as it was made and left
exchange_of : (s s' : SourceView) (u u' : SinkView) (given sent : List ℕ) → SourceGave s given s' → SinkTook u sent u' → Exchange
exchange_of s s' u u' given sent gave took =
    record { came = wire s u; left = wire s' u'; given = given; sent = sent; gave = gave; took = took }

-- ---- addresses

not_kept : (test : List ℕ → Bool) (before : List (List ℕ)) (address : List ℕ) → test address ≡ false → filter test (before ++ address ∷ []) ≡ filter test before
not_kept test [] address is = rw is refl
not_kept test (x ∷ xs) address is = ap (λ l. cond (test x) (x ∷ l) l) (not_kept test xs address is)

-- an address that is asked for is none of the others
others_stay : (address : List ℕ) (o o' o'' : Option (List (List ℕ))) → ToldLast o address o' → o'' ≡ o' → others address o'' ≡ others address o
others_stay address (Some before) (Some now) o'' left is =
    ap (others address) is ∙ ap (λ l. others address (Some l)) left ∙ ap Some (not_kept (λ other. not (bytes_eq other address)) before address (ap not ((bytes_decides address address).1 refl)))
others_stay address None None o'' left is = ap (others address) is
others_stay address (Some before) None o'' left is = absurd left
others_stay address None (Some now) o'' left is = absurd left

-- nor where it may go untold
others_at : (address : List ℕ) (o o' : Option (List (List ℕ))) → ToldLast o address o' ⊎ (o' ≡ o) → others address o' ≡ others address o
others_at address o o' (inl added) = others_stay address o o' o' added refl
others_at address o o' (inr untold) = ap (others address) untold

module _ (address : List ℕ) (v v1 v2 : LinkView) (s s' : SourceView) (u u' : SinkView) (made : Connects address (wire s u) v v1) (left : Leaves (wire s' u') v1 v2) where
  meets : (x : Exchange) → x.came ≡ wire s u → x.left ≡ wire s' u' → MeetsOne (but_for address v) (but_for address v2) x
  meets x came was = record {
    came = subst (λ w. HaveCome v.coming (w ∷ []) v2.coming) (sym came) (came_one v.coming v1.coming v2.coming (wire s u) made.came left.coming);
    left = subst (λ w. AreLeft v.past (w ∷ []) v2.past) (sym was) (left_one v.past v1.past v2.past (wire s' u') made.past left.past);
    others = others_stay address v.addresses v1.addresses v2.addresses made.addresses left.addresses;
    faults = left.faults ∙ made.faults;
  }

  answered : (request : List ℕ) (showing : Showing) (answer : Answer) → SinkTook u request u' → Told (shows_unfit showing answer) s s' answer
      → IsAnswered request showing answer (but_for address v) (but_for address v2)
  unfolding exchange_of
  answered request showing answer took told = record {
    exchange = exchange_of s s' u u' told.bytes request told.gave took;
    meets = meets (exchange_of s s' u u' told.bytes request told.gave took) refl refl;
    sent = refl;
    is = told.is;
  }

  fails_on : (starved : Type 0) (fault : Fault) (x : Exchange) (o o' : Outputs) → x.came ≡ wire s u → x.left ≡ wire s' u' → ReadFails fault s s' o o' → FailsOn starved fault x o o'
  fails_on starved F.Connection x o o' came was f =
      inl (subst (λ (w : Wire). Rose w.source.faults x.left.source.faults) (sym came) (subst (λ (w : Wire). Rose s.faults w.source.faults) (sym was) f))
  fails_on starved F.Output x o o' came was f = f
  fails_on starved F.Errors x o o' came was f = f
  fails_on starved F.NoMemory x o o' came was f = f
  fails_on starved F.Words x o o' came was f = absurd f
  fails_on starved F.Input x o o' came was f = absurd f
  fails_on starved F.Answer x o o' came was f = absurd f
  fails_on starved F.NoCode x o o' came was f = absurd f
  fails_on starved (F.AnswerTo request status) x o o' came was f = absurd f
  fails_on starved F.NoCheck x o o' came was f = absurd f
  fails_on starved F.EventsGone x o o' came was f = absurd f
  fails_on starved F.TooLong x o o' came was f = absurd f
  fails_on starved (F.Refused message) x o o' came was f = absurd f
  fails_on starved F.Link x o o' came was f = absurd f

  send_fails : (starved : Type 0) (fault : Fault) (x : Exchange) (o o' : Outputs) → x.came ≡ wire s u → x.left ≡ wire s' u' → SendFails starved fault u u' → FailsOn starved fault x o o'
  send_fails starved F.Connection x o o' came was f =
      inr (subst (λ (w : Wire). Rose w.sink.faults x.left.sink.faults) (sym came) (subst (λ (w : Wire). Rose u.faults w.sink.faults) (sym was) f))
  send_fails starved F.Input x o o' came was f = f
  send_fails starved F.Output x o o' came was f = absurd f
  send_fails starved F.Errors x o o' came was f = absurd f
  send_fails starved F.NoMemory x o o' came was f = absurd f
  send_fails starved F.Words x o o' came was f = absurd f
  send_fails starved F.Answer x o o' came was f = absurd f
  send_fails starved F.NoCode x o o' came was f = absurd f
  send_fails starved (F.AnswerTo request status) x o o' came was f = absurd f
  send_fails starved F.NoCheck x o o' came was f = absurd f
  send_fails starved F.EventsGone x o o' came was f = absurd f
  send_fails starved F.TooLong x o o' came was f = absurd f
  send_fails starved (F.Refused message) x o o' came was f = absurd f
  send_fails starved F.Link x o o' came was f = absurd f

  broken : (bytes : List ℕ) (starved : Type 0) (fault : Fault) (showing : Showing) (o o' : Outputs) → SinkTook u bytes u' → BreaksOff fault showing s s' o o'
      → HasBroken bytes starved fault showing (record { link = but_for address v; shown = o }) (record { link = but_for address v2; shown = o' })
  unfolding exchange_of
  broken bytes starved fault showing o o' took b =
      let x = exchange_of s s' u u' b.told.bytes bytes b.told.gave took in record {
        answer = b.answer;
        exchange = x;
        meets = meets x refl refl;
        sent = sent_all fault b.cause;
        tells = b.told.is;
        began = b.began;
        cause = fails_on starved fault x o o' refl refl b.cause;
        had = b.had;
        all = b.all;
      }
    where
      sent_all : (fault : Fault) → ReadFails fault s s' o o' → WasSent fault (exchange_of s s' u u' b.told.bytes bytes b.told.gave took) bytes
      sent_all F.Connection r = inl refl
      sent_all F.Output r = refl
      sent_all F.Errors r = refl
      sent_all F.NoMemory r = refl
      sent_all F.Input r = absurd r
      sent_all F.Words r = absurd r
      sent_all F.Answer r = absurd r
      sent_all F.NoCode r = absurd r
      sent_all (F.AnswerTo request status) r = absurd r
      sent_all F.NoCheck r = absurd r
      sent_all F.EventsGone r = absurd r
      sent_all F.TooLong r = absurd r
      sent_all (F.Refused message) r = absurd r
      sent_all F.Link r = absurd r

  -- nothing was to be written
  unsent_had : (starved : Type 0) (fault : Fault) → SendFails starved fault u u' → HadToWrite fault nothing
  unsent_had starved F.Connection f = tt
  unsent_had starved F.Input f = tt
  unsent_had starved F.Output f = absurd f
  unsent_had starved F.Errors f = absurd f
  unsent_had starved F.NoMemory f = absurd f
  unsent_had starved F.Words f = absurd f
  unsent_had starved F.Answer f = absurd f
  unsent_had starved F.NoCode f = absurd f
  unsent_had starved (F.AnswerTo request status) f = absurd f
  unsent_had starved F.NoCheck f = absurd f
  unsent_had starved F.EventsGone f = absurd f
  unsent_had starved F.TooLong f = absurd f
  unsent_had starved (F.Refused message) f = absurd f
  unsent_had starved F.Link f = absurd f

  -- it is silent
  unsent_sent : (starved : Type 0) (fault : Fault) (x : Exchange) (bytes : List ℕ) → SendFails starved fault u u' → IsSilent x bytes → WasSent fault x bytes
  unsent_sent starved F.Connection x bytes f silent = inr silent
  unsent_sent starved F.Input x bytes f silent = silent
  unsent_sent starved F.Output x bytes f silent = absurd f
  unsent_sent starved F.Errors x bytes f silent = absurd f
  unsent_sent starved F.NoMemory x bytes f silent = absurd f
  unsent_sent starved F.Words x bytes f silent = absurd f
  unsent_sent starved F.Answer x bytes f silent = absurd f
  unsent_sent starved F.NoCode x bytes f silent = absurd f
  unsent_sent starved (F.AnswerTo request status) x bytes f silent = absurd f
  unsent_sent starved F.NoCheck x bytes f silent = absurd f
  unsent_sent starved F.EventsGone x bytes f silent = absurd f
  unsent_sent starved F.TooLong x bytes f silent = absurd f
  unsent_sent starved (F.Refused message) x bytes f silent = absurd f
  unsent_sent starved F.Link x bytes f silent = absurd f

  unsent : (bytes : List ℕ) (starved : Type 0) (failure : Failure) (showing : Showing) (o o' : Outputs) → IsUnsent bytes starved (Err failure) s s' u u' o o'
      → (b : HasBroken bytes starved failure.fault showing (record { link = but_for address v; shown = o }) (record { link = but_for address v2; shown = o' })) × (b.exchange.given ≡ [])
  unfolding exchange_of
  unsent bytes starved failure showing o o' b =
      let same : b.failure.fault ≡ failure.fault = ap (λ (f : Failure). f.fault) (err_same (Err failure) b.failure failure b.is refl) in
      let gave : SourceGave s [] s' = subst (SourceGave s []) (sym b.unread) (source_none s) in
      let x = exchange_of s s' u u' [] b.part gave b.took in (
        record {
          answer = NoHead;
          exchange = x;
          meets = meets x refl refl;
          sent = subst (λ f. WasSent f x bytes) same (unsent_sent starved b.failure.fault x bytes b.cause (b.front, refl));
          tells = nothing_begins;
          began = record { part = nothing; fronts = fronts_none nothing; took = subst (BothTook o nothing) (sym b.unshown) (both_none o) };
          cause = subst (λ f. FailsOn starved f x o o') same (send_fails starved b.failure.fault x o o' refl refl b.cause);
          had = subst (λ f. HadToWrite f nothing) same (unsent_had starved b.failure.fault b.cause);
          all = λ connection. (nothing_begins, refl, refl);
        },
        refl,
      )
    where
      err_same : (r : Result Got Failure) (a b : Failure) → r ≡ Err a → r ≡ Err b → a ≡ b
      err_same r a b p q = cc

  -- a connection that was made came to an answer, or broke off
  pub Gets : List ℕ → Type 0 → Result Got Failure → Showing → Taken → Outputs → Outputs → Type 0
  Gets bytes starved (Ok got) showing t o o' = HasGone bytes got showing t (record { link = but_for address v; shown = o }) (record { link = but_for address v2; shown = o' })
  Gets bytes starved (Err failure) showing t o o' =
      HasRefused bytes failure.fault failure.status showing (record { link = but_for address v; shown = o }) (record { link = but_for address v2; shown = o' })
      ⊎ HasBroken bytes starved failure.fault showing (record { link = but_for address v; shown = o }) (record { link = but_for address v2; shown = o' })

  pub gets : (bytes : List ℕ) (starved : Type 0) (result : Result Got Failure) (showing : Showing) (t : Taken) (o o' : Outputs)
      → ConverseSays bytes starved result showing t s s' u u' o o' → Gets bytes starved result showing t o o'
  unfolding Gets
  gets bytes starved (Ok got) showing t o o' (inl (took, g)) =
      record { head = g.head; body = g.body; below = g.below; status = g.status; first = g.first; kept = g.kept; answered = answered bytes showing _ took g.told; took = g.took }
  gets bytes starved (Err failure) showing t o o' (inl (took, inl r)) =
      inl (record { answer = r.answer; has = r.has; answered = answered bytes showing r.answer took r.told; refuses = r.refuses; took = r.took })
  gets bytes starved (Err failure) showing t o o' (inl (took, inr b)) = inr (broken bytes starved failure.fault showing o o' took b)
  gets bytes starved (Ok got) showing t o o' (inr b) = absurd (no_fault (Ok got) got b.failure refl b.is)
    where
      no_fault : (r : Result Got Failure) (got : Got) (failure : Failure) → r ≡ Ok got → r ≡ Err failure → ⊥
      no_fault r got failure p q = cc
  gets bytes starved (Err failure) showing t o o' (inr b) = inr (unsent bytes starved failure showing o o' b).0

  pub exchanged : (request : List ℕ) (result : Result Got Failure) (showing : Showing) (t : Taken) (o o' : Outputs)
      → ConverseSays request ⊥ result showing t s s' u u' o o'
      → ExchangeSays request result showing t (record { link = but_for address v; shown = o }) (record { link = but_for address v2; shown = o' })
  unfolding Gets
  exchanged request result showing t o o' says = by_result result (gets request ⊥ result showing t o o' says)
    where
      by_result : (result : Result Got Failure) → Gets request ⊥ result showing t o o'
          → ExchangeSays request result showing t (record { link = but_for address v; shown = o }) (record { link = but_for address v2; shown = o' })
      by_result (Ok got) g = g
      by_result (Err failure) (inl r) = inl r
      by_result (Err failure) (inr b) = inr (inl b)

  pub talked : (request : List ℕ) (result : Result Got Failure) (showing : Showing) (t : Taken) (i i' : SourceView) (o o' : Outputs)
      → TalkSays request result showing t i i' s s' u u' o o'
      → FedSays request result showing t i i' (record { link = but_for address v; shown = o }) (record { link = but_for address v2; shown = o' })
  unfolding Gets
  talked request (Ok got) showing t i i' o o' (input, gave, inl (ended, (took, says))) =
      (input, gave, ended, gets (request ++ input) (InputFails i i') (Ok got) showing t o o' (inl (took, says)))
  talked request (Err failure) showing t i i' o o' (input, gave, inl (ended, (took, says))) =
      by_answer (gets (request ++ input) (InputFails i i') (Err failure) showing t o o' (inl (took, says)))
    where
      by_answer : Gets (request ++ input) (InputFails i i') (Err failure) showing t o o'
          → FedSays request (Err failure) showing t i i' (record { link = but_for address v; shown = o }) (record { link = but_for address v2; shown = o' })
      by_answer (inl r) = inl (input, gave, inl (ended, r))
      by_answer (inr b) = inl (input, gave, inr (b, inl ended))
  talked request (Ok got) showing t i i' o o' (input, gave, inr b) = absurd (no_fault (Ok got) got b.failure refl b.is)
    where
      no_fault : (r : Result Got Failure) (got : Got) (failure : Failure) → r ≡ Ok got → r ≡ Err failure → ⊥
      no_fault r got failure p q = cc
  talked request (Err failure) showing t i i' o o' (input, gave, inr b) =
      let silent = unsent (request ++ input) (InputFails i i') failure showing o o' b in inl (input, gave, inr (silent.0, inr silent.1))

-- no connection was made
pub missed : (address : List ℕ) (v v' : LinkView) (o : Outputs) → LinkMisses address v v' → HasMissed F.Link (record { link = but_for address v; shown = o }) (record { link = but_for address v'; shown = o })
missed address v v' o m = record {
  missed = record {
    coming = m.coming;
    past = m.past;
    others = others_at address v.addresses v'.addresses m.addresses;
    faults = m.faults;
  };
  shown = refl;
  cause = tt;
}
