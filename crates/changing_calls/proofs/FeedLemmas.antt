-- A feed or an end of input that is made ready is the call's outcome.
use Rattle.std.specs.Option.{option_map_or}
use Rattle.std.proofs.Common.{◌≡◌, ℕ, Bool, true, false, List, [], Option, Some, None, refl, ap, sym, ◌∙◌, subst}
use Rattle.engine_text.specs.declared.container.Container.{Container}
use Rattle.engine_text.specs.declared.owner.Owner.{Owner}
use Rattle.engine_text.specs.declared.reply.Reply.TheVariants.{Fed}
use Rattle.machine_model.specs.Calls.Feed.{end_by_owner, ends_if, ends_with, feed_by, feed_end_by, feed_end_outcome, feed_outcome}
use Rattle.machine_model.specs.Chain.{Effect, still}
use Rattle.machine_model.specs.Outcome.{Outcome, replies}
use Rattle.machine_model.specs.State.{State, container_numbered}
use Rattle.machine_model.specs.Step.{at_moment}
use Rattle.machine_model.specs.Streams.{RunState, Live, run_state}
use Rattle.changing_calls.specs.Calls.Feed.{IsFed, end_plan, ends_input}
use Rattle.call_plans.specs.Making.{Makes}
use Rattle.call_plans.specs.Needs.{Brings}
use Rattle.call_plans.specs.Plans.{plan_effect, need_of}
use Rattle.call_plans.specs.Runs.{run_in}
use Rattle.call_plans.specs.declared.plan.Plan.{Plan}
use Rattle.call_plans.specs.declared.prepared.Prepared.{Prepared}
use Rattle.call_plans.specs.declared.runs.Run.{Run}

-- a run is as far at each moment
run_at : (owner : Owner) (run t : ℕ) (s : State) → run_state owner run (at_moment t s) ≡ run_state owner run s
run_at (Owner.Container n) run t s = refl
run_at (Owner.Exec n) run t s = refl

-- an answer whether it was taken
made_fed : (p : Prepared) (t : ℕ) (s : State) (taken : Bool) (plan : Plan) (f : State → Outcome) → IsFed t taken plan p
    → replies (Fed taken) (plan_effect plan) (at_moment t s) ≡ f (at_moment t s) → [] ≡ (plan_effect plan (at_moment t s)).events → Brings (need_of plan) t s → Makes p t s f
made_fed p t s taken plan f fed out silent brings =
    let z : State = at_moment t s in
    record {
      moment = fed.moment;
      effect = ap (λ q. plan_effect q z) fed.plan ∙ ap (λ (o : Outcome). o.effect) out;
      events = fed.events ∙ (silent ∙ ap (λ (o : Outcome). o.effect.events) out);
      reply = fed.reply ∙ ap (λ (o : Outcome). o.reply) out;
      brings = subst (λ q. Brings (need_of q) t s) (sym fed.plan) brings;
    }

-- ---- a piece

pub feed_taken : (p : Prepared) (t : ℕ) (s : State) (owner : Owner) (run : ℕ) (piece bytes : List ℕ) (r : Run) → run_in r ≡ run_state owner run s → r ≡ Run.Live → piece ≡ bytes
    → IsFed t true (Plan.Feed owner piece) p → Makes p t s (feed_outcome owner run bytes)
feed_taken p t s owner run piece bytes r is live same fed =
    let z : State = at_moment t s in
    made_fed p t s true (Plan.Feed owner piece) (feed_outcome owner run bytes) fed
    (ap (λ b. feed_by Live owner b z) same ∙ ap (λ (w : RunState). feed_by w owner bytes z) (ap run_in (sym live) ∙ (is ∙ sym (run_at owner run t s)))) refl tt

not_taken : (p : Prepared) (t : ℕ) (s : State) (f : State → Outcome) → IsFed t false Plan.Nothing p → replies (Fed false) still (at_moment t s) ≡ f (at_moment t s) → Makes p t s f
not_taken p t s f fed out = made_fed p t s false Plan.Nothing f fed out refl tt

pub feed_over : (p : Prepared) (t : ℕ) (s : State) (owner : Owner) (run : ℕ) (bytes : List ℕ) (r : Run) → run_in r ≡ run_state owner run s → r ≡ Run.Over → IsFed t false Plan.Nothing p → Makes p t s (feed_outcome owner run bytes)
feed_over p t s owner run bytes r is over fed =
    not_taken p t s (feed_outcome owner run bytes) fed (ap (λ (w : RunState). feed_by w owner bytes (at_moment t s)) (ap run_in (sym over) ∙ (is ∙ sym (run_at owner run t s))))

pub feed_coming : (p : Prepared) (t : ℕ) (s : State) (owner : Owner) (run : ℕ) (bytes : List ℕ) (r : Run) → run_in r ≡ run_state owner run s → r ≡ Run.Coming → IsFed t false Plan.Nothing p → Makes p t s (feed_outcome owner run bytes)
feed_coming p t s owner run bytes r is coming fed =
    not_taken p t s (feed_outcome owner run bytes) fed (ap (λ (w : RunState). feed_by w owner bytes (at_moment t s)) (ap run_in (sym coming) ∙ (is ∙ sym (run_at owner run t s))))

-- ---- the end

ends_of : (o : Option Container) (owner : Owner) → ends_if (option_map_or (λ (c : Container). c.life.stdin_once) o false) owner ≡ ends_with o owner
ends_of None owner = refl
ends_of (Some c) owner = refl

end_of : (owner : Owner) (t : ℕ) (s : State) → ends_if (ends_input owner s) owner (at_moment t s) ≡ end_by_owner owner (at_moment t s)
end_of (Owner.Exec n) t s = refl
end_of (Owner.Container n) t s = ap (λ e. e (at_moment t s)) (ends_of (container_numbered n s) (Owner.Container n))

plan_of : (b : Bool) (owner : Owner) (s : State) → plan_effect (end_plan b owner) s ≡ ends_if b owner s
plan_of true owner s = refl
plan_of false owner s = refl

silent_plan : (b : Bool) (owner : Owner) (s : State) → [] ≡ (plan_effect (end_plan b owner) s).events
silent_plan true owner s = refl
silent_plan false owner s = refl

plan_brings : (b : Bool) (owner : Owner) (t : ℕ) (s : State) → Brings (need_of (end_plan b owner)) t s
plan_brings true owner t s = tt
plan_brings false owner t s = tt

-- what is taken, with that effect
abbrev fed_with : Effect → Outcome
fed_with e = record { effect = e; reply = Fed true }

pub end_taken : (p : Prepared) (t : ℕ) (s : State) (owner : Owner) (run : ℕ) (plan : Plan) (r : Run) → run_in r ≡ run_state owner run s → r ≡ Run.Live → plan ≡ end_plan (ends_input owner s) owner
    → IsFed t true plan p → Makes p t s (feed_end_outcome owner run)
end_taken p t s owner run plan r is live same fed =
    let z : State = at_moment t s in
    let b : Bool = ends_input owner s in
    made_fed p t s true (end_plan b owner) (feed_end_outcome owner run) (subst (λ q. IsFed t true q p) same fed)
    (ap fed_with (plan_of b owner z ∙ end_of owner t s)
    ∙ ap (λ (w : RunState). feed_end_by w owner z) (ap run_in (sym live) ∙ (is ∙ sym (run_at owner run t s)))) (silent_plan b owner z) (plan_brings b owner t s)

pub end_over : (p : Prepared) (t : ℕ) (s : State) (owner : Owner) (run : ℕ) (r : Run) → run_in r ≡ run_state owner run s → r ≡ Run.Over → IsFed t false Plan.Nothing p → Makes p t s (feed_end_outcome owner run)
end_over p t s owner run r is over fed =
    not_taken p t s (feed_end_outcome owner run) fed (ap (λ (w : RunState). feed_end_by w owner (at_moment t s)) (ap run_in (sym over) ∙ (is ∙ sym (run_at owner run t s))))

pub end_coming : (p : Prepared) (t : ℕ) (s : State) (owner : Owner) (run : ℕ) (r : Run) → run_in r ≡ run_state owner run s → r ≡ Run.Coming → IsFed t false Plan.Nothing p → Makes p t s (feed_end_outcome owner run)
end_coming p t s owner run r is coming fed =
    not_taken p t s (feed_end_outcome owner run) fed (ap (λ (w : RunState). feed_end_by w owner (at_moment t s)) (ap run_in (sym coming) ∙ (is ∙ sym (run_at owner run t s))))
