-- What becomes of a written history, by how far its plan was followed.
use Rattle.std.proofs.Common.{◌≡◌, inl, inr, ◌++◌, ℕ, List, Bool, true, false, length, sym, ap, subst, ◌∙◌}
use Rattle.std.specs.Prelude.{All, IsTrue}
use Rattle.std.proofs.lemmas.Bool.{false≢true}
use Rattle.engine_text.specs.declared.step.Step.{Step}
use Rattle.machine_model.specs.State.{State}
use Rattle.machine_model.specs.History.{Charter, IsLegal, state_after}
use Rattle.journal_lines.specs.Entries.{history_entries}
use Rattle.journal_lines.specs.FitsTypes.{EntryFitsTypes}
use Rattle.journal_lines.specs.Room.{has_places}
use Rattle.history_replay.specs.Legal.{CompleteLaw}
use Rattle.session_model.specs.Pass.{PassView}
use Rattle.daemon_core.specs.Keeping.{history_of}
use Rattle.daemon_core.specs.Passing.{charter, whole_pass}
use Rattle.daemon_core.specs.Storing.{pass_of}
use Rattle.daemon_core.specs.declared.daemon.Daemon.{Daemon}
use Rattle.daemon_core.proofs.CountLemmas.{counted_entries}
use Rattle.engine_reboot.specs.Planning.{reboot_plan}
use Rattle.engine_reboot.specs.Following.{CanFollow, FollowSays}
use Rattle.engine_reboot.specs.Rebooting.{PlanSays, RebootSays}
use Rattle.engine_reboot.specs.Reopening.{next_connection}
use Rattle.engine_reboot.specs.Replaying.{IsWritten}
use Rattle.engine_reboot.specs.declared.following.Followed.{Followed}
use Rattle.engine_reboot.specs.declared.following.Followed.TheVariants as followed
use Rattle.engine_reboot.specs.declared.planning.Planned.{Planned}
use Rattle.engine_reboot.specs.declared.rebooting.Rebooted.TheVariants.{Ready, Full}
use Rattle.engine_reboot.proofs.WalkLemmas.{can_follow}

-- the state behind what the daemon holds
abbrev pub state_of : Daemon → State
state_of d = state_after (charter d) (history_of d.stored.journal)

same_state : (d : Daemon) (ch : Charter) (h : List Step) → whole_pass d ≡ pass_of ch h → state_of d ≡ state_after ch h
same_state d ch h is = ap (λ (p : PassView). state_after p.charter p.seen) is

places_there : (text : List ℕ) (greatest : ℕ) (ch : Charter) (h : List Step) (d : Daemon) (s : State) → IsWritten text greatest ch h
    → whole_pass d ≡ pass_of ch h → s ≡ state_of d → has_places greatest s 0 ≡ has_places ch.greatest (state_after ch h) 0
places_there text greatest ch h d s w is at =
    ap (λ (n : ℕ). has_places n s 0) (sym w.most) ∙ ap (λ (y : State). has_places ch.greatest y 0) (at ∙ same_state d ch h is)

entries_are : (ch : Charter) (h : List Step) (d : Daemon) (s : State) (entries : ℕ) → whole_pass d ≡ pass_of ch h → s ≡ state_of d
    → entries ≡ s.call_count → entries ≡ length (history_entries ch h)
entries_are ch h d s entries is at count = count ∙ ap (λ (y : State). y.call_count) (at ∙ same_state d ch h is) ∙ counted_entries ch h

-- ---- the plan

pub plan_is : (d : Daemon) (s : State) (plan slice : List Planned) → s ≡ state_of d → plan ≡ reboot_plan s → slice ≡ plan
    → slice ≡ reboot_plan (state_of d)
plan_is d s plan slice at is same = same ∙ is ∙ ap reboot_plan at

pub plan_can : (d : Daemon) (slice : List Planned) → slice ≡ reboot_plan (state_of d) → CanFollow (state_of d) slice
plan_can d slice is = subst (CanFollow (state_of d)) (sym is) (can_follow (charter d) (history_of d.stored.journal) d.legal)

pub plan_says : (d : Daemon) (handed : ℕ) (slice : List Planned) (result : Followed) (q : PassView) → slice ≡ reboot_plan (state_of d)
    → FollowSays handed slice result (whole_pass d) q → PlanSays handed result (whole_pass d) q
plan_says d handed slice result q is says = subst (λ (l : List Planned). FollowSays handed l result (whole_pass d) q) is says

-- ---- there is no room

pub no_places : (text : List ℕ) (greatest : ℕ) (ch : Charter) (h : List Step) (d : Daemon) (s : State) (handed entries : ℕ)
    → IsWritten text greatest ch h → whole_pass d ≡ pass_of ch h → s ≡ state_of d → has_places greatest s 0 ≡ false → entries ≡ s.call_count
    → RebootSays text greatest handed (Full entries)
no_places text greatest ch h d s handed entries w is at none count = (
  ch,
  h,
  w,
  inl (λ has. false≢true (sym (sym (places_there text greatest ch h d s w is at) ∙ none) ∙ has)),
  entries_are ch h d s entries is at count,
)

pub no_room : (text : List ℕ) (greatest : ℕ) (ch : Charter) (h : List Step) (d d' : Daemon) (s : State) (handed entries : ℕ)
    → IsWritten text greatest ch h → whole_pass d ≡ pass_of ch h → s ≡ state_of d
    → PlanSays handed followed.Full (whole_pass d) (whole_pass d') → entries ≡ s.call_count → RebootSays text greatest handed (Full entries)
no_room text greatest ch h d d' s handed entries w is at says count = (
  ch,
  h,
  w,
  inr (subst (λ (p : PassView). PlanSays handed followed.Full p (whole_pass d')) is says),
  entries_are ch h d s entries is at count,
)

-- ---- the plan was followed

pub goes_on : (text : List ℕ) (greatest : ℕ) (ch : Charter) (h : List Step) (d d' : Daemon) (s : State) (handed next : ℕ)
    → IsWritten text greatest ch h → whole_pass d ≡ pass_of ch h → s ≡ state_of d → has_places greatest s 0 ≡ true
    → PlanSays handed followed.Whole (whole_pass d) (whole_pass d')
    → All EntryFitsTypes (history_entries (charter d') (history_of d'.stored.journal)) → CompleteLaw
    → next ≡ next_connection (history_of d.stored.journal) → RebootSays text greatest handed (Ready d' next)
goes_on text greatest ch h d d' s handed next w is at has says texts complete first =
    let said = subst (λ (p : PassView). PlanSays handed followed.Whole p (whole_pass d')) is says in
    let more : List Step = said.0 in
    let holds : whole_pass d' ≡ pass_of ch (h ++ more) = said.2 in
    let legal : IsLegal ch (h ++ more) = subst (λ (p : PassView). IsLegal p.charter p.seen) holds d'.legal in
    let typed = subst (λ (p : PassView). All EntryFitsTypes (history_entries p.charter p.seen)) holds texts in (
      ch,
      h,
      w,
      record {
        more = more;
        places = sym (places_there text greatest ch h d s w is at) ∙ has;
        follows = said.1;
        holds = holds;
        legal = legal;
        verdict = (complete ch (h ++ more) legal typed).1 w.header.bytes;
      },
      first ∙ ap (λ (p : PassView). next_connection p.seen) is,
    )
