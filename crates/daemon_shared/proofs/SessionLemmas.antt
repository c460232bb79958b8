-- What a session leaves, by the pass that it took: the pass goes through turns and comes back.
use Rattle.std.proofs.Common.{ℕ, ◌≡◌, ◌∙◌, ap, sym, subst, Option}
use Rattle.atomic_table.specs.Seated.{TableId}
use Rattle.turnstile.specs.Turns.{IsPass}
use Rattle.engine_ports.specs.Door.{Outside}
use Rattle.session_model.specs.declared.ending.Ending.{Ending}
use Rattle.daemon_shared.specs.Sessions.{SharedSeat}
use Rattle.daemon_shared.specs.Running.{ServesBy}
use Rattle.daemon_shared.specs.Sharing.{shared_pass}

-- a pass of the same turnstile and the same view stands for the same
same_pass : (p q : SharedSeat) → p.table_id ≡ q.table_id → p.me.0 ≡ q.me.0
    → shared_pass p.table_id p.me.0 ≡ shared_pass q.table_id q.me.0
same_pass p q table view = ap (λ t. shared_pass t p.me.0) table ∙ ap (λ v. shared_pass q.table_id v) view

-- p was taken, s is it in the turns, t that behind the session, w the one that came back, and q that behind a look
pub left_by : (steps : Option (ℕ × ℕ)) (k : ℕ) (e : Ending) (table : TableId) (p s t w q : SharedSeat) (o o' left : Outside)
    → p.table_id ≡ table → (s.me.0 ≡ p.me.0) × (s.table_id ≡ p.table_id)
    → ServesBy steps k e (shared_pass s.table_id s.me.0) (shared_pass t.table_id t.me.0) o o'
    → (w.me.0 ≡ t.me.0) × (w.table_id ≡ t.table_id) → IsPass table w → IsPass table q → q.me.0 ≡ w.me.0 → left ≡ o'
    → IsPass p.table_id q × ServesBy steps k e (shared_pass p.table_id p.me.0) (shared_pass q.table_id q.me.0) o left
left_by steps k e table p s t w q o o' left mine new serves back is_w is_q stays parted =
    let there : t.table_id ≡ q.table_id = sym back.1 ∙ is_w.own_table ∙ sym is_q.own_table in
    let seen : t.me.0 ≡ q.me.0 = sym back.0 ∙ sym stays in
    let first = subst (λ v. ServesBy steps k e v (shared_pass t.table_id t.me.0) o o') (same_pass s p new.1 new.0) serves in
    let last = subst (λ v. ServesBy steps k e (shared_pass p.table_id p.me.0) v o o') (same_pass t q there seen) first in (
      subst (λ x. IsPass x q) (sym mine) is_q,
      subst (λ l. ServesBy steps k e (shared_pass p.table_id p.me.0) (shared_pass q.table_id q.me.0) o l) (sym parted) last,
    )
