use Rattle.std.proofs.Common.{sym, ◌∙◌, ap, subst, IfSome, length}
use Rattle.machine_model.specs.History.{IsLegal}
use Rattle.turnstile.specs.Plays.{Learned}
use Rattle.turnstile.specs.Views.{joined}
use Rattle.daemon_shared.specs.Sharing.{author_of, charter_in, IsKept, shared_pass}
use Rattle.daemon_core.specs.Pairing.{IsOther}
use Rattle.daemon_shared.proofs.PairLemmas.{taken_in, other_apart, still_apart}
use Rattle.daemon_shared.proofs.pairing.SharedPairs.rejoin.Goals as goal

pub join-requires-clause-not_root : goal.join-requires-clause-not_root
join-requires-clause-not_root g c =
    let m = c.args.self.now.pass in
    let w = c.in-Some.other.pass in
    let other = subst (λ x. IfSome x (λ o. IsOther c.args.conn (shared_pass m.table_id m.me.0) (shared_pass o.pass.table_id o.pass.me.0))) c.in-Some.is c.requires in
    other_apart c.args.conn m.table_id w.table_id m.me.0 w.me.0 c.learn.new.pass.me.0 other (c.learn.ensures.stays ∙ c.into_pass-theirs.ensures.same.0)

pub returns-in-Some-clause-some : goal.returns-in-Some-clause-some
returns-in-Some-clause-some g c =
    let m = c.args.self.now.pass in
    let w = c.in-Some.other.pass in
    let z = c.join.new.pass in
    let other = subst (λ x. IfSome x (λ o. IsOther c.args.conn (shared_pass m.table_id m.me.0) (shared_pass o.pass.table_id o.pass.me.0))) c.in-Some.is c.requires in
    let e = c.learn.ensures.stays ∙ c.into_pass-theirs.ensures.same.0 in
    let f = c.learn-in-Some.ensures.stays in
    rw c.in-Some.is (taken_in c.args.conn m.table_id w.table_id z.table_id m.me.0 w.me.0 z.me.0 other
    (subst (Learned author_of IsKept) e c.learn.ensures.learned)
    (subst (Learned author_of IsKept) f c.learn-in-Some.ensures.learned)
    (c.join.ensures.joined ∙ (λ i. joined (f i) (e i))) c.join.ensures.learned
    (c.join.ensures.pass.1.0 ∙ c.learn-in-Some.ensures.pass.1.0))

pub invariant_of-self : goal.invariant_of-self
invariant_of-self g c =
    let m = c.args.self.now.pass in
    let w = c.in-Some.other.pass in
    let z = c.join.new.pass in
    let other = subst (λ x. IfSome x (λ o. IsOther c.args.conn (shared_pass m.table_id m.me.0) (shared_pass o.pass.table_id o.pass.me.0))) c.in-Some.is c.requires in
    let e = c.learn.ensures.stays ∙ c.into_pass-theirs.ensures.same.0 in
    let f = c.learn-in-Some.ensures.stays in
    let learned = c.join.ensures.learned in
    record {
      ours = c.join.ensures.pass.0.own_table;
      idle = ap length c.join.ensures.pass.0.empty;
      live = c.join.ensures.pass.0.live;
      between = c.join.ensures.pass.0.between;
      apart = still_apart c.args.conn m.table_id w.table_id m.me.0 w.me.0 z.me.0 other
          (c.join.ensures.joined ∙ (λ i. joined (f i) (e i))) c.args.self.now.apart;
      legal = subst (λ x. IsLegal x z.me.0.seen) (sym (ap charter_in learned.charter_is)) learned.seen_legal.0;
    }
