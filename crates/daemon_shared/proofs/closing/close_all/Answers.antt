use Rattle.std.proofs.Common.{refl, ◌∙◌, subst, arith}
use Rattle.daemon_shared.specs.Sessions.{told_by}
use Rattle.daemon_shared.specs.Threads.{LeavesSome}
use Rattle.daemon_shared.proofs.RootLemmas.{none_left}
use Rattle.daemon_shared.proofs.RunLemmas.{leaves_none, leaves_two, serving_on}
use Rattle.daemon_shared.proofs.closing.close_all.Goals as goal

pub loop-left-init : goal.loop-left-init
loop-left-init g c = (leaves_none _ _ _ _ _ _ _ _ _, omega (arith, c.len-left-end.ensures), refl)

pub close_first-requires-clause-serving : goal.close_first-requires-clause-serving
close_first-requires-clause-serving g c κs within = serving_on _ _ _ _ _ _ _ _ _ _ _ _ _ c.requires.serving c.loop-left.invariant.0

pub loop-left-preserved : goal.loop-left-preserved
loop-left-preserved g c =
    let i = c.loop-left.invariant in
    let e = c.close_first.ensures in (
      leaves_two _ _ _ _ _ _ _ _ _ _ _ _ _ _ _ _ _ i.0 e.leaves,
      omega (arith, i.1, e.len),
      e.same ∙ i.2,
    )

pub returns-clause-leaves : goal.returns-clause-leaves
returns-clause-leaves g c =
    let i = c.loop-left.invariant in
    let s = c.loop-left.sessions in
    let long = s.running.ok.0 in
    subst (λ xs. LeavesSome g.H.Pass.Seated.seat (told_by g.G.From.Source.gives g.G.Into.Sink.takes g.G.Time.Clock.times) g.G.Past.Parting.tells c.args.steps
    (g.H.Admitting.table c.args.passes.now) (g.H.Pass.Seated.seat c.args.root.now) (g.H.Pass.Seated.seat c.loop-left.root) c.args.sessions.running.items xs
    c.args.sessions.ends s.ends (g.G.OneDoor.opens c.args.lent.now) (g.G.OneDoor.opens c.loop-left.lent))
    (none_left s.running.items (omega (arith, long, i.1, c.loop-left-test.false))) i.0
