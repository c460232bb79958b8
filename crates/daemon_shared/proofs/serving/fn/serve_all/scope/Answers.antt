use Rattle.std.proofs.Common.{rules, refl, ◌∙◌, sym, ap, subst, arith}
use Rattle.daemon_shared.specs.Sessions.{IsRoot, Served, told_by}
use Rattle.daemon_shared.proofs.RunLemmas.{serves_new, serves_begun, next_served, serving_some, serving_same, stops_full, stops_same, serves_from, runs_there, ran_here}
use Rattle.daemon_shared.proofs.serving.fn.serve_all.scope.Goals as goal
use Rattle.daemon_shared.proofs.serving.fn.serve_all.scope.Goals.{in-Ok-spawn_with, in-Err-spawn_with, else-loop-number-test, then-loop-number-test+in-Err}

pub loop-number-init : goal.loop-number-init
loop-number-init g c = (
  serves_new _ _ _ _ _ _ _ _ _ _ _ c.new-all.ensures.sessions (ap (λ r. (g.H.Pass.Seated.seat r).me.0.seen) c.new-all.ensures.root ∙ c.requires.seen)
      (subst (λ r. IsRoot (g.H.Admitting.table c.captures.passes.now) (g.H.Pass.Seated.seat r).me.0.charter 0 (g.H.Pass.Seated.seat r)) (sym c.new-all.ensures.root) c.requires.root),
  refl,
  refl,
)

pub next-requires-clause-awaits : goal.next-requires-clause-awaits
next-requires-clause-awaits g c κs within = record { o = _; most = _; before = _; less = omega (arith, c.loop-number-test.true); few = c.requires.most; serving = c.loop-number.invariant.0 }

pub spawn_with-requires-clause-runs : goal.spawn_with-requires-clause-runs
spawn_with-requires-clause-runs g c = λ κs w. c.requires.may c.in-Ok.begun
    (next_served _ _ _ _ _ _ _ _ _ _ c.in-Ok.begun _ _ _ (c.in-Ok.ensures.ok _ _ _ (omega (arith, c.loop-number-test.true)) c.requires.most c.loop-number.invariant.0) (omega (arith, c.loop-number-test.true, c.requires.most)))

pub spawn_with-requires-clause-keeps : goal.spawn_with-requires-clause-keeps
spawn_with-requires-clause-keeps g c = λ κs w r p. subst (λ b. Served g.H.Pass.Seated.seat (told_by g.G.From.Source.gives g.G.Into.Sink.takes g.G.Time.Clock.times) g.G.Past.Parting.tells c.captures.steps b r) (sym c.of-kept.ensures) (c.requires.serves c.in-Ok.begun r p)

pub spawn_with-requires-in-Err-spawn_with : goal.spawn_with-requires-in-Err-spawn_with
spawn_with-requires-in-Err-spawn_with g c = λ κs w. (
  w.0,
  (
    w.1.0,
    (
      w.1.1.0,
      (
        w.1.1.1.0,
        (
          w.1.1.1.1.0,
          (
            w.1.1.1.1.1,
            subst (λ f. g.S.Fn.pre f.0.now (f.1, tt)) (sym c.in-Err-spawn_with.ensures.err)
                (c.requires.may c.in-Ok.begun
                (next_served _ _ _ _ _ _ _ _ _ _ c.in-Ok.begun _ _ _ (c.in-Ok.ensures.ok _ _ _ (omega (arith, c.loop-number-test.true)) c.requires.most c.loop-number.invariant.0) (omega (arith, c.loop-number-test.true, c.requires.most)))),
          ),
        ),
      ),
    ),
  ),
)

pub push-requires-clause-room : goal.push-requires-clause-room
push-requires-clause-room g c κs within = c.in-Ok.ensures.room

pub loop-number-preserved : goal.loop-number-preserved
loop-number-preserved g c =
    let so = c.loop-number.invariant in
    let waiting = c.in-Ok.ensures.ok _ _ _ (omega (arith, c.loop-number-test.true)) c.requires.most so.0 in (
      serves_begun _ _ _ _ _ _ _ _ _ _ _ _ _ _ _ _ _ waiting c.of-began.ensures
          (elim c.match-spawn_with.branch [
            | in-Ok-spawn_with w ↦ runs_there _ _ _ _ c.match-spawn_with.stage _ c.in-Ok.begun w.stage-is (ap (λ p. p.began.value) w.in-Ok-spawn_with.ensures.ok ∙ c.of-kept.ensures) (ap (λ p. p.steps) w.in-Ok-spawn_with.ensures.ok)
            | in-Err-spawn_with w ↦ ran_here _ _ _ _ c.match-spawn_with.stage _ c.in-Ok.begun w.stage-is
                (c.requires.serves c.in-Ok.begun _ (subst (λ f. g.S.Fn.post f.0.now (f.1, tt) w.spawn_with-in-Err-spawn_with.result) w.in-Err-spawn_with.ensures.err w.spawn_with-in-Err-spawn_with.ensures))
          ])
          c.push.ensures,
      c.in-Ok.ensures.same ∙ so.1,
      so.2,
    )

pub close-requires-clause-serving : goal.close-requires-clause-serving
close-requires-clause-serving g c κs within = elim c.loop-number-test.branch [
  | else-loop-number-test w ↦ serving_same _ _ _ _ _ _ _ _ _ _ _ _ _ (serving_some _ _ _ _ _ _ _ _ _ _ _ _ _ _ c.requires.most c.loop-number.invariant.0)
      (ap (λ a. g.H.Pass.Seated.seat a.root) w.all-is) (ap (λ a. a.sessions.running.items) w.all-is) (ap (λ a. a.sessions.ends) w.all-is) (ap (λ a. g.G.OneDoor.opens a.door) w.all-is)
  | then-loop-number-test+in-Err w ↦ serving_same _ _ _ _ _ _ _ _ _ _ _ _ _ (serving_some _ _ _ _ _ _ _ _ _ _ _ _ _ _ c.requires.most (w.in-Err.ensures.err _ _ _ c.loop-number.invariant.0).serving)
      (ap (λ a. g.H.Pass.Seated.seat a.root) w.all-is) (ap (λ a. a.sessions.running.items) w.all-is) (ap (λ a. a.sessions.ends) w.all-is) (ap (λ a. g.G.OneDoor.opens a.door) w.all-is)
]

pub returns : goal.returns
returns g c = record {
  serves = elim c.loop-number-test.branch [
    | else-loop-number-test w ↦ serves_from _ _ _ _ _ _ _ _ _ _ _ _ _ (ap (λ r. (g.H.Pass.Seated.seat r).me.0.charter) c.new-all.ensures.root) (ap (λ x. g.G.OneDoor.opens x) c.new-all.ensures.door)
        (c.close.ensures.ends _ _ _ _ (stops_same _ _ _ _ _ _ _ _ _ _ _ _ _ _ _ _ _ _ _ (stops_full _ _ _ _ _ _ _ _ _ _ _ _ _ _ c.loop-number.invariant.0 (search rules) refl)
        (ap (λ a. g.H.Pass.Seated.seat a.root) w.all-is) (ap (λ a. a.sessions.running.items) w.all-is) (ap (λ a. a.sessions.ends) w.all-is) (w.why-is ∙ c.loop-number.invariant.2) (ap (λ a. g.G.OneDoor.opens a.door) w.all-is)))
    | then-loop-number-test+in-Err w ↦ serves_from _ _ _ _ _ _ _ _ _ _ _ _ _ (ap (λ r. (g.H.Pass.Seated.seat r).me.0.charter) c.new-all.ensures.root) (ap (λ x. g.G.OneDoor.opens x) c.new-all.ensures.door)
        (c.close.ensures.ends _ _ _ _ (stops_same _ _ _ _ _ _ _ _ _ _ _ _ _ _ _ _ _ _ _ (w.in-Err.ensures.err _ _ _ c.loop-number.invariant.0)
        (ap (λ a. g.H.Pass.Seated.seat a.root) w.all-is) (ap (λ a. a.sessions.running.items) w.all-is) (ap (λ a. a.sessions.ends) w.all-is) w.why-is (ap (λ a. g.G.OneDoor.opens a.door) w.all-is)))
  ];
  same = c.close.ensures.same ∙ (elim c.loop-number-test.branch [
    | else-loop-number-test w ↦ ap (λ a. g.G.OneDoor.which a.door) w.all-is ∙ c.loop-number.invariant.1
    | then-loop-number-test+in-Err w ↦ ap (λ a. g.G.OneDoor.which a.door) w.all-is ∙ w.in-Err.ensures.same ∙ c.loop-number.invariant.1
  ]) ∙ ap (λ x. g.G.OneDoor.which x) c.new-all.ensures.door;
}
