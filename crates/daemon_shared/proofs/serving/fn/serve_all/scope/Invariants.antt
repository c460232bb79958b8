use Rattle.std.proofs.Common.{◌≡◌}
use Rattle.std.specs.Prelude.{[]}
use Rattle.session_model.specs.declared.ending.Worst.TheVariants as worst
use Rattle.daemon_shared.specs.Sessions.{told_by}
use Rattle.daemon_shared.specs.Threads.{Serving}
use Rattle.daemon_shared.proofs.serving.fn.serve_all.scope.Given as goal

abbrev pub invariant-loop-number : goal.invariant-loop-number
invariant-loop-number g l =
    Serving g.H.Pass.Seated.seat (told_by g.G.From.Source.gives g.G.Into.Sink.takes g.G.Time.Clock.times) g.G.Past.Parting.tells l.steps
    (g.H.Admitting.table l.passes) (g.H.Pass.Seated.seat l.initial.all.root).me.0.charter l.number-end l.number (g.H.Pass.Seated.seat l.all.root)
    l.all.sessions.running.items [] l.all.sessions.ends (g.G.OneDoor.opens l.initial.all.door) (g.G.OneDoor.opens l.all.door)
    × (g.G.OneDoor.which l.all.door ≡ g.G.OneDoor.which l.initial.all.door) × (l.why ≡ worst.Closed)
