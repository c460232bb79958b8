use Rattle.std.proofs.Common.{inl, inr, refl, subst, sym}
use Rattle.lab_program.specs.Program.{Puts, RunsAsked, outer}
use Rattle.lab_program.proofs.program.run_lab.Goals as goal

-- memory was refused for the line
pub returns-in_default : goal.returns-in_default
returns-in_default g c =
    let puts = subst (λ text. Puts text (g.L.Sink.takes c.args.error.now) (g.L.Sink.takes c.put.new.into)) c.text_by.ensures c.put.ensures in
    inl (c.status_by.ensures, (puts, refl))

pub returns-in-Help : goal.returns-in-Help
returns-in-Help g c =
    let puts = subst (λ text. Puts text (g.K.Sink.takes c.args.output.now) (g.K.Sink.takes c.put-in-Help.new.into)) c.help.ensures c.put-in-Help.ensures in
    inr (
      c.in-Ok.asked,
      c.in-Ok.ensures,
      subst (λ asked. RunsAsked asked 0
          (outer (g.C.Clock.times c.args.clock.now) (g.K.Sink.takes c.args.output.now) (g.L.Sink.takes c.args.error.now) (g.D.Door.opens c.args.tools)
          (g.E.Door.opens c.args.control))
          (outer (g.C.Clock.times c.args.clock.now) (g.K.Sink.takes c.put-in-Help.new.into) (g.L.Sink.takes c.args.error.now) (g.D.Door.opens c.args.tools)
          (g.E.Door.opens c.args.control))) (sym c.in-Help.is) (refl, (puts, refl)),
    )

pub returns-in-Version : goal.returns-in-Version
returns-in-Version g c =
    let puts = subst (λ text. Puts text (g.K.Sink.takes c.args.output.now) (g.K.Sink.takes c.put-in-Version.new.into)) c.version.ensures c.put-in-Version.ensures in
    inr (
      c.in-Ok.asked,
      c.in-Ok.ensures,
      subst (λ asked. RunsAsked asked 0
          (outer (g.C.Clock.times c.args.clock.now) (g.K.Sink.takes c.args.output.now) (g.L.Sink.takes c.args.error.now) (g.D.Door.opens c.args.tools)
          (g.E.Door.opens c.args.control))
          (outer (g.C.Clock.times c.args.clock.now) (g.K.Sink.takes c.put-in-Version.new.into) (g.L.Sink.takes c.args.error.now) (g.D.Door.opens c.args.tools)
          (g.E.Door.opens c.args.control))) (sym c.in-Version.is) (refl, (puts, refl)),
    )

pub returns-in-Wrong : goal.returns-in-Wrong
returns-in-Wrong g c =
    let puts = subst (λ text. Puts text (g.L.Sink.takes c.args.error.now) (g.L.Sink.takes c.put-in-Wrong.new.into)) c.reason.ensures c.put-in-Wrong.ensures in
    inr (
      c.in-Ok.asked,
      c.in-Ok.ensures,
      subst (λ asked. RunsAsked asked 2
          (outer (g.C.Clock.times c.args.clock.now) (g.K.Sink.takes c.args.output.now) (g.L.Sink.takes c.args.error.now) (g.D.Door.opens c.args.tools)
          (g.E.Door.opens c.args.control))
          (outer (g.C.Clock.times c.args.clock.now) (g.K.Sink.takes c.args.output.now) (g.L.Sink.takes c.put-in-Wrong.new.into) (g.D.Door.opens c.args.tools)
          (g.E.Door.opens c.args.control))) (sym c.in-Wrong.is) (refl, (puts, refl)),
    )

pub returns-in-Line : goal.returns-in-Line
returns-in-Line g c =
    let puts = subst (λ text. Puts text (g.L.Sink.takes c.args.error.now) (g.L.Sink.takes c.put-in-Line.new.into)) c.text_by-in-Line.ensures
    c.put-in-Line.ensures in
    inr (
      c.in-Ok.asked,
      c.in-Ok.ensures,
      subst (λ asked. RunsAsked asked c.status_by-in-Line.result
          (outer (g.C.Clock.times c.args.clock.now) (g.K.Sink.takes c.args.output.now) (g.L.Sink.takes c.args.error.now) (g.D.Door.opens c.args.tools)
          (g.E.Door.opens c.args.control))
          (outer (g.C.Clock.times c.run_line-why.new.clock) (g.K.Sink.takes c.run_line-why.new.output) (g.L.Sink.takes c.put-in-Line.new.into)
          (g.D.Door.opens c.run_line-why.result.1) (g.E.Door.opens c.run_line-why.result.2))) (sym c.in-Line.is)
          (c.run_line-why.result.0, c.status_by-in-Line.ensures, c.run_line-why.ensures, puts),
    )
