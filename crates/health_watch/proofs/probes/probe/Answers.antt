use Rattle.std.proofs.Common.{◌≡◌, Option, ap, sym, ◌∙◌, subst}
use Rattle.std.specs.Prelude.{IfOk}
use Rattle.engine_text.specs.Scripts.{Program}
use Rattle.proc_kernel.specs.Times.{IsShortProgram}
use Rattle.proc_kernel.proofs.ProgramTimes.{program_short}
use Rattle.health_watch.specs.Probes.{outcome_of, probe_of}
use Rattle.health_watch.proofs.probes.probe.Goals as goal

pub outcome_of-requires : goal.outcome_of-requires
outcome_of-requires c = record {
  time = c.requires;
  short = subst IsShortProgram (sym c.in_ok-program.ensures ∙ c.in-Some.is) (program_short c.args.spec.now.words c.args.number);
}

pub returns-in-None : goal.returns-in-None
unfolding probe_of outcome_of
returns-in-None c = ap (λ (o : Option Program). outcome_of o c.args.spec.now.timeout) (sym c.in-None.is ∙ c.in_ok-program.ensures)

pub returns-in-Some : goal.returns-in-Some
unfolding probe_of
returns-in-Some c =
    subst (λ (o : Option Program). IfOk c.outcome_of.result (λ known. known ≡ outcome_of o c.args.spec.now.timeout))
    (sym c.in-Some.is ∙ c.in_ok-program.ensures) c.outcome_of.ensures
