use Rattle.std.proofs.Common.{ap, sym}
use Rattle.engine_text.specs.declared.reply.LogSpec.{LogSpec}
use Rattle.engine_text.specs.declared.reply.Reply.TheVariants.{LogStream}
use Rattle.machine_model.specs.Calls.Logs.{logs_outcome}
use Rattle.machine_model.specs.Chain.{still}
use Rattle.machine_model.specs.Outcome.{replies}
use Rattle.machine_model.specs.Step.{at_moment}
use Rattle.container_table.specs.Logs.{container_in}
use Rattle.call_plans.proofs.AnswerLemmas.{streamed}
use Rattle.reading_calls.proofs.logs.prepare.Goals as goal

pub returns : goal.returns
returns c =
    streamed c.stream.result c.args.moment c.args.tables.now.state (LogStream c.log_spec-spec.result) (logs_outcome c.args.ask.now (container_in c.args.h.now))
    (ap (λ (to : LogSpec). replies (LogStream to) still (at_moment c.args.moment c.args.tables.now.state)) (sym c.log_spec-spec.ensures)) c.stream.ensures
