use Rattle.client_model.specs.Commands.Replay.{opened}
use Rattle.engine_client.proofs.ReplayLemmas.{verdict_told}
use Rattle.engine_client.proofs.replaying.tell_verdict.Goals as goal

pub returns-in-Ok : goal.returns-in-Ok
returns-in-Ok g c = λ link e.
    let given = opened c.args.seed c.args.moment in
    verdict_told given c.args.text.now c.in-Ok.verdict c.print_verdict.result _ _
    (λ steps. c.law_upgrade.ensures given c.args.text.now steps (c.seed_bytes.ensures.long, c.requires) c.seed_bytes.ensures.bytes)
    c.in-Ok.ensures (c.print_verdict.ensures link e)
