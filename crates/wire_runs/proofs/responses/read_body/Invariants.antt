use Rattle.response_reader.specs.Reader.{IsInBody}
use Rattle.wire_runs.proofs.responses.read_body.Given as goal

abbrev pub invariant-loop-call : goal.invariant-loop-call
invariant-loop-call l = IsInBody l.reader.stage
