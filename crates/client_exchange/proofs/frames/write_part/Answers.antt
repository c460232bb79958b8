use Rattle.client_exchange.proofs.FrameLemmas.{stdin_part, stdout_part, stderr_part, stdout_failed, stderr_failed, stdout_was, stderr_was}
use Rattle.client_exchange.proofs.frames.write_part.Goals as goal

pub returns-in-Stdin-clause-written : goal.returns-in-Stdin-clause-written
returns-in-Stdin-clause-written g c = rw c.in-Stdin.is (stdin_part c.args.bytes.now _)

pub returns-in-Ok-clause-written : goal.returns-in-Ok-clause-written
returns-in-Ok-clause-written g c = rw c.in-Stdout.is (stdout_part c.args.bytes.now _ _ _ c.in-Ok.ensures)

pub returns-in-Err-clause-written : goal.returns-in-Err-clause-written
returns-in-Err-clause-written g c = rw c.in-Stdout.is (stdout_failed c.in-Err.field-0 c.args.bytes.now _ _ _ c.in-Err.ensures)

pub returns-in-Ok-write-clause-written : goal.returns-in-Ok-write-clause-written
returns-in-Ok-write-clause-written g c = rw c.in-Stderr.is (stderr_part c.args.bytes.now _ _ _ c.in-Ok-write.ensures)

pub returns-in-Err-write-clause-written : goal.returns-in-Err-write-clause-written
returns-in-Err-write-clause-written g c = rw c.in-Stderr.is (stderr_failed c.in-Err-write.field-0 c.args.bytes.now _ _ _ c.in-Err-write.ensures)

pub returns-in-Err-clause-failing : goal.returns-in-Err-clause-failing
returns-in-Err-clause-failing g c = rw c.in-Stdout.is (stdout_was c.args.bytes.now)

pub returns-in-Err-write-clause-failing : goal.returns-in-Err-write-clause-failing
returns-in-Err-write-clause-failing g c = rw c.in-Stderr.is (stderr_was c.args.bytes.now)
