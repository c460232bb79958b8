use Rattle.std.proofs.Common.{arith}
use Rattle.engine_text.proofs.SignalLemmas.{signal_name-none}
use Rattle.engine_text.proofs.signal.signal_name.Goals as goal

pub returns-in_default : goal.returns-in_default
returns-in_default c = signal_name-none c.args.signal.number (λ k is low. omega arith)
