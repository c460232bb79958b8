-- What standard output and standard error took (own: each as it comes, and a front where a write fails).
use Rattle.std.specs.Prelude.{◌≡◌, [], Result, Ok, Err, ⊤}
use Rattle.engine_ports.specs.Rose.{Rose}
use Rattle.engine_ports.specs.Sink.{SinkView, SinkTook}
use Rattle.client_model.specs.Plans.{Written}
use Rattle.client_model.specs.Runs.{AreFronts}
use Rattle.client_model.specs.declared.fault.Fault.{Fault}
use Rattle.client_model.specs.declared.fault.Fault.TheVariants as F

-- standard output and standard error
pub record Outputs : Type 0 where
  pub out : SinkView
  pub err : SinkView

abbrev pub outputs : SinkView → SinkView → Outputs
outputs out err = record { out = out; err = err }

-- each took its part of this
pub record BothTook (o : Outputs) (w : Written) (o' : Outputs) : Type 0 where
  pub out : SinkTook o.out w.out o'.out
  pub err : SinkTook o.err w.err o'.err

-- each took a front of its part
pub record BothBegan (o : Outputs) (w : Written) (o' : Outputs) : Type 0 where
  pub part : Written
  pub fronts : AreFronts part w
  pub took : BothTook o part o'

-- the count of the output that failed rose, or memory was refused
abbrev pub OutputsFail : Fault → Outputs → Outputs → Type 0
OutputsFail F.Output o o' = Rose o.out.faults o'.out.faults
OutputsFail F.Errors o o' = Rose o.err.faults o'.err.faults
OutputsFail F.NoMemory o o' = ⊤
OutputsFail fault o o' = ⊥

-- this was written, or fronts of it, and then a write failed
abbrev pub WritesBoth : Result (Unit {0}) Fault → Written → Outputs → Outputs → Type 0
WritesBoth (Ok x) w o o' = BothTook o w o'
WritesBoth (Err fault) w o o' = BothBegan o w o' × OutputsFail fault o o'

-- the fault is an output's, to which something of this was to be written
abbrev pub WasToWrite : Fault → Written → Type 0
WasToWrite F.Output w = ¬ (w.out ≡ [])
WasToWrite F.Errors w = ¬ (w.err ≡ [])
WasToWrite fault w = ⊥

-- all was written, or else that failed
abbrev pub IfUnwritten : Result (Unit {0}) Fault → Written → Type 0
IfUnwritten (Ok x) w = ⊤
IfUnwritten (Err fault) w = WasToWrite fault w
