-- What a source tells that a task polls. own: that of a source, and how often it gave bytes and how often it wasn't ready.
use Rattle.std.specs.Prelude.{ℕ, ◌≡◌, List}
use Rattle.engine_ports.specs.Rose.{Rose, raised}
use Rattle.engine_ports.specs.Source.{SourceView, ReadSays, untold_source as untold}
use Rattle.engine_ports.specs.declared.ports.Got.{Got}
use Rattle.engine_ports.specs.declared.ports.Got.TheVariants.{Bytes}
use Rattle.futures.specs.declared.task.Poll.{Poll}
use Rattle.futures.specs.declared.task.Poll.TheVariants.{Ready, Pending}

-- a source, how often it gave bytes, and how often it wasn't ready, when it registered with the task
pub record PollSourceView : Type 0 where
  pub source : SourceView
  pub gave : ℕ
  pub registered : ℕ

-- a source that tells no bytes, before its first poll
abbrev pub untold_source : PollSourceView
untold_source = record { source = untold; gave = 0; registered = 0 }

-- how often it gave bytes, behind a read
abbrev pub gave_after : Got → ℕ → ℕ
gave_after (Bytes n) gave = raised gave
gave_after got gave = gave

-- what a polled read says: what a read says; or it wasn't ready, gave nothing, and registered
abbrev pub PollReadSays : Poll Got → List ℕ → PollSourceView → PollSourceView → Type 0
PollReadSays (Ready got) into v v' =
    ReadSays got into v.source v'.source × (v'.gave ≡ gave_after got v.gave) × (v'.registered ≡ v.registered)
PollReadSays Pending into v v' =
    (v'.source ≡ v.source) × (v'.gave ≡ v.gave) × Rose v.registered v'.registered
