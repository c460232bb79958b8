-- own: what is kept of removed containers, as contracts see it.
use Rattle.std.specs.Prelude.{ℕ, List}
use Rattle.engine_text.specs.declared.container.Removed.{Removed}
use Rattle.engine_text.specs.declared.log.KeptLogs.{KeptLogs}

-- The removed containers in order of removal, and the logs of the last of them; how many may stand.
pub record RemovalRows : Type 0 where
  pub removed : List Removed
  pub kept : List KeptLogs
  pub removed_room : ℕ
  pub kept_room : ℕ
