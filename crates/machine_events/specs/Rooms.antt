-- own: room for one more record, in a log or an output.
pub use Rattle.container_table.specs.Logs.{FitsLog}
pub use Rattle.exec_table.specs.Execs.{FitsOutput}
