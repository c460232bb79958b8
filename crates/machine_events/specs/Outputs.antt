-- own: which outputs are those of a container's execs.
pub use Rattle.exec_table.specs.Execs.{is_output_of, with_record}
