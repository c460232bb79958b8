-- own: an item of a list by its place.
pub use Rattle.container_table.specs.Lists.{at_place}
