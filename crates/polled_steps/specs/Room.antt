-- The room in which what stands before a body is gathered (own: 1 KiB).
use Rattle.std.specs.Prelude.{ℕ}

abbrev pub front_room : ℕ
front_room = 1024
