-- The room in which a response is gathered, to be written at once (own: 4 KiB).
use Rattle.std.specs.Prelude.{ℕ}

abbrev pub line_room : ℕ
line_room = 4096
