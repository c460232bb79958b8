-- The answers whose messages are always the same (own).
use Rattle.std.specs.Prelude.{ℕ, List, codes}
use Rattle.exchange_laws.specs.declared.fixed.Fixed.{Fixed}

abbrev pub fixed_status : Fixed → ℕ
fixed_status Fixed.OutOfMemory = 500
fixed_status Fixed.JournalFull = 503
fixed_status Fixed.Stopping = 503

abbrev pub fixed_text : Fixed → List ℕ
fixed_text Fixed.OutOfMemory = codes "out of memory"
fixed_text Fixed.JournalFull = codes "journal is full"
fixed_text Fixed.Stopping = codes "stopping"
