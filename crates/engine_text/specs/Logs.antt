-- Logs as they are written (own).
use Rattle.std.specs.Prelude.{ℕ, ◌-◌, ◌^◌, min, List, length, sum_by}
use Rattle.engine_text.specs.declared.log.LogRecord.{LogRecord}

-- How many bytes the records of a log have.
abbrev pub log_size : List LogRecord → ℕ
log_size = sum_by (λ r. length r.payload)

-- The same as 64 bits tell it.
abbrev pub told_size : List LogRecord → ℕ
told_size records = min (log_size records) (2 ^ 64 - 1)

-- A log that is written on: its records, and how many more it has room for.
pub record Written : Type 0 where
  pub records : List LogRecord
  pub room : ℕ
