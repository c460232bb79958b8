-- Frames of records that are appended, and records whose moments have a text (own).
use Rattle.std.specs.Prelude.{◌≡◌, ℕ, ◌<◌, ◌≤◌, List, ◌++◌, filter, length, map, take}
use Rattle.std.specs.List.{AllByRecursion}
use Rattle.machine_model.specs.declared.limits.TheConstants.{GREATEST_MOMENT}
use Rattle.machine_model.specs.Frames.{framed}
use Rattle.machine_model.specs.LogStream.{is_asked_by, part_of}
use Rattle.engine_text.specs.declared.log.LogRecord.{LogRecord}
use Rattle.engine_text.specs.declared.reply.LogSpec.{LogSpec}

-- something was appended
abbrev pub Longer : List ℕ → List ℕ → Type 0
Longer old new = (more : List ℕ) × (new ≡ old ++ more)

-- no moment of these lies past the greatest
abbrev pub IsTimed : List LogRecord → Type 0
IsTimed records = AllByRecursion (λ r. r.moment ≤ GREATEST_MOMENT) records

-- the frames of the asked records among these
abbrev pub asked_bytes : LogSpec → List LogRecord → List ℕ
asked_bytes spec records = framed (map (part_of spec) (filter (is_asked_by spec) records))

-- the frames of the asked ones among the first n were appended, n being at least 1
abbrev pub Passes : LogSpec → List LogRecord → ℕ → List ℕ → List ℕ → Type 0
Passes spec records n old new =
    (0 < n) × (n ≤ length records) × (new ≡ old ++ asked_bytes spec (take n records))
