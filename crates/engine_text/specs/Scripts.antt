-- Scripts of the programs of the one image, and their ops (own).
use Rattle.std.specs.Prelude.{ℕ, ◌≤◌, List, [], ◌∷◌, length, All, Bool, true, false, codes, ⊤}
use Rattle.engine_text.specs.declared.script.Stream.TheVariants.{Stdout}
use Rattle.engine_text.specs.declared.script.Op.{Op}
use Rattle.engine_text.specs.declared.script.Op.TheVariants.{Write, Copy, Sleep, Busy, Again, Exit, WaitForever}
use Rattle.engine_text.specs.declared.script.Manner.{Manner}

-- A script: its ops in order, and how its process meets signals.
pub record Program : Type 0 where
  pub ops : List Op
  pub manner : Manner

-- The script of those ops and that manner.
abbrev pub script_of : List Op → Manner → Program
script_of ops manner = record { ops = ops; manner = manner }

-- What SIGTERM puts in the place of a trap's ops.
abbrev pub bye_ops : List Op
bye_ops = Sleep 500 ∷ Write Stdout (codes "bye\n") ∷ Exit 0 ∷ []

-- The ops that a process runs, by whether its trap was used.
abbrev pub ops_of : Bool → Program → List Op
ops_of false s = s.ops
ops_of true s = bye_ops

-- Whether an op waits for input.
abbrev pub is_copy : Op → Bool
is_copy (Write s b) = false
is_copy Copy = true
is_copy (Sleep n) = false
is_copy (Busy n) = false
is_copy (Again n) = false
is_copy (Exit c) = false
is_copy WaitForever = false

-- The greatest number of ops of a script.
abbrev pub most_ops : ℕ
most_ops = 2048

-- The greatest time of an op: a week of milliseconds.
abbrev pub longest : ℕ
longest = 604800000

-- An op's time is at most a week.
abbrev pub IsShort : Op → Type 0
IsShort (Write s b) = ⊤
IsShort Copy = ⊤
IsShort (Sleep n) = n ≤ longest
IsShort (Busy n) = n ≤ longest
IsShort (Again n) = n ≤ longest
IsShort (Exit c) = ⊤
IsShort WaitForever = ⊤

-- How many bytes an op writes of its own.
abbrev pub written_by : Op → ℕ
written_by (Write s b) = length b
written_by Copy = 0
written_by (Sleep n) = 0
written_by (Busy n) = 0
written_by (Again n) = 0
written_by (Exit c) = 0
written_by WaitForever = 0

-- How many bytes the first of these ops writes of its own.
abbrev pub first_length : List Op → ℕ
first_length [] = 0
first_length (op ∷ ops) = written_by op

-- Ops that a script may have.
pub record AreOps (ops : List Op) : Type 0 where
  pub short : All IsShort ops
  pub few : length ops ≤ most_ops
