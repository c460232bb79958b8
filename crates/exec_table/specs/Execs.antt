-- Execs of containers in order of number, each with its output (Docker Engine API v1.43, ContainerExec, ExecStart, ExecInspect; own: the room).
use Rattle.std.specs.Prelude.{◌≡◌, ℕ, ◌-◌, ◌==◌, ◌<◌, List, [], ◌∷◌, ◌++◌, Bool, true, not, Option, Some, find, filter, option_map, position, slice_index, if◌then◌else◌}
use Rattle.std.specs.List.{list_any}
use Rattle.std.specs.Ordering.{nat_cmp}
use Rattle.std.specs.declared.cmp.Ordering.{Ordering}
use Rattle.engine_text.specs.Owner.{same_owner}
use Rattle.engine_text.specs.Texts.{same_bytes}
use Rattle.engine_text.specs.declared.exec.Exec.{Exec}
use Rattle.engine_text.specs.declared.log.LogRecord.{LogRecord}
use Rattle.engine_text.specs.declared.log.OwnedLog.{OwnedLog}
use Rattle.engine_text.specs.declared.owner.Owner.TheVariants.{Exec as OfExec}

-- A table: its execs in order of number, the output of each, and how many more records that has room for; how many execs may stand.
pub record ExecTable : Type 0 where
  pub execs : List Exec
  pub outputs : List OwnedLog
  pub rooms : List ℕ
  pub places : ℕ

-- The order of execs is that of their numbers.
abbrev pub by_number : Exec → Exec → Ordering
by_number x y = nat_cmp x.number y.number

-- ---- execs

-- The exec with that number.
abbrev pub exec_numbered : ℕ → List Exec → Option Exec
exec_numbered n xs = find (λ x. x.number == n) xs

-- The exec with that full id.
abbrev pub exec_with_id : List ℕ → List Exec → Option Exec
exec_with_id id xs = find (λ x. same_bytes x.id id) xs

-- It has started, and its process lives.
abbrev pub started : ℕ → Exec → Exec
started pid x = record x { started = true; pid = pid }

-- Its process has ended with that code.
abbrev pub ended : ℕ → Exec → Exec
ended code x = record x { pid = 0; code = Some code }

-- Whether it is an exec of that container.
abbrev pub is_exec_of : ℕ → Exec → Bool
is_exec_of container x = x.container == container

-- The execs of a container, in order of number.
abbrev pub execs_of : ℕ → List Exec → List Exec
execs_of container xs = filter (is_exec_of container) xs

-- The execs of the other containers.
abbrev pub without_execs_of : ℕ → List Exec → List Exec
without_execs_of container xs = filter (λ x. not (is_exec_of container x)) xs

-- ---- outputs

-- The output of an exec that has written nothing.
abbrev pub empty_output : ℕ → OwnedLog
empty_output number = record { owner = OfExec number; log = [] }

-- Whether it is the output of the exec with that number.
abbrev pub is_output_numbered : ℕ → OwnedLog → Bool
is_output_numbered n o = same_owner o.owner (OfExec n)

-- What the exec with that number has written.
abbrev pub output_log : ℕ → List OwnedLog → Option (List LogRecord)
output_log n outputs = option_map (λ o. o.log) (find (is_output_numbered n) outputs)

-- An output with one more record.
abbrev pub with_record : LogRecord → OwnedLog → OwnedLog
with_record r o = record o { log = o.log ++ r ∷ [] }

-- The output of the exec with that number has room for one more record.
abbrev pub FitsOutput : ℕ → List OwnedLog → List ℕ → Type 0
FitsOutput n outputs rooms =
    (i : ℕ) → position (is_output_numbered n) outputs ≡ Some i → 0 < slice_index rooms i

-- Whether it is the output of one of the container's execs.
abbrev pub is_output_of : ℕ → List Exec → OwnedLog → Bool
is_output_of n execs o =
    list_any (λ x. same_owner o.owner (OfExec x.number)) (filter (λ x. x.container == n) execs)

-- ---- rooms of outputs, in the order of their execs

-- The rooms, that of the exec with that number being less by one.
abbrev pub rooms_used : ℕ → List Exec → List ℕ → List ℕ
rooms_used n [] rooms = rooms
rooms_used n (x ∷ xs) [] = []
rooms_used n (x ∷ xs) (room ∷ rooms) = if x.number == n then (room - 1) ∷ rooms else room ∷ rooms_used n xs rooms

-- The rooms of the other containers' execs.
abbrev pub rooms_without : ℕ → List Exec → List ℕ → List ℕ
rooms_without container [] rooms = rooms
rooms_without container (x ∷ xs) [] = []
rooms_without container (x ∷ xs) (room ∷ rooms) =
    if is_exec_of container x then rooms_without container xs rooms else room ∷ rooms_without container xs rooms
