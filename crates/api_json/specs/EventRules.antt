-- The words for kinds and actions, and the attributes that an event has (Docker Engine API v1.43, definition EventMessage; own: which attributes).
use Rattle.std.specs.Prelude.{ℕ, List, [], ◌∷◌, codes, Option, Some, None, Bool, true, false, ◌&&◌, not, if◌then◌else◌, find, decimal}
use Rattle.std.specs.List.{list_any, range_with_len}
use Rattle.engine_text.specs.Texts.{same_bytes}
use Rattle.engine_text.specs.declared.pairs.Pair.{Pair}
use Rattle.engine_text.specs.declared.event.EventKind.{EventKind}
use Rattle.engine_text.specs.declared.event.EventKind.TheVariants as Kind
use Rattle.engine_text.specs.declared.event.Action.{Action}
use Rattle.engine_text.specs.declared.event.Action.TheVariants.{Create, Start, Kill, Die, Stop, Restart, Pause, Unpause, Rename, Destroy, Attach, ExecCreate, ExecStart, ExecDie, Mount, Unmount, Update}

-- the word for a kind, which is the field `Type`
abbrev pub kind_word : EventKind → List ℕ
kind_word Kind.Container = codes "container"
kind_word Kind.Volume = codes "volume"

-- the word for an action, which is the field `Action`
abbrev pub action_word : Action → List ℕ
action_word Create = codes "create"
action_word Start = codes "start"
action_word Kill = codes "kill"
action_word Die = codes "die"
action_word Stop = codes "stop"
action_word Restart = codes "restart"
action_word Pause = codes "pause"
action_word Unpause = codes "unpause"
action_word Rename = codes "rename"
action_word Destroy = codes "destroy"
action_word Attach = codes "attach"
action_word ExecCreate = codes "exec_create"
action_word ExecStart = codes "exec_start"
action_word ExecDie = codes "exec_die"
action_word Mount = codes "mount"
action_word Unmount = codes "unmount"
action_word Update = codes "update"

-- the kind of a word
abbrev pub kind_of : List ℕ → Option EventKind
kind_of word = find (λ kind. same_bytes word (kind_word kind)) (Kind.Container ∷ Kind.Volume ∷ [])

-- every action
abbrev pub actions : List Action
actions =
    Create ∷ Start ∷ Kill ∷ Die ∷ Stop ∷ Restart ∷ Pause ∷ Unpause ∷ Rename ∷ Destroy ∷ Attach ∷ ExecCreate
    ∷ ExecStart ∷ ExecDie ∷ Mount ∷ Unmount ∷ Update ∷ []

-- the action of a word
abbrev pub action_of : List ℕ → Option Action
action_of word = find (λ action. same_bytes word (action_word action)) actions

-- the keys of a container event's attributes, in byte order; no container is mounted
abbrev pub container_keys : Action → Option (List (List ℕ))
container_keys Kill = Some (codes "image" ∷ codes "name" ∷ codes "signal" ∷ [])
container_keys Die = Some (codes "exitCode" ∷ codes "image" ∷ codes "name" ∷ [])
container_keys Rename = Some (codes "image" ∷ codes "name" ∷ codes "oldName" ∷ [])
container_keys ExecCreate = Some (codes "execID" ∷ codes "image" ∷ codes "name" ∷ [])
container_keys ExecStart = Some (codes "execID" ∷ codes "image" ∷ codes "name" ∷ [])
container_keys ExecDie = Some (codes "execID" ∷ codes "exitCode" ∷ codes "image" ∷ codes "name" ∷ [])
container_keys Mount = None
container_keys Unmount = None
container_keys _ = Some (codes "image" ∷ codes "name" ∷ [])

-- those of a volume event's, which is created, destroyed, mounted or unmounted
abbrev pub volume_keys : Action → Option (List (List ℕ))
volume_keys Create = Some (codes "driver" ∷ [])
volume_keys Destroy = Some (codes "driver" ∷ [])
volume_keys Mount = Some (codes "container" ∷ codes "driver" ∷ [])
volume_keys Unmount = Some (codes "container" ∷ codes "driver" ∷ [])
volume_keys _ = None

-- the keys of an event's attributes; None where nothing of this kind has this action
abbrev pub attribute_keys : EventKind → Action → Option (List (List ℕ))
attribute_keys Kind.Container action = container_keys action
attribute_keys Kind.Volume action = volume_keys action

-- the keys are exactly these, in this order
abbrev pub has_keys : List (List ℕ) → List Pair → Bool
has_keys [] [] = true
has_keys [] (p ∷ ps) = false
has_keys (k ∷ ks) [] = false
has_keys (k ∷ ks) (p ∷ ps) = same_bytes p.key k && has_keys ks ps

-- the attributes have these keys; without keys there is no such event
abbrev pub keys_fit : Option (List (List ℕ)) → List Pair → Bool
keys_fit None ps = false
keys_fit (Some ks) ps = has_keys ks ps

-- v is the decimal of a number below the limit
unfoldable pub is_decimal_below : ℕ → List ℕ → Bool
is_decimal_below limit v = list_any (λ n. same_bytes v (decimal n)) (range_with_len 0 limit)

-- an exit code is from 0 to 255, a signal from 1 to 31, and the driver is `local`
abbrev pub value_fits : List ℕ → List ℕ → Bool
value_fits k v =
    if same_bytes k (codes "exitCode") then is_decimal_below 256 v
    else (if same_bytes k (codes "signal") then (is_decimal_below 32 v && not (same_bytes v (codes "0")))
    else (if same_bytes k (codes "driver") then same_bytes v (codes "local") else true))

-- each value fits its key
abbrev pub values_fit : List Pair → Bool
values_fit [] = true
values_fit (p ∷ ps) = value_fits p.key p.value && values_fit ps

-- the attributes are those of an event of this kind and action
abbrev pub attributes_fit : EventKind → Action → List Pair → Bool
attributes_fit kind action ps = keys_fit (attribute_keys kind action) ps && values_fit ps
