-- The words for a container's state (Docker Engine API v1.43, definitions ContainerState and ContainerSummary; own: no text tells how long ago).
use Rattle.std.specs.Prelude.{ℕ, List, ◌++◌, Bool, true, false, codes, decimal}
use Rattle.engine_text.specs.declared.status.Status.{Status}
use Rattle.engine_text.specs.declared.status.Status.TheVariants.{Created, Running, Paused, Restarting, Removing, Exited, Dead}

-- the state in one word
abbrev pub status_word : Status → List ℕ
status_word Created = codes "created"
status_word Running = codes "running"
status_word Paused = codes "paused"
status_word Restarting = codes "restarting"
status_word Removing = codes "removing"
status_word Exited = codes "exited"
status_word Dead = codes "dead"

-- the state as the list of containers tells it, with the last exit code
abbrev pub status_text : Status → ℕ → List ℕ
status_text Created code = codes "Created"
status_text Running code = codes "Up"
status_text Paused code = codes "Up (Paused)"
status_text Restarting code = codes "Restarting (" ++ (decimal code ++ codes ")")
status_text Removing code = codes "Removal In Progress"
status_text Exited code = codes "Exited (" ++ (decimal code ++ codes ")")
status_text Dead code = codes "Dead"

-- the flag `Paused`
abbrev pub is_paused : Status → Bool
is_paused Paused = true
is_paused Created = false
is_paused Running = false
is_paused Restarting = false
is_paused Removing = false
is_paused Exited = false
is_paused Dead = false

-- the flag `Restarting`
abbrev pub is_restarting : Status → Bool
is_restarting Restarting = true
is_restarting Created = false
is_restarting Running = false
is_restarting Paused = false
is_restarting Removing = false
is_restarting Exited = false
is_restarting Dead = false

-- the flag `Dead`
abbrev pub is_dead : Status → Bool
is_dead Dead = true
is_dead Created = false
is_dead Running = false
is_dead Paused = false
is_dead Restarting = false
is_dead Removing = false
is_dead Exited = false
