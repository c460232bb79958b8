-- Why a body is refused, and what answers it (own: the texts and their order; Docker Engine API v1.43: status 400).
use Rattle.std.specs.Prelude.{◌≡◌, ℕ, List, ◌++◌, codes, Option, Some, None, Result, Ok, Err, ⊤}
use Rattle.api_json.specs.declared.fault.BodyKey.{BodyKey}
use Rattle.api_json.specs.declared.fault.BodyKey.TheVariants as Key
use Rattle.api_json.specs.declared.fault.BodyFault.{BodyFault}
use Rattle.api_json.specs.declared.fault.BodyFault.TheVariants.{BadJson, BadField, TtyLeftOut, AnonymousVolumes, BadMount, BadRestartPolicy, AutoRemoveExcludes, BadVolumeName, BadDriver, InvalidFilter, BadEventLine}
use Rattle.api_json.specs.declared.fault.Refused.{Refused}
use Rattle.api_json.specs.declared.fault.Refused.TheVariants.{BadBody, NoMemory}

-- the key as a body has it
abbrev pub key_text : BodyKey → List ℕ
key_text Key.Image = codes "Image"
key_text Key.Entrypoint = codes "Entrypoint"
key_text Key.Cmd = codes "Cmd"
key_text Key.Tty = codes "Tty"
key_text Key.OpenStdin = codes "OpenStdin"
key_text Key.StdinOnce = codes "StdinOnce"
key_text Key.StopSignal = codes "StopSignal"
key_text Key.StopTimeout = codes "StopTimeout"
key_text Key.Labels = codes "Labels"
key_text Key.Volumes = codes "Volumes"
key_text Key.HostConfig = codes "HostConfig"
key_text Key.Binds = codes "Binds"
key_text Key.Mounts = codes "Mounts"
key_text Key.Type = codes "Type"
key_text Key.Source = codes "Source"
key_text Key.Target = codes "Target"
key_text Key.ReadOnly = codes "ReadOnly"
key_text Key.RestartPolicy = codes "RestartPolicy"
key_text Key.Name = codes "Name"
key_text Key.MaximumRetryCount = codes "MaximumRetryCount"
key_text Key.AutoRemove = codes "AutoRemove"
key_text Key.AttachStdin = codes "AttachStdin"
key_text Key.AttachStdout = codes "AttachStdout"
key_text Key.AttachStderr = codes "AttachStderr"
key_text Key.Detach = codes "Detach"
key_text Key.Driver = codes "Driver"
key_text Key.Healthcheck = codes "Healthcheck"
key_text Key.Test = codes "Test"
key_text Key.Interval = codes "Interval"
key_text Key.Timeout = codes "Timeout"
key_text Key.StartPeriod = codes "StartPeriod"
key_text Key.Retries = codes "Retries"

-- the text that the client is told
abbrev pub fault_text : BodyFault → List ℕ
fault_text BadJson = codes "bad JSON"
fault_text (BadField key) = codes "bad field " ++ key_text key
fault_text TtyLeftOut = codes "TTY is left out"
fault_text AnonymousVolumes = codes "anonymous volumes are left out"
fault_text BadMount = codes "bad mount"
fault_text BadRestartPolicy = codes "bad restart policy"
fault_text AutoRemoveExcludes = codes "AutoRemove excludes a restart policy"
fault_text BadVolumeName = codes "bad volume name"
fault_text BadDriver = codes "bad driver"
fault_text InvalidFilter = codes "invalid filter"
fault_text BadEventLine = codes "bad event line"

-- what follows, unless there is a fault already
abbrev pub and_then : {A B : Type 0} → Result A BodyFault → (A → Result B BodyFault) → Result B BodyFault
and_then (Ok a) f = f a
and_then (Err fault) f = Err fault

-- what was found, or the fault
abbrev pub or_fault : {A : Type 0} → BodyFault → Option A → Result A BodyFault
or_fault fault None = Err fault
or_fault fault (Some a) = Ok a

-- the refusal tells this meaning's fault, or want of memory
abbrev pub IsRefusal : {A : Type 0} → Result A BodyFault → Refused → Type 0
IsRefusal meaning (BadBody fault) = meaning ≡ Err fault
IsRefusal meaning NoMemory = ⊤

-- the answer is exactly what is meant, but for want of memory
abbrev pub Answers : {A : Type 0} → Result A BodyFault → Result A Refused → Type 0
Answers meaning (Ok a) = meaning ≡ Ok a
Answers meaning (Err refused) = IsRefusal meaning refused
