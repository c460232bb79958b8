-- The text of a container (Docker Engine API v1.43, ContainerInspect).
use Rattle.std.specs.Prelude.{ℕ, ◌==◌, ◌*◌, ℤ, List, [], ◌∷◌, ◌++◌, Bool, false, not, ◌||◌, Option, Some, None, codes, drop}
use Rattle.serde_json.specs.Data.{Data, boolean, object, Members, no_members, member}
use Rattle.serde_json.specs.Written.{compact_text}
use Rattle.json.specs.Token.{Token}
use Rattle.json_laws.specs.Pairs.{words_data}
use Rattle.engine_text.specs.Signal.{signal_name}
use Rattle.engine_text.specs.declared.health.HealthSpec.{HealthSpec}
use Rattle.engine_text.specs.declared.mounts.Mount.{Mount}
use Rattle.engine_text.specs.declared.pairs.Pair.{Pair}
use Rattle.engine_text.specs.declared.policy.Policy.{Policy}
use Rattle.engine_text.specs.declared.signal.Signal.{Signal}
use Rattle.engine_text.specs.declared.status.Status.{Status}
use Rattle.api_json.specs.Values.{text, natural, integer, moment, list_of, pairs_object, first_word, image_name}
use Rattle.api_json.specs.Mount.{mount_data}
use Rattle.api_json.specs.Written.{member_tokens}
use Rattle.api_json.specs.Status.{status_word, is_paused, is_restarting, is_dead}

-- What the text of a container tells; `pid` is 0 where no process lives.
pub record ContainerParts : Type 0 where
  pub id : List ℕ
  pub name : List ℕ
  pub words : List (List ℕ)
  pub labels : List Pair
  pub policy : Policy
  pub stop_signal : Signal
  pub stop_after : ℤ
  pub open_stdin : Bool
  pub stdin_once : Bool
  pub mounts : List Mount
  pub created : ℕ
  pub started : Option ℕ
  pub finished : Option ℕ
  pub restarts : ℕ
  pub status : Status
  pub pid : ℕ
  pub code : ℕ
  pub auto_remove : Bool
  pub health : Option HealthSpec

-- the name of a policy, as `RestartPolicy` has it
abbrev pub policy_word : Policy → List ℕ
policy_word Policy.No = codes "no"
policy_word Policy.Always = codes "always"
policy_word Policy.UnlessStopped = codes "unless-stopped"
policy_word (Policy.OnFailure most) = codes "on-failure"

-- how often it is tried again at most
abbrev pub most_retries : Policy → ℕ
most_retries Policy.No = 0
most_retries Policy.Always = 0
most_retries Policy.UnlessStopped = 0
most_retries (Policy.OnFailure most) = most

-- Running: a process lives or the status is restarting
abbrev pub is_running : ℕ → Status → Bool
is_running pid status = not (pid == 0) || is_restarting status

-- `Healthcheck`: its times in nanoseconds, and its words behind `CMD`
abbrev pub health_data : HealthSpec → Data
health_data h = object (
    member (codes "Interval") (natural (h.interval * 1000000)) (
    member (codes "Retries") (natural h.retries) (
    member (codes "StartPeriod") (natural (h.start_period * 1000000)) (
    member (codes "Test") (words_data (codes "CMD" ∷ h.words)) (
    member (codes "Timeout") (natural (h.timeout * 1000000)) no_members)))))

-- it stands where there is a check
abbrev pub health_member : Option HealthSpec → Members → Members
health_member None ms = ms
health_member (Some h) ms = member (codes "Healthcheck") (health_data h) ms

-- what the writer puts down for it
abbrev pub health_tokens : Option HealthSpec → List Token
health_tokens None = []
health_tokens (Some h) = member_tokens (codes "Healthcheck") (health_data h)

-- what of `Config` stands behind the health check; there is no terminal
abbrev pub config_rest : ContainerParts → Members
config_rest c =
    member (codes "Image") (text image_name) (
    member (codes "Labels") (pairs_object c.labels) (
    member (codes "OpenStdin") (boolean c.open_stdin) (
    member (codes "StdinOnce") (boolean c.stdin_once) (
    member (codes "StopSignal") (text (signal_name c.stop_signal.number)) (
    member (codes "StopTimeout") (integer c.stop_after) (
    member (codes "Tty") (boolean false) no_members))))))

-- `Config`: what the create asked for
abbrev pub config_data : ContainerParts → Data
config_data c = object (member (codes "Cmd") (words_data c.words) (health_member c.health (config_rest c)))

-- `RestartPolicy`: the name of the policy and its count
abbrev pub policy_data : Policy → Data
policy_data p = object (
    member (codes "MaximumRetryCount") (natural (most_retries p)) (
    member (codes "Name") (text (policy_word p)) no_members))

-- `HostConfig`: whether it is removed by itself, and the restart policy
abbrev pub host_config_data : Bool → Policy → Data
host_config_data auto p = object (
    member (codes "AutoRemove") (boolean auto) (
    member (codes "RestartPolicy") (policy_data p) no_members))

-- `State`: the status and its flags, the living process, and the last run; nothing is killed for want of memory
abbrev pub state_data : ContainerParts → Data
state_data c = object (
    member (codes "Dead") (boolean (is_dead c.status)) (
    member (codes "Error") (text []) (
    member (codes "ExitCode") (natural c.code) (
    member (codes "FinishedAt") (moment c.finished) (
    member (codes "OOMKilled") (boolean false) (
    member (codes "Paused") (boolean (is_paused c.status)) (
    member (codes "Pid") (natural c.pid) (
    member (codes "Restarting") (boolean (is_restarting c.status)) (
    member (codes "Running") (boolean (is_running c.pid c.status)) (
    member (codes "StartedAt") (moment c.started) (
    member (codes "Status") (text (status_word c.status)) no_members)))))))))))

-- a container whose `Config`, `HostConfig` and `State` are these: `Path` is the first word, `Args` are the others, and a
-- slash begins the name
abbrev pub container_object : ContainerParts → Data → Data → Data → Data
container_object c config host state = object (
    member (codes "Args") (words_data (drop 1 c.words)) (
    member (codes "Config") config (
    member (codes "Created") (moment (Some c.created)) (
    member (codes "HostConfig") host (
    member (codes "Id") (text c.id) (
    member (codes "Image") (text image_name) (
    member (codes "Mounts") (list_of mount_data c.mounts) (
    member (codes "Name") (text (codes "/" ++ c.name)) (
    member (codes "Path") (text (first_word c.words)) (
    member (codes "RestartCount") (natural c.restarts) (
    member (codes "State") state no_members)))))))))))

-- a container as ContainerInspect tells it
abbrev pub container_data : ContainerParts → Data
container_data c = container_object c (config_data c) (host_config_data c.auto_remove c.policy) (state_data c)

-- the body of ContainerInspect: compact JSON, as all bodies
abbrev pub container_text : ContainerParts → List ℕ
container_text c = compact_text (container_data c)
