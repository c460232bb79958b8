-- What the views that are lent to the writers show (Docker Engine API v1.43, ContainerInspect, ExecInspect, VolumeInspect).
use Rattle.std.specs.Prelude.{option_map}
use Rattle.engine_text.specs.declared.listed.ListedVolume.{ListedVolume}
use Rattle.api_json.specs.Container.{ContainerParts}
use Rattle.api_json.specs.Exec.{ExecParts}
use Rattle.api_json.specs.declared.container.ContainerView.{ContainerView}
use Rattle.api_json.specs.declared.exec.ExecView.{ExecView}
use Rattle.api_json.specs.declared.volume.VolumeView.{VolumeView}

-- the parts of a container
abbrev pub container_shown : ContainerView → ContainerParts
container_shown c = record {
  id = c.id.now;
  name = c.name.now;
  words = c.words.now;
  labels = c.labels.now;
  policy = c.policy.now;
  stop_signal = c.stop_signal;
  stop_after = c.stop_after;
  open_stdin = c.open_stdin;
  stdin_once = c.stdin_once;
  mounts = c.mounts.now;
  created = c.created;
  started = c.started;
  finished = c.finished;
  restarts = c.restarts;
  status = c.status;
  pid = c.pid;
  code = c.code;
  auto_remove = c.auto_remove;
  health = option_map (λ h. h.now) c.health;
}

-- the parts of an exec
abbrev pub exec_shown : ExecView → ExecParts
exec_shown x = record {
  id = x.id.now;
  container = x.container.now;
  words = x.words.now;
  stdin = x.stdin;
  out = x.out;
  err = x.err;
  live = x.live;
  pid = x.pid;
  code = x.code;
}

-- the parts of a volume
abbrev pub volume_shown : VolumeView → ListedVolume
volume_shown v = record { name = v.name.now; labels = v.labels.now; created = v.created }
