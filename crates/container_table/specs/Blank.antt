-- What stands in a place where no container is (own: so that one can be taken out of its place).
use Rattle.std.specs.Prelude.{[], pos, false, None}
use Rattle.engine_text.specs.declared.container.Life.{Life}
use Rattle.engine_text.specs.declared.container.Goal.{Goal}
use Rattle.engine_text.specs.declared.policy.Policy.{Policy}
use Rattle.engine_text.specs.declared.status.Status.{Status}
use Rattle.container_table.specs.declared.held.Held.{Held}

-- The life without anything: nothing is set but that SIGTERM stops it, and nothing happened.
abbrev pub no_life : Life
no_life = record {
  words = [];
  labels = [];
  policy = Policy.No;
  stop_signal = record { number = 15 };
  stop_after = pos 0;
  open_stdin = false;
  stdin_once = false;
  mounts = [];
  created = 0;
  started = None;
  finished = None;
  restarts = 0;
  status = Status.Created;
  pid = 0;
  code = 0;
  starts = 0;
  goal = Goal.None;
  delay = 0;
  manual = false;
  log = [];
  auto_remove = false;
  health = None;
}

-- The container without anything, in whose log there is no room.
abbrev pub nothing_held : Held
nothing_held = record {
  container = record { number = 0; id = []; name = []; life = no_life };
  log = record { records = []; room = 0 };
}
