-- own: the tables as the state that they mean.
use Rattle.std.specs.Prelude.{vec_capacity}
use Rattle.machine_model.specs.State.{State}
use Rattle.machine_tables.specs.Held.{tickets_in}
use Rattle.machine_events.specs.Memory.{Memory}
use Rattle.machine_effects.specs.declared.tables.Tables.TheInside.{Inside}

-- The state.
abbrev pub state_of : Inside → State
state_of m = record {
  containers = m.table.containers;
  execs = m.execs.execs;
  outputs = m.execs.outputs;
  processes = m.processes.processes;
  timers = m.table.timers;
  volumes = m.volumes.volumes;
  uses = m.volumes.uses;
  tickets = tickets_in m.seed m.tickets.tickets;
  removed = m.removals.removed;
  kept = m.removals.kept;
  next_number = m.next_number;
  next_ticket = m.next_ticket;
  next_pid = m.next_pid;
  event_count = m.event_count;
  event_moments = m.moments.moments;
  call_count = m.call_count;
  step_count = m.step_count;
  clock = m.clock;
  seed = m.seed;
}

-- The state and the room.
abbrev pub memory_of : Inside → Memory
memory_of m = record {
  state = state_of m;
  room = record {
    timers = m.table.timer_places;
    tickets = m.tickets.room;
    removed = m.removals.removed_room;
    kept = m.removals.kept_room;
    moments = m.moments.room;
    scratch = vec_capacity m.scratch;
  };
  containers = m.table.places;
  volumes = m.volumes.room;
  uses = m.volumes.use_room;
  execs = m.execs.places;
  spare = m.processes.spare;
  bytes = m.processes.bytes;
  logs = m.table.logs;
  outputs = m.execs.rooms;
  scratch = m.scratch.items;
}
