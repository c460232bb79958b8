-- The body of a create (Docker Engine API v1.43, ContainerCreate; own: the bounds, the order of refusals, and what is left out).
use Rattle.std.specs.Prelude.{ℕ, ◌==◌, ℤ, pos, negsuc, List, [], ◌∷◌, ◌++◌, Bool, nat_le, if◌then◌else◌, Option, Some, None, Result, Ok, Err}
use Rattle.serde_json.specs.Data.{Data, Members, no_members, member}
use Rattle.serde_json.specs.Find.{as_object}
use Rattle.engine_text.specs.Signal.{read_signal}
use Rattle.engine_text.specs.declared.call.CreateSpec.{CreateSpec}
use Rattle.engine_text.specs.declared.signal.Signal.{Signal}
use Rattle.api_json.specs.Fault.{and_then, or_fault}
use Rattle.api_json.specs.Fields.{body_of, field, needed_text, text_field, flag, whole_field, unset_flag}
use Rattle.api_json.specs.Lists.{words_field, labels_of}
use Rattle.api_json.specs.HostConfig.{host_of}
use Rattle.api_json.specs.Health.{health_of}
use Rattle.api_json.specs.declared.create.Console.{Console}
use Rattle.api_json.specs.declared.create.Stop.{Stop}
use Rattle.api_json.specs.declared.fault.BodyKey.TheVariants as Key
use Rattle.api_json.specs.declared.fault.BodyFault.{BodyFault}
use Rattle.api_json.specs.declared.fault.BodyFault.TheVariants.{BadField, TtyLeftOut, AnonymousVolumes}

-- the words of the entry point, and then those of the command
abbrev pub words_of : Data → Result (List (List ℕ)) BodyFault
words_of d =
    and_then (words_field Key.Entrypoint d) (λ entry.
    and_then (words_field Key.Cmd d) (λ command.
    Ok (entry ++ command)))

-- no terminal, and how standard input is held
abbrev pub console_of : Data → Result Console BodyFault
console_of d =
    and_then (unset_flag TtyLeftOut Key.Tty d) (λ tty.
    and_then (flag Key.OpenStdin d) (λ open_stdin.
    and_then (flag Key.StdinOnce d) (λ stdin_once.
    Ok (record { open_stdin = open_stdin; stdin_once = stdin_once }))))

-- the signal of a stop where the create names none
abbrev pub sigterm : Signal
sigterm = record { number = 15 }

-- the signal of a text; an absent or an empty one is SIGTERM
abbrev pub signal_in : Option (List ℕ) → Option Signal
signal_in None = Some sigterm
signal_in (Some []) = Some sigterm
signal_in (Some (c ∷ cs)) = read_signal (c ∷ cs)

-- seconds from -1, which means without end, to 2,147,483; 10 where absent
abbrev pub seconds_in : Option ℤ → Option ℤ
seconds_in None = Some (pos 10)
seconds_in (Some (pos n)) = if nat_le n 2147483 then Some (pos n) else None
seconds_in (Some (negsuc n)) = if n == 0 then Some (negsuc n) else None

-- how the container is stopped
abbrev pub stop_of : Data → Result Stop BodyFault
stop_of d =
    and_then (and_then (text_field Key.StopSignal d) (λ name. or_fault (BadField Key.StopSignal) (signal_in name))) (λ signal.
    and_then (and_then (whole_field Key.StopTimeout d) (λ seconds. or_fault (BadField Key.StopTimeout) (seconds_in seconds))) (λ after.
    Ok (record { signal = signal; after = after })))

-- `Volumes` without members asks for nothing
abbrev pub no_members_or_fault : Members → Result Bool BodyFault
no_members_or_fault no_members = Ok Bool.true
no_members_or_fault (member k d ms) = Err AnonymousVolumes

-- `Volumes`, where it is there, is an object without members
abbrev pub none_if_present : Option Data → Result Bool BodyFault
none_if_present None = Ok Bool.true
none_if_present (Some d) = and_then (or_fault (BadField Key.Volumes) (as_object d)) no_members_or_fault

-- anonymous volumes are left out
abbrev pub no_volumes : Data → Result Bool BodyFault
no_volumes d = none_if_present (field Key.Volumes d)

-- what is asked of a create by this name: its fields in the order in which they are read
abbrev pub create_in : Option (List ℕ) → Data → Result CreateSpec BodyFault
create_in name d =
    and_then (needed_text Key.Image d) (λ image.
    and_then (words_of d) (λ words.
    and_then (console_of d) (λ console.
    and_then (stop_of d) (λ stop.
    and_then (labels_of d) (λ labels.
    and_then (no_volumes d) (λ none.
    and_then (host_of d) (λ host.
    and_then (health_of d) (λ health.
    Ok (record {
      name = name;
      image = image;
      words = words;
      policy = host.policy;
      stop_signal = stop.signal;
      stop_after = stop.after;
      open_stdin = console.open_stdin;
      stdin_once = console.stdin_once;
      labels = labels;
      mounts = host.mounts;
      auto_remove = host.auto_remove;
      health = health;
    })))))))))

-- what the body of a create asks for, or why it is refused
unfoldable pub create_of : Option (List ℕ) → List ℕ → Result CreateSpec BodyFault
create_of name body = and_then (body_of body) (create_in name)
