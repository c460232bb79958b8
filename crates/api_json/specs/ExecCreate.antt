-- The bodies of exec create and exec start (Docker Engine API v1.43, ContainerExec and ExecStart; own: the order of refusals, and what is left out).
use Rattle.std.specs.Prelude.{ℕ, List, [], ◌∷◌, Bool, Result, Ok, Err}
use Rattle.serde_json.specs.Data.{Data, object, no_members}
use Rattle.api_json.specs.Fault.{and_then}
use Rattle.api_json.specs.Fields.{body_of, flag, unset_flag}
use Rattle.api_json.specs.Lists.{words_field}
use Rattle.api_json.specs.declared.exec_create.ExecSpec.{ExecSpec}
use Rattle.api_json.specs.declared.fault.BodyKey.TheVariants as Key
use Rattle.api_json.specs.declared.fault.BodyFault.{BodyFault}
use Rattle.api_json.specs.declared.fault.BodyFault.TheVariants.{BadField, TtyLeftOut}

-- the words of an exec, of which there is at least one
abbrev pub not_empty : List (List ℕ) → Result (List (List ℕ)) BodyFault
not_empty [] = Err (BadField Key.Cmd)
not_empty (word ∷ words) = Ok (word ∷ words)

-- what is asked of an exec create: the words, the streams, and no terminal
abbrev pub exec_in : Data → Result ExecSpec BodyFault
exec_in d =
    and_then (and_then (words_field Key.Cmd d) not_empty) (λ words.
    and_then (flag Key.AttachStdin d) (λ stdin.
    and_then (flag Key.AttachStdout d) (λ out.
    and_then (flag Key.AttachStderr d) (λ err.
    and_then (unset_flag TtyLeftOut Key.Tty d) (λ tty.
    Ok (record { words = words; stdin = stdin; out = out; err = err }))))))

-- what the body of an exec create asks for, or why it is refused
unfoldable pub exec_of : List ℕ → Result ExecSpec BodyFault
exec_of body = and_then (body_of body) exec_in

-- whether an exec start is detached
abbrev pub exec_start_in : Data → Result Bool BodyFault
exec_start_in d =
    and_then (flag Key.Detach d) (λ detach.
    and_then (unset_flag TtyLeftOut Key.Tty d) (λ tty.
    Ok detach))

-- an empty body is that of the object without members
abbrev pub body_or_empty : List ℕ → Result Data BodyFault
body_or_empty [] = Ok (object no_members)
body_or_empty (c ∷ cs) = body_of (c ∷ cs)

-- whether the body of an exec start asks for a detached one, or why it is refused
unfoldable pub exec_start_of : List ℕ → Result Bool BodyFault
exec_start_of body = and_then (body_or_empty body) exec_start_in
