-- The commands that go on by an id, `create`, `run` and `exec`, ask only what is spelled by its bytes.
use Rattle.std.proofs.Common.{ℕ, ◌+◌, ◌≤◌, List, [], ◌∷◌, length, Bool, true, false, codes, Option, Some, None, arith}
use Rattle.std.specs.Prelude.{nat_lt, nat_le, ◌&&◌, unwrap_or}
use Rattle.std.specs.Option.{IfSome, option_map_or}
use Rattle.std.proofs.lemmas.Bool.{cond_both, and_parts}
use Rattle.std.proofs.lemmas.Bool.Decides.{nat_tests}
use Rattle.std.proofs.lemmas.Option.{IfSome_then}
use Rattle.engine_text.specs.declared.pairs.Pair.{Pair}
use Rattle.client_model.specs.declared.command.Command.TheVariants as command
use Rattle.client_model.specs.declared.command.NewContainer.{NewContainer}
use Rattle.client_model.specs.declared.command.Restart.{Restart}
use Rattle.client_model.specs.declared.fault.Fault.TheVariants as F
use Rattle.client_model.specs.Words.{value_of, has_flag}
use Rattle.client_model.specs.Bodies.{text_in, if_id, id_in, status_code_in}
use Rattle.client_model.specs.Plans.{Plan, asks, ends, done, fails, prints}
use Rattle.client_model.specs.Streams.{follows}
use Rattle.client_model.specs.declared.showing.Showing.TheVariants.{Demuxed}
use Rattle.client_model.specs.Commands.Container.{container_options, restart_in, container_with, container_of, create_request, restart_of, read_policy}
use Rattle.client_model.specs.Commands.Create.{create_in, read_create}
use Rattle.client_model.specs.Commands.Run.{run_options, run_in, removes, read_run}
use Rattle.client_model.specs.Commands.Start.{start_request}
use Rattle.client_model.specs.Commands.Remove.{remove_request}
use Rattle.client_model.specs.Commands.Attach.{attach_request}
use Rattle.client_model.specs.Commands.Exec.{exec_options, exec_in, exec_create_request, exec_start_request, exec_inspect_request, exit_code_in, read_exec}
use Rattle.client_model.specs.Commands.Wait.{wait_request}
use Rattle.client_laws.proofs.Spelled.SizeLemmas.{words_size}
use Rattle.client_laws.proofs.Spelled.WordLemmas.{IfSome-map, IfSome-and_then, IfSome-each, given_size, value_size, behind_within, length_value, length_values}
use Rattle.client_laws.proofs.Spelled.BodyLemmas.{IsShort, IsShortPolicy, policy_short}
use Rattle.client_laws.proofs.Spelled.RequestLemmas.{create_spelled, start_spelled, remove_spelled, attach_spelled, exec_create_spelled, exec_start_spelled, exec_inspect_spelled, wait_spelled}
use Rattle.client_laws.proofs.Spelled.PlanLemmas.{AsksSpelled, printed, asking, asking_any, streaming}
use Rattle.client_laws.proofs.Spelled.CommandLemmas.{Fit, IsFit}

-- ---- ids

short_id : (body : List ℕ) → IfSome (id_in body) (λ id. length id ≤ 4096)
short_id body =
    let text = text_in (codes "Id") body in
    IfSome-and_then (λ id. length id ≤ 4096) if_id text (IfSome-each (λ id. IfSome (if_id id) (λ id. length id ≤ 4096)) text short_text)
  where
    short_text : (id : List ℕ) → IfSome (if_id id) (λ id. length id ≤ 4096)
    short_text id =
        cond_both (nat_lt 0 (length id) && nat_le (length id) 4096) (Some id) None (λ o. IfSome o (λ id. length id ≤ 4096))
        (λ both. grind (arith, nat_tests, (and_parts (nat_lt 0 (length id)) (nat_le (length id) 4096) both).1)) (λ none. tt)

-- ---- containers

-- what is asked of a container that was created
started : (c : NewContainer) (remove : Bool) (id : List ℕ) → length id ≤ 4096
    → AsksSpelled (asks (start_request id) Some (λ body.
    follows (attach_request id c.input) c.input (
    asks (wait_request id) status_code_in (λ code.
    removes remove id (ends code)))))
started c remove id short =
    let behind : Plan = asks (wait_request id) status_code_in (λ code. removes remove id (ends code)) in
    asking_any (start_request id) Some (λ body. follows (attach_request id c.input) c.input behind) (start_spelled id short)
    (λ body. streaming Demuxed (attach_request id c.input) c.input behind (attach_spelled id c.input short)
    (asking_any (wait_request id) status_code_in (λ code. removes remove id (ends code)) (wait_spelled id short) (λ code. removed code remove)))
  where
    removed : (code : ℕ) (remove : Bool) → AsksSpelled (removes remove id (ends code))
    removed code true = asking_any (remove_request id false) Some (λ body. ends code) (remove_spelled id false short) (λ body. tt)
    removed code false = tt

run_fit : (c : NewContainer) (remove : Bool) → IsShort c → Fit (command.Run c remove)
run_fit c remove is =
    let next : List ℕ → Plan = λ id.
    asks (start_request id) Some (λ body.
    follows (attach_request id c.input) c.input (
    asks (wait_request id) status_code_in (λ code.
    removes remove id (ends code)))) in
    asking (create_request c) id_in next (create_spelled c is)
    (λ body. IfSome_then (id_in body) (short_id body) (started c remove))

create_fit : (c : NewContainer) → IsShort c → Fit (command.Create c)
create_fit c is = asking_any (create_request c) id_in (λ id. prints id done) (create_spelled c is) (λ id. printed id done tt)

-- the policy that is given is short, and so is `no`
restart_short : (word : Option (List ℕ)) → value_size word ≤ 4096 → IfSome (restart_in word) (λ restart. IsShortPolicy (unwrap_or restart (restart_of (codes "no") 0)))
restart_short None short = record { policy = omega arith; most = omega arith }
restart_short (Some word) short =
    IfSome-map (λ (restart : Option Restart). IsShortPolicy (unwrap_or restart (restart_of (codes "no") 0))) Some (read_policy word)
    (policy_short word (omega arith))

container_short : (given : List Pair) (words : List (List ℕ)) → given_size given + words_size words ≤ 4096 → IfSome (container_of given words) IsShort
container_short given [] short = tt
container_short given (image ∷ words) short =
    let policy = restart_short (value_of (codes "--restart") given) (omega (arith, short, length_value (codes "--restart") given)) in
    IfSome-map IsShort (λ restart. container_with given restart image words) (restart_in (value_of (codes "--restart") given))
    (IfSome_then (restart_in (value_of (codes "--restart") given)) policy (λ restart is. record {
      name = omega (arith, short, length_value (codes "--name") given);
      policy = is;
      binds = omega (arith, short, length_values (codes "-v") given);
      image = omega (arith, short);
      words = omega (arith, short);
    }))

pub creates : IsFit read_create
creates = behind_within Fit container_options create_in 4096
    (λ given words short. IfSome-map Fit command.Create (container_of given words) (IfSome_then (container_of given words) (container_short given words short) create_fit))

pub runs : IsFit read_run
runs = behind_within Fit run_options run_in 4096
    (λ given words short. IfSome-map Fit (λ c. command.Run c (has_flag (codes "--rm") given)) (container_of given words)
    (IfSome_then (container_of given words) (container_short given words short) (λ c is. run_fit c (has_flag (codes "--rm") given) is)))

-- ---- execs

-- what is asked of an exec that was created
entered : (input : Bool) (id : List ℕ) → length id ≤ 4096
    → AsksSpelled (follows (exec_start_request id) input (
    asks (exec_inspect_request id) exit_code_in (λ code. option_map_or ends code (fails F.NoCode))))
entered input id short =
    let last : Option ℕ → Plan = λ code. option_map_or ends code (fails F.NoCode) in
    streaming Demuxed (exec_start_request id) input (asks (exec_inspect_request id) exit_code_in last) (exec_start_spelled id short)
    (asking_any (exec_inspect_request id) exit_code_in last (exec_inspect_spelled id short) ended)
  where
    ended : (code : Option ℕ) → AsksSpelled (option_map_or ends code (fails F.NoCode))
    ended None = tt
    ended (Some code) = tt

exec_fit : (target : List ℕ) (words : List (List ℕ)) (input : Bool) → length target ≤ 4096 → words_size words ≤ 4096
    → Fit (command.Exec target words input)
exec_fit target words input short few =
    let next : List ℕ → Plan = λ id.
    follows (exec_start_request id) input (
    asks (exec_inspect_request id) exit_code_in (λ code. option_map_or ends code (fails F.NoCode))) in
    asking (exec_create_request target words input) id_in next (exec_create_spelled target words input short few)
    (λ body. IfSome_then (id_in body) (short_id body) (entered input))

exec_short : (given : List Pair) (words : List (List ℕ)) → given_size given + words_size words ≤ 4096 → IfSome (exec_in given words) Fit
exec_short given [] short = tt
exec_short given (target ∷ []) short = tt
exec_short given (target ∷ word ∷ words) short =
    exec_fit target (word ∷ words) (has_flag (codes "-i") given) (omega (arith, short)) (omega (arith, short))

pub execs : IsFit read_exec
execs = behind_within Fit exec_options exec_in 4096 exec_short
