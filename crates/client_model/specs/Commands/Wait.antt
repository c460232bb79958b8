-- `wait REF` (docker command line reference, docker container wait; Docker Engine API v1.43, ContainerWait).
use Rattle.std.specs.Prelude.{ℕ, List, codes, decimal, Option}
use Rattle.http_edge.specs.Message.{Request}
use Rattle.client_model.specs.Words.{one_word}
use Rattle.client_model.specs.Requests.{post, operation_path, key}
use Rattle.client_model.specs.Bodies.{status_code_in}
use Rattle.client_model.specs.Plans.{Plan, asks, prints, done}
use Rattle.client_model.specs.declared.command.Command.{Command}
use Rattle.client_model.specs.declared.command.Command.TheVariants as command

abbrev pub read_wait : List (List ℕ) → Option Command
read_wait = one_word command.Wait

-- POST /containers/REF/wait?condition=not-running
abbrev pub wait_request : List ℕ → Request
wait_request target = post (operation_path target (codes "wait")) (key (codes "condition") (codes "not-running"))

-- it prints the exit code
abbrev pub wait_plan : List ℕ → Plan
wait_plan target = asks (wait_request target) status_code_in (λ code. prints (decimal code) done)
