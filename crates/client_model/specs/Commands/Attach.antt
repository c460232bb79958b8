-- `attach REF` (docker command line reference, docker container attach; Docker Engine API v1.43, ContainerAttach).
use Rattle.std.specs.Prelude.{ℕ, List, ◌++◌, codes, Bool, true, false, Option}
use Rattle.http_edge.specs.Message.{Request}
use Rattle.client_model.specs.Words.{one_word}
use Rattle.client_model.specs.Requests.{take_over, operation_path, key_set, Query}
use Rattle.client_model.specs.Plans.{Plan, done}
use Rattle.client_model.specs.Streams.{follows}
use Rattle.client_model.specs.Commands.Logs.{both_streams}
use Rattle.client_model.specs.declared.command.Command.{Command}
use Rattle.client_model.specs.declared.command.Command.TheVariants as command

abbrev pub read_attach : List (List ℕ) → Option Command
read_attach = one_word command.Attach

-- what was written, and what is written until the end, of both streams
abbrev pub attach_query : Query
attach_query = key_set (codes "logs") true ++ key_set (codes "stream") true ++ both_streams

-- POST /containers/REF/attach?logs=1&stream=1&stdout=1&stderr=1, with input &stdin=1
abbrev pub attach_request : List ℕ → Bool → Request
attach_request target input =
    take_over (operation_path target (codes "attach")) (attach_query ++ key_set (codes "stdin") input)

-- it writes what the container wrote and writes, to its end
abbrev pub attach_plan : List ℕ → Plan
attach_plan target = follows (attach_request target false) false done
