-- `update --restart POLICY[:MAX] REF` (docker command line reference, docker container update; Docker Engine API v1.43,
-- ContainerUpdate; own: the policy is needed).
use Rattle.std.specs.Prelude.{ℕ, List, [], ◌∷◌, codes, Option, option_and_then}
use Rattle.http_edge.specs.Message.{Request}
use Rattle.serde_json.specs.Data.{Data, object, no_members, member}
use Rattle.engine_text.specs.declared.pairs.Pair.{Pair}
use Rattle.client_model.specs.Words.{Options, behind_options, one_word, value_of}
use Rattle.client_model.specs.Requests.{post_body, operation_path}
use Rattle.client_model.specs.Plans.{Plan, asks_and_prints}
use Rattle.client_model.specs.Commands.Container.{read_policy, policy_data}
use Rattle.client_model.specs.declared.words.Kind.TheVariants.{Valued}
use Rattle.client_model.specs.declared.command.Restart.{Restart}
use Rattle.client_model.specs.declared.command.Command.{Command}
use Rattle.client_model.specs.declared.command.Command.TheVariants as command

abbrev pub update_options : Options
update_options = (codes "--restart", Valued) ∷ []

-- the policy that is given
abbrev pub policy_given : List Pair → Option Restart
policy_given given = option_and_then read_policy (value_of (codes "--restart") given)

abbrev pub update_in : List Pair → List (List ℕ) → Option Command
update_in given words =
    option_and_then (λ restart. one_word (λ target. command.Update target restart) words) (policy_given given)

abbrev pub read_update : List (List ℕ) → Option Command
read_update = behind_options update_options update_in

-- the body of ContainerUpdate
abbrev pub update_data : Restart → Data
update_data restart = object (member (codes "RestartPolicy") (policy_data restart) no_members)

-- POST /containers/REF/update
abbrev pub update_request : List ℕ → Restart → Request
update_request target restart = post_body (operation_path target (codes "update")) [] (update_data restart)

-- it gives the container that policy, and prints REF
abbrev pub update_plan : List ℕ → Restart → Plan
update_plan target restart = asks_and_prints (update_request target restart) target
