-- A container that is to be created: its options and words (docker command line reference, docker container create;
-- Docker Engine API v1.43, ContainerCreate).
use Rattle.std.specs.Prelude.{ℕ, ◌==◌, List, [], ◌∷◌, codes, Option, Some, None, option_map, unwrap_or, if◌then◌else◌}
use Rattle.std.specs.Option.{option_map_or}
use Rattle.std.specs.List.{before_first, after_first, list_any}
use Rattle.serde_json.specs.Data.{Data, boolean, object, no_members, member}
use Rattle.json_laws.specs.Pairs.{words_data}
use Rattle.engine_text.specs.declared.pairs.Pair.{Pair}
use Rattle.api_json.specs.Values.{text, natural}
use Rattle.api_routes.specs.Numeral.{number_of}
use Rattle.http_edge.specs.Message.{Request}
use Rattle.client_model.specs.Words.{Options, has_flag, value_of, values_of}
use Rattle.client_model.specs.Requests.{post_body, key_if}
use Rattle.client_model.specs.declared.words.Kind.TheVariants.{Flag, Valued, Repeated}
use Rattle.client_model.specs.declared.command.NewContainer.{NewContainer}
use Rattle.client_model.specs.declared.command.Restart.{Restart}

-- `--name NAME`, `--restart POLICY[:MAX]`, `-i`, `-v VOLUME:PATH[:ro]`
abbrev pub container_options : Options
container_options =
    (codes "--name", Valued) ∷ (codes "--restart", Valued) ∷ (codes "-i", Flag) ∷ (codes "-v", Repeated) ∷ []

-- ---- POLICY[:MAX]

abbrev pub restart_of : List ℕ → ℕ → Restart
restart_of policy most = record { policy = policy; most = most }

-- MAX is what follows the first colon, one to ten digits; without a colon it is 0
abbrev pub read_policy : List ℕ → Option Restart
read_policy word =
    if list_any (λ b. b == 58) word
    then option_map (restart_of (before_first (λ b. b == 58) word)) (number_of 10 (after_first (λ b. b == 58) word))
    else Some (restart_of word 0)

-- the policy, where it is given
abbrev pub restart_in : Option (List ℕ) → Option (Option Restart)
restart_in word = option_map_or (λ policy. option_map Some (read_policy policy)) word (Some None)

-- ---- the container

abbrev pub container_with : List Pair → Option Restart → List ℕ → List (List ℕ) → NewContainer
container_with given restart image words = record {
  name = value_of (codes "--name") given;
  restart = restart;
  input = has_flag (codes "-i") given;
  binds = values_of (codes "-v") given;
  image = image;
  words = words;
}

-- its options, then its image, then its words
abbrev pub container_of : List Pair → List (List ℕ) → Option NewContainer
container_of given [] = None
container_of given (image ∷ words) =
    option_map (λ restart. container_with given restart image words) (restart_in (value_of (codes "--restart") given))

-- ---- the request

abbrev pub policy_data : Restart → Data
policy_data restart = object (
    member (codes "MaximumRetryCount") (natural restart.most) (
    member (codes "Name") (text restart.policy) no_members))

-- the volumes, and the policy, `no` without the option
abbrev pub host_data : NewContainer → Data
host_data c = object (
    member (codes "Binds") (words_data c.binds) (
    member (codes "RestartPolicy") (policy_data (unwrap_or c.restart (restart_of (codes "no") 0))) no_members))

-- the body of ContainerCreate: `-i` opens standard input for one attach
abbrev pub container_data : NewContainer → Data
container_data c = object (
    member (codes "Cmd") (words_data c.words) (
    member (codes "HostConfig") (host_data c) (
    member (codes "Image") (text c.image) (
    member (codes "OpenStdin") (boolean c.input) (
    member (codes "StdinOnce") (boolean c.input) no_members)))))

-- POST /containers/create?name=NAME
abbrev pub create_request : NewContainer → Request
create_request c =
    post_body (codes "containers" ∷ codes "create" ∷ []) (key_if (codes "name") c.name) (container_data c)
