-- The bodies that the client sends are within a daemon's limit.
use Rattle.std.proofs.Common.{ℕ, ◌+◌, ◌*◌, ◌^◌, ◌<◌, ◌≤◌, ◌==◌, ◌++◌, List, [], ◌∷◌, length, Bool, true, false, codes, decimal, Option, Some, refl, arith, length-append}
use Rattle.std.specs.Prelude.{unwrap_or, option_map, not}
use Rattle.std.specs.Option.{IfSome}
use Rattle.std.specs.List.{list_any, before_first, after_first, position_or_len}
use Rattle.std.proofs.lemmas.Bool.{cond_both}
use Rattle.std.proofs.lemmas.Fmt.{length-decimal-le}
use Rattle.std.proofs.lemmas.List.{length-take-le}
use Rattle.std.proofs.lemmas.List.Sums.{prefix_len-le-length}
use Rattle.std.proofs.lemmas.Option.{IfSome_then}
use Rattle.serde_json.specs.Data.{Data, boolean, Members, no_members, member}
use Rattle.serde_json.specs.Written.{compact_text, members_text, comma_if}
use Rattle.json.specs.Print.{quoted}
use Rattle.json_laws.specs.Pairs.{words_data}
use Rattle.api_json.specs.Values.{text, natural}
use Rattle.api_routes.specs.Numeral.{number_of}
use Rattle.api_routes.proofs.NumeralLemmas.{number-small}
use Rattle.client_model.specs.declared.command.NewContainer.{NewContainer}
use Rattle.client_model.specs.declared.command.Restart.{Restart}
use Rattle.client_model.specs.Commands.Container.{restart_of, read_policy, policy_data, host_data, container_data}
use Rattle.client_model.specs.Commands.Exec.{exec_data}
use Rattle.client_model.specs.Commands.VolumeCreate.{volume_data}
use Rattle.client_model.specs.Commands.Update.{update_data}
use Rattle.client_model.specs.Commands.Health.{container_filter}
use Rattle.client_laws.proofs.Spelled.SizeLemmas.{length_quoted, length_boolean, length_comma, words_size, length_words}
use Rattle.client_laws.proofs.Spelled.WordLemmas.{value_size, IfSome-map}

-- ---- objects

member_within : (later : Bool) (key : List ℕ) (d : Data) (ms : Members) (m n bound : ℕ) → length (compact_text d) ≤ m → length (members_text true ms) ≤ n
    → 6 * length key + 4 + m + n ≤ bound → length (members_text later (member key d ms)) ≤ bound
member_within later key d ms m n bound value rest fits =
    omega (
      arith,
      length-append (comma_if later) (quoted key ++ 58 ∷ (compact_text d ++ members_text true ms)),
      length-append (quoted key) (58 ∷ (compact_text d ++ members_text true ms)),
      length-append (compact_text d) (members_text true ms),
      length_comma later,
      length_quoted key,
      value,
      rest,
      fits,
    )

no_more : length (members_text true no_members) ≤ 1
no_more = omega arith

-- ---- containers

-- what is sent of a restart policy is short
pub record IsShortPolicy (restart : Restart) : Type 0 where
  pub policy : length restart.policy ≤ 4096
  pub most : restart.most < 10000000000

-- the policy of a container, `no` without the option
abbrev pub policy_of : Option Restart → Restart
policy_of restart = unwrap_or restart (restart_of (codes "no") 0)

-- the words of a container are short
pub record IsShort (c : NewContainer) : Type 0 where
  pub name : value_size c.name ≤ 4096
  pub policy : IsShortPolicy (policy_of c.restart)
  pub binds : words_size c.binds ≤ 4096
  pub image : length c.image ≤ 4096
  pub words : words_size c.words ≤ 4096

policy_within : (restart : Restart) → IsShortPolicy restart → length (compact_text (policy_data restart)) ≤ 30000
policy_within restart is =
    let name : Members = member (codes "Name") (text restart.policy) no_members in
    let last : length (members_text true name) ≤ 25000 =
    member_within true (codes "Name") (text restart.policy) no_members 24578 1 25000 (omega (arith, length_quoted restart.policy, is.policy)) no_more (omega arith) in
    let digits : length (decimal restart.most) ≤ 10 = length-decimal-le 10 restart.most (omega arith) is.most (omega (arith, is.most)) in
    let all : length (members_text false (member (codes "MaximumRetryCount") (natural restart.most) name)) ≤ 26000 =
    member_within false (codes "MaximumRetryCount") (natural restart.most) name 10 25000 26000 digits last (omega arith) in
    omega (arith, all)

host_within : (c : NewContainer) → IsShort c → length (compact_text (host_data c)) ≤ 60000
host_within c is =
    let policy : Members = member (codes "RestartPolicy") (policy_data (policy_of c.restart)) no_members in
    let last : length (members_text true policy) ≤ 31000 =
    member_within true (codes "RestartPolicy") (policy_data (policy_of c.restart)) no_members 30000 1 31000 (policy_within (policy_of c.restart) is.policy) no_more (omega arith) in
    let all : length (members_text false (member (codes "Binds") (words_data c.binds) policy)) ≤ 59000 =
    member_within false (codes "Binds") (words_data c.binds) policy 24578 31000 59000 (omega (arith, length_words c.binds, is.binds)) last (omega arith) in
    omega (arith, all)

pub update_within : (restart : Restart) → IsShortPolicy restart → length (compact_text (update_data restart)) ≤ 1048576
update_within restart is =
    let all : length (members_text false (member (codes "RestartPolicy") (policy_data restart) no_members)) ≤ 31000 =
    member_within false (codes "RestartPolicy") (policy_data restart) no_members 30000 1 31000 (policy_within restart is) no_more (omega arith) in
    omega (arith, all)

pub container_within : (c : NewContainer) → IsShort c → length (compact_text (container_data c)) ≤ 1048576
container_within c is =
    let once : Members = member (codes "StdinOnce") (boolean c.input) no_members in
    let opened : Members = member (codes "OpenStdin") (boolean c.input) once in
    let image : Members = member (codes "Image") (text c.image) opened in
    let host : Members = member (codes "HostConfig") (host_data c) image in
    let a : length (members_text true once) ≤ 100 = member_within true (codes "StdinOnce") (boolean c.input) no_members 5 1 100 (length_boolean c.input) no_more (omega arith) in
    let b : length (members_text true opened) ≤ 200 = member_within true (codes "OpenStdin") (boolean c.input) once 5 100 200 (length_boolean c.input) a (omega arith) in
    let d : length (members_text true image) ≤ 25000 = member_within true (codes "Image") (text c.image) opened 24578 200 25000 (omega (arith, length_quoted c.image, is.image)) b (omega arith) in
    let e : length (members_text true host) ≤ 90000 = member_within true (codes "HostConfig") (host_data c) image 60000 25000 90000 (host_within c is) d (omega arith) in
    let all : length (members_text false (member (codes "Cmd") (words_data c.words) host)) ≤ 120000 =
    member_within false (codes "Cmd") (words_data c.words) host 24578 90000 120000 (omega (arith, length_words c.words, is.words)) e (omega arith) in
    omega (arith, all)

-- ---- execs

pub exec_within : (words : List (List ℕ)) (input : Bool) → words_size words ≤ 4096 → length (compact_text (exec_data words input)) ≤ 1048576
exec_within words input short =
    let cmd : Members = member (codes "Cmd") (words_data words) no_members in
    let stdout : Members = member (codes "AttachStdout") (boolean true) cmd in
    let stdin : Members = member (codes "AttachStdin") (boolean input) stdout in
    let a : length (members_text true cmd) ≤ 25000 = member_within true (codes "Cmd") (words_data words) no_members 24578 1 25000 (omega (arith, length_words words, short)) no_more (omega arith) in
    let b : length (members_text true stdout) ≤ 26000 = member_within true (codes "AttachStdout") (boolean true) cmd 5 25000 26000 (length_boolean true) a (omega arith) in
    let d : length (members_text true stdin) ≤ 27000 = member_within true (codes "AttachStdin") (boolean input) stdout 5 26000 27000 (length_boolean input) b (omega arith) in
    let all : length (members_text false (member (codes "AttachStderr") (boolean true) stdin)) ≤ 28000 =
    member_within false (codes "AttachStderr") (boolean true) stdin 5 27000 28000 (length_boolean true) d (omega arith) in
    omega (arith, all)

-- ---- filters

pub filter_within : (id : List ℕ) → length id ≤ 64 → length (compact_text (container_filter id)) ≤ 500
filter_within id few =
    let all : length (members_text false (member (codes "container") (words_data (id ∷ [])) no_members)) ≤ 460 =
    member_within false (codes "container") (words_data (id ∷ [])) no_members 392 1 460 (omega (arith, length_words (id ∷ []), few)) no_more (omega arith) in
    omega (arith, all)

-- ---- volumes

pub volume_within : (name : List ℕ) → length name ≤ 4096 → length (compact_text (volume_data name)) ≤ 1048576
volume_within name short =
    let all : length (members_text false (member (codes "Name") (text name) no_members)) ≤ 25000 =
    member_within false (codes "Name") (text name) no_members 24578 1 25000 (omega (arith, length_quoted name, short)) no_more (omega arith) in
    omega (arith, all)

-- ---- policies

cut : (word : List ℕ) → length (before_first (λ b. b == 58) word) ≤ length word
cut word = omega (arith, length-take-le (position_or_len (λ b. b == 58) word) word (prefix_len-le-length (λ b. not (b == 58)) word), prefix_len-le-length (λ b. not (b == 58)) word)

pub policy_short : (word : List ℕ) → length word ≤ 4096 → IfSome (read_policy word) IsShortPolicy
policy_short word short =
    let number = number_of 10 (after_first (λ b. b == 58) word) in
    let policy = before_first (λ b. b == 58) word in
    let small : IfSome number (λ n. n < 10 ^ 10) = number-small 10 (after_first (λ b. b == 58) word) number refl in
    cond_both (list_any (λ b. b == 58) word) (option_map (restart_of policy) number) (Some (restart_of word 0)) (λ o. IfSome o IsShortPolicy)
    (λ colon. IfSome-map IsShortPolicy (restart_of policy) number (IfSome_then number small (λ n is. record { policy = omega (arith, cut word, short); most = omega arith })))
    (λ none. record { policy = short; most = omega arith })
