-- The requests of commands, each spelled by its bytes where its words are short.
use Rattle.std.proofs.Common.{ℕ, ◌+◌, ◌≤◌, ◌++◌, List, [], ◌∷◌, length, Bool, true, false, codes, Option, Some, None, refl, arith}
use Rattle.httparse.specs.Grammar.{is_token_byte}
use Rattle.serde_json.specs.Data.{Data}
use Rattle.serde_json.specs.Written.{compact_text}
use Rattle.http_edge.specs.Message.{Request}
use Rattle.http_edge.specs.Spelling.{Spells}
use Rattle.client_model.specs.declared.manner.Manner.TheVariants.{Closes, Upgrades}
use Rattle.client_model.specs.declared.command.NewContainer.{NewContainer}
use Rattle.client_model.specs.declared.command.Restart.{Restart}
use Rattle.client_model.specs.Requests.{Query, request_bytes, get, delete, post, post_body, take_over, container_path, operation_path, exec_path, volume_path, key, key_if}
use Rattle.client_model.specs.Commands.Container.{container_data, create_request}
use Rattle.client_model.specs.Commands.Start.{start_request}
use Rattle.client_model.specs.Commands.Pause.{pause_request}
use Rattle.client_model.specs.Commands.Unpause.{unpause_request}
use Rattle.client_model.specs.Commands.Stop.{stop_request}
use Rattle.client_model.specs.Commands.Restart.{restart_request}
use Rattle.client_model.specs.Commands.Kill.{kill_request}
use Rattle.client_model.specs.Commands.Remove.{remove_request}
use Rattle.client_model.specs.Commands.Rename.{rename_request}
use Rattle.client_model.specs.Commands.Update.{update_data, update_request}
use Rattle.client_model.specs.Commands.List.{list_request}
use Rattle.client_model.specs.Commands.Inspect.{inspect_request}
use Rattle.client_model.specs.Commands.Version.{version_request}
use Rattle.client_model.specs.Commands.Logs.{logs_request, both_streams}
use Rattle.client_model.specs.Commands.Attach.{attach_request, attach_query}
use Rattle.client_model.specs.Commands.Exec.{exec_data, exec_create_request, exec_start_request, exec_inspect_request}
use Rattle.client_model.specs.Commands.Wait.{wait_request}
use Rattle.client_model.specs.Commands.Events.{events_request}
use Rattle.client_model.specs.Commands.VolumeCreate.{volume_data, volume_create_request}
use Rattle.client_model.specs.Commands.VolumeInspect.{volume_inspect_request}
use Rattle.client_model.specs.Commands.VolumeRemove.{volume_remove_request}
use Rattle.client_model.specs.Commands.VolumeList.{volume_list_request}
use Rattle.client_model.specs.Commands.Journal.{journal_request}
use Rattle.client_model.specs.Commands.Health.{container_filter, container_events_request}
use Rattle.client_laws.proofs.Spelled.SpellingLemmas.{target_size, token, spelled}
use Rattle.client_laws.proofs.Spelled.SizeLemmas.{words_size}
use Rattle.client_laws.proofs.Spelled.WordLemmas.{value_size}
use Rattle.client_laws.proofs.Spelled.BodyLemmas.{IsShort, IsShortPolicy, container_within, update_within, exec_within, filter_within, volume_within}

-- its bytes are one spelling of it
abbrev pub SpellsItself : Request → Type 0
SpellsItself r = Spells (request_bytes r) r

-- ---- by method

got : (path : List (List ℕ)) (query : Query) → target_size path query ≤ 16200 → SpellsItself (get path query)
unfolding is_token_byte
got path query fits = spelled (codes "GET") Closes path query [] (token (codes "GET") refl refl) (omega arith) fits (omega arith)

deleted : (path : List (List ℕ)) (query : Query) → target_size path query ≤ 16200 → SpellsItself (delete path query)
unfolding is_token_byte
deleted path query fits = spelled (codes "DELETE") Closes path query [] (token (codes "DELETE") refl refl) (omega arith) fits (omega arith)

posted : (path : List (List ℕ)) (query : Query) → target_size path query ≤ 16200 → SpellsItself (post path query)
unfolding is_token_byte
posted path query fits = spelled (codes "POST") Closes path query [] (token (codes "POST") refl refl) (omega arith) fits (omega arith)

posted_body : (path : List (List ℕ)) (query : Query) (body : Data) → target_size path query ≤ 16200 → length (compact_text body) ≤ 1048576
    → SpellsItself (post_body path query body)
unfolding is_token_byte
posted_body path query body fits small =
    spelled (codes "POST") Closes path query (compact_text body) (token (codes "POST") refl refl) (omega arith) fits small

taken_over : (path : List (List ℕ)) (query : Query) → target_size path query ≤ 16200 → SpellsItself (take_over path query)
unfolding is_token_byte
taken_over path query fits = spelled (codes "POST") Upgrades path query [] (token (codes "POST") refl refl) (omega arith) fits (omega arith)

-- ---- containers

pub create_spelled : (c : NewContainer) → IsShort c → SpellsItself (create_request c)
create_spelled c is = by c.name is.name
  where
    by : (name : Option (List ℕ)) → value_size name ≤ 4096
        → SpellsItself (post_body (codes "containers" ∷ codes "create" ∷ []) (key_if (codes "name") name) (container_data c))
    by None short = posted_body (codes "containers" ∷ codes "create" ∷ []) [] (container_data c) (omega arith) (container_within c is)
    by (Some name) short = posted_body (codes "containers" ∷ codes "create" ∷ []) (key (codes "name") name) (container_data c) (omega (arith, short)) (container_within c is)

pub start_spelled : (target : List ℕ) → length target ≤ 4096 → SpellsItself (start_request target)
start_spelled target short = posted (operation_path target (codes "start")) [] (omega arith)

pub pause_spelled : (target : List ℕ) → length target ≤ 4096 → SpellsItself (pause_request target)
pause_spelled target short = posted (operation_path target (codes "pause")) [] (omega arith)

pub unpause_spelled : (target : List ℕ) → length target ≤ 4096 → SpellsItself (unpause_request target)
unpause_spelled target short = posted (operation_path target (codes "unpause")) [] (omega arith)

pub stop_spelled : (target : List ℕ) (seconds : Option (List ℕ)) → length target + value_size seconds ≤ 4096 → SpellsItself (stop_request target seconds)
stop_spelled target None short = posted (operation_path target (codes "stop")) [] (omega arith)
stop_spelled target (Some seconds) short = posted (operation_path target (codes "stop")) (key (codes "t") seconds) (omega arith)

pub restart_spelled : (target : List ℕ) (seconds : Option (List ℕ)) → length target + value_size seconds ≤ 4096
    → SpellsItself (restart_request target seconds)
restart_spelled target None short = posted (operation_path target (codes "restart")) [] (omega arith)
restart_spelled target (Some seconds) short = posted (operation_path target (codes "restart")) (key (codes "t") seconds) (omega arith)

pub kill_spelled : (target : List ℕ) (signal : Option (List ℕ)) → length target + value_size signal ≤ 4096 → SpellsItself (kill_request target signal)
kill_spelled target None short = posted (operation_path target (codes "kill")) [] (omega arith)
kill_spelled target (Some signal) short = posted (operation_path target (codes "kill")) (key (codes "signal") signal) (omega arith)

pub remove_spelled : (target : List ℕ) (force : Bool) → length target ≤ 4096 → SpellsItself (remove_request target force)
remove_spelled target true short = deleted (container_path target) (key (codes "force") (codes "1")) (omega arith)
remove_spelled target false short = deleted (container_path target) [] (omega arith)

pub rename_spelled : (target name : List ℕ) → length target + length name ≤ 4096 → SpellsItself (rename_request target name)
rename_spelled target name short = posted (operation_path target (codes "rename")) (key (codes "name") name) (omega arith)

pub update_spelled : (target : List ℕ) (restart : Restart) → length target ≤ 4096 → IsShortPolicy restart → SpellsItself (update_request target restart)
update_spelled target restart short is =
    posted_body (operation_path target (codes "update")) [] (update_data restart) (omega arith) (update_within restart is)

pub list_spelled : (all : Bool) → SpellsItself (list_request all)
list_spelled true = got (codes "containers" ∷ codes "json" ∷ []) (key (codes "all") (codes "1")) (omega arith)
list_spelled false = got (codes "containers" ∷ codes "json" ∷ []) [] (omega arith)

pub inspect_spelled : (target : List ℕ) → length target ≤ 4096 → SpellsItself (inspect_request target)
inspect_spelled target short = got (operation_path target (codes "json")) [] (omega arith)

pub logs_spelled : (target : List ℕ) (follow : Bool) → length target ≤ 4096 → SpellsItself (logs_request target follow)
logs_spelled target true short = got (operation_path target (codes "logs")) (both_streams ++ key (codes "follow") (codes "1")) (omega arith)
logs_spelled target false short = got (operation_path target (codes "logs")) (both_streams ++ []) (omega arith)

pub attach_spelled : (target : List ℕ) (input : Bool) → length target ≤ 4096 → SpellsItself (attach_request target input)
attach_spelled target true short = taken_over (operation_path target (codes "attach")) (attach_query ++ key (codes "stdin") (codes "1")) (omega arith)
attach_spelled target false short = taken_over (operation_path target (codes "attach")) (attach_query ++ []) (omega arith)

pub wait_spelled : (target : List ℕ) → length target ≤ 4096 → SpellsItself (wait_request target)
wait_spelled target short = posted (operation_path target (codes "wait")) (key (codes "condition") (codes "not-running")) (omega arith)

-- ---- execs

pub exec_create_spelled : (target : List ℕ) (words : List (List ℕ)) (input : Bool) → length target ≤ 4096 → words_size words ≤ 4096
    → SpellsItself (exec_create_request target words input)
exec_create_spelled target words input short few =
    posted_body (operation_path target (codes "exec")) [] (exec_data words input) (omega arith) (exec_within words input few)

pub exec_start_spelled : (id : List ℕ) → length id ≤ 4096 → SpellsItself (exec_start_request id)
exec_start_spelled id short = taken_over (exec_path id (codes "start")) [] (omega arith)

pub exec_inspect_spelled : (id : List ℕ) → length id ≤ 4096 → SpellsItself (exec_inspect_request id)
exec_inspect_spelled id short = got (exec_path id (codes "json")) [] (omega arith)

-- ---- the daemon

pub version_spelled : SpellsItself version_request
version_spelled = got (codes "version" ∷ []) [] (omega arith)

pub events_spelled : (since until : List ℕ) → length since + length until ≤ 4096 → SpellsItself (events_request since until)
events_spelled since until short = got (codes "events" ∷ []) (key (codes "since") since ++ key (codes "until") until) (omega arith)

filtered : (until filter : List ℕ) → length until ≤ 4096 → length filter ≤ 500
    → SpellsItself (get (codes "events" ∷ []) (key (codes "since") (codes "0") ++ key (codes "until") until ++ key (codes "filters") filter))
filtered until filter short few =
    got (codes "events" ∷ []) (key (codes "since") (codes "0") ++ key (codes "until") until ++ key (codes "filters") filter) (omega arith)

pub container_events_spelled : (until id : List ℕ) → length until ≤ 4096 → length id ≤ 64 → SpellsItself (container_events_request until id)
container_events_spelled until id short few = filtered until (compact_text (container_filter id)) short (filter_within id few)

pub journal_spelled : SpellsItself journal_request
journal_spelled = got (codes "engine" ∷ codes "journal" ∷ []) [] (omega arith)

-- ---- volumes

pub volume_create_spelled : (name : List ℕ) → length name ≤ 4096 → SpellsItself (volume_create_request name)
volume_create_spelled name short = posted_body (volume_path (codes "create")) [] (volume_data name) (omega arith) (volume_within name short)

pub volume_inspect_spelled : (name : List ℕ) → length name ≤ 4096 → SpellsItself (volume_inspect_request name)
volume_inspect_spelled name short = got (volume_path name) [] (omega arith)

pub volume_remove_spelled : (name : List ℕ) → length name ≤ 4096 → SpellsItself (volume_remove_request name)
volume_remove_spelled name short = deleted (volume_path name) [] (omega arith)

pub volume_list_spelled : SpellsItself volume_list_request
volume_list_spelled = got (codes "volumes" ∷ []) [] (omega arith)
