-- The class of each request, by the words of its command.
use Rattle.std.proofs.Common.{◌≡◌, ℕ, Bool, true, false, List, [], ◌∷◌, All, cond, codes, IsUtf8, Option, Some, None, Ok, Err, refl, ap, ◌∙◌}
use Rattle.std.specs.Prelude.{unwrap_or, IfSome}
use Rattle.percent_encoding.proofs.PercentLemmas.{IsByte}
use Rattle.json.proofs.Printed.Utf8.{are_ascii, IsUtf8-are_ascii}
use Rattle.engine_text.specs.Name.{is_name}
use Rattle.engine_text.specs.Query.{query_bool}
use Rattle.engine_text.specs.declared.call.Call.TheVariants as call
use Rattle.api_routes.specs.Fault.{and_then}
use Rattle.api_routes.specs.Query.{value_of}
use Rattle.api_routes.specs.Keys.{optional_signal, kill_signal, optional_seconds, or_fault, read_condition}
use Rattle.api_routes.specs.Class.{class_of, or_refusal}
use Rattle.api_routes.specs.RouteClass.{ask}
use Rattle.api_routes.specs.declared.class.Class.TheVariants.{Ask}
use Rattle.api_routes.specs.declared.fault.Fault.TheVariants.{InvalidName, BadCondition, LinksLeftOut}
use Rattle.api_routes.specs.declared.route.Route.TheVariants as to
use Rattle.client_model.specs.declared.manner.Manner.TheVariants.{Closes}
use Rattle.client_model.specs.Requests.{Query, key, key_if, key_set}
use Rattle.client_model.specs.Commands.Start.{start_request}
use Rattle.client_model.specs.Commands.Pause.{pause_request}
use Rattle.client_model.specs.Commands.Unpause.{unpause_request}
use Rattle.client_model.specs.Commands.Stop.{stop_request}
use Rattle.client_model.specs.Commands.Restart.{restart_request}
use Rattle.client_model.specs.Commands.Kill.{kill_request}
use Rattle.client_model.specs.Commands.Remove.{remove_request}
use Rattle.client_model.specs.Commands.Rename.{rename_request}
use Rattle.client_model.specs.Commands.Inspect.{inspect_request}
use Rattle.client_model.specs.Commands.Wait.{wait_request}
use Rattle.client_laws.specs.Classes as class
use Rattle.client_laws.specs.Classes.{Meaning, by_name}
use Rattle.client_laws.proofs.FormLemmas.{form, given, AreTexts, value-read}
use Rattle.client_laws.proofs.RowLemmas.{named-class, start-row, stop-row, restart-row, kill-row, pause-row, unpause-row, rename-row, wait-row, remove-row, inspect-row}

-- ---- queries

-- what a query gives each key
abbrev pub Lookup : Type 0
Lookup = List ℕ → Option (List ℕ)

-- what the daemon finds in a query, and what the client gave in it
abbrev pub found_in : Query → Lookup
found_in query name = value_of name (form query)

abbrev pub given_in : Query → Lookup
given_in query name = given name query

-- they are the same
pub looked-up : (query : Query) → AreTexts query → found_in query ≡ given_in query
looked-up query texts = λ i name. value-read name query texts i

pub literal : (name : List ℕ) → are_ascii name ≡ true → IsUtf8 name
literal name ascii = IsUtf8-are_ascii name ascii

pub key-if-texts : (name : List ℕ) (value : Option (List ℕ)) → are_ascii name ≡ true → IfSome value IsUtf8 → AreTexts (key_if name value)
key-if-texts name None ascii h = tt
key-if-texts name (Some value) ascii h = (literal name ascii, h, tt)

pub key-set-texts : (name : List ℕ) (set : Bool) → are_ascii name ≡ true → AreTexts (key_set name set)
key-set-texts name true ascii = (literal name ascii, literal (codes "1") refl, tt)
key-set-texts name false ascii = tt

-- ---- calls by a name alone

pub start-class : (target : List ℕ) → All IsByte target → class_of (start_request target) ≡ or_refusal (class.start target)
start-class target bytes = named-class (codes "POST") Closes (codes "containers") (codes "start" ∷ []) [] [] to.Start target start-row bytes

pub pause-class : (target : List ℕ) → All IsByte target → class_of (pause_request target) ≡ or_refusal (class.pause target)
pause-class target bytes = named-class (codes "POST") Closes (codes "containers") (codes "pause" ∷ []) [] [] to.Pause target pause-row bytes

pub unpause-class : (target : List ℕ) → All IsByte target → class_of (unpause_request target) ≡ or_refusal (class.unpause target)
unpause-class target bytes = named-class (codes "POST") Closes (codes "containers") (codes "unpause" ∷ []) [] [] to.Unpause target unpause-row bytes

pub inspect-class : (target : List ℕ) → All IsByte target → class_of (inspect_request target) ≡ or_refusal (class.inspect target)
inspect-class target bytes = named-class (codes "GET") Closes (codes "containers") (codes "json" ∷ []) [] [] to.Inspect target inspect-row bytes

-- ---- stop and restart

abbrev stop_by : List ℕ → Lookup → Meaning
stop_by target found =
    ask (and_then (optional_seconds (found (codes "t"))) (λ wait.
    and_then (optional_signal (unwrap_or (found (codes "signal")) [])) (λ signal.
    Ok (call.Stop target wait signal))))

stop-given : (target : List ℕ) (seconds : Option (List ℕ))
    → stop_by target (given_in (key_if (codes "t") seconds)) ≡ ask (and_then (optional_seconds seconds) (λ wait. Ok (call.Stop target wait None)))
stop-given target None = refl
stop-given target (Some seconds) = refl

pub stop-class : (target : List ℕ) (seconds : Option (List ℕ)) → All IsByte target → IfSome seconds IsUtf8
    → class_of (stop_request target seconds) ≡ or_refusal (class.stop target seconds)
stop-class target seconds bytes utf8 =
    let query = key_if (codes "t") seconds in
    named-class (codes "POST") Closes (codes "containers") (codes "stop" ∷ []) query [] to.Stop target stop-row bytes
    ∙ ap (λ found. or_refusal (by_name target (stop_by target found))) (looked-up query (key-if-texts (codes "t") seconds refl utf8))
    ∙ ap (λ asked. or_refusal (by_name target asked)) (stop-given target seconds)

abbrev restart_by : List ℕ → Lookup → Meaning
restart_by target found =
    ask (and_then (optional_seconds (found (codes "t"))) (λ wait.
    and_then (optional_signal (unwrap_or (found (codes "signal")) [])) (λ signal.
    Ok (call.Restart target wait signal))))

restart-given : (target : List ℕ) (seconds : Option (List ℕ))
    → restart_by target (given_in (key_if (codes "t") seconds)) ≡ ask (and_then (optional_seconds seconds) (λ wait. Ok (call.Restart target wait None)))
restart-given target None = refl
restart-given target (Some seconds) = refl

pub restart-class : (target : List ℕ) (seconds : Option (List ℕ)) → All IsByte target → IfSome seconds IsUtf8
    → class_of (restart_request target seconds) ≡ or_refusal (class.restart target seconds)
restart-class target seconds bytes utf8 =
    let query = key_if (codes "t") seconds in
    named-class (codes "POST") Closes (codes "containers") (codes "restart" ∷ []) query [] to.Restart target restart-row bytes
    ∙ ap (λ found. or_refusal (by_name target (restart_by target found))) (looked-up query (key-if-texts (codes "t") seconds refl utf8))
    ∙ ap (λ asked. or_refusal (by_name target asked)) (restart-given target seconds)

-- ---- kill

abbrev kill_by : List ℕ → Lookup → Meaning
kill_by target found =
    ask (and_then (optional_signal (unwrap_or (found (codes "signal")) [])) (λ signal. Ok (call.Kill target (unwrap_or signal kill_signal))))

kill-given : (target : List ℕ) (signal : Option (List ℕ))
    → kill_by target (given_in (key_if (codes "signal") signal))
    ≡ ask (and_then (optional_signal (unwrap_or signal [])) (λ s. Ok (call.Kill target (unwrap_or s kill_signal))))
kill-given target None = refl
kill-given target (Some signal) = refl

pub kill-class : (target : List ℕ) (signal : Option (List ℕ)) → All IsByte target → IfSome signal IsUtf8
    → class_of (kill_request target signal) ≡ or_refusal (class.kill target signal)
kill-class target signal bytes utf8 =
    let query = key_if (codes "signal") signal in
    named-class (codes "POST") Closes (codes "containers") (codes "kill" ∷ []) query [] to.Kill target kill-row bytes
    ∙ ap (λ found. or_refusal (by_name target (kill_by target found))) (looked-up query (key-if-texts (codes "signal") signal refl utf8))
    ∙ ap (λ asked. or_refusal (by_name target asked)) (kill-given target signal)

-- ---- rename

abbrev rename_by : List ℕ → Lookup → Meaning
rename_by target found =
    let name = unwrap_or (found (codes "name")) [] in
    ask (and_then (cond (is_name name) (Ok name) (Err (InvalidName name))) (λ name. Ok (call.Rename target name)))

rename-given : (target name : List ℕ) (b : Bool)
    → ask (and_then (cond b (Ok name) (Err (InvalidName name))) (λ name. Ok (call.Rename target name)))
    ≡ cond b (Ok (Ask (call.Rename target name))) (Err (InvalidName name))
rename-given target name true = refl
rename-given target name false = refl

pub rename-class : (target name : List ℕ) → All IsByte target → IsUtf8 name
    → class_of (rename_request target name) ≡ or_refusal (class.rename target name)
rename-class target name bytes utf8 =
    let query = key (codes "name") name in
    named-class (codes "POST") Closes (codes "containers") (codes "rename" ∷ []) query [] to.Rename target rename-row bytes
    ∙ ap (λ found. or_refusal (by_name target (rename_by target found))) (looked-up query (literal (codes "name") refl, utf8, tt))
    ∙ ap (λ asked. or_refusal (by_name target asked)) (rename-given target name (is_name name))

-- ---- wait

abbrev wait_by : List ℕ → Lookup → Meaning
wait_by target found =
    ask (and_then (or_fault BadCondition (read_condition (unwrap_or (found (codes "condition")) []))) (λ until. Ok (call.Wait target until)))

pub wait-class : (target : List ℕ) → All IsByte target → class_of (wait_request target) ≡ or_refusal (class.wait target)
wait-class target bytes =
    let query = key (codes "condition") (codes "not-running") in
    named-class (codes "POST") Closes (codes "containers") (codes "wait" ∷ []) query [] to.Wait target wait-row bytes
    ∙ ap (λ found. or_refusal (by_name target (wait_by target found)))
    (looked-up query (literal (codes "condition") refl, literal (codes "not-running") refl, tt))

-- ---- remove

abbrev pub is_set : List ℕ → Lookup → Bool
is_set name found = query_bool (unwrap_or (found name) [])

abbrev remove_by : List ℕ → Lookup → Meaning
remove_by target found =
    ask (cond (is_set (codes "link") found) (Err LinksLeftOut) (Ok (call.Remove target (is_set (codes "force") found))))

remove-given : (target : List ℕ) (force : Bool)
    → remove_by target (given_in (key_set (codes "force") force)) ≡ Ok (Ask (call.Remove target force))
remove-given target true = refl
remove-given target false = refl

pub remove-class : (target : List ℕ) (force : Bool) → All IsByte target
    → class_of (remove_request target force) ≡ or_refusal (class.remove target force)
remove-class target force bytes =
    let query = key_set (codes "force") force in
    named-class (codes "DELETE") Closes (codes "containers") [] query [] to.Remove target remove-row bytes
    ∙ ap (λ found. or_refusal (by_name target (remove_by target found))) (looked-up query (key-set-texts (codes "force") force refl))
    ∙ ap (λ asked. or_refusal (by_name target asked)) (remove-given target force)
