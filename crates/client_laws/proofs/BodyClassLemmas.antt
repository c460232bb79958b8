-- The class of each request with a body.
use Rattle.std.proofs.Common.{◌≡◌, ℕ, Bool, true, List, [], ◌∷◌, All, codes, IsUtf8, Option, Some, None, Result, Ok, Err, refl, ap, ◌∙◌}
use Rattle.std.specs.Prelude.{unwrap_or}
use Rattle.percent_encoding.proofs.PercentLemmas.{IsByte}
use Rattle.serde_json.specs.Written.{compact_text}
use Rattle.json_laws.specs.Pairs.{AreWordsUtf8}
use Rattle.engine_text.specs.declared.call.Call.{Call}
use Rattle.engine_text.specs.declared.call.Call.TheVariants as call
use Rattle.engine_text.specs.declared.call.CreateSpec.{CreateSpec}
use Rattle.api_json.specs.Fault.{and_then as body_then}
use Rattle.api_json.specs.Create.{create_of}
use Rattle.api_json.specs.ExecCreate.{not_empty}
use Rattle.api_json.specs.MountForms.{add_binds}
use Rattle.api_json.specs.VolumeCreate.{volume_named}
use Rattle.api_json.specs.declared.exec_create.ExecSpec.{ExecSpec}
use Rattle.api_json.specs.declared.volume_create.VolumeSpec.{VolumeSpec}
use Rattle.api_json.specs.declared.fault.BodyFault.{BodyFault}
use Rattle.api_routes.specs.Fault.{and_then}
use Rattle.api_routes.specs.Keys.{optional_name}
use Rattle.api_routes.specs.Calls.{of_body}
use Rattle.api_routes.specs.Class.{class_of, or_refusal}
use Rattle.api_routes.specs.RouteClass.{ask}
use Rattle.api_routes.specs.declared.fault.Fault.{Fault}
use Rattle.api_routes.specs.declared.route.Route.TheVariants as to
use Rattle.client_model.specs.declared.manner.Manner.TheVariants.{Closes}
use Rattle.client_model.specs.declared.command.NewContainer.{NewContainer}
use Rattle.client_model.specs.declared.command.Restart.{Restart}
use Rattle.client_model.specs.Requests.{key_if}
use Rattle.client_model.specs.Commands.Container.{container_data, create_request}
use Rattle.client_model.specs.Commands.Exec.{exec_data, exec_create_request}
use Rattle.client_model.specs.Commands.VolumeCreate.{volume_data, volume_create_request}
use Rattle.client_model.specs.Commands.Update.{update_data, update_request}
use Rattle.client_laws.specs.Classes as class
use Rattle.client_laws.specs.Classes.{Meaning, by_name, policy_in, container_spec}
use Rattle.client_laws.proofs.CommandTexts.{IsRestart, IsContainer}
use Rattle.client_laws.proofs.FormLemmas.{given}
use Rattle.client_laws.proofs.RowLemmas.{named-class, worded-class, exec-create-row, update-row}
use Rattle.client_laws.proofs.ClassLemmas.{looked-up, literal, key-if-texts}
use Rattle.client_laws.proofs.BodyLemmas.{volume-read, exec-read, create-read, update-read}

-- what a body says, read a step further
body-then : {A B C : Type 0} (r : Result A BodyFault) (f : A → B) (g : B → Result C Fault)
    → and_then (of_body (body_then r (λ x. Ok (f x)))) g ≡ and_then (of_body r) (λ x. g (f x))
body-then (Ok x) f g = refl
body-then (Err fault) f g = refl

-- ---- volume create

abbrev named_volume : List ℕ → VolumeSpec
named_volume name = record { name = name; labels = [] }

pub volume-create-class : (name : List ℕ) → IsUtf8 name → class_of (volume_create_request name) ≡ or_refusal (class.volume_create name)
volume-create-class name utf8 =
    worded-class (codes "POST") Closes (codes "volumes") (codes "create") [] (compact_text (volume_data name)) to.VolumeCreate refl (literal (codes "create") refl)
    ∙ ap (λ r. or_refusal (ask (and_then (of_body r) (λ volume. Ok (call.VolumeCreate volume.name volume.labels))))) (volume-read name utf8)
    ∙ ap (λ r. or_refusal (ask r)) (body-then (volume_named name) named_volume (λ volume. Ok (call.VolumeCreate volume.name volume.labels)))

-- ---- update

pub update-class : (target : List ℕ) (restart : Restart) → All IsByte target → IsRestart restart
    → class_of (update_request target restart) ≡ or_refusal (class.update target restart)
update-class target restart bytes h =
    named-class (codes "POST") Closes (codes "containers") (codes "update" ∷ []) [] (compact_text (update_data restart)) to.Update target update-row bytes
    ∙ ap (λ r. or_refusal (by_name target (ask (and_then (of_body r) (λ policy. Ok (call.Update target policy)))))) (update-read restart h)

-- ---- exec create

abbrev both_outputs : Bool → List (List ℕ) → ExecSpec
both_outputs input words = record { words = words; stdin = input; out = true; err = true }

pub exec-create-class : (target : List ℕ) (words : List (List ℕ)) (input : Bool) → All IsByte target → AreWordsUtf8 words
    → class_of (exec_create_request target words input) ≡ or_refusal (class.exec_create target words input)
exec-create-class target words input bytes utf8 =
    named-class (codes "POST") Closes (codes "containers") (codes "exec" ∷ []) [] (compact_text (exec_data words input)) to.ExecCreate target exec-create-row bytes
    ∙ ap (λ r. or_refusal (by_name target (ask (and_then (of_body r) (λ exec. Ok (call.ExecCreate target exec.words exec.stdin exec.out exec.err))))))
    (exec-read words input utf8)
    ∙ ap (λ r. or_refusal (by_name target (ask r)))
    (body-then (not_empty words) (both_outputs input) (λ exec. Ok (call.ExecCreate target exec.words exec.stdin exec.out exec.err)))

-- ---- create

-- the name goes in last
abbrev with_name : Option (List ℕ) → CreateSpec → Result Call Fault
with_name name spec = and_then (optional_name (unwrap_or name [])) (λ taken. Ok (call.Create (record spec { name = taken })))

name-given : (name : Option (List ℕ)) → given (codes "name") (key_if (codes "name") name) ≡ name
name-given None = refl
name-given (Some name) = refl

create-told : {A B C : Type 0} (a : Result A BodyFault) (b : Result B BodyFault) (f : A → B → C) (g : C → Result Call Fault)
    → and_then (of_body (body_then a (λ x. body_then b (λ y. Ok (f x y))))) g ≡ and_then (of_body a) (λ x. and_then (of_body b) (λ y. g (f x y)))
create-told (Ok x) (Ok y) f g = refl
create-told (Ok x) (Err fault) f g = refl
create-told (Err fault) b f g = refl

pub create-class : (c : NewContainer) → IsContainer c → class_of (create_request c) ≡ or_refusal (class.create c)
create-class c h =
    let query = key_if (codes "name") c.name in
    let text = compact_text (container_data c) in
    worded-class (codes "POST") Closes (codes "containers") (codes "create") query text to.Create refl (literal (codes "create") refl)
    ∙ ap (λ found. or_refusal (ask (and_then (of_body (create_of None text)) (with_name (found (codes "name"))))))
    (looked-up query (key-if-texts (codes "name") c.name refl h.0))
    ∙ ap (λ name. or_refusal (ask (and_then (of_body (create_of None text)) (with_name name)))) (name-given c.name)
    ∙ ap (λ r. or_refusal (ask (and_then (of_body r) (with_name c.name)))) (create-read c h)
    ∙ ap (λ r. or_refusal (ask r))
    (create-told (add_binds [] c.binds) (policy_in c.restart) (λ mounts policy. container_spec c mounts policy None) (with_name c.name))
