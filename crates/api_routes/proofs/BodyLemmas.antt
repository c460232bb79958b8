-- What the bodies of exec creates and volume creates say, and the filters of queries, lie within the bounds of calls.
use Rattle.std.proofs.Common.{ℕ, List, [], ◌∷◌, ◌&&◌, refl, IfOk}
use Rattle.std.specs.Prelude.{IsTrue}
use Rattle.serde_json.specs.Data.{Data}
use Rattle.engine_text.specs.Name.{is_volume_name}
use Rattle.api_json.specs.Fault.{and_then}
use Rattle.api_json.specs.Fields.{body_of, text_field, needed_text, flag, unset_flag}
use Rattle.api_json.specs.Lists.{words_field, labels_of}
use Rattle.api_json.specs.ExecCreate.{not_empty, exec_in, exec_of}
use Rattle.api_json.specs.VolumeCreate.{volume_named, driver_named, volume_in, volume_of}
use Rattle.api_json.specs.declared.exec_create.ExecSpec.{ExecSpec}
use Rattle.api_json.specs.declared.volume_create.VolumeSpec.{VolumeSpec}
use Rattle.api_json.specs.declared.fault.BodyKey.TheVariants as Key
use Rattle.api_json.specs.declared.fault.BodyFault.TheVariants.{TtyLeftOut, BadVolumeName}
use Rattle.engine_text.specs.Soundness.{is_full, are_labels}
use Rattle.api_routes.proofs.RiseLemmas.{IsOrdered, body_ordered}
use Rattle.api_routes.proofs.CreateLemmas.{AreLabels, labels_read}
use Rattle.api_routes.proofs.WithinLemmas.{gives, goes_on, goes_by, by_test, both_true}

-- ---- exec

abbrev AreWords : List (List ℕ) → Type 0
AreWords words = IsTrue (is_full words)

abbrev pub IsExec : ExecSpec → Type 0
IsExec exec = AreWords exec.words

some_words : (words : List (List ℕ)) → IfOk (not_empty words) AreWords
some_words [] = tt
some_words (word ∷ words) = refl

exec_fields : (d : Data) → IfOk (exec_in d) IsExec
exec_fields d =
    goes_on AreWords IsExec (and_then (words_field Key.Cmd d) not_empty) _ (goes_by AreWords (words_field Key.Cmd d) not_empty some_words) (λ words are.
    goes_by IsExec (flag Key.AttachStdin d) _ (λ stdin.
    goes_by IsExec (flag Key.AttachStdout d) _ (λ out.
    goes_by IsExec (flag Key.AttachStderr d) _ (λ err.
    goes_by IsExec (unset_flag TtyLeftOut Key.Tty d) _ (λ tty. are)))))

pub exec_within : (body : List ℕ) → IfOk (exec_of body) IsExec
unfolding exec_of
exec_within body = goes_by IsExec (body_of body) exec_in exec_fields

-- ---- volumes

abbrev IsVolumeName : List ℕ → Type 0
IsVolumeName name = IsTrue (is_volume_name name)

abbrev pub IsVolume : VolumeSpec → Type 0
IsVolume volume = IsTrue (is_volume_name volume.name && are_labels volume.labels)

name_read : (name : List ℕ) → IfOk (volume_named name) IsVolumeName
name_read name = by_test IsVolumeName BadVolumeName (is_volume_name name) name (λ h. h)

volume_fields : (d : Data) → IsOrdered d → IfOk (volume_in d) IsVolume
volume_fields d rises =
    goes_on IsVolumeName IsVolume (and_then (needed_text Key.Name d) volume_named) _ (goes_by IsVolumeName (needed_text Key.Name d) volume_named name_read) (λ name is.
    goes_by IsVolume (and_then (text_field Key.Driver d) driver_named) _ (λ driver.
    goes_on AreLabels IsVolume (labels_of d) _ (labels_read d rises) (λ labels rise. both_true (is_volume_name name) (are_labels labels) is rise)))

pub volume_within : (body : List ℕ) → IfOk (volume_of body) IsVolume
unfolding volume_of
volume_within body = goes_on IsOrdered IsVolume (body_of body) volume_in (gives IsOrdered (body_of body) (body_ordered body)) volume_fields
