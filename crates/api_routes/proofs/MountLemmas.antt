-- The mounts that a create asks for are 16 at most, each of a volume's name at a path.
use Rattle.std.proofs.Common.{◌<◌, ◌≤◌, ℕ, List, [], ◌∷◌, ◌++◌, length, length-append, Bool, true, false, ◌&&◌, nat_le, nat_lt, codes, cond, Option, Some, None, Err, refl, ◌∙◌, arith, IfOk}
use Rattle.std.specs.Prelude.{IsTrue}
use Rattle.std.specs.List.{list_all}
use Rattle.std.proofs.lemmas.Bool.Decides.{nat_tests}
use Rattle.std.proofs.lemmas.Bool.{and_parts}
use Rattle.std.proofs.lemmas.List.Folds.{list_all-append}
use Rattle.serde_json.specs.Data.{Data, Items, no_items, item}
use Rattle.serde_json.specs.Find.{as_array, as_object}
use Rattle.engine_text.specs.Name.{is_volume_name}
use Rattle.engine_text.specs.Texts.{same_bytes}
use Rattle.engine_text.specs.declared.mounts.Mount.{Mount}
use Rattle.api_json.specs.Fault.{and_then, or_fault}
use Rattle.api_json.specs.Fields.{field, text_field, flag}
use Rattle.api_json.specs.Lists.{texts_field}
use Rattle.engine_text.specs.Mounts.{is_path}
use Rattle.api_json.specs.MountForms.{mount_of, mode_of, split_colon, path_and_mode, volume_and_path, bind_of, told_mount, mount_fields, mount_in, added_mount, add_binds, add_mounts, add_mounts_field, mounts_of}
use Rattle.api_json.specs.declared.fault.BodyKey.TheVariants as Key
use Rattle.api_json.specs.declared.fault.BodyFault.TheVariants.{BadField, BadMount}
use Rattle.engine_text.specs.Soundness.{is_mount, are_mounts}
use Rattle.api_routes.proofs.WithinLemmas.{goes_on, goes_by, by_test, both_true}

abbrev IsMount : Mount → Type 0
IsMount m = IsTrue (is_mount m)

abbrev pub AreMounts : List Mount → Type 0
AreMounts ms = IsTrue (are_mounts ms)

-- ---- one mount

volume_at : (volume target : List ℕ) (read_only : Bool) → IfOk (mount_of volume target read_only) IsMount
volume_at volume target read_only =
    by_test IsMount BadMount (is_volume_name volume && is_path target) (record { volume = volume; target = target; read_only = read_only }) (λ h. h)

with_mode : (volume path : List ℕ) (o : Option (List ℕ × List ℕ)) → IfOk (path_and_mode volume path o) IsMount
with_mode volume path None = volume_at volume path false
with_mode volume path (Some parts) = goes_by IsMount (mode_of parts.1) (mount_of volume parts.0) (λ mode. volume_at volume parts.0 mode)

split_bind : (o : Option (List ℕ × List ℕ)) → IfOk (volume_and_path o) IsMount
split_bind None = tt
split_bind (Some parts) = with_mode parts.0 parts.1 (split_colon parts.1)

bind_read : (text : List ℕ) → IfOk (bind_of text) IsMount
bind_read text = split_bind (split_colon text)

if_volume : (b : Bool) (source target : List ℕ) (read_only : Bool)
    → IfOk (cond b (mount_of source target read_only) (Err BadMount)) IsMount
if_volume true source target read_only = volume_at source target read_only
if_volume false source target read_only = tt

told_read : (kind source target : Option (List ℕ)) (read_only : Bool) → IfOk (told_mount kind source target read_only) IsMount
told_read (Some kind) (Some source) (Some target) read_only = if_volume (same_bytes kind (codes "volume")) source target read_only
told_read None source target read_only = tt
told_read (Some kind) None target read_only = tt
told_read (Some kind) (Some source) None read_only = tt

fields_read : (d : Data) → IfOk (mount_fields d) IsMount
fields_read d =
    goes_by IsMount (text_field Key.Type d) _ (λ kind.
    goes_by IsMount (text_field Key.Source d) _ (λ source.
    goes_by IsMount (text_field Key.Target d) _ (λ target.
    goes_by IsMount (flag Key.ReadOnly d) _ (λ read_only.
    told_read kind source target read_only))))

mount_read : (d : Data) → IfOk (mount_in d) IsMount
mount_read d = goes_by IsMount (or_fault (BadField Key.Mounts) (as_object d)) (λ members. mount_fields d) (λ members. fields_read d)

-- ---- all mounts

one_more : (ms : List Mount) (m : Mount) → AreMounts ms → IsMount m → length ms < 16 → AreMounts (ms ++ m ∷ [])
one_more ms m are is few =
    let parts = and_parts (nat_le (length ms) 16) (list_all is_mount ms) are in
    let count : length (ms ++ m ∷ []) ≤ 16 = omega (arith, length-append ms (m ∷ [])) in
    both_true (nat_le (length (ms ++ m ∷ [])) 16) (list_all is_mount (ms ++ m ∷ [])) (grind (arith, nat_tests))
    (list_all-append is_mount ms (m ∷ []) ∙ both_true (list_all is_mount ms) (list_all is_mount (m ∷ [])) parts.1
    (both_true (is_mount m) true is refl))

added : (ms : List Mount) → AreMounts ms → (m : Mount) → IsMount m → IfOk (added_mount ms m) AreMounts
added ms are m is = by_test AreMounts BadMount (nat_lt (length ms) 16) (ms ++ m ∷ []) (λ few. one_more ms m are is (grind (arith, nat_tests)))

binds_read : (texts : List (List ℕ)) (ms : List Mount) → AreMounts ms → IfOk (add_binds ms texts) AreMounts
binds_read [] ms are = are
binds_read (text ∷ texts) ms are =
    goes_on AreMounts AreMounts (and_then (bind_of text) (added_mount ms)) (λ more. add_binds more texts)
    (goes_on IsMount AreMounts (bind_of text) (added_mount ms) (bind_read text) (λ m is. added ms are m is))
    (λ more h. binds_read texts more h)

items_read : (ds : Items) (ms : List Mount) → AreMounts ms → IfOk (add_mounts ms ds) AreMounts
items_read no_items ms are = are
items_read (item d ds) ms are =
    goes_on AreMounts AreMounts (and_then (mount_in d) (added_mount ms)) (λ more. add_mounts more ds)
    (goes_on IsMount AreMounts (mount_in d) (added_mount ms) (mount_read d) (λ m is. added ms are m is))
    (λ more h. items_read ds more h)

field_read : (o : Option Data) (ms : List Mount) → AreMounts ms → IfOk (add_mounts_field ms o) AreMounts
field_read None ms are = are
field_read (Some d) ms are = goes_by AreMounts (or_fault (BadField Key.Mounts) (as_array d)) (add_mounts ms) (λ ds. items_read ds ms are)

pub mounts_read : (d : Data) → IfOk (mounts_of d) AreMounts
mounts_read d =
    goes_on AreMounts AreMounts (and_then (texts_field Key.Binds d) (add_binds [])) (λ ms. add_mounts_field ms (field Key.Mounts d))
    (goes_by AreMounts (texts_field Key.Binds d) (add_binds []) (λ texts. binds_read texts [] refl))
    (λ ms h. field_read (field Key.Mounts d) ms h)
