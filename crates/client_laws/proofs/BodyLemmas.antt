-- What the daemon reads of the client's bodies (RFC 8259; Docker Engine API v1.43, ContainerCreate, ContainerExec, VolumeCreate).
use Rattle.std.proofs.Common.{◌≡◌, ℕ, suc, ◌^◌, Bool, true, false, List, [], cond, codes, IsUtf8, Option, Some, None, Result, Ok, Err, refl, ap, ◌∙◌, arith}
use Rattle.std.specs.Prelude.{pos, unwrap_or, IfSome}
use Rattle.std.proofs.lemmas.Bool.{lt-ltb}
use Rattle.serde_json.specs.Data.{Data, object, Members, no_members}
use Rattle.serde_json.specs.Written.{compact_text}
use Rattle.json_laws.specs.Sound.{IsSound, IsCarried}
use Rattle.json_laws.specs.Pairs.{AreWordsUtf8}
use Rattle.json_laws.proofs.Text.{data_of-compact_text}
use Rattle.json_laws.proofs.Pairs.{words_of-words_items}
use Rattle.json_laws.proofs.Sound.{object-sound, string-sound, ascii-sound, unsigned-sound, boolean-sound, words-sound}
use Rattle.engine_text.specs.Policy.{read_policy}
use Rattle.engine_text.specs.declared.policy.Policy.{Policy}
use Rattle.engine_text.specs.declared.call.CreateSpec.{CreateSpec}
use Rattle.engine_text.specs.declared.mounts.Mount.{Mount}
use Rattle.api_json.specs.Fault.{and_then, or_fault}
use Rattle.api_json.specs.Fields.{body_of, object_or_bad}
use Rattle.api_json.specs.Lists.{words_field}
use Rattle.api_json.specs.Create.{create_of, create_in}
use Rattle.api_json.specs.Create.{words_of as words_in}
use Rattle.api_json.specs.HostConfig.{host_of, policy_of, policy_or_fault}
use Rattle.api_json.specs.HostConfig.{policy_in as policy_read}
use Rattle.api_json.specs.MountForms.{add_binds, mounts_of}
use Rattle.api_json.specs.ExecCreate.{exec_of, exec_in, exec_start_of, not_empty}
use Rattle.api_json.specs.VolumeCreate.{volume_of, volume_in, volume_named}
use Rattle.api_json.specs.Update.{update_of, update_in, given_policy}
use Rattle.api_json.specs.declared.host_config.Host.{Host}
use Rattle.api_json.specs.declared.fault.BodyKey.TheVariants as Key
use Rattle.api_json.specs.declared.fault.BodyFault.{BodyFault}
use Rattle.api_json.specs.declared.fault.BodyFault.TheVariants.{BadField}
use Rattle.client_model.specs.Commands.Container.{container_data, host_data, policy_data, restart_of}
use Rattle.client_model.specs.Commands.Exec.{exec_data}
use Rattle.client_model.specs.Commands.VolumeCreate.{volume_data}
use Rattle.client_model.specs.Commands.Update.{update_data}
use Rattle.client_model.specs.declared.command.NewContainer.{NewContainer}
use Rattle.client_model.specs.declared.command.Restart.{Restart}
use Rattle.client_laws.specs.Classes.{policy_in, container_spec}
use Rattle.client_laws.proofs.CommandTexts.{IsRestart, IsContainer}

-- the members of an object
abbrev inside : Data → Members
inside (object ms) = ms
inside d = no_members

-- the compact text of an object reads back as that object
body-read : (ms : Members) → IsCarried (object ms) → body_of (compact_text (object ms)) ≡ Ok (object ms)
unfolding body_of
body-read ms carried = ap object_or_bad (data_of-compact_text (object ms) carried)

ok-again : {A : Type 0} (r : Result A BodyFault) → and_then r (λ x. Ok x) ≡ r
ok-again (Ok x) = refl
ok-again (Err fault) = refl

-- ---- volume create

volume-carried : (name : List ℕ) → IsUtf8 name → IsCarried (volume_data name)
volume-carried name u = object-sound 126 (inside (volume_data name)) refl (string-sound 126 name u, tt)

pub volume-read : (name : List ℕ) → IsUtf8 name
    → volume_of (compact_text (volume_data name)) ≡ and_then (volume_named name) (λ given. Ok (record { name = given; labels = [] }))
unfolding volume_of
volume-read name u = ap (λ b. and_then b volume_in) (body-read (inside (volume_data name)) (volume-carried name u))

-- ---- exec

exec-carried : (words : List (List ℕ)) (input : Bool) → AreWordsUtf8 words → IsCarried (exec_data words input)
exec-carried words input u =
    object-sound 126 (inside (exec_data words input)) refl (boolean-sound 126 true, (boolean-sound 126 input, (boolean-sound 126 true, (words-sound 125 words u, tt))))

exec-words : (words : List (List ℕ)) (input : Bool) → words_field Key.Cmd (exec_data words input) ≡ Ok words
exec-words words input = ap (or_fault (BadField Key.Cmd)) (words_of-words_items words)

pub exec-read : (words : List (List ℕ)) (input : Bool) → AreWordsUtf8 words
    → exec_of (compact_text (exec_data words input))
    ≡ and_then (not_empty words) (λ given. Ok (record { words = given; stdin = input; out = true; err = true }))
unfolding exec_of
exec-read words input u =
    let spec = λ (r : Result (List (List ℕ)) BodyFault). and_then (and_then r not_empty) (λ given. Ok (record { words = given; stdin = input; out = true; err = true })) in
    ap (λ b. and_then b exec_in) (body-read (inside (exec_data words input)) (exec-carried words input u)) ∙ ap spec (exec-words words input)

-- an exec start without a body isn't detached
pub exec-start-read : exec_start_of [] ≡ Ok false
unfolding exec_start_of
exec-start-read = refl

-- ---- create

abbrev no_restart : Restart
no_restart = restart_of (codes "no") 0

restart-sound : (n : ℕ) (restart : Restart) → IsRestart restart → IsSound (suc n) (policy_data restart)
restart-sound n restart h =
    object-sound n (inside (policy_data restart)) refl (unsigned-sound n restart.most (omega (arith, h.1)), (string-sound n restart.policy h.0, tt))

policy-sound : (restart : Option Restart) → IfSome restart IsRestart → IsSound 125 (policy_data (unwrap_or restart no_restart))
policy-sound None h = object-sound 124 (inside (policy_data no_restart)) refl (unsigned-sound 124 0 (omega arith), (ascii-sound 124 _ refl, tt))
policy-sound (Some restart) h = restart-sound 124 restart h

host-sound : (c : NewContainer) → IsContainer c → IsSound 126 (host_data c)
host-sound c h = object-sound 125 (inside (host_data c)) refl (words-sound 124 c.binds h.2, (policy-sound c.restart h.1, tt))

container-carried : (c : NewContainer) → IsContainer c → IsCarried (container_data c)
container-carried c h =
    object-sound 126 (inside (container_data c)) refl (words-sound 125 c.words h.4, (host-sound c h, (string-sound 126 c.image h.3, (boolean-sound 126 c.input, (boolean-sound 126 c.input, tt)))))

container-words : (c : NewContainer) → words_in (container_data c) ≡ Ok c.words
container-words c = ap (λ o. and_then (or_fault (BadField Key.Cmd) o) (λ command. Ok command)) (words_of-words_items c.words)

host-mounts : (c : NewContainer) → mounts_of (host_data c) ≡ add_binds [] c.binds
host-mounts c =
    ap (λ o. and_then (and_then (or_fault (BadField Key.Binds) o) (add_binds [])) (λ mounts. Ok mounts)) (words_of-words_items c.binds)
    ∙ ok-again (add_binds [] c.binds)

policy-told : (restart : Option Restart) → IfSome restart IsRestart → policy_read (policy_data (unwrap_or restart no_restart)) ≡ policy_in restart
policy-told None h = refl
policy-told (Some restart) h =
    ap (λ b. policy_or_fault (read_policy restart.policy (pos (cond b restart.most 9223372036854775807)))) (lt-ltb restart.most (2 ^ 63) (omega (arith, h.1)))

-- it isn't removed by itself
abbrev told_host : List Mount → Policy → Host
told_host mounts policy = record { mounts = mounts; policy = policy; auto_remove = false }

host-read : (c : NewContainer) → IsContainer c
    → host_of (container_data c) ≡ and_then (add_binds [] c.binds) (λ mounts. and_then (policy_in c.restart) (λ policy. Ok (told_host mounts policy)))
host-read c h =
    let told = λ (ms : Result (List Mount) BodyFault) (p : Result Policy BodyFault). and_then ms (λ mounts. and_then p (λ policy. Ok (told_host mounts policy))) in
    ap (λ ms. told ms (policy_of (host_data c))) (host-mounts c) ∙ ap (told (add_binds [] c.binds)) (policy-told c.restart h.1)

both-told : {A B C D : Type 0} (a : Result A BodyFault) (b : Result B BodyFault) (f : A → B → C) (g : C → D)
    → and_then (and_then a (λ x. and_then b (λ y. Ok (f x y)))) (λ z. Ok (g z)) ≡ and_then a (λ x. and_then b (λ y. Ok (g (f x y))))
both-told (Ok x) (Ok y) f g = refl
both-told (Ok x) (Err fault) f g = refl
both-told (Err fault) b f g = refl

abbrev with_words : NewContainer → List (List ℕ) → Host → CreateSpec
with_words c words host = record (container_spec c host.mounts host.policy None) { words = words; auto_remove = host.auto_remove }

pub create-read : (c : NewContainer) → IsContainer c
    → create_of None (compact_text (container_data c))
    ≡ and_then (add_binds [] c.binds) (λ mounts. and_then (policy_in c.restart) (λ policy. Ok (container_spec c mounts policy None)))
unfolding create_of
create-read c h =
    let d = container_data c in
    ap (λ b. and_then b (create_in None)) (body-read (inside (container_data c)) (container-carried c h))
    ∙ ap (λ ws. and_then ws (λ words. and_then (host_of d) (λ host. Ok (with_words c words host)))) (container-words c)
    ∙ ap (λ r. and_then r (λ host. Ok (with_words c c.words host))) (host-read c h)
    ∙ both-told (add_binds [] c.binds) (policy_in c.restart) told_host (with_words c c.words)

-- ---- update

update-carried : (restart : Restart) → IsRestart restart → IsCarried (update_data restart)
update-carried restart h = object-sound 126 (inside (update_data restart)) refl (restart-sound 125 restart h, tt)

pub update-read : (restart : Restart) → IsRestart restart
    → update_of (compact_text (update_data restart)) ≡ given_policy restart.policy (pos restart.most)
unfolding update_of
update-read restart h =
    ap (λ b. and_then b update_in) (body-read (inside (update_data restart)) (update-carried restart h))
    ∙ ap (λ b. given_policy restart.policy (pos (cond b restart.most 9223372036854775807))) (lt-ltb restart.most (2 ^ 63) (omega (arith, h.1)))
