-- Sentences about the definitions, so that a slip in one does not check (Docker Engine API v1.43; own where marked there).
use Rattle.std.proofs.Common.{◌≡◌, ℕ, pos, negsuc, List, [], ◌∷◌, true, false, Some, None, Ok, Err, codes, refl}
use Rattle.std.specs.Prelude.{ℕ, replicate, map}
use Rattle.std.specs.Fmt.{digits}
use Rattle.serde_json.specs.Data.{Data, null, boolean, object, array, no_items, no_members, member}
use Rattle.engine_text.specs.declared.mounts.Mount.{Mount}
use Rattle.engine_text.specs.declared.policy.Policy.{Policy}
use Rattle.api_json.specs.Values.{text, natural}
use Rattle.json_laws.specs.Pairs.{words_data}
use Rattle.api_json.specs.Health.{health_in, span_in}
use Rattle.api_json.specs.Update.{given_in, given_policy}
use Rattle.api_json.specs.MountForms.{bind_of, added_mount}
use Rattle.api_json.specs.ExecCreate.{exec_start_in}
use Rattle.api_json.specs.Create.{create_in, seconds_in}
use Rattle.api_json.specs.Filters.{rows_in}
use Rattle.api_json.specs.EventRules.{attributes_fit, is_decimal_below}
use Rattle.api_json.specs.Status.{status_word}
use Rattle.engine_text.specs.declared.status.Status.{Status}
use Rattle.engine_text.specs.declared.pairs.Pair.{Pair}
use Rattle.engine_text.specs.declared.event.Action.{Action}
use Rattle.engine_text.specs.declared.event.EventKind.TheVariants as Kind
use Rattle.engine_text.specs.declared.filter.FilterKey.TheVariants as Filter
use Rattle.api_json.specs.declared.fault.BodyKey.TheVariants as Key
use Rattle.api_json.specs.declared.fault.BodyFault.TheVariants.{BadField, BadMount, TtyLeftOut, BadRestartPolicy}

-- "VOLUME:PATH", "VOLUME:PATH:ro" and "VOLUME:PATH:rw" are binds
plain_bind : bind_of (codes "v1:/d") ≡ Ok (record { volume = codes "v1"; target = codes "/d"; read_only = false })
plain_bind = refl

read_only_bind : bind_of (codes "v1:/d:ro") ≡ Ok (record { volume = codes "v1"; target = codes "/d"; read_only = true })
read_only_bind = refl

writable_bind : bind_of (codes "v1:/d:rw") ≡ Ok (record { volume = codes "v1"; target = codes "/d"; read_only = false })
writable_bind = refl

-- no colon, a third colon, another mode, a path of the host, and a relative path are not
no_colon : bind_of (codes "v1") ≡ Err BadMount
no_colon = refl

third_colon : bind_of (codes "v1:/d:ro:x") ≡ Err BadMount
third_colon = refl

other_mode : bind_of (codes "v1:/d:z") ≡ Err BadMount
other_mode = refl

host_path : bind_of (codes "/etc:/d") ≡ Err BadMount
host_path = refl

relative_path : bind_of (codes "v1:d") ≡ Err BadMount
relative_path = refl

-- a create needs its image alone: it is stopped by SIGTERM after 10 seconds, never restarted, and runs the words of the image
bare_create : create_in None (object (member (codes "Image") (text (codes "i")) no_members)) ≡ Ok (record {
  name = None;
  image = codes "i";
  words = [];
  policy = Policy.No;
  stop_signal = record { number = 15 };
  stop_after = pos 10;
  open_stdin = false;
  stdin_once = false;
  labels = [];
  mounts = [];
  auto_remove = false;
  health = None;
})
bare_create = refl

-- null is as if the field were not there
null_image : create_in None (object (member (codes "Image") null no_members)) ≡ Err (BadField Key.Image)
null_image = refl

-- the image is read before the command, whatever their order in the body
image_first : create_in None (object (member (codes "Cmd") (natural 7) (member (codes "Image") (natural 7) no_members))) ≡ Err (BadField Key.Image)
image_first = refl

-- a terminal is refused before a label of another kind
terminal_first : create_in None (object (member (codes "Image") (text (codes "i")) (member (codes "Labels") (natural 7) (member (codes "Tty") (boolean true) no_members)))) ≡ Err TtyLeftOut
terminal_first = refl

-- -1 means without end, and is the least
least_seconds : seconds_in (Some (negsuc 0)) ≡ Some (negsuc 0)
least_seconds = refl

below_least : seconds_in (Some (negsuc 1)) ≡ None
below_least = refl

most_seconds : seconds_in (Some (pos 2147483)) ≡ Some (pos 2147483)
most_seconds = refl

above_most : seconds_in (Some (pos 2147484)) ≡ None
above_most = refl

-- an exec start asks for nothing by an object without members
bare_start : exec_start_in (object no_members) ≡ Ok false
bare_start = refl

-- the keys of an object with value true are a filter's values
set_form : rows_in (Filter.Name ∷ []) (member (codes "name") (object (member (codes "a") (boolean false) (member (codes "b") (boolean true) no_members))) no_members)
    ≡ Some (record { key = Filter.Name; values = codes "b" ∷ [] } ∷ [])
set_form = refl

-- a key of another call is none
other_call : rows_in (Filter.Name ∷ []) (member (codes "label") (array no_items) no_members) ≡ None
other_call = refl

-- sixteen mounts are taken, and the next is not
abbrev m : Mount
m = record { volume = codes "v1"; target = codes "/d"; read_only = false }

sixteenth : added_mount (replicate 15 m) m ≡ Ok (replicate 16 m)
sixteenth = refl

seventeenth : added_mount (replicate 16 m) m ≡ Err BadMount
seventeenth = refl

-- an exit code has no zero before it, and is at most 255
abbrev died : List ℕ → List Pair
died code =
    record { key = codes "exitCode"; value = code } ∷ record { key = codes "image"; value = codes "i" }
    ∷ record { key = codes "name"; value = codes "n" } ∷ []

greatest_code : attributes_fit Kind.Container Action.Die (died (codes "255")) ≡ true
unfolding is_decimal_below digits
greatest_code = refl

too_great_code : attributes_fit Kind.Container Action.Die (died (codes "256")) ≡ false
unfolding is_decimal_below digits
too_great_code = refl

padded_code : attributes_fit Kind.Container Action.Die (died (codes "07")) ≡ false
unfolding is_decimal_below digits
padded_code = refl

-- a volume is not started
no_start : attributes_fit Kind.Volume Action.Start [] ≡ false
no_start = refl

-- a dead container is dead, and not exited
dead_word : status_word Status.Dead ≡ codes "dead"
dead_word = refl

-- ---- a health check

abbrev with_test : List (List ℕ) → Data
with_test words = object (member (codes "Test") (words_data words) no_members)

-- no texts, or `NONE` alone, mean none
no_test : health_in (with_test []) ≡ Ok None
no_test = refl

test_none : health_in (with_test (codes "NONE" ∷ [])) ≡ Ok None
test_none = refl

-- `CMD` and its words; the times are 30 seconds, and the retries 3
test_words : health_in (with_test (codes "CMD" ∷ codes "flaky" ∷ codes "2" ∷ []))
    ≡ Ok (Some (record { words = codes "flaky" ∷ codes "2" ∷ []; interval = 30000; timeout = 30000; retries = 3; start_period = 0 }))
test_words = refl

-- the words of a shell's text
test_shell : health_in (with_test (codes "CMD-SHELL" ∷ codes "  flaky  2 " ∷ []))
    ≡ Ok (Some (record { words = codes "flaky" ∷ codes "2" ∷ []; interval = 30000; timeout = 30000; retries = 3; start_period = 0 }))
test_shell = refl

-- no words, blanks alone, a second text, another first text
test_empty : health_in (with_test (codes "CMD" ∷ [])) ≡ Err (BadField Key.Test)
test_empty = refl

test_blank : health_in (with_test (codes "CMD-SHELL" ∷ codes " " ∷ [])) ≡ Err (BadField Key.Test)
test_blank = refl

test_two : health_in (with_test (codes "CMD-SHELL" ∷ codes "a" ∷ codes "b" ∷ [])) ≡ Err (BadField Key.Test)
test_two = refl

test_other : health_in (with_test (codes "flaky" ∷ [])) ≡ Err (BadField Key.Test)
test_other = refl

-- a nanosecond too few for a millisecond, the greatest, and one too many
spans : map (λ n. span_in 30000 (pos n)) (0 ∷ 999999 ∷ 1000000 ∷ 1999999 ∷ 3600000000000 ∷ 3600000000001 ∷ [])
    ≡ Some 30000 ∷ None ∷ Some 1 ∷ Some 1 ∷ Some 3600000 ∷ None ∷ []
spans = refl

-- an update gives a policy, or none
update_none : given_in (object no_members) ≡ Ok None
unfolding given_policy
update_none = refl

update_some : given_in (object (member (codes "MaximumRetryCount") (natural 3) (member (codes "Name") (text (codes "on-failure")) no_members))) ≡ Ok (Some (Policy.OnFailure 3))
unfolding given_policy
update_some = refl

-- an empty name with a maximum is refused
update_bad : given_in (object (member (codes "MaximumRetryCount") (natural 3) no_members)) ≡ Err BadRestartPolicy
unfolding given_policy
update_bad = refl
