-- Sentences about the definitions, each by an example or two.
use Rattle.std.proofs.Common.{◌≡◌, pos, negsuc, true, false, Ok, Err, Some, None, refl}
use Rattle.std.specs.Prelude.{codes}
use Rattle.engine_text.specs.declared.owner.Owner.TheVariants.{Container, Exec}
use Rattle.engine_text.specs.declared.policy.Policy.TheVariants.{No, OnFailure}
use Rattle.engine_text.specs.Name.{is_name, is_volume_name}
use Rattle.engine_text.specs.Owner.{same_owner}
use Rattle.engine_text.specs.Policy.{bad, read_policy}
use Rattle.engine_text.specs.Query.{query_bool}
use Rattle.engine_text.specs.Signal.{signal_of, signal_name, number_named, read_signal}
use Rattle.engine_text.specs.Scripts.{bye_ops, first_length}

-- "/?[a-zA-Z0-9][a-zA-Z0-9_.-]+" (ContainerCreate, the parameter name)
pub two_characters_are_a_name : is_name (codes "/a-") ≡ true
two_characters_are_a_name = refl

pub one_character_is_no_name : is_name (codes "/a") ≡ false
one_character_is_no_name = refl

pub a_name_begins_with_a_letter_or_digit : is_name (codes "_a") ≡ false
a_name_begins_with_a_letter_or_digit = refl

-- a volume's name has no slash
pub a_slash_is_in_no_volume_name : is_volume_name (codes "/ab") ≡ false
a_slash_is_in_no_volume_name = refl

-- a signal is named by its number or by its name, with or without SIG, in any case
pub signal_by_number : read_signal (codes "09") ≡ Some (signal_of 9)
signal_by_number = refl

pub no_signal_32 : read_signal (codes "32") ≡ None
no_signal_32 = refl

pub no_signal_0 : read_signal (codes "0") ≡ None
no_signal_0 = refl

pub signal_by_short_name : read_signal (codes "hup") ≡ Some (signal_of 1)
unfolding number_named
signal_by_short_name = refl

pub signal_by_name_in_any_case : read_signal (codes "SIGkill") ≡ Some (signal_of 9)
unfolding number_named
signal_by_name_in_any_case = refl

pub sig_stands_once : read_signal (codes "SIGSIGKILL") ≡ None
unfolding number_named
sig_stands_once = refl

pub name_of_15 : signal_name 15 ≡ codes "SIGTERM"
unfolding signal_name
name_of_15 = refl

-- false words, in any case and between blanks
pub none_is_false : query_bool (codes " None\t") ≡ false
none_is_false = refl

pub empty_is_false : query_bool (codes "") ≡ false
empty_is_false = refl

pub other_words_are_true : query_bool (codes "off") ≡ true
other_words_are_true = refl

pub blanks_inside_stay : query_bool (codes "n o") ≡ true
blanks_inside_stay = refl

-- "MaximumRetryCount: if on-failure is used, the number of times to retry before giving up" (definition RestartPolicy)
pub on_failure_has_a_maximum : read_policy (codes "on-failure") (pos 5) ≡ Ok (OnFailure 5)
on_failure_has_a_maximum = refl

pub always_has_none : read_policy (codes "always") (pos 1) ≡ Err bad
always_has_none = refl

pub no_maximum_is_negative : read_policy (codes "on-failure") (negsuc 0) ≡ Err bad
no_maximum_is_negative = refl

-- "Empty string means not to restart" (definition RestartPolicy)
pub the_empty_name_is_no : read_policy (codes "") (pos 0) ≡ Ok No
the_empty_name_is_no = refl

-- a container and an exec of one number are two owners
pub owners_are_told_apart : same_owner (Container 1) (Exec 1) ≡ false
owners_are_told_apart = refl

-- the trap sleeps before it writes
pub the_trap_writes_nothing_first : first_length bye_ops ≡ 0
the_trap_writes_nothing_first = refl
