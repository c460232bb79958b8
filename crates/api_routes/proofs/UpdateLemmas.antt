-- What the body of an update gives lies within the bounds of calls.
use Rattle.std.proofs.Common.{ℕ, ℤ, pos, List, [], Bool, true, false, unwrap_or, Option, Some, None, Ok, if◌then◌else◌, refl, IfOk}
use Rattle.std.specs.Prelude.{IsTrue}
use Rattle.serde_json.specs.Data.{Data}
use Rattle.engine_text.specs.Policy.{read_policy}
use Rattle.engine_text.specs.Soundness.{is_policy, if_given}
use Rattle.engine_text.specs.declared.policy.Policy.{Policy}
use Rattle.api_json.specs.Fault.{and_then}
use Rattle.api_json.specs.Fields.{body_of, text_field, whole_field, object_field}
use Rattle.api_json.specs.HostConfig.{policy_or_fault}
use Rattle.api_json.specs.Update.{gives_none, given_policy, given_in, given_if_present, update_in, update_of}
use Rattle.api_json.specs.declared.fault.BodyKey.TheVariants as Key
use Rattle.api_routes.proofs.CreateLemmas.{IsPolicy, policy_read}
use Rattle.api_routes.proofs.WithinLemmas.{goes_on, goes_by}

abbrev pub IsGiven : Option Policy → Type 0
IsGiven policy = IsTrue (if_given is_policy policy)

named_within : (name : List ℕ) (maximum : ℤ) → IfOk (given_policy name maximum) IsGiven
unfolding given_policy
named_within name maximum = by (gives_none name maximum)
  where
    by : (none : Bool) → IfOk (if none then Ok None else and_then (policy_or_fault (read_policy name maximum)) (λ policy. Ok (Some policy))) IsGiven
    by true = refl
    by false = goes_on IsPolicy IsGiven (policy_or_fault (read_policy name maximum)) _ (policy_read name maximum) (λ policy is. is)

object_within : (d : Data) → IfOk (given_in d) IsGiven
object_within d =
    goes_by IsGiven (text_field Key.Name d) _ (λ name.
    goes_by IsGiven (whole_field Key.MaximumRetryCount d) _ (λ maximum.
    named_within (unwrap_or name []) (unwrap_or maximum (pos 0))))

present_within : (o : Option Data) → IfOk (given_if_present o) IsGiven
present_within None = refl
present_within (Some d) = object_within d

pub update_within : (body : List ℕ) → IfOk (update_of body) IsGiven
unfolding update_of
update_within body = goes_by IsGiven (body_of body) update_in (λ d. goes_by IsGiven (object_field Key.RestartPolicy d) given_if_present present_within)
