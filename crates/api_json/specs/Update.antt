-- The body of an update (Docker Engine API v1.43, ContainerUpdate; own: the restart policy alone is read).
use Rattle.std.specs.Prelude.{◌==◌, ℕ, ℤ, pos, negsuc, List, [], ◌∷◌, Bool, false, if◌then◌else◌, Option, Some, None, Result, Ok, unwrap_or}
use Rattle.serde_json.specs.Data.{Data}
use Rattle.engine_text.specs.Policy.{read_policy}
use Rattle.engine_text.specs.declared.policy.Policy.{Policy}
use Rattle.api_json.specs.Fault.{and_then}
use Rattle.api_json.specs.Fields.{body_of, text_field, object_field, whole_field}
use Rattle.api_json.specs.HostConfig.{policy_or_fault}
use Rattle.api_json.specs.declared.fault.BodyKey.TheVariants as Key
use Rattle.api_json.specs.declared.fault.BodyFault.{BodyFault}

-- an empty name with no maximum gives no policy
abbrev pub gives_none : List ℕ → ℤ → Bool
gives_none [] (pos n) = n == 0
gives_none [] (negsuc n) = false
gives_none (c ∷ cs) maximum = false

-- the policy of that name with that maximum, if one is given
unfoldable pub given_policy : List ℕ → ℤ → Result (Option Policy) BodyFault
given_policy name maximum =
    if gives_none name maximum then Ok None
    else and_then (policy_or_fault (read_policy name maximum)) (λ policy. Ok (Some policy))

-- the policy of an object, if it gives one: the kinds of its fields, and then what they mean
abbrev pub given_in : Data → Result (Option Policy) BodyFault
given_in d =
    and_then (text_field Key.Name d) (λ name.
    and_then (whole_field Key.MaximumRetryCount d) (λ maximum.
    given_policy (unwrap_or name []) (unwrap_or maximum (pos 0))))

-- the policy stands where none is given
abbrev pub given_if_present : Option Data → Result (Option Policy) BodyFault
given_if_present None = Ok None
given_if_present (Some d) = given_in d

-- the policy of an update's object
abbrev pub update_in : Data → Result (Option Policy) BodyFault
update_in d = and_then (object_field Key.RestartPolicy d) given_if_present

-- what the body of an update gives, or why it is refused
unfoldable pub update_of : List ℕ → Result (Option Policy) BodyFault
update_of body = and_then (body_of body) update_in
