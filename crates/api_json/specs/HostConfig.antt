-- What a create asks of the host (Docker Engine API v1.43, definitions HostConfig and RestartPolicy; own: AutoRemove excludes a restart policy, and the order of refusals).
use Rattle.std.specs.Prelude.{pos, [], Bool, false, if◌then◌else◌, Option, Some, None, Result, Ok, Err, unwrap_or}
use Rattle.serde_json.specs.Data.{Data}
use Rattle.engine_text.specs.Policy.{read_policy}
use Rattle.engine_text.specs.Soundness.{allows_auto_remove}
use Rattle.engine_text.specs.declared.policy.Policy.{Policy}
use Rattle.engine_text.specs.declared.policy.Policy.TheVariants.{No}
use Rattle.engine_text.specs.declared.policy.Bad.{Bad}
use Rattle.api_json.specs.Fault.{and_then}
use Rattle.api_json.specs.Fields.{text_field, object_field, whole_field, flag}
use Rattle.api_json.specs.MountForms.{mounts_of}
use Rattle.api_json.specs.declared.host_config.Host.{Host}
use Rattle.api_json.specs.declared.fault.BodyKey.TheVariants as Key
use Rattle.api_json.specs.declared.fault.BodyFault.{BodyFault}
use Rattle.api_json.specs.declared.fault.BodyFault.TheVariants.{BadRestartPolicy, AutoRemoveExcludes}

-- a policy that can't be is a bad restart policy
abbrev pub policy_or_fault : Result Policy Bad → Result Policy BodyFault
policy_or_fault (Ok policy) = Ok policy
policy_or_fault (Err bad) = Err BadRestartPolicy

-- the policy of an object: the kinds of its fields, and then the name, empty where absent, and the maximum, 0 where absent
abbrev pub policy_in : Data → Result Policy BodyFault
policy_in d =
    and_then (text_field Key.Name d) (λ name.
    and_then (whole_field Key.MaximumRetryCount d) (λ maximum.
    policy_or_fault (read_policy (unwrap_or name []) (unwrap_or maximum (pos 0)))))

-- the restart policy, `no` where it is absent
abbrev pub policy_if_present : Option Data → Result Policy BodyFault
policy_if_present None = Ok No
policy_if_present (Some d) = policy_in d

-- the restart policy that a host config asks for
abbrev pub policy_of : Data → Result Policy BodyFault
policy_of d = and_then (object_field Key.RestartPolicy d) policy_if_present

-- a container that is removed by itself is never restarted
abbrev pub unless_restarted : Policy → Bool → Result Bool BodyFault
unless_restarted policy auto = if allows_auto_remove policy auto then Ok auto else Err AutoRemoveExcludes

-- whether the container is removed by itself
abbrev pub auto_remove_of : Policy → Data → Result Bool BodyFault
auto_remove_of policy d = and_then (flag Key.AutoRemove d) (unless_restarted policy)

-- the four fields that are read, in their order
abbrev pub host_in : Data → Result Host BodyFault
host_in d =
    and_then (mounts_of d) (λ mounts.
    and_then (policy_of d) (λ policy.
    and_then (auto_remove_of policy d) (λ auto_remove.
    Ok (record { mounts = mounts; policy = policy; auto_remove = auto_remove }))))

-- a create without a host config has no mounts, and is not restarted
abbrev pub host_if_present : Option Data → Result Host BodyFault
host_if_present None = Ok (record { mounts = []; policy = No; auto_remove = false })
host_if_present (Some d) = host_in d

-- what the host config of a create asks for
abbrev pub host_of : Data → Result Host BodyFault
host_of d = and_then (object_field Key.HostConfig d) host_if_present
