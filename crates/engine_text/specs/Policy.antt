-- Restart policies by their names (Docker Engine API v1.43, definition RestartPolicy).
use Rattle.std.specs.Prelude.{ℕ, ℤ, pos, negsuc, Bool, true, false, ◌==◌, nat_le, List, codes, Result, Ok, Err, if◌then◌else◌, ◌||◌}
use Rattle.engine_text.specs.declared.policy.Policy.{Policy}
use Rattle.engine_text.specs.declared.policy.Policy.TheVariants.{No, Always, UnlessStopped, OnFailure}
use Rattle.engine_text.specs.declared.policy.Bad.{Bad}
use Rattle.engine_text.specs.Texts.{same_bytes}

-- the policy that never restarts
abbrev pub is_no : Policy → Bool
is_no No = true
is_no Always = false
is_no UnlessStopped = false
is_no (OnFailure most) = false

-- neither name nor maximum is another
abbrev pub bad : Bad
bad = record {}

-- a maximum is from 0 to 2,147,483,647
abbrev pub on_failure : ℤ → Result Policy Bad
on_failure (pos n) = if nat_le n 2_147_483_647 then Ok (OnFailure n) else Err bad
on_failure (negsuc n) = Err bad

-- the other policies have no maximum, which is 0
abbrev pub without_maximum : Policy → ℤ → Result Policy Bad
without_maximum policy (pos n) = if n == 0 then Ok policy else Err bad
without_maximum policy (negsuc n) = Err bad

-- the policy of that name with that maximum; the empty name is that of `no`
abbrev pub read_policy : List ℕ → ℤ → Result Policy Bad
read_policy name maximum =
    if same_bytes name (codes "on-failure") then on_failure maximum else
    if same_bytes name (codes "always") then without_maximum Always maximum else
    if same_bytes name (codes "unless-stopped") then without_maximum UnlessStopped maximum else
    if same_bytes name (codes "no") || same_bytes name (codes "") then without_maximum No maximum else
    Err bad
