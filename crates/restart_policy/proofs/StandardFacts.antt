-- Sentences of the Docker manual, said of the definitions, so that a slip in a definition does not check.
use Rattle.std.proofs.Common.{◌≡◌, ℕ, true, false, refl, ◌∷◌, [], map}
use Rattle.engine_text.specs.declared.policy.Policy.TheVariants.{No, Always, UnlessStopped, OnFailure}
use Rattle.restart_policy.specs.declared.decision.Decision.TheVariants.{Stay, Again}
use Rattle.restart_policy.specs.Decision.{decision, delay_after}

-- "Do not automatically restart the container when it exits. This is the default."
pub no_never_restarts : (code ran count delay : ℕ) → decision No code ran count delay false ≡ Stay
no_never_restarts code ran count delay = refl

-- "Restart only if the container exits with a non-zero exit status."
pub on_failure_after_success : (ran count delay : ℕ) → decision (OnFailure 3) 0 ran count delay false ≡ Stay
on_failure_after_success ran count delay = refl

-- "You can specify the maximum amount of times Docker will try to restart the container .."
pub on_failure_below_its_limit : decision (OnFailure 3) 1 0 2 200 false ≡ Again 400
on_failure_below_its_limit = refl

pub on_failure_at_its_limit : decision (OnFailure 3) 1 0 3 400 false ≡ Stay
on_failure_at_its_limit = refl

-- ".. The default is that Docker will try forever to restart the container."
pub on_failure_without_limit : decision (OnFailure 0) 1 0 1000 100 false ≡ Again 200
on_failure_without_limit = refl

-- "Always restart the container regardless of the exit status."
pub always_after_success : decision Always 0 0 1000 60000 false ≡ Again 60000
always_after_success = refl

pub always_after_failure : decision Always 1 0 1000 60000 false ≡ Again 60000
always_after_failure = refl

-- "An increasing delay (double the previous delay, starting at 100 milliseconds) is added before each restart .."
pub first_delay : (ran : ℕ) → delay_after ran 0 ≡ 100
first_delay ran = refl

-- ".. 100 ms, then 200 ms, 400, 800, 1600, and so on until .. the maximum delay of 1 minute is hit .."
pub delays_double : map (delay_after 0) (100 ∷ 200 ∷ 400 ∷ 800 ∷ 25600 ∷ 51200 ∷ 60000 ∷ [])
    ≡ 200 ∷ 400 ∷ 800 ∷ 1600 ∷ 51200 ∷ 60000 ∷ 60000 ∷ []
delays_double = refl

-- "If a container is successfully restarted (.. runs for at least 10 seconds), the delay is reset to its default value of 100 ms."
pub delay_after_a_lasting_run : decision Always 0 10000 7 12800 false ≡ Again 100
delay_after_a_lasting_run = refl

pub delay_after_a_shorter_run : decision Always 0 9999 7 12800 false ≡ Again 25600
delay_after_a_shorter_run = refl

-- own: after a stop by a user no policy restarts the container.
pub stopped_by_a_user : map (λ p. decision p 1 0 0 0 true) (No ∷ Always ∷ UnlessStopped ∷ OnFailure 0 ∷ [])
    ≡ Stay ∷ Stay ∷ Stay ∷ Stay ∷ []
stopped_by_a_user = refl
