-- The call of a request's class is sound: that of its route is, and where its path has a parameter, that isn't empty.
use Rattle.std.proofs.Common.{◌≢◌, ℕ, List, [], ◌∷◌, refl, subst, IfOk}
use Rattle.std.specs.Prelude.{IsTrue}
use Rattle.http_edge.specs.Message.{Request}
use Rattle.engine_text.specs.Soundness.{IsSound, is_full}
use Rattle.api_routes.specs.Routes.{method_of}
use Rattle.api_routes.specs.Class.{class_of}
use Rattle.api_routes.specs.Laws.{OfItsCall}
use Rattle.api_routes.proofs.ClassLemmas.{class-by}
use Rattle.api_routes.proofs.ParameterLemmas.{name-given}
use Rattle.api_routes.proofs.SoundLemmas.{route-sound}

is-full : (name : List ℕ) → name ≢ [] → IsTrue (is_full name)
is-full [] given = absurd (given refl)
is-full (b ∷ name) given = refl

pub class-sound : (r : Request) → OfItsCall IsSound (class_of r)
class-sound r =
    class-by r (OfItsCall IsSound) (λ fault. tt)
    (λ class read. subst (λ e. IfOk e (OfItsCall IsSound)) read.reads
    (route-sound read.route _ (λ has. is-full read.name (name-given (method_of r.method) read.path read.route read.name has read.fits read.named))))
