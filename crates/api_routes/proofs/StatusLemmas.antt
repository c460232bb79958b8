-- A direct answer has one of four statuses.
use Rattle.std.specs.Prelude.{IsTrue}
use Rattle.std.proofs.Common.{◌≡◌, Bool, true, false, Result, Ok, refl, sym, ap, subst, ◌∙◌}
use Rattle.engine_text.specs.declared.call.Call.{Call}
use Rattle.http_edge.specs.Message.{Request}
use Rattle.api_json.specs.ExecCreate.{exec_start_of}
use Rattle.api_routes.specs.Fault.{status_of}
use Rattle.api_routes.specs.Calls.{of_body}
use Rattle.api_routes.specs.RouteClass.{Asked, route_class, ask, in_chunks, exec_start_class}
use Rattle.api_routes.specs.Class.{class_of}
use Rattle.api_routes.specs.Laws.{is_direct_status}
use Rattle.api_routes.specs.declared.class.Class.{Class}
use Rattle.api_routes.specs.declared.class.Class.TheVariants.{Direct, Ask, Stream}
use Rattle.api_routes.specs.declared.class.DirectAnswer.{DirectAnswer}
use Rattle.api_routes.specs.declared.class.Takeover.{Takeover}
use Rattle.api_routes.specs.declared.class.Takeover.TheVariants as takes
use Rattle.api_routes.specs.declared.fault.Fault.{Fault}
use Rattle.api_routes.specs.declared.fault.Fault.TheVariants as fault
use Rattle.api_routes.specs.declared.route.Route.{Route}
use Rattle.api_routes.specs.declared.route.Route.TheVariants as to
use Rattle.api_routes.proofs.ClassLemmas.{went-on, same-class, class-by}

abbrev read_well : Class → Result Class Fault
read_well class = Ok class

same-answer : (a b : DirectAnswer) → Direct a ≡ Direct b → a ≡ b
same-answer a b h = cc

asks : (c : Call) (a : DirectAnswer) → Ask c ≡ Direct a → ⊥
asks c a h = cc

streams : (c : Call) (t : Takeover) (a : DirectAnswer) → Stream c t ≡ Direct a → ⊥
streams c t a h = cc

never-asks : (c : Call) (a : DirectAnswer) → read_well (Ask c) ≡ read_well (Direct a) → ⊥
never-asks c a h = asks c a (same-class (Ask c) (Direct a) h)

never-streams : (c : Call) (t : Takeover) (a : DirectAnswer) → read_well (Stream c t) ≡ read_well (Direct a) → ⊥
never-streams c t a h = streams c t a (same-class (Stream c t) (Direct a) h)

asked : (e : Result Call Fault) (a : DirectAnswer) → ask e ≡ Ok (Direct a) → ⊥
asked e a h = let w = went-on e (λ c. Ok (Ask c)) (Direct a) h in never-asks w.0 a w.2

chunks : (e : Result Call Fault) (a : DirectAnswer) → in_chunks e ≡ Ok (Direct a) → ⊥
chunks e a h = let w = went-on e (λ c. Ok (Stream c takes.None)) (Direct a) h in never-streams w.0 takes.None a w.2

-- only fixed answers are read
fixed-status : (b a : DirectAnswer) → b.status ≡ 200 → read_well (Direct b) ≡ read_well (Direct a) → IsTrue (is_direct_status a.status)
fixed-status b a e h = subst (λ n. IsTrue (is_direct_status n)) (sym e ∙ ap (λ x. x.status) (same-answer b a (same-class (Direct b) (Direct a) h))) refl

direct-status : (route : Route) (asked-for : Asked) (a : DirectAnswer) → route_class route asked-for ≡ Ok (Direct a) → IsTrue (is_direct_status a.status)
direct-status to.Ping r a h = fixed-status _ a refl h
direct-status to.PingHead r a h = fixed-status _ a refl h
direct-status to.Version r a h = fixed-status _ a refl h
direct-status to.Create r a h = absurd (asked _ a h)
direct-status to.List r a h = absurd (asked _ a h)
direct-status to.Inspect r a h = absurd (never-asks _ a h)
direct-status to.Start r a h = absurd (never-asks _ a h)
direct-status to.Stop r a h = absurd (asked _ a h)
direct-status to.Restart r a h = absurd (asked _ a h)
direct-status to.Kill r a h = absurd (asked _ a h)
direct-status to.Pause r a h = absurd (never-asks _ a h)
direct-status to.Unpause r a h = absurd (never-asks _ a h)
direct-status to.Rename r a h = absurd (asked _ a h)
direct-status to.Update r a h = absurd (asked _ a h)
direct-status to.Wait r a h = absurd (asked _ a h)
direct-status to.Remove r a h = absurd (asked _ a h)
direct-status to.Logs r a h = absurd (chunks _ a h)
direct-status to.Attach r a h = absurd (never-streams _ _ a h)
direct-status to.ExecCreate r a h = absurd (asked _ a h)
direct-status to.ExecStart r a h =
    let w = went-on (of_body (exec_start_of r.body)) (λ detach. Ok (exec_start_class r.name r.upgrade detach)) (Direct a) h in
    absurd (by w.0 (same-class (exec_start_class r.name r.upgrade w.0) (Direct a) w.2))
  where
    by : (detach : Bool) → exec_start_class r.name r.upgrade detach ≡ Direct a → ⊥
    by true e = asks _ a e
    by false e = streams _ _ a e
direct-status to.ExecInspect r a h = absurd (never-asks _ a h)
direct-status to.VolumeList r a h = absurd (asked _ a h)
direct-status to.VolumeCreate r a h = absurd (asked _ a h)
direct-status to.VolumeInspect r a h = absurd (never-asks _ a h)
direct-status to.VolumeRemove r a h = absurd (never-asks _ a h)
direct-status to.Events r a h = absurd (chunks _ a h)
direct-status to.Journal r a h = absurd (never-streams _ _ a h)

-- a fault's status
fault-status : (f : Fault) → IsTrue (is_direct_status (status_of f))
fault-status fault.PageNotFound = refl
fault-status (fault.VersionTooOld v) = refl
fault-status (fault.VersionTooNew v) = refl
fault-status fault.BadPath = refl
fault-status (fault.InvalidName v) = refl
fault-status (fault.InvalidSignal v) = refl
fault-status fault.BadSeconds = refl
fault-status fault.BadLimit = refl
fault-status fault.BadTail = refl
fault-status fault.BadCondition = refl
fault-status fault.BadTime = refl
fault-status fault.NoStream = refl
fault-status fault.LinksLeftOut = refl
fault-status (fault.Body b) = refl

pub class-status : (r : Request) (a : DirectAnswer) → class_of r ≡ Direct a → IsTrue (is_direct_status a.status)
class-status r a =
    class-by r (λ class. class ≡ Direct a → IsTrue (is_direct_status a.status))
    (λ fault h. subst (λ x. IsTrue (is_direct_status x.status)) (same-answer _ a h) (fault-status fault))
    (λ class read h. direct-status read.route _ a (read.reads ∙ ap Ok h))
