use Rattle.std.proofs.Common.{◌≡◌, subst, true, false}
use Rattle.http_edge.specs.Reader.{request_of}
use Rattle.api_routes.specs.Class.{class_of}
use Rattle.api_routes.specs.declared.class.Class.TheVariants.{Stream}
use Rattle.exchange_laws.proofs.ClassLemmas.{attaching_kind, streamed_kind}
use Rattle.engine_serve.proofs.exchange.answer_stream.Goals as goal

pub stream-requires-clause-class : goal.stream-requires-clause-class
stream-requires-clause-class g c κs within = subst (λ t. class_of (request_of c.args.request.now) ≡ Stream c.args.call.now t) c.in-None.is c.requires.class

pub stream-requires-clause-streamed : goal.stream-requires-clause-streamed
stream-requires-clause-streamed g c κs within =
    streamed_kind (request_of c.args.request.now) c.args.call.now
    (subst (λ t. class_of (request_of c.args.request.now) ≡ Stream c.args.call.now t) c.in-None.is c.requires.class)

pub open-requires-clause-class : goal.open-requires-clause-class
open-requires-clause-class g c κs within = subst (λ t. class_of (request_of c.args.request.now) ≡ Stream c.args.call.now t) c.in-Plain.is c.requires.class

pub open-requires-clause-attaching : goal.open-requires-clause-attaching
open-requires-clause-attaching g c κs within =
    attaching_kind (request_of c.args.request.now) c.args.call.now false
    (subst (λ t. class_of (request_of c.args.request.now) ≡ Stream c.args.call.now t) c.in-Plain.is c.requires.class)

pub open-requires-in-Upgrade-clause-class : goal.open-requires-in-Upgrade-clause-class
open-requires-in-Upgrade-clause-class g c κs within =
    subst (λ t. class_of (request_of c.args.request.now) ≡ Stream c.args.call.now t) c.in-Upgrade.is c.requires.class

pub open-requires-in-Upgrade-clause-attaching : goal.open-requires-in-Upgrade-clause-attaching
open-requires-in-Upgrade-clause-attaching g c κs within =
    attaching_kind (request_of c.args.request.now) c.args.call.now true
    (subst (λ t. class_of (request_of c.args.request.now) ≡ Stream c.args.call.now t) c.in-Upgrade.is c.requires.class)
