use Rattle.std.proofs.Common.{refl, subst}
use Rattle.response_reader.specs.Reader.{IsOpen}
use Rattle.response_reader.proofs.AnswerLemmas.{running_in, why_in, open_by, stops_body}
use Rattle.response_reader.proofs.reader.ResponseReader.body.Goals as goal

pub returns-in-Err-clause-says : goal.returns-in-Err-clause-says
returns-in-Err-clause-says g c =
    stops_body c.in-Err.why c.body_answer-in-Err.result c.args.self.now _ c.go_on.new.into _ _ c.body_answer-in-Err.ensures refl
    (subst (λ r. IsOpen r.stage) c.self.view_is (open_by c.self.inside.stage c.in_default.not-Stopped)) c.in-Err.ensures.says

pub returns-in-Ok-clause-stage : goal.returns-in-Ok-clause-stage
returns-in-Ok-clause-stage g c = running_in _ c.in-Ok.ensures.stage

pub returns-in-Err-clause-stage : goal.returns-in-Err-clause-stage
returns-in-Err-clause-stage g c = why_in c.in-Err.why _ _ _ c.in-Err.ensures.says
