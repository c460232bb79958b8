use Rattle.std.proofs.Common.{ap, refl}
use Rattle.response_reader.specs.contracts.reader.ResponseReader.{the_view}
use Rattle.response_reader.specs.declared.got.Stage.TheVariants as stage
use Rattle.response_reader.specs.declared.got.Stopped.TheVariants as stop
use Rattle.response_reader.proofs.AnswerLemmas.{follows_by, follows_head, open_by, stops_head, head_taken}
use Rattle.response_reader.proofs.reader.ResponseReader.head.Goals as goal

pub returns-in-Head-clause-says : goal.returns-in-Head-clause-says
returns-in-Head-clause-says g c =
    head_taken c.in-Head.head c.in-Head.len c.begin.result (the_view c.self.inside) c.args.self.now _ _ _ _ c.self.view_is
    (open_by c.self.inside.stage c.in_default.not-Stopped) c.begin.ensures
    c.in-Head.ensures.0 c.in-Head.ensures.1 c.in-Head.ensures.2

pub returns-in-Never-clause-says : goal.returns-in-Never-clause-says
returns-in-Never-clause-says g c =
    stops_head (stop.BadHead 0) c.stop.result (the_view c.self.inside) c.args.self.now c.stop.new.self _ _ c.self.view_is c.stop.ensures.got (ap (λ r. r.stage) c.stop.ensures.stage)
    (open_by c.self.inside.stage c.in_default.not-Stopped) (refl, c.in-Never.ensures)

pub returns-in-CutShort-clause-says : goal.returns-in-CutShort-clause-says
returns-in-CutShort-clause-says g c =
    stops_head stop.CutShort c.stop-in-CutShort.result (the_view c.self.inside) c.args.self.now c.stop-in-CutShort.new.self _ _ c.self.view_is c.stop-in-CutShort.ensures.got (ap (λ r. r.stage) c.stop-in-CutShort.ensures.stage)
    (open_by c.self.inside.stage c.in_default.not-Stopped) c.in-CutShort.ensures

pub returns-in-Failed-clause-says : goal.returns-in-Failed-clause-says
returns-in-Failed-clause-says g c =
    stops_head stop.ReadFault c.stop-in-Failed.result (the_view c.self.inside) c.args.self.now c.stop-in-Failed.new.self _ _ c.self.view_is c.stop-in-Failed.ensures.got (ap (λ r. r.stage) c.stop-in-Failed.ensures.stage)
    (open_by c.self.inside.stage c.in_default.not-Stopped) c.in-Failed.ensures

pub returns-in-Stopped-clause-stage : goal.returns-in-Stopped-clause-stage
returns-in-Stopped-clause-stage g c = follows_by _ c.head_answer.result _ _ c.head_answer.ensures refl c.requires

pub returns-in-Head-clause-stage : goal.returns-in-Head-clause-stage
returns-in-Head-clause-stage g c = follows_head c.in-Head.head c.in-Head.len c.begin.result _ c.begin.new.self c.begin.ensures

pub returns-in-Never-clause-stage : goal.returns-in-Never-clause-stage
returns-in-Never-clause-stage g c = follows_by (stop.BadHead 0) c.stop.result (stage.Stopped (stop.BadHead 0)) _ c.stop.ensures.got (ap (λ r. r.stage) c.stop.ensures.stage) tt

pub returns-in-CutShort-clause-stage : goal.returns-in-CutShort-clause-stage
returns-in-CutShort-clause-stage g c =
    follows_by stop.CutShort c.stop-in-CutShort.result (stage.Stopped stop.CutShort) _ c.stop-in-CutShort.ensures.got (ap (λ r. r.stage) c.stop-in-CutShort.ensures.stage) tt

pub returns-in-Failed-clause-stage : goal.returns-in-Failed-clause-stage
returns-in-Failed-clause-stage g c =
    follows_by stop.ReadFault c.stop-in-Failed.result (stage.Stopped stop.ReadFault) _ c.stop-in-Failed.ensures.got (ap (λ r. r.stage) c.stop-in-Failed.ensures.stage) tt
