use Rattle.response_reader.proofs.StepLemmas.{why_on, goes_on}
use Rattle.response_reader.proofs.AnswerLemmas.{if_passed, open_running, open_past, passed_on}
use Rattle.response_reader.proofs.reader.ResponseReader.go_on.Goals as goal

pub returns-in_err-begin_piece-clause-says : goal.returns-in_err-begin_piece-clause-says
returns-in_err-begin_piece-clause-says g c =
    passed_on c.from_residual-in_err-begin_piece.result c.in_err-begin_piece.field-0.0 _ _ _ _ _ c.from_residual-in_err-begin_piece.ensures.1
    (why_on c.args.self.now c.end_piece.new.self _ _ c.in_ok-end_piece.ensures.says c.in_err-begin_piece.field-0.0 _ c.in_err-begin_piece.ensures.says)

pub returns-clause-says : goal.returns-clause-says
returns-clause-says g c =
    goes_on c.args.self.now c.end_piece.new.self _ _ c.in_ok-end_piece.ensures.says (open_running _ c.requires.stage) c.give.result _ _ _
    (goes_on c.end_piece.new.self c.begin_piece.new.self _ _ c.in_ok-begin_piece.ensures.says (open_past _ c.in_ok-end_piece.ensures.stage) c.give.result _ _ _ c.give.ensures.says)

pub returns-in_err-begin_piece-clause-stage : goal.returns-in_err-begin_piece-clause-stage
returns-in_err-begin_piece-clause-stage g c = if_passed c.from_residual-in_err-begin_piece.result _ c.from_residual-in_err-begin_piece.ensures.0
