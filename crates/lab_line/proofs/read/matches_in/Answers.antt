use Rattle.std.proofs.Common.{map}
use Rattle.clap.specs.Words.{app_of}
use Rattle.lab_line.proofs.LineLemmas.{faults_by, rows_by}
use Rattle.lab_line.proofs.read.matches_in.Goals as goal

pub returns-clause-fails : goal.returns-clause-fails
returns-clause-fails c =
    faults_by (app_of c.in_ok-line_command.field-0) (map (λ w. w.now) c.args.words.now) c.try_get_matches_from.result
    c.in_ok-line_command.ensures c.try_get_matches_from.ensures.kinds

pub returns-clause-matches : goal.returns-clause-matches
returns-clause-matches c =
    rows_by (app_of c.in_ok-line_command.field-0) (map (λ w. w.now) c.args.words.now) c.try_get_matches_from.result
    c.in_ok-line_command.ensures c.try_get_matches_from.ensures.matches
