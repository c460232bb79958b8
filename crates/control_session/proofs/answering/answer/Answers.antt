use Rattle.std.proofs.Common.{refl, subst, sym}
use Rattle.json_answer.specs.Answer.{json_answer}
use Rattle.lab_control.specs.Telling.{status_of, text_of}
use Rattle.lab_control.specs.declared.telling.Told.TheVariants as T
use Rattle.control_session.specs.Answering.{Answers}
use Rattle.control_session.proofs.answering.answer.Goals as goal

pub returns-in-Moment : goal.returns-in-Moment
returns-in-Moment g c =
    let told = T.Moment c.moment_by-moment.result in
    subst (λ asked. Answers c.args.time asked c.args.terms c.write_told.result (g.K.Sink.takes c.args.sink.now) (g.K.Sink.takes c.write_told.new.sink))
    (sym c.in-Moment.is)
    (json_answer c.args.terms (status_of told) (text_of told), (told, (c.moment_by-moment.result, c.moment_by-moment.ensures, refl), refl), c.write_told.ensures)
