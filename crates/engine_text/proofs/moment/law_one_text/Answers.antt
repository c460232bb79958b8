use Rattle.std.proofs.Common.{◌∙◌}
use Rattle.engine_text.proofs.CalendarLemmas.{shown, pinned}
use Rattle.engine_text.proofs.moment.law_one_text.Goals as goal

pub returns : goal.returns
returns c = λ m text h. (pinned m text h, λ e. let (t, nanos, is) = shown m h in (t, nanos, e ∙ is))
