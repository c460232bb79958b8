use Rattle.manual_clock.proofs.sharing.SharedTime.move_by.Goals as goal

pub returns : goal.returns
returns g c = record {
  now = c.deref_mut.result.now.moment;
  within = c.move_by-answer.ensures.within;
  is = c.move_by-answer.ensures.answer;
}
