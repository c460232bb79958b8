use Rattle.manual_clock.proofs.sharing.SharedTime.move_to.Goals as goal

pub returns : goal.returns
returns g c = record {
  now = c.deref_mut.result.now.moment;
  within = c.move_to-answer.ensures.within;
  is = c.move_to-answer.ensures.answer;
}
