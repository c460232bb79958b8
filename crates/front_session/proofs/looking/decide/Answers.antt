use Rattle.std.proofs.Common.{refl, sym, ◌∙◌}
use Rattle.front_session.proofs.BytesLemmas.{decided_open, decided_hands, decided_changes, decided_answers, decided_closes}
use Rattle.front_session.proofs.looking.decide.Goals as goal

pub returns-in_default-Answered : goal.returns-in_default-Answered
returns-in_default-Answered c = λ size.
    rw (c.requires.owed, c.clear.ensures, c.treat.ensures.ahead)
    (decided_answers c.args.ahead.now c.args.buffers.now.spans c.args.found c.requires.of.0 c.requires.small c.requires.within c.requires.of.1 _ refl size
    c.in_default-Answered.row c.treat.result.0 (sym c.treat.ensures.treats.1 ∙ c.in_default-Answered.is-1) c.treat.ensures.treats.0)

pub returns-in_default-Closes : goal.returns-in_default-Closes
returns-in_default-Closes c = λ size.
    rw (c.requires.owed, c.clear-in_default-Closes.ensures)
    (decided_closes c.args.ahead.now c.args.buffers.now.spans c.args.found c.requires.of.0 c.requires.small c.requires.within c.requires.of.1 _ refl size
    c.in_default-Closes.row c.treat.result.0 (sym c.treat.ensures.treats.1 ∙ c.in_default-Closes.is-1) c.treat.ensures.treats.0)

pub returns-in_default-HandedOn : goal.returns-in_default-HandedOn
returns-in_default-HandedOn c = λ size.
    rw (c.requires.owed, c.keep.ensures, c.as_slice.ensures, c.treat.ensures.ahead)
    (decided_hands c.args.ahead.now c.args.buffers.now.spans c.args.found c.requires.of.0 c.requires.small c.requires.within c.requires.of.1 _ refl size
    c.in_default-HandedOn.count (sym c.treat.ensures.treats.1 ∙ c.in_default-HandedOn.is-1))

pub returns-in_default-Opens : goal.returns-in_default-Opens
returns-in_default-Opens c = λ size.
    rw (c.requires.owed, c.keep.ensures, c.as_slice.ensures, c.treat.ensures.ahead)
    (decided_open c.args.ahead.now c.args.buffers.now.spans c.args.found c.requires.of.0 c.requires.small c.requires.within c.requires.of.1 _ refl size
    (sym c.treat.ensures.treats.1 ∙ c.in_default-Opens.is-1))

pub returns-in_default-Changed : goal.returns-in_default-Changed
returns-in_default-Changed c = λ size.
    rw (c.requires.owed, c.put_in.ensures, c.keep.ensures, c.as_slice.ensures, c.treat.ensures.ahead)
    (decided_changes c.args.ahead.now c.args.buffers.now.spans c.args.found c.requires.of.0 c.requires.small c.requires.within c.requires.of.1 _ refl size
    c.in_default-Changed.change (sym c.treat.ensures.treats.1 ∙ c.in_default-Changed.is-1))
