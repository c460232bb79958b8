use Rattle.std.proofs.Common.{refl}
use Rattle.api_json.proofs.WrittenLemmas.{lacks_all, lacks_less, lacks_one_less, lacks_none}
use Rattle.api_json.proofs.event.write_event.Goals as goal

pub returns : goal.returns
returns c =
    lacks_none c.end_object.ensures
    (lacks_less c.in_ok-number_member-2.ensures
    (lacks_less c.in_ok-number_member.ensures
    (lacks_less c.in_ok-text_member-3.ensures
    (lacks_less c.in_ok-text_member-2.ensures
    (lacks_less c.in_ok-actor_member.ensures
    (lacks_less c.in_ok-text_member.ensures
    (lacks_one_less c.in_ok-begin_object.ensures
    (lacks_all (rw (c.action_word.ensures, c.kind_word.ensures) refl)))))))))
