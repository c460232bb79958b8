use Rattle.std.proofs.Common.{refl}
use Rattle.api_json.proofs.WrittenLemmas.{lacks_all, lacks_less, lacks_one_less, lacks_none}
use Rattle.api_json.proofs.event.actor_member.Goals as goal

pub returns : goal.returns
returns c =
    lacks_none c.end_object.ensures
    (lacks_less c.in_ok-text_member.ensures
    (lacks_less c.in_ok-pairs_member.ensures
    (lacks_one_less c.in_ok-begin_object.ensures
    (lacks_one_less c.in_ok-key.ensures
    (lacks_all (rw (c.as_slice.ensures, c.as_str.ensures) refl))))))
