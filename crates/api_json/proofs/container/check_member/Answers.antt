use Rattle.std.proofs.Common.{refl}
use Rattle.api_json.proofs.WrittenLemmas.{lacks_all, lacks_less, lacks_one_less, lacks_none}
use Rattle.api_json.proofs.container.check_member.Goals as goal

pub returns : goal.returns
returns c =
    lacks_none c.end_object.ensures
    (lacks_less c.in_ok-nanoseconds_member-3.ensures
    (lacks_less c.in_ok-command_member.ensures
    (lacks_less c.in_ok-nanoseconds_member-2.ensures
    (lacks_less c.in_ok-number_member.ensures
    (lacks_less c.in_ok-nanoseconds_member.ensures
    (lacks_one_less c.in_ok-begin_object.ensures
    (lacks_one_less c.in_ok-key.ensures
    (lacks_all (rw (c.as_slice.ensures, c.from.ensures) refl)))))))))
