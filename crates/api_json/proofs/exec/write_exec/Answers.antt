use Rattle.std.proofs.Common.{refl}
use Rattle.api_json.proofs.WrittenLemmas.{lacks_all, lacks_less, lacks_one_less, lacks_none}
use Rattle.api_json.proofs.exec.write_exec.Goals as goal

pub returns : goal.returns
returns c =
    lacks_none c.end_object.ensures
    (lacks_less c.in_ok-flag_member-5.ensures
    (lacks_less c.in_ok-process_member.ensures
    (lacks_less c.in_ok-number_member.ensures
    (lacks_less c.in_ok-flag_member-4.ensures
    (lacks_less c.in_ok-flag_member-3.ensures
    (lacks_less c.in_ok-flag_member-2.ensures
    (lacks_less c.in_ok-text_member-3.ensures
    (lacks_less c.in_ok-code_member.ensures
    (lacks_less c.in_ok-text_member-2.ensures
    (lacks_less c.in_ok-text_member.ensures
    (lacks_less c.in_ok-flag_member.ensures
    (lacks_one_less c.in_ok-begin_object.ensures
    (lacks_all (rw c.as_slice.ensures refl))))))))))))))
