use Rattle.std.proofs.Common.{refl}
use Rattle.api_json.proofs.WrittenLemmas.{lacks_all, lacks_less, lacks_one_less, lacks_none}
use Rattle.api_json.proofs.list.write_item.Goals as goal

pub returns : goal.returns
returns c =
    lacks_none c.end_object.ensures
    (lacks_less c.in_ok-status_member.ensures
    (lacks_less c.in_ok-text_member-3.ensures
    (lacks_less c.in_ok-empty_list_member.ensures
    (lacks_less c.in_ok-names_member.ensures
    (lacks_less c.in_ok-mounts_member.ensures
    (lacks_less c.in_ok-pairs_member.ensures
    (lacks_less c.in_ok-text_member-2.ensures
    (lacks_less c.in_ok-text_member.ensures
    (lacks_less c.in_ok-number_member.ensures
    (lacks_less c.in_ok-command_member.ensures
    (lacks_one_less c.in_ok-begin_object.ensures
    (lacks_all (rw (c.as_slice.ensures, c.as_str.ensures, c.as_slice-2.ensures, c.as_slice-3.ensures, c.as_str-2.ensures, c.status_word.ensures) refl)))))))))))))
