use Rattle.std.proofs.Common.{refl}
use Rattle.api_json.proofs.WrittenLemmas.{lacks_all, lacks_less, lacks_one_less, lacks_none}
use Rattle.api_json.proofs.container.write_container.Goals as goal

pub returns : goal.returns
returns c =
    lacks_none c.end_object.ensures
    (lacks_less c.in_ok-state_member.ensures
    (lacks_less c.in_ok-number_member.ensures
    (lacks_less c.in_ok-text_member-3.ensures
    (lacks_less c.in_ok-name_member.ensures
    (lacks_less c.in_ok-mounts_member.ensures
    (lacks_less c.in_ok-text_member-2.ensures
    (lacks_less c.in_ok-text_member.ensures
    (lacks_less c.in_ok-host_config_member.ensures
    (lacks_less c.in_ok-moment_member.ensures
    (lacks_less c.in_ok-config_member.ensures
    (lacks_less c.in_ok-words_member.ensures
    (lacks_one_less c.in_ok-begin_object.ensures
    (lacks_all (rw (c.later_words.ensures, c.first_word.ensures, c.as_slice-words.ensures, c.as_slice.ensures) refl))))))))))))))
