use Rattle.std.proofs.Common.{refl}
use Rattle.api_json.proofs.WrittenLemmas.{lacks_all, lacks_less, lacks_one_less, lacks_none}
use Rattle.api_json.proofs.container.state_member.Goals as goal

pub returns : goal.returns
returns c =
    lacks_none c.end_object.ensures
    (lacks_less c.in_ok-text_member-2.ensures
    (lacks_less c.in_ok-moment_member-2.ensures
    (lacks_less c.in_ok-flag_member-5.ensures
    (lacks_less c.in_ok-flag_member-4.ensures
    (lacks_less c.in_ok-number_member-2.ensures
    (lacks_less c.in_ok-flag_member-3.ensures
    (lacks_less c.in_ok-flag_member-2.ensures
    (lacks_less c.in_ok-moment_member.ensures
    (lacks_less c.in_ok-number_member.ensures
    (lacks_less c.in_ok-text_member.ensures
    (lacks_less c.in_ok-flag_member.ensures
    (lacks_one_less c.in_ok-begin_object.ensures
    (lacks_one_less c.in_ok-key.ensures
    (lacks_all (rw (c.is_dead.ensures, c.from.ensures, c.is_paused.ensures, c.is_restarting.ensures, c.is_running.ensures, c.status_word.ensures) refl)))))))))))))))
