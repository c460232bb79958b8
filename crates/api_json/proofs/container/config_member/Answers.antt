use Rattle.std.proofs.Common.{option_map, refl, rules, w32}
use Rattle.std.proofs.lemmas.Int.{to_z-of_z}
use Rattle.api_json.specs.Container.{config_rest}
use Rattle.api_json.specs.Views.{container_shown}
use Rattle.api_json.proofs.WrittenLemmas.{lacks_all, lacks_less, lacks_one_less, lacks_none, health_behind}
use Rattle.api_json.proofs.container.config_member.Goals as goal

pub returns : goal.returns
returns c =
    let shown = container_shown c.args.container.now in
    lacks_none c.end_object.ensures
    (lacks_less c.in_ok-flag_member-3.ensures
    (lacks_less c.in_ok-integer_member.ensures
    (lacks_less c.in_ok-text_member-2.ensures
    (lacks_less c.in_ok-flag_member-2.ensures
    (lacks_less c.in_ok-flag_member.ensures
    (lacks_less c.in_ok-pairs_member.ensures
    (lacks_less c.in_ok-text_member.ensures
    (lacks_less c.in_ok-health_member.ensures
    (lacks_less c.in_ok-words_member.ensures
    (lacks_one_less c.in_ok-begin_object.ensures
    (lacks_one_less c.in_ok-key.ensures
    (lacks_all (rw (c.as_slice.ensures, c.as_slice-2.ensures, c.signal_name.ensures, to_z-of_z w32 c.args.container.now.stop_after (search rules), health_behind shown.health (config_rest shown)) refl)))))))))))))
