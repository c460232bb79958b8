use Rattle.std.proofs.Common.{◌<◌, ◌*◌, ◌^◌, refl, rules, arith}
use Rattle.api_json.proofs.NumberLemmas.{number-decimal}
use Rattle.api_json.proofs.WrittenLemmas.{lacks_all, lacks_one_less, lacks_none}
use Rattle.api_json.proofs.written.nanoseconds_member.Goals as goal

pub number-requires : goal.number-requires
number-requires c =
    let low : c.args.milliseconds < 2 ^ 64 = search rules in
    rw (c.format-text.ensures.text, c.from.ensures) (number-decimal (c.args.milliseconds * 1000000) (omega (arith, low)))

pub returns : goal.returns
returns c = lacks_none c.number.ensures (lacks_one_less c.in_ok-key.ensures (lacks_all (rw (c.format-text.ensures.text, c.from.ensures) refl)))
