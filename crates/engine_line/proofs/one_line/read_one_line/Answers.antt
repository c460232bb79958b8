use Rattle.std.proofs.Common.{sym, ◌∙◌}
use Rattle.engine_line.proofs.OneLineLemmas.{is_line, no_line}
use Rattle.engine_line.proofs.one_line.read_one_line.Goals as goal

pub returns-then-not-is_empty : goal.returns-then-not-is_empty
returns-then-not-is_empty c =
    no_line c.args.words.now c.addr-item.result c.option_next.result.1.now c.option_next-2.result.1.now c.option_next-3.result.1.now c.option_next-4.result.1.now
    c.flag_next-reboot.result.1.now _ _ _ _ c.flag_next-reboot.result.0
    c.in-len1-up.len_at_least c.addr-item.is c.option_next.ensures.value c.option_next.ensures.rest c.option_next-2.ensures.value c.option_next-2.ensures.rest
    c.option_next-3.ensures.value c.option_next-3.ensures.rest c.option_next-4.ensures.value c.option_next-4.ensures.rest c.flag_next-reboot.ensures.flag c.flag_next-reboot.ensures.rest
    (sym c.is_empty.ensures ∙ c.if-not-is_empty.true)

pub returns : goal.returns
returns c =
    is_line c.args.words.now c.addr-item.result c.option_next.result.1.now c.option_next-2.result.1.now c.option_next-3.result.1.now c.option_next-4.result.1.now
    c.flag_next-reboot.result.1.now _ _ _ _ c.flag_next-reboot.result.0
    c.in-len1-up.len_at_least c.addr-item.is c.option_next.ensures.value c.option_next.ensures.rest c.option_next-2.ensures.value c.option_next-2.ensures.rest
    c.option_next-3.ensures.value c.option_next-3.ensures.rest c.option_next-4.ensures.value c.option_next-4.ensures.rest c.flag_next-reboot.ensures.flag c.flag_next-reboot.ensures.rest
    (sym c.is_empty.ensures ∙ c.if-not-is_empty.false)
    _ c.as_str.ensures _ c.line_with.ensures
