use Rattle.std.proofs.Common.{◌<◌, ◌+◌, ◌≡◌, length, length-append, sym, ap, ◌∙◌, arith, ℕ, List}
use Rattle.history_replay.proofs.UpgradeLemmas.{begins, is_line, goes_on, at_end, never_cut}
use Rattle.history_replay.proofs.VerdictLemmas.{first_some, no_text, some_text}
use Rattle.history_replay.proofs.upgrading.rewrite_lines.Goals as goal

pub lines-init : goal.lines-init
lines-init c = begins c.args.text.now c.args.out.now.items c.requires

pub unreachable-requires : goal.unreachable-requires
unreachable-requires c =
    never_cut c.args.text.now c.lines.rest.now c.args.out.now.items c.lines.out.items c.lines.invariant
    (some_text c.lines.rest.now (sym c.is_empty.ensures ∙ c.lines-test.true)) c.in_default.ensures.none

pub rewrite_line-requires : goal.rewrite_line-requires
rewrite_line-requires c =
    is_line c.args.text.now c.lines.rest.now c.args.out.now.items c.lines.out.items c.in-Some.line.now c.in-Some.behind.now c.lines.invariant
    c.in-Some.ensures.line c.in-Some.ensures.whole

pub lines-preserved : goal.lines-preserved
lines-preserved c =
    goes_on c.args.text.now c.lines.rest.now c.args.out.now.items c.lines.out.items c.rewrite_line.new.out.items c.in-Some.line.now c.in-Some.behind.now
    c.lines.invariant c.in-Some.ensures.line c.in-Some.ensures.whole c.in_ok-rewrite_line.ensures

pub lines-smaller : goal.lines-smaller
lines-smaller c =
    let line : List ℕ = c.in-Some.line.now in
    let behind : List ℕ = c.in-Some.behind.now in
    let long : 0 < length line = first_some line c.in-Some.ensures.line in
    let all : length line + length behind ≡ length c.lines.rest.now = sym (length-append line behind) ∙ ap length c.in-Some.ensures.whole in
    omega (arith, long, all)

pub returns : goal.returns
returns c =
    at_end c.args.text.now c.lines.rest.now c.args.out.now.items c.lines.out.items c.lines.invariant
    (no_text c.lines.rest.now (sym c.is_empty.ensures ∙ c.lines-test.false))
