use Rattle.std.proofs.Common.{◌≡◌, ◌-◌, ◌+◌, length, take, drop, ap, ◌∙◌}
use Rattle.std.proofs.lemmas.List.{take_at}
use Rattle.std.proofs.lemmas.List.Edits.{length-between}
use Rattle.std.proofs.lemmas.Slice.{between_is}
use Rattle.std.specs.List.{between}
use Rattle.http_edge.proofs.fill.shift.Goals as goal

pub returns-clause-moved : goal.returns-clause-moved
returns-clause-moved c =
    let part : length (between c.args.used c.args.len c.args.buffer.now) ≡ c.args.len - c.args.used = length-between c.args.buffer.now c.args.used c.args.len c.requires.len in
    ap (take (c.args.len - c.args.used)) c.copy_within.ensures.after ∙ take_at (between c.args.used c.args.len c.args.buffer.now) (drop (0 + (c.args.len - c.args.used)) c.args.buffer.now) (c.args.len - c.args.used) part ∙ between_is c.args.buffer.now c.args.used c.args.len
