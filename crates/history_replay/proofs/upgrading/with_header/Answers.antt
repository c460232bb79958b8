use Rattle.std.proofs.Common.{◌++◌, ◌∙◌, List, ℕ, ap}
use Rattle.std.specs.List.{flat_map}
use Rattle.journal_lines.specs.JournalLines.{header_line, journal_line}
use Rattle.journal_lines.specs.declared.format.Format.TheVariants.{Second}
use Rattle.history_replay.specs.Checking.{charter_of}
use Rattle.history_replay.specs.Upgrading.{AreRewritten}
use Rattle.history_replay.proofs.UpgradeLemmas.{are_lines, with_header}
use Rattle.history_replay.proofs.upgrading.with_header.Goals as goal

pub rewrite_lines-requires : goal.rewrite_lines-requires
rewrite_lines-requires c =
    let given = charter_of c.args.seed c.args.moment in
    are_lines given c.args.text.now c.requires.legal.0 (c.seed_bytes.ensures.long, c.requires.low) c.requires.legal.1 c.requires.first

pub returns : goal.returns
returns c =
    let given = charter_of c.args.seed c.args.moment in
    let text : List ℕ = c.args.text.now in
    let rewritten : AreRewritten text (header_line c.args.seed c.args.moment) c.from_vec.result =
    λ es h is. c.from_vec.ensures ∙ c.in_ok-rewrite_lines.ensures es h is ∙ ap (λ y. y ++ flat_map (journal_line Second) es) c.in_ok-out.ensures in
    with_header given text c.from_vec.result c.requires.legal.0 (c.seed_bytes.ensures.long, c.requires.low) c.seed_bytes.ensures.bytes c.requires.legal.1
    c.requires.first rewritten
