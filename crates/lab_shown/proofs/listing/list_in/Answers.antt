use Rattle.std.proofs.Common.{Some, None}
use Rattle.lab_shown.proofs.ListLemmas.{list_told}
use Rattle.lab_shown.proofs.listing.list_in.Goals as goal

pub returns-in-Some : goal.returns-in-Some
returns-in-Some c =
    list_told c.args.piece.now _ _ c.bracket_in.result (Some c.in-Some.close) c.bracket_in.ensures.place
    c.split_at.ensures.front c.split_at.ensures.back c.in-Some.ensures

pub returns-in-None : goal.returns-in-None
returns-in-None c =
    list_told c.args.piece.now _ _ c.bracket_in.result None c.bracket_in.ensures.place
    c.split_at.ensures.front c.split_at.ensures.back c.in-None.ensures
