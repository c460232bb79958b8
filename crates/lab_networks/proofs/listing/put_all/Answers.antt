use Rattle.std.proofs.Common.{Bor, ℕ, List, Option}
use Rattle.std.specs.Prelude.{option_map}
use Rattle.lab_networks.specs.Shown.{if_made}
use Rattle.lab_networks.proofs.TextLemmas.{flat_more}
use Rattle.lab_networks.proofs.listing.put_all.Goals as goal

pub all-preserved : goal.all-preserved
all-preserved c =
    let filters : Option (List ℕ) = option_map {T = Bor (List ℕ)} {U = List ℕ} (λ v. v.now) c.args.filters in
    flat_more (if_made filters) c.args.networks.now c.all.made-index c.made-item.result c.args.texts.now.items c.all.texts.items c.put_made.new.texts.items
    c.all-test.true c.made-item.is c.all.invariant c.in_ok-put_made.ensures
