use Rattle.std.proofs.Common.{◌≡◌, ◌++◌, flat_map, take}
use Rattle.std.specs.Prelude.{option_map}
use Rattle.lab_networks.specs.Shown.{if_made}
use Rattle.lab_networks.proofs.listing.put_all.Given as goal

-- behind those before, the texts of those that were met
abbrev pub invariant-all : goal.invariant-all
invariant-all l =
    l.texts.items ≡ l.fn.texts.items ++ flat_map (if_made (option_map (λ v. v.now) l.filters)) (take l.made-index l.networks)
