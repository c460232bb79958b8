use Rattle.std.proofs.Common.{rules}
use Rattle.std.specs.Ordering.{nat_cmp}
use Rattle.std.specs.Cmp.Lexicographic.{slice_cmp}
use Rattle.std.proofs.lemmas.Cmp.{nat_list_cmp_total}
use Rattle.std.proofs.lemmas.Fn.{always_returns_same}
use Rattle.engine_text.proofs.PlaceLemmas.{searched}
use Rattle.engine_text.specs.declared.volume.Volume.{Volume}
use Rattle.volume_table.specs.Volumes.{is_named}
use Rattle.volume_table.proofs.OrderLemmas.{same_name, free}
use Rattle.volume_table.proofs.volumes.place_of.Goals as goal

pub returns-clause-found : goal.returns-clause-found
returns-clause-found c =
    let facts = c.binary_search_by.ensures in
    let by_name = facts.position (λ (v : Volume). slice_cmp nat_cmp v.name c.args.name.now) (always_returns_same _ _ _ (λ a r f' called. search rules)) in
    searched (slice_cmp nat_cmp) nat_list_cmp_total (λ (v : Volume). v.name) (is_named c.args.name.now) c.args.name.now
    (λ v. same_name v.name c.args.name.now) c.args.volumes.now c.requires _ facts.bound by_name

pub returns-clause-free : goal.returns-clause-free
returns-clause-free c =
    let facts = c.binary_search_by.ensures in
    let by_name = facts.position (λ (v : Volume). slice_cmp nat_cmp v.name c.args.name.now) (always_returns_same _ _ _ (λ a r f' called. search rules)) in
    free c.args.name.now c.args.volumes.now c.requires _ facts.bound by_name
