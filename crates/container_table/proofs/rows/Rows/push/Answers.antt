use Rattle.std.proofs.Common.{◌+◌, ◌*◌, ◌<◌, ◌∙◌, [], ◌∷◌, ◌++◌, length, length-append, sym, ap, arith}
use Rattle.container_table.specs.Rows.{joined}
use Rattle.container_table.proofs.RowsLemmas.{next_room, pushed}
use Rattle.container_table.proofs.rows.Rows.push.Goals as goal

pub push_back_reserved-requires : goal.push_back_reserved-requires
push_back_reserved-requires g c =
    let rows = c.self.inside.rows.items in
    let few : c.self.inside.len < 2048 * length rows = omega (arith, c.requires, ap (λ l. length l.items) c.self.view_is, ap (λ l. l.places) c.self.view_is, c.self.invariant.counted, c.self.inside.rows.ok.0) in
    let room = next_room rows c.self.inside.len c.index_mut.result.now c.self.invariant.rows c.self.invariant.counted few c.index_mut.ensures.value in
    omega (arith, room, c.index_mut.result.now.ok)

pub invariant_of-self : goal.invariant_of-self
invariant_of-self g c =
    let rows = c.self.inside.rows.items in
    let few : c.self.inside.len < 2048 * length rows = omega (arith, c.requires, ap (λ l. length l.items) c.self.view_is, ap (λ l. l.places) c.self.view_is, c.self.invariant.counted, c.self.inside.rows.ok.0) in
    let more = pushed rows c.self.inside.len c.index_mut.result.now c.push_back_reserved.new.self c.args.item c.self.invariant.rows c.self.invariant.counted few c.index_mut.ensures.value
    c.push_back_reserved.ensures.items c.push_back_reserved.ensures.capacity in
    record {
      rows = more.0;
      few = c.self.invariant.few;
      counted = ap (λ n. n + 1) c.self.invariant.counted ∙ sym (ap length more.1 ∙ length-append (joined rows) (c.args.item ∷ []));
    }

pub returns-clause-items : goal.returns-clause-items
returns-clause-items g c =
    let rows = c.self.inside.rows.items in
    let few : c.self.inside.len < 2048 * length rows = omega (arith, c.requires, ap (λ l. length l.items) c.self.view_is, ap (λ l. l.places) c.self.view_is, c.self.invariant.counted, c.self.inside.rows.ok.0) in
    let more = pushed rows c.self.inside.len c.index_mut.result.now c.push_back_reserved.new.self c.args.item c.self.invariant.rows c.self.invariant.counted few c.index_mut.ensures.value
    c.push_back_reserved.ensures.items c.push_back_reserved.ensures.capacity in
    more.1 ∙ ap (λ l. l.items ++ c.args.item ∷ []) c.self.view_is
