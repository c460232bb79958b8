use Rattle.container_table.proofs.table.Table.reserve_timers.Goals as goal

pub invariant_of-self : goal.invariant_of-self
invariant_of-self c =
    let k = c.self.invariant in record {
      boxed = k.boxed;
      ids = k.ids;
      names = k.names;
      numbers_len = k.numbers_len;
      ids_len = k.ids_len;
      names_len = k.names_len;
      list_room = k.list_room;
      numbers_room = k.numbers_room;
      spare_room = k.spare_room;
      ids_room = k.ids_room;
      names_room = k.names_room;
    }
