use Rattle.std.proofs.Common.{◌≡◌, ◌≤◌, ◌++◌, List, ℕ, length, map, filter, ap, sym, ◌∙◌, arith}
use Rattle.engine_text.specs.declared.exec.Exec.{Exec}
use Rattle.machine_events.specs.Running.{is_alive}
use Rattle.machine_events.proofs.ExecListLemmas.{running_of, few_of}
use Rattle.machine_events.proofs.exec_lists.list_running.Goals as goal

pub loop-x-init : goal.loop-x-init
loop-x-init c =
    let own = c.into_iter-x-iterator.ensures.into_iter_gives ∙ c.of_container-x-items.ensures in
    let many = ap length own in
    let few = few_of c.args.number c.args.execs.now.execs in
    record {
      iterator = (tt, tt);
      items = ap (λ (l : List ℕ). l ++ map (λ (x : Exec). x.number) (filter (is_alive c.args.kernel.now.processes) c.into_iter-x-iterator.result)) c.clear.ensures.items
          ∙ ap (λ (l : List Exec). map (λ (x : Exec). x.number) (filter (is_alive c.args.kernel.now.processes) l)) own
          ∙ ap (map (λ (x : Exec). x.number)) (sym (running_of c.args.number c.args.kernel.now.processes c.args.execs.now.execs));
      few = omega (arith, many, few, c.clear.ensures.len, c.clear.ensures.capacity, c.requires);
      capacity = c.clear.ensures.capacity;
    }
