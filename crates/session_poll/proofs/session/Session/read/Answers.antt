use Rattle.std.proofs.Common.{arith, ◌≡◌, ◌≤◌, length, take, true, refl, sym, ◌∙◌, ap, subst}
use Rattle.std.specs.Vec.{with_items}
use Rattle.std.proofs.lemmas.List.{with_items_is}
use Rattle.engine_ports.specs.Source.{ReadSays, SourceGave}
use Rattle.polled_ports.specs.PollSource.{gave_after}
use Rattle.session_poll.specs.Going.{Steps, ports_of}
use Rattle.session_poll.specs.declared.session.Session.{Session}
use Rattle.session_poll.proofs.MoveLemmas.{tired_of_reads}
use Rattle.session_poll.proofs.ReadMoveLemmas.{all_read, bytes_read, source_ended, source_failed, source_waits, still_fits}
use Rattle.session_poll.proofs.ToldLemmas.{tells_same}
use Rattle.session_poll.proofs.session.Session.read.Goals as goal

pub returns-then-budget-eq0-clause-steps : goal.returns-then-budget-eq0-clause-steps
returns-then-budget-eq0-clause-steps g c ch told p u =
    let v = ports_of (g.S.PollSource.gives c.args.source.now) u in
    subst (λ r. Steps ch c.args.self.now.conn told r c.args.self.now c.args.self.now p p v v c.args.budget.now c.args.budget.now) (sym c.yields.ensures.result)
    (tired_of_reads ch c.args.self.now.conn told c.args.self.now p c.args.budget.now v c.if-budget-eq0.true)

pub returns-in-Ready-Bytes-clause-steps : goal.returns-in-Ready-Bytes-clause-steps
returns-in-Ready-Bytes-clause-steps g c ch told p u =
    let v = g.S.PollSource.gives c.args.source.now in
    let v' = g.S.PollSource.gives c.poll_read.new.self in
    let says = subst (λ r. ReadSays r c.poll_read.new.into v.source v'.source × (v'.gave ≡ gave_after r v.gave) × (v'.registered ≡ v.registered))
    c.in-Ready-Bytes.field-0-is c.in-Ready-Bytes.ensures.says in
    let size : length c.poll_read.new.into ≡ length c.args.self.now.piece.items = omega (arith, c.poll_read.auto.into, c.deref_mut.ensures.len, ap length c.deref_mut.ensures.value) in
    let items = with_items_is c.args.self.now.piece c.poll_read.new.into (omega (arith, size, c.args.self.now.piece.ok.0)) in
    let n = c.in-Ready-Bytes.count in
    let x' : Session = record c.args.self.now { piece = with_items c.args.self.now.piece c.poll_read.new.into; from = 0; to = n } in
    let fits : n ≤ length x'.piece.items = omega (arith, says.0.1, ap length items) in
    bytes_read ch c.args.self.now.conn told c.args.self.now p (ports_of v u) (ports_of v' u) c.args.budget.now x' n c.requires.reads c.requires.none c.requires.goes_on
    (omega (arith, c.if-budget-eq0.false)) c.requires.reads refl c.requires.goes_on refl refl fits (ap length items ∙ size)
    (subst (λ l. SourceGave v.source (take n l) v'.source) (sym items) says.0.2) says.1 says.2 refl

pub returns-in-Ready-End-clause-steps : goal.returns-in-Ready-End-clause-steps
returns-in-Ready-End-clause-steps g c ch told p u =
    let v = g.S.PollSource.gives c.args.source.now in
    let v' = g.S.PollSource.gives c.poll_read.new.self in
    let says = subst (λ r. ReadSays r c.poll_read.new.into v.source v'.source × (v'.gave ≡ gave_after r v.gave) × (v'.registered ≡ v.registered))
    c.in-Ready-End.field-0-is c.in-Ready-End.ensures.says in
    let size : length c.poll_read.new.into ≡ length c.args.self.now.piece.items = omega (arith, c.poll_read.auto.into, c.deref_mut.ensures.len, ap length c.deref_mut.ensures.value) in
    let items = with_items_is c.args.self.now.piece c.poll_read.new.into (omega (arith, size, c.args.self.now.piece.ok.0)) in
    let x' : Session = record c.args.self.now { piece = with_items c.args.self.now.piece c.poll_read.new.into; ended = true } in
    source_ended ch c.args.self.now.conn told c.args.self.now p (ports_of v u) (ports_of v' u) c.args.budget.now x' c.requires.reads c.requires.reads refl
    (all_read x' c.requires.none ∙ sym (all_read c.args.self.now c.requires.none))
    (still_fits x'.from x'.to (length c.args.self.now.piece.items) (length x'.piece.items) (ap length items ∙ size) c.requires.piece) says.0.0 says.0.1 says.1 says.2 refl

pub returns-in-Ready-Failed-clause-steps : goal.returns-in-Ready-Failed-clause-steps
returns-in-Ready-Failed-clause-steps g c ch told p u =
    let v = g.S.PollSource.gives c.args.source.now in
    let v' = g.S.PollSource.gives c.poll_read.new.self in
    let says = subst (λ r. ReadSays r c.poll_read.new.into v.source v'.source × (v'.gave ≡ gave_after r v.gave) × (v'.registered ≡ v.registered))
    c.in-Ready-Failed.field-0-is c.in-Ready-Failed.ensures.says in
    source_failed ch c.args.self.now.conn told c.args.self.now p (ports_of v u) (ports_of v' u) c.args.budget.now _ c.requires.reads c.requires.none says.0.0 says.0.1 refl

pub returns-in-Pending-clause-steps : goal.returns-in-Pending-clause-steps
returns-in-Pending-clause-steps g c ch told p u =
    let v = g.S.PollSource.gives c.args.source.now in
    let v' = g.S.PollSource.gives c.poll_read.new.self in
    let says = c.in-Pending.ensures.says in
    let size : length c.poll_read.new.into ≡ length c.args.self.now.piece.items = omega (arith, c.poll_read.auto.into, c.deref_mut.ensures.len, ap length c.deref_mut.ensures.value) in
    let items = with_items_is c.args.self.now.piece c.poll_read.new.into (omega (arith, size, c.args.self.now.piece.ok.0)) in
    let x' : Session = record c.args.self.now { piece = with_items c.args.self.now.piece c.poll_read.new.into } in
    source_waits ch c.args.self.now.conn told c.args.self.now p (ports_of v u) (ports_of v' u) c.args.budget.now x' c.requires.reads c.requires.reads refl refl
    (all_read x' c.requires.none ∙ sym (all_read c.args.self.now c.requires.none))
    (still_fits x'.from x'.to (length c.args.self.now.piece.items) (length x'.piece.items) (ap length items ∙ size) c.requires.piece) c.requires.none says.0 says.1 says.2 refl

pub returns-then-budget-eq0-clause-tells : goal.returns-then-budget-eq0-clause-tells
returns-then-budget-eq0-clause-tells g c = tells_same c.args.self.now.state c.args.budget.now _ refl refl

pub returns-in-Ready-Bytes-clause-tells : goal.returns-in-Ready-Bytes-clause-tells
returns-in-Ready-Bytes-clause-tells g c = tells_same c.args.self.now.state c.args.budget.now _ refl refl

pub returns-in-Ready-End-clause-tells : goal.returns-in-Ready-End-clause-tells
returns-in-Ready-End-clause-tells g c = tells_same c.args.self.now.state c.args.budget.now _ refl refl

pub returns-in-Ready-Failed-clause-tells : goal.returns-in-Ready-Failed-clause-tells
returns-in-Ready-Failed-clause-tells g c = tells_same c.args.self.now.state c.args.budget.now _ refl refl

pub returns-in-Pending-clause-tells : goal.returns-in-Pending-clause-tells
returns-in-Pending-clause-tells g c = tells_same c.args.self.now.state c.args.budget.now _ refl refl
