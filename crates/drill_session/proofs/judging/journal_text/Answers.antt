use Rattle.std.proofs.Common.{arith, ◌≡◌, ◌⊎◌, inl, inr, ◌++◌, ◌∙◌, ℕ, List, take, drop, subst, sym}
use Rattle.journal_lines.specs.JournalLines.{lines_of}
use Rattle.journal_lines.proofs.LineLemmas.{joined, all_lines as joined_all}
use Rattle.session_model.specs.declared.turned.Part.{Part}
use Rattle.session_model.specs.declared.turned.Part.TheVariants.{Whole, Gone}
use Rattle.daemon_core.specs.JournalTurns.{JournalSays}
use Rattle.daemon_core.specs.Keeping.{history_of}
use Rattle.daemon_core.specs.Passing.{charter}
use Rattle.drill_session.proofs.JournalLemmas.{one_line, all_lines}
use Rattle.drill_session.proofs.judging.journal_text.Goals as goal

pub lines-init : goal.lines-init
lines-init c = (c.new-text.ensures.items, omega arith)

pub lines-preserved : goal.lines-preserved
lines-preserved c =
    let lines = lines_of (charter c.args.daemon.now) (history_of c.args.daemon.now.stored.journal) in
    let n : ℕ = c.lines.number in
    let old : List ℕ = c.lines.text.items in
    let new : List ℕ = c.journal_from.new.out.items in
    let says = (c.in-More.ensures 0).says in (
      subst (λ (m : ℕ). new ≡ joined (take m lines)) (sym says.0)
          (one_line lines n old new c.lines.invariant.0 (subst (λ (m : ℕ). new ≡ old ++ joined (drop n (take m lines))) says.0 says.2)),
      says.1,
    )

pub lines-smaller : goal.lines-smaller
lines-smaller c = let says = (c.in-More.ensures 0).says in omega (arith, says.0, says.1)

pub returns-in-UpToDate : goal.returns-in-UpToDate
returns-in-UpToDate c =
    let lines = lines_of (charter c.args.daemon.now) (history_of c.args.daemon.now.stored.journal) in
    let says = (c.in-UpToDate.ensures 0).says in
    says.1 ∙ all_lines lines c.lines.number c.lines.text.items c.lines.invariant.0 says.0
    ∙ joined_all (charter c.args.daemon.now) (history_of c.args.daemon.now.stored.journal)

-- a part of the journal is never whole, and never gone
pub unreachable-requires : goal.unreachable-requires
unreachable-requires c = go c.journal_from.result (c.journal_from.ensures 0).says c.in-Whole.is
  where
    go : (r : Part) → JournalSays (charter c.args.daemon.now) (history_of c.args.daemon.now.stored.journal) c.lines.number r c.lines.text.items c.journal_from.new.out.items
        → (r ≡ Whole) ⊎ ((next : ℕ) × (first : ℕ) × (r ≡ Gone next first)) → ⊥
    go r says (inl is) = subst (λ (p : Part). JournalSays (charter c.args.daemon.now) (history_of c.args.daemon.now.stored.journal) c.lines.number p c.lines.text.items c.journal_from.new.out.items) is says
    go r says (inr gone) = subst (λ (p : Part). JournalSays (charter c.args.daemon.now) (history_of c.args.daemon.now.stored.journal) c.lines.number p c.lines.text.items c.journal_from.new.out.items) gone.2 says
