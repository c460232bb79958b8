-- What lines behind a header tell: where they are legal the daemon holds the history that they tell, and the text is its journal.
use Rattle.std.proofs.Common.{◌≡◌, ◌+◌, ◌++◌, ℕ, List, [], ◌∷◌, false, length, refl, sym, ap, subst, ◌∙◌, arith, Option, Some, None}
use Rattle.std.specs.Prelude.{IsFalse, unwrap_or}
use Rattle.std.specs.List.{flat_map}
use Rattle.std.specs.Option.{option_map}
use Rattle.engine_text.specs.declared.step.Step.{Step}
use Rattle.machine_model.specs.State.{State}
use Rattle.machine_model.specs.History.{Charter, IsCharter, IsLegal, AreLawful, opening_state, state_after, state_from}
use Rattle.machine_model.proofs.Laws.{consistency_law}
use Rattle.journal_lines.specs.Entries.{entries_from}
use Rattle.journal_lines.specs.JournalLines.{IsHeader, header_line, journal_line}
use Rattle.journal_lines.specs.Line.{BeginsWithHeader}
use Rattle.journal_lines.specs.Verdict.{IsVerdict, IsVerdictFrom, behind_header, BehindHeader}
use Rattle.journal_lines.specs.declared.format.Format.TheVariants.{Second}
use Rattle.journal_lines.specs.declared.verdict.Verdict.{Verdict}
use Rattle.journal_lines.specs.declared.verdict.Verdict.TheVariants.{Legal}
use Rattle.daemon_core.proofs.CountLemmas.{steps_counted}
use Rattle.session_model.specs.Pass.{PassView}
use Rattle.daemon_core.specs.Storing.{charter_of, pass_of}
use Rattle.history_replay.specs.Checking.{IsMade, Tells}
use Rattle.history_replay.specs.Standing.{KeptHistory, Standing, behind}
use Rattle.history_replay.specs.Upgrading.{is_legal}
use Rattle.engine_reboot.specs.Reopening.{standing_of}
use Rattle.engine_reboot.specs.Replaying.{IsRefused, IsWritten}

-- ---- what is kept

abbrev history_in : Charter → Standing → KeptHistory
history_in ch s = unwrap_or s.kept (record { charter = ch; steps = [] })

-- who stands behind steps from an opening on has seen them
pub has_seen : (ch : Charter) (h : List Step) (ch' : Charter) (h' : List Step) → standing_of (pass_of ch' h') ≡ behind (standing_of (pass_of ch [])) h
    → pass_of ch' h' ≡ pass_of ch h
has_seen ch h ch' h' is =
    let same : record { charter = ch'; steps = h' } ≡ record { charter = ch; steps = h } = ap (history_in ch) is in
    ap (λ (k : KeptHistory). pass_of k.charter k.steps) same

-- ---- a legal text

-- said behind a header, whatever is given
pub said_behind : (seed : List ℕ) (opening greatest : ℕ) (lines : List ℕ) (v : Verdict) → IsHeader seed opening
    → IsVerdictFrom Second (opening_state (charter_of seed opening greatest)) 2 lines v
    → (given : Charter) → IsVerdict given (header_line seed opening ++ lines) v
said_behind seed opening greatest lines v header said given =
    (behind_header given seed opening lines, BehindHeader seed opening lines header, said)

pub begins : (seed : List ℕ) (opening : ℕ) (lines : List ℕ) → IsHeader seed opening → BeginsWithHeader (header_line seed opening ++ lines)
begins seed opening lines header = (seed, opening, lines, header, refl)

-- said from where a daemon without history stands
said_from : (ch : Charter) (p : PassView) (lines : List ℕ) (v w : Verdict) → p ≡ pass_of ch [] → IsVerdictFrom Second (standing_of p).state 2 lines v → v ≡ w
    → IsVerdictFrom Second (opening_state ch) 2 lines w
said_from ch p lines v w at said is =
    subst (λ (x : PassView). IsVerdictFrom Second (standing_of x).state 2 lines w) at
    (subst (λ (x : Verdict). IsVerdictFrom Second (standing_of p).state 2 lines x) is said)

pub refused : (seed : List ℕ) (opening greatest : ℕ) (lines : List ℕ) (p : PassView) (v w : Verdict) → IsHeader seed opening
    → p ≡ pass_of (charter_of seed opening greatest) [] → IsVerdictFrom Second (standing_of p).state 2 lines v → v ≡ w → is_legal w ≡ false
    → IsRefused (header_line seed opening ++ lines) w
refused seed opening greatest lines p v w header at said is none = (
  begins seed opening lines header,
  said_behind seed opening greatest lines w header (said_from (charter_of seed opening greatest) p lines v w at said is),
  none,
)

-- the history that the lines tell is written there, and held
written : (seed : List ℕ) (opening greatest : ℕ) (lines : List ℕ) (steps : ℕ) (ch' : Charter) (h' : List Step) → IsHeader seed opening
    → IsVerdictFrom Second (opening_state (charter_of seed opening greatest)) 2 lines (Legal steps)
    → IsMade Second (standing_of (pass_of (charter_of seed opening greatest) [])) lines (standing_of (pass_of ch' h')) (Legal steps)
    → (ch : Charter) × (h : List Step) × IsWritten (header_line seed opening ++ lines) greatest ch h × (pass_of ch' h' ≡ pass_of ch h)
written seed opening greatest lines steps ch' h' header said (h, (lawful, told), at, count) =
    let ch : Charter = charter_of seed opening greatest in
    let legal : IsLegal ch h = ((header.long, header.low), lawful) in
    let made : (state_after ch h).step_count ≡ length h = sym (steps_counted ch h legal) in
    let there : (state_after ch' h').step_count ≡ (state_after ch h).step_count = ap (λ (s : Standing). s.state.step_count) at in
    let all : steps ≡ length h = sym count ∙ there ∙ made in (
      ch,
      h,
      record {
        header = header;
        legal = legal;
        told = ap (λ l. header_line seed opening ++ l) told;
        verdict = said_behind seed opening greatest lines (Legal (length h)) header
            (subst (λ n. IsVerdictFrom Second (opening_state ch) 2 lines (Legal n)) all said);
        most = refl;
      },
      has_seen ch h ch' h' at,
    )

pub written_on : (seed : List ℕ) (opening greatest : ℕ) (lines : List ℕ) (p : PassView) (v : Verdict) (steps : ℕ) (ch' : Charter) (h' : List Step)
    → IsHeader seed opening → p ≡ pass_of (charter_of seed opening greatest) [] → IsVerdictFrom Second (standing_of p).state 2 lines v
    → IsMade Second (standing_of p) lines (standing_of (pass_of ch' h')) v → v ≡ Legal steps
    → (ch : Charter) × (h : List Step) × IsWritten (header_line seed opening ++ lines) greatest ch h × (pass_of ch' h' ≡ pass_of ch h)
written_on seed opening greatest lines p v steps ch' h' header at said made is =
    let ch : Charter = charter_of seed opening greatest in
    written seed opening greatest lines steps ch' h' header (said_from ch p lines v (Legal steps) at said is)
    (subst (λ (x : PassView). IsMade Second (standing_of x) lines (standing_of (pass_of ch' h')) (Legal steps)) at
    (subst (λ (x : Verdict). IsMade Second (standing_of p) lines (standing_of (pass_of ch' h')) x) is made))
