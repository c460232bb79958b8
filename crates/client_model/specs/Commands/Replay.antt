-- `replay [--upgrade] [--seed HEX] [MOMENT]` (own: the verdict on the journal that standard input gives, of a daemon opened so where no
-- header says it; or that journal in format 2).
use Rattle.std.specs.Prelude.{ℕ, Bool, List, [], ◌∷◌, ◌++◌, codes, decimal, Option, None, option_map, option_and_then, if◌then◌else◌}
use Rattle.engine_line.specs.Lines.{seed_of, moment_in}
use Rattle.engine_text.specs.declared.pairs.Pair.{Pair}
use Rattle.machine_model.specs.History.{Charter}
use Rattle.journal_lines.specs.declared.verdict.Verdict.{Verdict}
use Rattle.journal_lines.specs.declared.verdict.Verdict.TheVariants.{Legal, Illegal, BadLine}
use Rattle.client_model.specs.Judgement.{Judgement}
use Rattle.client_model.specs.Words.{Options, behind_options, has_flag, value_of}
use Rattle.client_model.specs.Plans.{Plan, Ends, Judges, Done, to_out, prints, ends}
use Rattle.client_model.specs.declared.words.Kind.TheVariants.{Flag, Valued}
use Rattle.client_model.specs.declared.command.Command.{Command}
use Rattle.client_model.specs.declared.command.Command.TheVariants as command

abbrev pub replay_options : Options
replay_options = (codes "--upgrade", Flag) ∷ (codes "--seed", Valued) ∷ []

-- HEX and MOMENT as `--seed` and `--clock` of the daemon have them
abbrev pub replay_of : List Pair → List ℕ → Option Command
replay_of given word =
    let upgrade = has_flag (codes "--upgrade") given in
    option_and_then (λ seed. option_map (command.Replay upgrade seed) (moment_in word)) (seed_of (value_of (codes "--seed") given))

-- MOMENT is 0 where none is given
abbrev pub replay_in : List Pair → List (List ℕ) → Option Command
replay_in given [] = replay_of given (codes "0")
replay_in given (word ∷ []) = replay_of given word
replay_in given words = None

abbrev pub read_replay : List (List ℕ) → Option Command
read_replay = behind_options replay_options replay_in

-- the daemon whose journal it is; how many entries it may have isn't asked
abbrev pub opened : List ℕ → ℕ → Charter
opened seed moment = record { seed = seed; opening = moment; greatest = 0 }

-- what is told of a legal journal: its steps, or, in their place, its text in format 2 as it is
abbrev pub legal_plan : Bool → List ℕ → ℕ → Plan
legal_plan upgrade new steps =
    if upgrade then Ends (to_out new) (Done 0) else prints (codes "legal " ++ decimal steps) (ends 0)

-- what is told of a journal, by its verdict
abbrev pub verdict_plan : Bool → List ℕ → Verdict → Plan
verdict_plan upgrade new (Legal steps) = legal_plan upgrade new steps
verdict_plan upgrade new (Illegal line kept found) =
    prints (codes "illegal line " ++ decimal line) (
    prints (codes "kept " ++ kept) (
    prints (codes "found " ++ found) (ends 1)))
verdict_plan upgrade new (BadLine line) = prints (codes "bad line " ++ decimal line) (ends 3)

abbrev pub judgement_plan : Bool → Judgement → Plan
judgement_plan upgrade j = verdict_plan upgrade j.upgrade j.verdict

-- it reads standard input to its end, and tells that
abbrev pub replay_plan : Bool → List ℕ → ℕ → Plan
replay_plan upgrade seed moment = Judges (opened seed moment) (judgement_plan upgrade)
