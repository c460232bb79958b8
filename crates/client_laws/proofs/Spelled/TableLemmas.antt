-- Short lines ask only what is spelled by its bytes.
use Rattle.std.proofs.Common.{◌≡◌, ℕ, ◌+◌, ◌≤◌, List, [], ◌∷◌, length, Option, Some, None, refl, ap, ◌∙◌, arith}
use Rattle.std.specs.Prelude.{⊤, sum_by, find, option_map}
use Rattle.std.specs.Option.{IfSome, option_map_or}
use Rattle.std.proofs.lemmas.Bool.{cond_both}
use Rattle.std.proofs.lemmas.List.Sums.{sum_by-cons}
use Rattle.std.proofs.lemmas.Option.{IfSome_then}
use Rattle.engine_text.specs.Texts.{same_bytes}
use Rattle.engine_line.specs.Lines.{port_in}
use Rattle.client_model.specs.declared.command.Line.{Line}
use Rattle.client_model.specs.declared.fault.Fault.TheVariants as F
use Rattle.client_model.specs.Plans.{fails}
use Rattle.client_model.specs.Lines.{Table, read_by, volume_commands, commands, line_of, line_with}
use Rattle.client_model.specs.Client.{plan_of, plan_for}
use Rattle.client_laws.specs.Spelled.{RequestsAreSpelled}
use Rattle.client_laws.proofs.Spelled.SizeLemmas.{words_size}
use Rattle.client_laws.proofs.Spelled.WordLemmas.{IfSome-map, IfSome-and_then, IfSome-each}
use Rattle.client_laws.proofs.Spelled.PlanLemmas.{AsksSpelled, all_spelled}
use Rattle.client_laws.proofs.Spelled.CommandLemmas.{Fit, IsFit, starts, pauses, unpauses, stops, restarts, kills, removes_one, renames, updates, lists, inspects, versions, logs, attaches, waits, events, watches, volume_creates, volume_inspects, volume_removes, volume_lists, journals, replays}
use Rattle.client_laws.proofs.Spelled.CreatedLemmas.{creates, runs, execs}
use Rattle.client_laws.proofs.Spelled.HealthLemmas.{healths}

-- ---- the table

AreFit : Table → Type 0
AreFit [] = ⊤
AreFit (row ∷ rows) = IsFit row.1 × AreFit rows

found : (name : List ℕ) (table : Table) → AreFit table → IfSome (find (λ row. same_bytes name row.0) table) (λ row. IsFit row.1)
unfolding AreFit
found name [] are = tt
found name (row ∷ rows) are =
    cond_both (same_bytes name row.0) (Some row) (find (λ row. same_bytes name row.0) rows) (λ o. IfSome o (λ row. IsFit row.1))
    (λ same. are.0) (λ other. found name rows are.1)

by_table : (table : Table) → AreFit table → IsFit (read_by table)
by_table table are [] short = tt
by_table table are (name ∷ words) short =
    let row = find (λ row. same_bytes name row.0) table in
    IfSome-and_then Fit (λ row. row.1 words) row (IfSome_then row (found name table are) (λ row fit. fit words (omega arith)))

volume_rows : AreFit volume_commands
unfolding AreFit
volume_rows = (volume_creates, (volume_inspects, (volume_removes, (volume_lists, tt))))

rows : AreFit commands
unfolding AreFit
rows = (
  creates,
  (
    runs,
    (
      starts,
      (
        pauses,
        (
          unpauses,
          (
            stops,
            (
              restarts,
              (
                kills,
                (
                  removes_one,
                  (
                    renames,
                    (
                      updates,
                      (
                        lists,
                        (
                          inspects,
                          (
                            versions,
                            (
                              logs,
                              (
                                attaches,
                                (execs, (waits, (events, (watches, (healths, (by_table volume_commands volume_rows, (journals, (replays, tt)))))))),
                              ),
                            ),
                          ),
                        ),
                      ),
                    ),
                  ),
                ),
              ),
            ),
          ),
        ),
      ),
    ),
  ),
)

-- ---- lines

size_is : (words : List (List ℕ)) → sum_by (λ word. length word + 1) words ≡ words_size words
size_is [] = refl
size_is (word ∷ words) = sum_by-cons (λ word. length word + 1) word words ∙ ap (λ n. length word + 1 + n) (size_is words)

of_line : (line : Option Line) → IfSome line (λ line. Fit line.command) → AsksSpelled (option_map_or (λ line. plan_of line.command) line (fails F.Words))
of_line None is = tt
of_line (Some line) is = is

line_fit : (words : List (List ℕ)) → words_size words ≤ 4096 → IfSome (line_of words) (λ line. Fit line.command)
line_fit [] short = tt
line_fit (address ∷ words) short =
    let FitLine : Line → Type 0 = λ line. Fit line.command in
    let command : IfSome (read_by commands words) Fit = by_table commands rows words (omega arith) in
    IfSome-and_then FitLine (λ port. option_map (line_with address) (read_by commands words)) (port_in address)
    (IfSome-each (λ port. IfSome (option_map (line_with address) (read_by commands words)) FitLine) (port_in address)
    (λ port. IfSome-map FitLine (line_with address) (read_by commands words) command))

pub spelled_requests : RequestsAreSpelled
spelled_requests words verdict answers short =
    all_spelled (plan_for words) verdict answers (of_line (line_of words) (line_fit words (omega (arith, short, size_is words))))
