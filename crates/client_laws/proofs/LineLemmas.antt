-- The commands of lines of texts have texts, so that the classes of what a line asks are those of the table.
use Rattle.std.proofs.Common.{◌≡◌, ℕ, Bool, true, false, List, [], ◌∷◌, cond, codes, Option, Some, None, refl, sym, subst, ap, ◌∙◌, ◌++◌, ◌⊎◌, inl, inr}
use Rattle.std.specs.Prelude.{IfSome, option_map, option_and_then, find, ⊤}
use Rattle.std.specs.Option.{option_map_or}
use Rattle.engine_line.specs.Lines.{port_in, seed_of, moment_in}
use Rattle.engine_text.specs.Texts.{same_bytes}
use Rattle.api_routes.specs.Keys.{read_time}
use Rattle.engine_text.specs.declared.pairs.Pair.{Pair}
use Rattle.json_laws.specs.Pairs.{AreWordsUtf8}
use Rattle.response_reader.specs.Answers.{Answer}
use Rattle.client_model.specs.Judgement.{Judgement}
use Rattle.client_model.specs.Words.{one_word, has_flag, value_of}
use Rattle.client_model.specs.Plans.{fails}
use Rattle.client_model.specs.Lines.{Table, read_by, volume_commands, commands, line_with, line_of}
use Rattle.client_model.specs.Client.{plan_of, plan_for}
use Rattle.client_model.specs.Commands.Container.{container_options, container_of}
use Rattle.client_model.specs.Commands.Create.{create_in}
use Rattle.client_model.specs.Commands.Run.{run_options, run_in}
use Rattle.client_model.specs.Commands.Stop.{stop_options, stop_in}
use Rattle.client_model.specs.Commands.Restart.{restart_options, restart_in}
use Rattle.client_model.specs.Commands.Kill.{kill_options, kill_in}
use Rattle.client_model.specs.Commands.Remove.{remove_options, remove_in}
use Rattle.client_model.specs.Commands.Update.{update_options, policy_given, update_in}
use Rattle.client_model.specs.Commands.List.{list_options, list_in}
use Rattle.client_model.specs.Commands.Logs.{logs_options, logs_in}
use Rattle.client_model.specs.Commands.Exec.{exec_options, exec_in}
use Rattle.client_model.specs.Commands.Health.{read_health}
use Rattle.client_model.specs.Commands.Replay.{replay_options, replay_of, replay_in}
use Rattle.client_model.specs.declared.command.Command.{Command}
use Rattle.client_model.specs.declared.command.Command.TheVariants as command
use Rattle.client_model.specs.declared.command.Line.{Line}
use Rattle.client_model.specs.declared.fault.Fault.TheVariants as F
use Rattle.client_laws.specs.Table.{calls_of, calls_for}
use Rattle.client_laws.proofs.CommandTexts.{IsRestart, IsContainer, HasTexts}
use Rattle.client_model.specs.Runs.{Exchange, AreAnswered, LacksJudgement, BreaksBehind, BreaksWithin}
use Rattle.client_laws.specs.Asked.{entries_of, AsksCalls, EndsByCalls, AreAnsweredFirst, AreToldSoFar, BreaksOffByCalls}
use Rattle.engine_text.specs.Words.{AreUtf8}
use Rattle.client_laws.proofs.JsonByteLemmas.{then-good, map-good}
use Rattle.client_laws.proofs.WordLemmas.{Gives, gives-none, gives-one, gives-two, gives-behind, AreValues, value-good, given-policy-good, container-good}
use Rattle.client_laws.proofs.PlanLemmas.{entries}
use Rattle.client_laws.proofs.CommandLemmas.{plan-calls}

-- ---- options

create-gives : (given : List Pair) → AreValues given → Gives (create_in given)
create-gives given h words w = map-good IsContainer HasTexts (container_of given words) command.Create (container-good given words h w) (λ c i. i)

run-gives : (given : List Pair) → AreValues given → Gives (run_in given)
run-gives given h words w =
    map-good IsContainer HasTexts (container_of given words) (λ c. command.Run c (has_flag (codes "--rm") given)) (container-good given words h w) (λ c i. i)

update-gives : (given : List Pair) → AreValues given → Gives (update_in given)
update-gives given h words w =
    then-good IsRestart HasTexts (policy_given given) (λ restart. one_word (λ target. command.Update target restart) words)
    (given-policy-good given h) (λ restart i. gives-one (λ target. command.Update target restart) (λ word u. (u, i)) words w)

exec-gives : (given : List Pair) → AreValues given → Gives (exec_in given)
exec-gives given h [] w = tt
exec-gives given h (target ∷ []) w = tt
exec-gives given h (target ∷ word ∷ words) w = (w.0, w.1)

-- ---- health

health-at : (until target : List ℕ) (time : Option ℕ) → HasTexts (command.Health until target) → IfSome (option_map (λ moment. command.Health until target) time) HasTexts
health-at until target None h = tt
health-at until target (Some moment) h = h

health-gives : Gives read_health
health-gives [] w = tt
health-gives (until ∷ []) w = tt
health-gives (until ∷ target ∷ []) w = health-at until target (read_time until) (w.0, w.1.0)
health-gives (until ∷ target ∷ third ∷ words) w = tt

-- ---- replay

any-replay : (given : List Pair) (word : List ℕ) → IfSome (replay_of given word) HasTexts
any-replay given word = by-seed (has_flag (codes "--upgrade") given) (seed_of (value_of (codes "--seed") given))
  where
    by-moment : (upgrade : Bool) (seed : List ℕ) (o : Option ℕ) → IfSome (option_map (command.Replay upgrade seed) o) HasTexts
    by-moment upgrade seed None = tt
    by-moment upgrade seed (Some moment) = tt

    by-seed : (upgrade : Bool) (o : Option (List ℕ)) → IfSome (option_and_then (λ seed. option_map (command.Replay upgrade seed) (moment_in word)) o) HasTexts
    by-seed upgrade None = tt
    by-seed upgrade (Some seed) = by-moment upgrade seed (moment_in word)

replay-gives : (given : List Pair) → AreValues given → Gives (replay_in given)
replay-gives given h [] w = any-replay given (codes "0")
replay-gives given h (word ∷ []) w = any-replay given word
replay-gives given h (word ∷ other ∷ words) w = tt

-- ---- the table

abbrev AreGiving : Table → Type 0
AreGiving [] = ⊤
AreGiving (row ∷ table) = Gives row.1 × AreGiving table

by-row : (table : Table) (name : List ℕ) (words : List (List ℕ)) → AreGiving table → AreWordsUtf8 words
    → IfSome (option_and_then (λ row. row.1 words) (find (λ row. same_bytes name row.0) table)) HasTexts
by-row [] name words h w = tt
by-row (row ∷ table) name words h w = by (same_bytes name row.0) (by-row table name words h.1 w)
  where
    rest : Option (List ℕ × (List (List ℕ) → Option Command))
    rest = find (λ row. same_bytes name row.0) table

    by : (b : Bool) → IfSome (option_and_then (λ row. row.1 words) (find (λ row. same_bytes name row.0) table)) HasTexts
        → IfSome (option_and_then (λ row. row.1 words) (cond b (Some row) (find (λ row. same_bytes name row.0) table))) HasTexts
    by true i = h.0 words w
    by false i = i

table-gives : (table : Table) → AreGiving table → Gives (read_by table)
table-gives table h [] w = tt
table-gives table h (name ∷ words) w = by-row table name words h w.1

volumes-give : AreGiving volume_commands
volumes-give = (
  gives-one command.VolumeCreate (λ word u. u),
  (
    gives-one command.VolumeInspect (λ word u. u),
    (
      gives-one command.VolumeRemove (λ word u. u),
      (gives-none command.VolumeList tt, tt),
    ),
  ),
)

commands-give : AreGiving commands
commands-give = (
  gives-behind container_options create_in create-gives,
  (
    gives-behind run_options run_in run-gives,
    (
      gives-one command.Start (λ word u. u),
      (
        gives-one command.Pause (λ word u. u),
        (
          gives-one command.Unpause (λ word u. u),
          (
            gives-behind stop_options stop_in (λ given h. gives-one (λ target. command.Stop target (value_of (codes "-t") given)) (λ word u. (u, value-good (codes "-t") given h))),
            (
              gives-behind restart_options restart_in (λ given h. gives-one (λ target. command.Restart target (value_of (codes "-t") given)) (λ word u. (u, value-good (codes "-t") given h))),
              (
                gives-behind kill_options kill_in (λ given h. gives-one (λ target. command.Kill target (value_of (codes "-s") given)) (λ word u. (u, value-good (codes "-s") given h))),
                (
                  gives-behind remove_options remove_in (λ given h. gives-one (λ target. command.Remove target (has_flag (codes "-f") given)) (λ word u. u)),
                  (
                    gives-two command.Rename (λ word other u v. (u, v)),
                    (
                      gives-behind update_options update_in update-gives,
                      (
                        gives-behind list_options list_in (λ given h. gives-none (command.List (has_flag (codes "-a") given)) tt),
                        (
                          gives-one command.Inspect (λ word u. u),
                          (
                            gives-none command.Version tt,
                            (
                              gives-behind logs_options logs_in (λ given h. gives-one (λ target. command.Logs target (has_flag (codes "-f") given)) (λ word u. u)),
                              (
                                gives-one command.Attach (λ word u. u),
                                (
                                  gives-behind exec_options exec_in exec-gives,
                                  (
                                    gives-one command.Wait (λ word u. u),
                                    (
                                      gives-two command.Events (λ word other u v. (u, v)),
                                      (
                                        gives-one command.Watch (λ word u. u),
                                        (
                                          health-gives,
                                          (
                                            table-gives volume_commands volumes-give,
                                            (
                                              gives-none command.Journal tt,
                                              (gives-behind replay_options replay_in replay-gives, tt),
                                            ),
                                          ),
                                        ),
                                      ),
                                    ),
                                  ),
                                ),
                              ),
                            ),
                          ),
                        ),
                      ),
                    ),
                  ),
                ),
              ),
            ),
          ),
        ),
      ),
    ),
  ),
)

abbrev IsLine : Line → Type 0
IsLine line = HasTexts line.command

line-good : (words : List (List ℕ)) → AreWordsUtf8 words → IfSome (line_of words) IsLine
line-good [] w = tt
line-good (address ∷ words) w = by (port_in address)
  where
    by : (port : Option ℕ) → IfSome (option_and_then (λ port. option_map (line_with address) (read_by commands words)) port) IsLine
    by None = tt
    by (Some port) = map-good HasTexts IsLine (read_by commands words) (line_with address) (table-gives commands commands-give words w.1) (λ c h. h)

line-calls : (line : Option Line) (verdict : Option Judgement) (answers : List Answer) → IfSome line IsLine
    → entries (option_map_or (λ l. plan_of l.command) line (fails F.Words)) verdict answers ≡ option_map_or (λ l. calls_of l.command answers) line []
line-calls None verdict answers h = refl
line-calls (Some line) verdict answers h = plan-calls line.command h verdict answers

-- what a line asks is what the table names
pub asks-calls : (words : List (List ℕ)) → AreUtf8 words → AsksCalls words
asks-calls words texts verdict answers = line-calls (line_of words) verdict answers (line-good words texts)

-- and so is what a call of the client asked
pub ends-by-calls : (words : List (List ℕ)) → AreUtf8 words → EndsByCalls words
ends-by-calls words texts status o o' run =
    ap (λ said. entries_of said.asked) run.says ∙ asks-calls words texts run.judgement run.answers

pub breaks-off-by-calls : (words : List (List ℕ)) → AreUtf8 words → BreaksOffByCalls words
breaks-off-by-calls words texts status o o' run = by run.breaks
  where
    by : LacksJudgement (plan_for words) run.fault run.course o o' ⊎ (BreaksBehind (plan_for words) run.fault run.course o o' ⊎ BreaksWithin (plan_for words) run.fault run.course o o')
        → (answers : List Answer) × (AreAnsweredFirst run.course.xs run.course.said.asked answers ⊎ AreToldSoFar run.course.xs run.course.said.asked answers) × (entries_of run.course.said.asked ≡ calls_for words answers)
    by (inl b) = (
      [],
      inl ([], run.course.said.asked, refl, subst (λ (xs : List Exchange). AreAnswered xs [] []) (sym b.unasked) tt),
      ap (λ said. entries_of said.asked) b.says ∙ asks-calls words texts None [],
    )
    by (inr (inl b)) = (
      b.answers,
      inl (b.done, b.more, b.asked, b.whole.answered),
      ap (λ said. entries_of said.asked) b.says ∙ asks-calls words texts run.course.judgement b.answers,
    )
    by (inr (inr b)) = (
      b.answers ++ b.answer ∷ [],
      inr (b.before, b.last, b.answers, b.answer, b.xs_are, refl, (b.done, b.now ∷ b.more, b.asked, b.whole.answered), b.tells),
      ap (λ said. entries_of said.asked) b.says ∙ asks-calls words texts run.course.judgement (b.answers ++ b.answer ∷ []),
    )
