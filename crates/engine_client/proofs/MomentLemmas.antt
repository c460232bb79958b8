-- The moment of a line's `replay` is one that has a text.
use Rattle.std.proofs.Common.{◌≡◌, ◌≤◌, ℕ, List, [], ◌∷◌, refl, subst, Option, Some, None, Bool, true, false, IfSome, find, option_map, option_and_then, codes, arith}
use Rattle.std.specs.Prelude.{⊤, nat_le, ◌&&◌, if◌then◌else◌}
use Rattle.std.proofs.lemmas.Bool.Decides.{nat_tests}
use Rattle.engine_text.specs.Texts.{same_bytes}
use Rattle.engine_text.specs.declared.pairs.Pair.{Pair}
use Rattle.api_routes.specs.Keys.{read_time}
use Rattle.api_routes.specs.Numeral.{number_of}
use Rattle.engine_line.specs.Lines.{if_between, moment_in, port_in, seed_of}
use Rattle.machine_model.specs.History.{greatest_moment}
use Rattle.client_model.specs.Words.{Options, no_word, one_word, two_words, split_options, behind_options, value_of, has_flag}
use Rattle.client_model.specs.Lines.{Table, read_by, commands, volume_commands, line_with, line_of}
use Rattle.client_model.specs.Commands.Container.{container_options, container_of}
use Rattle.client_model.specs.Commands.Create.{create_in}
use Rattle.client_model.specs.Commands.Run.{run_options, run_in}
use Rattle.client_model.specs.Commands.Stop.{stop_options, stop_in}
use Rattle.client_model.specs.Commands.Restart.{restart_options, restart_in}
use Rattle.client_model.specs.Commands.Kill.{kill_options, kill_in}
use Rattle.client_model.specs.Commands.Remove.{remove_options, remove_in}
use Rattle.client_model.specs.Commands.Update.{update_options, policy_given, update_in}
use Rattle.client_model.specs.Commands.List.{list_options, list_in}
use Rattle.client_model.specs.Commands.Logs.{logs_options, logs_in}
use Rattle.client_model.specs.Commands.Exec.{exec_options, exec_in}
use Rattle.client_model.specs.Commands.Health.{read_health}
use Rattle.client_model.specs.Commands.Replay.{replay_options, replay_of, replay_in}
use Rattle.client_model.specs.declared.command.Command.{Command}
use Rattle.client_model.specs.declared.command.Command.TheVariants as command
use Rattle.client_model.specs.declared.command.Line.{Line}
use Rattle.engine_client.specs.Places.{IsTimed}

-- ---- what is there is so

if_map : {A B : Type 0} (P : B → Type 0) (f : A → B) (o : Option A) → ((x : A) → P (f x)) → IfSome (option_map f o) P
if_map P f (Some x) all = all x
if_map P f None all = tt

if_then : {A B : Type 0} (P : B → Type 0) (f : A → Option B) (o : Option A) → ((x : A) → IfSome (f x) P) → IfSome (option_and_then f o) P
if_then P f (Some x) all = all x
if_then P f None all = tt

-- ---- words

none : (c : Command) (words : List (List ℕ)) → IsTimed c → IfSome (no_word c words) IsTimed
none c [] is = is
none c (word ∷ words) is = tt

one : (c : List ℕ → Command) (words : List (List ℕ)) → ((word : List ℕ) → IsTimed (c word)) → IfSome (one_word c words) IsTimed
one c [] all = tt
one c (word ∷ []) all = all word
one c (word ∷ other ∷ words) all = tt

two : (c : List ℕ → List ℕ → Command) (words : List (List ℕ)) → ((word other : List ℕ) → IsTimed (c word other)) → IfSome (two_words c words) IsTimed
two c [] all = tt
two c (word ∷ []) all = tt
two c (word ∷ other ∷ []) all = all word other
two c (word ∷ other ∷ third ∷ words) all = tt

options : (opts : Options) (read : List Pair → List (List ℕ) → Option Command) (words : List (List ℕ))
    → ((given : List Pair) (behind : List (List ℕ)) → IfSome (read given behind) IsTimed) → IfSome (behind_options opts read words) IsTimed
options opts read words all = if_then IsTimed (λ split. read split.given split.words) (split_options opts words) (λ split. all split.given split.words)

update_so : (given : List Pair) (words : List (List ℕ)) → IfSome (update_in given words) IsTimed
update_so given words =
    if_then IsTimed (λ restart. one_word (λ target. command.Update target restart) words) (policy_given given)
    (λ restart. one (λ target. command.Update target restart) words (λ w. tt))

exec_so : (given : List Pair) (words : List (List ℕ)) → IfSome (exec_in given words) IsTimed
exec_so given [] = tt
exec_so given (target ∷ []) = tt
exec_so given (target ∷ word ∷ words) = tt

health_so : (words : List (List ℕ)) → IfSome (read_health words) IsTimed
health_so [] = tt
health_so (until ∷ []) = tt
health_so (until ∷ target ∷ []) = if_map IsTimed (λ moment. command.Health until target) (read_time until) (λ moment. tt)
health_so (until ∷ target ∷ third ∷ words) = tt

-- ---- a moment

and_right : (a b : Bool) → (a && b) ≡ true → b ≡ true
and_right true b is = is
and_right false b is = absurd (false_true is)
  where
    false_true : false ≡ true → ⊥
    false_true e = cc

at_most : (n most : ℕ) → nat_le n most ≡ true → n ≤ most
at_most n most is = grind (arith, nat_tests)

between_so : (n most : ℕ) (t : Bool) → (nat_le 0 n && nat_le n most) ≡ t → IfSome (if t then Some n else None) (λ m. m ≤ most)
between_so n most true is = at_most n most (and_right (nat_le 0 n) (nat_le n most) is)
between_so n most false is = tt

moment_so : (o : Option ℕ) → IfSome (if_between 0 9_000_000_000_000 o) (λ m. m ≤ greatest_moment)
moment_so None = tt
moment_so (Some n) = between_so n 9_000_000_000_000 (nat_le 0 n && nat_le n 9_000_000_000_000) refl

mapped : (upgrade : Bool) (seed : List ℕ) (o : Option ℕ) → IfSome o (λ m. m ≤ greatest_moment) → IfSome (option_map (command.Replay upgrade seed) o) IsTimed
mapped upgrade seed (Some m) is = is
mapped upgrade seed None is = tt

replay_at : (given : List Pair) (word : List ℕ) → IfSome (replay_of given word) IsTimed
replay_at given word =
    let upgrade = has_flag (codes "--upgrade") given in
    if_then IsTimed (λ seed. option_map (command.Replay upgrade seed) (moment_in word)) (seed_of (value_of (codes "--seed") given))
    (λ seed. mapped upgrade seed (moment_in word) (moment_so (number_of 13 word)))

replay_so : (given : List Pair) (words : List (List ℕ)) → IfSome (replay_in given words) IsTimed
replay_so given [] = replay_at given (codes "0")
replay_so given (word ∷ []) = replay_at given word
replay_so given (word ∷ other ∷ words) = tt

-- ---- the table

abbrev Row : Type 0
Row = List ℕ × (List (List ℕ) → Option Command)

abbrev AreTimed : Table → Type 0
AreTimed [] = ⊤
AreTimed (row ∷ rows) = ((words : List (List ℕ)) → IfSome (row.1 words) IsTimed) × AreTimed rows

found_first : (words : List (List ℕ)) (row : Row) (o : Option Row) (t : Bool) → IfSome (row.1 words) IsTimed
    → IfSome (option_and_then (λ (r : Row). r.1 words) o) IsTimed → IfSome (option_and_then (λ (r : Row). r.1 words) (if t then Some row else o)) IsTimed
found_first words row o true is others = is
found_first words row o false is others = others

found : (name : List ℕ) (words : List (List ℕ)) (table : Table) → AreTimed table
    → IfSome (option_and_then (λ row. row.1 words) (find (λ row. same_bytes name row.0) table)) IsTimed
found name words [] all = tt
found name words (row ∷ rows) all =
    found_first words row (find (λ r. same_bytes name r.0) rows) (same_bytes name row.0) (all.0 words) (found name words rows all.1)

read_so : (table : Table) → AreTimed table
    → (words : List (List ℕ)) → IfSome (read_by table words) IsTimed
read_so table all [] = tt
read_so table all (name ∷ words) = found name words table all

volumes_so : AreTimed volume_commands
volumes_so = (
  (λ ws. one command.VolumeCreate ws (λ w. tt)),
  (
    (λ ws. one command.VolumeInspect ws (λ w. tt)),
    (
      (λ ws. one command.VolumeRemove ws (λ w. tt)),
      ((λ ws. none command.VolumeList ws tt), tt),
    ),
  ),
)

commands_so : AreTimed commands
commands_so = (
  (λ ws. options container_options create_in ws (λ g b. if_map IsTimed command.Create (container_of g b) (λ c. tt))),
  (
    (λ ws. options run_options run_in ws (λ g b. if_map IsTimed (λ c. command.Run c (has_flag (codes "--rm") g)) (container_of g b) (λ c. tt))),
    (
      (λ ws. one command.Start ws (λ w. tt)),
      (
        (λ ws. one command.Pause ws (λ w. tt)),
        (
          (λ ws. one command.Unpause ws (λ w. tt)),
          (
            (λ ws. options stop_options stop_in ws (λ g b. one (λ target. command.Stop target (value_of (codes "-t") g)) b (λ w. tt))),
            (
              (λ ws. options restart_options restart_in ws (λ g b. one (λ target. command.Restart target (value_of (codes "-t") g)) b (λ w. tt))),
              (
                (λ ws. options kill_options kill_in ws (λ g b. one (λ target. command.Kill target (value_of (codes "-s") g)) b (λ w. tt))),
                (
                  (λ ws. options remove_options remove_in ws (λ g b. one (λ target. command.Remove target (has_flag (codes "-f") g)) b (λ w. tt))),
                  (
                    (λ ws. two command.Rename ws (λ w v. tt)),
                    (
                      (λ ws. options update_options update_in ws update_so),
                      (
                        (λ ws. options list_options list_in ws (λ g b. none (command.List (has_flag (codes "-a") g)) b tt)),
                        (
                          (λ ws. one command.Inspect ws (λ w. tt)),
                          (
                            (λ ws. none command.Version ws tt),
                            (
                              (λ ws. options logs_options logs_in ws (λ g b. one (λ target. command.Logs target (has_flag (codes "-f") g)) b (λ w. tt))),
                              (
                                (λ ws. one command.Attach ws (λ w. tt)),
                                (
                                  (λ ws. options exec_options exec_in ws exec_so),
                                  (
                                    (λ ws. one command.Wait ws (λ w. tt)),
                                    (
                                      (λ ws. two command.Events ws (λ w v. tt)),
                                      (
                                        (λ ws. one command.Watch ws (λ w. tt)),
                                        (
                                          health_so,
                                          (
                                            (λ ws. read_so volume_commands volumes_so ws),
                                            (
                                              (λ ws. none command.Journal ws tt),
                                              ((λ ws. options replay_options replay_in ws replay_so), tt),
                                            ),
                                          ),
                                        ),
                                      ),
                                    ),
                                  ),
                                ),
                              ),
                            ),
                          ),
                        ),
                      ),
                    ),
                  ),
                ),
              ),
            ),
          ),
        ),
      ),
    ),
  ),
)

line_so : (words : List (List ℕ)) → IfSome (line_of words) (λ line. IsTimed line.command)
line_so [] = tt
line_so (address ∷ words) =
    if_then (λ (line : Line). IsTimed line.command) _ (port_in address) (λ port. by_command (read_by commands words) (read_so commands commands_so words))
  where
    by_command : (o : Option Command) → IfSome o IsTimed → IfSome (option_map (line_with address) o) (λ line. IsTimed line.command)
    by_command (Some c) is = is
    by_command None is = tt

pub line_timed : (words : List (List ℕ)) (line : Line) → line_of words ≡ Some line → IsTimed line.command
line_timed words line is = subst (λ (o : Option Line). IfSome o (λ l. IsTimed l.command)) is (line_so words)
