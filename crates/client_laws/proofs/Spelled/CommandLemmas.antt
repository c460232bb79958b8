-- The commands that ask at most one request ask only what is spelled by its bytes.
use Rattle.std.proofs.Common.{ℕ, zero, suc, map, ◌+◌, ◌≤◌, List, [], ◌∷◌, length, Bool, true, false, codes, Option, Some, None, arith}
use Rattle.std.specs.Prelude.{option_map, option_and_then}
use Rattle.std.specs.Option.{IfSome}
use Rattle.std.proofs.lemmas.Option.{IfSome_then}
use Rattle.engine_text.specs.declared.pairs.Pair.{Pair}
use Rattle.engine_line.specs.Lines.{seed_of, moment_in}
use Rattle.journal_lines.specs.declared.verdict.Verdict.{Verdict}
use Rattle.journal_lines.specs.declared.verdict.Verdict.TheVariants.{Legal, Illegal, BadLine}
use Rattle.event_ring.specs.Fold.{fold_of}
use Rattle.response_reader.specs.Heads.{first_in}
use Rattle.client_model.specs.declared.command.Restart.{Restart}
use Rattle.client_model.specs.declared.command.Command.{Command}
use Rattle.client_model.specs.declared.command.Command.TheVariants as command
use Rattle.client_model.specs.Words.{no_word, one_word, two_words, value_of, has_flag}
use Rattle.client_model.specs.Bodies.{status_code_in, container_lines_in, volume_names_in}
use Rattle.client_model.specs.Plans.{done, kept, prints_all}
use Rattle.client_model.specs.Streams.{events_in}
use Rattle.client_model.specs.declared.showing.Showing.TheVariants.{Copied, Demuxed}
use Rattle.client_model.specs.Client.{plan_of}
use Rattle.client_model.specs.Commands.Start.{start_request, read_start}
use Rattle.client_model.specs.Commands.Pause.{pause_request, read_pause}
use Rattle.client_model.specs.Commands.Unpause.{unpause_request, read_unpause}
use Rattle.client_model.specs.Commands.Stop.{stop_options, stop_in, stop_request, read_stop}
use Rattle.client_model.specs.Commands.Restart.{restart_options, restart_in as restart_words, restart_request, read_restart}
use Rattle.client_model.specs.Commands.Kill.{kill_options, kill_in, kill_request, read_kill}
use Rattle.client_model.specs.Commands.Remove.{remove_options, remove_in, remove_request, read_remove}
use Rattle.client_model.specs.Commands.Rename.{rename_request, read_rename}
use Rattle.client_model.specs.Commands.Container.{read_policy}
use Rattle.client_model.specs.Commands.Update.{update_options, policy_given, update_in, update_request, read_update}
use Rattle.client_model.specs.Commands.List.{list_options, list_in, list_request, read_list}
use Rattle.client_model.specs.Commands.Inspect.{inspect_request, read_inspect}
use Rattle.client_model.specs.Commands.Version.{version_request, read_version}
use Rattle.client_model.specs.Commands.Logs.{logs_options, logs_in, logs_request, read_logs}
use Rattle.client_model.specs.Commands.Attach.{attach_request, read_attach}
use Rattle.client_model.specs.Commands.Wait.{wait_request, read_wait}
use Rattle.client_model.specs.Commands.Events.{events_request, read_events}
use Rattle.client_model.specs.Commands.Watch.{watched, row_line, read_watch}
use Rattle.client_model.specs.Commands.VolumeCreate.{volume_create_request, read_volume_create}
use Rattle.client_model.specs.Commands.VolumeInspect.{volume_inspect_request, read_volume_inspect}
use Rattle.client_model.specs.Commands.VolumeRemove.{volume_remove_request, read_volume_remove}
use Rattle.client_model.specs.Commands.VolumeList.{volume_list_request, read_volume_list}
use Rattle.client_model.specs.Commands.Journal.{journal_request, read_journal}
use Rattle.client_model.specs.Commands.Replay.{replay_options, replay_of, replay_in, legal_plan, verdict_plan, read_replay}
use Rattle.client_laws.proofs.Spelled.SizeLemmas.{words_size}
use Rattle.client_laws.proofs.Spelled.WordLemmas.{IfSome-map, IfSome-and_then, IfSome-each, given_size, value_size, behind_within, length_value}
use Rattle.client_laws.proofs.Spelled.BodyLemmas.{IsShortPolicy, policy_short}
use Rattle.client_laws.proofs.Spelled.RequestLemmas.{start_spelled, pause_spelled, unpause_spelled, stop_spelled, restart_spelled, kill_spelled, remove_spelled, rename_spelled, update_spelled, list_spelled, inspect_spelled, version_spelled, logs_spelled, attach_spelled, wait_spelled, events_spelled, volume_create_spelled, volume_inspect_spelled, volume_remove_spelled, volume_list_spelled, journal_spelled}
use Rattle.client_laws.proofs.Spelled.PlanLemmas.{AsksSpelled, all_printed, reading, asking_for, asking_any, asking_prints, asking_shows, streaming}

-- the command asks only what is spelled
abbrev pub Fit : Command → Type 0
Fit c = AsksSpelled (plan_of c)

-- so does each command that short words are read as
abbrev pub IsFit : (List (List ℕ) → Option Command) → Type 0
IsFit read = (words : List (List ℕ)) → words_size words ≤ 4096 → IfSome (read words) Fit

-- ---- words

none_within : (P : Command → Type 0) (c : Command) (words : List (List ℕ)) → P c → IfSome (no_word c words) P
none_within P c [] is = is
none_within P c (word ∷ words) is = tt

one_within : (P : Command → Type 0) (c : List ℕ → Command) (words : List (List ℕ))
    → ((word : List ℕ) → length word + 1 ≤ words_size words → P (c word)) → IfSome (one_word c words) P
one_within P c [] each = tt
one_within P c (word ∷ []) each = each word (omega arith)
one_within P c (word ∷ other ∷ words) each = tt

two_within : (P : Command → Type 0) (c : List ℕ → List ℕ → Command) (words : List (List ℕ))
    → ((word other : List ℕ) → length word + length other ≤ words_size words → P (c word other)) → IfSome (two_words c words) P
two_within P c [] each = tt
two_within P c (word ∷ []) each = tt
two_within P c (word ∷ other ∷ []) each = each word other (omega arith)
two_within P c (word ∷ other ∷ third ∷ words) each = tt

pub starts : IsFit read_start
starts words short = one_within Fit command.Start words (λ word is. asking_prints (start_request word) word (start_spelled word (omega arith)))

pub pauses : IsFit read_pause
pauses words short = one_within Fit command.Pause words (λ word is. asking_prints (pause_request word) word (pause_spelled word (omega arith)))

pub unpauses : IsFit read_unpause
unpauses words short = one_within Fit command.Unpause words (λ word is. asking_prints (unpause_request word) word (unpause_spelled word (omega arith)))

pub stops : IsFit read_stop
stops = behind_within Fit stop_options stop_in 4096 (λ given words short.
    let seconds = value_of (codes "-t") given in
    one_within Fit (λ target. command.Stop target seconds) words
    (λ word is. asking_prints (stop_request word seconds) word (stop_spelled word seconds (omega (arith, is, short, length_value (codes "-t") given)))))

pub restarts : IsFit read_restart
restarts = behind_within Fit restart_options restart_words 4096 (λ given words short.
    let seconds = value_of (codes "-t") given in
    one_within Fit (λ target. command.Restart target seconds) words
    (λ word is. asking_prints (restart_request word seconds) word (restart_spelled word seconds (omega (arith, is, short, length_value (codes "-t") given)))))

pub kills : IsFit read_kill
kills = behind_within Fit kill_options kill_in 4096 (λ given words short.
    let signal = value_of (codes "-s") given in
    one_within Fit (λ target. command.Kill target signal) words
    (λ word is. asking_prints (kill_request word signal) word (kill_spelled word signal (omega (arith, is, short, length_value (codes "-s") given)))))

pub removes_one : IsFit read_remove
removes_one = behind_within Fit remove_options remove_in 4096 (λ given words short.
    let force = has_flag (codes "-f") given in
    one_within Fit (λ target. command.Remove target force) words
    (λ word is. asking_prints (remove_request word force) word (remove_spelled word force (omega (arith, is, short)))))

pub renames : IsFit read_rename
renames words short =
    two_within Fit command.Rename words (λ word other is. asking_prints (rename_request word other) word (rename_spelled word other (omega arith)))

given_short : (given : List Pair) → given_size given ≤ 4096 → IfSome (policy_given given) IsShortPolicy
given_short given short = by (value_of (codes "--restart") given) (omega (arith, short, length_value (codes "--restart") given))
  where
    by : (word : Option (List ℕ)) → value_size word ≤ 4096 → IfSome (option_and_then read_policy word) IsShortPolicy
    by None few = tt
    by (Some word) few = policy_short word (omega (arith, few))

update_short : (restart : Restart) (words : List (List ℕ)) → words_size words ≤ 4096 → IsShortPolicy restart
    → IfSome (one_word (λ target. command.Update target restart) words) Fit
update_short restart words short policy =
    one_within Fit (λ target. command.Update target restart) words
    (λ word is. asking_prints (update_request word restart) word (update_spelled word restart (omega (arith, is, short)) policy))

pub updates : IsFit read_update
updates = behind_within Fit update_options update_in 4096 (λ given words short.
    IfSome-and_then Fit (λ restart. one_word (λ target. command.Update target restart) words) (policy_given given)
    (IfSome_then (policy_given given) (given_short given (omega (arith, short))) (λ restart. update_short restart words (omega (arith, short)))))

pub lists : IsFit read_list
lists = behind_within Fit list_options list_in 4096 (λ given words short.
    let all = has_flag (codes "-a") given in
    none_within Fit (command.List all) words
    (asking_any (list_request all) container_lines_in (λ lines. prints_all lines done) (list_spelled all) (λ lines. all_printed lines done tt)))

pub inspects : IsFit read_inspect
inspects words short = one_within Fit command.Inspect words (λ word is. asking_shows (inspect_request word) (inspect_spelled word (omega arith)))

pub versions : IsFit read_version
versions words short = none_within Fit command.Version words (asking_shows version_request version_spelled)

pub logs : IsFit read_logs
logs = behind_within Fit logs_options logs_in 4096 (λ given words short.
    let follow = has_flag (codes "-f") given in
    one_within Fit (λ target. command.Logs target follow) words
    (λ word is. streaming Demuxed (logs_request word follow) false done (logs_spelled word follow (omega (arith, is, short))) tt))

pub attaches : IsFit read_attach
attaches words short =
    one_within Fit command.Attach words
    (λ word is. streaming Demuxed (attach_request word false) false done (attach_spelled word false (omega arith)) tt)

-- ---- the daemon, volumes, and journals

pub waits : IsFit read_wait
waits words short =
    one_within Fit command.Wait words
    (λ word is. asking_any (wait_request word) status_code_in _ (wait_spelled word (omega arith)) (λ code. tt))

pub events : IsFit read_events
events words short =
    two_within Fit command.Events words
    (λ word other is. streaming Copied (events_request word other) false done (events_spelled word other (omega arith)) tt)

watched_fit : (first : Option ℕ) (body : List ℕ) (whole : Bool) → AsksSpelled (watched first body whole)
watched_fit None body whole = tt
watched_fit (Some zero) body whole =
    reading events_in (λ es. prints_all (map row_line (fold_of es)) done) body whole
    (IfSome-each (λ es. AsksSpelled (prints_all (map row_line (fold_of es)) done)) (events_in body) (λ es. all_printed (map row_line (fold_of es)) done tt))
watched_fit (Some (suc n)) body whole = tt

pub watches : IsFit read_watch
watches words short =
    one_within Fit command.Watch words (λ word is.
    asking_for (kept (events_request (codes "0") word)) (λ h body whole. watched (first_in h.form) body whole)
    (events_spelled (codes "0") word (omega arith)) (λ h body whole. watched_fit (first_in h.form) body whole))

pub volume_creates : IsFit read_volume_create
volume_creates words short =
    one_within Fit command.VolumeCreate words (λ word is. asking_prints (volume_create_request word) word (volume_create_spelled word (omega arith)))

pub volume_inspects : IsFit read_volume_inspect
volume_inspects words short =
    one_within Fit command.VolumeInspect words (λ word is. asking_shows (volume_inspect_request word) (volume_inspect_spelled word (omega arith)))

pub volume_removes : IsFit read_volume_remove
volume_removes words short =
    one_within Fit command.VolumeRemove words (λ word is. asking_prints (volume_remove_request word) word (volume_remove_spelled word (omega arith)))

pub volume_lists : IsFit read_volume_list
volume_lists words short =
    none_within Fit command.VolumeList words
    (asking_any volume_list_request volume_names_in (λ names. prints_all names done) volume_list_spelled (λ names. all_printed names done tt))

pub journals : IsFit read_journal
journals words short = none_within Fit command.Journal words (streaming Copied journal_request false done journal_spelled tt)

legal : (upgrade : Bool) (new : List ℕ) (steps : ℕ) → AsksSpelled (legal_plan upgrade new steps)
legal true new steps = tt
legal false new steps = tt

judged : (upgrade : Bool) (new : List ℕ) (verdict : Verdict) → AsksSpelled (verdict_plan upgrade new verdict)
judged upgrade new (Legal steps) = legal upgrade new steps
judged upgrade new (Illegal line kept found) = tt
judged upgrade new (BadLine line) = tt

replayed_at : (given : List Pair) (word : List ℕ) → IfSome (replay_of given word) Fit
replayed_at given word =
    let upgrade = has_flag (codes "--upgrade") given in
    let seed = seed_of (value_of (codes "--seed") given) in
    IfSome-and_then Fit (λ seed. option_map (command.Replay upgrade seed) (moment_in word)) seed
    (IfSome-each (λ seed. IfSome (option_map (command.Replay upgrade seed) (moment_in word)) Fit) seed
    (λ seed. IfSome-map Fit (command.Replay upgrade seed) (moment_in word)
    (IfSome-each (λ moment. Fit (command.Replay upgrade seed moment)) (moment_in word) (λ moment j. judged upgrade j.upgrade j.verdict))))

replayed : (given : List Pair) (words : List (List ℕ)) → IfSome (replay_in given words) Fit
replayed given [] = replayed_at given (codes "0")
replayed given (word ∷ []) = replayed_at given word
replayed given (word ∷ other ∷ words) = tt

pub replays : IsFit read_replay
replays = behind_within Fit replay_options replay_in 4096 (λ given words short. replayed given words)
