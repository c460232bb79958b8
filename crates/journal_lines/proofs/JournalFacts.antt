-- The journal's line of each kind of call and reply, written out by hand.
use Rattle.std.specs.Prelude.{◌≡◌, ℕ, pos, negsuc, List, [], ◌∷◌, true, false, Some, None, codes, refl, map, drop, replicate}
use Rattle.std.specs.Fmt.{digits}
use Rattle.rand_chacha.specs.Block.{quarter_round, column_round, diagonal_round, double_rounds, block_word}
use Rattle.rand_core.specs.Steps.{u32_at}
use Rattle.hex.specs.Hex.{encode_with}
use Rattle.json.specs.Print.{escape_byte}
use Rattle.json_laws.specs.Sound.{line_text}
use Rattle.proc_kernel.specs.Processes.{meet_waiting, meeting_order}
use Rattle.engine_text.specs.Id.{id_of, key_bytes}
use Rattle.machine_model.proofs.Scenes as scenes
use Rattle.journal_lines.specs.Entries.{history_entries}
use Rattle.journal_lines.specs.JournalLines.{journal_line, header_line, lines_of}
use Rattle.journal_lines.specs.declared.format.Format.TheVariants.{First, Second}
use Rattle.engine_text.specs.declared.call.Call.{Call}
use Rattle.engine_text.specs.declared.call.CreateSpec.{CreateSpec}
use Rattle.engine_text.specs.declared.call.Until.TheVariants as Until
use Rattle.engine_text.specs.declared.filter.FilterKey.TheVariants as Key
use Rattle.engine_text.specs.declared.owner.Owner.TheVariants as Owner
use Rattle.engine_text.specs.declared.policy.Policy.TheVariants as Policy
use Rattle.engine_text.specs.declared.reply.Reply.{Reply}
use Rattle.engine_text.specs.declared.reply.StopRule.TheVariants as Stop
use Rattle.engine_text.specs.declared.step.Step.{Step}

-- the line of a call of connection 1 at the moment 5, two due steps behind the call before
abbrev pub line : Call → Reply → List ℕ
line c reply = journal_line First (record { dues = 2; conn = 1; moment = 5; call = c; reply = reply })

abbrev pub ref : List ℕ
ref = codes "web"

abbrev pub empty : Reply
empty = Reply.Answer 204 []

-- a line with that call and that reply
abbrev pub spec : CreateSpec
spec = record {
  name = None;
  image = codes "engine/tools";
  words = codes "exit" ∷ codes "1" ∷ [];
  policy = Policy.OnFailure 3;
  stop_signal = record { number = 15 };
  stop_after = negsuc 0;
  open_stdin = true;
  stdin_once = false;
  labels = record { key = codes "a"; value = codes "b" } ∷ [];
  mounts = record { volume = codes "data"; target = codes "/d"; read_only = true } ∷ [];
  auto_remove = false;
  health = None;
}

pub line_of_create : line (Call.Create spec) (Reply.Answer 201 (codes "{}"))
    ≡ codes "{\"call\":{\"after\":-1,\"image\":\"engine/tools\",\"labels\":{\"a\":\"b\"},\"maximum\":3,\"mounts\":[{\"ro\":true,\"target\":\"/d\",\"volume\":\"data\"}],\"name\":null,\"once\":false,\"op\":\"create\",\"policy\":\"on-failure\",\"signal\":15,\"stdin\":true,\"words\":[\"exit\",\"1\"]},\"conn\":1,\"dues\":2,\"moment\":5,\"reply\":{\"body\":\"{}\",\"status\":201}}\n"
unfolding digits escape_byte encode_with line_text
line_of_create = refl

pub line_of_named_create : line (Call.Create (record spec { name = Some (codes "/ab"); policy = Policy.UnlessStopped; labels = []; mounts = []; words = []; stop_after = pos 10 })) (empty)
    ≡ codes "{\"call\":{\"after\":10,\"image\":\"engine/tools\",\"labels\":{},\"maximum\":0,\"mounts\":[],\"name\":\"/ab\",\"once\":false,\"op\":\"create\",\"policy\":\"unless-stopped\",\"signal\":15,\"stdin\":true,\"words\":[]},\"conn\":1,\"dues\":2,\"moment\":5,\"reply\":{\"body\":\"\",\"status\":204}}\n"
unfolding digits escape_byte encode_with line_text
line_of_named_create = refl

-- one that is removed by itself, with a health check
pub line_of_checked_create : line (Call.Create (record spec { policy = Policy.No; labels = []; mounts = []; auto_remove = true; health = Some (record { words = codes "flaky" ∷ []; interval = 30000; timeout = 1; retries = 3; start_period = 0 }) })) (empty)
    ≡ codes "{\"call\":{\"after\":-1,\"auto\":true,\"health\":{\"interval\":30000,\"retries\":3,\"start\":0,\"timeout\":1,\"words\":[\"flaky\"]},\"image\":\"engine/tools\",\"labels\":{},\"maximum\":0,\"mounts\":[],\"name\":null,\"once\":false,\"op\":\"create\",\"policy\":\"no\",\"signal\":15,\"stdin\":true,\"words\":[\"exit\",\"1\"]},\"conn\":1,\"dues\":2,\"moment\":5,\"reply\":{\"body\":\"\",\"status\":204}}\n"
unfolding digits escape_byte encode_with line_text
line_of_checked_create = refl

pub line_of_start : line (Call.Start ref) (empty)
    ≡ codes "{\"call\":{\"op\":\"start\",\"ref\":\"web\"},\"conn\":1,\"dues\":2,\"moment\":5,\"reply\":{\"body\":\"\",\"status\":204}}\n"
unfolding digits escape_byte encode_with line_text
line_of_start = refl

pub line_of_pause : line (Call.Pause ref) (empty)
    ≡ codes "{\"call\":{\"op\":\"pause\",\"ref\":\"web\"},\"conn\":1,\"dues\":2,\"moment\":5,\"reply\":{\"body\":\"\",\"status\":204}}\n"
unfolding digits escape_byte encode_with line_text
line_of_pause = refl

pub line_of_unpause : line (Call.Unpause ref) (empty)
    ≡ codes "{\"call\":{\"op\":\"unpause\",\"ref\":\"web\"},\"conn\":1,\"dues\":2,\"moment\":5,\"reply\":{\"body\":\"\",\"status\":204}}\n"
unfolding digits escape_byte encode_with line_text
line_of_unpause = refl

pub line_of_inspect : line (Call.Inspect ref) (empty)
    ≡ codes "{\"call\":{\"op\":\"inspect\",\"ref\":\"web\"},\"conn\":1,\"dues\":2,\"moment\":5,\"reply\":{\"body\":\"\",\"status\":204}}\n"
unfolding digits escape_byte encode_with line_text
line_of_inspect = refl

pub line_of_stop : line (Call.Stop ref (Some (pos 3)) None) (Reply.Begun 7)
    ≡ codes "{\"call\":{\"op\":\"stop\",\"ref\":\"web\",\"signal\":null,\"t\":3},\"conn\":1,\"dues\":2,\"moment\":5,\"reply\":{\"ticket\":7}}\n"
unfolding digits escape_byte encode_with line_text
line_of_stop = refl

pub line_of_restart : line (Call.Restart ref None (Some (record { number = 2 }))) (Reply.Begun 7)
    ≡ codes "{\"call\":{\"op\":\"restart\",\"ref\":\"web\",\"signal\":2,\"t\":null},\"conn\":1,\"dues\":2,\"moment\":5,\"reply\":{\"ticket\":7}}\n"
unfolding digits escape_byte encode_with line_text
line_of_restart = refl

pub line_of_kill : line (Call.Kill ref (record { number = 9 })) (empty)
    ≡ codes "{\"call\":{\"op\":\"kill\",\"ref\":\"web\",\"signal\":9},\"conn\":1,\"dues\":2,\"moment\":5,\"reply\":{\"body\":\"\",\"status\":204}}\n"
unfolding digits escape_byte encode_with line_text
line_of_kill = refl

pub line_of_rename : line (Call.Rename ref (codes "new")) (empty)
    ≡ codes "{\"call\":{\"name\":\"new\",\"op\":\"rename\",\"ref\":\"web\"},\"conn\":1,\"dues\":2,\"moment\":5,\"reply\":{\"body\":\"\",\"status\":204}}\n"
unfolding digits escape_byte encode_with line_text
line_of_rename = refl

pub line_of_update : line (Call.Update ref (Some (Policy.OnFailure 3))) (Reply.Answer 200 (codes "{\"Warnings\":[]}"))
    ≡ codes "{\"call\":{\"maximum\":3,\"op\":\"update\",\"policy\":\"on-failure\",\"ref\":\"web\"},\"conn\":1,\"dues\":2,\"moment\":5,\"reply\":{\"body\":\"{\\\"Warnings\\\":[]}\",\"status\":200}}\n"
unfolding digits escape_byte encode_with line_text
line_of_update = refl

pub line_of_empty_update : line (Call.Update ref None) (empty)
    ≡ codes "{\"call\":{\"maximum\":null,\"op\":\"update\",\"policy\":null,\"ref\":\"web\"},\"conn\":1,\"dues\":2,\"moment\":5,\"reply\":{\"body\":\"\",\"status\":204}}\n"
unfolding digits escape_byte encode_with line_text
line_of_empty_update = refl

pub line_of_remove : line (Call.Remove ref true) (empty)
    ≡ codes "{\"call\":{\"force\":true,\"op\":\"remove\",\"ref\":\"web\"},\"conn\":1,\"dues\":2,\"moment\":5,\"reply\":{\"body\":\"\",\"status\":204}}\n"
unfolding digits escape_byte encode_with line_text
line_of_remove = refl

pub line_of_wait : line (Call.Wait ref Until.NextExit) (Reply.Begun 0)
    ≡ codes "{\"call\":{\"condition\":\"next-exit\",\"op\":\"wait\",\"ref\":\"web\"},\"conn\":1,\"dues\":2,\"moment\":5,\"reply\":{\"ticket\":0}}\n"
unfolding digits escape_byte encode_with line_text
line_of_wait = refl

pub line_of_list : line (Call.List false (Some 4) (record { key = Key.State; values = codes "exited" ∷ [] } ∷ [])) (empty)
    ≡ codes "{\"call\":{\"all\":false,\"filters\":{\"status\":[\"exited\"]},\"limit\":4,\"op\":\"list\"},\"conn\":1,\"dues\":2,\"moment\":5,\"reply\":{\"body\":\"\",\"status\":204}}\n"
unfolding digits escape_byte encode_with line_text
line_of_list = refl

-- a filter's keys stand in byte order, whatever the order of its rows
pub line_of_two_rows : line (Call.List true None (record { key = Key.State; values = codes "exited" ∷ [] } ∷ record { key = Key.Exited; values = codes "0" ∷ [] } ∷ [])) (empty)
    ≡ codes "{\"call\":{\"all\":true,\"filters\":{\"exited\":[\"0\"],\"status\":[\"exited\"]},\"limit\":null,\"op\":\"list\"},\"conn\":1,\"dues\":2,\"moment\":5,\"reply\":{\"body\":\"\",\"status\":204}}\n"
unfolding digits escape_byte encode_with line_text
line_of_two_rows = refl

pub line_of_logs : line (Call.Logs ref (record { follow = true; out = true; err = false; stamps = false; tail = None; least = 0; greatest = 9999999999999 })) (Reply.LogStream (record { owner = Owner.Container 0; out = true; err = false; stamps = false; first = 6; stop = Stop.NotRunning; least = 0; greatest = 9999999999999; feed = None }))
    ≡ codes "{\"call\":{\"err\":false,\"follow\":true,\"greatest\":9999999999999,\"least\":0,\"op\":\"logs\",\"out\":true,\"ref\":\"web\",\"stamps\":false,\"tail\":null},\"conn\":1,\"dues\":2,\"moment\":5,\"reply\":{\"from\":6,\"status\":200}}\n"
unfolding digits escape_byte encode_with line_text
line_of_logs = refl

pub line_of_attach : line (Call.Attach ref (record { logs = true; stream = true; stdin = false; out = true; err = false })) (empty)
    ≡ codes "{\"call\":{\"err\":false,\"logs\":true,\"op\":\"attach\",\"out\":true,\"ref\":\"web\",\"stdin\":false,\"stream\":true},\"conn\":1,\"dues\":2,\"moment\":5,\"reply\":{\"body\":\"\",\"status\":204}}\n"
unfolding digits escape_byte encode_with line_text
line_of_attach = refl

pub line_of_exec_create : line (Call.ExecCreate ref (codes "cat" ∷ []) true true false) (empty)
    ≡ codes "{\"call\":{\"err\":false,\"op\":\"exec_create\",\"out\":true,\"ref\":\"web\",\"stdin\":true,\"words\":[\"cat\"]},\"conn\":1,\"dues\":2,\"moment\":5,\"reply\":{\"body\":\"\",\"status\":204}}\n"
unfolding digits escape_byte encode_with line_text
line_of_exec_create = refl

pub line_of_exec_start : line (Call.ExecStart (codes "x1") true) (Reply.Answer 200 [])
    ≡ codes "{\"call\":{\"detach\":true,\"id\":\"x1\",\"op\":\"exec_start\"},\"conn\":1,\"dues\":2,\"moment\":5,\"reply\":{\"body\":\"\",\"status\":200}}\n"
unfolding digits escape_byte encode_with line_text
line_of_exec_start = refl

pub line_of_exec_inspect : line (Call.ExecInspect (codes "x1")) (empty)
    ≡ codes "{\"call\":{\"id\":\"x1\",\"op\":\"exec_inspect\"},\"conn\":1,\"dues\":2,\"moment\":5,\"reply\":{\"body\":\"\",\"status\":204}}\n"
unfolding digits escape_byte encode_with line_text
line_of_exec_inspect = refl

pub line_of_volume_create : line (Call.VolumeCreate (codes "data") (record { key = codes "k"; value = codes "v" } ∷ [])) (empty)
    ≡ codes "{\"call\":{\"labels\":{\"k\":\"v\"},\"name\":\"data\",\"op\":\"volume_create\"},\"conn\":1,\"dues\":2,\"moment\":5,\"reply\":{\"body\":\"\",\"status\":204}}\n"
unfolding digits escape_byte encode_with line_text
line_of_volume_create = refl

pub line_of_volume_inspect : line (Call.VolumeInspect (codes "data")) (empty)
    ≡ codes "{\"call\":{\"name\":\"data\",\"op\":\"volume_inspect\"},\"conn\":1,\"dues\":2,\"moment\":5,\"reply\":{\"body\":\"\",\"status\":204}}\n"
unfolding digits escape_byte encode_with line_text
line_of_volume_inspect = refl

pub line_of_volume_remove : line (Call.VolumeRemove (codes "data")) (empty)
    ≡ codes "{\"call\":{\"name\":\"data\",\"op\":\"volume_remove\"},\"conn\":1,\"dues\":2,\"moment\":5,\"reply\":{\"body\":\"\",\"status\":204}}\n"
unfolding digits escape_byte encode_with line_text
line_of_volume_remove = refl

pub line_of_volume_list : line (Call.VolumeList []) (empty)
    ≡ codes "{\"call\":{\"filters\":{},\"op\":\"volume_list\"},\"conn\":1,\"dues\":2,\"moment\":5,\"reply\":{\"body\":\"\",\"status\":204}}\n"
unfolding digits escape_byte encode_with line_text
line_of_volume_list = refl

pub line_of_events : line (Call.Events (Some 0) None (record { key = Key.Action; values = codes "die" ∷ codes "start" ∷ [] } ∷ [])) (Reply.EventStream 3 None [])
    ≡ codes "{\"call\":{\"filters\":{\"event\":[\"die\",\"start\"]},\"op\":\"events\",\"since\":0,\"until\":null},\"conn\":1,\"dues\":2,\"moment\":5,\"reply\":{\"from\":3,\"status\":200}}\n"
unfolding digits escape_byte encode_with line_text
line_of_events = refl

pub line_of_journal : line (Call.JournalRead) (Reply.JournalStream 4)
    ≡ codes "{\"call\":{\"op\":\"journal\"},\"conn\":1,\"dues\":2,\"moment\":5,\"reply\":{\"from\":4,\"status\":200}}\n"
unfolding digits escape_byte encode_with line_text
line_of_journal = refl

pub line_of_feed : line (Call.Feed (Owner.Container 0) 1 (97 ∷ 10 ∷ 255 ∷ [])) (Reply.Fed true)
    ≡ codes "{\"call\":{\"bytes\":\"610aff\",\"kind\":\"container\",\"number\":0,\"op\":\"feed\",\"run\":1},\"conn\":1,\"dues\":2,\"moment\":5,\"reply\":{\"fed\":true}}\n"
unfolding digits escape_byte encode_with line_text
line_of_feed = refl

pub line_of_feed_end : line (Call.FeedEnd (Owner.Exec 2) 1) (Reply.Fed false)
    ≡ codes "{\"call\":{\"kind\":\"exec\",\"number\":2,\"op\":\"feed_end\",\"run\":1},\"conn\":1,\"dues\":2,\"moment\":5,\"reply\":{\"fed\":false}}\n"
unfolding digits escape_byte encode_with line_text
line_of_feed_end = refl

pub line_of_take : line (Call.Take 7) (empty)
    ≡ codes "{\"call\":{\"op\":\"take\",\"ticket\":7},\"conn\":1,\"dues\":2,\"moment\":5,\"reply\":{\"body\":\"\",\"status\":204}}\n"
unfolding digits escape_byte encode_with line_text
line_of_take = refl

pub line_of_drop : line (Call.Drop 7) (Reply.Dropped)
    ≡ codes "{\"call\":{\"op\":\"drop\",\"ticket\":7},\"conn\":1,\"dues\":2,\"moment\":5,\"reply\":{\"dropped\":7}}\n"
unfolding digits escape_byte encode_with line_text
line_of_drop = refl

-- ---- of a history

-- create, start, the due step between, and the start of a running container
pub journal_of_starts : map (journal_line First) (drop 1 (history_entries scenes.charter (scenes.create (codes "deaf" ∷ []) ∷ scenes.start 0 ∷ Step.Due ∷ scenes.start 0 ∷ [])))
    ≡ codes "{\"call\":{\"op\":\"start\",\"ref\":\"web\"},\"conn\":0,\"dues\":0,\"moment\":1700000000000,\"reply\":{\"body\":\"\",\"status\":204}}\n"
    ∷ codes "{\"call\":{\"op\":\"start\",\"ref\":\"web\"},\"conn\":0,\"dues\":1,\"moment\":1700000000000,\"reply\":{\"body\":\"\",\"status\":304}}\n" ∷ []
unfolding digits escape_byte id_of key_bytes encode_with quarter_round column_round diagonal_round double_rounds block_word u32_at meet_waiting meeting_order line_text
journal_of_starts = refl

-- ---- format 2

-- a create has all its keys
pub second_line_of_create : journal_line Second (record { dues = 0; conn = 0; moment = 5; call = Call.Create (record spec { policy = Policy.No; labels = []; mounts = [] }); reply = empty })
    ≡ codes "{\"call\":{\"after\":-1,\"auto\":false,\"health\":null,\"image\":\"engine/tools\",\"labels\":{},\"maximum\":0,\"mounts\":[],\"name\":null,\"once\":false,\"op\":\"create\",\"policy\":\"no\",\"signal\":15,\"stdin\":true,\"words\":[\"exit\",\"1\"]},\"conn\":0,\"dues\":0,\"moment\":5,\"reply\":{\"body\":\"\",\"status\":204}}\n"
unfolding digits escape_byte encode_with line_text
second_line_of_create = refl

-- the header of the zero seed
pub header_of_zero : header_line (replicate 32 0) 1700000000000
    ≡ codes "{\"format\":2,\"moment\":1700000000000,\"seed\":\"0000000000000000000000000000000000000000000000000000000000000000\"}\n"
unfolding digits escape_byte encode_with line_text
header_of_zero = refl

-- a daemon's journal begins with it, and goes on with a line for each call
pub lines_of_starts : drop 2 (lines_of scenes.charter (scenes.create (codes "deaf" ∷ []) ∷ scenes.start 0 ∷ Step.Due ∷ scenes.start 0 ∷ []))
    ≡ codes "{\"call\":{\"op\":\"start\",\"ref\":\"web\"},\"conn\":0,\"dues\":0,\"moment\":1700000000000,\"reply\":{\"body\":\"\",\"status\":204}}\n"
    ∷ codes "{\"call\":{\"op\":\"start\",\"ref\":\"web\"},\"conn\":0,\"dues\":1,\"moment\":1700000000000,\"reply\":{\"body\":\"\",\"status\":304}}\n" ∷ []
unfolding digits escape_byte id_of key_bytes encode_with quarter_round column_round diagonal_round double_rounds block_word u32_at meet_waiting meeting_order line_text
lines_of_starts = refl
