-- What every call obeys.
use Rattle.std.proofs.Common.{ℕ}
use Rattle.machine_model.specs.State.{State}
use Rattle.machine_model.specs.Call.{outcome_of}
use Rattle.machine_model.proofs.ObeyLemmas.{Obeys}
use Rattle.machine_model.proofs.Calls.CreateLemmas.{create_obeys}
use Rattle.machine_model.proofs.Calls.StartLemmas.{start_obeys}
use Rattle.machine_model.proofs.Calls.StopLemmas.{stop_obeys}
use Rattle.machine_model.proofs.Calls.RestartLemmas.{restart_obeys}
use Rattle.machine_model.proofs.Calls.KillLemmas.{kill_obeys}
use Rattle.machine_model.proofs.Calls.PauseLemmas.{pause_obeys}
use Rattle.machine_model.proofs.Calls.UnpauseLemmas.{unpause_obeys}
use Rattle.machine_model.proofs.Calls.RenameLemmas.{rename_obeys}
use Rattle.machine_model.proofs.Calls.UpdateLemmas.{update_obeys}
use Rattle.machine_model.proofs.Calls.RemoveLemmas.{remove_obeys}
use Rattle.machine_model.proofs.Calls.WaitLemmas.{wait_obeys}
use Rattle.machine_model.proofs.Calls.InspectLemmas.{inspect_obeys}
use Rattle.machine_model.proofs.Calls.ListLemmas.{list_obeys}
use Rattle.machine_model.proofs.Calls.LogsLemmas.{logs_obey}
use Rattle.machine_model.proofs.Calls.AttachLemmas.{attach_obeys}
use Rattle.machine_model.proofs.Calls.ExecCreateLemmas.{exec_create_obeys}
use Rattle.machine_model.proofs.Calls.ExecStartLemmas.{exec_start_obeys, exec_inspect_obeys}
use Rattle.machine_model.proofs.Calls.VolumesLemmas.{volume_create_obeys, volume_inspect_obeys, volume_remove_obeys, volume_list_obeys}
use Rattle.machine_model.proofs.Calls.EventsLemmas.{events_obey, journal_obeys}
use Rattle.machine_model.proofs.Calls.FeedLemmas.{feed_obeys, feed_end_obeys}
use Rattle.machine_model.proofs.Calls.TakeLemmas.{take_obeys, drop_obeys}
use Rattle.engine_text.specs.declared.call.Call.{Call}

pub obeys : (c : Call) (connection : ℕ) (s : State) → Obeys c s (outcome_of c connection s)
obeys (Call.Create spec) connection s = create_obeys spec connection s
obeys (Call.Start target) connection s = start_obeys target connection s
obeys (Call.Stop target wait signal) connection s = stop_obeys target wait signal connection s
obeys (Call.Restart target wait signal) connection s = restart_obeys target wait signal connection s
obeys (Call.Kill target signal) connection s = kill_obeys target signal connection s
obeys (Call.Pause target) connection s = pause_obeys target connection s
obeys (Call.Unpause target) connection s = unpause_obeys target connection s
obeys (Call.Rename target name) connection s = rename_obeys target name connection s
obeys (Call.Update target policy) connection s = update_obeys target policy connection s
obeys (Call.Remove target force) connection s = remove_obeys target force connection s
obeys (Call.Wait target until) connection s = wait_obeys target until connection s
obeys (Call.Inspect target) connection s = inspect_obeys target connection s
obeys (Call.List all limit filter) connection s = list_obeys all limit filter connection s
obeys (Call.Logs target ask) connection s = logs_obey target ask connection s
obeys (Call.Attach target ask) connection s = attach_obeys target ask connection s
obeys (Call.ExecCreate target words stdin out err) connection s = exec_create_obeys target words stdin out err connection s
obeys (Call.ExecStart id detach) connection s = exec_start_obeys id detach connection s
obeys (Call.ExecInspect id) connection s = exec_inspect_obeys id connection s
obeys (Call.VolumeCreate name labels) connection s = volume_create_obeys name labels connection s
obeys (Call.VolumeInspect name) connection s = volume_inspect_obeys name connection s
obeys (Call.VolumeRemove name) connection s = volume_remove_obeys name connection s
obeys (Call.VolumeList filter) connection s = volume_list_obeys filter connection s
obeys (Call.Events since until filter) connection s = events_obey since until filter connection s
obeys Call.JournalRead connection s = journal_obeys connection s
obeys (Call.Feed owner run bytes) connection s = feed_obeys owner run bytes connection s
obeys (Call.FeedEnd owner run) connection s = feed_end_obeys owner run connection s
obeys (Call.Take ticket) connection s = take_obeys ticket connection s
obeys (Call.Drop ticket) connection s = drop_obeys ticket connection s
