use Rattle.std.proofs.Common.{◌≡◌, refl, sym, ap, ap₂, ◌∙◌, codes, true, false}
use Rattle.client_model.specs.Client.{plan_of}
use Rattle.client_model.specs.Plans.{asks_and_prints}
use Rattle.client_model.specs.Commands.Container.{create_request}
use Rattle.client_model.specs.Commands.Start.{start_request}
use Rattle.client_model.specs.Commands.Pause.{pause_request}
use Rattle.client_model.specs.Commands.Unpause.{unpause_request}
use Rattle.client_model.specs.Commands.Stop.{stop_request}
use Rattle.client_model.specs.Commands.Restart.{restart_request}
use Rattle.client_model.specs.Commands.Kill.{kill_request}
use Rattle.client_model.specs.Commands.Remove.{remove_request}
use Rattle.client_model.specs.Commands.Rename.{rename_request}
use Rattle.client_model.specs.Commands.Update.{update_request}
use Rattle.client_model.specs.Commands.List.{list_request}
use Rattle.client_model.specs.Commands.Inspect.{inspect_request, inspect_plan}
use Rattle.client_model.specs.Commands.Version.{version_request}
use Rattle.client_model.specs.Commands.Logs.{logs_request, logs_plan}
use Rattle.client_model.specs.Commands.Attach.{attach_request, attach_plan}
use Rattle.client_model.specs.Commands.Exec.{exec_create_request, exec_plan}
use Rattle.client_model.specs.Commands.Wait.{wait_request, wait_plan}
use Rattle.client_model.specs.Commands.Events.{events_request, events_plan}
use Rattle.client_model.specs.Commands.Watch.{watch_plan}
use Rattle.client_model.specs.Commands.VolumeCreate.{volume_create_request}
use Rattle.client_model.specs.Commands.VolumeInspect.{volume_inspect_request, volume_inspect_plan}
use Rattle.client_model.specs.Commands.VolumeRemove.{volume_remove_request}
use Rattle.client_model.specs.Commands.VolumeList.{volume_list_request}
use Rattle.client_model.specs.Commands.Journal.{journal_request}
use Rattle.engine_client.proofs.StepLemmas.{begun, not_so, replayed}
use Rattle.engine_client.proofs.beginning.begin.Goals as goal

pub returns-in-Create : goal.returns-in-Create
returns-in-Create c = begun _ false _ _ (ap plan_of (sym c.in-Create.is)) (c.asks.ensures (create_request c.in-Create.container) c.create_request.ensures (λ never. refl))

pub returns-in-Run : goal.returns-in-Run
returns-in-Run c = begun _ c.in-Run.container.input _ _ (ap plan_of (sym c.in-Run.is)) (c.asks-in-Run.ensures (create_request c.in-Run.container) c.create_request-in-Run.ensures (λ never. absurd (not_so never)))

pub returns-in-Start : goal.returns-in-Start
returns-in-Start c = begun _ false _ _ (ap (λ t. asks_and_prints (start_request t) c.in-Start.target) c.as_str.ensures ∙ ap plan_of (sym c.in-Start.is)) (c.asks_and_prints.ensures (start_request c.as_str.result.now) c.start_request.ensures)

pub returns-in-Pause : goal.returns-in-Pause
returns-in-Pause c = begun _ false _ _ (ap (λ t. asks_and_prints (pause_request t) c.in-Pause.target) c.as_str-in-Pause.ensures ∙ ap plan_of (sym c.in-Pause.is)) (c.asks_and_prints-in-Pause.ensures (pause_request c.as_str-in-Pause.result.now) c.pause_request.ensures)

pub returns-in-Unpause : goal.returns-in-Unpause
returns-in-Unpause c = begun _ false _ _ (ap (λ t. asks_and_prints (unpause_request t) c.in-Unpause.target) c.as_str-in-Unpause.ensures ∙ ap plan_of (sym c.in-Unpause.is)) (c.asks_and_prints-in-Unpause.ensures (unpause_request c.as_str-in-Unpause.result.now) c.unpause_request.ensures)

pub returns-in-Stop : goal.returns-in-Stop
returns-in-Stop c = begun _ false _ _ (ap (λ t. asks_and_prints (stop_request t c.in-Stop.seconds) c.in-Stop.target) c.as_str-in-Stop.ensures ∙ ap plan_of (sym c.in-Stop.is)) (c.asks_and_prints-in-Stop.ensures (stop_request c.as_str-in-Stop.result.now c.in-Stop.seconds) c.stop_request.ensures)

pub returns-in-Restart : goal.returns-in-Restart
returns-in-Restart c = begun _ false _ _ (ap (λ t. asks_and_prints (restart_request t c.in-Restart.seconds) c.in-Restart.target) c.as_str-in-Restart.ensures ∙ ap plan_of (sym c.in-Restart.is)) (c.asks_and_prints-in-Restart.ensures (restart_request c.as_str-in-Restart.result.now c.in-Restart.seconds) c.restart_request.ensures)

pub returns-in-Kill : goal.returns-in-Kill
returns-in-Kill c = begun _ false _ _ (ap (λ t. asks_and_prints (kill_request t c.in-Kill.signal) c.in-Kill.target) c.as_str-in-Kill.ensures ∙ ap plan_of (sym c.in-Kill.is)) (c.asks_and_prints-in-Kill.ensures (kill_request c.as_str-in-Kill.result.now c.in-Kill.signal) c.kill_request.ensures)

pub returns-in-Remove : goal.returns-in-Remove
returns-in-Remove c = begun _ false _ _ (ap (λ t. asks_and_prints (remove_request t c.in-Remove.force) c.in-Remove.target) c.as_str-in-Remove.ensures ∙ ap plan_of (sym c.in-Remove.is)) (c.asks_and_prints-in-Remove.ensures (remove_request c.as_str-in-Remove.result.now c.in-Remove.force) c.remove_request.ensures)

pub returns-in-Rename : goal.returns-in-Rename
returns-in-Rename c = begun _ false _ _ (ap₂ (λ t n. asks_and_prints (rename_request t n) c.in-Rename.target) c.as_str-in-Rename.ensures c.as_str-in-Rename-2.ensures ∙ ap plan_of (sym c.in-Rename.is)) (c.asks_and_prints-in-Rename.ensures (rename_request c.as_str-in-Rename.result.now c.as_str-in-Rename-2.result.now) c.rename_request.ensures)

pub returns-in-Update : goal.returns-in-Update
returns-in-Update c = begun _ false _ _ (ap (λ t. asks_and_prints (update_request t c.in-Update.restart) c.in-Update.target) c.as_str-in-Update.ensures ∙ ap plan_of (sym c.in-Update.is)) (c.asks_and_prints-in-Update.ensures (update_request c.as_str-in-Update.result.now c.in-Update.restart) c.update_request.ensures)

pub returns-in-List : goal.returns-in-List
returns-in-List c = begun _ false _ _ (ap plan_of (sym c.in-List.is)) (c.asks-in-List.ensures (list_request c.in-List.all) c.list_request.ensures (λ never. refl))

pub returns-in-Inspect : goal.returns-in-Inspect
returns-in-Inspect c = begun _ false _ _ (ap inspect_plan c.as_str-in-Inspect.ensures ∙ ap plan_of (sym c.in-Inspect.is)) (c.asks-in-Inspect.ensures (inspect_request c.as_str-in-Inspect.result.now) c.inspect_request.ensures (λ never. refl))

pub returns-in-Version : goal.returns-in-Version
returns-in-Version c = begun _ false _ _ (ap plan_of (sym c.in-Version.is)) (c.asks-in-Version.ensures (version_request) c.version_request.ensures (λ never. refl))

pub returns-in-Logs : goal.returns-in-Logs
returns-in-Logs c = begun _ false _ _ (ap (λ t. logs_plan t c.in-Logs.follow) c.as_str-in-Logs.ensures ∙ ap plan_of (sym c.in-Logs.is)) (c.asks-in-Logs.ensures (logs_request c.as_str-in-Logs.result.now c.in-Logs.follow) c.logs_request.ensures (λ never. refl))

pub returns-in-Attach : goal.returns-in-Attach
returns-in-Attach c = begun _ false _ _ (ap attach_plan c.as_str-in-Attach.ensures ∙ ap plan_of (sym c.in-Attach.is)) (c.asks-in-Attach.ensures (attach_request c.as_str-in-Attach.result.now false) c.attach_request.ensures (λ never. refl))

pub returns-in-Exec : goal.returns-in-Exec
returns-in-Exec c = begun _ c.in-Exec.input _ _ (ap₂ (λ t ws. exec_plan t ws c.in-Exec.input) c.as_str-in-Exec.ensures c.as_slice.ensures ∙ ap plan_of (sym c.in-Exec.is)) (c.asks-in-Exec.ensures (exec_create_request c.as_str-in-Exec.result.now c.as_slice.result.now c.in-Exec.input) c.exec_create_request.ensures (λ never. absurd (not_so never)))

pub returns-in-Wait : goal.returns-in-Wait
returns-in-Wait c = begun _ false _ _ (ap wait_plan c.as_str-in-Wait.ensures ∙ ap plan_of (sym c.in-Wait.is)) (c.asks-in-Wait.ensures (wait_request c.as_str-in-Wait.result.now) c.wait_request.ensures (λ never. refl))

pub returns-in-Events : goal.returns-in-Events
returns-in-Events c = begun _ false _ _ (ap₂ events_plan c.as_str-in-Events.ensures c.as_str-in-Events-2.ensures ∙ ap plan_of (sym c.in-Events.is)) (c.asks-in-Events.ensures (events_request c.as_str-in-Events.result.now c.as_str-in-Events-2.result.now) c.events_request.ensures (λ never. refl))

pub returns-in-Watch : goal.returns-in-Watch
returns-in-Watch c = begun _ false _ _ (ap watch_plan c.as_str-in-Watch.ensures ∙ ap plan_of (sym c.in-Watch.is)) (c.asks-in-Watch.ensures (events_request (codes "0") c.as_str-in-Watch.result.now) c.events_request-in-Watch.ensures (λ never. refl))

pub returns-in-Health : goal.returns-in-Health
returns-in-Health c = begun _ false _ _ (ap plan_of (sym c.in-Health.is)) c.asks_check.ensures

pub returns-in-VolumeCreate : goal.returns-in-VolumeCreate
returns-in-VolumeCreate c = begun _ false _ _ (ap (λ t. asks_and_prints (volume_create_request t) c.in-VolumeCreate.name) c.as_str-in-VolumeCreate.ensures ∙ ap plan_of (sym c.in-VolumeCreate.is)) (c.asks_and_prints-in-VolumeCreate.ensures (volume_create_request c.as_str-in-VolumeCreate.result.now) c.volume_create_request.ensures)

pub returns-in-VolumeInspect : goal.returns-in-VolumeInspect
returns-in-VolumeInspect c = begun _ false _ _ (ap volume_inspect_plan c.as_str-in-VolumeInspect.ensures ∙ ap plan_of (sym c.in-VolumeInspect.is)) (c.asks-in-VolumeInspect.ensures (volume_inspect_request c.as_str-in-VolumeInspect.result.now) c.volume_inspect_request.ensures (λ never. refl))

pub returns-in-VolumeRemove : goal.returns-in-VolumeRemove
returns-in-VolumeRemove c = begun _ false _ _ (ap (λ t. asks_and_prints (volume_remove_request t) c.in-VolumeRemove.name) c.as_str-in-VolumeRemove.ensures ∙ ap plan_of (sym c.in-VolumeRemove.is)) (c.asks_and_prints-in-VolumeRemove.ensures (volume_remove_request c.as_str-in-VolumeRemove.result.now) c.volume_remove_request.ensures)

pub returns-in-VolumeList : goal.returns-in-VolumeList
returns-in-VolumeList c = begun _ false _ _ (ap plan_of (sym c.in-VolumeList.is)) (c.asks-in-VolumeList.ensures (volume_list_request) c.volume_list_request.ensures (λ never. refl))

pub returns-in-Journal : goal.returns-in-Journal
returns-in-Journal c = begun _ false _ _ (ap plan_of (sym c.in-Journal.is)) (c.asks-in-Journal.ensures (journal_request) c.journal_request.ensures (λ never. refl))

pub returns-in-Replay : goal.returns-in-Replay
returns-in-Replay c = replayed _ c.in-Replay.upgrade c.in-Replay.seed c.in-Replay.moment (sym c.in-Replay.is) c.requires
