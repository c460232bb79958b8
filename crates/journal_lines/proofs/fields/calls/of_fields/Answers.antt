use Rattle.std.proofs.Common.{sym, subst}
use Rattle.engine_text.specs.declared.call.Call.{Call}
use Rattle.journal_lines.specs.CallFields.{fields_of}
use Rattle.journal_lines.proofs.fields.calls.of_fields.Goals as goal

pub returns-in-Logs : goal.returns-in-Logs
returns-in-Logs g c =
    subst (λ (call : Call). g.U.FieldsUse.gives c.args.how.now (fields_of call) c.logs_fields.result) (sym c.in-Logs.is) c.logs_fields.ensures

pub returns-in-VolumeInspect : goal.returns-in-VolumeInspect
returns-in-VolumeInspect g c =
    subst (λ (call : Call). g.U.FieldsUse.gives c.args.how.now (fields_of call) c.volume_fields.result) (sym c.in-VolumeInspect.is) c.volume_fields.ensures

pub returns-in-VolumeRemove : goal.returns-in-VolumeRemove
returns-in-VolumeRemove g c =
    subst (λ (call : Call). g.U.FieldsUse.gives c.args.how.now (fields_of call) c.volume_fields-in-VolumeRemove.result) (sym c.in-VolumeRemove.is) c.volume_fields-in-VolumeRemove.ensures

pub returns-in-Create : goal.returns-in-Create
returns-in-Create g c =
    subst (λ (call : Call). g.U.FieldsUse.gives c.args.how.now (fields_of call) c.create_fields.result) (sym c.in-Create.is) c.create_fields.ensures
