use Rattle.std.proofs.Common.{◌≡◌, drop}
use Rattle.serde_json.specs.Data.{no_members}
use Rattle.json_objects.specs.Object.{members_in}
use Rattle.journal_lines.specs.Fields.{put_fields}
use Rattle.journal_lines.specs.LentFields.{told_list}
use Rattle.journal_lines.proofs.writing.fields.fields_value.Given as goal

abbrev pub invariant-fields : goal.invariant-fields
invariant-fields l = put_fields l.fn.format (told_list (drop l.keyed-index l.fields)) (members_in l.object) ≡ put_fields l.fn.format (told_list l.fn.fields) no_members
