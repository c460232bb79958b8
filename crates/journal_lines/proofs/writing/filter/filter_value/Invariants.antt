use Rattle.std.proofs.Common.{◌≡◌, drop}
use Rattle.serde_json.specs.Data.{no_members}
use Rattle.journal_lines.specs.Fields.{put_rows}
use Rattle.json_objects.specs.Object.{members_in}
use Rattle.journal_lines.proofs.writing.filter.filter_value.Given as goal

abbrev pub invariant-rows : goal.invariant-rows
invariant-rows l = put_rows (drop l.row-index l.rows) (members_in l.object) ≡ put_rows l.fn.rows no_members
