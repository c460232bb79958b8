use Rattle.api_json.proofs.mount_forms.mount_fields.Goals as goal

pub returns : goal.returns
returns c = rw (c.in_ok-kind.ensures, c.in_ok-source.ensures, c.in_ok-target.ensures, ← c.in_ok-read_only.ensures) c.told_mount.ensures
