use Rattle.std.proofs.Common.{◌≡◌, [], drop}
use Rattle.api_json.specs.MountForms.{add_binds}
use Rattle.api_json.proofs.mount_forms.add_binds.Given as goal

abbrev pub invariant-texts : goal.invariant-texts
invariant-texts l = add_binds l.mounts (drop l.text-index l.texts) ≡ add_binds [] l.fn.texts
