use Rattle.std.proofs.Common.{codes, drop}
use Rattle.api_json.specs.Values.{list_of}
use Rattle.api_json.specs.Volume.{volume_data}
use Rattle.api_json.specs.Written.{member_tokens}
use Rattle.api_json.proofs.WrittenLemmas.{Lacks, items_left}
use Rattle.api_json.proofs.volume.volumes_member.Given as goal

abbrev pub invariant-volumes : goal.invariant-volumes
invariant-volumes l = Lacks l.fn.out l.out (items_left volume_data (drop l.volume-index l.volumes)) (member_tokens (codes "Volumes") (list_of volume_data l.volumes))
