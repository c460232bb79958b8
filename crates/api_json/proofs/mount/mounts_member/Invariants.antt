use Rattle.std.proofs.Common.{drop}
use Rattle.api_json.specs.Mount.{mount_data}
use Rattle.api_json.specs.Values.{list_of}
use Rattle.api_json.specs.Written.{member_tokens}
use Rattle.api_json.proofs.WrittenLemmas.{Lacks, items_left}
use Rattle.api_json.proofs.mount.mounts_member.Given as goal

abbrev pub invariant-mounts : goal.invariant-mounts
invariant-mounts l = Lacks l.fn.out l.out (items_left mount_data (drop l.mount-index l.mounts)) (member_tokens l.key (list_of mount_data l.mounts))
