-- Worked examples of the table.
use Rattle.std.proofs.Common.{◌≡◌, [], true, false, Some, None, codes, refl}
use Rattle.lab_front.specs.Queries.{decoded}
use Rattle.lab_front.specs.Forced.{is_forced}
use Rattle.lab_front.specs.Rows.{path_of, row_by}
use Rattle.lab_front.specs.declared.left.LeftOut.TheVariants as left
use Rattle.lab_front.specs.declared.table.Network.TheVariants as network
use Rattle.lab_front.specs.declared.table.Row.TheVariants as to

-- ---- paths

behind_a_version : path_of (codes "/v1.41/images/json?all=1") ≡ Some (codes "images/json")
behind_a_version = refl

lowest_version : path_of (codes "/v1.24/info") ≡ Some (codes "info")
lowest_version = refl

highest_version : path_of (codes "/v1.43/info") ≡ Some (codes "info")
highest_version = refl

version_too_new : path_of (codes "/v1.44/info") ≡ Some (codes "v1.44/info")
version_too_new = refl

without_a_version : path_of (codes "/networks/none") ≡ Some (codes "networks/none")
without_a_version = refl

-- ---- rows

one_image : row_by (codes "GET") [] (codes "images/engine/tools/json") ≡ Some to.Image
one_image = refl

another_image : row_by (codes "GET") [] (codes "images/redis:7/json") ≡ Some to.NoImage
another_image = refl

layers_of_another : row_by (codes "GET") [] (codes "images/redis:7/history") ≡ Some to.NoImage
layers_of_another = refl

tags_are_the_daemons : row_by (codes "GET") [] (codes "images/redis:7/tag") ≡ None
tags_are_the_daemons = refl

the_one_stays : row_by (codes "DELETE") [] (codes "images/engine/tools") ≡ Some to.ImageStays
the_one_stays = refl

removal_of_another : row_by (codes "DELETE") [] (codes "images/redis:7") ≡ Some to.NoImage
removal_of_another = refl

one_network : row_by (codes "GET") [] (codes "networks/host") ≡ Some (to.Network network.Host)
one_network = refl

another_network : row_by (codes "GET") [] (codes "networks/app_default") ≡ Some to.NoNetwork
another_network = refl

what_a_swarm_keeps : row_by (codes "GET") [] (codes "services/web/logs") ≡ Some to.NoSwarm
what_a_swarm_keeps = refl

processes_are_left_out : row_by (codes "GET") [] (codes "containers/web/top") ≡ Some (to.LeftOut left.Top)
processes_are_left_out = refl

the_list_is_the_daemons : row_by (codes "GET") [] (codes "containers/json") ≡ None
the_list_is_the_daemons = refl

size_of_an_exec : row_by (codes "POST") [] (codes "exec/0123/resize") ≡ Some (to.LeftOut left.Resize)
size_of_an_exec = refl

containers_are_removed_one_by_one : row_by (codes "POST") [] (codes "containers/prune") ≡ Some (to.LeftOut left.Prune)
containers_are_removed_one_by_one = refl

info_is_read_alone : row_by (codes "POST") [] (codes "info") ≡ None
info_is_read_alone = refl

-- ---- queries

no_volume_is_without_a_name : row_by (codes "POST") (codes "filters=%7B%7D") (codes "volumes/prune") ≡ Some to.PrunedVolumes
unfolding decoded
no_volume_is_without_a_name = refl

all_volumes_are_left_out : row_by (codes "POST") (codes "filters=%7B%22all%22%3A%5B%22true%22%5D%7D") (codes "volumes/prune") ≡ Some (to.LeftOut left.Prune)
unfolding decoded
all_volumes_are_left_out = refl

one_image_is_fetched : row_by (codes "POST") (codes "fromImage=engine%2Ftools&tag=latest") (codes "images/create") ≡ Some to.Pulled
unfolding decoded
one_image_is_fetched = refl

so_is_it_by_its_registry : row_by (codes "POST") (codes "fromImage=docker.io%2Fengine%2Ftools&tag=latest") (codes "images/create") ≡ Some to.Pulled
unfolding decoded
so_is_it_by_its_registry = refl

another_image_is_not : row_by (codes "POST") (codes "fromImage=redis&tag=7") (codes "images/create") ≡ Some to.NoPull
unfolding decoded
another_image_is_not = refl

filters_as_tools_write_them : row_by (codes "GET") (codes "all=0&filters=%7B%22reference%22%3A+%5B%22engine%2Ftools%22%5D%7D") (codes "images/json") ≡ Some to.Images
unfolding decoded
filters_as_tools_write_them = refl

other_filters_leave_it_out : row_by (codes "GET") (codes "filters=%7B%22dangling%22%3A%7B%22true%22%3Atrue%7D%7D") (codes "images/json") ≡ Some to.NoImages
unfolding decoded
other_filters_leave_it_out = refl

-- ---- removals

force_as_the_command_line_writes_it : is_forced (codes "DELETE /v1.43/volumes/data?force=1 HTTP/1.1\r\n") ≡ true
unfolding decoded
force_as_the_command_line_writes_it = refl

force_as_the_library_writes_it : is_forced (codes "DELETE /v1.41/volumes/data?force=True HTTP/1.1\r\n") ≡ true
unfolding decoded
force_as_the_library_writes_it = refl

no_force : is_forced (codes "DELETE /v1.43/volumes/data?force=0 HTTP/1.1\r\n") ≡ false
unfolding decoded
no_force = refl
