-- The requests that are answered the same at each time, and what they are answered (Docker Engine API v1.43, the operations of
-- images, networks and system; own: the one image, and the three networks, in which nothing is).
use Rattle.std.specs.Prelude.{ℕ, List, ◌++◌, codes}
use Rattle.lab_front.specs.Left.{left_text, no_swarm_text}
use Rattle.lab_front.specs.declared.table.Network.{Network}
use Rattle.lab_front.specs.declared.table.Network.TheVariants.{Bridge, Host, None}
use Rattle.lab_front.specs.declared.table.Row.{Row}
use Rattle.lab_front.specs.declared.table.Row.TheVariants as to

-- ---- the daemon

unfoldable pub info_text : List ℕ
info_text =
    codes "{\"Architecture\":\"x86_64\",\"Driver\":\"vfs\",\"ID\":\"engined\",\"Images\":1,"
    ++ codes "\"IndexServerAddress\":\"https://index.docker.io/v1/\",\"KernelVersion\":\"\",\"Labels\":[],"
    ++ codes "\"LoggingDriver\":\"json-file\",\"MemTotal\":0,\"NCPU\":1,\"Name\":\"engined\",\"OSType\":\"linux\","
    ++ codes "\"OperatingSystem\":\"engined\",\"Plugins\":{\"Authorization\":[],\"Log\":[\"json-file\"],"
    ++ codes "\"Network\":[\"bridge\",\"host\",\"null\"],\"Volume\":[\"local\"]},\"RegistryConfig\":{\"IndexConfigs\":{},"
    ++ codes "\"InsecureRegistryCIDRs\":[],\"Mirrors\":[]},\"ServerVersion\":\"1.0.0\","
    ++ codes "\"Swarm\":{\"ControlAvailable\":false,\"LocalNodeState\":\"inactive\",\"NodeID\":\"\"}}"

abbrev pub disk_text : List ℕ
disk_text = codes "{\"BuildCache\":[],\"Containers\":[],\"Images\":[],\"LayersSize\":0,\"Volumes\":[]}"

-- ---- the one image

abbrev pub image_id : List ℕ
image_id = codes "dc2452a28ddfa42c3d90bbaea861195fde1209aa4b1575039c91db3968531778"

unfoldable pub image_list_text : List ℕ
image_list_text =
    codes "[{\"Containers\":-1,\"Created\":0,\"Id\":\"sha256:" ++ image_id
    ++ codes "\",\"Labels\":{},\"ParentId\":\"\",\"RepoDigests\":[],\"RepoTags\":[\"engine/tools:latest\"],"
    ++ codes "\"SharedSize\":-1,\"Size\":0,\"VirtualSize\":0}]"

-- what a container of it begins with
abbrev pub config_text : List ℕ
config_text =
    codes "{\"AttachStderr\":false,\"AttachStdin\":false,\"AttachStdout\":false,\"Cmd\":[\"hello\"],\"Domainname\":\"\","
    ++ codes "\"Entrypoint\":null,\"Env\":[],\"Hostname\":\"\",\"Image\":\"\",\"Labels\":{},\"OnBuild\":null,"
    ++ codes "\"OpenStdin\":false,\"StdinOnce\":false,\"Tty\":false,\"User\":\"\",\"Volumes\":null,\"WorkingDir\":\"\"}"

unfoldable pub image_text : List ℕ
image_text =
    codes "{\"Architecture\":\"amd64\",\"Author\":\"\",\"Comment\":\"\",\"Config\":" ++ config_text
    ++ codes ",\"Container\":\"\",\"ContainerConfig\":" ++ config_text
    ++ codes ",\"Created\":\"1970-01-01T00:00:00Z\",\"DockerVersion\":\"\",\"GraphDriver\":{\"Data\":null,\"Name\":\"vfs\"},"
    ++ codes "\"Id\":\"sha256:" ++ image_id
    ++ codes "\",\"Metadata\":{\"LastTagTime\":\"1970-01-01T00:00:00Z\"},\"Os\":\"linux\",\"Parent\":\"\","
    ++ codes "\"RepoDigests\":[],\"RepoTags\":[\"engine/tools:latest\"],\"RootFS\":{\"Layers\":[],\"Type\":\"layers\"},"
    ++ codes "\"Size\":0,\"VirtualSize\":0}"

abbrev pub no_image_text : List ℕ
no_image_text = codes "{\"message\":\"No such image\"}"

-- fetched, as it stands already
unfoldable pub pulled_text : List ℕ
pulled_text =
    codes "{\"status\":\"Pulling from engine/tools\",\"id\":\"latest\"}\r\n"
    ++ codes "{\"status\":\"Status: Image is up to date for engine/tools:latest\"}\r\n"

abbrev pub no_pull_text : List ℕ
no_pull_text = codes "{\"message\":\"pull access denied, repository does not exist or may require 'docker login'\"}"

-- ---- the networks

abbrev pub network_by : List ℕ → List ℕ → List ℕ → List ℕ
network_by name driver id =
    codes "{\"Attachable\":false,\"ConfigFrom\":{\"Network\":\"\"},\"ConfigOnly\":false,\"Containers\":{},"
    ++ codes "\"Created\":\"1970-01-01T00:00:00Z\",\"Driver\":\"" ++ driver
    ++ codes "\",\"EnableIPv6\":false,\"IPAM\":{\"Config\":[],\"Driver\":\"default\",\"Options\":null},\"Id\":\"" ++ id
    ++ codes "\",\"Ingress\":false,\"Internal\":false,\"Labels\":{},\"Name\":\"" ++ name
    ++ codes "\",\"Options\":{},\"Scope\":\"local\"}"

abbrev pub network_text : Network → List ℕ
network_text Bridge =
    network_by (codes "bridge") (codes "bridge") (codes "17f29b073143d8cd97b5bbe492bdeffec1c5fee55cc1fe2112c8b9335f8b6121")
network_text Host =
    network_by (codes "host") (codes "host") (codes "4740ae6347b0172c01254ff55bae5aff5199f4446e7f6d643d40185b3f475145")
network_text None =
    network_by (codes "none") (codes "null") (codes "140bedbf9c3f6d56a9846d2ba7088798683f4da0c248231336e6a05679e4fdfe")

unfoldable pub network_list_text : List ℕ
network_list_text =
    codes "[" ++ network_text Bridge ++ codes "," ++ network_text Host ++ codes "," ++ network_text None ++ codes "]"

abbrev pub no_network_text : List ℕ
no_network_text = codes "{\"message\":\"network not found\"}"

-- ---- the table

abbrev pub status_of : Row → ℕ
status_of to.NoImage = 404
status_of to.NoNetwork = 404
status_of to.NoPull = 404
status_of to.ImageStays = 409
status_of (to.LeftOut left) = 501
status_of to.NoSwarm = 503
status_of other = 200

abbrev pub text_of : Row → List ℕ
text_of to.Info = info_text
text_of to.DiskUse = disk_text
text_of to.Images = image_list_text
text_of to.NoImages = codes "[]"
text_of to.Image = image_text
text_of to.Layers = codes "[]"
text_of to.ImageStays = codes "{\"message\":\"conflict: the image can't be removed\"}"
text_of to.NoImage = no_image_text
text_of to.Pulled = pulled_text
text_of to.NoPull = no_pull_text
text_of to.Networks = network_list_text
text_of (to.Network network) = network_text network
text_of to.NoNetwork = no_network_text
text_of to.PrunedImages = codes "{\"ImagesDeleted\":null,\"SpaceReclaimed\":0}"
text_of to.PrunedNetworks = codes "{\"NetworksDeleted\":null}"
text_of to.PrunedBuilds = codes "{\"CachesDeleted\":null,\"SpaceReclaimed\":0}"
text_of to.PrunedVolumes = codes "{\"VolumesDeleted\":null,\"SpaceReclaimed\":0}"
text_of to.Plugins = codes "[]"
text_of to.NoSwarm = no_swarm_text
text_of (to.LeftOut left) = left_text left
