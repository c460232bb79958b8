-- What an inspect of a container shows beside what the daemon tells (Docker Engine API v1.43, ContainerInspect: Driver, NetworkSettings,
-- Platform, HostConfig.LogConfig, HostConfig.NetworkMode; v1.18: ImageID; own: their values).
use Rattle.std.specs.Prelude.{ℕ, List, ◌++◌, codes}

-- the first members of the container
unfoldable pub own_members : List ℕ
own_members =
    codes "{\"Driver\":\"vfs\","
    ++ codes "\"ImageID\":\"sha256:dc2452a28ddfa42c3d90bbaea861195fde1209aa4b1575039c91db3968531778\","
    ++ codes "\"NetworkSettings\":{\"IPAddress\":\"\",\"Networks\":{},\"Ports\":{}},\"Platform\":\"linux\","

-- the key of the host's settings, which stands in no JSON text inside of another
unfoldable pub host_key : List ℕ
host_key = codes "\"HostConfig\":{"

-- the first members of the host's settings
unfoldable pub host_members : List ℕ
host_members = codes "\"LogConfig\":{\"Config\":{},\"Type\":\"json-file\"},\"NetworkMode\":\"default\","
