-- One request of each command, spelled to the byte (Docker Engine API v1.43; RFC 9112, section 3).
use Rattle.std.proofs.Common.{◌≡◌, ℕ, List, [], ◌∷◌, ◌++◌, true, codes, refl}
use Rattle.std.specs.Fmt.{digits}
use Rattle.json.specs.Print.{escape_byte}
use Rattle.form_urlencoded.specs.Form.{byte_serialize}
use Rattle.percent_encoding.specs.Percent.{percent_encode_byte}
use Rattle.client_model.specs.Requests.{request_bytes}
use Rattle.client_model.specs.Plans.{Plan, Ends, Asks, Judges}
use Rattle.client_model.specs.Client.{plan_for}
use Rattle.client_model.specs.Commands.Attach.{attach_request}
use Rattle.client_model.specs.Commands.Exec.{exec_start_request, exec_inspect_request}
use Rattle.client_model.specs.Commands.Health.{container_events_request}
use Rattle.client_model.proofs.LineFacts.{words_of, address}

-- the first request of a plan
first_of : Plan → List ℕ
first_of (Ends w ending) = []
first_of (Asks w asked next) = request_bytes asked.request
first_of (Judges charter next) = []

-- the first request of a line
abbrev asked : List ℕ → List ℕ
asked text = first_of (plan_for (address ∷ words_of text))

-- the head of a request that closes its connection, and of one that is to take it over
abbrev closing : List ℕ → List ℕ
closing first = first ++ codes " HTTP/1.1\r\nHost: engine\r\nConnection: close\r\n\r\n"

abbrev upgrading : List ℕ → List ℕ
upgrading first = first ++ codes " HTTP/1.1\r\nHost: engine\r\nConnection: Upgrade\r\nUpgrade: tcp\r\n\r\n"

create : asked (codes "create --name web --restart on-failure:5 -v d:/d engine/tools exit 7")
    ≡ codes "POST /v1.43/containers/create?name=web HTTP/1.1\r\nHost: engine\r\nConnection: close\r\nContent-Length: 171\r\nContent-Type: application/json\r\n\r\n{\"Cmd\":[\"exit\",\"7\"],\"HostConfig\":{\"Binds\":[\"d:/d\"],\"RestartPolicy\":{\"MaximumRetryCount\":5,\"Name\":\"on-failure\"}},\"Image\":\"engine/tools\",\"OpenStdin\":false,\"StdinOnce\":false}"
unfolding first_of digits escape_byte byte_serialize percent_encode_byte
create = refl

run : asked (codes "run -i engine/tools cat")
    ≡ codes "POST /v1.43/containers/create HTTP/1.1\r\nHost: engine\r\nConnection: close\r\nContent-Length: 150\r\nContent-Type: application/json\r\n\r\n{\"Cmd\":[\"cat\"],\"HostConfig\":{\"Binds\":[],\"RestartPolicy\":{\"MaximumRetryCount\":0,\"Name\":\"no\"}},\"Image\":\"engine/tools\",\"OpenStdin\":true,\"StdinOnce\":true}"
unfolding first_of digits escape_byte byte_serialize percent_encode_byte
run = refl

start : asked (codes "start web") ≡ closing (codes "POST /v1.43/containers/web/start")
unfolding first_of byte_serialize percent_encode_byte
start = refl

-- a slash and a blank of a reference are escaped
pause : first_of (plan_for (address ∷ codes "pause" ∷ codes "/a b" ∷ [])) ≡ closing (codes "POST /v1.43/containers/%2Fa%20b/pause")
unfolding first_of byte_serialize percent_encode_byte
pause = refl

unpause : asked (codes "unpause web") ≡ closing (codes "POST /v1.43/containers/web/unpause")
unfolding first_of byte_serialize percent_encode_byte
unpause = refl

stop : asked (codes "stop -t 10 web") ≡ closing (codes "POST /v1.43/containers/web/stop?t=10")
unfolding first_of byte_serialize percent_encode_byte
stop = refl

restart : asked (codes "restart web") ≡ closing (codes "POST /v1.43/containers/web/restart")
unfolding first_of byte_serialize percent_encode_byte
restart = refl

kill : asked (codes "kill -s TERM web") ≡ closing (codes "POST /v1.43/containers/web/kill?signal=TERM")
unfolding first_of byte_serialize percent_encode_byte
kill = refl

rm : asked (codes "rm -f web") ≡ closing (codes "DELETE /v1.43/containers/web?force=1")
unfolding first_of byte_serialize percent_encode_byte
rm = refl

-- a value of a query is escaped as a form has it
rename : first_of (plan_for (address ∷ codes "rename" ∷ codes "web" ∷ codes "a b&c" ∷ [])) ≡ closing (codes "POST /v1.43/containers/web/rename?name=a+b%26c")
unfolding first_of byte_serialize percent_encode_byte
rename = refl

update : asked (codes "update --restart on-failure:5 web")
    ≡ codes "POST /v1.43/containers/web/update HTTP/1.1\r\nHost: engine\r\nConnection: close\r\nContent-Length: 61\r\nContent-Type: application/json\r\n\r\n{\"RestartPolicy\":{\"MaximumRetryCount\":5,\"Name\":\"on-failure\"}}"
unfolding first_of digits escape_byte byte_serialize percent_encode_byte
update = refl

ps : asked (codes "ps -a") ≡ closing (codes "GET /v1.43/containers/json?all=1")
unfolding first_of byte_serialize percent_encode_byte
ps = refl

inspect : asked (codes "inspect web") ≡ closing (codes "GET /v1.43/containers/web/json")
unfolding first_of byte_serialize percent_encode_byte
inspect = refl

version : asked (codes "version") ≡ closing (codes "GET /v1.43/version")
unfolding first_of byte_serialize percent_encode_byte
version = refl

logs : asked (codes "logs -f web") ≡ closing (codes "GET /v1.43/containers/web/logs?stdout=1&stderr=1&follow=1")
unfolding first_of byte_serialize percent_encode_byte
logs = refl

attach : asked (codes "attach web") ≡ upgrading (codes "POST /v1.43/containers/web/attach?logs=1&stream=1&stdout=1&stderr=1")
unfolding first_of byte_serialize percent_encode_byte
attach = refl

-- `run -i` feeds it
attach_fed : request_bytes (attach_request (codes "web") true)
    ≡ upgrading (codes "POST /v1.43/containers/web/attach?logs=1&stream=1&stdout=1&stderr=1&stdin=1")
unfolding byte_serialize percent_encode_byte
attach_fed = refl

exec : asked (codes "exec web echo x")
    ≡ codes "POST /v1.43/containers/web/exec HTTP/1.1\r\nHost: engine\r\nConnection: close\r\nContent-Length: 80\r\nContent-Type: application/json\r\n\r\n{\"AttachStderr\":true,\"AttachStdin\":false,\"AttachStdout\":true,\"Cmd\":[\"echo\",\"x\"]}"
unfolding first_of digits escape_byte byte_serialize percent_encode_byte
exec = refl

exec_start : request_bytes (exec_start_request (codes "1f")) ≡ upgrading (codes "POST /v1.43/exec/1f/start")
unfolding byte_serialize percent_encode_byte
exec_start = refl

exec_inspect : request_bytes (exec_inspect_request (codes "1f")) ≡ closing (codes "GET /v1.43/exec/1f/json")
unfolding byte_serialize percent_encode_byte
exec_inspect = refl

wait : asked (codes "wait web") ≡ closing (codes "POST /v1.43/containers/web/wait?condition=not-running")
unfolding first_of byte_serialize percent_encode_byte
wait = refl

events : asked (codes "events 0 1700000000") ≡ closing (codes "GET /v1.43/events?since=0&until=1700000000")
unfolding first_of byte_serialize percent_encode_byte
events = refl

watch : asked (codes "watch 1700000000") ≡ closing (codes "GET /v1.43/events?since=0&until=1700000000")
unfolding first_of byte_serialize percent_encode_byte
watch = refl

health : asked (codes "health 1700000000 web") ≡ closing (codes "GET /v1.43/containers/web/json")
unfolding first_of byte_serialize percent_encode_byte
health = refl

container_events : request_bytes (container_events_request (codes "1700000000") (codes "1f"))
    ≡ closing (codes "GET /v1.43/events?since=0&until=1700000000&filters=%7B%22container%22%3A%5B%221f%22%5D%7D")
unfolding escape_byte byte_serialize percent_encode_byte
container_events = refl

volume_create : asked (codes "volume create data")
    ≡ codes "POST /v1.43/volumes/create HTTP/1.1\r\nHost: engine\r\nConnection: close\r\nContent-Length: 15\r\nContent-Type: application/json\r\n\r\n{\"Name\":\"data\"}"
unfolding first_of digits escape_byte byte_serialize percent_encode_byte
volume_create = refl

volume_inspect : asked (codes "volume inspect data") ≡ closing (codes "GET /v1.43/volumes/data")
unfolding first_of byte_serialize percent_encode_byte
volume_inspect = refl

volume_rm : asked (codes "volume rm data") ≡ closing (codes "DELETE /v1.43/volumes/data")
unfolding first_of byte_serialize percent_encode_byte
volume_rm = refl

volume_ls : asked (codes "volume ls") ≡ closing (codes "GET /v1.43/volumes")
unfolding first_of byte_serialize percent_encode_byte
volume_ls = refl

journal : asked (codes "journal") ≡ closing (codes "GET /v1.43/engine/journal")
unfolding first_of byte_serialize percent_encode_byte
journal = refl

-- a journal is replayed without a connection
replay : asked (codes "replay 1700000000000") ≡ []
unfolding first_of
replay = refl
