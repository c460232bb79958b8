-- Worked examples of what is handed on, byte for byte.
use Rattle.std.proofs.Common.{◌≡◌, ℕ, List, [], Some, None, codes, refl}
use Rattle.http_edge.specs.Message.{Request}
use Rattle.lab_handed.specs.Changes.{change_of, handed}
use Rattle.lab_handed.specs.Exact.{exact_by}
use Rattle.lab_handed.specs.declared.changing.Change.TheVariants.{Early, Since, Exact}

-- a request without fields
abbrev asking : List ℕ → List ℕ → Request
asking method target = record { method = method; target = target; fields = []; body = [] }

-- ---- waits

a_wait : change_of (asking (codes "POST") (codes "/v1.43/containers/web/wait?condition=removed")) ≡ Some Early
a_wait = refl

a_wait_without_a_version : change_of (asking (codes "POST") (codes "/containers/web/wait")) ≡ Some Early
a_wait_without_a_version = refl

a_start : change_of (asking (codes "POST") (codes "/v1.43/containers/web/start")) ≡ None
a_start = refl

by_another_method : change_of (asking (codes "GET") (codes "/v1.43/containers/web/wait")) ≡ None
by_another_method = refl

as_tools_write_it :
    handed Early (codes "POST /v1.43/containers/web/wait HTTP/1.1\r\nHost: x\r\nContent-Length: 0\r\n\r\n")
    ≡ codes "POST /v1.43/containers/web/wait HTTP/1.1\r\nX-Engine-Early: wait\r\nHost: x\r\nContent-Length: 0\r\n\r\n"
as_tools_write_it = refl

behind_an_empty_line :
    handed Early (codes "\r\nPOST /containers/web/wait HTTP/1.1\nHost: x\n\n")
    ≡ codes "\r\nPOST /containers/web/wait HTTP/1.1\nX-Engine-Early: wait\r\nHost: x\n\n"
behind_an_empty_line = refl

-- ---- events

until_a_moment : change_of (asking (codes "GET") (codes "/v1.43/events?until=1700000000")) ≡ Some Since
until_a_moment = refl

with_an_empty_since : change_of (asking (codes "GET") (codes "/events?since=&until=1700000000")) ≡ Some Since
with_an_empty_since = refl

from_a_moment_on : change_of (asking (codes "GET") (codes "/v1.43/events?since=1&until=1700000000")) ≡ None
from_a_moment_on = refl

without_an_end : change_of (asking (codes "GET") (codes "/v1.43/events?until=")) ≡ None
without_an_end = refl

all_to_come : change_of (asking (codes "GET") (codes "/v1.43/events")) ≡ None
all_to_come = refl

as_the_command_line_writes_it :
    handed Since (codes "GET /v1.43/events?filters=%7B%7D&until=1700000000 HTTP/1.1\r\nHost: x\r\n\r\n")
    ≡ codes "GET /v1.43/events?since=0&filters=%7B%7D&until=1700000000 HTTP/1.1\r\nHost: x\r\n\r\n"
as_the_command_line_writes_it = refl

-- ---- lists

-- as a client in Go writes it
one_name : change_of (asking (codes "GET") (codes "/v1.43/containers/json?all=1&filters=%7B%22name%22%3A%7B%22%5E%2Fweb%24%22%3Atrue%7D%7D")) ≡ Some Exact
one_name = refl

-- as one in Python does
one_name_with_a_limit :
    change_of (asking (codes "GET") (codes "/v1.41/containers/json?limit=-1&all=1&filters=%7B%22name%22%3A+%5B%22%5E%2Fmy_app.web-1%24%22%5D%7D")) ≡ Some Exact
one_name_with_a_limit = refl

a_part_of_a_name : change_of (asking (codes "GET") (codes "/v1.43/containers/json?filters=%7B%22name%22%3A%7B%22web%22%3Atrue%7D%7D")) ≡ None
a_part_of_a_name = refl

the_newest_of_a_name :
    change_of (asking (codes "GET") (codes "/v1.43/containers/json?limit=1&filters=%7B%22name%22%3A%7B%22%5E%2Fweb%24%22%3Atrue%7D%7D")) ≡ None
the_newest_of_a_name = refl

its_name : exact_by (codes "GET /v1.43/containers/json?filters=&all=1&filters=%7B%22name%22%3A%7B%22%5E%2Fweb%24%22%3Atrue%7D%7D HTTP/1.1\r\n") ≡ Some (codes "web")
its_name = refl

no_name : exact_by (codes "GET /v1.43/containers/json?all=1&filters=%7B%22name%22%3A%7B%22web%22%3Atrue%7D%7D HTTP/1.1\r\n") ≡ None
no_name = refl
