-- The bytes of a response (RFC 9112, section 4; the lines of Docker Engine API v1.43).
use Rattle.std.specs.Prelude.{ℕ, Bool, true, false, Option, Some, None, List, [], ◌++◌, length, codes, decimal, unwrap_or, if◌then◌else◌}
use Rattle.http.specs.StatusCode.{reason_phrase}
use Rattle.http_edge.specs.Message.{Request}
use Rattle.http_edge.specs.Asks.{is_head}
use Rattle.http_edge.specs.declared.head.Head.{Head}
use Rattle.http_edge.specs.declared.head.Form.{Form}
use Rattle.http_edge.specs.declared.head.Form.TheVariants.{Json, Plain, Empty, ChunkedFrames, ChunkedJson, ChunkedPlain, Takeover}

-- the canonical phrase of a status, or none
abbrev pub phrase_of : ℕ → List ℕ
phrase_of status = unwrap_or (reason_phrase status) []

-- the media types
abbrev pub json_type : List ℕ
json_type = codes "application/json"

abbrev pub plain_type : List ℕ
plain_type = codes "text/plain; charset=utf-8"

abbrev pub frames_type : List ℕ
frames_type = codes "application/vnd.docker.multiplexed-stream"

-- the line that closes the connection, where it is asked for
abbrev pub connection_line : Bool → List ℕ
connection_line close = if close then codes "Connection: close\r\n" else []

-- the lines before those of the form
abbrev pub first_lines : ℕ → Bool → List ℕ
first_lines status close =
    codes "HTTP/1.1 " ++ decimal status ++ codes " " ++ phrase_of status ++ codes "\r\nApi-Version: 1.43\r\n"
    ++ connection_line close

-- the lines of a body of so many bytes
abbrev pub sized_lines : ℕ → List ℕ → List ℕ
sized_lines n type =
    codes "Content-Length: " ++ decimal n ++ codes "\r\nContent-Type: " ++ type ++ codes "\r\nServer: engined\r\n"

-- the lines of a body by chunks
abbrev pub chunked_lines : List ℕ → List ℕ
chunked_lines type =
    codes "Content-Type: " ++ type ++ codes "\r\nServer: engined\r\nTransfer-Encoding: chunked\r\n"

-- the line that tells the number of the first event
abbrev pub from_line : Option ℕ → List ℕ
from_line None = []
from_line (Some n) = codes "X-Engine-From: " ++ decimal n ++ codes "\r\n"

-- the lines that the form decides
abbrev pub form_lines : Form → List ℕ
form_lines (Json n) = sized_lines n json_type
form_lines (Plain n) = sized_lines n plain_type
form_lines Empty = codes "Server: engined\r\n"
form_lines ChunkedFrames = chunked_lines frames_type
form_lines (ChunkedJson first) = chunked_lines json_type ++ from_line first
form_lines ChunkedPlain = chunked_lines plain_type
form_lines (Takeover upgrade) = []

-- the whole head of a response that takes the connection over
abbrev pub takeover_head : Bool → List ℕ
takeover_head true = codes "HTTP/1.1 101 UPGRADED\r\nContent-Type: application/vnd.docker.multiplexed-stream\r\nConnection: Upgrade\r\nUpgrade: tcp\r\n\r\n"
takeover_head false = codes "HTTP/1.1 200 OK\r\nContent-Type: application/vnd.docker.raw-stream\r\n\r\n"

-- the head of a response that does not
abbrev pub framed_head : ℕ → Bool → Form → List ℕ
framed_head status close form = first_lines status close ++ form_lines form ++ codes "\r\n"

-- the head of a response; one that takes over has no status of its own and does not close
abbrev pub head_by : Form → ℕ → Bool → List ℕ
head_by (Takeover upgrade) status close = takeover_head upgrade
head_by form status close = framed_head status close form

abbrev pub head_text : Head → List ℕ
head_text head = head_by head.form head.status head.close

-- a response to the request: its head, and its body but to HEAD
abbrev pub response_bytes : Request → Head → List ℕ → List ℕ
response_bytes request head body = if is_head request then head_text head else head_text head ++ body

-- what a refusal tells
abbrev pub refusal_body : ℕ → List ℕ
refusal_body status = codes "{\"message\":\"" ++ phrase_of status ++ codes "\"}"

-- the response to a refused request: it closes the connection
abbrev pub refusal_bytes : ℕ → List ℕ
refusal_bytes status =
    head_text (record { status = status; form = Json (length (refusal_body status)); close = true }) ++ refusal_body status
