-- A wait as it is handed on, with a field that asks for its head early (Docker Engine API v1.43, ContainerWait; RFC 9112, section 5; own: the
-- field).
use Rattle.std.specs.Prelude.{ℕ, List, ◌∷◌, Bool, false, ◌&&◌, nat_lt, Option, Some, None, length, nat_eq, codes}
use Rattle.std.specs.List.{starts_with, ends_with}
use Rattle.std.specs.Str.{bytes_eq}
use Rattle.httparse.specs.Grammar.{Field, crlf, RequestHead}
use Rattle.http_edge.specs.Limits.{field_limit}
use Rattle.http_edge.specs.Message.{Request}
use Rattle.lab_front.specs.Rows.{path_of}

-- ---- which request

-- the path of a wait for a container
abbrev pub is_wait : List ℕ → Bool
is_wait path = starts_with nat_eq path (codes "containers/") && ends_with nat_eq path (codes "/wait")

abbrev pub is_path_of_wait : Option (List ℕ) → Bool
is_path_of_wait None = false
is_path_of_wait (Some path) = is_wait path

-- it waits for a container
abbrev pub waits : Request → Bool
waits request = bytes_eq request.method (codes "POST") && is_path_of_wait (path_of request.target)

-- and it can have one field more
abbrev pub takes_field : Request → Bool
takes_field request = waits request && nat_lt (length request.fields) field_limit

-- ---- with the field

-- the field, of a request and of a head
abbrev pub early_field : Field
early_field = record { name = codes "X-Engine-Early"; raw = codes " wait"; end = crlf }

abbrev pub with_field : Request → Request
with_field request = record request { fields = (codes "X-Engine-Early", codes "wait") ∷ request.fields }

abbrev pub early_head : RequestHead → RequestHead
early_head head = record head { fields = early_field ∷ head.fields }

-- its line
abbrev pub early_line : List ℕ
early_line = codes "X-Engine-Early: wait\r\n"
