-- How a front treats a request (Docker Engine API v1.43, ContainerAttach and ExecStart; RFC 9112, section 9.6; own: that what it answers, or
-- changes, brings no body, and that behind a body by chunks it looks no more).
use Rattle.std.specs.Prelude.{ℕ, List, Bool, false, ◌==◌, ◌&&◌, ◌||◌, if◌then◌else◌, Option, Some, None, nat_eq, codes}
use Rattle.std.specs.List.{starts_with, ends_with}
use Rattle.std.specs.Str.{bytes_eq}
use Rattle.http_edge.specs.Message.{Request}
use Rattle.http_edge.specs.Asks.{closes}
use Rattle.http_edge.specs.Framing.{framing_of}
use Rattle.http_edge.specs.declared.framing.Framing.{Framing}
use Rattle.http_edge.specs.declared.framing.Framing.TheVariants.{Length}
use Rattle.lab_front.specs.Rows.{path_of, row_of}
use Rattle.lab_front.specs.declared.table.Row.{Row}
use Rattle.front_session.specs.declared.choosing.Way.{Way}
use Rattle.lab_handed.specs.Changes.{change_of}
use Rattle.lab_handed.specs.declared.changing.Change.{Change}
use Rattle.front_session.specs.declared.choosing.Way.TheVariants.{Answered, Closes, HandedOn, Changed, Opens}

-- the path of an attach
abbrev pub is_attach : List ℕ → Bool
is_attach path = starts_with nat_eq path (codes "containers/") && ends_with nat_eq path (codes "/attach")

-- the path of the start of an exec
abbrev pub is_exec_start : List ℕ → Bool
is_exec_start path = starts_with nat_eq path (codes "exec/") && ends_with nat_eq path (codes "/start")

abbrev pub is_path_over : Option (List ℕ) → Bool
is_path_over None = false
is_path_over (Some path) = is_attach path || is_exec_start path

-- it may take its connection over
abbrev pub may_take_over : Request → Bool
may_take_over request = bytes_eq request.method (codes "POST") && is_path_over (path_of request.target)

-- a request of the table is answered, and closes its connection where it asks for that
abbrev pub answer_way : Bool → Row → Way
answer_way closing row = if closing then Closes row else Answered row

-- what isn't of the table is handed on: without a body it may be changed
abbrev pub handed_way : ℕ → Option Change → Way
handed_way count None = HandedOn count
handed_way count (Some change) = if count == 0 then Changed change else HandedOn count

-- with a body of so many bytes: it is answered where it has a row and no body
abbrev pub way_by : ℕ → Bool → Option Change → Option Row → Way
way_by count closing change None = handed_way count change
way_by count closing change (Some row) = if count == 0 then answer_way closing row else HandedOn count

-- where its body is framed so
abbrev pub way_framed : Framing → Request → Way
way_framed (Length count) request =
    if may_take_over request then Opens else way_by count (closes request) (change_of request) (row_of request)
way_framed framing request = Opens

-- the front answers it, answers it and closes its connection, hands it on, as it came or changed, or hands it on and all behind it
abbrev pub way_of : Request → Way
way_of request = way_framed (framing_of 1 request.fields) request
