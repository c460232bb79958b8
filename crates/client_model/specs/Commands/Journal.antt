-- `journal` (own: the text of the daemon's journal).
use Rattle.std.specs.Prelude.{ℕ, List, [], ◌∷◌, codes, Option}
use Rattle.http_edge.specs.Message.{Request}
use Rattle.client_model.specs.Words.{no_word}
use Rattle.client_model.specs.Requests.{get}
use Rattle.client_model.specs.Plans.{Plan, done}
use Rattle.client_model.specs.Streams.{copies}
use Rattle.client_model.specs.declared.command.Command.{Command}
use Rattle.client_model.specs.declared.command.Command.TheVariants as command

abbrev pub read_journal : List (List ℕ) → Option Command
read_journal = no_word command.Journal

-- GET /engine/journal
abbrev pub journal_request : Request
journal_request = get (codes "engine" ∷ codes "journal" ∷ []) []

-- it writes the journal's text
abbrev pub journal_plan : Plan
journal_plan = copies journal_request done
