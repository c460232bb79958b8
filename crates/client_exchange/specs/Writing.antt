-- What pieces of a body add to the outputs (Docker Engine API v1.43, ContainerAttach, "Stream format").
use Rattle.std.specs.Prelude.{ℕ, ◌<◌, List, [], ◌∷◌, length, Ok, Err, ⊤}
use Rattle.engine_text.specs.declared.script.Stream.TheVariants.{Stdout, Stderr}
use Rattle.stream_frame.specs.Frames.{Part, payload_of}
use Rattle.stream_frame.specs.Demuxing.{Held, Item}
use Rattle.stream_frame.specs.Steps.{items_of}
use Rattle.client_model.specs.Plans.{Written}
use Rattle.client_model.specs.Streams.{parts_of}

-- the payloads of parts: stream 1 to standard output, 2 to standard error
abbrev pub parts_written : List Part → Written
parts_written parts = record { out = payload_of Stdout parts; err = payload_of Stderr parts }

abbrev pub part_written : Part → Written
part_written part = parts_written (part ∷ [])

-- of items, those of their parts
abbrev pub items_written : List Item → Written
items_written items = parts_written (parts_of items)

-- of a piece, behind what a demultiplexer took
abbrev pub piece_written : Held → List ℕ → Written
piece_written held piece = items_written (items_of held piece)

-- each part has a byte
abbrev pub HaveBytes : List Item → Type 0
HaveBytes [] = ⊤
HaveBytes (Ok part ∷ items) = (0 < length part.1) × HaveBytes items
HaveBytes (Err fault ∷ items) = HaveBytes items
