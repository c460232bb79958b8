-- What pieces of a body come to (Docker Engine API v1.43, ContainerAttach, "Stream format").
use Rattle.std.specs.Prelude.{ℕ, ◌≡◌, true, List, ◌++◌}
use Rattle.engine_text.specs.declared.script.Stream.TheVariants.{Stdout, Stderr}
use Rattle.stream_frame.specs.Frames.{Part, frames_of, AreParts, payload_of}
use Rattle.stream_frame.specs.Demuxing.{AreBytes}
use Rattle.client_model.specs.Plans.{Written, joined}
use Rattle.client_model.specs.Streams.{payloads_of, ends_frames, shows, may_end, is_unfit}
use Rattle.client_exchange.specs.Taking.{taken, adds, after, ends_by, unfit_by}
use Rattle.client_model.specs.declared.showing.Showing.{Showing}

-- behind a piece more, what was taken is the longer body, and what was written is what that shows
abbrev pub Pieces : Type 0
Pieces = (showing : Showing) (body piece : List ℕ)
    → (after (taken showing body) piece ≡ taken showing (body ++ piece))
    × (joined (shows showing body) (adds (taken showing body) piece) ≡ shows showing (body ++ piece))

-- behind a body it is told whether that may end, and whether so much shows that it can't be taken
abbrev pub Ends : Type 0
Ends = (showing : Showing) (body : List ℕ)
    → (ends_by (taken showing body) ≡ may_end showing body) × (unfit_by (taken showing body) ≡ is_unfit showing body)

-- what parts carry for standard output, and for standard error
abbrev pub carried_by : List Part → Written
carried_by parts = record { out = payload_of Stdout parts; err = payload_of Stderr parts }

-- of a stream of frames, a frame for each part, what is shown is what the parts carry, in order, and it may end behind them
abbrev pub Frames : Type 0
Frames = (parts : List Part) → AreParts parts → AreBytes (frames_of parts)
    → (payloads_of (frames_of parts) ≡ carried_by parts) × (ends_frames (frames_of parts) ≡ true)
