-- What is done with a body as it comes (own).
use Rattle.std.specs.Prelude.{ℕ, ◌≡◌, ◌⊎◌, Bool, true, false, List, [], ◌++◌, Result, Err}
use Rattle.stream_frame.specs.Demuxing.{Held}
use Rattle.stream_frame.specs.Steps.{held_after}
use Rattle.stream_frame.specs.declared.fault.Ended.{Ended}
use Rattle.stream_frame.specs.declared.fault.Ended.TheVariants as ended
use Rattle.client_model.specs.Plans.{Written, nothing, to_out, is_too_long}
use Rattle.client_model.specs.Streams.{unread, is_border, is_wrong}
use Rattle.client_model.specs.declared.fault.Fault.{Fault}
use Rattle.client_model.specs.declared.fault.Fault.TheVariants as F
use Rattle.client_exchange.specs.Outputs.{IfUnwritten}
use Rattle.client_exchange.specs.Writing.{piece_written}
use Rattle.client_model.specs.declared.showing.Showing.{Showing}
use Rattle.client_model.specs.declared.showing.Showing.TheVariants.{Kept, Copied, Demuxed}

-- how a body is shown, the body where it is kept, and where its frames stand
pub record Taken : Type 0 where
  pub showing : Showing
  pub kept : List ℕ
  pub demux : Held

abbrev pub taken_by : Showing → List ℕ → Held → Taken
taken_by showing kept demux = record { showing = showing; kept = kept; demux = demux }

-- behind a body
abbrev pub taken : Showing → List ℕ → Taken
taken Kept body = taken_by Kept body unread
taken Copied body = taken_by Copied [] unread
taken Demuxed body = taken_by Demuxed [] (held_after unread body)

-- what a piece adds, by how it is shown and where the frames stand
abbrev pub adds_by : Showing → Held → List ℕ → Written
adds_by Kept demux piece = nothing
adds_by Copied demux piece = to_out piece
adds_by Demuxed demux piece = piece_written demux piece

abbrev pub adds : Taken → List ℕ → Written
adds t piece = adds_by t.showing t.demux piece

-- why a piece isn't taken: memory was refused for a body that is kept; or an output failed to which something of it was to be
-- written
abbrev pub IfUntaken : Result (Unit {0}) Fault → Showing → Written → Type 0
IfUntaken result showing w = ((showing ≡ Kept) × (result ≡ Err F.NoMemory)) ⊎ IfUnwritten result w

-- behind a piece more
abbrev pub after_by : Showing → List ℕ → Held → List ℕ → Taken
after_by Kept kept demux piece = taken_by Kept (kept ++ piece) demux
after_by Copied kept demux piece = taken_by Copied kept demux
after_by Demuxed kept demux piece = taken_by Demuxed kept (held_after demux piece)

abbrev pub after : Taken → List ℕ → Taken
after t piece = after_by t.showing t.kept t.demux piece

-- whether a body may end there, by where its frames stand
abbrev pub ends_at : Showing → Held → Bool
ends_at Kept demux = true
ends_at Copied demux = true
ends_at Demuxed demux = is_border demux.rest

abbrev pub ends_by : Taken → Bool
ends_by t = ends_at t.showing t.demux

-- a stream ended behind a whole frame
abbrev pub is_whole : Ended → Bool
is_whole ended.Whole = true
is_whole other = false

-- whether so much shows that it can't be taken, by what is kept and by where the frames stand
abbrev pub unfit_at : Showing → List ℕ → Held → Bool
unfit_at Kept kept demux = is_too_long kept
unfit_at Copied kept demux = false
unfit_at Demuxed kept demux = is_wrong demux.rest

abbrev pub unfit_by : Taken → Bool
unfit_by t = unfit_at t.showing t.kept t.demux

-- a stream of frames ended at a wrong byte
abbrev pub is_faulted : Ended → Bool
is_faulted (ended.Faulted fault) = true
is_faulted other = false
