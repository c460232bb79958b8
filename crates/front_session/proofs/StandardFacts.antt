-- Worked examples of a rest.
use Rattle.std.proofs.Common.{◌≡◌, ℕ, List, ◌++◌, Bool, true, false, codes, refl}
use Rattle.std.specs.Fmt.{digits}
use Rattle.http_edge.specs.Response.{takeover_head, head_text}
use Rattle.http_edge.specs.declared.head.Form.TheVariants.{ChunkedFrames}
use Rattle.front_session.specs.Resting.{rest_of}

-- behind each head that takes a connection over, with or without bytes behind it
behind_a_takeover : (upgrade : Bool) (more : List ℕ) → rest_of (takeover_head upgrade ++ more) ≡ 20
behind_a_takeover true more = refl
behind_a_takeover false more = refl

-- frames by chunks are read through the buffer of the head
none_behind_chunks : rest_of (head_text (record { status = 200; form = ChunkedFrames; close = false })) ≡ 0
unfolding digits
none_behind_chunks = refl

none_behind_frames : rest_of (codes "hello\n") ≡ 0
none_behind_frames = refl
