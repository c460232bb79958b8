-- A stream of whole frames, read byte by byte, gives its parts back.
use Rattle.std.proofs.Common.{◌≡◌, ℕ, List, [], ◌∷◌, ◌++◌, map, true, refl, ap, ◌∙◌, arith}
use Rattle.std.specs.Prelude.{filter, Ok}
use Rattle.engine_text.specs.declared.script.Stream.{Stream}
use Rattle.engine_text.specs.declared.script.Stream.TheVariants.{Stdout, Stderr}
use Rattle.stream_frame.specs.Frames.{Part, frames_of, AreParts, tagged, same_stream}
use Rattle.stream_frame.specs.Demuxing.{Rest, Header, Held, AreBytes, Demuxed, Adds, told_by}
use Rattle.stream_frame.specs.Steps.{held_after, items_of}
use Rattle.stream_frame.proofs.AddLemmas.{adds}
use Rattle.stream_frame.proofs.LawLemmas.{gives_back}
use Rattle.client_model.specs.Plans.{Written}
use Rattle.client_model.specs.Streams.{parts_of, unread, payloads_of, is_border, ends_frames}
use Rattle.client_exchange.specs.Laws.{carried_by}

-- items that are parts alone
parts_again : (parts : List Part) → parts_of (map Ok parts ++ []) ≡ parts
parts_again [] = refl
parts_again (part ∷ parts) = ap (λ l. part ∷ l) (parts_again parts)

-- what tagged bytes are for the two outputs
abbrev by_tags : List (Stream × ℕ) → Written
by_tags tags = record {
  out = map (λ tag. tag.1) (filter (λ tag. same_stream Stdout tag.0) tags);
  err = map (λ tag. tag.1) (filter (λ tag. same_stream Stderr tag.0) tags);
}

-- before the first byte
nothing_taken : Demuxed [] [] unread
nothing_taken = (record { parts = []; are_parts = tt; stream_is = refl; short = omega arith; begins = tt; given_is = refl }, refl)

module _ (parts : List Part) (are : AreParts parts) (bytes : AreBytes (frames_of parts)) where
  abbrev end : Held
  end = held_after unread (frames_of parts)

  abbrev read : Adds unread (frames_of parts) (items_of unread (frames_of parts)) end
  read = adds unread (frames_of parts) bytes

  back : (tagged read.parts ≡ tagged parts) × (end.rest ≡ Header [])
  back = gives_back parts (tagged read.parts) end.rest end.at are (read.goes_on [] [] nothing_taken)

  parts_are : parts_of (items_of unread (frames_of parts)) ≡ read.parts
  parts_are = ap parts_of (read.items_are ∙ ap (λ (r : Rest). map Ok read.parts ++ told_by r) back.1) ∙ parts_again read.parts

  pub frames_shown : payloads_of (frames_of parts) ≡ carried_by parts
  frames_shown = ap by_tags (ap tagged parts_are ∙ back.0)

  pub frames_end : ends_frames (frames_of parts) ≡ true
  frames_end = ap is_border back.1
