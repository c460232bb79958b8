-- A body that is taken piece by piece.
use Rattle.std.proofs.Common.{◌≡◌, ℕ, List, [], ◌∷◌, ◌++◌, false, refl, sym, ap}
use Rattle.client_model.specs.Plans.{nothing, joined}
use Rattle.stream_frame.specs.Demuxing.{Rest, Header, Payload, Faulted, ended_of}
use Rattle.stream_frame.specs.declared.fault.Ended.{Ended}
use Rattle.client_model.specs.Streams.{unread, is_border, is_wrong, shows, may_end, is_unfit}
use Rattle.client_exchange.specs.Taking.{taken, adds, after, ends_by, is_whole, unfit_by, is_faulted}
use Rattle.client_model.specs.declared.showing.Showing.{Showing}
use Rattle.client_model.specs.declared.showing.Showing.TheVariants.{Kept, Copied, Demuxed}
use Rattle.client_exchange.proofs.FrameLemmas.{pieces_joined, held_on}

pub nothing_shown : (showing : Showing) → nothing ≡ shows showing []
nothing_shown Kept = refl
nothing_shown Copied = refl
nothing_shown Demuxed = refl

pub taken_on : (showing : Showing) (body piece : List ℕ) → after (taken showing body) piece ≡ taken showing (body ++ piece)
taken_on Kept body piece = refl
taken_on Copied body piece = refl
taken_on Demuxed body piece = λ i. record { showing = Demuxed; kept = []; demux = sym (held_on unread body piece) i }

pub shown_on : (showing : Showing) (body piece : List ℕ) → joined (shows showing body) (adds (taken showing body) piece) ≡ shows showing (body ++ piece)
shown_on Kept body piece = refl
shown_on Copied body piece = refl
shown_on Demuxed body piece = sym (pieces_joined body piece)

pub ends_so : (showing : Showing) (body : List ℕ) → ends_by (taken showing body) ≡ may_end showing body
ends_so Kept body = refl
ends_so Copied body = refl
ends_so Demuxed body = refl

-- what a demultiplexer tells of its end
pub border_so : (rest : Rest) (ended : Ended) → ended ≡ ended_of rest → is_whole ended ≡ is_border rest
border_so (Header []) ended is = ap is_whole is
border_so (Header (b ∷ part)) ended is = ap is_whole is
border_so (Payload kind missing) ended is = ap is_whole is
border_so (Faulted fault) ended is = ap is_whole is

pub wrong_so : (rest : Rest) (ended : Ended) → ended ≡ ended_of rest → is_faulted ended ≡ is_wrong rest
wrong_so (Header []) ended is = ap is_faulted is
wrong_so (Header (b ∷ part)) ended is = ap is_faulted is
wrong_so (Payload kind missing) ended is = ap is_faulted is
wrong_so (Faulted fault) ended is = ap is_faulted is

pub unfit_so : (showing : Showing) (body : List ℕ) → unfit_by (taken showing body) ≡ is_unfit showing body
unfit_so Kept body = refl
unfit_so Copied body = refl
unfit_so Demuxed body = refl

-- before the first byte of a body nothing shows that
pub fit_first : (showing : Showing) → is_unfit showing [] ≡ false
fit_first Kept = refl
fit_first Copied = refl
fit_first Demuxed = refl
