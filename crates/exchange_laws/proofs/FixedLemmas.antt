-- Messages that are always the same, as they are written.
use Rattle.std.proofs.Common.{◌≡◌, ℕ, List, refl, sym, subst}
use Rattle.std.specs.Prelude.{codes}
use Rattle.json.specs.Print.{escape_byte}
use Rattle.machine_model.specs.Outcome.{message_text}
use Rattle.exchange_laws.specs.Fixed.{fixed_text}
use Rattle.exchange_laws.specs.declared.fixed.Fixed.{Fixed}

pub memory_message : codes "{\"message\":\"out of memory\"}" ≡ message_text (codes "out of memory")
unfolding escape_byte
memory_message = refl

pub full_message : codes "{\"message\":\"journal is full\"}" ≡ message_text (codes "journal is full")
unfolding escape_byte
full_message = refl

pub stopping_message : codes "{\"message\":\"stopping\"}" ≡ message_text (codes "stopping")
unfolding escape_byte
stopping_message = refl

pub written_as : (fixed known : Fixed) (bytes : List ℕ) → fixed ≡ known → bytes ≡ message_text (fixed_text known) → bytes ≡ message_text (fixed_text fixed)
written_as fixed known bytes is same = subst (λ f. bytes ≡ message_text (fixed_text f)) (sym is) same
