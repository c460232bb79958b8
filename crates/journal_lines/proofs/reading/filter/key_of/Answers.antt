use Rattle.std.proofs.Common.{◌≡◌, ℕ, List, codes, Bool, true, false, refl, sym}
use Rattle.std.specs.Cmp.Lexicographic.{bytes_decides}
use Rattle.engine_text.specs.Texts.{same_bytes}
use Rattle.journal_lines.proofs.reading.filter.key_of.Goals as goal

differs : (word name : List ℕ) → (name ≡ word → ⊥) → same_bytes word name ≡ false
differs word name other = go (same_bytes word name) refl
  where
    go : (b : Bool) → same_bytes word name ≡ b → b ≡ false
    go true e = absurd (other (sym ((bytes_decides word name).0 e)))
    go false e = refl

pub returns-in_default : goal.returns-in_default
returns-in_default c =
    let no = c.in_default in
    let name = c.args.name.now in
    rw (
      differs (codes "type") name no.not-type,
      differs (codes "event") name no.not-event,
      differs (codes "container") name no.not-container,
      differs (codes "image") name no.not-image,
      differs (codes "volume") name no.not-volume,
      differs (codes "id") name no.not-id,
      differs (codes "name") name no.not-name,
      differs (codes "status") name no.not-status,
      differs (codes "exited") name no.not-exited,
      differs (codes "ancestor") name no.not-ancestor,
      differs (codes "label") name no.not-label,
    ) refl
