-- A head has bytes: before the first, all of one may come.
use Rattle.std.proofs.Common.{◌≡◌, ℕ, List, [], ◌∷◌, ◌++◌, Bool, true, false, refl, sym, subst}
use Rattle.std.specs.Prelude.{⊤}
use Rattle.http_edge.specs.Response.{head_text, head_by}
use Rattle.http_edge.specs.declared.head.Head.{Head}
use Rattle.http_edge.specs.declared.head.Form.{Form}
use Rattle.http_edge.specs.declared.head.Form.TheVariants.{Json, Plain, Empty, ChunkedFrames, ChunkedJson, ChunkedPlain, Takeover}
use Rattle.response_reader.specs.Fronts.{BeginsWith, IsPartOf}
use Rattle.response_reader.specs.Heads.{IsHead}

abbrev HasBytes : List ℕ → Type 0
HasBytes [] = ⊥
HasBytes (b ∷ bytes) = ⊤

head_has : (form : Form) (status : ℕ) (close : Bool) → HasBytes (head_by form status close)
head_has (Json n) status close = tt
head_has (Plain n) status close = tt
head_has Empty status close = tt
head_has ChunkedFrames status close = tt
head_has (ChunkedJson first) status close = tt
head_has ChunkedPlain status close = tt
head_has (Takeover true) status close = tt
head_has (Takeover false) status close = tt

none_first : (bytes more : List ℕ) → HasBytes bytes → [] ≡ bytes ++ more → ⊥
none_first [] more has e = has
none_first (b ∷ bytes) more has e = cons_none b (bytes ++ more) (sym e)
  where
    cons_none : (b : ℕ) (bytes : List ℕ) → b ∷ bytes ≡ [] → ⊥
    cons_none b bytes e = cc

none_yet : (behind : List ℕ) → BeginsWith IsHead [] behind → ⊥
none_yet behind (text, (h, (fits, same)), e) =
    none_first text behind (subst HasBytes (sym same) (head_has h.form h.status h.close)) e

-- nothing is a part of a head
pub nothing_begins : IsPartOf IsHead []
nothing_begins = (none_yet, (head_text upgraded, (upgraded, ((refl, refl), refl))))
  where
    upgraded : Head
    upgraded = record { status = 101; form = Takeover true; close = false }
