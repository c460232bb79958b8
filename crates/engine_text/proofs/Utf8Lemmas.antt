-- Lists of texts stay UTF-8 as they grow.
use Rattle.std.proofs.Common.{◌≡◌, ℕ, ◌+◌, ◌<◌, List, [], ◌∷◌, ◌++◌, length, take, get_or, Bool, true, false, cond, IsUtf8, sym, ap, ◌∙◌}
use Rattle.std.proofs.lemmas.List.{take_more}
use Rattle.engine_text.specs.declared.pairs.Pair.{Pair}
use Rattle.engine_text.specs.declared.mounts.Mount.{Mount}
use Rattle.engine_text.specs.declared.filter.FilterRow.{FilterRow}
use Rattle.engine_text.specs.Words.{AreUtf8}
use Rattle.engine_text.specs.Pairs.{ArePairsUtf8}
use Rattle.engine_text.specs.Mounts.{AreMountsUtf8}
use Rattle.engine_text.specs.Filter.{AreRowsUtf8}

-- the items up to the next one
pub take_next : {X : Type 0} (xs : List X) (i : ℕ) (x : X) → i < length xs → x ≡ get_or xs i x
    → take (i + 1) xs ≡ take i xs ++ x ∷ []
take_next xs i x low is = take_more xs i x low ∙ ap (λ y. take i xs ++ y ∷ []) (sym is)

pub AreUtf8-push : (ts : List (List ℕ)) (t : List ℕ) → AreUtf8 ts → IsUtf8 t → AreUtf8 (ts ++ t ∷ [])
AreUtf8-push [] t h u = (u, tt)
AreUtf8-push (s ∷ ts) t h u = (h.0, AreUtf8-push ts t h.1 u)

-- whether or not there was room
pub AreUtf8-try : (b : Bool) (ts : List (List ℕ)) (t : List ℕ) → AreUtf8 ts → IsUtf8 t
    → AreUtf8 (cond b (ts ++ t ∷ []) ts)
AreUtf8-try true ts t h u = AreUtf8-push ts t h u
AreUtf8-try false ts t h u = h

pub ArePairsUtf8-push : (ps : List Pair) (p : Pair) → ArePairsUtf8 ps → IsUtf8 p.key → IsUtf8 p.value
    → ArePairsUtf8 (ps ++ p ∷ [])
ArePairsUtf8-push [] p h u v = (u, v, tt)
ArePairsUtf8-push (q ∷ ps) p h u v = (h.0, h.1, ArePairsUtf8-push ps p h.2 u v)

-- whether or not there was room
pub ArePairsUtf8-try : (b : Bool) (ps : List Pair) (p : Pair) → ArePairsUtf8 ps → IsUtf8 p.key → IsUtf8 p.value
    → ArePairsUtf8 (cond b (ps ++ p ∷ []) ps)
ArePairsUtf8-try true ps p h u v = ArePairsUtf8-push ps p h u v
ArePairsUtf8-try false ps p h u v = h

pub AreMountsUtf8-push : (ms : List Mount) (m : Mount) → AreMountsUtf8 ms → IsUtf8 m.volume → IsUtf8 m.target
    → AreMountsUtf8 (ms ++ m ∷ [])
AreMountsUtf8-push [] m h u v = (u, v, tt)
AreMountsUtf8-push (n ∷ ms) m h u v = (h.0, h.1, AreMountsUtf8-push ms m h.2 u v)

-- whether or not there was room
pub AreMountsUtf8-try : (b : Bool) (ms : List Mount) (m : Mount) → AreMountsUtf8 ms → IsUtf8 m.volume → IsUtf8 m.target
    → AreMountsUtf8 (cond b (ms ++ m ∷ []) ms)
AreMountsUtf8-try true ms m h u v = AreMountsUtf8-push ms m h u v
AreMountsUtf8-try false ms m h u v = h

pub AreRowsUtf8-push : (rs : List FilterRow) (r : FilterRow) → AreRowsUtf8 rs → AreUtf8 r.values → AreRowsUtf8 (rs ++ r ∷ [])
AreRowsUtf8-push [] r h u = (u, tt)
AreRowsUtf8-push (s ∷ rs) r h u = (h.0, AreRowsUtf8-push rs r h.1 u)

-- whether or not there was room
pub AreRowsUtf8-try : (b : Bool) (rs : List FilterRow) (r : FilterRow) → AreRowsUtf8 rs → AreUtf8 r.values
    → AreRowsUtf8 (cond b (rs ++ r ∷ []) rs)
AreRowsUtf8-try true rs r h u = AreRowsUtf8-push rs r h u
AreRowsUtf8-try false rs r h u = h
