-- What a segment's text is.
use Rattle.std.proofs.Common.{◌≡◌, ℕ, List, Bool, true, false, Ok, Err, refl, ◌&&◌, cond}
use Rattle.std.specs.Str.{IsUtf8, is_utf8}
use Rattle.std.proofs.lemmas.Str.{IsUtf8-from_is_utf8, is_utf8-from_IsUtf8}
use Rattle.percent_encoding.specs.Percent.{percent_decode}
use Rattle.api_routes.specs.declared.fault.Fault.TheVariants.{BadPath}
use Rattle.api_routes.specs.Path.{escapes_well, segment_text}

pub text-of : (s t : List ℕ) → escapes_well s ≡ true → IsUtf8 (percent_decode s) → t ≡ percent_decode s → segment_text s ≡ Ok t
unfolding segment_text
text-of s t e u q = rw (e, is_utf8-from_IsUtf8 _ u, q) refl

pub bad-escape : (s : List ℕ) → escapes_well s ≡ false → segment_text s ≡ Err BadPath
unfolding segment_text
bad-escape s e = rw e refl

pub no-text : (s : List ℕ) → (IsUtf8 (percent_decode s) → ⊥) → segment_text s ≡ Err BadPath
unfolding segment_text
no-text s never = by (escapes_well s) (is_utf8 (percent_decode s)) refl
  where
    by : (a b : Bool) → is_utf8 (percent_decode s) ≡ b → cond (a && b) (Ok (percent_decode s)) (Err BadPath) ≡ Err BadPath
    by true true e = absurd (never (IsUtf8-from_is_utf8 _ e))
    by true false e = refl
    by false b e = refl
