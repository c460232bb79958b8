-- Data that a text gives back: whole numbers within 64 bits, and keys that rise (RFC 8259, sections 4 and 6; own: byte order).
use Rattle.std.specs.Prelude.{◌≡◌, ◌<◌, ◌^◌, ℕ, List, pos, negsuc, ⊤}
use Rattle.std.specs.Ordering.{nat_cmp}
use Rattle.std.specs.declared.cmp.Ordering.TheVariants.{Greater}
use Rattle.std.specs.Cmp.Lexicographic.{slice_cmp}
use Rattle.serde_json.specs.Data.{Num, unsigned, negative, float, Data, null, boolean, number, string, array, object, Items, no_items, item, Members, no_members, member}

-- every key is above k
abbrev pub AreAbove : List ℕ → Members → Type 0
AreAbove k no_members = ⊤
AreAbove k (member l d ms) = (slice_cmp nat_cmp l k ≡ Greater) × AreAbove k ms

-- a whole number that keeps its form: 0 to 2 ^ 64 - 1, or -2 ^ 63 to -1
abbrev pub IsWhole : Num → Type 0
IsWhole (unsigned n) = n < 2 ^ 64
IsWhole (negative (pos n)) = ⊥
IsWhole (negative (negsuc n)) = n < 2 ^ 63
IsWhole (float x) = ⊥

-- whole numbers alone, and in each object the keys rise
abbrev mutual
  pub IsPlain : Data → Type 0
  IsPlain null = ⊤
  IsPlain (boolean b) = ⊤
  IsPlain (number n) = IsWhole n
  IsPlain (string s) = ⊤
  IsPlain (array ds) = ArePlain ds
  IsPlain (object ms) = AreRising ms

  pub ArePlain : Items → Type 0
  ArePlain no_items = ⊤
  ArePlain (item d ds) = IsPlain d × ArePlain ds

  pub AreRising : Members → Type 0
  AreRising no_members = ⊤
  AreRising (member k d ms) = IsPlain d × AreAbove k ms × AreRising ms
