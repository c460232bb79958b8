-- Ids of distinct numbers differ.
use Rattle.std.proofs.Common.{◌≡◌, ◌≢◌, ℕ, ◌^◌, ◌<◌, List, drop, Ok, ap, sym, ◌∙◌, arith}
use Rattle.std.proofs.lemmas.Nat.{from_be_bytes-to_be_bytes_8}
use Rattle.std.specs.Int.{w64, from_be_bytes}
use Rattle.hex.specs.Hex.{encode_lower, decode_of}
use Rattle.hex.proofs.HexLemmas.{decode_of-encode_lower, decode_of-same}
use Rattle.engine_text.specs.Id.{id_of, id_bytes, IdsDiffer}
use Rattle.engine_text.proofs.IdLemmas.{the_tail, IsBytes-id_bytes}

-- no two numbers have one id
pub ids_differ : IdsDiffer
unfolding id_of
ids_differ = λ seed m n hm hn same.
    let a = decode_of-encode_lower (id_bytes seed m) (IsBytes-id_bytes seed m) in
    let b = decode_of-encode_lower (id_bytes seed n) (IsBytes-id_bytes seed n) in
    let of_m : decode_of (encode_lower (id_bytes seed m)) ≡ Ok (id_bytes seed n) = rw same b in
    let bytes = decode_of-same (encode_lower (id_bytes seed m)) (id_bytes seed m) (id_bytes seed n) a of_m in
    let tails = sym (the_tail seed m) ∙ ap (drop 24) bytes ∙ the_tail seed n in
    sym (from_be_bytes-to_be_bytes_8 m hm) ∙ ap (from_be_bytes w64) tails ∙ from_be_bytes-to_be_bytes_8 n hn

-- the id of a number below differs
pub id_of_below : (seed : List ℕ) (m n : ℕ) (id : List ℕ) → m < n → n < 2 ^ 64 → id ≡ id_of seed m → id ≢ id_of seed n
id_of_below seed m n id low most is same =
    let e : m ≡ n = ids_differ seed m n (omega (arith, low, most)) most (sym is ∙ same) in
    absurd (omega (arith, low, e))
