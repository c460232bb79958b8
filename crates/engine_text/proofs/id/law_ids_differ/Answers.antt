use Rattle.std.proofs.Common.{◌≡◌, drop, Ok, ap, sym, ◌∙◌}
use Rattle.std.specs.Int.{w64, from_be_bytes}
use Rattle.std.proofs.lemmas.Nat.{from_be_bytes-to_be_bytes_8}
use Rattle.hex.specs.Hex.{encode_lower, decode_of}
use Rattle.hex.proofs.HexLemmas.{decode_of-encode_lower, decode_of-same}
use Rattle.engine_text.specs.Id.{id_of, id_bytes}
use Rattle.engine_text.proofs.IdLemmas.{the_tail, IsBytes-id_bytes}
use Rattle.engine_text.proofs.id.law_ids_differ.Goals as goal

pub returns : goal.returns
unfolding id_of
returns c = λ seed m n hm hn same.
    let a = decode_of-encode_lower (id_bytes seed m) (IsBytes-id_bytes seed m) in
    let b = decode_of-encode_lower (id_bytes seed n) (IsBytes-id_bytes seed n) in
    let of_m : decode_of (encode_lower (id_bytes seed m)) ≡ Ok (id_bytes seed n) = rw same b in
    let bytes = decode_of-same (encode_lower (id_bytes seed m)) (id_bytes seed m) (id_bytes seed n) a of_m in
    let tails = sym (the_tail seed m) ∙ ap (drop 24) bytes ∙ the_tail seed n in
    sym (from_be_bytes-to_be_bytes_8 m hm) ∙ ap (from_be_bytes w64) tails ∙ from_be_bytes-to_be_bytes_8 n hn
