use Rattle.std.proofs.Common.{Result, Ok, Err, arith, ◌∙◌, ap}
use Rattle.std.specs.Prelude.{IsOk, OnOk}
use Rattle.hex.specs.Hex.{encode_lower}
use Rattle.engine_text.specs.Id.{id_of}
use Rattle.engine_text.proofs.id.id_of.Goals as goal

on_ok : {T E P : Type 0} (r : Result T E) → IsOk r → OnOk r P → P
on_ok (Ok x) h p = p
on_ok (Err e) h p = cc h

pub returns : goal.returns
unfolding id_of
returns c =
    let e = c.encode_to_slice.ensures in
    on_ok c.encode_to_slice.result (e.fits.1 (omega arith)) e.written ∙ ap encode_lower c.id_bytes-bytes.ensures
