use Rattle.std.proofs.Common.{◌≡◌, ℕ, List, [], ◌∷◌, ◌++◌, length, drop, append-nil, ◌∙◌, refl}
use Rattle.std.proofs.lemmas.List.{take_at, drop_at}
use Rattle.std.specs.Int.{w64, to_be_bytes}
use borrow.Rule.Slice.PartMut.{put_mid}
use Rattle.engine_text.specs.Id.{key_bytes}
use Rattle.engine_text.proofs.id.id_bytes.Goals as goal

joined : (xs ys zs : List ℕ) → length xs ≡ 24 → drop 8 zs ≡ [] → put_mid 24 8 (xs ++ zs) ys ≡ xs ++ ys
joined xs ys zs a z = rw (take_at xs zs 24 a, drop_at xs zs 24 a, z, append-nil) refl

key_len : (seed : List ℕ) (n : ℕ) → length (key_bytes seed n) ≡ 24
unfolding key_bytes
key_len seed n = refl

pub returns : goal.returns
returns c =
    let key = c.copy_from_slice.ensures.after ∙ c.key_bytes.ensures in
    let number = c.copy_from_slice-2.ensures.after ∙ c.to_be_bytes.ensures in
    rw (key, number) (joined (key_bytes c.args.seed.now c.args.n) (to_be_bytes w64 c.args.n) (0 ∷ 0 ∷ 0 ∷ 0 ∷ 0 ∷ 0 ∷ 0 ∷ 0 ∷ []) (key_len c.args.seed.now c.args.n) refl)
