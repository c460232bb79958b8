use Rattle.std.proofs.Common.{ap, ◌∙◌}
use Rattle.rand_core.specs.Stream.{fill_bytes}
use Rattle.rand_core.specs.Steps.{stream_of, word_bytes, fill_via_u32}
use Rattle.rand_chacha.specs.ChaCha.{next_word, ChaCha}
use Rattle.engine_text.specs.Id.{key_bytes}
use Rattle.engine_text.proofs.id.key_bytes.Goals as goal

pub returns : goal.returns
unfolding fill_bytes stream_of word_bytes key_bytes
returns c =
    let start = c.set_stream.ensures ∙ ap (λ (g : ChaCha). record g { stream = c.args.n }) c.from_seed-rng.ensures in
    ap (λ (p : _). p.0) c.fill_bytes.ensures ∙ ap (λ (g : ChaCha). (fill_via_u32 (next_word 10) 24 g).0) start
