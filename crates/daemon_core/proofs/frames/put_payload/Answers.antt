use Rattle.std.proofs.Common.{◌++◌, append_assoc, ap, sym, ◌∙◌}
use Rattle.std.proofs.lemmas.Result.{on_ok_weaker}
use Rattle.stream_frame.specs.Frames.{frame_of, frames_of}
use Rattle.machine_model.specs.Frames.{cut}
use Rattle.daemon_core.proofs.WrittenLemmas.{frames_split}
use Rattle.daemon_core.proofs.frames.put_payload.Goals as goal

pub returns-clause-ok : goal.returns-clause-ok
returns-clause-ok c =
    let kind = c.args.kind in
    let front = c.args.front.now in
    let piece = c.split_at.result.0.now in
    let rest = c.split_at.result.1.now in
    let split = frames_split kind front c.args.payload.now piece rest c.min.result c.requires.some c.requires.fits c.min.ensures
    c.split_at.ensures.front c.split_at.ensures.back in
    on_ok_weaker c.put_rest.result (λ e. e ∙ ap (λ y. y ++ frames_of (cut (kind, rest))) c.in_ok-put_frame.ensures.ok
    ∙ append_assoc c.args.out.now.items (frame_of (kind, front ++ piece)) (frames_of (cut (kind, rest)))
    ∙ ap (λ y. c.args.out.now.items ++ y) (sym split)) c.put_rest.ensures.ok
