use Rattle.std.proofs.Common.{◌∙◌, ap, take, arith}
use Rattle.std.proofs.lemmas.List.{take-take}
use Rattle.http_edge.proofs.RequestLemmas.{framed_whole, body_refused, body_cut, body_failed}
use Rattle.http_edge.proofs.request.read_framed.Goals as goal

pub returns-in-Whole : goal.returns-in-Whole
returns-in-Whole g c =
    let is = c.take_head-framing.ensures.framing in
    let at = c.requires.of in
    let fits = c.requires.within.section.len_fits in
    let kept =
    ap (take c.args.found.len) (c.in-Whole.ensures.head ∙ c.take_head-framing.ensures.head)
    ∙ take-take c.args.found.len c.args.found.len _ (omega arith) in
    rw (c.in-Whole.ensures.spans, c.take_head-framing.ensures.spans)
    (framed_whole _ _ _ at.0 c.requires.small c.requires.within at.1 _ is _ _ _ _ _ _ kept (rw c.take_head-framing.ensures.ahead at c.in-Whole.ensures.says))

pub returns-in-Refused : goal.returns-in-Refused
returns-in-Refused g c =
    let is = c.take_head-framing.ensures.framing in
    let at = c.requires.of in
    body_refused _ _ _ at.0 c.requires.small c.requires.within at.1 _ is _ _ _ (rw c.take_head-framing.ensures.ahead at c.in-Refused.ensures.says)

pub returns-in-CutShort : goal.returns-in-CutShort
returns-in-CutShort g c =
    let is = c.take_head-framing.ensures.framing in
    let at = c.requires.of in
    let cut = rw c.take_head-framing.ensures.ahead at c.in-CutShort.ensures.says in
    (body_cut _ _ _ at.0 c.requires.small c.requires.within at.1 _ is _ _ cut.0, cut.1)

pub returns-in-Failed : goal.returns-in-Failed
returns-in-Failed g c =
    let is = c.take_head-framing.ensures.framing in
    let at = c.requires.of in
    let cut = rw c.take_head-framing.ensures.ahead at c.in-Failed.ensures.says in
    (body_failed _ _ _ at.0 c.requires.small c.requires.within at.1 _ is _ _ cut.0, cut.1)
