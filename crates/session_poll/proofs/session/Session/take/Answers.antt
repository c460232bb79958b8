use Rattle.std.proofs.Common.{arith, ap, refl, subst, sym}
use Rattle.request_pieces.specs.declared.reader.Pushed.TheVariants as pushed
use Rattle.session_poll.specs.Asking.{BeginsBy}
use Rattle.session_poll.specs.Going.{Steps, TellsBy}
use Rattle.session_poll.specs.Left.{steps_left}
use Rattle.session_poll.specs.declared.state.Step.TheVariants as came
use Rattle.session_poll.proofs.LeftLemmas.{less_more, less_request}
use Rattle.session_poll.proofs.ReadMoveLemmas.{input_cut, input_ended, more_wanted, pushed_so, refused_at_once, request_taken}
use Rattle.session_poll.proofs.ToldLemmas.{begun_tells, tells_same}
use Rattle.session_poll.proofs.session.Session.take.Goals as goal

pub returns-in-More-clause-steps : goal.returns-in-More-clause-steps
returns-in-More-clause-steps c ch told p v b =
    let says = pushed_so c.args.self.now c.push.new.self c.deref.result.now c.push.result pushed.More c.deref.ensures.value c.in-More.is c.push.ensures in
    more_wanted ch c.args.self.now.conn told c.args.self.now p v b c.push.new.self c.requires.reads says

pub returns-in-More-clause-less : goal.returns-in-More-clause-less
returns-in-More-clause-less c b =
    let says = pushed_so c.args.self.now c.push.new.self c.deref.result.now c.push.result pushed.More c.deref.ensures.value c.in-More.is c.push.ensures in
    less_more c.args.self.now b c.requires.reads c.requires.taken c.requires.piece c.push.new.self c.requires.some says

pub returns-in-End-clause-steps : goal.returns-in-End-clause-steps
returns-in-End-clause-steps c ch told p v b =
    let says = pushed_so c.args.self.now c.push.new.self c.deref.result.now c.push.result pushed.End c.deref.ensures.value c.in-End.is c.push.ensures in
    input_ended ch c.args.self.now.conn told c.args.self.now p v b c.push.new.self _ c.requires.reads says

pub returns-in-CutShort-clause-steps : goal.returns-in-CutShort-clause-steps
returns-in-CutShort-clause-steps c ch told p v b =
    let says = pushed_so c.args.self.now c.push.new.self c.deref.result.now c.push.result pushed.CutShort c.deref.ensures.value c.in-CutShort.is c.push.ensures in
    input_cut ch c.args.self.now.conn told c.args.self.now p v b c.push.new.self _ c.requires.reads says

pub returns-in-Bad-clause-steps : goal.returns-in-Bad-clause-steps
returns-in-Bad-clause-steps c ch told p v b =
    let says = pushed_so c.args.self.now c.push.new.self c.deref.result.now c.push.result (pushed.Bad c.in-Bad.status c.in-Bad.at) c.deref.ensures.value c.in-Bad.is c.push.ensures in
    subst (λ y. Steps ch c.args.self.now.conn told came.On c.args.self.now (record c.args.self.now { reader = c.push.new.self; state = y }) p p v v b b) (sym c.stand.ensures)
    (refused_at_once ch c.args.self.now.conn told c.args.self.now p v b c.push.new.self c.in-Bad.status c.in-Bad.at c.refusal-out.result c.requires.reads c.refusal-out.ensures says)

pub returns-in-Request-clause-steps : goal.returns-in-Request-clause-steps
returns-in-Request-clause-steps c ch told p v b =
    let says = pushed_so c.args.self.now c.push.new.self c.deref.result.now c.push.result (pushed.Request c.in-Request.used) c.deref.ensures.value c.in-Request.is c.push.ensures in
    request_taken ch c.args.self.now.conn told c.args.self.now p v b c.push.new.self c.in-Request.used c.begin.result c.requires.reads says
    (subst (λ r. BeginsBy r c.begin.result) c.request.ensures.request c.begin.ensures)

pub returns-in-Request-clause-less : goal.returns-in-Request-clause-less
returns-in-Request-clause-less c b =
    let says = pushed_so c.args.self.now c.push.new.self c.deref.result.now c.push.result (pushed.Request c.in-Request.used) c.deref.ensures.value c.in-Request.is c.push.ensures in
    less_request c.args.self.now b c.requires.reads c.requires.taken c.requires.piece c.push.new.self c.in-Request.used c.begin.result says
    (subst (λ r. BeginsBy r c.begin.result) c.request.ensures.request c.begin.ensures)

pub returns-in-More-clause-tells : goal.returns-in-More-clause-tells
returns-in-More-clause-tells c b = tells_same c.args.self.now.state b b refl refl

pub returns-in-End-clause-tells : goal.returns-in-End-clause-tells
returns-in-End-clause-tells c b = tells_same c.args.self.now.state b b refl refl

pub returns-in-CutShort-clause-tells : goal.returns-in-CutShort-clause-tells
returns-in-CutShort-clause-tells c b = tells_same c.args.self.now.state b b refl refl

pub returns-in-Request-clause-tells : goal.returns-in-Request-clause-tells
returns-in-Request-clause-tells c b = begun_tells _ c.args.self.now.state c.begin.result b c.begin.ensures

pub returns-in-Bad-clause-tells : goal.returns-in-Bad-clause-tells
returns-in-Bad-clause-tells c b = subst (λ y. TellsBy c.args.self.now.state y b b) (sym c.stand.ensures) (omega arith)

pub returns-in-Bad-clause-less : goal.returns-in-Bad-clause-less
returns-in-Bad-clause-less c b = omega (arith, ap steps_left c.stand.ensures, ap steps_left c.requires.reads)
