use Rattle.std.proofs.Common.{arith, ◌≤◌, length}
use Rattle.std.proofs.lemmas.List.{length-take-le}
use Rattle.front_session.proofs.ReadLemmas.{passed_place, nothing_left, read_ended, read_failed}
use Rattle.front_session.proofs.fronting.pass.Goals as goal

pub returns-in-Bytes : goal.returns-in-Bytes
returns-in-Bytes g c =
    let le : length c.read.new.into ≤ c.args.size = omega (arith, c.read.auto.into, length-take-le c.args.size c.args.into.now c.requires.place) in
    passed_place _ _ _ c.args.front.now c.args.size c.requires.owed c.requires.ahead c.requires.may c.in-Bytes.count c.read.new.into _ _ _
    c.in-Bytes.ensures.says le c.in-Bytes.ensures.same c.pass.ensures

pub returns-in-End : goal.returns-in-End
returns-in-End g c = read_ended c.read.new.into c.read.new.into _ _ _ _ c.args.front.now c.in-End.ensures.says c.in-End.ensures.same
    (nothing_left c.args.front.now c.args.size c.requires.owed c.requires.ahead c.requires.may c.requires.some)

pub returns-in-Failed : goal.returns-in-Failed
returns-in-Failed g c = read_failed c.read.new.into c.read.new.into _ _ _ _ c.args.front.now c.in-Failed.ensures.says c.in-Failed.ensures.same
