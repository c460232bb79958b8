use Rattle.client_exchange.proofs.AskingLemmas.{made_so, made_fresh}
use Rattle.client_exchange.proofs.made.fresh_taker.Goals as goal

pub returns : goal.returns
returns c = record { showing = made_so _ c.args.showing c.new.ensures; fresh = made_fresh _ c.args.showing c.new.ensures }
