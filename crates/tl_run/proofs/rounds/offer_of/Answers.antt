use Rattle.tl_run.proofs.Names.{subst}
use Rattle.tl_parts.proofs.Lives.{lives-long}
use Rattle.tl_run.proofs.rounds.offer_of.Goals as goal

pub deref-requires : goal.deref-requires
deref-requires g c = λ κs lives. (lives, lives-long κs.1.1.0)

pub returns : goal.returns
returns g c =
    subst (λ q. g.S.Offers.Becomes q c.args.at c.args.side.now c.offer_next.result c.offer_next.new.self) c.deref.ensures.value c.offer_next.ensures
