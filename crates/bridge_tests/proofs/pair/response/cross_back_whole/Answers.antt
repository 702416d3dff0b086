use Rattle.std.proofs.Common.{rules, ◌∷◌, [], subst}
use Rattle.std.specs.Global.{Global}
use Rattle.tl_msg.specs.Tables.{rules_d}
use Rattle.tl_burst.specs.Handing.{Handed}
use Rattle.tl_sides.specs.Sides.{ManagerState, SameManager}
use Rattle.tl_sides.proofs.SameSides.{still_sides}
use Rattle.bridge_tests.proofs.pair.response.cross_back_whole.Goals as goal

manager-same : (t : ManagerState Global 4 16) → SameManager t t
manager-same t = search rules

pub takes_last-requires : goal.takes_last-requires
takes_last-requires c =
    let asked = c.asks-has_asked in
    c.in_ok-ended.ensures.taker asked.new.client
    (still_sides c.args.client.now asked.new.client c.args.manager c.args.manager asked.ensures.same (manager-same c.args.manager) c.requires.sides)

-- what the receipts show of the response that was sent
pub returns : goal.returns
returns c =
    let asked = c.asks-has_asked.ensures.asked c.requires.client c.if-not-has_asked.false in
    let shown = c.in_ok-ended.ensures.shows in
    let whole = c.in_ok-last.ensures shown.0 asked.0 shown.1 asked.1 asked.2 in
    record {
      headline = (
        whole.0,
        subst (λ homes. Handed rules_d 16 (c.args.response ∷ []) homes whole.0 []) shown.3
            (subst (λ bs. Handed rules_d 16 bs shown.0.d.homes whole.0 []) shown.2 whole.1),
        whole.2,
      );
    }
