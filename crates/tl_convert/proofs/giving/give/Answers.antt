use Rattle.tl_convert.proofs.Names.{◌≡◌, true, false, sym, ◌∙◌}
use Rattle.tl_convert.proofs.GiveStep.{give-head}
use Rattle.tl_convert.proofs.giving.give.Goals as goal

pub returns-then-carries_data : goal.returns-then-carries_data
returns-then-carries_data g c = λ bs run.
    let carried : g.K.Channel.rules.carries c.args.beat.now.head ≡ true = sym c.carries_data.ensures ∙ c.if-carries_data.true in
    let k = c.give_data.ensures carried bs run in record { due_is = k.due_is; filled = λ e. k.filled }

pub carries_data-requires : goal.carries_data-requires
carries_data-requires g c κs = λ p. p

pub returns-else-carries_data : goal.returns-else-carries_data
returns-else-carries_data g c = λ bs run.
    let none : g.K.Channel.rules.carries c.args.beat.now.head ≡ false = sym c.carries_data.ensures ∙ c.if-carries_data.false in
    give-head g.K.Channel.rules g.row.W g.row.V c.args.index c.args.home c.args.beat.now none bs c.args.partial.now _ c.give_head.new.out.items
    (c.give_head.ensures none) run
