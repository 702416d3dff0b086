use Rattle.tl_trace.proofs.Names.{arith, sym}
use Rattle.tl_trace.proofs.LineRests.{not_other, other_head}
use Rattle.tl_trace.proofs.write.change_head.Goals as goal

pub returns-then-ne-clause-items : goal.returns-then-ne-clause-items
returns-then-ne-clause-items g c =
    other_head (g.K.HeadText.form c.args.version) c.args.head.now _ c.args.line.now _ c.args.at c.fill_other_head.result
    (omega (arith, c.requires.0)) c.requires.1
    (omega (arith, c.fill_other_head.array_long, c.fill_other_head.ensures.end)) c.fill_other_head.ensures.items

pub returns-else-ne : goal.returns-else-ne
returns-else-ne g c =
    let same = (g.met.K.Channel.same_heads c.args.next.now c.args.head.now).0 (not_other _ c.if-ne.ensures) in
    record { head = sym same; items = c.requires.1 }
