use denote.Memory.{lone}
use denote.Param.{layout, param, number, copied}
use Rattle.tl_ring.specs.contracts.outbox.Outbox.{the_row}
use Rattle.tl_ring.proofs.Names.{rules, sym, ◌∙◌, lit<}
use Rattle.tl_ring.proofs.FieldSizes.{part_small, beat_in_queue}
use Rattle.tl_ring.proofs.EndSteps.{shows_of}
use Rattle.tl_ring.proofs.halves.finish.Goals as goal

pub finish-requires : goal.finish-requires
finish-requires g c =
    let row = layout (the_row (param 0 g.row.K) (param 1 (number g.row.W)) (param 2 (number g.row.V)) (copied 4 g.row.K-Head)
    g.K.Channel g.K.Head.PartialEq g.K.Head.Default) in
    let beat = beat_in_queue (lone g.row.K-Head.mir) (layout g.row.K-Head) g.row.V 9223372036854775808
    (part_small row 1 9223372036854775808 c.requires-raw.1.1.1.1.1.0) in
    λ κs within. ((lit< tt, (beat, tt)), (search rules, (search rules, search rules)))

pub returns-in-Some : goal.returns-in-Some
returns-in-Some g c =
    let same = c.in-Some.ensures.0 in
    record {
      receipt = c.in-Some.ensures;
      -- (whoever is a pair with this half reads what the receipt shows)
      taker = λ t pair. (pair.0 ∙ sym same.0, pair.1 ∙ sym same.1, pair.2 ∙ sym same.2, pair.3 ∙ sym same.3);
      shows = λ x h. shows_of g.K.Channel.rules _ _ x c.in-Some.ensures c.requires.0 c.requires.1 h;
    }

pub returns : goal.returns
returns g c = record { receipt = tt; taker = tt; shows = λ x h. tt }
