use Rattle.bridge_tests.proofs.ring.headline.cross_whole.Goals as goal

pub take_whole-requires : goal.take_whole-requires
take_whole-requires c = c.in_ok-receipt.ensures.taker c.args.take.now c.requires.new.0

-- what the receipt shows of the beat that was sent
pub returns : goal.returns
returns c = record { headline = c.take_whole.ensures _ c.in_ok-receipt.ensures.shows.1 c.requires.new.2 }
