use Rattle.tl_ring.proofs.Names.{arith}
use denote.Param.{layout, param, number, copied}
use Rattle.tl_msg.specs.contracts.beat.BeatOf as beat
use Rattle.tl_ring.specs.contracts.queue.Queue.{the_row}
use Rattle.tl_ring.proofs.FieldSizes.{part_small}
use Rattle.tl_ring.proofs.stage.stage_beat.Goals as goal

pub remove_all-requires-room-T-Clone : goal.remove_all-requires-room-T-Clone
remove_all-requires-room-T-Clone g c κs within = c.requires-raw.1.1.1.1.1.1.1.0

pub remove_all-requires-room-T-Default : goal.remove_all-requires-room-T-Default
remove_all-requires-room-T-Default g c κs within = c.requires-raw.1.1.1.1.1.1.1.0

pub remove_all-requires : goal.remove_all-requires
remove_all-requires g c = part_small (layout (the_row (beat.the_row (copied 3 g.row.K-Head) (param 2 (number g.row.V))))) 0 9223372036854775808
    c.requires-raw.1.1.1.1.1.1.0

pub invariant_of-stage : goal.invariant_of-stage
invariant_of-stage g c = omega arith

pub returns-clause-beat : goal.returns-clause-beat
returns-clause-beat g c = c.ranges_of_beat.ensures

pub returns-clause-stands : goal.returns-clause-stands
returns-clause-stands g c = c.feed_at.ensures.stands

pub returns-clause-due : goal.returns-clause-due
returns-clause-due g c = c.feed_at.ensures.due

pub returns-clause-lawful : goal.returns-clause-lawful
returns-clause-lawful g c = c.feed_at.ensures.lawful
