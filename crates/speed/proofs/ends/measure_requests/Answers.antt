use Rattle.speed.proofs.EndSizes.{sender_fits, taker_fits}
use Rattle.speed.proofs.ends.measure_requests.Goals as goal

pub measure_pair-requires-room-S-Sender : goal.measure_pair-requires-room-S-Sender
measure_pair-requires-room-S-Sender g c κs within = sender_fits g.row.W c.requires

pub measure_pair-requires-room-S-Destruct : goal.measure_pair-requires-room-S-Destruct
measure_pair-requires-room-S-Destruct g c κs within = sender_fits g.row.W c.requires

pub measure_pair-requires-room-T-Taker : goal.measure_pair-requires-room-T-Taker
measure_pair-requires-room-T-Taker g c κs within = taker_fits g.row.W c.requires

pub measure_pair-requires-room-T-Destruct : goal.measure_pair-requires-room-T-Destruct
measure_pair-requires-room-T-Destruct g c κs within = taker_fits g.row.W c.requires
