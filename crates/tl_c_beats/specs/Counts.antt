-- The number of waiting far beats, as C receives it (this project's choice).
use Rattle.tl_ring.specs.declared.standing.Standing.{Standing}
use Rattle.tl_sides.specs.declared.per_channel.PerChannel.{PerChannel}
use Rattle.tl_c_beats.specs.declared.counts.BeatCounts.{BeatCounts}
use Rattle.tl_c_beats.specs.declared.counts.ChannelCounts.{ChannelCounts}

-- the counts of one channel, from the number of beats at each place, and of all five
abbrev pub beat_counts : Standing → BeatCounts
beat_counts standing = record { staged = standing.staged; in_ring = standing.in_ring; inbox = standing.inbox }

abbrev pub channel_counts : PerChannel Standing → ChannelCounts
channel_counts s = record { a = beat_counts s.a; b = beat_counts s.b; c = beat_counts s.c; d = beat_counts s.d; e = beat_counts s.e }
