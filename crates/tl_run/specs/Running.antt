-- The state of a run between two rounds (this project's choice).
use Rattle.std.specs.Prelude.{◌≡◌, ◌+◌, ◌≤◌, ◌++◌, ℕ, true, List, length, map, take, drop}
use Rattle.tl_msg.specs.Rules.{Rules}
use Rattle.tl_msg.specs.Tables.{rules_a, rules_b, rules_c, rules_d, rules_e}
use Rattle.tl_msg.specs.declared.beat.BeatOf.{BeatOf}
use Rattle.tl_burst.specs.Begun.{heads}
use Rattle.tl_convert.specs.Accepted.{accepted_of, accepted_after}
use Rattle.tl_ring.specs.Crossing.{World}
use Rattle.tl_settle.specs.Rounds.{Run}
use Rattle.tl_settle.specs.Outcomes.{Beats}
use Rattle.tl_sides.specs.declared.per_channel.PerChannel.{PerChannel}
use Rattle.tl_sides.specs.Bridges.{Bridge, Past, StandsFor, nothing_yet}
use Rattle.tl_trace.specs.declared.script.Counts.{Counts}

-- ---- one channel

-- the number of beats under way
abbrev pub under_way : {H : Type 0} {w v : ℕ} → World H w v → ℕ
under_way x = length x.stage + length x.ring + length x.inbox

module _ {H : Type 0} (r : Rules H) {w v : ℕ} (bs : List (BeatOf H w)) (n : ℕ) where
  -- the first n beats of a list were accepted, all of them before the first one that has a fault of its own, and `far` was taken
  pub record IsSent (far : List (BeatOf H v)) (x : World H w v) : Type 0 where
    pub accepted : x.accepted ≡ take n bs
    pub most : n ≤ length bs
    pub lawful : accepted_of r bs ≡ take n bs ++ accepted_after r (take n bs) (drop n bs)
    pub taken : far ≡ x.taken
    -- a channel that is closed has no beat left
    pub shuts : x.closed ≡ true → n ≡ length bs
    pub room : 1 ≤ x.room

-- the homes of a channel whose beats determine them
abbrev pub IsHomed : {H : Type 0} (r : Rules H) {w v : ℕ} → World H w v → Type 0
IsHomed r {w = w} x = x.homes ≡ map (λ h. r.lane_address h 0) (heads r w x.accepted)

-- ---- the five channels

-- one number for each channel, as a count of beats
abbrev pub as_counts : PerChannel ℕ → Counts
as_counts n = record { a = n.a; b = n.b; c = n.c; d = n.d; e = n.e }

module _ {C M : ℕ} where
  -- the number of beats of each channel
  abbrev pub lengths : Beats C M → PerChannel ℕ
  lengths bs = record { a = length bs.a; b = length bs.b; c = length bs.c; d = length bs.d; e = length bs.e }

  -- the number of beats under way on all channels
  abbrev pub all_under_way : Past C M → ℕ
  all_under_way x = under_way x.a + under_way x.b + under_way x.c + under_way x.d + under_way x.e

-- the near beats of the five channels
module _ {C M : ℕ} (near : Beats C M) where
  -- the state of a run between two rounds, after n accepted beats of each list and these far beats taken
  pub record IsAt (n : PerChannel ℕ) (far : Beats M C) (past : Past C M) : Type 0 where
    -- the histories of A and D are a run in rounds
    pub run : Run near.a near.d n.a n.d past.client past.manager
    pub a_sent : IsSent rules_a near.a n.a far.a past.a
    pub b_sent : IsSent rules_b near.b n.b far.b past.b
    pub c_sent : IsSent rules_c near.c n.c far.c past.c
    pub d_sent : IsSent rules_d near.d n.d far.d past.d
    pub e_sent : IsSent rules_e near.e n.e far.e past.e
    pub a_homed : IsHomed rules_a past.a
    pub b_homed : IsHomed rules_b past.b
    pub c_homed : IsHomed rules_c past.c
    pub e_homed : IsHomed rules_e past.e

  -- a run is under way: its bridge represents a past in such a state
  pub record IsUnderWay (n : PerChannel ℕ) (far : Beats M C) (s : Bridge C M) : Type 0 where
    pub past : Past C M
    pub stands : StandsFor s past
    pub is_at : IsAt n far past

-- the same, if the beats taken went to a destination that holds them, and were counted
module _ {F : Type 0} {C M : ℕ} (Holds : F → Beats M C → Type 0) (near : Beats C M) where
  pub record IsRunning (n taken : PerChannel ℕ) (far : F) (s : Bridge C M) : Type 0 where
    pub all : Beats M C
    pub holds : Holds far all
    pub counts : taken ≡ lengths all
    pub under_way : IsUnderWay near n all s

-- a new bridge, whose rings hold at least one beat
abbrev pub IsNew : {C M : ℕ} → Bridge C M → Type 0
IsNew s = (room : ℕ) × (1 ≤ room) × StandsFor s (nothing_yet room)
