-- Each beat under way is taken, on every channel of a bridge in one thread and from every state. Counted in rounds of
-- calls, because a bridge has no clock (this project's choice).
use Rattle.std.specs.Prelude.{◌≡◌, ◌≤◌, ℕ, suc}
use Rattle.tl_msg.specs.Tables.{rules_a, rules_b, rules_c, rules_d, rules_e}
use Rattle.tl_convert.specs.Due.{due}
use Rattle.tl_ring.specs.Arriving.{HasDelivered, cycles, under_way}
use Rattle.tl_sides.specs.Bridges.{Bridge, Past, StandsFor, after_fetch, after_pump}
use Rattle.tl_sides.specs.ChannelCalls.{after_take_all}
use Rattle.tl_sides.specs.Separate.{each_pumped}

module _ {C M : ℕ} where
  -- the past after one round of calls: a pump, a fetch, and a take of everything in the inboxes
  abbrev pub after_round : Bridge C M → Past C M → Past C M
  after_round s x = after_take_all (after_fetch (each_pumped s) (after_pump s x))

  -- n rounds lead from a bridge and its past to another bridge and its past; no beat is offered in between
  pub data AfterRounds : (n : ℕ) → (s : Bridge C M) (x : Past C M) (t : Bridge C M) (y : Past C M) → Type 0 where
    none_yet : (s : Bridge C M) (x : Past C M) → StandsFor s x → AfterRounds 0 s x s x
    one_more : (n : ℕ) (s : Bridge C M) (x : Past C M) (t : Bridge C M) (y : Past C M) (u : Bridge C M) → AfterRounds n s x t y →
        StandsFor u (after_round t y) → AfterRounds (suc n) s x u (after_round t y)

  -- on each channel no more than this number of beats are under way
  pub record HasUnderWay (x : Past C M) (n : ℕ) : Type 0 where
    pub a : under_way x.a ≤ n
    pub b : under_way x.b ≤ n
    pub c : under_way x.c ≤ n
    pub d : under_way x.d ≤ n
    pub e : under_way x.e ≤ n

  -- on each channel all beats under way were taken, in order, and nothing else was
  pub record AllDelivered (x y : Past C M) : Type 0 where
    pub a : HasDelivered x.a y.a
    pub b : HasDelivered x.b y.b
    pub c : HasDelivered x.c y.c
    pub d : HasDelivered x.d y.d
    pub e : HasDelivered x.e y.e

  -- on each channel all beats that the accepted ones made due were taken
  pub record AllDueTaken (x y : Past C M) : Type 0 where
    pub a : y.a.taken ≡ due rules_a C M x.a.accepted x.a.homes
    pub b : y.b.taken ≡ due rules_b M C x.b.accepted x.b.homes
    pub c : y.c.taken ≡ due rules_c C M x.c.accepted x.c.homes
    pub d : y.d.taken ≡ due rules_d M C x.d.accepted x.d.homes
    pub e : y.e.taken ≡ due rules_e C M x.e.accepted x.e.homes

  -- each channel does what it would do alone, in as many cycles
  pub record EachCycles (n : ℕ) (x y : Past C M) : Type 0 where
    pub a : y.a ≡ cycles n x.a
    pub b : y.b ≡ cycles n x.b
    pub c : y.c ≡ cycles n x.c
    pub d : y.d ≡ cycles n x.d
    pub e : y.e ≡ cycles n x.e

pub record EveryBeatArrives (C M : ℕ) : Type 0 where
  -- from every state, after as many rounds as beats are under way on any one channel
  pub delivers : (n : ℕ) (s t : Bridge C M) (x y : Past C M) → AfterRounds n s x t y → HasUnderWay x n → AllDelivered x y
  -- these are all that the accepted beats made due
  pub all_due : (n : ℕ) (s t : Bridge C M) (x y : Past C M) → AfterRounds n s x t y → HasUnderWay x n → AllDueTaken x y
  -- so the exact number of rounds of each channel, and the exact beats that it takes in each round, are those of its
  -- crossing
  pub each : (n : ℕ) (s t : Bridge C M) (x y : Past C M) → AfterRounds n s x t y → EachCycles n x y
