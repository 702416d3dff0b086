-- No channel blocks another: the effect of a call on a channel depends only on where that channel's own beats are, not
-- on the other four. So a request never holds back a response, and the order of priority E, D, C, B, A cannot be
-- reversed inside the bridge (TileLink: priorities of channels and forward progress). A request is refused while its
-- source is busy, and a response until its request was taken; that is a rule of the link.
use Rattle.std.specs.Prelude.{◌≡◌, ◌≢◌, ◌≤◌, ◌<◌, ℕ, [], length}
use Rattle.tl_ring.specs.Pipe.{IsReady}
use Rattle.tl_sides.specs.Words.{Pipe, Sending, Taking, inbox_room, known_free, known_items, ChA, ChB, ChC, ChD, ChE, HeadA, HeadB, HeadC, HeadD, HeadE}
use Rattle.tl_sides.specs.Bridges.{Bridge}
use Rattle.tl_sides.specs.ChannelCalls.{pumped, fetched}
use Rattle.tl_sides.specs.Ends.{Pumps, Fetches}

module _ {C M : ℕ} where
  -- a bridge in one thread pumps and fetches on each channel, depending only on that channel
  abbrev pub each_pumped : Bridge C M → Bridge C M
  each_pumped s = record s { a = pumped s.a; b = pumped s.b; c = pumped s.c; d = pumped s.d; e = pumped s.e }

  abbrev pub each_fetched : Bridge C M → Bridge C M
  each_fetched s = record s { a = fetched s.a; b = fetched s.b; c = fetched s.c; d = fetched s.d; e = fetched s.e }

  -- a channel of a bridge in one thread
  pub record IsSeparate {H : Type 0} {v : ℕ} (channel : Bridge C M → Pipe H v) : Type 0 where
    -- if it is the same in two bridges, so are the result of asking whether a beat of it may be offered, and the
    -- effects of a pump and of a fetch
    pub ready : (s t : Bridge C M) → channel s ≡ channel t → IsReady (channel s) → IsReady (channel t)
    pub pump : (s t : Bridge C M) → channel s ≡ channel t → channel (each_pumped s) ≡ channel (each_pumped t)
    pub fetch : (s t : Bridge C M) → channel s ≡ channel t → channel (each_fetched s) ≡ channel (each_fetched t)
    -- it advances: a pump sends staged beats if its own ring has room, and a fetch moves beats if its own inbox has
    -- room
    pub sends : (s : Bridge C M) → (channel s).stage ≢ [] → length (channel s).ring < (channel s).room →
        length (channel (each_pumped s)).stage < length (channel s).stage
    pub arrives : (s : Bridge C M) → (channel s).ring ≢ [] → length (channel s).inbox < inbox_room →
        length (channel s).inbox < length (channel (each_fetched s)).inbox

-- an end of a channel at a side in its own thread. The contracts of a side's pump and fetch describe each of its
-- ends by itself
pub record EndsAreSeparate (K A H : Type 0) (v : ℕ) : Type 0 where
  -- it advances: a pump sends staged beats if the end knows a free position in its own ring, and a fetch moves beats
  -- that the end knows to be in its own ring if its own inbox has room
  pub sends : (s s' : Sending K A H v) → Pumps s s' → s.stage ≢ [] → 1 ≤ known_free s → length s'.stage < length s.stage
  pub arrives : (t t' : Taking K A H v) → Fetches t t' → known_items t ≢ [] → length t.inbox < inbox_room → length t.inbox < length t'.inbox

pub record NoChannelBlocks (A : Type 0) (C M : ℕ) : Type 0 where
  -- in one thread
  pub a : IsSeparate {C = C} {M = M} (λ s. s.a)
  pub b : IsSeparate {C = C} {M = M} (λ s. s.b)
  pub c : IsSeparate {C = C} {M = M} (λ s. s.c)
  pub d : IsSeparate {C = C} {M = M} (λ s. s.d)
  pub e : IsSeparate {C = C} {M = M} (λ s. s.e)
  -- and in two
  pub ends_of_a : EndsAreSeparate ChA A HeadA M
  pub ends_of_b : EndsAreSeparate ChB A HeadB C
  pub ends_of_c : EndsAreSeparate ChC A HeadC M
  pub ends_of_d : EndsAreSeparate ChD A HeadD C
  pub ends_of_e : EndsAreSeparate ChE A HeadE M
