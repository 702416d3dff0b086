-- A run in one thread, round by round: which rounds `run_sync` counts (this project's choice).
use Rattle.std.specs.Prelude.{◌≡◌, ◌+◌, ◌<◌, ◌++◌, ◌==◌, ◌&&◌, not, ℕ, zero, suc, Option, None, Some, List, [], ◌∷◌, length, map, slice_get, if◌then◌else◌}
use Rattle.tl_msg.specs.Rules.{Rules}
use Rattle.tl_msg.specs.Tables.{rules_a, rules_b, rules_c, rules_d, rules_e}
use Rattle.tl_msg.specs.declared.head.HeadA.{HeadA}
use Rattle.tl_msg.specs.declared.head.HeadB.{HeadB}
use Rattle.tl_msg.specs.declared.head.HeadC.{HeadC}
use Rattle.tl_msg.specs.declared.head.HeadD.{HeadD}
use Rattle.tl_msg.specs.declared.head.HeadE.{HeadE}
use Rattle.tl_msg.specs.declared.beat.BeatOf.{BeatOf}
use Rattle.tl_msg.specs.declared.fault.SideFault.{SideFault}
use Rattle.tl_burst.specs.Handing.{rest_of}
use Rattle.tl_ring.specs.Crossing.{World, offered, shut}
use Rattle.tl_ring.specs.Soon.{after_fetch, after_pump}
use Rattle.tl_settle.specs.Histories.{Answer, Ask, client_answer, manager_answer, manager_home}
use Rattle.tl_settle.specs.Outcomes.{Beats}
use Rattle.tl_sides.specs.Bridges.{Past, nothing_yet}
use Rattle.tl_sides.specs.ChannelCalls.{after_take_all}
use Rattle.tl_sides.specs.Crossings.{stops_alone}
use Rattle.tl_sides.specs.declared.per_channel.PerChannel.{PerChannel}
use Rattle.tl_offer.specs.Offering.{steps}
use Rattle.tl_offer.specs.declared.offered.Offered.{Offered}
use Rattle.tl_offer.specs.declared.offered.Offered.TheVariants.{Accepted, NotReady, Stopped}
use Rattle.tl_offer.specs.declared.offered.Stop.TheVariants.{Cut, Done, Refused}
use Rattle.tl_run.specs.Running.{all_under_way}

-- ---- one channel

-- after an offer: what became of the next beat, the beats that were accepted (one or none), and the crossing after it
pub record AfterOffer (H : Type 0) (w v : ℕ) : Type 0 where
  pub outcome : Offered
  pub accepted : List (BeatOf H w)
  pub crossing : World H w v

module _ {H : Type 0} (r : Rules H) {w v : ℕ} (home : BeatOf H w → ℕ) (x : World H w v) where
  -- a beat is offered to a channel that is ready: it is accepted, or this fault stops it
  abbrev pub after_beat : BeatOf H w → Option SideFault → AfterOffer H w v
  after_beat b None = record { outcome = Accepted; accepted = b ∷ []; crossing = offered r b (home b) x }
  after_beat b (Some fault) = record { outcome = Stopped (Refused fault); accepted = []; crossing = x }

  -- a channel that is not ready waits; one whose list is used up is closed, if it is between two messages
  abbrev pub after_offer : (stops : BeatOf H w → Option SideFault) → (next : Option (BeatOf H w)) → AfterOffer H w v
  after_offer stops (Some b) =
      if (length x.stage == 0) && not x.closed then after_beat b (stops b) else record { outcome = NotReady; accepted = []; crossing = x }
  after_offer stops None =
      if length (rest_of r w x.accepted) == 0 then record { outcome = Stopped Done; accepted = []; crossing = shut x }
      else record { outcome = Stopped Cut; accepted = []; crossing = x }

module _ {H : Type 0} {w v : ℕ} where
  -- staged beats go into the ring, and then beats of the ring into the inbox, as many as there is room for
  abbrev pub moved : World H w v → World H w v
  moved x = after_fetch (after_pump x)

-- ---- the five channels

-- how many beats of each list were accepted after a round
abbrev pub counted : PerChannel ℕ → PerChannel Offered → PerChannel ℕ
counted n o = record { a = n.a + steps o.a; b = n.b + steps o.b; c = n.c + steps o.c; d = n.d + steps o.d; e = n.e + steps o.e }

-- a channel offers no more
abbrev pub IsStopped : Offered → Type 0
IsStopped Accepted = ⊥
IsStopped NotReady = ⊥
IsStopped (Stopped stop) = Unit {0}

abbrev pub AreStopped : PerChannel Offered → Type 0
AreStopped o = IsStopped o.a × IsStopped o.b × IsStopped o.c × IsStopped o.d × IsStopped o.e

module _ {C M : ℕ} where
  -- all rings move on
  abbrev pub after_moves : Past C M → Past C M
  after_moves x = record x { a = moved x.a; b = moved x.b; c = moved x.c; d = moved x.d; e = moved x.e }

-- the position of a run: the number of beats of each list that were accepted, what became of each channel's next beat in the last round, and
-- the past of its bridge
pub record Place (C M : ℕ) : Type 0 where
  pub at : PerChannel ℕ
  pub offers : PerChannel Offered
  pub past : Past C M

module _ {C M : ℕ} where
  -- after these offers of the five channels, and once all rings have moved on
  abbrev pub place_after : PerChannel ℕ → Past C M → AfterOffer HeadA C M → AfterOffer HeadB M C → AfterOffer HeadC C M → AfterOffer HeadD M C →
      AfterOffer HeadE C M → Place C M
  place_after n x a b c d e = record {
    at = counted n (record { a = a.outcome; b = b.outcome; c = c.outcome; d = d.outcome; e = e.outcome });
    offers = record { a = a.outcome; b = b.outcome; c = c.outcome; d = d.outcome; e = e.outcome };
    past = after_moves (record {
      client = x.client ++ map Ask a.accepted;
      manager = x.manager ++ map Answer d.accepted;
      a = a.crossing;
      b = b.crossing;
      c = c.crossing;
      d = d.crossing;
      e = e.crossing;
    });
  }

  -- a run is over after a round in which no channel could offer more, and after which nothing is under way
  abbrev pub IsOver : Place C M → Type 0
  IsOver place = AreStopped place.offers × (all_under_way place.past ≡ 0)

module _ {C M : ℕ} (near : Beats C M) where
  -- a round: each side takes all that is in its inboxes, then each channel offers its next beat, and then all rings move on
  abbrev pub after_round : PerChannel ℕ → Past C M → Place C M
  after_round n before =
      let x = after_take_all before in
      place_after n x
      (after_offer rules_a (λ _. 0) x.a (client_answer x.client) (slice_get near.a n.a))
      (after_offer rules_b (λ _. 0) x.b (stops_alone rules_b x.b.accepted) (slice_get near.b n.b))
      (after_offer rules_c (λ _. 0) x.c (stops_alone rules_c x.c.accepted) (slice_get near.c n.c))
      (after_offer rules_d (λ y. manager_home x.manager y.head) x.d (manager_answer x.manager) (slice_get near.d n.d))
      (after_offer rules_e (λ _. 0) x.e (stops_alone rules_e x.e.accepted) (slice_get near.e n.e))

  -- after a number of rounds over new rings of `room` beats
  abbrev pub after_rounds : (room : ℕ) → ℕ → Place C M
  after_rounds room zero = record {
    at = record { a = 0; b = 0; c = 0; d = 0; e = 0 };
    offers = record { a = NotReady; b = NotReady; c = NotReady; d = NotReady; e = NotReady };
    past = nothing_yet room;
  }
  after_rounds room (suc k) = let before = after_rounds room k in after_round before.at before.past

  -- a run over rings of `room` beats takes k rounds: it is over after k, and not before
  pub record TakesRounds (room k : ℕ) : Type 0 where
    pub over : IsOver (after_rounds room k)
    pub first : (j : ℕ) → j < k → IsOver (after_rounds room j) → ⊥
