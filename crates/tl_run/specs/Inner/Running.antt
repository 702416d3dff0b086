-- The moves of each channel of a run within a round. Only contracts within the two runs cite these words.
use Rattle.std.specs.Prelude.{◌≡◌, ◌≢◌, ◌+◌, ◌≤◌, ◌<◌, ◌^◌, ◌⊎◌, ◌++◌, ℕ, false, Option, None, Some, List, [], length, map, slice_get}
use Rattle.tl_msg.specs.Rules.{Rules}
use Rattle.tl_msg.specs.Tables.{rules_a, rules_b, rules_c, rules_d, rules_e}
use Rattle.tl_msg.specs.declared.head.HeadA.{HeadA}
use Rattle.tl_msg.specs.declared.head.HeadB.{HeadB}
use Rattle.tl_msg.specs.declared.head.HeadC.{HeadC}
use Rattle.tl_msg.specs.declared.head.HeadD.{HeadD}
use Rattle.tl_msg.specs.declared.head.HeadE.{HeadE}
use Rattle.tl_msg.specs.declared.beat.BeatOf.{BeatOf}
use Rattle.tl_msg.specs.declared.fault.SideFault.{SideFault}
use Rattle.tl_msg.specs.declared.fault.SideFault.TheVariants.{Beat, SourceBusy, NoRequest, SizeMismatch}
use Rattle.tl_msg.specs.declared.verdict.Verdict.{Verdict}
use Rattle.tl_msg.specs.declared.verdict.Verdict.TheVariants as ending
use Rattle.tl_burst.specs.Handing.{rest_of}
use Rattle.tl_ring.specs.Crossing.{World}
use Rattle.tl_ring.specs.declared.standing.Standing.{Standing}
use Rattle.tl_settle.specs.Histories.{Ask, Answer, client_answer, manager_answer, manager_home}
use Rattle.tl_settle.specs.Outcomes.{Beats}
use Rattle.tl_sides.specs.declared.per_channel.PerChannel.{PerChannel}
use Rattle.tl_sides.specs.Crossings.{stops_alone}
use Rattle.tl_sides.specs.Bridges.{Bridge, Past, StandsFor}
pub use Rattle.tl_sides.specs.ChannelCalls.{emptied, after_take_all}
use Rattle.tl_run.specs.InRounds.{after_round}
pub use Rattle.tl_run.specs.InRounds.{AreStopped, IsStopped, counted}
pub use Rattle.tl_run.specs.Running.{IsAt, IsHomed, IsNew, IsRunning, IsSent, IsUnderWay, all_under_way, lengths, under_way}
use Rattle.tl_offer.specs.Offering.{Does, IsOffered, steps}
use Rattle.tl_offer.specs.declared.offered.Stop.{Stop}
use Rattle.tl_offer.specs.declared.offered.Stop.TheVariants.{Done, Cut, Refused}
use Rattle.tl_offer.specs.declared.offered.Offered.{Offered}
use Rattle.tl_offer.specs.declared.offered.Offered.TheVariants.{Accepted, NotReady, Stopped}

-- ---- one channel

module _ {H : Type 0} {w v : ℕ} where
  -- nothing is staged, and the channel isn't closed
  abbrev pub MayOffer : World H w v → Type 0
  MayOffer x = (x.stage ≡ []) × (x.closed ≡ false)

  -- how far a channel has come: the beats that were accepted, those that went into its ring, and those that came out of it
  abbrev pub progress : (n : ℕ) → World H w v → ℕ
  progress n x = n + (length x.taken + length x.inbox + length x.ring) + (length x.taken + length x.inbox)

module _ {H : Type 0} (r : Rules H) {w : ℕ} (bs : List (BeatOf H w)) (n : ℕ) where
  -- the reason why no beat was accepted in the last round, if none was
  abbrev pub Stops : (answer : BeatOf H w → Option SideFault) → (accepted : List (BeatOf H w)) → Offered → Type 0
  Stops answer accepted Accepted = Unit {0}
  Stops answer accepted NotReady = Unit {0}
  Stops answer accepted (Stopped (Refused fault)) = (b : BeatOf H w) × (slice_get bs n ≡ Some b) × (answer b ≡ Some fault)
  Stops answer accepted (Stopped Done) = (slice_get bs n ≡ None) × (rest_of r w accepted ≡ [])
  Stops answer accepted (Stopped Cut) = (slice_get bs n ≡ None) × (rest_of r w accepted ≢ [])

-- the verdict of a channel that offers no more
abbrev pub stop_verdict : Stop → (near far : ℕ) → Verdict
stop_verdict Done near far = ending.Done near far
stop_verdict Cut near far = ending.Cut near far
stop_verdict (Refused (Beat fault)) near far = ending.Refused near (Beat fault)
stop_verdict (Refused SourceBusy) near far = ending.Waiting near SourceBusy
stop_verdict (Refused NoRequest) near far = ending.Waiting near NoRequest
stop_verdict (Refused SizeMismatch) near far = ending.Refused near SizeMismatch

-- ---- the five channels

-- the number of beats at the places of all channels
abbrev pub standing_count : Standing → ℕ
standing_count s = s.staged + s.in_ring + s.inbox

abbrev pub all_standing : PerChannel Standing → ℕ
all_standing s = standing_count s.a + standing_count s.b + standing_count s.c + standing_count s.d + standing_count s.e

module _ {C M : ℕ} where
  -- the beats in the inboxes of a bridge, and of the past that it represents
  abbrev pub inboxes : Bridge C M → Beats M C
  inboxes s = record { a = s.a.inbox; b = s.b.inbox; c = s.c.inbox; d = s.d.inbox; e = s.e.inbox }

  abbrev pub arriving : Past C M → Beats M C
  arriving x = record { a = x.a.inbox; b = x.b.inbox; c = x.c.inbox; d = x.d.inbox; e = x.e.inbox }

  -- the progress of a run
  abbrev pub all_progress : PerChannel ℕ → Past C M → ℕ
  all_progress n x = progress n.a x.a + progress n.b x.b + progress n.c x.c + progress n.d x.d + progress n.e x.e

-- the number of beats accepted on all channels
abbrev pub all_steps : PerChannel Offered → ℕ
all_steps o = steps o.a + steps o.b + steps o.c + steps o.d + steps o.e

-- the values of both sides, each for the channels that it sends
abbrev pub of_both : {A : Type 0} → PerChannel A → PerChannel A → PerChannel A
of_both client manager = record { a = client.a; b = manager.b; c = client.c; d = manager.d; e = client.e }

-- every channel offers no more
abbrev pub all_stopped : PerChannel Stop → PerChannel Offered
all_stopped s = record { a = Stopped s.a; b = Stopped s.b; c = Stopped s.c; d = Stopped s.d; e = Stopped s.e }

-- there is room to count one beat more
pub record HaveRoomToCount (n : PerChannel ℕ) : Type 0 where
  pub a : n.a < 2 ^ 41
  pub b : n.b < 2 ^ 41
  pub c : n.c < 2 ^ 41
  pub d : n.d < 2 ^ 41
  pub e : n.e < 2 ^ 41

-- the sum of two counts on each channel
abbrev pub added : PerChannel ℕ → PerChannel ℕ → PerChannel ℕ
added n m = record { a = n.a + m.a; b = n.b + m.b; c = n.c + m.c; d = n.d + m.d; e = n.e + m.e }

-- the sums do not overflow
pub record CanAdd (n m : PerChannel ℕ) : Type 0 where
  pub a : n.a + m.a < 2 ^ 60
  pub b : n.b + m.b < 2 ^ 60
  pub c : n.c + m.c < 2 ^ 60
  pub d : n.d + m.d < 2 ^ 60
  pub e : n.e + m.e < 2 ^ 60

-- the near beats of the five channels
module _ {C M : ℕ} (near : Beats C M) where
  -- each channel has offered its next beat, if it was ready
  pub record HasOffered (n : PerChannel ℕ) (x : Past C M) (s : Bridge C M) (o : PerChannel Offered) : Type 0 where
    pub past : Past C M
    pub stands : StandsFor s past
    pub beats_a : List (BeatOf HeadA C)
    pub beats_b : List (BeatOf HeadB M)
    pub beats_c : List (BeatOf HeadC C)
    pub beats_d : List (BeatOf HeadD M)
    pub beats_e : List (BeatOf HeadE C)
    pub client : past.client ≡ x.client ++ map Ask beats_a
    pub manager : past.manager ≡ x.manager ++ map Answer beats_d
    pub does_a : Does rules_a near.a n.a (client_answer x.client) (λ _. 0) x.a o.a beats_a past.a
    pub does_b : Does rules_b near.b n.b (stops_alone rules_b x.b.accepted) (λ _. 0) x.b o.b beats_b past.b
    pub does_c : Does rules_c near.c n.c (stops_alone rules_c x.c.accepted) (λ _. 0) x.c o.c beats_c past.c
    pub does_d : Does rules_d near.d n.d (manager_answer x.manager) (λ y. manager_home x.manager y.head) x.d o.d beats_d past.d
    pub does_e : Does rules_e near.e n.e (stops_alone rules_e x.e.accepted) (λ _. 0) x.e o.e beats_e past.e
    -- a channel that offered a beat was ready
    pub ready_a : IsOffered o.a → MayOffer x.a
    pub ready_b : IsOffered o.b → MayOffer x.b
    pub ready_c : IsOffered o.c → MayOffer x.c
    pub ready_d : IsOffered o.d → MayOffer x.d
    pub ready_e : IsOffered o.e → MayOffer x.e

  -- the reason why each channel is stopped, if it is
  pub record AllStop (n : PerChannel ℕ) (past : Past C M) (o : PerChannel Offered) : Type 0 where
    pub stop_a : Stops rules_a near.a n.a (client_answer past.client) past.a.accepted o.a
    pub stop_b : Stops rules_b near.b n.b (stops_alone rules_b past.b.accepted) past.b.accepted o.b
    pub stop_c : Stops rules_c near.c n.c (stops_alone rules_c past.c.accepted) past.c.accepted o.c
    pub stop_d : Stops rules_d near.d n.d (manager_answer past.manager) past.d.accepted o.d
    pub stop_e : Stops rules_e near.e n.e (stops_alone rules_e past.e.accepted) past.e.accepted o.e

  -- a round: the state of the run after it, the reasons why channels are stopped there, and that it has advanced if
  -- they are not
  pub record HasRound (n : PerChannel ℕ) (far : Beats M C) (x : Past C M) (s : Bridge C M) (o : PerChannel Offered) : Type 0 where
    pub past : Past C M
    pub stands : StandsFor s past
    pub is_at : IsAt near (counted n o) far past
    pub stops : AllStop (counted n o) past o
    pub keeps : all_progress n x ≤ all_progress (counted n o) past
    -- the same as a function says it
    pub exact : after_round near n x ≡ record { at = counted n o; offers = o; past = past }
    pub goes : (all_progress n x + 1 ≤ all_progress (counted n o) past) ⊎ (AreStopped o × (all_under_way past ≡ 0))

  -- a run has ended: every channel is stopped, nothing is under way, and there was at most one round more than the
  -- number of beats that were accepted, that entered a ring or that came out of one
  pub record HasEnded (n : PerChannel ℕ) (far : Beats M C) (s : Bridge C M) (stops : PerChannel Stop) (rounds : ℕ) : Type 0 where
    pub past : Past C M
    pub stands : StandsFor s past
    pub is_at : IsAt near n far past
    pub all_stop : AllStop n past (all_stopped stops)
    pub at_rest : all_under_way past ≡ 0
    pub few_rounds : rounds ≤ all_progress n past + 1
