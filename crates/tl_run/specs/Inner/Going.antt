-- The channels of a run in one thread advance, one after another. Only contracts of private functions use these
-- definitions.
use Rattle.std.proofs.Common.{◌≡◌, ◌≢◌, ◌+◌, ◌-◌, ◌*◌, ◌≤◌, ◌<◌, ◌⊎◌, ℕ, true, Option, None, Some, Result, Ok, Err, List, [], length}
use Rattle.std.specs.Prelude.{slice_get}
use Rattle.tl_msg.specs.Tables.{rules_a, rules_b, rules_c, rules_d, rules_e}
use Rattle.tl_msg.specs.declared.beat.BeatOf.{BeatOf}
use Rattle.tl_msg.specs.declared.fault.SideFault.{SideFault}
use Rattle.tl_burst.specs.Handing.{rest_of}
use Rattle.tl_ring.specs.Crossing.{World}
use Rattle.tl_ring.specs.Pipe.{Pipe}
use Rattle.tl_ring.specs.declared.fault.EndFault.{EndFault}
use Rattle.tl_settle.specs.Histories.{client_answer, manager_answer}
use Rattle.tl_settle.specs.Outcomes.{Beats}
use Rattle.tl_trace.specs.declared.script.Script.{Script}
use Rattle.tl_trace.specs.declared.script.Counts.{Counts}
use Rattle.tl_sides.specs.declared.per_channel.PerChannel.{PerChannel}
use Rattle.tl_sides.specs.Bridges.{Bridge, Past, StandsFor}
use Rattle.tl_sides.specs.Crossings.{stops_alone}
use Rattle.tl_parts.specs.Parts.{ArePart}
use Rattle.tl_run.specs.Inner.Running.{IsAt, all_under_way, lengths}
use Rattle.tl_offer.specs.Offering.{refused_by}
use Rattle.tl_offer.specs.declared.offered.Offered.{Offered}
use Rattle.tl_offer.specs.declared.offered.Offered.TheVariants.{Accepted}
use Rattle.tl_offer.specs.declared.offered.Stop.{Stop}
use Rattle.tl_offer.specs.declared.offered.Stop.TheVariants.{Done, Cut, Refused}

-- ---- one channel that offers

-- from the effect on a side S of offering the next beat of a list, and of forwarding staged beats
module _ {B S : Type 0} (Becomes : List B → ℕ → S → Offered → S → Type 0) (Passes : S → S → Type 0) (discarded : ℕ) (held : List B) where
  -- beats of a list, of which `discarded` were discarded and these are held, were accepted, one after another, and the far
  -- beats of each were forwarded
  pub data GoesOn (at : ℕ) (s : S) : (later : ℕ) → (t : S) → Type 0 where
    at_first : GoesOn at s at s
    one_more : (i : ℕ) (t u v : S) → GoesOn at s i t → discarded ≤ i → i - discarded < length held → Becomes held (i - discarded) t Accepted u → Passes u v →
        GoesOn at s (i + 1) v

  -- and then no beat was left, or the next one was not accepted, with this fault if there is one
  pub data GoesAhead (at : ℕ) (s : S) : (later : ℕ) → (t : S) → Option SideFault → Type 0 where
    through : (later : ℕ) (t : S) → GoesOn at s later t → discarded + length held ≤ later → GoesAhead at s later t None
    stopped : (later : ℕ) (t u : S) (o : Offered) → GoesOn at s later t → discarded ≤ later → later - discarded < length held → (o ≡ Accepted → ⊥) →
        Becomes held (later - discarded) t o u → GoesAhead at s later u (refused_by o)

module _ {H : Type 0} {w v : ℕ} (bs : List (BeatOf H w)) (n : ℕ) (answer : BeatOf H w → Option SideFault) (x : World H w v) where
  -- the next beat of a list is refused for this fault, or there is no beat left, or none may be offered
  abbrev pub RestsIn : Option SideFault → Type 0
  RestsIn (Some fault) = (b : BeatOf H w) × (slice_get bs n ≡ Some b) × (answer b ≡ Some fault)
  RestsIn None = (slice_get bs n ≡ None) ⊎ ((b : BeatOf H w) × (slice_get bs n ≡ Some b) × ((x.stage ≢ []) ⊎ (x.closed ≡ true)))

-- ---- all channels

module _ {C M : ℕ} where
  -- a run that represented one past, with this number of accepted beats of each list, represents another one later
  pub record HavePassed (discarded : Counts) (held : Script C M) (n : PerChannel ℕ) (x : Past C M) (m : PerChannel ℕ) (t : Bridge C M) : Type 0 where
    pub past : Past C M
    pub stands : StandsFor t past
    pub is_at : (near : Beats C M) (far : Beats M C) → ArePart discarded held near → IsAt near n far x → IsAt near m far past

  -- the reason why each channel rests at these lists
  pub record AllRest (near : Beats C M) (n : PerChannel ℕ) (x : Past C M) (o : PerChannel (Option SideFault)) : Type 0 where
    pub a : RestsIn near.a n.a (client_answer x.client) x.a o.a
    pub b : RestsIn near.b n.b (stops_alone rules_b x.b.accepted) x.b o.b
    pub c : RestsIn near.c n.c (stops_alone rules_c x.c.accepted) x.c o.c
    pub d : RestsIn near.d n.d (manager_answer x.manager) x.d o.d
    pub e : RestsIn near.e n.e (stops_alone rules_e x.e.accepted) x.e o.e

-- the number of held beats that were accepted, if `discarded` were discarded before
abbrev pub behind : Counts → PerChannel ℕ → PerChannel ℕ
behind discarded n = record { a = n.a - discarded.a; b = n.b - discarded.b; c = n.c - discarded.c; d = n.d - discarded.d; e = n.e - discarded.e }

-- no channel has discarded back
pub record AreOn (n m : PerChannel ℕ) : Type 0 where
  pub a : n.a ≤ m.a
  pub b : n.b ≤ m.b
  pub c : n.c ≤ m.c
  pub d : n.d ≤ m.d
  pub e : n.e ≤ m.e

-- the number of beats of all channels
abbrev pub all_counts : PerChannel ℕ → ℕ
all_counts n = n.a + n.b + n.c + n.d + n.e

-- the distance that the beats under way still have to go: into the ring, into the inbox, and out of it
abbrev pub way_in : {H : Type 0} {v : ℕ} → Pipe H v → ℕ
way_in p = 3 * length p.stage + 2 * length p.ring + length p.inbox

module _ {C M : ℕ} where
  abbrev pub all_ways : Bridge C M → ℕ
  all_ways s = way_in s.a + way_in s.b + way_in s.c + way_in s.d + way_in s.e

  -- a bridge represents some past
  abbrev pub IsSound : Bridge C M → Type 0
  IsSound s = (x : Past C M) × StandsFor s x

-- ---- the end

-- the reason why a channel offers no more beats: the fault for which its next beat is refused or, if none is left, the
-- result of closing it
abbrev pub stop_by : Option SideFault → Result (Unit {0}) EndFault → Stop
stop_by (Some fault) closed = Refused fault
stop_by None (Ok _) = Done
stop_by None (Err _) = Cut

-- the same, if this is the rest of its last message
abbrev pub IsStopOf : {X : Type 0} → Option SideFault → (rest : List X) → Stop → Type 0
IsStopOf (Some fault) rest stop = stop ≡ Refused fault
IsStopOf None rest stop = ((stop ≡ Done) × (rest ≡ [])) ⊎ ((stop ≡ Cut) × (rest ≢ []))

module _ {C M : ℕ} where
  pub record AreStopsOf (x : Past C M) (o : PerChannel (Option SideFault)) (stops : PerChannel Stop) : Type 0 where
    pub a : IsStopOf o.a (rest_of rules_a C x.a.accepted) stops.a
    pub b : IsStopOf o.b (rest_of rules_b M x.b.accepted) stops.b
    pub c : IsStopOf o.c (rest_of rules_c C x.c.accepted) stops.c
    pub d : IsStopOf o.d (rest_of rules_d M x.d.accepted) stops.d
    pub e : IsStopOf o.e (rest_of rules_e C x.e.accepted) stops.e

  -- a run has come to rest: nothing is under way, and each channel rests
  pub record HasStopped {F : Type 0} (Holds : F → Beats M C → Type 0) (near : Beats C M) (n taken : PerChannel ℕ) (far : F) (s : Bridge C M)
      (o : PerChannel (Option SideFault)) : Type 0 where
    pub all : Beats M C
    pub holds : Holds far all
    pub counts : taken ≡ lengths all
    pub past : Past C M
    pub stands : StandsFor s past
    pub is_at : IsAt near n all past
    pub at_rest : all_under_way past ≡ 0
    pub rests : AllRest near n past o
