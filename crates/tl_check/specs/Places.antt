-- The progress of the check of a script (this project's choice).
use Rattle.std.specs.Prelude.{◌≡◌, ◌≤◌, ◌+◌, ◌*◌, ◌^◌, ◌++◌, ℕ, Option, List, length, take, drop}
use Rattle.tl_lanes.specs.declared.limits.TheConstants.{WIDEST}
use Rattle.tl_msg.specs.Rules.{Rules}
use Rattle.tl_msg.specs.declared.head.HeadA.{HeadA}
use Rattle.tl_msg.specs.declared.head.HeadD.{HeadD}
use Rattle.tl_msg.specs.declared.beat.BeatOf.{BeatOf}
use Rattle.tl_burst.specs.Handing.{IsHanded, burst_after}
use Rattle.tl_convert.specs.Due.{due}
use Rattle.tl_convert.specs.Accepted.{accepted_of, accepted_after}
use Rattle.tl_settle.specs.Histories.{Event, asked, answered}
use Rattle.tl_settle.specs.Rounds.{Run}
use Rattle.tl_settle.specs.Settling.{far_a, far_d}
use Rattle.tl_settle.specs.Books.{Client, Manager, KnowsClient, KnowsManager}

-- the first `at` of a channel's near beats were accepted: this burst is unfinished after them, none of them has a fault
-- at its place, and they make `far` far beats due
pub record HasCome {H : Type 0} (r : Rules H) {w : ℕ} (v : ℕ) (bs : List (BeatOf H w)) (burst : Option (H × ℕ)) (at far : ℕ) : Type 0 where
  pub burst_is : burst ≡ burst_after r (take at bs)
  pub handed : IsHanded r (take at bs)
  pub most : at ≤ length bs
  pub lawful : accepted_of r bs ≡ take at bs ++ accepted_after r (take at bs) (drop at bs)
  -- this number, whatever the homes are
  pub far_is : (homes : List ℕ) → far ≡ length (due r w v (take at bs) homes)

-- the first i near beats of channel A and the first j of channel D were accepted, in some order of the two sides'
-- calls; each side has taken all beats that are due, and its book knows its history
pub record AreAt {C M : ℕ} (a : List (BeatOf HeadA C)) (d : List (BeatOf HeadD M)) (i j : ℕ) (client : Client) (manager : Manager) : Type 0 where
  pub client_history : List (Event C)
  pub manager_history : List (Event M)
  pub client_knows : KnowsClient client client_history
  pub manager_knows : KnowsManager manager manager_history
  pub run : Run a d i j client_history manager_history
  pub a_taken : asked manager_history ≡ far_a a d i
  pub d_taken : answered client_history ≡ far_d a d j

-- the first `discarded` beats of a channel's list were discarded and the next n are held, and its position `at` is within or
-- at the end of the held ones
pub record IsWithin (discarded at far n : ℕ) : Type 0 where
  pub from : discarded ≤ at
  pub to : at ≤ discarded + n
  pub few : discarded + n ≤ 2 ^ 40
  pub few_far : far ≤ WIDEST * at
