-- The lists of far beats of a run, and their room. Only contracts within the two runs use these definitions.
use Rattle.std.specs.Prelude.{◌≡◌, ◌≤◌, ℕ, List, length, vec_capacity}
use Rattle.tl_msg.specs.Rules.{Rules}
use Rattle.tl_msg.specs.Tables.{rules_a, rules_b, rules_c, rules_d, rules_e}
use Rattle.tl_msg.specs.declared.beat.BeatOf.{BeatOf}
use Rattle.tl_convert.specs.Due.{due}
use Rattle.tl_convert.specs.Accepted.{accepted_of}
use Rattle.tl_settle.specs.Outcomes.{Beats}
use Rattle.tl_sides.specs.declared.per_channel.PerChannel.{PerChannel}
pub use Rattle.tl_run.specs.Arrivals.{HasRoom, HaveRoom}
use Rattle.tl_trace.specs.declared.script.Script.{Script}

-- the number of beats that the longest well-formed first part of a list makes due, whatever the homes are
abbrev pub IsDueCount : {H : Type 0} (r : Rules H) {w : ℕ} (v : ℕ) → (bs : List (BeatOf H w)) → (count : ℕ) → Type 0
IsDueCount r {w = w} v bs count = (homes : List ℕ) → count ≡ length (due r w v (accepted_of r bs) homes)

module _ {C M : ℕ} where
  -- the number of beats that the near beats of a script make due on each channel; on A and D, if nothing holds them
  -- back
  pub record AreDueCounts (near : Beats C M) (count : PerChannel ℕ) : Type 0 where
    pub of_a : IsDueCount rules_a M near.a count.a
    pub of_b : IsDueCount rules_b C near.b count.b
    pub of_c : IsDueCount rules_c M near.c count.c
    pub of_d : IsDueCount rules_d C near.d count.d
    pub of_e : IsDueCount rules_e M near.e count.e

  -- the beats that were taken
  abbrev pub beats_of : Script M C → Beats M C
  beats_of t = record { a = t.a.items; b = t.b.items; c = t.c.items; d = t.d.items; e = t.e.items }

  -- the lists have that much
  abbrev pub HasRoomFor : Beats C M → Script M C → Type 0
  HasRoomFor near t = HaveRoom near
      (record { a = vec_capacity t.a; b = vec_capacity t.b; c = vec_capacity t.c; d = vec_capacity t.d; e = vec_capacity t.e })

  -- the lists have at least this capacity
  pub record HaveCapacity (t : Script M C) (room : PerChannel ℕ) : Type 0 where
    pub a : room.a ≤ vec_capacity t.a
    pub b : room.b ≤ vec_capacity t.b
    pub c : room.c ≤ vec_capacity t.c
    pub d : room.d ≤ vec_capacity t.d
    pub e : room.e ≤ vec_capacity t.e
