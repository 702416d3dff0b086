-- The far beats of a run, as they come to where they go (this project's choice).
use Rattle.std.specs.Prelude.{◌++◌, ◌≤◌, ℕ, List, [], length}
use Rattle.tl_msg.specs.Rules.{Rules}
use Rattle.tl_msg.specs.Tables.{rules_a, rules_b, rules_c, rules_d, rules_e}
use Rattle.tl_msg.specs.declared.beat.BeatOf.{BeatOf}
use Rattle.tl_convert.specs.Accepted.{accepted_of}
use Rattle.tl_convert.specs.Due.{due}
use Rattle.tl_settle.specs.Outcomes.{Beats}
use Rattle.tl_sides.specs.declared.per_channel.PerChannel.{PerChannel}

-- room for all beats that a list of near beats can make due, whatever the homes are
abbrev pub HasRoom : {H : Type 0} (r : Rules H) {w : ℕ} (v : ℕ) → (bs : List (BeatOf H w)) → (room : ℕ) → Type 0
HasRoom r {w = w} v bs room = (homes : List ℕ) → length (due r w v (accepted_of r bs) homes) ≤ room

module _ {C M : ℕ} where
  -- no beat of any channel
  abbrev pub no_beats : Beats C M
  no_beats = record { a = []; b = []; c = []; d = []; e = [] }

  -- on each channel, the first beats followed by the second ones
  abbrev pub joined : Beats C M → Beats C M → Beats C M
  joined before more = record {
    a = before.a ++ more.a;
    b = before.b ++ more.b;
    c = before.c ++ more.c;
    d = before.d ++ more.d;
    e = before.e ++ more.e;
  }

  -- at most this number of beats on each channel
  pub record Fit (bs : Beats C M) (room : PerChannel ℕ) : Type 0 where
    pub a : length bs.a ≤ room.a
    pub b : length bs.b ≤ room.b
    pub c : length bs.c ≤ room.c
    pub d : length bs.d ≤ room.d
    pub e : length bs.e ≤ room.e

  -- enough room on each channel for all far beats that the near beats of a script can make due
  pub record HaveRoom (near : Beats C M) (room : PerChannel ℕ) : Type 0 where
    pub in_a : HasRoom rules_a M near.a room.a
    pub in_b : HasRoom rules_b C near.b room.b
    pub in_c : HasRoom rules_c M near.c room.c
    pub in_d : HasRoom rules_d C near.d room.d
    pub in_e : HasRoom rules_e M near.e room.e
