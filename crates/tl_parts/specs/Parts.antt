-- A part of a script that is read incrementally, and the number of its beats that were discarded (this project's
-- choice).
use Rattle.std.specs.Prelude.{◌≡◌, ◌<◌, ◌≤◌, ◌+◌, ◌-◌, ◌*◌, ◌^◌, ◌++◌, ℕ, List, length, nat_lt, if◌then◌else◌}
use Rattle.tl_settle.specs.Outcomes.{Beats}
use Rattle.tl_trace.specs.declared.script.Script.{Script}
use Rattle.tl_trace.specs.declared.script.Counts.{Counts}

-- lists that are short enough to be counted
pub record IsShort {C M : ℕ} (near : Beats C M) : Type 0 where
  pub few_a : length near.a ≤ 2 ^ 40
  pub few_b : length near.b ≤ 2 ^ 40
  pub few_c : length near.c ≤ 2 ^ 40
  pub few_d : length near.d ≤ 2 ^ 40
  pub few_e : length near.e ≤ 2 ^ 40

module _ {C M : ℕ} where
  -- the near beats of a script
  abbrev pub near_beats : Script C M → Beats C M
  near_beats s = record { a = s.a.items; b = s.b.items; c = s.c.items; d = s.d.items; e = s.e.items }

  -- the lists of a script are short enough to be counted
  abbrev pub HasShortLists : Script C M → Type 0
  HasShortLists s = IsShort (near_beats s)

-- the held items are a part of a list, after its first `discarded` items
pub record IsPart {B : Type 0} (discarded : ℕ) (held near : List B) : Type 0 where
  pub before : List B
  pub after : List B
  pub whole : near ≡ before ++ held ++ after
  pub place : discarded ≡ length before

-- the held items are the end of a list, after its first `discarded` items
pub record IsEnd {B : Type 0} (discarded : ℕ) (held near : List B) : Type 0 where
  pub before : List B
  pub whole : near ≡ before ++ held
  pub place : discarded ≡ length before

-- the beats that a script holds are a part of these lists, after the first `discarded` of each channel
pub record ArePart {C M : ℕ} (discarded : Counts) (held : Script C M) (near : Beats C M) : Type 0 where
  pub a : IsPart discarded.a held.a.items near.a
  pub b : IsPart discarded.b held.b.items near.b
  pub c : IsPart discarded.c held.c.items near.c
  pub d : IsPart discarded.d held.d.items near.d
  pub e : IsPart discarded.e held.e.items near.e

-- the same, if nothing comes after them
pub record AreEnd {C M : ℕ} (discarded : Counts) (held : Script C M) (near : Beats C M) : Type 0 where
  pub a : IsEnd discarded.a held.a.items near.a
  pub b : IsEnd discarded.b held.b.items near.b
  pub c : IsEnd discarded.c held.c.items near.c
  pub d : IsEnd discarded.d held.d.items near.d
  pub e : IsEnd discarded.e held.e.items near.e

-- the first `discarded` items of a list were discarded and the next n are held, and its position `at` is within or at the
-- end of the held ones
pub record IsBetween (discarded at n : ℕ) : Type 0 where
  pub from : discarded ≤ at
  pub to : at ≤ discarded + n
  pub few : discarded + n ≤ 2 ^ 40

-- the same for all channels of a script
pub record AreBetween {C M : ℕ} (discarded at : Counts) (held : Script C M) : Type 0 where
  pub a : IsBetween discarded.a at.a (length held.a.items)
  pub b : IsBetween discarded.b at.b (length held.b.items)
  pub c : IsBetween discarded.c at.c (length held.c.items)
  pub d : IsBetween discarded.d at.d (length held.d.items)
  pub e : IsBetween discarded.e at.e (length held.e.items)

abbrev pub none_counted : Counts
none_counted = record { a = 0; b = 0; c = 0; d = 0; e = 0 }

-- `counts` more beats of each channel were discarded
pub record AreDiscarded (before counts after : Counts) : Type 0 where
  pub a : after.a ≡ before.a + counts.a
  pub b : after.b ≡ before.b + counts.b
  pub c : after.c ≡ before.c + counts.c
  pub d : after.d ≡ before.d + counts.d
  pub e : after.e ≡ before.e + counts.e

-- the number of n held items that are discarded, if the first `done` of them are done: all of these if they are at
-- least half of the n, and otherwise none
abbrev pub going : (done n : ℕ) → ℕ
going done n = if nat_lt (2 * done) n then 0 else done

-- these counts of each channel of a script are discarded, if `discarded` were discarded before and the first `at` are done
pub record AreGoing {C M : ℕ} (discarded at : Counts) (held : Script C M) (counts : Counts) : Type 0 where
  pub a : counts.a ≡ going (at.a - discarded.a) (length held.a.items)
  pub b : counts.b ≡ going (at.b - discarded.b) (length held.b.items)
  pub c : counts.c ≡ going (at.c - discarded.c) (length held.c.items)
  pub d : counts.d ≡ going (at.d - discarded.d) (length held.d.items)
  pub e : counts.e ≡ going (at.e - discarded.e) (length held.e.items)

-- fewer of n items held after the first `discarded` are done than wait, or none is done (the first `at` of all items are
-- done)
abbrev pub IsWaiting : (discarded at n : ℕ) → Type 0
IsWaiting discarded at n = discarded < at → at - discarded < discarded + n - at

-- the same for all channels of a script
pub record AreWaiting {C M : ℕ} (discarded at : Counts) (held : Script C M) : Type 0 where
  pub a : IsWaiting discarded.a at.a (length held.a.items)
  pub b : IsWaiting discarded.b at.b (length held.b.items)
  pub c : IsWaiting discarded.c at.c (length held.c.items)
  pub d : IsWaiting discarded.d at.d (length held.d.items)
  pub e : IsWaiting discarded.e at.e (length held.e.items)
