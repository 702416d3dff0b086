-- The lists of far beats of a run in two threads, and their room. Only contracts of private functions use these
-- definitions.
use Rattle.std.specs.Prelude.{◌≡◌, ◌+◌, ◌≤◌, ℕ, length, vec_len, vec_capacity}
use Rattle.tl_bridge.specs.Words.{Bridge, Script}
use Rattle.tl_bridge.specs.declared.client_turns.ClientRun.{ClientRun}
use Rattle.tl_bridge.specs.declared.manager_turns.ManagerRun.{ManagerRun}

module _ {C M : ℕ} where
  -- the lists of both sides in their threads
  abbrev pub taken_of : ClientRun C M → ManagerRun C M → Script M C
  taken_of x y = record { a = y.far_a; b = x.far_b; c = y.far_c; d = x.far_d; e = y.far_e }

  -- the lists have room for all beats in the inboxes
  pub record HasRoomForInboxes (s : Bridge C M) (t : Script M C) : Type 0 where
    pub a : vec_len t.a + length s.a.inbox ≤ vec_capacity t.a
    pub b : vec_len t.b + length s.b.inbox ≤ vec_capacity t.b
    pub c : vec_len t.c + length s.c.inbox ≤ vec_capacity t.c
    pub d : vec_len t.d + length s.d.inbox ≤ vec_capacity t.d
    pub e : vec_len t.e + length s.e.inbox ≤ vec_capacity t.e

  -- the lists have the same capacity as before
  pub record KeepsRoom (old new : Script M C) : Type 0 where
    pub a : vec_capacity new.a ≡ vec_capacity old.a
    pub b : vec_capacity new.b ≡ vec_capacity old.b
    pub c : vec_capacity new.c ≡ vec_capacity old.c
    pub d : vec_capacity new.d ≡ vec_capacity old.d
    pub e : vec_capacity new.e ≡ vec_capacity old.e
