-- How a consumer that counts relates to the near beats of a text that is read. Only private contracts use these words.
use Rattle.std.specs.Prelude.{◌≡◌, ◌++◌, ℕ, length}
use Rattle.tl_settle.specs.Outcomes.{Beats}
use Rattle.tl_trace.specs.Scripts.{Discarded, GoesOn}
use Rattle.tl_trace.specs.declared.script.Script.{Script}
use Rattle.tl_trace.specs.declared.script.Counts.{Counts}

-- the beats that were removed, followed by those that the script holds
abbrev pub all_of : {C M : ℕ} → Discarded C M → Script C M → Beats C M
all_of discarded s = record { a = discarded.a ++ s.a.items; b = discarded.b ++ s.b.items; c = discarded.c ++ s.c.items; d = discarded.d ++ s.d.items; e = discarded.e ++ s.e.items }

-- near beats that begin with those that were removed and those that the script holds; more may follow
pub record Follow {C M : ℕ} (discarded : Discarded C M) (s : Script C M) (beats : Beats C M) : Type 0 where
  pub a : GoesOn (discarded.a ++ s.a.items) beats.a
  pub b : GoesOn (discarded.b ++ s.b.items) beats.b
  pub c : GoesOn (discarded.c ++ s.c.items) beats.c
  pub d : GoesOn (discarded.d ++ s.d.items) beats.d
  pub e : GoesOn (discarded.e ++ s.e.items) beats.e

-- `count` beats of each channel were removed
pub record AreCounted {C M : ℕ} (count : Counts) (discarded : Discarded C M) : Type 0 where
  pub a : count.a ≡ length discarded.a
  pub b : count.b ≡ length discarded.b
  pub c : count.c ≡ length discarded.c
  pub d : count.d ≡ length discarded.d
  pub e : count.e ≡ length discarded.e

-- How a consumer relates to its beats, if its state depends only on their counts. It knows how many were removed, and
-- it can advance over those that the script holds. Its state is the one for every list of beats that begins with these
pub record GoesWith {C M : ℕ} (count : Counts) (Can : Script C M → Type 0) (Has : Beats C M → Type 0) (discarded : Discarded C M)
    (s : Script C M) : Type 0 where
  pub counted : AreCounted count discarded
  pub can : Can s
  pub has : (beats : Beats C M) → Follow discarded s beats → Has beats
