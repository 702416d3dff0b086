-- The number of far beats that one near beat completes.
use Rattle.std.specs.Prelude.{◌≡◌, ◌+◌, ℕ, true, false}
use Rattle.tl_msg.specs.Rules.{Rules}
use Rattle.tl_convert.specs.Due.{far_beats_of}

-- a near beat with data completes those far beats of its message whose last byte it carries; one without data completes
-- one
pub record Gives {H : Type 0} (r : Rules H) (w v : ℕ) (h : H) (index given : ℕ) : Type 0 where
  pub data_beat : r.carries h ≡ true → given + far_beats_of r h w v index ≡ far_beats_of r h w v (index + 1)
  pub no_data : r.carries h ≡ false → given ≡ 1
