-- The fields of a beat that was taken, and so of the first beat of an inbox, as C receives them.
use Rattle.std.specs.Prelude.{ℕ, true, Option, Some, List}
use Rattle.std.proofs.Common.{◌≡◌}
use Rattle.tl_msg.specs.declared.beat.BeatOf.{BeatOf}
use Rattle.tl_c_beats.specs.declared.fields.BeatFields.{BeatFields}
use Rattle.tl_c_beats.specs.Calls.{Told}

module _ {H : Type 0} {w : ℕ} {fields_of : BeatOf H w → BeatFields} {first : Option (BeatOf H w)} {unwritten written : BeatFields}
    {old_bytes bytes : List ℕ} where
  pub told_beat : (beat : BeatOf H w) → first ≡ Some beat → written ≡ fields_of beat → bytes ≡ beat.lanes →
      Told fields_of first unwritten written old_bytes bytes true
  told_beat beat is fields lanes = record { beat = λ e. record { beat = beat; is_first = is; fields = fields; lanes = lanes }; none = λ e. cc }
