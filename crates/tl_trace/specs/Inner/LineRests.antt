-- The part of a line after the head. Only contracts of private functions use these words.
use Rattle.std.specs.Prelude.{◌+◌, ◌*◌, ◌/◌, ◌++◌, ◌∷◌, [], if◌then◌else◌, ℕ, Bool, List}
use Rattle.tl_msg.specs.declared.beat.BeatOf.{BeatOf}
use Rattle.tl_trace.specs.Fields.{bit, number_of_lanes}
use Rattle.tl_trace.specs.Lines.{hex}
use Rattle.tl_trace.specs.Texts.{newline}

-- the mask of a channel that has one
abbrev pub mask_text : (masked : Bool) (w mask : ℕ) → List ℕ
mask_text masked w mask = if masked then 32 ∷ hex ((w + 3) / 4) mask else []

abbrev pub mask_length : (masked : Bool) (w : ℕ) → ℕ
mask_length masked w = if masked then 1 + (w + 3) / 4 else 0

-- data and corrupt of a channel that has them
abbrev pub data_text : (has_data : Bool) (w : ℕ) (lanes : List ℕ) (corrupt : Bool) → List ℕ
data_text has_data w lanes corrupt = if has_data then (32 ∷ hex (2 * w) (number_of_lanes lanes)) ++ 32 ∷ hex 1 (bit corrupt) else []

abbrev pub data_length : (has_data : Bool) (w : ℕ) → ℕ
data_length has_data w = if has_data then 1 + 2 * w + 2 else 0

-- both, and the line end
abbrev pub rest_text : {H : Type 0} {n : ℕ} (masked has_data : Bool) (w : ℕ) (b : BeatOf H n) → List ℕ
rest_text masked has_data w b = mask_text masked w b.mask ++ data_text has_data w b.lanes b.corrupt ++ newline

abbrev pub rest_length : (masked has_data : Bool) (w : ℕ) → ℕ
rest_length masked has_data w = mask_length masked w + data_length has_data w + 1
