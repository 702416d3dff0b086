-- The beat of the fields that C passes, on each channel, and the fields of a beat as C receives them (this project's
-- choice).
use Rattle.std.specs.Prelude.{◌==◌, ℕ, Bool, List, not, replicate, if◌then◌else◌}
use Rattle.tl_msg.specs.declared.head.HeadA.{HeadA}
use Rattle.tl_msg.specs.declared.head.HeadB.{HeadB}
use Rattle.tl_msg.specs.declared.head.HeadC.{HeadC}
use Rattle.tl_msg.specs.declared.head.HeadD.{HeadD}
use Rattle.tl_msg.specs.declared.head.HeadE.{HeadE}
use Rattle.tl_msg.specs.declared.beat.BeatOf.{BeatOf}
use Rattle.tl_c_beats.specs.declared.fields.BeatFields.{BeatFields}
use Rattle.tl_c_beats.specs.declared.fields.TheConstants.{RESERVED}
use Rattle.tl_c_beats.specs.Masks.{whole_mask, low_word, high_word}

-- a flag is true if it is not 0
abbrev pub is_set : ℕ → Bool
is_set n = not (n == 0)

abbrev pub flag : Bool → ℕ
flag b = if b then 1 else 0

-- the bytes that are not used yet
abbrev pub unused : List ℕ
unused = replicate RESERVED 0

-- a beat of any channel, from its head
abbrev pub beat_with : {H : Type 0} {w : ℕ} → H → BeatFields → List ℕ → BeatOf H w
beat_with head f lanes = record { head = head; mask = whole_mask f.mask f.mask_high; lanes = lanes; corrupt = is_set f.corrupt }

-- the fields of a beat with this mask and corrupt bit, and a head of zeros
abbrev pub bare_fields : (mask : ℕ) (corrupt : Bool) → BeatFields
bare_fields mask corrupt = record {
  address = 0;
  mask = low_word mask;
  source = 0;
  sink = 0;
  opcode = 0;
  param = 0;
  size = 0;
  denied = 0;
  corrupt = flag corrupt;
  reserved = unused;
  mask_high = high_word mask;
}

abbrev pub beat_a : {w : ℕ} → BeatFields → List ℕ → BeatOf HeadA w
beat_a f lanes = beat_with (record { opcode = f.opcode; param = f.param; size = f.size; source = f.source; address = f.address }) f lanes

abbrev pub fields_a : {w : ℕ} → BeatOf HeadA w → BeatFields
fields_a b = record (bare_fields b.mask b.corrupt) {
  address = b.head.address;
  source = b.head.source;
  opcode = b.head.opcode;
  param = b.head.param;
  size = b.head.size;
}

abbrev pub beat_b : {w : ℕ} → BeatFields → List ℕ → BeatOf HeadB w
beat_b f lanes = beat_with (record { opcode = f.opcode; param = f.param; size = f.size; source = f.source; address = f.address }) f lanes

abbrev pub fields_b : {w : ℕ} → BeatOf HeadB w → BeatFields
fields_b b = record (bare_fields b.mask b.corrupt) {
  address = b.head.address;
  source = b.head.source;
  opcode = b.head.opcode;
  param = b.head.param;
  size = b.head.size;
}

abbrev pub beat_c : {w : ℕ} → BeatFields → List ℕ → BeatOf HeadC w
beat_c f lanes = beat_with (record { opcode = f.opcode; param = f.param; size = f.size; source = f.source; address = f.address }) f lanes

abbrev pub fields_c : {w : ℕ} → BeatOf HeadC w → BeatFields
fields_c b = record (bare_fields b.mask b.corrupt) {
  address = b.head.address;
  source = b.head.source;
  opcode = b.head.opcode;
  param = b.head.param;
  size = b.head.size;
}

abbrev pub beat_d : {w : ℕ} → BeatFields → List ℕ → BeatOf HeadD w
beat_d f lanes = beat_with
    (record { opcode = f.opcode; param = f.param; size = f.size; source = f.source; sink = f.sink; denied = is_set f.denied }) f lanes

abbrev pub fields_d : {w : ℕ} → BeatOf HeadD w → BeatFields
fields_d b = record (bare_fields b.mask b.corrupt) {
  source = b.head.source;
  sink = b.head.sink;
  opcode = b.head.opcode;
  param = b.head.param;
  size = b.head.size;
  denied = flag b.head.denied;
}

abbrev pub beat_e : {w : ℕ} → BeatFields → List ℕ → BeatOf HeadE w
beat_e f lanes = beat_with (record { sink = f.sink }) f lanes

abbrev pub fields_e : {w : ℕ} → BeatOf HeadE w → BeatFields
fields_e b = record (bare_fields b.mask b.corrupt) { sink = b.head.sink }
