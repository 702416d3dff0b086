-- The results of the parts of the reader. Only contracts of private functions use these words.
use Rattle.std.specs.Prelude.{◌≡◌, ◌≢◌, ◌≤◌, ◌<◌, ◌+◌, ◌-◌, ◌*◌, ◌^◌, ◌==◌, ◌&&◌, ℕ, Bool, true, false, List, [], ◌∷◌, ◌++◌, drop, take, map, length}
use Rattle.std.specs.Prelude.{IfErr, IfOk, IsOk, Result, Option, Some, None, MatchOption, is_none, nat_lt, if◌then◌else◌, slice_index, slice_range}
use Rattle.std.specs.Prelude.{Vec}
use Rattle.std.specs.List.{list_all, list_any}
use Rattle.std.specs.Option.{option_to_list}
use Rattle.std.specs.Str.Parse.{digits_value}
use Rattle.std.specs.Char.{digit_value}
use Rattle.tl_trace.specs.Fields.{Field, mask, data_lanes, corrupt, Form, head_value, number_of_lanes, values}
use Rattle.tl_lanes.specs.declared.limits.TheConstants.{WIDEST}
use Rattle.tl_trace.specs.Texts.{SaysLine, TellsLines, is_kept_line, is_version}
use Rattle.tl_trace.specs.Faults.{IsFirstFault, IsReadableTo, body_fault}
use Rattle.tl_trace.specs.declared.head_reader.HeadFields.{HeadFields}
use Rattle.tl_trace.specs.declared.head_reader.CommonFields.{CommonFields}
use Rattle.tl_trace.specs.declared.line.Line.{Line}
use Rattle.tl_trace.specs.declared.line_reader.Rest.{Rest}
use Rattle.tl_trace.specs.Inner.LineRests.{mask_length, data_length}
use Rattle.tl_trace.specs.declared.script.Script.{Script}
use Rattle.tl_trace.specs.declared.script_reader.ParsedLines.{ParsedLines}
use Rattle.tl_trace.specs.declared.fault.TraceFault.{TraceFault}
use Rattle.tl_trace.specs.declared.fault.TraceKind.{TraceKind}
use Rattle.tl_trace.specs.declared.fault.TraceKind.TheVariants.{OutOfMemory}
use Rattle.tl_trace.specs.declared.places.TheConstants.{LONGEST_LINE}
use Rattle.tl_trace.specs.Scripts.{Discarded, HasGrown, HasReadPast, HasStopped, IsUnfinished, beat_of_a, beat_of_b, beat_of_c, beat_of_d, beat_of_e}
use Rattle.tl_msg.specs.declared.beat.BeatOf.{BeatOf}
use Rattle.tl_trace.specs.Lines.{is_hex, is_lanes, places_from, IsLine, is_kept}

-- the value of a lower-case digit, and 16 for every other byte
abbrev pub digit_of : (byte : ℕ) → ℕ
digit_of byte = if is_hex byte then digit_value byte else 16

-- the number that these bytes form, if each is a digit
unfoldable pub number_of : List ℕ → Option ℕ
number_of digits = if list_all is_hex digits then Some (digits_value 16 digits) else None

-- a space at a position, and then a number of `count` digits
unfoldable pub field_at : List ℕ → (at count : ℕ) → Option ℕ
field_at text at count = if slice_index text at == 32 then number_of (slice_range text (at + 1) (at + 1 + count)) else None

-- the values of the fields that begin at a position, None for each that does not have its shape
abbrev pub fields_from : (w : ℕ) → List ℕ → (at : ℕ) → List Field → List (Option ℕ)
fields_from w text at fs = map (λ p. field_at text p.at p.count) (places_from at w fs)

-- a field of a head: the width does not change its digits
abbrev pub is_head_field : Field → Bool
is_head_field mask = false
is_head_field data_lanes = false
is_head_field corrupt = false
is_head_field _ = true

-- the fields of a head as they were read, 0 for each that it does not have
abbrev pub read_value : HeadFields → Field → ℕ
read_value r = head_value r.opcode r.param r.size r.source r.address r.sink r.denied

-- each field is in the range of its digits, for ids of this many digits
pub record IsSmall (digits : ℕ) (r : HeadFields) : Type 0 where
  pub size : r.size < 16
  pub source : r.source < 16 ^ digits
  pub address : r.address < 2 ^ 64
  pub sink : r.sink < 16 ^ digits
  pub opcode : r.opcode < 16
  pub param : r.param < 16

-- the value of two digits
pub record IsPair (first second value : ℕ) : Type 0 where
  pub high : digit_of first ≤ 15
  pub low : digit_of second ≤ 15
  pub is : value ≡ digit_of first * 16 + digit_of second

-- if bad is at most 15, these digits form the number; otherwise one of them is not a digit
pub record IsSpelt (digits : List ℕ) (value bad : ℕ) : Type 0 where
  pub good : bad ≤ 15 → number_of digits ≡ Some value
  pub small : bad ≤ 15 → value < 16 ^ length digits
  pub none : 15 < bad → number_of digits ≡ None

-- if bad is at most 15, the number comes after a space at a position; otherwise there is no number of `count` digits
-- there
pub record IsNumber (text : List ℕ) (at count value bad : ℕ) : Type 0 where
  pub good : bad ≤ 15 → field_at text at count ≡ Some value
  pub small : bad ≤ 15 → value < 16 ^ count
  pub none : 15 < bad → field_at text at count ≡ None

-- if bad is at most 15, fields with these values begin at a position; otherwise one of them does not have its shape
pub record IsPart (w : ℕ) (text : List ℕ) (at : ℕ) (fs : List Field) (vs : List ℕ) (bad : ℕ) : Type 0 where
  pub good : bad ≤ 15 → fields_from w text at fs ≡ map Some vs
  pub none : 15 < bad → list_any is_none (fields_from w text at fs) ≡ true

-- the fields that a line begins with, after its letter, for ids of this many digits
pub record IsHead (digits : ℕ) (text : List ℕ) (fs : List Field) (r : HeadFields) : Type 0 where
  pub part : IsPart 0 text 1 fs (map (read_value r) fs) r.bad
  pub small : r.bad ≤ 15 → IsSmall digits r

-- opcode and param are in range, and m has the common fields
pub record IsCommon (r : HeadFields) (params : ℕ) (m : CommonFields) : Type 0 where
  pub range : nat_lt r.opcode 8 && nat_lt r.param params ≡ true
  pub opcode : m.opcode ≡ r.opcode
  pub param : m.param ≡ r.param
  pub size : m.size ≡ r.size
  pub source : m.source ≡ r.source

module _ {H : Type 0} (f : Form H) where
  -- each field of a head is in range
  abbrev pub is_head_in_range : HeadFields → Bool
  is_head_in_range r = list_all (λ field. nat_lt (read_value r field) (values f 0 field)) f.head_fields

  -- the head of these fields, each of which is in range
  pub record IsHeadOf (r : HeadFields) (h : H) : Type 0 where
    pub range : is_head_in_range r ≡ true
    pub same : map (f.value h) f.head_fields ≡ map (read_value r) f.head_fields

  abbrev pub Takes : HeadFields → Option H → Type 0
  Takes r o = MatchOption o (is_head_in_range r ≡ false) (IsHeadOf r)

-- the fields after the head in a line of a channel, and their values: those that the channel has
abbrev pub fields_of_mask : (masked : Bool) → List Field
fields_of_mask masked = if masked then mask ∷ [] else []

abbrev pub fields_of_data : (has_data : Bool) → List Field
fields_of_data has_data = if has_data then data_lanes ∷ corrupt ∷ [] else []

abbrev pub mask_values : (masked : Bool) (m : ℕ) → List ℕ
mask_values masked m = if masked then m ∷ [] else []

abbrev pub data_values : (has_data : Bool) (d c : ℕ) → List ℕ
data_values has_data d c = if has_data then d ∷ c ∷ [] else []

-- the preconditions of their reader: a beat has n lanes, each of which is 0, and the line has w of them
pub record CanReadRest (masked has_data : Bool) (n w : ℕ) (text : List ℕ) (at : ℕ) (lanes : List ℕ) : Type 0 where
  pub width : w ≤ n
  pub most : n ≤ WIDEST
  pub room : at + (mask_length masked w + data_length has_data w) ≤ length text
  pub bytes : is_lanes n lanes ≡ true
  pub zero : number_of_lanes lanes ≡ 0

-- the result of their reader
pub record IsRest (masked has_data : Bool) (n w : ℕ) (text : List ℕ) (at : ℕ) (before after : List ℕ) (r : Rest) : Type 0 where
  pub part : IsPart w text at (fields_of_mask masked ++ fields_of_data has_data)
      (mask_values masked r.mask ++ data_values has_data (number_of_lanes after) r.corrupt) r.bad
  pub bytes : is_lanes n after ≡ true
  pub small : r.bad ≤ 15 → number_of_lanes after < 256 ^ w
  pub no_mask : masked ≡ false → r.mask ≡ 0
  pub no_data : has_data ≡ false → (after ≡ before) × (r.corrupt ≡ 0)

-- the beat of a line, as a trace keeps it
pub record IsRead {H : Type 0} (f : Form H) (w : ℕ) (text : List ℕ) {n : ℕ} (b : BeatOf H n) : Type 0 where
  pub line : IsLine f w b text
  pub kept : is_kept f w b ≡ true

-- the preconditions of the reader of a line of a known channel: the letter of the line, and that of the n lanes of a
-- beat the line has w
pub record CanReadBeat {H : Type 0} (f : Form H) (n w : ℕ) (text : List ℕ) : Type 0 where
  pub width : w ≤ n
  pub most : n ≤ WIDEST
  pub letter : slice_index text 0 ≡ f.rules.letter

-- the same for a line from a position on, if the line has all lanes of a beat
pub record CanPush {H : Type 0} (f : Form H) (w : ℕ) (text : List ℕ) (at : ℕ) : Type 0 where
  pub width : w ≤ WIDEST
  pub inside : at < length text
  pub letter : slice_index text at ≡ f.rules.letter

-- the preconditions of a reader of later lines: the version is 1 or 2, and both widths are at most the widest
pub record CanRead (v c m : ℕ) : Type 0 where
  pub version : is_version v ≡ true
  pub client : c ≤ WIDEST
  pub manager : m ≤ WIDEST

-- the beat of a later line of any channel, as a trace keeps it
pub record IsReadLine (version client manager : ℕ) (text : List ℕ) (line : Line) : Type 0 where
  pub says : SaysLine version client manager line text
  pub kept : is_kept_line version client manager line ≡ true
  pub faultless : body_fault version client manager text ≡ None

-- the line from `at` to the next line end, or to the end of the text
pub record LineAt (text : List ℕ) (at end : ℕ) : Type 0 where
  pub from : at ≤ end
  pub to : end ≤ length text
  pub free : (k : ℕ) → at + k < end → slice_index text (at + k) ≢ 10
  pub stop : end < length text → slice_index text end ≡ 10

-- the beat of a line was appended to those of its channel
pub record IsPushed {client manager : ℕ} (line : Line) (before after : Script client manager) : Type 0 where
  pub a : after.a.items ≡ before.a.items ++ option_to_list (beat_of_a client line)
  pub b : after.b.items ≡ before.b.items ++ option_to_list (beat_of_b manager line)
  pub c : after.c.items ≡ before.c.items ++ option_to_list (beat_of_c client line)
  pub d : after.d.items ≡ before.d.items ++ option_to_list (beat_of_d manager line)
  pub e : after.e.items ≡ before.e.items ++ option_to_list (beat_of_e client line)

-- the beat of the line at `at`, whose LF is at `end`, was appended to those of its channel
pub record IsLinePushed {H : Type 0} (f : Form H) (w : ℕ) (text : List ℕ) (at : ℕ) (before after : List (BeatOf H w)) (end : ℕ) : Type 0 where
  pub beat : BeatOf H w
  pub from : at < end
  pub to : end < length text
  pub stop : slice_index text end ≡ 10
  pub read : IsRead f w (slice_range text at end) beat
  pub put : after ≡ before ++ beat ∷ []

-- consecutive lines of a channel from `at` on have their LF at these positions, listed last one first. Their beats were
-- appended to those of the channel. `place` is the position after them
abbrev pub ArePushed : {H Z : Type 0} (f : Form H) (w : ℕ) (text : List ℕ) (at : ℕ) (before after : Vec (BeatOf H w) Z) → List ℕ →
    (place : ℕ) → Type 0
ArePushed f w text at before after [] place = (after.items ≡ before.items) × (place ≡ at)
ArePushed {H} {Z} f w text at before after (end ∷ ends) place = (between : Vec (BeatOf H w) Z) × (from : ℕ) ×
    ArePushed f w text at before between ends from
    × IsLinePushed f w text from between.items after.items end × (place ≡ end + 1)

-- the beats of `lines.count` lines of a channel were appended to its list
pub record AreLinesPushed {H Z : Type 0} (f : Form H) (w : ℕ) (text : List ℕ) (at : ℕ) (before after : Vec (BeatOf H w) Z)
    (lines : ParsedLines) : Type 0 where
  pub ends : List ℕ
  pub count : lines.count ≡ length ends
  pub few : at + lines.count ≤ lines.place
  pub pushed : ArePushed f w text at before after ends lines.place

-- the beat of the line at `at`, whose LF is at `end`, was appended to those of its channel, for any channel
pub record IsNextPushed {client manager : ℕ} (version : ℕ) (text : List ℕ) (at : ℕ) (before after : Script client manager) (end : ℕ) : Type 0 where
  pub line : Line
  pub from : at ≤ end
  pub to : end < length text
  pub stop : slice_index text end ≡ 10
  pub read : IsReadLine version client manager (slice_range text at end) line
  pub put : IsPushed line before after

-- two scripts with the same beats
pub record IsSameScript {client manager : ℕ} (before after : Script client manager) : Type 0 where
  pub a : after.a.items ≡ before.a.items
  pub b : after.b.items ≡ before.b.items
  pub c : after.c.items ≡ before.c.items
  pub d : after.d.items ≡ before.d.items
  pub e : after.e.items ≡ before.e.items

-- consecutive lines of any channels from `at` on have their LF at these positions, listed last one first. Their beats
-- were appended to those of their channels. `place` is the position after them
abbrev pub AreBehind : {client manager : ℕ} (version : ℕ) (text : List ℕ) (at : ℕ) (before after : Script client manager) → List ℕ →
    (place : ℕ) → Type 0
AreBehind version text at before after [] place = IsSameScript before after × (place ≡ at)
AreBehind {client} {manager} version text at before after (end ∷ ends) place = (between : Script client manager) × (from : ℕ)
    × AreBehind version text at before between ends from × IsNextPushed version text from between after end × (place ≡ end + 1)

-- the beats of `lines.count` lines were appended to those of their channels
pub record AreNextPushed {client manager : ℕ} (version : ℕ) (text : List ℕ) (at : ℕ) (before after : Script client manager)
    (lines : ParsedLines) : Type 0 where
  pub ends : List ℕ
  pub count : lines.count ≡ length ends
  pub few : at + lines.count ≤ lines.place
  pub pushed : AreBehind version text at before after ends lines.place

-- the text ends within the line at `at`, which is shorter than the longest line, and the script stays as it was
pub record IsLeft {client manager : ℕ} (text : List ℕ) (at : ℕ) (before after : Script client manager) : Type 0 where
  pub rest : IsUnfinished (drop at text)
  pub same : IsSameScript before after

-- the line at `at` has this fault; the line has its end, or is too long
pub record IsFaultyAt (version client manager : ℕ) (text : List ℕ) (at : ℕ) (kind : TraceKind) : Type 0 where
  pub end : ℕ
  pub line : LineAt text at end
  pub long : end ≡ length text → LONGEST_LINE ≤ end - at
  pub fault : body_fault version client manager (slice_range text at end) ≡ Some kind

-- the line at `at` has its end and has a beat
pub record IsReadableAt (version client manager : ℕ) (text : List ℕ) (at : ℕ) : Type 0 where
  pub end : ℕ
  pub line : LineAt text at end
  pub beat : Line
  pub inside : end < length text
  pub read : IsReadLine version client manager (slice_range text at end) beat

-- the line at `at` is refused with this kind: it has this fault, or its beat could not be stored
abbrev pub IsRefusedAt : (version client manager : ℕ) (text : List ℕ) (at : ℕ) (kind : TraceKind) → Type 0
IsRefusedAt version client manager text at kind =
    (kind ≢ OutOfMemory → IsFaultyAt version client manager text at kind) × (kind ≡ OutOfMemory → IsReadableAt version client manager text at)

-- whole lines of a piece were read after a text whose last line has number `line`: all up to one without its end, or
-- those before one with a fault
pub record IsPieceRead {client manager : ℕ} (version : ℕ) (piece : List ℕ) (before : Script client manager) (line : ℕ) (after : Script client manager)
    (last : ℕ) (r : Result ℕ TraceFault) : Type 0 where
  pub used : IfOk r (λ used. used ≤ length piece)
  pub lines : IfOk r (λ used. last ≤ line + used)
  pub rest : IfOk r (λ used. IsUnfinished (drop used piece))
  pub grown : IsOk r → HasGrown before after
  pub told : (done : List ℕ) (discarded : Discarded client manager) → HasReadPast version done discarded before line
      → IfOk r (λ used. HasReadPast version (done ++ take used piece) discarded after last)
  pub fault : (done more : List ℕ) (discarded : Discarded client manager) → HasReadPast version done discarded before line
      → IfErr r (λ e. e.kind ≢ OutOfMemory → IsFirstFault (done ++ piece ++ more) e.line e.kind)
  pub memory : (done more : List ℕ) (discarded : Discarded client manager) → HasReadPast version done discarded before line
      → IfErr r (λ e. e.kind ≡ OutOfMemory → IsReadableTo (done ++ piece ++ more) e.line)
  pub stopped : (done : List ℕ) (discarded : Discarded client manager) → HasReadPast version done discarded before line
      → IfErr r (λ e. HasStopped version done piece discarded after last e.line)

-- a fault of a text: the first one, or out of memory after lines without a fault
abbrev pub IsFaultOf : List ℕ → TraceFault → Type 0
IsFaultOf text e = (e.kind ≢ OutOfMemory → IsFirstFault text e.line e.kind) × (e.kind ≡ OutOfMemory → IsReadableTo text e.line)

-- these are the lines of a text, as a trace keeps them
abbrev pub AreLines : (version client manager : ℕ) → List Line → List ℕ → Type 0
AreLines version client manager lines text = TellsLines version client manager lines text ×
    (list_all (is_kept_line version client manager) lines ≡ true)
