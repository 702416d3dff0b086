-- Laws of texts.
use Rattle.std.specs.Prelude.{◌^◌, ◌≤◌, ◌≡◌, ◌↔◌, ◌+◌, ◌-◌, ◌*◌, ◌<◌, ℕ, true, List, slice_index}
use Rattle.std.specs.Char.{digit_value}
use Rattle.tl_msg.specs.declared.beat.BeatOf.{BeatOf}
use Rattle.tl_trace.specs.Fields.{Form, HasIds, number_of_lanes}
use Rattle.tl_trace.specs.Lines.{hex, is_lanes, IsLine, is_writable, line_text}
use Rattle.tl_trace.specs.Texts.{Tells, IsTrace, trace_text}
use Rattle.tl_msg.specs.Beats.{IsBeat}
use Rattle.tl_msg.specs.Faults.{IsLawfulBeat}
use Rattle.tl_trace.specs.Faults.{is_readable}
use Rattle.tl_trace.specs.Scripts.{HasBeats}
use Rattle.tl_trace.specs.declared.line.Line.{Line}

-- no text is the text of two traces
abbrev pub OneTrace : Type 0
OneTrace = (text : List ℕ) (version client manager : ℕ) (lines : List Line) (version' client' manager' : ℕ) (lines' : List Line) →
    Tells text version client manager lines → Tells text version' client' manager' lines' → (version ≡ version') × (client ≡ client') ×
    (manager ≡ manager') × (lines ≡ lines')

-- each trace has exactly one text
abbrev pub OneText : Type 0
OneText = (version client manager : ℕ) (lines : List Line) (text : List ℕ) → IsTrace version client manager lines →
    Tells text version client manager lines ↔ (text ≡ trace_text version client manager lines)

-- the text of a trace has no fault
abbrev pub FaultlessTexts : Type 0
FaultlessTexts = (text : List ℕ) (version client manager : ℕ) (lines : List Line) → Tells text version client manager lines → is_readable text ≡ true

-- the text of a writable beat is the only line of that beat
abbrev pub IsOnlyLine : {H : Type 0} → Form H → Type 0
IsOnlyLine {H} f = (n w : ℕ) (b : BeatOf H n) (text : List ℕ) → is_writable f w b ≡ true → IsLine f w b text ↔ (text ≡ line_text f w b)

-- the two digits of lane l are pair w - 1 - l of the data
abbrev pub LanesByPairs : Type 0
LanesByPairs = (w l : ℕ) (lanes : List ℕ) → is_lanes w lanes ≡ true → l < w →
    digit_value (slice_index (hex (2 * w) (number_of_lanes lanes)) (2 * (w - 1 - l))) * 16
    + digit_value (slice_index (hex (2 * w) (number_of_lanes lanes)) (2 * (w - 1 - l) + 1)) ≡ slice_index lanes l

-- if the data is in range, the lanes from the width on are 0
abbrev pub ZeroLanesPastTheWidth : Type 0
ZeroLanesPastTheWidth = (w l : ℕ) (lanes : List ℕ) → number_of_lanes lanes < 256 ^ w → w ≤ l → slice_index lanes l ≡ 0

-- a lawful beat at its width, as memory holds it, is writable if its ids fit their digits
abbrev pub LawfulIsWritable : {H : Type 0} → Form H → Type 0
LawfulIsWritable {H} f = (w : ℕ) (b : BeatOf H w) → IsBeat f.rules b → HasIds f b.head → IsLawfulBeat f.rules b → is_writable f w b ≡ true

-- the beats of a trace are beats as memory holds them
abbrev pub TracesHaveBeats : Type 0
TracesHaveBeats = (version client manager : ℕ) (lines : List Line) → IsTrace version client manager lines → HasBeats client manager lines
