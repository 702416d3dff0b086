-- One step of the walk over the lines of a text.
use Rattle.tl_trace.proofs.Names.{◌≡◌, ◌≢◌, ℕ, Bool, cond, zero, suc, ◌+◌, ◌-◌, ◌<◌, ◌≤◌, true, ◌&&◌, List, [], ◌∷◌, ◌++◌, length, map, get_or, take}
use Rattle.tl_trace.proofs.Names.{drop, replicate, Option, Some, None, refl, sym, ap, ◌∙◌, arith, drop-cons, append_assoc, append-nil, add-one}
use Rattle.tl_trace.proofs.Names.{length-drop, inl, inr, subst, false, drop_split, list_all-append, cases_eq, and_from, drop-drop, get_or-drop}
use Rattle.tl_trace.proofs.Names.{drop_all, nil_from_length, take-add, list_all, slice_index, slice_range, ◌==◌, unless, ◌or_else◌, Form, form_a}
use Rattle.tl_trace.proofs.Names.{form_b, form_c, form_d, form_e, line_length, is_shaped, is_in_range, newline, is_kept_line, TellsLines, cut, body}
use Rattle.tl_trace.proofs.Names.{form_fault, body_fault, later_fault, header_of, faults_after, faults_of_lines, faults, IsFirstFault, IsReadableTo}
use Rattle.tl_trace.proofs.Names.{LineAt, IsReadLine, Line, TraceKind, OutOfMemory, Channel, Length, Shape, Range, NoEnd, Header}
use Rattle.tl_trace.specs.declared.fault.TraceKind.TheVariants as kinds
use Rattle.tl_trace.proofs.ReadLines.{IsFree, SoFar, cut_line, cut_last, body_line, body_last, ended, unended, free_take, first_fault, readable_to}
use Rattle.tl_trace.proofs.ReadLines.{one_more, told_more}
use Rattle.tl_trace.proofs.Headers.{no_empty_header}

-- a fault other than out of memory
abbrev pub NoMemory : Option TraceKind → Type 0
NoMemory o = (kind : TraceKind) → o ≡ Some kind → kind ≢ OutOfMemory

firsts_no_memory : (long shaped range : Bool) → NoMemory (unless long Length or_else unless shaped Shape or_else unless range Range)
firsts_no_memory false shaped range kind is memory = absurd cc
firsts_no_memory true false range kind is memory = absurd cc
firsts_no_memory true true false kind is memory = absurd cc
firsts_no_memory true true true kind is memory = absurd cc

form_no_memory : {H : Type 0} (f : Form H) (w : ℕ) (text : List ℕ) → NoMemory (form_fault f w text)
form_no_memory f w text = firsts_no_memory (length text == line_length f w) (is_shaped f w text) (is_in_range f w text)

channel_no_memory : NoMemory (Some Channel)
channel_no_memory kind is memory = absurd cc

-- nor is a missing end, or a first line that is no header
pub end_no_memory : NoEnd ≢ OutOfMemory
end_no_memory is = absurd cc

pub header_no_memory : kinds.Header ≢ OutOfMemory
header_no_memory is = absurd cc

-- Some fault is not None
pub some_fault : {F : Type 0} {fault : F} → Some fault ≢ None
some_fault is = absurd cc

-- a text that is not empty has a byte
pub some_byte : (n : ℕ) → (n == 0) ≡ false → 0 < n
some_byte zero none = absurd cc
some_byte (suc n) none = omega arith

five_no_memory : (a b c d e : Bool) (fa fb fc fd fe : Option TraceKind) → NoMemory fa → NoMemory fb → NoMemory fc → NoMemory fd → NoMemory fe
    → NoMemory (cond a fa (cond b fb (cond c fc (cond d fd (cond e fe (Some Channel))))))
five_no_memory true b c d e fa fb fc fd fe na nb nc nd ne = na
five_no_memory false true c d e fa fb fc fd fe na nb nc nd ne = nb
five_no_memory false false true d e fa fb fc fd fe na nb nc nd ne = nc
five_no_memory false false false true e fa fb fc fd fe na nb nc nd ne = nd
five_no_memory false false false false true fa fb fc fd fe na nb nc nd ne = ne
five_no_memory false false false false false fa fb fc fd fe na nb nc nd ne = channel_no_memory

-- no fault of a line is out of memory
pub no_memory : (version client manager : ℕ) (text : List ℕ) → NoMemory (body_fault version client manager text)
no_memory version client manager text =
    let letter = slice_index text 0 in
    five_no_memory (letter == 65) (letter == 66) (letter == 67) (letter == 68) (letter == 69)
    (form_fault (form_a version) client text) (form_fault (form_b version) manager text) (form_fault (form_c version) client text)
    (form_fault (form_d version) manager text) (form_fault (form_e version) client text)
    (form_no_memory (form_a version) client text) (form_no_memory (form_b version) manager text) (form_no_memory (form_c version) client text)
    (form_no_memory (form_d version) manager text) (form_no_memory (form_e version) client text)

pub free_line : (text : List ℕ) (at end : ℕ) → LineAt text at end → IsFree (slice_range text at end)
free_line text at end line = free_take (end - at) (drop at text) (λ k lt e. line.free k (omega arith) (sym (get_or-drop at text k 0) ∙ e))

pub split_line : (text : List ℕ) (at end : ℕ) → LineAt text at end → end < length text
    → drop at text ≡ slice_range text at end ++ newline ++ drop (end + 1) text
split_line text at end line lt =
    drop_split text at end line.from
    ∙ ap (λ (xs : List ℕ). slice_range text at end ++ xs) (drop-cons text end 0 lt ∙ ap (λ (x : ℕ). x ∷ drop (suc end) text) (line.stop lt) ∙
    ap (λ (n : ℕ). 10 ∷ drop n text) (sym (add-one end)))
    ∙ sym (append_assoc (slice_range text at end) newline (drop (end + 1) text))

pub last_line : (text : List ℕ) (at end : ℕ) → LineAt text at end → end ≡ length text → drop at text ≡ slice_range text at end
last_line text at end line e =
    drop_split text at end line.from ∙ ap (λ (xs : List ℕ). slice_range text at end ++ xs) (drop_all end text (omega arith))
    ∙ append-nil (slice_range text at end)

or_none : {F : Type 0} (o : Option F) → o or_else None ≡ o
or_none None = refl
or_none (Some x) = refl

pub later_line : (version client manager : ℕ) (line : List ℕ) → IsFree line
    → later_fault version client manager (line ++ newline) ≡ body_fault version client manager line
later_line version client manager line free =
    ap (λ (o : Option TraceKind). body_fault version client manager (body (line ++ newline)) or_else o) (ended line)
    ∙ or_none (body_fault version client manager (body (line ++ newline)))
    ∙ ap (λ (b : List ℕ). body_fault version client manager b) (body_line line free)

pub later_last : (version client manager : ℕ) (line : List ℕ) → IsFree line
    → later_fault version client manager line ≡ body_fault version client manager line or_else Some NoEnd
later_last version client manager line free =
    ap (λ (o : Option TraceKind). body_fault version client manager (body line) or_else o) (unended line free)
    ∙ ap (λ (b : List ℕ). body_fault version client manager b or_else Some NoEnd) (body_last line free)

pub cut_whole : (line : List ℕ) → 0 < length line → IsFree line → cut line ≡ line ∷ []
cut_whole [] lt free = absurd (omega arith)
cut_whole (byte ∷ line) lt free = cut_last byte line free

cut_here : (text : List ℕ) (at end : ℕ) → LineAt text at end → end < length text
    → cut (drop at text) ≡ (slice_range text at end ++ newline) ∷ cut (drop (end + 1) text)
cut_here text at end line lt =
    ap cut (split_line text at end line lt) ∙ cut_line (slice_range text at end) (drop (end + 1) text) (free_line text at end line)

cut_there : (text : List ℕ) (at end : ℕ) → LineAt text at end → at < length text → end ≡ length text
    → cut (drop at text) ≡ slice_range text at end ∷ []
cut_there text at end line lt e =
    let whole = last_line text at end line e in
    let long : 0 < length (slice_range text at end) = omega (arith, ap length whole, length-drop at text) in
    ap cut whole ∙ cut_whole (slice_range text at end) long (free_line text at end line)

pub refused : (text : List ℕ) (start version client manager : ℕ) (lines : List Line) (at before end : ℕ) (kind : TraceKind)
    → SoFar text start version client manager lines at before → LineAt text at end → at < length text
    → body_fault version client manager (slice_range text at end) ≡ Some kind → IsFirstFault text (before + 1) kind
refused text start version client manager lines at before end kind far line lt fault =
    let b = slice_range text at end in
    let free = free_line text at end line in
    elim (cases_eq end (length text)) [
      | inl e ↦
          let is : later_fault version client manager b ≡ Some kind =
          later_last version client manager b free ∙ ap (λ (o : Option TraceKind). o or_else Some NoEnd) fault in
          first_fault text before kind []
          (far.faultless ∙ ap (λ (xs : List (List ℕ)). replicate before None ++ map (later_fault version client manager) xs)
          (cut_there text at end line lt e)
          ∙ ap (λ (o : Option TraceKind). replicate before None ++ o ∷ []) is)
      | inr ne ↦
          let is : later_fault version client manager (b ++ newline) ≡ Some kind = later_line version client manager b free ∙ fault in
          let more = map (later_fault version client manager) (cut (drop (end + 1) text)) in
          first_fault text before kind more
          (far.faultless ∙ ap (λ (xs : List (List ℕ)). replicate before None ++ map (later_fault version client manager) xs)
          (cut_here text at end line (omega (arith, line.to, ne)))
          ∙ ap (λ (o : Option TraceKind). replicate before None ++ o ∷ more) is)
    ]

pub no_end : (text : List ℕ) (start version client manager : ℕ) (lines : List Line) (at before end : ℕ) (beat : Line)
    → SoFar text start version client manager lines at before → LineAt text at end → at < length text
    → IsReadLine version client manager (slice_range text at end) beat → end ≡ length text → IsFirstFault text (before + 1) NoEnd
no_end text start version client manager lines at before end beat far line lt read e =
    let b = slice_range text at end in
    let is : later_fault version client manager b ≡ Some NoEnd =
    later_last version client manager b (free_line text at end line) ∙ ap (λ (o : Option TraceKind). o or_else Some NoEnd) read.faultless in
    first_fault text before NoEnd []
    (far.faultless ∙ ap (λ (xs : List (List ℕ)). replicate before None ++ map (later_fault version client manager) xs)
    (cut_there text at end line lt e)
    ∙ ap (λ (o : Option TraceKind). replicate before None ++ o ∷ []) is)

-- one more line has no fault
more_faultless : (text : List ℕ) (start version client manager : ℕ) (lines : List Line) (at before end : ℕ) (beat : Line)
    → SoFar text start version client manager lines at before → LineAt text at end
    → IsReadLine version client manager (slice_range text at end) beat → end < length text
    → faults text ≡ replicate (before + 1) None ++ map (later_fault version client manager) (cut (drop (end + 1) text))
more_faultless text start version client manager lines at before end beat far line read lt =
    let b = slice_range text at end in
    let more = map (later_fault version client manager) (cut (drop (end + 1) text)) in
    let is : later_fault version client manager (b ++ newline) ≡ None =
    later_line version client manager b (free_line text at end line) ∙ read.faultless in
    far.faultless ∙ ap (λ (xs : List (List ℕ)). replicate before None ++ map (later_fault version client manager) xs) (cut_here text at end line lt)
    ∙ ap (λ (o : Option TraceKind). replicate before None ++ o ∷ more) is ∙ one_more before more

pub unstored : (text : List ℕ) (start version client manager : ℕ) (lines : List Line) (at before end : ℕ) (beat : Line)
    → SoFar text start version client manager lines at before → LineAt text at end
    → IsReadLine version client manager (slice_range text at end) beat → end < length text → IsReadableTo text (before + 1)
unstored text start version client manager lines at before end beat far line read lt =
    readable_to text (before + 1) (map (later_fault version client manager) (cut (drop (end + 1) text))) (omega (arith, far.one))
    (more_faultless text start version client manager lines at before end beat far line read lt)

range_split : (xs : List ℕ) (i j k : ℕ) → i ≤ j → j ≤ k → slice_range xs i k ≡ slice_range xs i j ++ slice_range xs j k
range_split xs i j k le le' =
    let sum : k - i ≡ (j - i) + (k - j) = omega arith in
    let back : i + (j - i) ≡ j = omega arith in
    ap (λ (n : ℕ). take n (drop i xs)) sum ∙ take-add (j - i) (k - j) (drop i xs)
    ∙ ap (λ (ys : List ℕ). slice_range xs i j ++ take (k - j) ys) (drop-drop (j - i) i xs ∙ ap (λ (n : ℕ). drop n xs) back)

one_byte : (xs : List ℕ) (at : ℕ) → at < length xs → slice_range xs at (at + 1) ≡ get_or xs at 0 ∷ []
one_byte xs at lt =
    let one : (at + 1) - at ≡ 1 = omega arith in
    ap (λ (n : ℕ). take n (drop at xs)) one ∙ ap (λ (ys : List ℕ). take 1 ys) (drop-cons xs at 0 lt)

-- the part of a text that was read, and one line more
pub line_more : (text : List ℕ) (start at end : ℕ) → start ≤ at → LineAt text at end → end < length text
    → slice_range text start (end + 1) ≡ slice_range text start at ++ slice_range text at end ++ newline
line_more text start at end begun line lt =
    let b = slice_range text at end in
    let stop : slice_range text end (end + 1) ≡ newline = one_byte text end lt ∙ ap (λ (x : ℕ). x ∷ []) (line.stop lt) in
    range_split text start at (end + 1) begun (omega (arith, line.from))
    ∙ ap (λ (ys : List ℕ). slice_range text start at ++ ys) (range_split text at end (end + 1) line.from (omega arith) ∙
    ap (λ (ys : List ℕ). b ++ ys) stop)
    ∙ sym (append_assoc (slice_range text start at) b newline)

pub advance : (text : List ℕ) (start version client manager : ℕ) (lines : List Line) (at before end : ℕ) (beat : Line)
    → SoFar text start version client manager lines at before → LineAt text at end
    → IsReadLine version client manager (slice_range text at end) beat → end < length text
    → SoFar text start version client manager (lines ++ beat ∷ []) (end + 1) (before + 1)
advance text start version client manager lines at before end beat far line read lt =
    let b = slice_range text at end in
    let whole : slice_range text start (end + 1) ≡ slice_range text start at ++ b ++ newline = line_more text start at end far.begun line lt in
    let told = told_more version client manager lines beat (slice_range text start at) b far.told read.says in
    let P : List ℕ → Type 0 = λ ys. TellsLines version client manager (lines ++ beat ∷ []) ys in
    record {
      begun = omega (arith, far.begun, line.from);
      within = omega arith;
      few = omega (arith, far.few, line.from);
      one = omega arith;
      told = subst P (sym whole) told;
      kept = list_all-append (is_kept_line version client manager) lines (beat ∷ []) ∙ and_from (list_all (is_kept_line version client manager) lines)
          (is_kept_line version client manager beat && true) far.kept (and_from (is_kept_line version client manager beat) true read.kept refl);
      faultless = more_faultless text start version client manager lines at before end beat far line read lt;
    }

-- ---- the header

pub header_lines : (text : List ℕ) (end : ℕ) → LineAt text 0 end → end < length text
    → cut text ≡ (slice_range text 0 end ++ newline) ∷ cut (drop (end + 1) text)
header_lines text end line lt = cut_here text 0 end line lt

pub header_last : (text : List ℕ) (end : ℕ) → LineAt text 0 end → end ≡ length text → 0 < end → cut text ≡ slice_range text 0 end ∷ []
header_last text end line e some = cut_there text 0 end line (omega (arith, some, e)) e

header_some : (text : List ℕ) (end : ℕ) (h : Header) → header_of (slice_range text 0 end) ≡ Some h → 0 < end
header_some text zero h some = let same : None ≡ Some h = sym no_empty_header ∙ some in absurd cc
header_some text (suc end) h some = omega arith

pub no_header : (text : List ℕ) (end : ℕ) → LineAt text 0 end → header_of (slice_range text 0 end) ≡ None → IsFirstFault text 1 kinds.Header
no_header text end line none =
    let b = slice_range text 0 end in
    let free = free_line text 0 end line in
    elim (cases_eq end (length text)) [
      | inl e ↦ elim (cases_eq (length text) 0) [
        | inl empty ↦ first_fault text 0 kinds.Header [] (ap faults (nil_from_length text empty))
        | inr some ↦ first_fault text 0 kinds.Header [] (ap faults_of_lines (header_last text end line e (omega (arith, e, some)))
            ∙ ap (λ (o : Option Header). faults_after o b []) (ap header_of (body_last b free) ∙ none))
      ]
      | inr ne ↦ first_fault text 0 kinds.Header [] (ap faults_of_lines (header_lines text end line (omega (arith, line.to, ne)))
          ∙ ap (λ (o : Option Header). faults_after o (b ++ newline) (cut (drop (end + 1) text))) (ap header_of (body_line b free) ∙ none))
    ]

pub no_header_end : (text : List ℕ) (end : ℕ) (h : Header) → LineAt text 0 end → header_of (slice_range text 0 end) ≡ Some h → end ≡ length text
    → IsFirstFault text 1 NoEnd
no_header_end text end h line some e =
    let b = slice_range text 0 end in
    let free = free_line text 0 end line in
    first_fault text 0 NoEnd [] (ap faults_of_lines (header_last text end line e (header_some text end h some)) ∙
    ap (λ (o : Option Header). faults_after o b []) (ap header_of (body_last b free) ∙ some)
    ∙ ap (λ (o : Option TraceKind). o ∷ []) (unended b free))

pub header_faults : (text : List ℕ) (end : ℕ) (h : Header) → LineAt text 0 end → header_of (slice_range text 0 end) ≡ Some h → end < length text
    → faults text ≡ None ∷ map (later_fault h.version h.client h.manager) (cut (drop (end + 1) text))
header_faults text end h line some lt =
    let b = slice_range text 0 end in
    let free = free_line text 0 end line in
    let lines = cut (drop (end + 1) text) in
    ap faults_of_lines (header_lines text end line lt)
    ∙ ap (λ (o : Option Header). faults_after o (b ++ newline) lines) (ap header_of (body_line b free) ∙ some)
    ∙ ap (λ (o : Option TraceKind). o ∷ map (later_fault h.version h.client h.manager) lines) (ended b)
