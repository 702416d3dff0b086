-- A line that is too long has the fault of its letter, whatever else it contains.
use Rattle.tl_trace.proofs.Names.{◌≡◌, ℕ, ◌<◌, ◌≤◌, Bool, true, false, List, [], ◌∷◌, ◌++◌, length, Option, Some, refl, sym, ap, ◌∙◌, arith}
use Rattle.tl_trace.proofs.Names.{length-append, cond, ◌==◌, if◌then◌else◌, list_any, slice_index, eqb-true, or_parts, WIDEST, unless, ◌or_else◌}
use Rattle.tl_trace.proofs.Names.{Form, id_digits, form_a, form_b, form_c, form_d, form_e, line_length, is_shaped, is_in_range, SaysLine, is_newline}
use Rattle.tl_trace.proofs.Names.{onto_first, cut, body, form_fault, body_fault, later_fault, end_fault, Line, A, B, C, D, E, TraceKind, Channel}
use Rattle.tl_trace.proofs.Names.{Length, Shape, Range, LONGEST_LINE}
use Rattle.tl_trace.proofs.ReadLines.{IsFree}

ids_few : (version : ℕ) → id_digits version ≤ 4
ids_few version = elim (version == 1) as (λ b. cond b 2 4 ≤ 4) [ true ↦ omega arith | false ↦ omega arith ]

short : (version w : ℕ) → w ≤ WIDEST
    → (line_length (form_a version) w < LONGEST_LINE) × (line_length (form_b version) w < LONGEST_LINE) ×
    (line_length (form_c version) w < LONGEST_LINE)
    × (line_length (form_d version) w < LONGEST_LINE) × (line_length (form_e version) w < LONGEST_LINE)
short version w le = let few = ids_few version in (omega arith, omega arith, omega arith, omega arith, omega arith)

-- the line of a beat is not too long
pub says_short : (version client manager : ℕ) (line : Line) (text : List ℕ) → client ≤ WIDEST → manager ≤ WIDEST
    → SaysLine version client manager line text → length text < LONGEST_LINE
says_short version client manager (A b) text c m says = let short = (short version client c).0 in omega (arith, says.long)
says_short version client manager (B b) text c m says = let short = (short version manager m).1 in omega (arith, says.long)
says_short version client manager (C b) text c m says = let short = (short version client c).2 in omega (arith, says.long)
says_short version client manager (D b) text c m says = let short = (short version manager m).3 in omega (arith, says.long)
says_short version client manager (E b) text c m says = let short = (short version client c).4 in omega (arith, says.long)

other : (m n : ℕ) → n < m → (m == n) ≡ false
other m n lt = pick (m == n) refl
  where
    pick : (b : Bool) → (m == n) ≡ b → (m == n) ≡ false
    pick true e = let same = eqb-true m n e in absurd (omega arith)
    pick false e = e

form_long : {H : Type 0} (f : Form H) (w : ℕ) (text : List ℕ) → line_length f w < length text → form_fault f w text ≡ Some Length
form_long f w text lt =
    ap (λ (b : Bool). unless b Length or_else unless (is_shaped f w text) Shape or_else unless (is_in_range f w text) Range)
    (other (length text) (line_length f w) lt)

-- the fault of a line that is too long
abbrev letter_fault : (letter : ℕ) → Option TraceKind
letter_fault letter =
    if letter == 65 then Some Length else if letter == 66 then Some Length else if letter == 67 then Some Length else
    if letter == 68 then Some Length else if letter == 69 then Some Length else Some Channel

by_letter : (version client manager : ℕ) (text : List ℕ) → client ≤ WIDEST → manager ≤ WIDEST → LONGEST_LINE ≤ length text
    → body_fault version client manager text ≡ letter_fault (slice_index text 0)
by_letter version client manager text c m long =
    let a = form_long (form_a version) client text (let short = (short version client c).0 in omega arith) in
    let b = form_long (form_b version) manager text (let short = (short version manager m).1 in omega arith) in
    let c' = form_long (form_c version) client text (let short = (short version client c).2 in omega arith) in
    let d = form_long (form_d version) manager text (let short = (short version manager m).3 in omega arith) in
    let e = form_long (form_e version) client text (let short = (short version client c).4 in omega arith) in
    rw (a, b, c', d, e) refl

same_letter : (text more : List ℕ) → 0 < length text → slice_index (text ++ more) 0 ≡ slice_index text 0
same_letter [] more lt = absurd (omega arith)
same_letter (byte ∷ text) more lt = refl

body_on : (text more : List ℕ) → IsFree text → body (text ++ more) ≡ text ++ body more
body_on [] more free = refl
body_on (byte ∷ text) more free =
    let no : is_newline byte ≡ false = (or_parts (is_newline byte) (list_any is_newline text) free).0 in
    rw no (ap (λ (xs : List ℕ). byte ∷ xs) (body_on text more (or_parts (is_newline byte) (list_any is_newline text) free).1))

-- the fault of the start of such a line is the line's
pub long_fault : (version client manager : ℕ) (text more : List ℕ) (kind : TraceKind) → client ≤ WIDEST → manager ≤ WIDEST → IsFree text
    → LONGEST_LINE ≤ length text
    → body_fault version client manager text ≡ Some kind → later_fault version client manager (text ++ more) ≡ Some kind
long_fault version client manager text more kind c m free long is =
    let whole = text ++ body more in
    let longer : LONGEST_LINE ≤ length whole = let sum = length-append text (body more) in omega arith in
    let same : body_fault version client manager whole ≡ Some kind =
    by_letter version client manager whole c m longer ∙ ap letter_fault (same_letter text (body more) (omega arith))
    ∙ sym (by_letter version client manager text c m long) ∙ is in
    ap (λ (o : Option TraceKind). o or_else end_fault (text ++ more))
    (ap (λ (b : List ℕ). body_fault version client manager b) (body_on text more free) ∙ same)

-- the first line of a text begins with what is free of line ends
pub record StartsLine (text more : List ℕ) : Type 0 where
  pub end : List ℕ
  pub rest : List (List ℕ)
  pub cuts : cut (text ++ more) ≡ (text ++ end) ∷ rest

starts_rest : (byte : ℕ) (more : List ℕ) → is_newline byte ≡ false → (lines : List (List ℕ)) → cut more ≡ lines → StartsLine (byte ∷ []) more
starts_rest byte more other [] is = record { end = []; rest = []; cuts = rw other (ap (onto_first byte) is) }
starts_rest byte more other (line ∷ lines) is = record { end = line; rest = lines; cuts = rw other (ap (onto_first byte) is) }

starts_more : (byte next : ℕ) (text more : List ℕ) → is_newline byte ≡ false → StartsLine (next ∷ text) more → StartsLine (byte ∷ next ∷ text) more
starts_more byte next text more other later = record { end = later.end; rest = later.rest; cuts = rw other (ap (onto_first byte) later.cuts) }

pub starts_line : (byte : ℕ) (text more : List ℕ) → IsFree (byte ∷ text) → StartsLine (byte ∷ text) more
starts_line byte [] more free = starts_rest byte more (or_parts (is_newline byte) false free).0 (cut more) refl
starts_line byte (next ∷ text) more free =
    let parts = or_parts (is_newline byte) (list_any is_newline (next ∷ text)) free in
    starts_more byte next text more parts.0 (starts_line next text more parts.1)
