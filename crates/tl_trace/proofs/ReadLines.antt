-- A later line, and the walk over the lines of a text.
use Rattle.tl_trace.proofs.Names.{◌≡◌, ◌≢◌, ℕ, zero, suc, ◌+◌, ◌<◌, ◌≤◌, true, false, List, [], ◌∷◌, ◌++◌, length, map, get_or, take, drop, replicate}
use Rattle.tl_trace.proofs.Names.{Option, Some, None, is_none, refl, sym, ap, ◌∙◌, arith, append_assoc, append-nil, add-one, list_all, list_any}
use Rattle.tl_trace.proofs.Names.{slice_range, slice_get, slice_index, or_parts, or_right, BeatOf, HeadA, HeadB, HeadC, HeadD, HeadE, form_a, form_b}
use Rattle.tl_trace.proofs.Names.{form_c, form_d, form_e, newline, SaysLine, TellsLines, is_kept_line, is_newline, onto_first, cut, body, end_fault}
use Rattle.tl_trace.proofs.Names.{form_fault, body_fault, later_fault, faults, IsFirstFault, IsReadableTo, IsRead, IsReadLine, Line, A, B, C, D, E}
use Rattle.tl_trace.proofs.Names.{TraceKind, NoEnd, WIDEST}
use Rattle.tl_trace.proofs.Shaped.{faultless, kept_parts}

pub fault_a : (version client manager : ℕ) (text : List ℕ) (kind : TraceKind) → slice_index text 0 ≡ 65
    → form_fault (form_a version) client text ≡ Some kind → body_fault version client manager text ≡ Some kind
fault_a version client manager text kind letter fault = rw letter fault

pub read_as_a : (version client manager : ℕ) (text : List ℕ) (b : BeatOf HeadA WIDEST) → IsRead (form_a version) client text b
    → IsReadLine version client manager text (A b)
read_as_a version client manager text b r =
    record {
      says = r.line;
      kept = r.kept;
      faultless = rw r.line.letter (faultless (form_a version) client b text r.line (kept_parts (form_a version) client b r.kept).1);
    }

pub fault_b : (version client manager : ℕ) (text : List ℕ) (kind : TraceKind) → slice_index text 0 ≡ 66
    → form_fault (form_b version) manager text ≡ Some kind → body_fault version client manager text ≡ Some kind
fault_b version client manager text kind letter fault = rw letter fault

pub read_as_b : (version client manager : ℕ) (text : List ℕ) (b : BeatOf HeadB WIDEST) → IsRead (form_b version) manager text b
    → IsReadLine version client manager text (B b)
read_as_b version client manager text b r =
    record {
      says = r.line;
      kept = r.kept;
      faultless = rw r.line.letter (faultless (form_b version) manager b text r.line (kept_parts (form_b version) manager b r.kept).1);
    }

pub fault_c : (version client manager : ℕ) (text : List ℕ) (kind : TraceKind) → slice_index text 0 ≡ 67
    → form_fault (form_c version) client text ≡ Some kind → body_fault version client manager text ≡ Some kind
fault_c version client manager text kind letter fault = rw letter fault

pub read_as_c : (version client manager : ℕ) (text : List ℕ) (b : BeatOf HeadC WIDEST) → IsRead (form_c version) client text b
    → IsReadLine version client manager text (C b)
read_as_c version client manager text b r =
    record {
      says = r.line;
      kept = r.kept;
      faultless = rw r.line.letter (faultless (form_c version) client b text r.line (kept_parts (form_c version) client b r.kept).1);
    }

pub fault_d : (version client manager : ℕ) (text : List ℕ) (kind : TraceKind) → slice_index text 0 ≡ 68
    → form_fault (form_d version) manager text ≡ Some kind → body_fault version client manager text ≡ Some kind
fault_d version client manager text kind letter fault = rw letter fault

pub read_as_d : (version client manager : ℕ) (text : List ℕ) (b : BeatOf HeadD WIDEST) → IsRead (form_d version) manager text b
    → IsReadLine version client manager text (D b)
read_as_d version client manager text b r =
    record {
      says = r.line;
      kept = r.kept;
      faultless = rw r.line.letter (faultless (form_d version) manager b text r.line (kept_parts (form_d version) manager b r.kept).1);
    }

pub fault_e : (version client manager : ℕ) (text : List ℕ) (kind : TraceKind) → slice_index text 0 ≡ 69
    → form_fault (form_e version) client text ≡ Some kind → body_fault version client manager text ≡ Some kind
fault_e version client manager text kind letter fault = rw letter fault

pub read_as_e : (version client manager : ℕ) (text : List ℕ) (b : BeatOf HeadE WIDEST) → IsRead (form_e version) client text b
    → IsReadLine version client manager text (E b)
read_as_e version client manager text b r =
    record {
      says = r.line;
      kept = r.kept;
      faultless = rw r.line.letter (faultless (form_e version) client b text r.line (kept_parts (form_e version) client b r.kept).1);
    }

-- ---- cutting

-- no byte of the list is a line end
abbrev pub IsFree : List ℕ → Type 0
IsFree bytes = list_any is_newline bytes ≡ false

pub cut_line : (line more : List ℕ) → IsFree line → cut (line ++ newline ++ more) ≡ (line ++ newline) ∷ cut more
cut_line [] more free = refl
cut_line (byte ∷ line) more free =
    let no : is_newline byte ≡ false = (or_parts (is_newline byte) (list_any is_newline line) free).0 in
    let rest = cut_line line more (or_parts (is_newline byte) (list_any is_newline line) free).1 in
    rw (no, rest) refl

pub cut_last : (byte : ℕ) (line : List ℕ) → IsFree (byte ∷ line) → cut (byte ∷ line) ≡ (byte ∷ line) ∷ []
cut_last byte [] free = let no : is_newline byte ≡ false = (or_parts (is_newline byte) false free).0 in rw no refl
cut_last byte (next ∷ line) free =
    let no : is_newline byte ≡ false = (or_parts (is_newline byte) (list_any is_newline (next ∷ line)) free).0 in
    let rest = cut_last next line (or_parts (is_newline byte) (list_any is_newline (next ∷ line)) free).1 in
    rw no (ap (onto_first byte) rest)

pub body_line : (line : List ℕ) → IsFree line → body (line ++ newline) ≡ line
body_line [] free = refl
body_line (byte ∷ line) free =
    let no : is_newline byte ≡ false = (or_parts (is_newline byte) (list_any is_newline line) free).0 in
    rw no (ap (λ (xs : List ℕ). byte ∷ xs) (body_line line (or_parts (is_newline byte) (list_any is_newline line) free).1))

pub body_last : (line : List ℕ) → IsFree line → body line ≡ line
body_last [] free = refl
body_last (byte ∷ line) free =
    let no : is_newline byte ≡ false = (or_parts (is_newline byte) (list_any is_newline line) free).0 in
    rw no (ap (λ (xs : List ℕ). byte ∷ xs) (body_last line (or_parts (is_newline byte) (list_any is_newline line) free).1))

has_end : (line : List ℕ) → list_any is_newline (line ++ newline) ≡ true
has_end [] = refl
has_end (byte ∷ line) = or_right (is_newline byte) (list_any is_newline (line ++ newline)) (has_end line)

pub ended : (line : List ℕ) → end_fault (line ++ newline) ≡ None
ended line = rw (has_end line) refl

pub unended : (line : List ℕ) → IsFree line → end_fault line ≡ Some NoEnd
unended line free = rw free refl

pub free_take : (n : ℕ) (bytes : List ℕ) → ((k : ℕ) → k < n → get_or bytes k 0 ≢ 10) → IsFree (take n bytes)
free_take zero bytes h = refl
free_take (suc n) [] h = refl
free_take (suc n) (byte ∷ bytes) h =
    let ne : byte ≢ 10 = h 0 (omega arith) in
    let no : is_newline byte ≡ false = grind arith in
    rw no (free_take n bytes (λ k lt. h (suc k) (omega arith)))

-- ---- lines of a text

pub first_fault : (text : List ℕ) (before : ℕ) (kind : TraceKind) (more : List (Option TraceKind))
    → faults text ≡ replicate before None ++ Some kind ∷ more → IsFirstFault text (before + 1) kind
first_fault text before kind more e = record {
  before = before;
  place = refl;
  here = ap (λ (xs : List (Option TraceKind)). slice_get xs before) e ∙
      get_after before;
  none_before = ap (λ (xs : List (Option TraceKind)). list_all is_none (take before xs)) e ∙ none_to before;
}
  where
    get_after : (n : ℕ) → slice_get (replicate n None ++ Some kind ∷ more) n ≡ Some (Some kind)
    get_after zero = refl
    get_after (suc n) = get_after n

    none_to : (n : ℕ) → list_all is_none (take n (replicate n None ++ Some kind ∷ more)) ≡ true
    none_to zero = refl
    none_to (suc n) = none_to n

none_in : (n : ℕ) (more : List (Option TraceKind)) → list_all is_none (take n (replicate n None ++ more)) ≡ true
none_in zero more = refl
none_in (suc n) more = none_in n more

long_enough : (n : ℕ) (more : List (Option TraceKind)) → n ≤ length (replicate n None ++ more)
long_enough zero more = omega arith
long_enough (suc n) more = let rest : n ≤ length (replicate n None ++ more) = long_enough n more in omega arith

pub readable_to : (text : List ℕ) (line : ℕ) (more : List (Option TraceKind)) → 1 < line → faults text ≡ replicate line None ++ more
    → IsReadableTo text line
readable_to text line more lt e = record {
  stored = lt;
  within = let enough = long_enough line more in omega (arith, ap length e, enough);
  none = ap (λ (xs : List (Option TraceKind)). list_all is_none (take line xs)) e ∙ none_in line more;
}

pub one_more : (n : ℕ) (more : List (Option TraceKind)) → replicate n None ++ None ∷ more ≡ replicate (n + 1) None ++ more
one_more n more = onto n ∙ ap (λ (k : ℕ). replicate k None ++ more) (sym (add-one n))
  where
    onto : (n : ℕ) → replicate n None ++ None ∷ more ≡ replicate (suc n) None ++ more
    onto zero = refl
    onto (suc n) = ap (λ (xs : List (Option TraceKind)). None ∷ xs) (onto n)

pub told_more : (version client manager : ℕ) (lines : List Line) (line : Line) (text body : List ℕ) → TellsLines version client manager lines text
    → SaysLine version client manager line body
    → TellsLines version client manager (lines ++ line ∷ []) (text ++ body ++ newline)
told_more version client manager [] line text body told says =
    (body, [], ap (λ (xs : List ℕ). xs ++ body ++ newline) told ∙ sym (append-nil (body ++ newline)), says, refl)
told_more version client manager (first ∷ lines) line text body told says =
    let front = told.0 in
    let rest = told.1 in (
      front,
      rest ++ body ++ newline,
      ap (λ (xs : List ℕ). xs ++ body ++ newline) told.2 ∙ simp append_assoc,
      told.3,
      told_more version client manager lines line rest body told.4 says,
    )

-- the part of a text that was read
pub record SoFar (text : List ℕ) (start version client manager : ℕ) (lines : List Line) (at before : ℕ) : Type 0 where
  pub begun : start ≤ at
  pub within : at ≤ length text
  pub few : before ≤ at
  pub one : 1 ≤ before
  pub told : TellsLines version client manager lines (slice_range text start at)
  pub kept : list_all (is_kept_line version client manager) lines ≡ true
  pub faultless : faults text ≡ replicate before None ++ map (later_fault version client manager) (cut (drop at text))
