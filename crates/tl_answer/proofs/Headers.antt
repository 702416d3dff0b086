-- The header of a text, and a text without one.
use Rattle.tl_answer.proofs.Names.{◌≡◌, ◌≢◌, ◌≤◌, ◌∷◌, [], ◌||◌, ℕ, Bool, true, false, List, length, None, Some, if◌then◌else◌, refl, ap}
use Rattle.tl_answer.proofs.Names.{◌∙◌, ◌==◌, eqb-true, IsWidth, each_width, body, cut, onto_first, is_newline, header_of, HasHeader}
use Rattle.tl_answer.proofs.Names.{faults_after, faults_of_lines, IsFirstFault, Line, Script, IsScriptOf, most_bytes}
use Rattle.tl_answer.proofs.Names.{HasShortLists, beat_of_a, beat_of_b, beat_of_c, beat_of_d, beat_of_e}
use Rattle.tl_lanes.specs.declared.limits.TheConstants.{WIDEST}
use Rattle.tl_trace.specs.declared.fault.TraceKind.TheVariants as kinds
use Rattle.tl_stream.proofs.Lengths.{few-chosen, lines-few}
use Rattle.tl_trace.specs.Scripts.{TellsScript}
use Rattle.tl_trace.proofs.Headers.{header, known}
use Rattle.tl_trace.proofs.ReadLines.{first_fault}
use Rattle.tl_trace.proofs.Widths.{width_of}

abbrev first_line : List (List ℕ) → List ℕ
first_line [] = []
first_line (line ∷ lines) = line

first_onto : (byte : ℕ) (lines : List (List ℕ)) → first_line (onto_first byte lines) ≡ byte ∷ first_line lines
first_onto byte [] = refl
first_onto byte (line ∷ lines) = refl

body_more : (byte : ℕ) (ends : Bool) (lines : List (List ℕ)) (rest : List ℕ) → is_newline byte ≡ ends → body (first_line lines) ≡ rest →
    body (first_line (if ends then (byte ∷ []) ∷ lines else onto_first byte lines)) ≡ (if ends then [] else byte ∷ rest)
body_more byte true lines rest is same = rw is refl
body_more byte false lines rest is same = ap body (first_onto byte lines) ∙ rw is (ap (λ xs. byte ∷ xs) same)

-- the first line of a text, without its end, is the part before the text's first line end
body_first : (text : List ℕ) → body (first_line (cut text)) ≡ body text
body_first [] = refl
body_first (byte ∷ text) = body_more byte (is_newline byte) (cut text) (body text) refl (body_first text)

faults_first : (lines : List (List ℕ)) → header_of (body (first_line lines)) ≡ None → faults_of_lines lines ≡ Some kinds.Header ∷ []
faults_first [] none = refl
faults_first (line ∷ lines) none = ap (λ header. faults_after header line lines) none

-- a text without a header has that fault on its first line
pub no_header : (text : List ℕ) → header_of (body text) ≡ None → IsFirstFault text 1 kinds.Header
no_header text none = first_fault text 0 kinds.Header [] (faults_first (cut text) (ap header_of (body_first text) ∙ none))

pick : (w a : ℕ) (here rest : Bool) → (w == a) ≡ here → here || rest ≡ true → w ≢ a → rest ≡ true
pick w a true rest is any not = absurd (not (eqb-true w a is))
pick w a false rest is any not = any

-- a width that is none of the others is the widest
pub last_width : (w : ℕ) → IsWidth w → w ≢ 1 → w ≢ 2 → w ≢ 4 → w ≢ 8 → w ≢ 16 → w ≢ 32 → w ≢ 64 → w ≡ WIDEST
last_width w is n1 n2 n4 n8 n16 n32 n64 =
    eqb-true w WIDEST (pick w 64 (w == 64) _ refl (pick w 32 (w == 32) _ refl (pick w 16 (w == 16) _ refl (pick w 8 (w == 8) _ refl
    (pick w 4 (w == 4) _ refl (pick w 2 (w == 2) _ refl (pick w 1 (w == 1) _ refl
    (each_width (λ x. (x == 1) || ((x == 2) || ((x == 4) || ((x == 8) || ((x == 16) || ((x == 32) || ((x == 64) || (x == WIDEST)))))))) refl w is)
    n1) n2) n4) n8) n16) n32) n64)

-- so are the widths of a header
pub widest : (text : List ℕ) (version client manager : ℕ) → HasHeader text version client manager →
    (client ≢ 1 → client ≢ 2 → client ≢ 4 → client ≢ 8 → client ≢ 16 → client ≢ 32 → client ≢ 64 → client ≡ WIDEST) ×
    (manager ≢ 1 → manager ≢ 2 → manager ≢ 4 → manager ≢ 8 → manager ≢ 16 → manager ≢ 32 → manager ≢ 64 → manager ≡ WIDEST)
widest text version client manager is =
    let both = known (body text) (header version client manager) is in (
      last_width client (width_of version client both.1),
      last_width manager (width_of version manager both.2),
    )

-- the lists of a trace that is not too long are not too long
pub short : (C M : ℕ) (lines : List Line) → length lines ≤ most_bytes → (s : Script C M) → IsScriptOf lines s → HasShortLists s
short C M lines few s is = record {
  few_a = few-chosen (beat_of_a C) lines few s.a.items is.a;
  few_b = few-chosen (beat_of_b M) lines few s.b.items is.b;
  few_c = few-chosen (beat_of_c C) lines few s.c.items is.c;
  few_d = few-chosen (beat_of_d M) lines few s.d.items is.d;
  few_e = few-chosen (beat_of_e C) lines few s.e.items is.e;
}

-- nor are those of a script that was read of a text
pub short-read : (version C M : ℕ) (text : List ℕ) → length text ≤ most_bytes → (s : Script C M) → TellsScript version text s → HasShortLists s
short-read version C M text few s told =
    short C M told.lines (lines-few text version C M told.lines told.told few) s told.script
