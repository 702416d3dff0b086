-- A line of the right shape is its letter and its fields, and nothing else.
use Rattle.tl_trace.proofs.Names.{◌≡◌, ◌≢◌, ℕ, zero, suc, ◌+◌, ◌-◌, ◌<◌, ◌≤◌, Bool, true, false, nat_eq, ◌||◌, List, [], ◌∷◌, ◌++◌, length, get_or}
use Rattle.tl_trace.proofs.Names.{drop, refl, sym, ap, ◌∙◌, arith, drop-cons, append_assoc, append-nil, add-one, eq-eqb, eqb-true, or_from, and_parts}
use Rattle.tl_trace.proofs.Names.{or_parts, length-take-le, length-drop, get_or-take, get_or-drop, drop_all, nat_tests, drop_split, list_any-append}
use Rattle.tl_trace.proofs.Names.{list_all, list_any, flat_map, slice_range, slice_index, BeatOf, Field, Form, digit_count, length_of, fields, form_a}
use Rattle.tl_trace.proofs.Names.{form_b, form_c, form_d, form_e, FieldPlace, places_from, places, is_hex, digits_at, is_shaped_at, IsLine}
use Rattle.tl_trace.proofs.Names.{is_newline, SaysLine, Line, A, B, C, D, E}
use Rattle.tl_trace.proofs.ReadLines.{IsFree}

-- a field as it is in the text
abbrev pub stands : List ℕ → FieldPlace → List ℕ
stands text p = 32 ∷ digits_at text p

pub field_there : (text : List ℕ) (p : FieldPlace) → is_shaped_at text p ≡ true → p.at < length text
    → drop p.at text ≡ stands text p ++ drop (p.at + 1 + p.count) text
field_there text p shaped lt =
    let space : slice_index text p.at ≡ 32 =
    eqb-true (slice_index text p.at) 32 (and_parts (nat_eq (slice_index text p.at) 32) (list_all is_hex (digits_at text p)) shaped).0 in
    drop-cons text p.at 0 lt ∙ ap (λ (x : ℕ). x ∷ drop (suc p.at) text) space
    ∙ ap (λ (n : ℕ). 32 ∷ drop n text) (sym (add-one p.at))
    ∙ ap (λ (xs : List ℕ). 32 ∷ xs) (drop_split text (p.at + 1) (p.at + 1 + p.count) (omega arith))

pub cover : (text : List ℕ) (at w : ℕ) (fs : List Field) → list_all (is_shaped_at text) (places_from at w fs) ≡ true
    → at + length_of w fs ≤ length text
    → drop at text ≡ flat_map (stands text) (places_from at w fs) ++ drop (at + length_of w fs) text
cover text at w [] shaped le = let e : at ≡ at + 0 = omega arith in ap (λ (n : ℕ). drop n text) e
cover text at w (field ∷ more) shaped le =
    let p : FieldPlace = record { field = field; at = at; count = digit_count w field } in
    let next = at + 1 + digit_count w field in
    let rest = places_from next w more in
    let there = field_there text p (and_parts (is_shaped_at text p) (list_all (is_shaped_at text) rest) shaped).0 (omega arith) in
    let after = cover text next w more (and_parts (is_shaped_at text p) (list_all (is_shaped_at text) rest) shaped).1 (omega arith) in
    let end : next + length_of w more ≡ at + length_of w (field ∷ more) = omega arith in
    there ∙ ap (λ (xs : List ℕ). stands text p ++ xs) (after ∙ ap (λ (n : ℕ). flat_map (stands text) rest ++ drop n text) end)
    ∙ sym (append_assoc (stands text p) (flat_map (stands text) rest) (drop (at + length_of w (field ∷ more)) text))

pub whole_line : {H : Type 0} (f : Form H) {n : ℕ} (w : ℕ) (b : BeatOf H n) (text : List ℕ) → IsLine f w b text
    → text ≡ f.rules.letter ∷ flat_map (stands text) (places f w)
whole_line f w b text line =
    let long : 0 < length text = omega (arith, line.long) in
    let fits : 1 + length_of w (fields f) ≤ length text = omega (arith, line.long) in
    drop-cons text 0 0 long ∙ ap (λ (x : ℕ). x ∷ drop 1 text) line.letter
    ∙ ap (λ (xs : List ℕ). f.rules.letter ∷ xs) (cover text 1 w (fields f) line.shaped fits
    ∙ ap (λ (xs : List ℕ). flat_map (stands text) (places f w) ++ xs) (drop_all (1 + length_of w (fields f)) text (omega (arith, line.long)))
    ∙ append-nil (flat_map (stands text) (places f w)))

-- ---- no line end in a line

hex_no_end : (byte : ℕ) → is_hex byte ≡ true → is_newline byte ≡ false
hex_no_end byte h = grind (arith, nat_tests)

digits_free : (ds : List ℕ) → list_all is_hex ds ≡ true → IsFree ds
digits_free [] h = refl
digits_free (d ∷ ds) h =
    or_from (is_newline d) (list_any is_newline ds) (hex_no_end d (and_parts (is_hex d) (list_all is_hex ds) h).0)
    (digits_free ds (and_parts (is_hex d) (list_all is_hex ds) h).1)

fields_free : (text : List ℕ) (ps : List FieldPlace) → list_all (is_shaped_at text) ps ≡ true → IsFree (flat_map (stands text) ps)
fields_free text [] h = refl
fields_free text (p ∷ ps) h =
    let here =
    digits_free (digits_at text p) (and_parts (nat_eq (slice_index text p.at) 32) (list_all is_hex (digits_at text p))
    (and_parts (is_shaped_at text p) (list_all (is_shaped_at text) ps) h).0).1 in
    let more = fields_free text ps (and_parts (is_shaped_at text p) (list_all (is_shaped_at text) ps) h).1 in
    list_any-append is_newline (stands text p) (flat_map (stands text) ps)
    ∙ or_from (list_any is_newline (stands text p)) (list_any is_newline (flat_map (stands text) ps)) here more

pub line_free : {H : Type 0} (f : Form H) {n : ℕ} (w : ℕ) (b : BeatOf H n) (text : List ℕ) → is_newline f.rules.letter ≡ false → IsLine f w b text
    → IsFree text
line_free f w b text letter line =
    ap (list_any is_newline) (whole_line f w b text line)
    ∙ or_from (is_newline f.rules.letter) (list_any is_newline (flat_map (stands text) (places f w))) letter
    (fields_free text (places f w) line.shaped)

pub says_free : (version client manager : ℕ) (line : Line) (text : List ℕ) → SaysLine version client manager line text → IsFree text
says_free version client manager (A b) text says = line_free (form_a version) client b text refl says
says_free version client manager (B b) text says = line_free (form_b version) manager b text refl says
says_free version client manager (C b) text says = line_free (form_c version) client b text refl says
says_free version client manager (D b) text says = line_free (form_d version) manager b text refl says
says_free version client manager (E b) text says = line_free (form_e version) client b text refl says

free_at : (xs : List ℕ) (k : ℕ) → k < length xs → IsFree xs → get_or xs k 0 ≢ 10
free_at [] k lt free e = absurd (omega arith)
free_at (x ∷ xs) zero lt free e =
    absurd (let no : nat_eq x 10 || list_any is_newline xs ≡ false = free in let yes : nat_eq x 10 ≡ true = eq-eqb x 10 e in
    let bad = ap (λ (b : Bool). b || list_any is_newline xs) (sym yes) ∙ no in cc)
free_at (x ∷ xs) (suc k) lt free e = free_at xs k (omega arith) (or_parts (is_newline x) (list_any is_newline xs) free).1 e

pub free_between : (text : List ℕ) (at end : ℕ) → end ≤ length text → IsFree (slice_range text at end) → (k : ℕ) → at + k < end
    → slice_index text (at + k) ≢ 10
free_between text at end le free k lt e =
    let long : length (slice_range text at end) ≡ end - at = length-take-le (end - at) (drop at text) (omega (arith, length-drop at text)) in
    free_at (slice_range text at end) k (omega (arith, long)) free (get_or-take (end - at) (drop at text) k 0 (omega arith) ∙
    get_or-drop at text k 0 ∙ e)
