-- The text of a beat is its only line.
use Rattle.tl_trace.proofs.Names.{◌≡◌, ℕ, zero, suc, ◌+◌, ◌-◌, ◌*◌, ◌/◌, ◌%◌, ◌^◌, ◌<◌, ◌≤◌, true, nat_eq, nat_lt, ◌&&◌, List, [], ◌∷◌, ◌++◌, length}
use Rattle.tl_trace.proofs.Names.{map, get_or, take, drop, refl, sym, ap, ◌∙◌, arith, append_assoc, length-append, eq-eqb, lit≤, pow-suc}
use Rattle.tl_trace.proofs.Names.{pow-le-pow_right, get_or-append_seam, take-append_seam, drop-append_seam, ltb-true, and_parts, and_from, nat_tests}
use Rattle.tl_trace.proofs.Names.{length-take-le, length-drop, take_all, take_more, list_all-append, list_all, flat_map, slice_range, slice_index}
use Rattle.tl_trace.proofs.Names.{digits_value, digit_value, digit_char, BeatOf, Field, Form, opcode, param, size, source, address, sink, denied}
use Rattle.tl_trace.proofs.Names.{mask, data_lanes, corrupt, digit_count, length_of, values, value_of, fields, FieldPlace, places_from, hex, is_hex}
use Rattle.tl_trace.proofs.Names.{digits_at, value_at, is_shaped_at, IsLine, is_writable, line_text, pow-add}
use Rattle.std.proofs.lemmas.Int.Digits.{digits_value_push}
use Rattle.tl_trace.proofs.HexText.{length-hex}
use Rattle.tl_trace.proofs.Cover.{stands, whole_line}
use Rattle.tl_trace.proofs.HexDigits.{hex_small}
use Rattle.tl_trace.proofs.ReadDigits.{squares}
use Rattle.tl_trace.proofs.Shaped.{head_of, tail_of}
use Rattle.std.proofs.lemmas.Str.{digit_value-digit_char}

-- ---- digits

hex_digit_of : (d : ℕ) → d < 16 → is_hex (digit_char d) ≡ true
hex_digit_of d lt = grind (arith, nat_tests)

char_back : (c : ℕ) → is_hex c ≡ true → digit_char (digit_value c) ≡ c
char_back c h = grind (arith, nat_tests)

pub hex_all : (count value : ℕ) → list_all is_hex (hex count value) ≡ true
hex_all zero value = refl
hex_all (suc count) value =
    list_all-append is_hex (hex count (value / 16)) (digit_char (value % 16) ∷ [])
    ∙ and_from (list_all is_hex (hex count (value / 16))) (is_hex (digit_char (value % 16)) && true) (hex_all count (value / 16))
    (and_from (is_hex (digit_char (value % 16))) true (hex_digit_of (value % 16) (omega arith)) refl)

pub hex_value : (count value : ℕ) → value < 16 ^ count → digits_value 16 (hex count value) ≡ value
hex_value zero value lt = omega arith
hex_value (suc count) value lt =
    let most : 16 ^ suc count ≡ 16 ^ count * 16 = pow-suc 16 count in
    let less : value / 16 < 16 ^ count = omega arith in
    digits_value_push 16 (hex count (value / 16)) (digit_char (value % 16))
    ∙ ap (λ (n : ℕ). n * 16 + digit_value (digit_char (value % 16))) (hex_value count (value / 16) less)
    ∙ ap (λ (n : ℕ). value / 16 * 16 + n) (digit_value-digit_char (value % 16) (omega arith)) ∙ omega arith

pub hex_back : (count : ℕ) (ds : List ℕ) → length ds ≡ count → list_all is_hex ds ≡ true → hex count (digits_value 16 ds) ≡ ds
hex_back zero [] e h = refl
hex_back zero (d ∷ ds) e h = absurd (omega arith)
hex_back (suc count) ds e h =
    let front = take count ds in
    let last = get_or ds count 0 in
    let split : ds ≡ front ++ last ∷ [] = sym (take_all (count + 1) ds (omega arith)) ∙ take_more ds count 0 (omega arith) in
    let all = sym (list_all-append is_hex front (last ∷ [])) ∙ ap (list_all is_hex) (sym split) ∙ h in
    let good = (and_parts (list_all is_hex front) (is_hex last && true) all).0 in
    let lasts = (and_parts (is_hex last) true (and_parts (list_all is_hex front) (is_hex last && true) all).1).0 in
    let small = hex_small last lasts in
    let value : digits_value 16 ds ≡ digits_value 16 front * 16 + digit_value last = ap (digits_value 16) split ∙ digits_value_push 16 front last in
    let up : digits_value 16 ds / 16 ≡ digits_value 16 front = omega arith in
    let low : digits_value 16 ds % 16 ≡ digit_value last = omega arith in
    let long : length front ≡ count = length-take-le count ds (omega arith) in
    ap (λ (n : ℕ). hex count n ++ digit_char (digits_value 16 ds % 16) ∷ []) up
    ∙ ap (λ (n : ℕ). hex count (digits_value 16 front) ++ digit_char n ∷ []) low
    ∙ ap (λ (xs : List ℕ). xs ++ digit_char (digit_value last) ∷ []) (hex_back count front long good)
    ∙ ap (λ (c : ℕ). front ++ c ∷ []) (char_back last lasts) ∙ sym split

-- ---- from the line to its text

abbrev pub spelled : ℕ → (Field → ℕ) → Field → List ℕ
spelled w value field = 32 ∷ hex (digit_count w field) (value field)

pub as_spelled : (text : List ℕ) (at w : ℕ) (value : Field → ℕ) (fs : List Field) → list_all (is_shaped_at text) (places_from at w fs) ≡ true
    → at + length_of w fs ≤ length text
    → map (value_at text) (places_from at w fs) ≡ map value fs → flat_map (stands text) (places_from at w fs) ≡ flat_map (spelled w value) fs
as_spelled text at w value [] shaped le says = refl
as_spelled text at w value (field ∷ more) shaped le says =
    let p : FieldPlace = record { field = field; at = at; count = digit_count w field } in
    let next = at + 1 + digit_count w field in
    let rest = places_from next w more in
    let here = head_of (value_at text p) (value field) (map (value_at text) rest) (map value more) says in
    let there = tail_of (value_at text p) (value field) (map (value_at text) rest) (map value more) says in
    let digits =
    (and_parts (nat_eq (slice_index text at) 32) (list_all is_hex (digits_at text p))
    (and_parts (is_shaped_at text p) (list_all (is_shaped_at text) rest) shaped).0).1 in
    let count : (at + 1 + digit_count w field) - (at + 1) ≡ digit_count w field = omega arith in
    let long : length (digits_at text p) ≡ digit_count w field =
    length-take-le ((at + 1 + digit_count w field) - (at + 1)) (drop (at + 1) text) (omega (arith, length-drop (at + 1) text)) ∙ count in
    let same : digits_at text p ≡ hex (digit_count w field) (value field) =
    sym (hex_back (digit_count w field) (digits_at text p) long digits) ∙ ap (λ (n : ℕ). hex (digit_count w field) n) here in
    ap (λ (ds : List ℕ). (32 ∷ ds) ++ flat_map (stands text) rest) same
    ∙ ap (λ (xs : List ℕ). spelled w value field ++ xs)
    (as_spelled text next w value more (and_parts (is_shaped_at text p) (list_all (is_shaped_at text) rest) shaped).1 (omega arith) there)

pub only_line : {H : Type 0} (f : Form H) {n : ℕ} (w : ℕ) (b : BeatOf H n) (text : List ℕ) → IsLine f w b text → text ≡ line_text f w b
only_line f w b text line =
    whole_line f w b text line
    ∙ ap (λ (xs : List ℕ). f.rules.letter ∷ xs) (as_spelled text 1 w (value_of f b) (fields f) line.shaped (omega (arith, line.long)) line.says)

-- ---- from the text to the line

middle : (before digits after : List ℕ) (i j : ℕ) → length before ≡ i → i + length digits ≡ j → slice_range (before ++ digits ++ after) i j ≡ digits
middle before digits after i j at long =
    let count : j - i ≡ length digits = omega arith in
    ap (λ (n : ℕ). take n (drop i (before ++ digits ++ after))) count
    ∙ ap (λ (k : ℕ). take (length digits) (drop k (before ++ digits ++ after))) (sym at)
    ∙ ap (λ (xs : List ℕ). take (length digits) (drop (length before) xs)) (append_assoc before digits after)
    ∙ ap (λ (xs : List ℕ). take (length digits) xs) (drop-append_seam before (digits ++ after))
    ∙ take-append_seam digits after

length-spelled : (w : ℕ) (value : Field → ℕ) (fs : List Field) → length (flat_map (spelled w value) fs) ≡ length_of w fs
length-spelled w value [] = refl
length-spelled w value (field ∷ more) =
    length-append (spelled w value field) (flat_map (spelled w value) more)
    ∙ omega (arith, length-hex (digit_count w field) (value field), length-spelled w value more)

-- the contents of a text at the positions of fields
pub record Placed (text : List ℕ) (at w : ℕ) (value : Field → ℕ) (fs : List Field) : Type 0 where
  pub shaped : list_all (is_shaped_at text) (places_from at w fs) ≡ true
  pub says : map (value_at text) (places_from at w fs) ≡ map value fs

pub placed : (text before : List ℕ) (at w : ℕ) (value fits : Field → ℕ) (fs : List Field) → text ≡ before ++ flat_map (spelled w value) fs
    → length before ≡ at
    → list_all (λ field. nat_lt (value field) (fits field)) fs ≡ true → ((field : Field) → fits field ≤ 16 ^ digit_count w field)
    → Placed text at w value fs
placed text before at w value fits [] e long small wide = record { shaped = refl; says = refl }
placed text before at w value fits (field ∷ more) e long small wide =
    let count = digit_count w field in
    let p : FieldPlace = record { field = field; at = at; count = count } in
    let digits = hex count (value field) in
    let rest = flat_map (spelled w value) more in
    let next = at + 1 + count in
    let seam : text ≡ before ++ (32 ∷ (digits ++ rest)) = e in
    let space : get_or text at 0 ≡ 32 =
    ap (λ (t : List ℕ). get_or t at 0) seam ∙ ap (λ (i : ℕ). get_or (before ++ (32 ∷ (digits ++ rest))) i 0) (sym long)
    ∙ get_or-append_seam before 32 (digits ++ rest) 0 in
    let split : text ≡ (before ++ 32 ∷ []) ++ digits ++ rest =
    seam ∙ sym (append_assoc (before ++ 32 ∷ []) digits rest ∙ append_assoc before (32 ∷ []) (digits ++ rest)) in
    let front : length (before ++ 32 ∷ []) ≡ at + 1 = length-append before (32 ∷ []) ∙ omega arith in
    let same : digits_at text p ≡ digits =
    ap (λ (t : List ℕ). slice_range t (at + 1) (at + 1 + count)) split
    ∙ middle (before ++ 32 ∷ []) digits rest (at + 1) (at + 1 + count) front (omega (arith, length-hex count (value field))) in
    let whole : text ≡ (before ++ spelled w value field) ++ rest = seam ∙ sym (append_assoc before (spelled w value field) rest) in
    let further : length (before ++ spelled w value field) ≡ next =
    length-append before (spelled w value field) ∙ omega (arith, length-hex count (value field)) in
    let here =
    ltb-true (value field) (fits field)
    (and_parts (nat_lt (value field) (fits field)) (list_all (λ field. nat_lt (value field) (fits field)) more) small).0 in
    let below : value field < 16 ^ count = omega (arith, wide field) in
    let after =
    placed text (before ++ spelled w value field) next w value fits more whole further
    (and_parts (nat_lt (value field) (fits field)) (list_all (λ field. nat_lt (value field) (fits field)) more) small).1 wide in
    record {
      shaped = and_from (is_shaped_at text p) (list_all (is_shaped_at text) (places_from next w more))
          (and_from (nat_eq (slice_index text at) 32) (list_all is_hex (digits_at text p)) (eq-eqb (slice_index text at) 32 space)
          (ap (list_all is_hex) same ∙ hex_all count (value field))) after.shaped;
      says = ap (λ (n : ℕ). n ∷ map (value_at text) (places_from next w more)) (ap (digits_value 16) same ∙ hex_value count (value field) below) ∙
          ap (λ (ns : List ℕ). value field ∷ ns) after.says;
    }

-- the values of a field can be spelled by its digits
pow_16 : (k : ℕ) → 16 ^ k ≡ 2 ^ (4 * k)
pow_16 zero = refl
pow_16 (suc k) =
    let more : 4 * suc k ≡ 4 * k + 4 = omega arith in
    let power : 2 ^ (4 * k + 4) ≡ 2 ^ (4 * k) * 16 = pow-add 2 (4 * k) 4 in
    omega (arith, pow-suc 16 k, power, pow_16 k) ∙ ap (λ (n : ℕ). 2 ^ n) (sym more)

mask_wide : (w : ℕ) → 2 ^ w ≤ 16 ^ ((w + 3) / 4)
mask_wide w =
    let most : w ≤ 4 * ((w + 3) / 4) = omega arith in
    let top : 2 ^ w ≤ 2 ^ (4 * ((w + 3) / 4)) = pow-le-pow_right {n = 2} (omega arith) {i = w} {j = 4 * ((w + 3) / 4)} most in
    omega (arith, pow_16 ((w + 3) / 4))

pub wide : {H : Type 0} (f : Form H) → f.params ≤ 16 → (w : ℕ) (field : Field) → values f w field ≤ 16 ^ digit_count w field
wide f few w opcode = lit≤ tt
wide f few w param = few
wide f few w size = lit≤ tt
wide f few w (source digits) = omega arith
wide f few w address = lit≤ tt
wide f few w (sink digits) = omega arith
wide f few w denied = lit≤ tt
wide f few w mask = mask_wide w
wide f few w data_lanes = omega (arith, squares w)
wide f few w corrupt = lit≤ tt

pub is_line : {H : Type 0} (f : Form H) → f.params ≤ 16 → {n : ℕ} (w : ℕ) (b : BeatOf H n) → is_writable f w b ≡ true → IsLine f w b (line_text f w b)
is_line f few w b writable =
    let text = line_text f w b in
    let there = placed text (f.rules.letter ∷ []) 1 w (value_of f b) (values f w) (fields f) refl refl writable (wide f few w) in
    let long : length (flat_map (spelled w (value_of f b)) (fields f)) ≡ length_of w (fields f) = length-spelled w (value_of f b) (fields f) in
    record { letter = refl; long = omega (arith, long); shaped = there.shaped; says = there.says }
