-- The parts of a line as they are written.
use Rattle.tl_trace.proofs.Names.{◌≡◌, ℕ, ◌≤◌, ◌+◌, ◌*◌, ◌/◌, arith, subst, Bool, true, false, cond, List, [], ◌∷◌, ◌++◌, refl, sym, ap, ◌∙◌}
use Rattle.tl_trace.proofs.Names.{append_assoc, append-nil}
use Rattle.tl_trace.proofs.Names.{if◌then◌else◌, flat_map, BeatOf, Field, Form, mask, data_lanes, corrupt, bit, digit_count, value_of, fields}
use Rattle.tl_trace.proofs.Names.{number_of_lanes, hex, head_text, line_text, flat_map-append}
use mir.Val.{bool_byte}

one_part : (g : Field → List ℕ) (m : Bool) (x : Field) → flat_map g (cond m (x ∷ []) []) ≡ cond m (g x) []
one_part g true x = append-nil (g x)
one_part g false x = refl

two_parts : (g : Field → List ℕ) (m : Bool) (x y : Field) → flat_map g (cond m (x ∷ y ∷ []) []) ≡ cond m (g x ++ g y) []
two_parts g true x y = ap (λ (ys : List ℕ). g x ++ ys) (append-nil (g y))
two_parts g false x y = refl

pub line_parts : {H : Type 0} (f : Form H) {n : ℕ} (w : ℕ) (b : BeatOf H n) (masked corrupts : Bool) → f.rules.masked ≡ masked
    → f.rules.corrupts ≡ corrupts
    → flat_map (λ field. 32 ∷ hex (digit_count w field) (value_of f b field)) f.head_fields ≡
    flat_map (λ field. 32 ∷ hex (digit_count 0 field) (f.value b.head field)) f.head_fields
    → (head_text f b.head ++ cond masked (32 ∷ hex ((w + 3) / 4) b.mask) [])
    ++ cond corrupts ((32 ∷ hex (2 * w) (number_of_lanes b.lanes)) ++ 32 ∷ hex 1 (bit b.corrupt)) []
    ≡ line_text f w b
line_parts f w b masked corrupts has_mask has_data narrow =
    let g : Field → List ℕ = λ field. 32 ∷ hex (digit_count w field) (value_of f b field) in
    let masks = cond f.rules.masked (mask ∷ []) [] in
    let datas = cond f.rules.corrupts (data_lanes ∷ corrupt ∷ []) [] in
    let head = flat_map (λ field. 32 ∷ hex (digit_count 0 field) (f.value b.head field)) f.head_fields in
    let whole : flat_map g (fields f) ≡ (head ++ cond f.rules.masked (g mask) []) ++ cond f.rules.corrupts (g data_lanes ++ g corrupt) [] =
    flat_map-append g (f.head_fields ++ masks) datas
    ∙ ap (λ (xs : List ℕ). xs ++ flat_map g datas) (flat_map-append g f.head_fields masks ∙ ap (λ (xs : List ℕ). xs ++ flat_map g masks) narrow ∙
    ap (λ (xs : List ℕ). head ++ xs) (one_part g f.rules.masked mask))
    ∙ ap (λ (xs : List ℕ). (head ++ cond f.rules.masked (g mask) []) ++ xs) (two_parts g f.rules.corrupts data_lanes corrupt) in
    ap (λ (t : Bool). (head_text f b.head ++ cond t (g mask) []) ++ cond corrupts (g data_lanes ++ g corrupt) []) (sym has_mask)
    ∙ ap (λ (t : Bool). (head_text f b.head ++ cond f.rules.masked (g mask) []) ++ cond t (g data_lanes ++ g corrupt) []) (sym has_data)
    ∙ ap (λ (xs : List ℕ). f.rules.letter ∷ xs) (sym whole)

-- a part that the channel has, and nothing of one that it has not
pub a_part : (old new text : List ℕ) (m : Bool) → m ≡ true → new ≡ old ++ text → new ≡ old ++ (if m then text else [])
a_part old new text m has is = is ∙ ap (λ (t : Bool). old ++ (if t then text else [])) (sym has)

pub no_part : (old text : List ℕ) (m : Bool) → m ≡ false → old ≡ old ++ (if m then text else [])
no_part old text m none = sym (append-nil old) ∙ ap (λ (t : Bool). old ++ (if t then text else [])) (sym none)

-- the position where it ends
pub a_part_end : (end at long : ℕ) (m : Bool) → m ≡ true → end ≡ at + long → end ≡ at + (if m then long else 0)
a_part_end end at long m has is = is ∙ ap (λ (t : Bool). at + (if t then long else 0)) (sym has)

pub no_part_end : (at long : ℕ) (m : Bool) → m ≡ false → at ≡ at + (if m then long else 0)
no_part_end at long m none =
    let here : at ≡ at + 0 = omega arith in
    here ∙ ap (λ (t : Bool). at + (if t then long else 0)) (sym none)

-- and the room that it has
pub part_room : (at long room : ℕ) (m : Bool) → m ≡ true → at + (if m then long else 0) ≤ room → at + long ≤ room
part_room at long room m has fits = subst (λ (t : Bool). at + (if t then long else 0) ≤ room) has fits

-- a field of `count` digits, after a space
pub field_end : (end at count digits : ℕ) → count ≡ digits → end ≡ at + 1 + count → end ≡ at + (1 + digits)
field_end end at count digits same is = omega arith

pub field_room : (at count digits room : ℕ) → count ≡ digits → at + (1 + digits) ≤ room → at + 1 + count ≤ room
field_room at count digits room same fits = omega arith

-- four pieces of a report, one after the other
pub regrouped : (a b c d : List ℕ) → (((a ++ b) ++ c) ++ 32 ∷ []) ++ d ≡ a ++ ((b ++ c) ++ 32 ∷ d)
regrouped a b c d =
    append_assoc ((a ++ b) ++ c) (32 ∷ []) d ∙ ap (λ (xs : List ℕ). xs ++ 32 ∷ d) (append_assoc a b c) ∙ append_assoc a (b ++ c) (32 ∷ d)

-- the same if each piece was appended to those before it
pub four_put : (a b c d e t1 t2 t3 t4 : List ℕ) → t1 ≡ a ++ b → t2 ≡ t1 ++ c → t3 ≡ t2 ++ 32 ∷ [] → e ≡ d → t4 ≡ t3 ++ e
    → t4 ≡ a ++ ((b ++ c) ++ 32 ∷ d)
four_put a b c d e t1 t2 t3 t4 first second space same last =
    last ∙ ap (λ (xs : List ℕ). t3 ++ xs) same ∙
    ap (λ (xs : List ℕ). xs ++ d) (space ∙ ap (λ (xs : List ℕ). xs ++ 32 ∷ []) (second ∙ ap (λ (xs : List ℕ). xs ++ c) first))
    ∙ regrouped a b c d

-- a word, a number, a space and the text after it
pub spaced : (before word number rest text : List ℕ) → text ≡ before ++ ((word ++ number) ++ 32 ∷ rest)
    → text ≡ before ++ (((word ++ number) ++ 32 ∷ []) ++ rest)
spaced before word number rest text is = is ∙ ap (λ (xs : List ℕ). before ++ xs) (sym (append_assoc (word ++ number) (32 ∷ []) rest))

-- corrupt after the lanes
pub data_put : (before lanes : List ℕ) (v c : ℕ) (t1 t2 : List ℕ) → v ≡ c → t1 ≡ before ++ lanes → t2 ≡ t1 ++ 32 ∷ hex 1 v
    → t2 ≡ before ++ (lanes ++ 32 ∷ hex 1 c)
data_put before lanes v c t1 t2 same first second =
    second ∙ ap (λ (xs : List ℕ). xs ++ 32 ∷ hex 1 v) first ∙ append_assoc before lanes (32 ∷ hex 1 v)
    ∙ ap (λ (k : ℕ). before ++ (lanes ++ 32 ∷ hex 1 k)) same

-- three pieces of a line, one after the other
pub three_put : (a b c d t1 t2 t3 : List ℕ) → t1 ≡ a ++ b → t2 ≡ t1 ++ c → t3 ≡ t2 ++ d → t3 ≡ a ++ (b ++ c ++ d)
three_put a b c d t1 t2 t3 first second third =
    third ∙ ap (λ (xs : List ℕ). xs ++ d) (second ∙ ap (λ (xs : List ℕ). xs ++ c) first ∙ append_assoc a b c) ∙ append_assoc a (b ++ c) d

-- a flag as a byte
pub bit_byte : (flag : Bool) → bool_byte flag ≡ bit flag
bit_byte true = refl
bit_byte false = refl
