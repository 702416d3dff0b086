-- From the fields of a line to its contents, once for the form of every channel.
use Rattle.tl_trace.proofs.Names.{◌≡◌, ◌≢◌, ℕ, zero, suc, ◌+◌, ◌≤◌, Bool, true, false, cond, nat_eq, nat_lt, ◌&&◌, ◌||◌, List, [], ◌∷◌, length, map}
use Rattle.tl_trace.proofs.Names.{Option, Some, None, is_none, refl, sym, ap, ◌∙◌, arith, eq-eqb, and_from, and_left, and_right, and_parts, list_all}
use Rattle.tl_trace.proofs.Names.{list_any, slice_index, BeatOf, Length, Shape, Range, Field, Form, bit, digit_count, fields, values, value_of}
use Rattle.tl_trace.proofs.Names.{line_length, FieldPlace, places_from, places, is_hex, digits_at, is_shaped_at, value_at, is_in_range, is_lanes}
use Rattle.tl_trace.proofs.Names.{IsLine, is_writable, is_plain, is_kept, form_fault, number_of, field_at, fields_from, IsRead}

guarded : {A : Type 0} (a b : Bool) (x v : A) → cond a (cond b (Some x) None) None ≡ Some v → (a && b ≡ true) × (x ≡ v)
guarded true true x v e = (refl, cc)
guarded true false x v e = absurd cc
guarded false b x v e = absurd cc

unguarded : {A : Type 0} (a b : Bool) (x : A) → cond a (cond b (Some x) None) None ≡ None → a && b ≡ false
unguarded true true x e = absurd cc
unguarded true false x e = refl
unguarded false b x e = refl

field_is : (text : List ℕ) (p : FieldPlace) (v : ℕ) → field_at text p.at p.count ≡ Some v → (is_shaped_at text p ≡ true) × (value_at text p ≡ v)
unfolding field_at number_of
field_is text p v e = guarded (nat_eq (slice_index text p.at) 32) (list_all is_hex (digits_at text p)) (value_at text p) v e

field_is_not : (text : List ℕ) (p : FieldPlace) → field_at text p.at p.count ≡ None → is_shaped_at text p ≡ false
unfolding field_at number_of
field_is_not text p e = unguarded (nat_eq (slice_index text p.at) 32) (list_all is_hex (digits_at text p)) (value_at text p) e

pub record Read (text : List ℕ) (ps : List FieldPlace) (vs : List ℕ) : Type 0 where
  pub shaped : list_all (is_shaped_at text) ps ≡ true
  pub values : map (value_at text) ps ≡ vs

pub head_of : {A : Type 0} (x y : A) (xs ys : List A) → x ∷ xs ≡ y ∷ ys → x ≡ y
head_of x y xs ys e = cc

pub tail_of : {A : Type 0} (x y : A) (xs ys : List A) → x ∷ xs ≡ y ∷ ys → xs ≡ ys
tail_of x y xs ys e = cc

pub reads : (text : List ℕ) (ps : List FieldPlace) (vs : List ℕ) → map (λ p. field_at text p.at p.count) ps ≡ map Some vs → Read text ps vs
reads text [] [] e = record { shaped = refl; values = refl }
reads text [] (v ∷ vs) e = absurd cc
reads text (p ∷ ps) [] e = absurd cc
reads text (p ∷ ps) (v ∷ vs) e =
    let here = field_is text p v (head_of (field_at text p.at p.count) (Some v) (map (λ p. field_at text p.at p.count) ps) (map Some vs) e) in
    let more = reads text ps vs (tail_of (field_at text p.at p.count) (Some v) (map (λ p. field_at text p.at p.count) ps) (map Some vs) e) in
    record {
      shaped = and_from (is_shaped_at text p) (list_all (is_shaped_at text) ps) here.0 more.shaped;
      values = ap (λ (x : ℕ). x ∷ map (value_at text) ps) here.1 ∙ ap (λ (xs : List ℕ). v ∷ xs) more.values;
    }

unread_at : (text : List ℕ) (p : FieldPlace) (o : Option ℕ) (none shaped : Bool) → field_at text p.at p.count ≡ o → is_none o || none ≡ true
    → (none ≡ true → shaped ≡ false)
    → is_shaped_at text p && shaped ≡ false
unread_at text p None none shaped here e more = and_left (is_shaped_at text p) shaped (field_is_not text p here)
unread_at text p (Some v) none shaped here e more = and_right (is_shaped_at text p) shaped (more e)

pub unread : (text : List ℕ) (ps : List FieldPlace) → list_any is_none (map (λ p. field_at text p.at p.count) ps) ≡ true
    → list_all (is_shaped_at text) ps ≡ false
unread text [] e = absurd cc
unread text (p ∷ ps) e =
    unread_at text p (field_at text p.at p.count) (list_any is_none (map (λ p. field_at text p.at p.count) ps)) (list_all (is_shaped_at text) ps) refl
    e (unread text ps)

-- each value is one of its field's
abbrev pub below : {H : Type 0} → Form H → (w : ℕ) → List Field → List ℕ → Bool
below f w [] vs = true
below f w (field ∷ more) [] = false
below f w (field ∷ more) (v ∷ vs) = nat_lt v (values f w field) && below f w more vs

text_below : {H : Type 0} (f : Form H) (w at : ℕ) (text : List ℕ) (fs : List Field) (vs : List ℕ) → map (value_at text) (places_from at w fs) ≡ vs
    → list_all (λ p. nat_lt (value_at text p) (values f w p.field)) (places_from at w fs) ≡ below f w fs vs
text_below f w at text [] vs e = refl
text_below f w at text (field ∷ more) [] e = absurd cc
text_below f w at text (field ∷ more) (v ∷ vs) e =
    let p : FieldPlace = record { field = field; at = at; count = digit_count w field } in
    let rest = places_from (at + 1 + digit_count w field) w more in
    let here : value_at text p ≡ v = head_of (value_at text p) v (map (value_at text) rest) vs e in
    let there = text_below f w (at + 1 + digit_count w field) text more vs (tail_of (value_at text p) v (map (value_at text) rest) vs e) in
    ap (λ (x : ℕ). nat_lt x (values f w field) && list_all (λ p. nat_lt (value_at text p) (values f w p.field)) rest) here
    ∙ ap (λ (b : Bool). nat_lt v (values f w field) && b) there

beat_below : {H : Type 0} (f : Form H) {n : ℕ} (w : ℕ) (b : BeatOf H n) (fs : List Field) (vs : List ℕ) → map (value_of f b) fs ≡ vs
    → list_all (λ field. nat_lt (value_of f b field) (values f w field)) fs ≡ below f w fs vs
beat_below f w b [] vs e = refl
beat_below f w b (field ∷ more) [] e = absurd cc
beat_below f w b (field ∷ more) (v ∷ vs) e =
    let here : value_of f b field ≡ v = head_of (value_of f b field) v (map (value_of f b) more) vs e in
    let there = beat_below f w b more vs (tail_of (value_of f b field) v (map (value_of f b) more) vs e) in
    ap (λ (x : ℕ). nat_lt x (values f w field) && list_all (λ field. nat_lt (value_of f b field) (values f w field)) more) here
    ∙ ap (λ (t : Bool). nat_lt v (values f w field) && t) there

-- a line and its beat have the same values in range
pub same_range : {H : Type 0} (f : Form H) {n : ℕ} (w : ℕ) (b : BeatOf H n) (text : List ℕ) → IsLine f w b text
    → is_in_range f w text ≡ is_writable f w b
same_range f w b text line = text_below f w 1 text (fields f) _ line.says ∙ sym (beat_below f w b (fields f) (map (value_of f b) (fields f)) refl)

-- the facts about a beat as a trace keeps it
pub kept_parts : {H : Type 0} (f : Form H) {n : ℕ} (w : ℕ) (b : BeatOf H n) → is_kept f w b ≡ true
    → (is_lanes n b.lanes ≡ true) × (is_writable f w b ≡ true) × (is_plain f b ≡ true)
kept_parts f {n} w b kept =
    let first = and_parts (is_lanes n b.lanes) (is_writable f w b && is_plain f b) kept in
    let rest = and_parts (is_writable f w b) (is_plain f b) first.1 in
    (first.0, rest.0, rest.1)

pub made : {H : Type 0} (f : Form H) {n : ℕ} (w : ℕ) (b : BeatOf H n) (text : List ℕ) (vs : List ℕ) → slice_index text 0 ≡ f.rules.letter
    → length text ≡ line_length f w
    → fields_from w text 1 (fields f) ≡ map Some vs → map (value_of f b) (fields f) ≡ vs → below f w (fields f) vs ≡ true → is_lanes n b.lanes ≡ true
    → is_plain f b ≡ true → IsRead f w text b
made {H} f {n} w b text vs letter long read same range lanes plain =
    let r = reads text (places f w) vs read in
    record {
      line = record { letter = letter; long = long; shaped = r.shaped; says = r.values ∙ sym same };
      kept = and_from (is_lanes n b.lanes) (is_writable f w b && is_plain f b) lanes
          (and_from (is_writable f w b) (is_plain f b) (beat_below f w b (fields f) vs same ∙ range) plain);
    }

pub wrong_length : {H : Type 0} (f : Form H) (w : ℕ) (text : List ℕ) → length text ≢ line_length f w → form_fault f w text ≡ Some Length
wrong_length f w text ne = let no : nat_eq (length text) (line_length f w) ≡ false = grind arith in rw no refl

pub wrong_shape : {H : Type 0} (f : Form H) (w : ℕ) (text : List ℕ) → length text ≡ line_length f w
    → list_any is_none (fields_from w text 1 (fields f)) ≡ true → form_fault f w text ≡ Some Shape
wrong_shape f w text long none = rw (eq-eqb (length text) (line_length f w) long, unread text (places f w) none) refl

pub wrong_range : {H : Type 0} (f : Form H) (w : ℕ) (text : List ℕ) (vs : List ℕ) → length text ≡ line_length f w
    → fields_from w text 1 (fields f) ≡ map Some vs → below f w (fields f) vs ≡ false → form_fault f w text ≡ Some Range
wrong_range f w text vs long read range =
    let r = reads text (places f w) vs read in
    let out : is_in_range f w text ≡ false = text_below f w 1 text (fields f) vs r.values ∙ range in
    rw (eq-eqb (length text) (line_length f w) long, r.shaped, out) refl

pub faultless : {H : Type 0} (f : Form H) {n : ℕ} (w : ℕ) (b : BeatOf H n) (text : List ℕ) → IsLine f w b text → is_writable f w b ≡ true
    → form_fault f w text ≡ None
faultless f w b text line writable =
    let range : is_in_range f w text ≡ true = same_range f w b text line ∙ writable in
    rw (eq-eqb (length text) (line_length f w) line.long, line.shaped, range) refl

pub bit_of : (n : ℕ) → n ≤ 1 → bit (nat_eq n 1) ≡ n
bit_of zero le = refl
bit_of (suc zero) le = refl
bit_of (suc (suc n)) le = absurd (omega arith)
