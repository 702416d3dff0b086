-- A narrow beat, as a line of a trace keeps it.
use Rattle.tl_trace.proofs.Names.{◌≡◌, ℕ, zero, suc, ◌+◌, ◌-◌, ◌*◌, ◌≤◌, Bool, true, nat_eq, nat_lt, ◌&&◌, ◌||◌, not, List, [], ◌∷◌, ◌++◌, length}
use Rattle.tl_trace.proofs.Names.{map, take, replicate, refl, sym, ap, ◌∙◌, arith, eq-eqb, Some, and_from, take-append_seam, length-append}
use Rattle.tl_trace.proofs.Names.{length-replicate, list_all-append, list_all, BeatOf, HeadA, HeadB, HeadC, HeadD, HeadE, Field, data_lanes}
use Rattle.tl_trace.proofs.Names.{Form, fields, values, value_of, number_of_lanes, form_a, form_b, form_c, form_d, form_e, is_lanes}
use Rattle.tl_trace.proofs.Names.{is_writable, is_plain, on_lanes, beat_of_a, beat_of_b, beat_of_c, beat_of_d, beat_of_e, IsRead, IsReadLine, A, B, C}
use Rattle.tl_trace.proofs.Names.{D, E, WIDEST}
use Rattle.tl_trace.proofs.ReadLines.{read_as_a, read_as_b, read_as_c, read_as_d, read_as_e}
use Rattle.tl_trace.proofs.ReadDigits.{zero_bytes, zero_bits, lanes_parts}
use Rattle.tl_trace.proofs.Shaped.{kept_parts}

-- ---- a narrow beat, as a line of a trace keeps it

abbrev pub wide : {H : Type 0} {n : ℕ} → BeatOf H n → BeatOf H WIDEST
wide {H} {n} b = record { head = b.head; mask = b.mask; lanes = b.lanes ++ replicate (WIDEST - n) 0; corrupt = b.corrupt }

wide_number : (lanes : List ℕ) (k : ℕ) → number_of_lanes (lanes ++ replicate k 0) ≡ number_of_lanes lanes
wide_number [] zero = refl
wide_number [] (suc k) = let rest = wide_number [] k in omega arith
wide_number (lane ∷ lanes) k = ap (λ (n : ℕ). lane + 256 * n) (wide_number lanes k)

same_value : {H : Type 0} (f : Form H) {n : ℕ} (b : BeatOf H n) (field : Field) → value_of f (wide b) field ≡ value_of f b field
same_value f {n} b data_lanes = wide_number b.lanes (WIDEST - n)
same_value f b field = refl

same_values : {H : Type 0} (f : Form H) {n : ℕ} (b : BeatOf H n) (fs : List Field) → map (value_of f (wide b)) fs ≡ map (value_of f b) fs
same_values f b [] = refl
same_values f b (field ∷ fs) = rw (same_value f b field) (ap (λ (xs : List ℕ). value_of f b field ∷ xs) (same_values f b fs))

same_writable : {H : Type 0} (f : Form H) {n : ℕ} (w : ℕ) (b : BeatOf H n) (fs : List Field)
    → list_all (λ field. nat_lt (value_of f (wide b) field) (values f w field)) fs ≡
    list_all (λ field. nat_lt (value_of f b field) (values f w field)) fs
same_writable f w b [] = refl
same_writable f w b (field ∷ fs) =
    rw (same_value f b field) (ap (λ (x : Bool). nat_lt (value_of f b field) (values f w field) && x) (same_writable f w b fs))

wide_lanes : (n : ℕ) (lanes : List ℕ) → n ≤ WIDEST → is_lanes n lanes ≡ true → is_lanes WIDEST (lanes ++ replicate (WIDEST - n) 0) ≡ true
wide_lanes n lanes le e =
    let parts = lanes_parts n lanes e in
    let all : length (lanes ++ replicate (WIDEST - n) 0) ≡ WIDEST =
    omega (arith, length-append lanes (replicate (WIDEST - n) 0), length-replicate {A = ℕ} (WIDEST - n) 0, parts.0) in
    and_from (nat_eq (length (lanes ++ replicate (WIDEST - n) 0)) WIDEST) (list_all (λ lane. nat_lt lane 256) (lanes ++ replicate (WIDEST - n) 0))
    (eq-eqb (length (lanes ++ replicate (WIDEST - n) 0)) WIDEST all)
    (list_all-append (λ lane. nat_lt lane 256) lanes (replicate (WIDEST - n) 0) ∙ and_from (list_all (λ lane. nat_lt lane 256) lanes)
    (list_all (λ lane. nat_lt lane 256) (replicate (WIDEST - n) 0)) parts.1 (zero_bytes (WIDEST - n)))

wide_zero : (lanes : List ℕ) (k : ℕ) → list_all (λ lane. nat_eq lane 0) (lanes ++ replicate k 0) ≡ list_all (λ lane. nat_eq lane 0) lanes
wide_zero [] k = zero_bits k
wide_zero (lane ∷ lanes) k = ap (λ (x : Bool). nat_eq lane 0 && x) (wide_zero lanes k)

wide_plain : {H : Type 0} (f : Form H) {n : ℕ} (b : BeatOf H n) → is_plain f (wide b) ≡ is_plain f b
wide_plain f {n} b =
    ap (λ (x : Bool). (f.rules.masked || nat_eq b.mask 0) && (f.rules.corrupts || (x && not b.corrupt))) (wide_zero b.lanes (WIDEST - n))

pub widened : {H : Type 0} (f : Form H) (w : ℕ) (text : List ℕ) (b : BeatOf H w) → w ≤ WIDEST → IsRead f w text b → IsRead f w text (wide b)
widened f w text b le r =
    let parts = kept_parts f w b r.kept in
    let writable : is_writable f w (wide b) ≡ true = same_writable f w b (fields f) ∙ parts.1 in
    let plain : is_plain f (wide b) ≡ true = wide_plain f b ∙ parts.2 in
    record {
      line = record { letter = r.line.letter; long = r.line.long; shaped = r.line.shaped; says = r.line.says ∙ sym (same_values f b (fields f)) };
      kept = and_from (is_lanes WIDEST (b.lanes ++ replicate (WIDEST - w) 0)) (is_writable f w (wide b) && is_plain f (wide b))
          (wide_lanes w b.lanes le parts.0) (and_from (is_writable f w (wide b)) (is_plain f (wide b)) writable plain);
    }

narrowed : {H : Type 0} (f : Form H) (w : ℕ) (text : List ℕ) (b : BeatOf H w) → IsRead f w text b
    → take w (b.lanes ++ replicate (WIDEST - w) 0) ≡ b.lanes
narrowed f w text b r =
    let long : length b.lanes ≡ w = (lanes_parts w b.lanes (kept_parts f w b r.kept).0).0 in
    ap (λ (k : ℕ). take k (b.lanes ++ replicate (WIDEST - w) 0)) (sym long) ∙ take-append_seam b.lanes (replicate (WIDEST - w) 0)

same_beat : {H : Type 0} (f : Form H) (w : ℕ) (text : List ℕ) (b : BeatOf H w) → IsRead f w text b → b ≡ on_lanes w (wide b)
same_beat {H} f w text b r =
    let narrow : List ℕ → BeatOf H w = λ ls. record { head = b.head; mask = b.mask; lanes = ls; corrupt = b.corrupt } in
    sym (ap narrow (narrowed f w text b r))

-- the line of a narrow beat is the line of the same beat with zeros on the lanes above its own
pub near_a : (v c m : ℕ) (text : List ℕ) (b : BeatOf HeadA c) → c ≤ WIDEST → IsRead (form_a v) c text b
    → IsReadLine v c m text (A (wide b)) × (Some b ≡ beat_of_a c (A (wide b)))
near_a v c m text b le r = (read_as_a v c m text (wide b) (widened (form_a v) c text b le r), ap Some (same_beat (form_a v) c text b r))

pub near_b : (v c m : ℕ) (text : List ℕ) (b : BeatOf HeadB m) → m ≤ WIDEST → IsRead (form_b v) m text b
    → IsReadLine v c m text (B (wide b)) × (Some b ≡ beat_of_b m (B (wide b)))
near_b v c m text b le r = (read_as_b v c m text (wide b) (widened (form_b v) m text b le r), ap Some (same_beat (form_b v) m text b r))

pub near_c : (v c m : ℕ) (text : List ℕ) (b : BeatOf HeadC c) → c ≤ WIDEST → IsRead (form_c v) c text b
    → IsReadLine v c m text (C (wide b)) × (Some b ≡ beat_of_c c (C (wide b)))
near_c v c m text b le r = (read_as_c v c m text (wide b) (widened (form_c v) c text b le r), ap Some (same_beat (form_c v) c text b r))

pub near_d : (v c m : ℕ) (text : List ℕ) (b : BeatOf HeadD m) → m ≤ WIDEST → IsRead (form_d v) m text b
    → IsReadLine v c m text (D (wide b)) × (Some b ≡ beat_of_d m (D (wide b)))
near_d v c m text b le r = (read_as_d v c m text (wide b) (widened (form_d v) m text b le r), ap Some (same_beat (form_d v) m text b r))

pub near_e : (v c m : ℕ) (text : List ℕ) (b : BeatOf HeadE c) → c ≤ WIDEST → IsRead (form_e v) c text b
    → IsReadLine v c m text (E (wide b)) × (Some b ≡ beat_of_e c (E (wide b)))
near_e v c m text b le r = (read_as_e v c m text (wide b) (widened (form_e v) c text b le r), ap Some (same_beat (form_e v) c text b r))
