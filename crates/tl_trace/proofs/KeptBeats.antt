-- The beats of a trace are beats as memory holds them.
use Rattle.tl_trace.proofs.Names.{◌≡◌, ℕ, zero, suc, ◌^◌, ◌<◌, ◌≤◌, Bool, true, false, nat_eq, nat_lt, ◌&&◌, ◌||◌, List, [], ◌∷◌, take, Option, None}
use Rattle.tl_trace.proofs.Names.{Some, refl, sym, ap, ◌∙◌, subst, arith, pow-le-pow_right, eqb-true, ltb-true, and_parts, length-take-le, All, not}
use Rattle.tl_trace.proofs.Names.{slice_get, list_all, filter_map, cons_option, BeatOf, HeadA, HeadB, HeadC, HeadD, HeadE, Field, Form, address, mask}
use Rattle.tl_trace.proofs.Names.{fields, value_of, values, form_a, form_b, form_c, form_d, form_e, is_kept, IsTrace, is_kept_line, HasBeats}
use Rattle.tl_trace.proofs.Names.{on_lanes, beat_of_a, beat_of_b, beat_of_c, beat_of_d, beat_of_e, Line, A, B, C, D, E, WIDEST}
use Rattle.std.proofs.lemmas.List.Elements.{All-cons, All-nil}
use Rattle.std.proofs.lemmas.Option.{same_Some}
use Rattle.tl_msg.specs.Beats.{IsBeat}
use Rattle.tl_msg.specs.Tables.{rules_a, rules_b, rules_c, rules_d, rules_e}
use Rattle.tl_trace.proofs.Widths.{width_most}
use Rattle.tl_trace.proofs.ReadDigits.{lanes_parts}
use Rattle.tl_trace.proofs.Shaped.{kept_parts}

-- ---- lanes

some_bytes : (w : ℕ) (lanes : List ℕ) → list_all (λ lane. nat_lt lane 256) lanes ≡ true → All (λ byte. byte < 256) (take w lanes)
some_bytes zero lanes bytes = All-nil (λ byte. byte < 256)
some_bytes (suc w) [] bytes = All-nil (λ byte. byte < 256)
some_bytes (suc w) (lane ∷ lanes) bytes =
    All-cons (λ byte. byte < 256) lane (take w lanes)
    (ltb-true lane 256 (and_parts (nat_lt lane 256) (list_all (λ lane. nat_lt lane 256) lanes) bytes).0)
    (some_bytes w lanes (and_parts (nat_lt lane 256) (list_all (λ lane. nat_lt lane 256) lanes) bytes).1)

most : (w m : ℕ) → w ≤ WIDEST → m < 2 ^ w → m < 2 ^ WIDEST
most w m le lt = let top : 2 ^ w ≤ 2 ^ WIDEST = pow-le-pow_right {n = 2} (omega arith) {i = w} {j = WIDEST} le in omega arith

kept_beat : {H : Type 0} (f : Form H) (b : BeatOf H WIDEST) (w : ℕ) → w ≤ WIDEST → is_kept f w b ≡ true → f.rules.lane_address b.head 0 < 2 ^ 64
    → b.mask < 2 ^ WIDEST → IsBeat f.rules (on_lanes w b)
kept_beat f b w le kept place bits =
    let lanes = lanes_parts WIDEST b.lanes (kept_parts f w b kept).0 in
    record { address = place; lanes = length-take-le w b.lanes (omega (arith, lanes.0)); bytes = some_bytes w b.lanes lanes.1; mask = bits }

-- the field at a place of those that are all in range
in_range : (q : Field → Bool) (fs : List Field) (i : ℕ) (field : Field) → list_all q fs ≡ true → slice_get fs i ≡ Some field → q field ≡ true
in_range q [] i field e at = absurd cc
in_range q (x ∷ fs) zero field e at = let same : x ≡ field = cc in ap q (sym same) ∙ (and_parts (q x) (list_all q fs) e).0
in_range q (x ∷ fs) (suc i) field e at = in_range q fs i field (and_parts (q x) (list_all q fs) e).1 at

or_second : (x y : Bool) → x ≡ false → x || y ≡ true → y ≡ true
or_second true y none e = absurd cc
or_second false y none e = e

no_mask : {H : Type 0} (f : Form H) (b : BeatOf H WIDEST) (w : ℕ) → f.rules.masked ≡ false → is_kept f w b ≡ true → b.mask < 2 ^ WIDEST
no_mask f b w none kept =
    let test =
    (and_parts (f.rules.masked || nat_eq b.mask 0) (f.rules.corrupts || (list_all (λ lane. nat_eq lane 0) b.lanes && not b.corrupt))
    (kept_parts f w b kept).2).0 in
    let zero_mask = eqb-true b.mask 0 (or_second f.rules.masked (nat_eq b.mask 0) none test) in
    omega (arith, zero_mask)

-- ---- each channel

held_a : (version : ℕ) (b : BeatOf HeadA WIDEST) (w : ℕ) → w ≤ WIDEST → is_kept (form_a version) w b ≡ true → IsBeat rules_a (on_lanes w b)
held_a version b w le kept =
    let test = in_range (λ field. nat_lt (value_of (form_a version) b field) (values (form_a version) w field)) (fields (form_a version)) in
    let writable = (kept_parts (form_a version) w b kept).1 in
    kept_beat (form_a version) b w le kept (ltb-true b.head.address (2 ^ 64) (test 4 address writable refl))
    (most w b.mask le (ltb-true b.mask (2 ^ w) (test 5 mask writable refl)))

held_b : (version : ℕ) (b : BeatOf HeadB WIDEST) (w : ℕ) → w ≤ WIDEST → is_kept (form_b version) w b ≡ true → IsBeat rules_b (on_lanes w b)
held_b version b w le kept =
    let test = in_range (λ field. nat_lt (value_of (form_b version) b field) (values (form_b version) w field)) (fields (form_b version)) in
    let writable = (kept_parts (form_b version) w b kept).1 in
    kept_beat (form_b version) b w le kept (ltb-true b.head.address (2 ^ 64) (test 4 address writable refl))
    (most w b.mask le (ltb-true b.mask (2 ^ w) (test 5 mask writable refl)))

held_c : (version : ℕ) (b : BeatOf HeadC WIDEST) (w : ℕ) → w ≤ WIDEST → is_kept (form_c version) w b ≡ true → IsBeat rules_c (on_lanes w b)
held_c version b w le kept =
    let test = in_range (λ field. nat_lt (value_of (form_c version) b field) (values (form_c version) w field)) (fields (form_c version)) in
    kept_beat (form_c version) b w le kept (ltb-true b.head.address (2 ^ 64) (test 4 address (kept_parts (form_c version) w b kept).1 refl))
    (no_mask (form_c version) b w refl kept)

held_d : (version : ℕ) (b : BeatOf HeadD WIDEST) (w : ℕ) → w ≤ WIDEST → is_kept (form_d version) w b ≡ true → IsBeat rules_d (on_lanes w b)
held_d version b w le kept = kept_beat (form_d version) b w le kept (omega arith) (no_mask (form_d version) b w refl kept)

held_e : (version : ℕ) (b : BeatOf HeadE WIDEST) (w : ℕ) → w ≤ WIDEST → is_kept (form_e version) w b ≡ true → IsBeat rules_e (on_lanes w b)
held_e version b w le kept = kept_beat (form_e version) b w le kept (omega arith) (no_mask (form_e version) b w refl kept)

-- ---- the lists

all_held : {X : Type 0} (P : X → Type 0) (h : Line → Option X) (q : Line → Bool) (lines : List Line)
    → ((line : Line) (x : X) → q line ≡ true → h line ≡ Some x → P x) → list_all q lines ≡ true → All P (filter_map h lines)
all_held P h q [] each kept = All-nil P
all_held {X} P h q (line ∷ lines) each kept =
    put (h line) refl (all_held P h q lines each (and_parts (q line) (list_all q lines) kept).1)
  where
    put : (o : Option X) → h line ≡ o → All P (filter_map h lines) → All P (cons_option o (filter_map h lines))
    put None is rest = rest
    put (Some x) is rest = All-cons P x (filter_map h lines) (each line x (and_parts (q line) (list_all q lines) kept).0 is) rest

pub has_beats : (version client manager : ℕ) (lines : List Line) → IsTrace version client manager lines → HasBeats client manager lines
has_beats version client manager lines t =
    let c_le = width_most version client t.client_width in
    let m_le = width_most version manager t.manager_width in
    let q = is_kept_line version client manager in
    record {
      a = all_held (λ b. IsBeat rules_a b) (beat_of_a client) q lines (each_a c_le) t.kept;
      b = all_held (λ b. IsBeat rules_b b) (beat_of_b manager) q lines (each_b m_le) t.kept;
      c = all_held (λ b. IsBeat rules_c b) (beat_of_c client) q lines (each_c c_le) t.kept;
      d = all_held (λ b. IsBeat rules_d b) (beat_of_d manager) q lines (each_d m_le) t.kept;
      e = all_held (λ b. IsBeat rules_e b) (beat_of_e client) q lines (each_e c_le) t.kept;
    }
  where
    each_a : client ≤ WIDEST → (line : Line) (x : BeatOf HeadA client) → is_kept_line version client manager line ≡ true
        → beat_of_a client line ≡ Some x → IsBeat rules_a x
    each_a le (A b) x kept is = subst (λ y. IsBeat rules_a y) (same_Some (on_lanes client b) x is) (held_a version b client le kept)
    each_a le line x kept is = absurd cc

    each_b : manager ≤ WIDEST → (line : Line) (x : BeatOf HeadB manager) → is_kept_line version client manager line ≡ true
        → beat_of_b manager line ≡ Some x → IsBeat rules_b x
    each_b le (B b) x kept is = subst (λ y. IsBeat rules_b y) (same_Some (on_lanes manager b) x is) (held_b version b manager le kept)
    each_b le line x kept is = absurd cc

    each_c : client ≤ WIDEST → (line : Line) (x : BeatOf HeadC client) → is_kept_line version client manager line ≡ true
        → beat_of_c client line ≡ Some x → IsBeat rules_c x
    each_c le (C b) x kept is = subst (λ y. IsBeat rules_c y) (same_Some (on_lanes client b) x is) (held_c version b client le kept)
    each_c le line x kept is = absurd cc

    each_d : manager ≤ WIDEST → (line : Line) (x : BeatOf HeadD manager) → is_kept_line version client manager line ≡ true
        → beat_of_d manager line ≡ Some x → IsBeat rules_d x
    each_d le (D b) x kept is = subst (λ y. IsBeat rules_d y) (same_Some (on_lanes manager b) x is) (held_d version b manager le kept)
    each_d le line x kept is = absurd cc

    each_e : client ≤ WIDEST → (line : Line) (x : BeatOf HeadE client) → is_kept_line version client manager line ≡ true
        → beat_of_e client line ≡ Some x → IsBeat rules_e x
    each_e le (E b) x kept is = subst (λ y. IsBeat rules_e y) (same_Some (on_lanes client b) x is) (held_e version b client le kept)
    each_e le line x kept is = absurd cc
