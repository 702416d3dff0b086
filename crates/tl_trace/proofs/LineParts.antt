-- A line in three parts: the head, the mask, data and corrupt. Stated once for the form of every channel.
use Rattle.tl_trace.proofs.Names.{◌≡◌, ℕ, ◌+◌, ◌*◌, ◌^◌, ◌<◌, ◌≤◌, Bool, true, false, cond, not, nat_eq, nat_lt, ◌&&◌, ◌||◌, List, [], ◌∷◌, ◌++◌}
use Rattle.tl_trace.proofs.Names.{length, map, Option, Some, is_none, refl, sym, ap, ◌∙◌, arith, bit_or, length-append, lt-ltb, ltb-true, and_parts}
use Rattle.tl_trace.proofs.Names.{and_from, or_left, or_right, map-append, length-map, list_any-append, pow_pos, list_all, list_any, BeatOf, Field}
use Rattle.tl_trace.proofs.Names.{length_of, mask, data_lanes, corrupt, Form, bit, digit_count, fields, mask_fields, data_fields, values, value_of}
use Rattle.tl_trace.proofs.Names.{line_length, number_of_lanes, is_plain, field_at, fields_from, is_head_field, read_value, is_head_in_range}
use Rattle.tl_trace.proofs.Names.{IsNumber, IsPart, IsHead, IsHeadOf, HeadFields, append_assoc, append-nil, subst, ◌/◌, form_fault, Shape, Range}
use Rattle.tl_trace.specs.Inner.LineRests.{mask_length, data_length}
use Rattle.tl_trace.specs.Inner.Reading.{IsRest, fields_of_mask, fields_of_data, mask_values, data_values}
use Rattle.tl_trace.specs.declared.line_reader.Rest.{Rest}
use Rattle.std.proofs.Math.Bool.{and-true}
use Rattle.tl_trace.proofs.Shaped.{below, wrong_shape, wrong_range}
use Rattle.tl_trace.proofs.ReadDigits.{left_good, right_good, bad_or}

-- ---- one part after the other

pub number_part : (w : ℕ) (text : List ℕ) (at : ℕ) (field : Field) (v bad : ℕ) → IsNumber text at (digit_count w field) v bad
    → IsPart w text at (field ∷ []) (v ∷ []) bad
number_part w text at field v bad n = record {
  good = λ le. ap (λ (o : Option ℕ). o ∷ []) (n.good le);
  none = λ lt. ap (λ (o : Option ℕ). is_none o || false) (n.none lt);
}

pub no_part : (w : ℕ) (text : List ℕ) (at : ℕ) → IsPart w text at [] [] 0
no_part w text at = record { good = λ le. refl; none = λ lt. absurd (omega (arith, lt)) }

fields_append : (w : ℕ) (text : List ℕ) (at : ℕ) (xs ys : List Field)
    → fields_from w text at (xs ++ ys) ≡ fields_from w text at xs ++ fields_from w text (at + length_of w xs) ys
fields_append w text at [] ys = let same : at ≡ at + 0 = omega arith in ap (λ (k : ℕ). fields_from w text k ys) same
fields_append w text at (x ∷ xs) ys =
    let next = at + 1 + digit_count w x in
    let same : next + length_of w xs ≡ at + (1 + digit_count w x + length_of w xs) = omega arith in
    ap (λ (os : List (Option ℕ)). field_at text at (digit_count w x) ∷ os) (fields_append w text next xs ys ∙
    ap (λ (k : ℕ). fields_from w text next xs ++ fields_from w text k ys) same)

pub length_append : (w : ℕ) (xs ys : List Field) → length_of w (xs ++ ys) ≡ length_of w xs + length_of w ys
length_append w [] ys = omega arith
length_append w (x ∷ xs) ys = let rest = length_append w xs ys in omega (arith, rest)

pub both_parts : (w : ℕ) (text : List ℕ) (at next : ℕ) (xs ys : List Field) (us vs : List ℕ) (bad bad' : ℕ) → next ≡ at + length_of w xs
    → IsPart w text at xs us bad → IsPart w text next ys vs bad' → IsPart w text at (xs ++ ys) (us ++ vs) (bit_or bad bad')
both_parts w text at next xs ys us vs bad bad' there p q =
    let split : fields_from w text at (xs ++ ys) ≡ fields_from w text at xs ++ fields_from w text next ys =
    fields_append w text at xs ys ∙ ap (λ (k : ℕ). fields_from w text at xs ++ fields_from w text k ys) (sym there) in
    record {
      good = λ le. split ∙ ap (λ (os : List (Option ℕ)). os ++ fields_from w text next ys) (p.good (left_good bad bad' le))
          ∙ ap (λ (os : List (Option ℕ)). map Some us ++ os) (q.good (right_good bad bad' le)) ∙ sym (map-append Some us vs);
      none = λ lt. ap (list_any is_none) split ∙ list_any-append is_none (fields_from w text at xs) (fields_from w text next ys)
          ∙ bad_or bad bad' lt (λ big. or_left _ _ (p.none big)) (λ big. or_right _ _ (q.none big));
    }

-- one field more
pub and_field : (w : ℕ) (text : List ℕ) (at next : ℕ) (xs : List Field) (us : List ℕ) (bad : ℕ) (field : Field) (v bad' : ℕ)
    → next ≡ at + length_of w xs
    → IsPart w text at xs us bad → IsNumber text next (digit_count w field) v bad'
    → IsPart w text at (xs ++ field ∷ []) (us ++ v ∷ []) (bit_or bad bad')
and_field w text at next xs us bad field v bad' there p n =
    both_parts w text at next xs (field ∷ []) us (v ∷ []) bad bad' there p (number_part w text next field v bad' n)

-- ---- the mask, and data and corrupt, on channels that have them

-- no mask, and no value of it, on a channel without masks
pub no_mask_part : (w : ℕ) (text : List ℕ) (at m : ℕ) (t : Bool) → t ≡ false → IsPart w text at (fields_of_mask t) (mask_values t m) 0
no_mask_part w text at m t none = rw none (no_part w text at)

pub mask_part : (w : ℕ) (text : List ℕ) (at m bad : ℕ) (t : Bool) → t ≡ true → IsNumber text at ((w + 3) / 4) m bad
    → IsPart w text at (fields_of_mask t) (mask_values t m) bad
mask_part w text at m bad true e digits = number_part w text at mask m bad digits
mask_part w text at m bad false e digits = absurd cc

pub mask_room : (w at count n : ℕ) (t : Bool) → t ≡ true → count ≡ (w + 3) / 4 → at + mask_length t w ≤ n → at + 1 + count ≤ n
mask_room w at count n true has same room = omega arith
mask_room w at count n false has same room = absurd cc

-- no data and no corrupt, and no values of them, on a channel without data
pub no_data : (w : ℕ) (text : List ℕ) (at d c bad : ℕ) (fs : List Field) (vs : List ℕ) (t : Bool) → t ≡ false → IsPart w text at fs vs bad
    → IsPart w text at (fs ++ fields_of_data t) (vs ++ data_values t d c) bad
no_data w text at d c bad fs vs true none p = absurd cc
no_data w text at d c bad fs vs false none p =
    subst (λ ys. IsPart w text at (fs ++ []) ys bad) (sym (append-nil vs)) (subst (λ xs. IsPart w text at xs vs bad) (sym (append-nil fs)) p)

pub data_room : (w at n : ℕ) (t : Bool) → t ≡ true → at + data_length t w ≤ n → at + 1 + 2 * w + 1 + 1 ≤ n
data_room w at n true has room = omega arith
data_room w at n false has room = absurd cc

pub data_part : (w : ℕ) (text : List ℕ) (at d c bad bad' : ℕ) (t : Bool) → t ≡ true → IsNumber text at (2 * w) d bad
    → IsNumber text (at + 1 + 2 * w) 1 c bad'
    → IsPart w text at (fields_of_data t) (data_values t d c) (bit_or bad bad')
data_part w text at d c bad bad' true e lanes bits =
    and_field w text at (at + 1 + 2 * w) (data_lanes ∷ []) (d ∷ []) bad corrupt c bad' there (number_part w text at data_lanes d bad lanes) bits
  where
    there : at + 1 + 2 * w ≡ at + length_of w (data_lanes ∷ [])
    there = omega arith
data_part w text at d c bad bad' false e lanes bits = absurd cc

-- the length of the mask's fields
pub mask_size_of : (w : ℕ) (t : Bool) → length_of w (fields_of_mask t) ≡ mask_length t w
mask_size_of w true = omega arith
mask_size_of w false = refl

-- ---- the fields of a head, on any width

head_count : (w : ℕ) (field : Field) → is_head_field field ≡ true → digit_count w field ≡ digit_count 0 field
head_count w mask e = absurd cc
head_count w data_lanes e = absurd cc
head_count w corrupt e = absurd cc
head_count w field e = refl

head_from : (w : ℕ) (text : List ℕ) (at : ℕ) (fs : List Field) → list_all is_head_field fs ≡ true
    → fields_from w text at fs ≡ fields_from 0 text at fs
head_from w text at [] e = refl
head_from w text at (field ∷ fs) e =
    let both = and_parts (is_head_field field) (list_all is_head_field fs) e in
    ap (λ (k : ℕ). field_at text at k ∷ fields_from w text (at + 1 + k) fs) (head_count w field both.0)
    ∙ ap (λ (os : List (Option ℕ)). field_at text at (digit_count 0 field) ∷ os) (head_from w text (at + 1 + digit_count 0 field) fs both.1)

pub head_length : (w : ℕ) (fs : List Field) → list_all is_head_field fs ≡ true → length_of w fs ≡ length_of 0 fs
head_length w [] e = refl
head_length w (field ∷ fs) e =
    let both = and_parts (is_head_field field) (list_all is_head_field fs) e in
    let here = head_count w field both.0 in
    let rest = head_length w fs both.1 in
    omega (arith, here, rest)

pub head_part : (w : ℕ) (text : List ℕ) (at : ℕ) (fs : List Field) (vs : List ℕ) (bad : ℕ) → list_all is_head_field fs ≡ true
    → IsPart 0 text at fs vs bad → IsPart w text at fs vs bad
head_part w text at fs vs bad heads p = record {
  good = λ le. head_from w text at fs heads ∙ p.good le;
  none = λ lt. ap (list_any is_none) (head_from w text at fs heads) ∙ p.none lt;
}

module _ {H : Type 0} (f : Form H) where
  head_limit : (w : ℕ) (field : Field) → is_head_field field ≡ true → values f w field ≡ values f 0 field
  head_limit w mask e = absurd cc
  head_limit w data_lanes e = absurd cc
  head_limit w corrupt e = absurd cc
  head_limit w field e = refl

  head_below : (w : ℕ) (r : HeadFields) (fs : List Field) → list_all is_head_field fs ≡ true
      → below f w fs (map (read_value r) fs) ≡ list_all (λ field. nat_lt (read_value r field) (values f 0 field)) fs
  head_below w r [] e = refl
  head_below w r (field ∷ fs) e =
      let both = and_parts (is_head_field field) (list_all is_head_field fs) e in
      ap (λ (k : ℕ). nat_lt (read_value r field) k && below f w fs (map (read_value r) fs)) (head_limit w field both.0)
      ∙ ap (λ (b : Bool). nat_lt (read_value r field) (values f 0 field) && b) (head_below w r fs both.1)

  head_of_beat : {n : ℕ} (b : BeatOf H n) (field : Field) → is_head_field field ≡ true → value_of f b field ≡ f.value b.head field
  head_of_beat b mask e = absurd cc
  head_of_beat b data_lanes e = absurd cc
  head_of_beat b corrupt e = absurd cc
  head_of_beat b field e = refl

  head_said : {n : ℕ} (b : BeatOf H n) (fs : List Field) → list_all is_head_field fs ≡ true → map (value_of f b) fs ≡ map (f.value b.head) fs
  head_said b [] e = refl
  head_said b (field ∷ fs) e =
      let both = and_parts (is_head_field field) (list_all is_head_field fs) e in
      ap (λ (k : ℕ). k ∷ map (value_of f b) fs) (head_of_beat b field both.0)
      ∙ ap (λ (ks : List ℕ). f.value b.head field ∷ ks) (head_said b fs both.1)

  pub mask_size : (w : ℕ) (t : Bool) → f.rules.masked ≡ t → length_of w (mask_fields f) ≡ mask_length t w
  mask_size w true has = ap (λ t. length_of w (cond t (mask ∷ []) [])) has ∙ omega arith
  mask_size w false has = ap (λ t. length_of w (cond t (mask ∷ []) [])) has

  pub data_long : (w : ℕ) (t : Bool) → f.rules.corrupts ≡ t → length_of w (data_fields f) ≡ cond t (1 + 2 * w + 2) 0
  data_long w true has = ap (λ t. length_of w (cond t (data_lanes ∷ corrupt ∷ []) [])) has ∙ omega arith
  data_long w false has = ap (λ t. length_of w (cond t (data_lanes ∷ corrupt ∷ []) [])) has

  -- ---- the whole line

  abbrev pub line_values : (r : HeadFields) (m d c : ℕ) → List ℕ
  line_values r m d c = (map (read_value r) f.head_fields ++ mask_values f.rules.masked m) ++ data_values f.rules.corrupts d c

  pub line_long : (w : ℕ) → list_all is_head_field f.head_fields ≡ true
      → line_length f w ≡ 1 + length_of 0 f.head_fields + length_of w (mask_fields f) + length_of w (data_fields f)
  line_long w heads =
      let head = head_length w f.head_fields heads in
      let two = length_append w f.head_fields (mask_fields f) in
      let three = length_append w (f.head_fields ++ mask_fields f) (data_fields f) in
      omega (arith, head, two, three)

  -- the same by the places of the reader
  pub line_size : (w : ℕ) (masked has_data : Bool) (rest_at rest : ℕ) → f.rules.masked ≡ masked → f.rules.corrupts ≡ has_data
      → list_all is_head_field f.head_fields ≡ true → rest_at ≡ 1 + length_of 0 f.head_fields → rest ≡ mask_length masked w + data_length has_data w
      → rest_at + rest ≡ line_length f w
  line_size w masked has_data rest_at rest has_mask has_datas heads first long =
      let parts = line_long w heads in
      let masks = mask_size w masked has_mask in
      let datas = data_long w has_data has_datas in
      omega (arith, parts, masks, datas, first, long)

  -- the part of a line after its head, as it was read, by the rules of the channel
  pub rest_of : (masked has_data : Bool) {n w at : ℕ} {text before after : List ℕ} {r : Rest} → f.rules.masked ≡ masked
      → f.rules.corrupts ≡ has_data → IsRest masked has_data n w text at before after r
      → IsRest f.rules.masked f.rules.corrupts n w text at before after r
  rest_of masked has_data {n} {w} {at} {text} {before} {after} {r} has_mask has_datas is =
      subst (λ t. IsRest t f.rules.corrupts n w text at before after r) (sym has_mask)
      (subst (λ t. IsRest masked t n w text at before after r) (sym has_datas) is)

  pub line_part : (w digits : ℕ) (text : List ℕ) (r : HeadFields) (m d c bad rest_at : ℕ)
      → list_all is_head_field f.head_fields ≡ true
      → rest_at ≡ 1 + length_of 0 f.head_fields
      → IsHead digits text f.head_fields r
      → IsPart w text rest_at (mask_fields f ++ data_fields f) (mask_values f.rules.masked m ++ data_values f.rules.corrupts d c) bad
      → IsPart w text 1 (fields f) (line_values r m d c) (bit_or r.bad bad)
  line_part w digits text r m d c bad rest_at heads first head rest =
      let wide = head_length w f.head_fields heads in
      let there : rest_at ≡ 1 + length_of w f.head_fields = omega (arith, wide, first) in
      let says = map (read_value r) f.head_fields in
      let masks = mask_values f.rules.masked m in
      let datas = data_values f.rules.corrupts d c in
      let all =
      both_parts w text 1 rest_at f.head_fields (mask_fields f ++ data_fields f) says (masks ++ datas) r.bad bad there
      (head_part w text 1 f.head_fields says r.bad heads head.part) rest in
      subst (λ fs. IsPart w text 1 fs (line_values r m d c) (bit_or r.bad bad)) (sym (append_assoc f.head_fields (mask_fields f) (data_fields f)))
      (subst (λ vs. IsPart w text 1 (f.head_fields ++ (mask_fields f ++ data_fields f)) vs (bit_or r.bad bad))
      (sym (append_assoc says masks datas)) all)

  and_and : (a b c : Bool) → (a && b) && c ≡ a && (b && c)
  and_and true b c = refl
  and_and false b c = refl

  below_append : (w : ℕ) (xs ys : List Field) (us vs : List ℕ) → length us ≡ length xs
      → below f w (xs ++ ys) (us ++ vs) ≡ below f w xs us && below f w ys vs
  below_append w [] ys [] vs e = refl
  below_append w [] ys (u ∷ us) vs e = absurd (omega arith)
  below_append w (x ∷ xs) ys [] vs e = absurd (omega arith)
  below_append w (x ∷ xs) ys (u ∷ us) vs e =
      ap (λ (b : Bool). nat_lt u (values f w x) && b) (below_append w xs ys us vs (omega arith))
      ∙ sym (and_and (nat_lt u (values f w x)) (below f w xs us) (below f w ys vs))

  mask_long : (m : ℕ) (b : Bool) → length {A = ℕ} (cond b (m ∷ []) []) ≡ length {A = Field} (cond b (mask ∷ []) [])
  mask_long m true = refl
  mask_long m false = refl

  lengths : (r : HeadFields) (m : ℕ) →
      length (map (read_value r) f.head_fields ++ mask_values f.rules.masked m) ≡ length (f.head_fields ++ mask_fields f)
  lengths r m =
      grow (map (read_value r) f.head_fields) (mask_values f.rules.masked m) f.head_fields (mask_fields f) (length-map f.head_fields (read_value r))
      (mask_long m f.rules.masked)
    where
      grow : (us vs : List ℕ) (xs ys : List Field) → length us ≡ length xs → length vs ≡ length ys → length (us ++ vs) ≡ length (xs ++ ys)
      grow us vs xs ys e e' = omega (arith, length-append us vs, length-append xs ys, e, e')

  mask_test : (w m : ℕ) (b : Bool) → (b ≡ false → m ≡ 0) → below f w (cond b (mask ∷ []) []) (cond b (m ∷ []) []) ≡ nat_lt m (2 ^ w)
  mask_test w m true none = and-true (nat_lt m (2 ^ w))
  mask_test w m false none = sym (lt-ltb m (2 ^ w) (let zero = none refl in let most = pow_pos w in omega (arith, zero, most)))

  data_test : (w d c : ℕ) (b : Bool) → (b ≡ false → c ≡ 0) → d < 256 ^ w
      → below f w (cond b (data_lanes ∷ corrupt ∷ []) []) (cond b (d ∷ c ∷ []) []) ≡ nat_lt c 2
  data_test w d c true none small = rw (lt-ltb d (256 ^ w) small) (and-true (nat_lt c 2))
  data_test w d c false none small = sym (lt-ltb c 2 (let zero = none refl in omega (arith, zero)))

  -- a line is in range if its head, its mask and corrupt are
  pub line_range : (w : ℕ) (r : HeadFields) (m d c : ℕ) → list_all is_head_field f.head_fields ≡ true → (f.rules.masked ≡ false → m ≡ 0)
      → (f.rules.corrupts ≡ false → c ≡ 0) → d < 256 ^ w
      → below f w (fields f) (line_values r m d c) ≡ (is_head_in_range f r && nat_lt m (2 ^ w)) && nat_lt c 2
  line_range w r m d c heads no_mask no_data small =
      below_append w (f.head_fields ++ mask_fields f) (data_fields f)
      (map (read_value r) f.head_fields ++ mask_values f.rules.masked m) (data_values f.rules.corrupts d c)
      (lengths r m)
      ∙ ap (λ (b : Bool). b && below f w (data_fields f) (data_values f.rules.corrupts d c))
      (below_append w f.head_fields (mask_fields f) (map (read_value r) f.head_fields) (mask_values f.rules.masked m)
      (length-map f.head_fields (read_value r))
      ∙ ap (λ (b : Bool). b && below f w (mask_fields f) (mask_values f.rules.masked m)) (head_below w r f.head_fields heads)
      ∙ ap (λ (b : Bool). is_head_in_range f r && b) (mask_test w m f.rules.masked no_mask))
      ∙ ap (λ (b : Bool). (is_head_in_range f r && nat_lt m (2 ^ w)) && b) (data_test w d c f.rules.corrupts no_data small)

  mask_said : {n : ℕ} (b : BeatOf H n) (t : Bool) → map (value_of f b) (cond t (mask ∷ []) []) ≡ cond t (b.mask ∷ []) []
  mask_said b true = refl
  mask_said b false = refl

  data_said : {n : ℕ} (b : BeatOf H n) (t : Bool)
      → map (value_of f b) (cond t (data_lanes ∷ corrupt ∷ []) []) ≡ cond t (number_of_lanes b.lanes ∷ bit b.corrupt ∷ []) []
  data_said b true = refl
  data_said b false = refl

  pub line_said : {n : ℕ} (b : BeatOf H n) (r : HeadFields) (c : ℕ) → list_all is_head_field f.head_fields ≡ true → IsHeadOf f r b.head
      → bit b.corrupt ≡ c
      → map (value_of f b) (fields f) ≡ line_values r b.mask (number_of_lanes b.lanes) c
  line_said b r c heads head same =
      map-append (value_of f b) (f.head_fields ++ mask_fields f) (data_fields f)
      ∙ ap (λ (vs : List ℕ). vs ++ map (value_of f b) (data_fields f)) (map-append (value_of f b) f.head_fields (mask_fields f)
      ∙ ap (λ (vs : List ℕ). vs ++ map (value_of f b) (mask_fields f)) (head_said b f.head_fields heads ∙ head.same)
      ∙ ap (λ (vs : List ℕ). map (read_value r) f.head_fields ++ vs) (mask_said b f.rules.masked))
      ∙ ap (λ (vs : List ℕ). (map (read_value r) f.head_fields ++ mask_values f.rules.masked b.mask) ++ vs)
      (data_said b f.rules.corrupts ∙ ap (λ (k : ℕ). cond f.rules.corrupts (number_of_lanes b.lanes ∷ k ∷ []) []) same)

  pub line_plain : {n : ℕ} (b : BeatOf H n) → (f.rules.masked ≡ false → b.mask ≡ 0)
      → (f.rules.corrupts ≡ false → (list_all (λ lane. nat_eq lane 0) b.lanes ≡ true) × (b.corrupt ≡ false)) → is_plain f b ≡ true
  line_plain b no_mask no_data =
      and_from (f.rules.masked || nat_eq b.mask 0) (f.rules.corrupts || (list_all (λ lane. nat_eq lane 0) b.lanes && not b.corrupt))
      (left f.rules.masked no_mask) (right f.rules.corrupts no_data)
    where
      left : (t : Bool) → (t ≡ false → b.mask ≡ 0) → t || nat_eq b.mask 0 ≡ true
      left true none = refl
      left false none = rw (none refl) refl

      right : (t : Bool) → (t ≡ false → (list_all (λ lane. nat_eq lane 0) b.lanes ≡ true) × (b.corrupt ≡ false))
          → t || (list_all (λ lane. nat_eq lane 0) b.lanes && not b.corrupt) ≡ true
      right true none = refl
      right false none = rw ((none refl).0, (none refl).1) refl

  -- ---- what the readers need

  pub below_is : (w : ℕ) (r : HeadFields) (m d c : ℕ) (bad : Bool) → list_all is_head_field f.head_fields ≡ true → (f.rules.masked ≡ false → m ≡ 0)
      → (f.rules.corrupts ≡ false → c ≡ 0) → d < 256 ^ w
      → (is_head_in_range f r && nat_lt m (2 ^ w)) && nat_lt c 2 ≡ bad → below f w (fields f) (line_values r m d c) ≡ bad
  below_is w r m d c bad heads no_mask no_data small is = line_range w r m d c heads no_mask no_data small ∙ is

  pub no_head : (r : HeadFields) (m c : Bool) → is_head_in_range f r ≡ false → (is_head_in_range f r && m) && c ≡ false
  no_head r m c none = rw none refl

  -- a line with the length of its channel was read: its head, and the part after it
  pub record WasRead (n w digits : ℕ) (text : List ℕ) (r : HeadFields) (at : ℕ) (before lanes : List ℕ) (rest : Rest) : Type 0 where
    pub heads : list_all is_head_field f.head_fields ≡ true
    pub long : length text ≡ line_length f w
    pub first : at ≡ 1 + length_of 0 f.head_fields
    pub head : IsHead digits text f.head_fields r
    pub behind : IsRest f.rules.masked f.rules.corrupts n w text at before lanes rest

  pub was_read : (masked has_data : Bool) {n w digits : ℕ} {text : List ℕ} {r : HeadFields} (at long : ℕ) {before lanes : List ℕ} {rest : Rest}
      → f.rules.masked ≡ masked → f.rules.corrupts ≡ has_data → list_all is_head_field f.head_fields ≡ true
      → at ≡ 1 + length_of 0 f.head_fields → long ≡ mask_length masked w + data_length has_data w → length text ≡ at + long
      → IsHead digits text f.head_fields r → IsRest masked has_data n w text at before lanes rest
      → WasRead n w digits text r at before lanes rest
  was_read masked has_data {w = w} at long has_mask has_datas heads first size is head behind = record {
    heads = heads;
    long = is ∙ line_size w masked has_data at long has_mask has_datas heads first size;
    first = first;
    head = head;
    behind = rest_of masked has_data has_mask has_datas behind;
  }

  -- and one of its parts has not its shape
  pub no_shape : {n w digits at : ℕ} {text before lanes : List ℕ} {r : HeadFields} {rest : Rest} → WasRead n w digits text r at before lanes rest
      → 15 < bit_or r.bad rest.bad → form_fault f w text ≡ Some Shape
  no_shape {w = w} {digits = digits} {at = at} {text = text} {lanes = lanes} {r = r} {rest = rest} line bad =
      let part =
      line_part w digits text r rest.mask (number_of_lanes lanes) rest.corrupt rest.bad at line.heads line.first line.head line.behind.part in
      wrong_shape f w text line.long (part.none bad)

  -- or each has it, and one of its fields has none of its values
  pub no_range : {n w digits at : ℕ} {text before lanes : List ℕ} {r : HeadFields} {rest : Rest} → WasRead n w digits text r at before lanes rest
      → bit_or r.bad rest.bad ≤ 15 → (is_head_in_range f r && nat_lt rest.mask (2 ^ w)) && nat_lt rest.corrupt 2 ≡ false
      → form_fault f w text ≡ Some Range
  no_range {w = w} {digits = digits} {at = at} {text = text} {lanes = lanes} {r = r} {rest = rest} line good out =
      let d = number_of_lanes lanes in
      let part = line_part w digits text r rest.mask d rest.corrupt rest.bad at line.heads line.first line.head line.behind.part in
      wrong_range f w text (line_values r rest.mask d rest.corrupt) line.long (part.good good)
      (below_is w r rest.mask d rest.corrupt false line.heads line.behind.no_mask (λ none. (line.behind.no_data none).1)
      (line.behind.small (right_good r.bad rest.bad good)) out)

pub out_fields : (h m c : Bool) → m && c ≡ false → (h && m) && c ≡ false
out_fields true m c none = none
out_fields false m c none = refl

pub in_all : (h m c : Bool) → h ≡ true → m && c ≡ true → (h && m) && c ≡ true
in_all true m c e all = all
in_all false m c e all = absurd cc

pub low : (m : Bool) (c : ℕ) → m && nat_lt c 2 ≡ true → c ≤ 1
low m c all = let less : c < 2 = ltb-true c 2 (and_parts m (nat_lt c 2) all).1 in omega (arith, less)

pub fewer : (a n : ℕ) → a + 1 + 1 ≤ n → a ≤ n
fewer a n less = omega arith
