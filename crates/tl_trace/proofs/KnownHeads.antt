-- A head that was read before, and the beat of a line that begins with it.
use Rattle.tl_trace.proofs.Names.{◌≡◌, ◌≤◌, ◌<◌, ◌+◌, ◌-◌, ◌^◌, ◌&&◌, ℕ, true, nat_eq, nat_lt, cond, List, [], ◌∷◌, length, take, drop, Option}
use Rattle.tl_trace.proofs.Names.{Some, None, is_none, refl, sym, ap, ◌∙◌, arith, subst, bit_or, IfSome, list_all, list_any, slice_range, slice_index}
use Rattle.tl_trace.proofs.Names.{get_or-take, take-take, drop-take, or_lt, BeatOf, Field, Form, id_digits, length_of, digit_count}
use Rattle.tl_trace.proofs.Names.{line_length, number_of_lanes, number_of, field_at, fields_from, is_head_field}
use Rattle.tl_trace.proofs.Names.{is_head_in_range, IsHead, IsRead, Takes, head_length, HasHead, IsKnown}
use Rattle.tl_trace.proofs.Names.{HeadFields}
use Rattle.tl_trace.specs.Inner.Reading.{IsRest}
use Rattle.tl_trace.specs.declared.line_reader.Rest.{Rest}
use Rattle.tl_trace.specs.declared.known_head.KnownHead.{KnownHead}
use Rattle.tl_trace.proofs.Shaped.{made, bit_of}
use Rattle.tl_trace.proofs.LineParts.{line_part, line_values, line_said, line_plain, below_is, in_all, low}

-- ---- the part of a text before a position, if the text is cut after that position

range_before : (text : List ℕ) (n a b : ℕ) → a ≤ b → b ≤ n → slice_range (take n text) a b ≡ slice_range text a b
range_before text n a b first last =
    let whole : n ≡ a + (n - a) = omega arith in
    ap (λ k. take (b - a) (drop a (take k text))) whole ∙ ap (take (b - a)) (drop-take a (n - a) text)
    ∙ take-take (b - a) (n - a) (drop a text) (omega arith)

field_before : (text : List ℕ) (n at count : ℕ) → at + 1 + count ≤ n → field_at (take n text) at count ≡ field_at text at count
unfolding field_at
field_before text n at count room =
    ap (λ k. cond (nat_eq k 32) (number_of (slice_range (take n text) (at + 1) (at + 1 + count))) None) (get_or-take n text at 0 (omega arith))
    ∙ ap (λ ds. cond (nat_eq (slice_index text at) 32) (number_of ds) None) (range_before text n (at + 1) (at + 1 + count) (omega arith) room)

fields_before : (text : List ℕ) (n at : ℕ) (fs : List Field) → at + length_of 0 fs ≤ n → fields_from 0 (take n text) at fs ≡ fields_from 0 text at fs
fields_before text n at [] room = refl
fields_before text n at (field ∷ fs) room =
    let next = at + 1 + digit_count 0 field in
    ap (λ o. o ∷ fields_from 0 (take n text) next fs) (field_before text n at (digit_count 0 field) (omega arith))
    ∙ ap (λ os. field_at text at (digit_count 0 field) ∷ os) (fields_before text n next fs (omega arith))

both_good : (x y : ℕ) → x ≤ 15 → y ≤ 15 → bit_or x y ≤ 15
both_good x y few few' =
    let less : x < 2 ^ 4 = omega arith in
    let less' : y < 2 ^ 4 = omega arith in
    omega (arith, or_lt 4 x y less less')

module _ {H : Type 0} (f : Form H) (version : ℕ) where
  grown : (text : List ℕ) (n : ℕ) (h : H) → head_length f ≤ n → HasHead f version (take n text) h → HasHead f version text h
  grown text n h room has =
      let same : fields_from 0 (take n text) 1 f.head_fields ≡ fields_from 0 text 1 f.head_fields = fields_before text n 1 f.head_fields room in
      record {
        fields = has.fields;
        read = record {
          part = record {
            good = λ le. sym same ∙ has.read.part.good le;
            none = λ lt. ap (list_any is_none) (sym same) ∙ has.read.part.none lt;
          };
          small = has.read.small;
        };
        good = has.good;
        is = has.is;
      }

  -- a line begins with the head of its first bytes
  pub line_head : (text : List ℕ) (at long : ℕ) (h : H) → head_length f ≤ long → HasHead f version (slice_range text at (at + head_length f)) h
      → HasHead f version (slice_range text at (at + long)) h
  line_head text at long h room has =
      let few : at + head_length f - at ≡ head_length f = omega arith in
      let all : at + long - at ≡ long = omega arith in
      let cut : slice_range text at (at + head_length f) ≡ take (head_length f) (slice_range text at (at + long)) =
      ap (λ k. take k (drop at text)) few ∙ sym (take-take (head_length f) long (drop at text) room)
      ∙ ap (λ k. take (head_length f) (take k (drop at text))) (sym all) in
      grown (slice_range text at (at + long)) (head_length f) h (omega arith) (subst (λ t. HasHead f version t h) cut has)

  -- the head that was read
  pub new_head : (text : List ℕ) (r : HeadFields) (o : Option H) → IsHead (id_digits version) text f.head_fields r → r.bad ≤ 15 → Takes f r o
      → IfSome o (HasHead f version text)
  new_head text r None read good takes = tt
  new_head text r (Some h) read good takes = record { fields = r; read = read; good = good; is = takes }

  -- ---- one head after another

  pub known_of : (text : List ℕ) (o : Option (KnownHead H)) (known : KnownHead H) → o ≡ Some known → IfSome o (IsKnown f version text)
      → IsKnown f version text known
  known_of text o known is all = rw is at all

  -- the head of a text is that of the same text at another place
  pub head_there : (text : List ℕ) (at before len : ℕ) (h : H) → len ≡ head_length f
      → slice_range text at (at + len) ≡ slice_range text before (before + len)
      → HasHead f version (slice_range text before (before + head_length f)) h → HasHead f version (slice_range text at (at + head_length f)) h
  head_there text at before len h long same has =
      let here : slice_range text before (before + head_length f) ≡ slice_range text at (at + head_length f) =
      ap (λ k. slice_range text before (before + k)) (sym long) ∙ sym same ∙ ap (λ k. slice_range text at (at + k)) long in
      subst (λ t. HasHead f version t h) here has

  -- a text that was read before has the head that it had
  pub same_head : (text : List ℕ) (at len : ℕ) (known : KnownHead H) → len ≡ head_length f
      → slice_range text at (at + len) ≡ slice_range text known.at (known.at + len)
      → IsKnown f version text known → HasHead f version (slice_range text at (at + head_length f)) known.head
  same_head text at len known long same is = head_there text at known.at len known.head long same is.has

  -- a head that was read is one that is known
  pub read_head : (text : List ℕ) (at len : ℕ) (o : Option H) (h : H) → len ≡ head_length f → o ≡ Some h
      → IfSome o (HasHead f version (slice_range text at (at + len)))
      → HasHead f version (slice_range text at (at + head_length f)) h
  read_head text at len o h long is has =
      let read : HasHead f version (slice_range text at (at + len)) h = rw is at has in
      subst (λ k. HasHead f version (slice_range text at (at + k)) h) long read

  -- the beat of a line by its parts
  pub beat_is : {n : ℕ} (w : ℕ) (text : List ℕ) (h : H) (before lanes : List ℕ) (r : Rest) (rest_at : ℕ)
      → list_all is_head_field f.head_fields ≡ true
      → slice_index text 0 ≡ f.rules.letter → length text ≡ line_length f w → rest_at ≡ head_length f
      → HasHead f version text h → IsRest f.rules.masked f.rules.corrupts n w text rest_at before lanes r
      → list_all (λ lane. nat_eq lane 0) before ≡ true → r.bad ≤ 15 → nat_lt r.mask (2 ^ w) && nat_lt r.corrupt 2 ≡ true
      → IsRead f w text {n = n} (record { head = h; mask = r.mask; lanes = lanes; corrupt = nat_eq r.corrupt 1 })
  beat_is {n} w text h before lanes r rest_at heads letter long first has rest zeros good fit =
      let b : BeatOf H n = record { head = h; mask = r.mask; lanes = lanes; corrupt = nat_eq r.corrupt 1 } in
      let head = has.fields in
      let d = number_of_lanes lanes in
      let part = line_part f w (id_digits version) text head r.mask d r.corrupt r.bad rest_at heads first has.read rest.part in
      let range =
      below_is f w head r.mask d r.corrupt true heads rest.no_mask (λ none. (rest.no_data none).1) (rest.small good)
      (in_all (is_head_in_range f head) _ _ has.is.range fit) in
      made f w b text (line_values f head r.mask d r.corrupt) letter long (part.good (both_good _ _ has.good good))
      (line_said f b head r.corrupt heads has.is (bit_of r.corrupt (low (nat_lt r.mask (2 ^ w)) r.corrupt fit))) range rest.bytes
      (line_plain f b rest.no_mask (λ none.
      let same = rest.no_data none in
      (ap (list_all (λ lane. nat_eq lane 0)) same.0 ∙ zeros, ap (λ k. nat_eq k 1) same.1)))
