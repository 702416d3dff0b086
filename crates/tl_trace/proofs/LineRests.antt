-- The lines of beats, each after a head that another line may also have.
use Rattle.tl_trace.proofs.Names.{◌≡◌, ◌≤◌, ◌<◌, ◌+◌, ◌++◌, ℕ, Bool, true, false, not, Result, Ok, Err, List, [], ◌∷◌, length, take, get_or, refl}
use Rattle.tl_trace.proofs.Names.{sym, ap, ◌∙◌, arith, append_assoc, append-nil, length-append, is_err, OnOk, OnErr, flat_map, false≢true}
use Rattle.tl_trace.proofs.Names.{flat_map-append, take-take, take_more, take_all, take-append-le, length-take-le, BeatOf, Field, Form, digit_count}
use Rattle.tl_trace.proofs.Names.{length_of}
use Rattle.tl_trace.proofs.Names.{value_of, hex, head_text, line_text, beats_text, newline, head_length}
use Rattle.tl_trace.proofs.Names.{◌-◌, drop, drop_all, drop-append_seam, take-append_seam}
use borrow.Rule.Slice.PartMut.{put_mid}
use Rattle.tl_trace.specs.Inner.LineRests.{mask_text, data_text, rest_text}
use Rattle.tl_trace.proofs.HexText.{length-hex}
use Rattle.tl_trace.proofs.LineText.{line_parts}

-- a head is as long whatever it is
pub head_long : {H : Type 0} (f : Form H) (h : H) → length (head_text f h) ≡ head_length f
head_long {H} f h = let more = long f.head_fields in omega (arith, more)
  where
    long : (fs : List Field) → length (flat_map (λ field. 32 ∷ hex (digit_count 0 field) (f.value h field)) fs) ≡ length_of 0 fs
    long [] = omega arith
    long (field ∷ fs) =
        let digits = hex (digit_count 0 field) (f.value h field) in
        let here = length-hex (digit_count 0 field) (f.value h field) in
        let both = length-append (32 ∷ digits) (flat_map (λ field. 32 ∷ hex (digit_count 0 field) (f.value h field)) fs) in
        omega (arith, here, both, long fs)

pub head_end : {H : Type 0} (f : Form H) (h : H) (line : List ℕ) (end : ℕ) → end ≤ length line → take end line ≡ head_text f h → end ≡ head_length f
head_end f h line end within is = sym (length-take-le end line within) ∙ ap length is ∙ head_long f h

-- the beginning of a line that is cut after its rest
pub front : (at rest : ℕ) (line : List ℕ) → take at (take (at + rest + 1) line) ≡ take at line
front at rest line = take-take at (at + rest + 1) line (omega arith)

-- the position where it was appended
pub put_place : (s old cut : List ℕ) (start : ℕ) → s ≡ old ++ cut → start ≡ length old → start ≤ length s
put_place s old cut start same here = omega (arith, ap length same, length-append old cut, here)

-- a line put over the other one that was appended
pub put_behind : (s old cut new rest : List ℕ) (start at end : ℕ) → s ≡ old ++ cut → start ≡ length old
    → length new ≡ length (take (length s - start) (drop start s)) → length cut ≤ end
    → take end new ≡ take at (take (length s - start) (drop start s)) ++ rest
    → put_mid start (length s - start) s new ≡ old ++ (take at cut ++ rest)
put_behind s old cut new rest start at end same here size past is =
    let n = length s - start in
    let behind : drop start s ≡ cut = ap (drop start) same ∙ ap (λ k. drop k (old ++ cut)) here ∙ drop-append_seam old cut in
    let long : n ≡ length cut = omega (arith, ap length same, length-append old cut, here) in
    let mid : take n (drop start s) ≡ cut = ap (take n) behind ∙ take_all n cut (omega (arith, long)) in
    let after : drop n (drop start s) ≡ [] = ap (drop n) behind ∙ drop_all n cut (omega (arith, long)) in
    let before : take start s ≡ old = ap (take start) same ∙ ap (λ k. take k (old ++ cut)) here ∙ take-append_seam old cut in
    let whole : new ≡ take at cut ++ rest =
    sym (take_all end new (omega (arith, size, ap length mid, past))) ∙ is ∙ ap (λ x. take at x ++ rest) mid in
    ap (λ x. x ++ (new ++ drop n (drop start s))) before ∙ ap (λ x. old ++ (new ++ x)) after ∙ ap (λ x. old ++ x) (append-nil new ∙ whole)

-- another head ends at the same position as the one before it
pub other_head : {H : Type 0} (f : Form H) (h next : H) (line new : List ℕ) (at end : ℕ) → at ≤ length line → take at line ≡ head_text f h
    → end ≤ length new → take end new ≡ head_text f next → take at new ≡ head_text f next
other_head f h next line new at end within is within' is' =
    ap (λ k. take k new) (head_end f h line at within is ∙ sym (head_end f next new end within' is')) ∙ is'

-- heads of which it is not true that they differ
pub not_other : (same : Bool) → false ≡ not same → same ≡ true
not_other true e = refl
not_other false e = absurd (false≢true e)

module _ {H : Type 0} (f : Form H) {n : ℕ} (w : ℕ) where
  -- a line is its head, and the part after it
  pub line_is : (b : BeatOf H n) (front line : List ℕ) (masked has_data : Bool) → f.rules.masked ≡ masked → f.rules.corrupts ≡ has_data
      → flat_map (λ field. 32 ∷ hex (digit_count w field) (value_of f b field)) f.head_fields ≡
      flat_map (λ field. 32 ∷ hex (digit_count 0 field) (f.value b.head field)) f.head_fields
      → front ≡ head_text f b.head → line ≡ front ++ rest_text masked has_data w b → line ≡ line_text f w b ++ newline
  line_is b front line masked has_data has_mask has_datas narrow head is =
      let masks = mask_text masked w b.mask in
      let datas = data_text has_data w b.lanes b.corrupt in
      is ∙ ap (λ xs. xs ++ rest_text masked has_data w b) head
      ∙ sym (append_assoc (head_text f b.head) (masks ++ datas) newline)
      ∙ ap (λ xs. xs ++ newline) (sym (append_assoc (head_text f b.head) masks datas) ∙ line_parts f w b masked has_data has_mask has_datas narrow)

  -- lines are appended to the earlier contents
  pub record Appended (old : List ℕ) (beats : List (BeatOf H n)) (start : ℕ) (out : List ℕ) : Type 0 where
    pub long : start ≤ length out
    pub front : take start out ≡ old
    pub made : out ≡ old ++ beats_text f w beats

  pub appended_none : (old out : List ℕ) (start : ℕ) → start ≡ length old → out ≡ old → Appended old [] start out
  appended_none old out start here same = record {
    long = omega (arith, here, ap length same);
    front = ap (take start) same ∙ take_all start old (omega (arith, here));
    made = same ∙ sym (append-nil old);
  }

  -- no beats, no lines
  pub none_written : (old : List ℕ) (beats : List (BeatOf H n)) → length beats ≤ 0 → old ≡ old ++ beats_text f w beats
  none_written old [] none = sym (append-nil old)
  none_written old (b ∷ bs) none = absurd (omega (arith, none))

  -- one line more
  pub appended_more : (old out new line : List ℕ) (beats : List (BeatOf H n)) (start i : ℕ) (b : BeatOf H n) → i < length beats
      → line ≡ line_text f w (get_or beats i b) ++ newline →
      new ≡ out ++ line → Appended old (take i beats) start out → Appended old (take (i + 1) beats) start new
  appended_more old out new line beats start i b less is written before =
      let this = get_or beats i b in
      record {
        long = omega (arith, before.long, length-append out line, ap length written);
        front = ap (take start) written ∙ take-append-le start out line before.long ∙ before.front;
        made =
            written ∙ ap (λ x. x ++ line) before.made ∙ append_assoc old (beats_text f w (take i beats)) line
            ∙ ap (λ x. old ++ (beats_text f w (take i beats) ++ x)) (is ∙ sym (append-nil (line_text f w this ++ newline))) ∙
            ap (λ x. old ++ x) (sym (flat_map-append (λ x. line_text f w x ++ newline) (take i beats) (this ∷ [])))
            ∙ ap (λ bs. old ++ beats_text f w bs) (sym (take_more beats i b less));
      }

  pub appended_all : (old out : List ℕ) (beats : List (BeatOf H n)) (start i : ℕ) → length beats ≤ i → Appended old (take i beats) start out
      → out ≡ old ++ beats_text f w beats
  appended_all old out beats start i past before = before.made ∙ ap (λ bs. old ++ beats_text f w bs) (take_all i beats past)

  -- the contents before all lines
  pub appended_front : (old out new : List ℕ) (beats : List (BeatOf H n)) (start : ℕ) → new ≡ out → Appended old beats start out
      → take start new ≡ old
  appended_front old out new beats start same before = ap (take start) same ∙ before.front

-- the promise of a call that returned no error
pub of_ok : {E P : Type 0} (r : Result (Unit {0}) E) → is_err r ≡ false → OnOk r P → P
of_ok (Ok x) fine p = p
of_ok (Err e) fine p = absurd (false≢true (sym fine))

-- and of a call that returned an error
pub of_err : {E P : Type 0} (r : Result (Unit {0}) E) → is_err r ≡ true → OnErr r P → P
of_err (Ok x) bad p = absurd (false≢true bad)
of_err (Err e) bad p = p
