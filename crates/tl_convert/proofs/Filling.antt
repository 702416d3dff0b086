-- A far beat that is filled chunk by chunk, until it is the one of the layout.
use Rattle.tl_convert.proofs.Names.{◌≡◌, ◌≤◌, ◌<◌, ◌+◌, ◌-◌, ◌*◌, ◌%◌, ◌^◌, ◌≢◌, ◌==◌, ◌&&◌, ◌||◌, ℕ, zero, suc, Bool, true, false, cond, Some}
use Rattle.tl_convert.proofs.Names.{length, get_or, map, slice_get, slice_index, refl, sym, ap, ◌∙◌, arith, ⊎_elim, replicate, range_with_len}
use Rattle.tl_convert.proofs.Names.{leb_tells, slice_get-get_or, fill_by_all, pow_mono, Rules, BeatOf, WIDEST, IsWidth, lane_of, lane-lt}
use Rattle.tl_convert.proofs.Names.{lane-lt_widest, width_bounds, lane-shift, Message, Cell, per_beat, lane_value, lane_on, mask_at, beat_at, some_of}
use Rattle.tl_convert.proofs.Names.{is_bad, cell_of, Filled, Brings, Poured, zeros}
use Rattle.tl_msg.proofs.Beats.{same_beat}
use Rattle.std.specs.Int.{bit_at}
use Rattle.std.proofs.lemmas.Nat.Bits.{bit_at-lt, bit_at-zero, bit_at_above, same_from_bits_below}
use Rattle.tl_lanes.proofs.Masks.{mask_of-lt, bit_at-mask_of}
use Rattle.tl_burst.proofs.OnLane.{on_lane, apart-lanes}

abbrev digit : Bool → ℕ
digit b = cond b 1 0

no-digit : (b : Bool) → digit (b && false) ≡ 0
no-digit true = refl
no-digit false = refl

or-twice : (b x : Bool) → ((b || x) || x) ≡ (b || x)
or-twice true x = refl
or-twice false true = refl
or-twice false false = refl

-- more bytes that are all bad, or all good
pub some_of-more : (f : ℕ → Bool) (a n q : ℕ) (x : Bool) → 0 < q → ((k : ℕ) → k < q → f (a + (n + k)) ≡ x) →
    some_of f a (n + q) ≡ (some_of f a n || x)
some_of-more f a n zero x pos h = absurd (omega arith)
some_of-more f a n (suc zero) x pos h =
    let e : n + suc zero ≡ suc n = omega arith in
    let z : f (a + (n + 0)) ≡ x = h 0 (omega arith) in
    let s : n + 0 ≡ n = omega arith in
    let y : f (a + n) ≡ x = ap (λ i. f (a + i)) (sym s) ∙ z in
    rw e (rw y refl)
some_of-more f a n (suc (suc q)) x pos h =
    let e : n + suc (suc q) ≡ suc (n + suc q) = omega arith in
    let y : f (a + (n + suc q)) ≡ x = h (suc q) (omega arith) in
    let before : some_of f a (n + suc q) ≡ (some_of f a n || x) = some_of-more f a n (suc q) x (omega arith) (λ k lt. h k (omega arith)) in
    rw e (ap (λ b. b || f (a + (n + suc q))) before ∙ ap (λ b. (some_of f a n || x) || b) y ∙ or-twice (some_of f a n) x)

-- the bit of a byte
bit-cell : (masked partial : Bool) (x y : ℕ) → x < 2 → (masked ≡ false → y ≡ 0) → (masked ≡ true → partial ≡ false → x ≡ 1) →
    cond masked x y ≡ cond (masked && cond partial (x == 1) true) 1 0
bit-cell false partial x y lt none_of all_of = none_of refl
bit-cell true false x y lt none_of all_of = all_of refl refl
bit-cell true true zero y lt none_of all_of = refl
bit-cell true true (suc zero) y lt none_of all_of = refl
bit-cell true true (suc (suc x)) y lt none_of all_of = absurd (omega arith)

module _ {H : Type 0} (r : Rules H) (m : Message H) (v : ℕ) (vw : IsWidth v) where
  -- a beat without a byte
  pub Filled-none : (j : ℕ) (b : BeatOf H v) → b.head ≡ m.head → b.lanes ≡ replicate v 0 → length b.lanes ≡ v → b.mask ≡ 0 → b.corrupt ≡ false →
      Filled r m v j (j * per_beat r m.head v) b
  Filled-none j b h l size mask bad = record {
    head = h;
    size = size;
    bytes = λ i c lo hi e. absurd (omega arith);
    blank = λ x never. ap (λ xs. get_or {A = ℕ} xs x 0) l ∙ zeros v x;
    bits = λ i c lo hi e. absurd (omega arith);
    clear = λ x lt never. ap (λ n. bit_at n x) mask ∙ bit_at-zero x;
    small = rw mask (omega arith);
    corrupt = let z : j * per_beat r m.head v - j * per_beat r m.head v ≡ 0 = omega arith in rw z bad;
  }

  module _ {W : ℕ} (ww : IsWidth W) (j d q at : ℕ) (beat : BeatOf H W) (old new : BeatOf H v) (ea : at ≡ (m.home + d) % 2 ^ 64)
      (lo : j * per_beat r m.head v ≤ d) (hi : d + q ≤ j * per_beat r m.head v + per_beat r m.head v) (pos : 0 < q)
      (brings : Brings r m d q beat) (poured : Poured r.masked beat old new at q) (filled : Filled r m v j d old) where
    there : (k x : ℕ) → IsWidth x → lane_of at k x ≡ lane_of m.home (d + k) x
    there k x xw = ap (λ y. lane_of y k x) ea ∙ lane-shift m.home d k x xw

    -- an older byte's lane isn't written
    old-lane : (i k : ℕ) → j * per_beat r m.head v ≤ i → i < d → k < q → lane_of at k v ≢ lane_of m.home i v
    old-lane i k il id kq e = apart-lanes r m v vw j i (d + k) il (omega arith) (omega arith) (sym e ∙ there k v vw)

    -- nor has a new byte's lane an older byte
    new-lane : (i i' : ℕ) → d ≤ i → i < d + q → j * per_beat r m.head v ≤ i' → i' < d → lane_of m.home i' v ≢ lane_of m.home i v
    new-lane i i' il ih il' ih' e = apart-lanes r m v vw j i' i il' (omega arith) (omega arith) e

    -- a new byte's place
    place : (i x : ℕ) → IsWidth x → d ≤ i → lane_of at (i - d) x ≡ lane_of m.home i x
    place i x xw il = let e : d + (i - d) ≡ i = omega arith in there (i - d) x xw ∙ ap (λ y. lane_of m.home y x) e

    cell-is : (i : ℕ) (c : Cell) → d ≤ i → i < d + q → slice_get m.cells i ≡ Some c → c ≡ cell_of r m.head W (lane_of m.home i W) (Some beat)
    cell-is i c il ih e = let f : slice_get m.cells i ≡ Some (cell_of r m.head W (lane_of m.home i W) (Some beat)) = brings.cells i il ih in cc

    bad-is : (i : ℕ) → d ≤ i → i < d + q → is_bad r m i ≡ beat.corrupt
    bad-is i il ih = rw (brings.cells i il ih) refl

    pub Filled-more : Filled r m v j (d + q) new
    Filled-more = record {
      head = poured.head ∙ filled.head;
      size = poured.size;
      bytes = λ i c il ih e. ⊎_elim
          (λ s. ap (λ x. slice_index new.lanes x) (sym (place i v vw s.1)) ∙ poured.moved (i - d) (let z : d ≤ i = s.1 in omega arith) ∙
          ap (λ x. slice_index beat.lanes x) (place i W ww s.1) ∙ ap (λ y. y.byte) (sym (cell-is i c s.1 ih e)))
          (λ s. poured.kept (lane_of m.home i v) (λ k kq. old-lane i k il s.1 kq) ∙ filled.bytes i c il s.1 e)
          (leb_tells d i);
      blank = λ l never. poured.kept l (λ k kq e. never (d + k) (omega arith) (omega arith) (sym (there k v vw) ∙ e)) ∙
          filled.blank l (λ i il ih. never i il (omega arith));
      bits = λ i c il ih e. ⊎_elim
          (λ s.
          let k : i - d < q = (let z : d ≤ i = s.1 in omega arith) in
          let on : c ≡ cell_of r m.head W (lane_of m.home i W) (Some beat) = cell-is i c s.1 ih e in
          let clear : bit_at old.mask (lane_of m.home i v) ≡ 0 =
          filled.clear (lane_of m.home i v) (lane-lt_widest m.home i v vw) (λ i' il' ih'. new-lane i i' s.1 ih il' ih') in
          ap (λ x. bit_at new.mask x) (sym (place i v vw s.1)) ∙ poured.bits (i - d) k ∙
          ap (λ x. cond r.masked (bit_at beat.mask x) (bit_at old.mask (lane_of at (i - d) v))) (place i W ww s.1) ∙
          ap (λ x. cond r.masked (bit_at beat.mask (lane_of m.home i W)) (bit_at old.mask x)) (place i v vw s.1) ∙
          bit-cell r.masked (r.partial m.head) (bit_at beat.mask (lane_of m.home i W)) (bit_at old.mask (lane_of m.home i v))
          (bit_at-lt beat.mask (lane_of m.home i W)) (λ _. clear) (λ t f. brings.bits t f i s.1 ih) ∙
          ap (λ y. cond (r.masked && y.on) 1 0) (sym on))
          (λ s. poured.bits_kept (lane_of m.home i v) (lane-lt_widest m.home i v vw) (λ k kq. old-lane i k il s.1 kq) ∙ filled.bits i c il s.1 e)
          (leb_tells d i);
      clear = λ l lt never. poured.bits_kept l lt (λ k kq e. never (d + k) (omega arith) (omega arith) (sym (there k v vw) ∙ e)) ∙
          filled.clear l lt (λ i il ih. never i il (omega arith));
      small = poured.small filled.small;
      corrupt =
          let e : d - j * per_beat r m.head v + q ≡ d + q - j * per_beat r m.head v = omega arith in
          poured.corrupt ∙ ap (λ b. b || beat.corrupt) filled.corrupt ∙
          sym (some_of-more (is_bad r m) (j * per_beat r m.head v) (d - j * per_beat r m.head v) q beat.corrupt pos
          (λ k lt. bad-is (j * per_beat r m.head v + (d - j * per_beat r m.head v + k)) (omega arith) (omega arith))) ∙
          ap (λ n. some_of (is_bad r m) (j * per_beat r m.head v) n) e;
    }

  -- a far beat with all its bytes is that of the layout
  module _ (j : ℕ) (b : BeatOf H v) (carries : r.carries m.head ≡ true) (cells : length m.cells ≡ 2 ^ r.size m.head)
      (room : j * per_beat r m.head v + per_beat r m.head v ≤ 2 ^ r.size m.head)
      (filled : Filled r m v j (j * per_beat r m.head v + per_beat r m.head v) b) where
    has_cell : (i : ℕ) → i < 2 ^ r.size m.head → (c : Cell) × (slice_get m.cells i ≡ Some c)
    has_cell i lt =
        let d : Cell = record { byte = 0; on = true; bad = false } in
        (get_or m.cells i d, slice_get-get_or m.cells i d (omega arith))

    lanes-whole : b.lanes ≡ map (lane_value r m v j) (range_with_len 0 v)
    lanes-whole = fill_by_all (lane_value r m v j) b.lanes v 0 filled.size (λ l lt. ⊎_elim
        (λ (i, lo, hi, there, on).
        let cell = has_cell i (omega arith) in
        let value : lane_value r m v j l ≡ cell.0.byte = rw on (rw cell.1 refl) in
        ap (λ x. slice_index b.lanes x) (sym there) ∙ filled.bytes i cell.0 lo hi cell.1 ∙ sym value)
        (λ (never, on).
        let value : lane_value r m v j l ≡ 0 = rw on refl in
        filled.blank l never ∙ sym value)
        (on_lane r m v vw j room l))

    bit-whole : (l : ℕ) → l < v → bit_at b.mask l ≡ cond (r.masked && lane_on r m v j l) 1 0
    bit-whole l lt = ⊎_elim
        (λ (i, lo, hi, there, on).
        let cell = has_cell i (omega arith) in
        let value : lane_on r m v j l ≡ cell.0.on = rw on (rw cell.1 refl) in
        ap (λ x. bit_at b.mask x) (sym there) ∙ filled.bits i cell.0 lo hi cell.1 ∙ ap (λ y. cond (r.masked && y) 1 0) (sym value))
        (λ (never, on).
        let bound = width_bounds v vw in
        let value : lane_on r m v j l ≡ false = rw on refl in
        filled.clear l (omega arith) never ∙ sym (no-digit r.masked) ∙ ap (λ y. cond (r.masked && y) 1 0) (sym value))
        (on_lane r m v vw j room l)

    mask-whole : b.mask ≡ mask_at r m v j
    mask-whole =
        let bound = width_bounds v vw in
        let below : mask_at r m v j < 2 ^ v = mask_of-lt (λ l. r.masked && lane_on r m v j l) v in
        let pow : 2 ^ v ≤ 2 ^ WIDEST = pow_mono bound.1 in
        same_from_bits_below WIDEST b.mask (mask_at r m v j) filled.small (omega arith) (λ l lt. ⊎_elim
        (λ s.
        filled.clear l lt (λ i lo hi e. let x : lane_of m.home i v < v = lane-lt m.home i v vw in let z : v ≤ l = s.1 in absurd (omega arith)) ∙
        sym (bit_at_above (mask_at r m v j) v l below s.1))
        (λ s. bit-whole l s.1 ∙ sym (bit_at-mask_of (λ x. r.masked && lane_on r m v j x) v l s.1))
        (leb_tells v l))

    pub Filled-whole : b ≡ beat_at r m v j
    Filled-whole =
        let n : j * per_beat r m.head v + per_beat r m.head v - j * per_beat r m.head v ≡ per_beat r m.head v = omega arith in
        same_beat b (beat_at r m v j) filled.head mask-whole lanes-whole
        (filled.corrupt ∙ ap (λ k. some_of (is_bad r m) (j * per_beat r m.head v) k) n)
