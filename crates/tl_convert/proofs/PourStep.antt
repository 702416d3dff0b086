-- One chunk of a near beat: where it begins and ends, and the far beats after it.
use Rattle.tl_convert.proofs.Names.{◌≡◌, ◌≤◌, ◌<◌, ◌+◌, ◌-◌, ◌*◌, ◌/◌, ◌%◌, ◌^◌, ◌≢◌, ◌++◌, ℕ, Bool, true, false, cond, min, List, [], ◌∷◌, length}
use Rattle.tl_convert.proofs.Names.{take, drop, length-append, map, sym, ap, subst, ◌∙◌, arith, rules, ⊎_elim, range_with_len, refill, set, eqb_tells}
use Rattle.tl_convert.proofs.Names.{leb_tells, bit_and, and_mask, map-range_with_len_more, mod-lt, add-mul-mod_self_right, div-eq_of_eq-mul_left}
use Rattle.tl_convert.proofs.Names.{mul-le-mul_right, mul-mod_left, mod-eq_of_lt, div_self, Rules, BeatOf, MAX_SIZE, IsWidth, bytes_per_beat}
use Rattle.tl_convert.proofs.Names.{width_bounds, Message, per_beat, beat_at, some_of, is_bad, Filled, Brings, Poured, Source, Pours, IsBlank}
use Rattle.tl_convert.proofs.Names.{far_beats, per-pos, div-up, per-power, powers-divide}
use Rattle.std.proofs.Math.ListN.{get_or}
use Rattle.std.proofs.Math.Seq.{set-append_seam, get_or-append_seam, take-append_seam}
use Rattle.std.proofs.Math.Arith.{digits_div}
use Rattle.tl_convert.proofs.Filling.{Filled-more, Filled-none, Filled-whole}
use Rattle.std.proofs.lemmas.Nat.{div-add-mod'}

-- a mask bit, on a channel with masks
pub to-old : (masked : Bool) (x y z : ℕ) → masked ≡ true → x ≡ y → x ≡ cond masked y z
to-old true x y z e h = h
to-old false x y z e h = cc

pub from-old : (masked : Bool) (x y z : ℕ) → masked ≡ false → x ≡ z → x ≡ cond masked y z
from-old false x y z e h = h
from-old true x y z e h = cc

-- a sum that ends a beat
pub ends-beat : (n q p : ℕ) → 0 < p → 0 < q → n % p + q ≤ p → (n + q) % p ≡ 0 → n / p * p + p ≡ n + q
ends-beat n q p pos posq room e =
    let s : n / p * p + n % p ≡ n = div-add-mod' n p in
    ⊎_elim
    (λ s1. let k : n % p + q ≡ p = s1.1 in omega arith)
    (λ s1. let k : n % p + q ≢ p = s1.1 in
    let t : n + q ≡ (n % p + q) + n / p * p = omega arith in
    let u : (n + q) % p ≡ (n % p + q) % p = ap (λ x. x % p) t ∙ add-mul-mod_self_right (n % p + q) (n / p) p in
    let v : (n % p + q) % p ≡ n % p + q = mod-eq_of_lt (omega arith) in
    absurd (omega arith))
    (eqb_tells (n % p + q) p)

-- a sum inside a beat
pub inside-beat : (n q p : ℕ) → 0 < p → 0 < q → n % p + q ≤ p → (n + q) % p ≢ 0 → (n + q) / p ≡ n / p
inside-beat n q p pos posq room ne =
    let s : n / p * p + n % p ≡ n = div-add-mod' n p in
    ⊎_elim
    (λ s1. let k : n % p + q ≡ p = s1.1 in
    let t : n + q ≡ (n / p + 1) * p = grind arith in
    let u : (n + q) % p ≡ 0 = ap (λ x. x % p) t ∙ mul-mod_left (n / p + 1) p in
    absurd (ne u))
    (λ s1. let k : n % p + q ≢ p = s1.1 in
    let t : n / p * p + (n % p + q) ≡ n + q = omega arith in
    ap (λ x. x / p) (sym t) ∙ digits_div (n / p) (omega arith))
    (eqb_tells (n % p + q) p)

spread : (x y c q : ℕ) → (x * c + y) * q ≡ y * q + x * (c * q)
spread x y c q = grind arith

-- a chunk doesn't cross the end of a far beat
pub chunk-room : (a c q : ℕ) → 0 < q → 0 < c → (a * q) % (c * q) + q ≤ c * q
chunk-room a c q pos cpos =
    let s : a / c * c + a % c ≡ a = div-add-mod' a c in
    let lt : a % c < c = mod-lt a cpos in
    let less : a % c * q + q ≤ c * q = grind (arith, mul-le-mul_right) in
    let small : a % c * q < c * q = omega arith in
    let t : a * q ≡ a % c * q + a / c * (c * q) = ap (λ x. x * q) (sym s) ∙ spread (a / c) (a % c) c q in
    let u : (a * q) % (c * q) ≡ (a % c * q) % (c * q) = ap (λ x. x % (c * q)) t ∙ add-mul-mod_self_right (a % c * q) (a / c) (c * q) in
    let v : (a % c * q) % (c * q) ≡ a % c * q = mod-eq_of_lt small in
    omega arith

-- the last item of a list was changed, and the list filled with it again
pub last-changed : {X : Type 0} (xs : List X) (x y : X) (t : ℕ) (items slice : List X) → length xs ≡ t → items ≡ xs ++ x ∷ [] → slice ≡ items →
    refill (length items) items (set slice t y) ≡ xs ++ y ∷ []
last-changed xs x y t items slice count is same =
    let changed : set slice t y ≡ xs ++ y ∷ [] = ap (λ s. set s t y) (same ∙ is) ∙ ap (λ i. set (xs ++ x ∷ []) i y) (sym count) ∙
    set-append_seam xs x [] y in
    let long : length items ≡ length (xs ++ y ∷ []) = ap length is ∙ length-append xs (x ∷ []) ∙ sym (length-append xs (y ∷ [])) in
    ap (λ ws. refill (length items) items ws) changed ∙ ap (λ n. take n ((xs ++ y ∷ []) ++ drop (length (xs ++ y ∷ [])) items)) long ∙
    take-append_seam (xs ++ y ∷ []) (drop (length (xs ++ y ∷ [])) items)

-- and it was this one before
pub last-was : {X : Type 0} (xs : List X) (x z : X) (t : ℕ) (items slice : List X) → length xs ≡ t → items ≡ xs ++ x ∷ [] → slice ≡ items →
    get_or slice t z ≡ x
last-was xs x z t items slice count is same =
    ap (λ s. get_or s t z) (same ∙ is) ∙ ap (λ i. get_or (xs ++ x ∷ []) i z) (sym count) ∙ get_or-append_seam xs x [] z

-- it is in the list
pub last-inside : {X : Type 0} (xs : List X) (x : X) (t : ℕ) (items slice : List X) → length xs ≡ t → items ≡ xs ++ x ∷ [] → slice ≡ items →
    t < length slice
last-inside xs x t items slice count is same =
    let long : length slice ≡ length xs + 1 = ap length (same ∙ is) ∙ length-append xs (x ∷ []) in omega arith

pub same-small : (n s : ℕ) → n ≡ s → s ≤ MAX_SIZE → n ≤ MAX_SIZE
same-small n s is le = omega arith

-- a chunk has a byte, and no more than a beat has
pub some-bytes : (size w n : ℕ) → IsWidth w → n ≡ bytes_per_beat size w → 0 < n
some-bytes size w n width is = let z : 0 < 2 ^ size = search rules in let b = width_bounds w width in omega arith

min-first : (a b : ℕ) → a < b → min a b ≡ a
min-first a b lt = omega arith

min-last : (a b : ℕ) → b ≤ a → min a b ≡ b
min-last a b le = omega arith

-- the bytes that are moved at once are those of the narrower beat
pub bytes-near : {H : Type 0} (r : Rules H) (h : H) (w v size n : ℕ) → size ≡ r.size h → per_beat r h w < per_beat r h v →
    n ≡ min (bytes_per_beat size w) (bytes_per_beat size v) → n ≡ bytes_per_beat size w
bytes-near r h w v size n e lt is =
    is ∙ subst (λ z. min (bytes_per_beat z w) (bytes_per_beat z v) ≡ bytes_per_beat z w) (sym e) (min-first (per_beat r h w) (per_beat r h v) lt)

pub bytes-far : {H : Type 0} (r : Rules H) (h : H) (w v size n : ℕ) → size ≡ r.size h → per_beat r h v ≤ per_beat r h w →
    n ≡ min (bytes_per_beat size w) (bytes_per_beat size v) → n ≡ bytes_per_beat size v
bytes-far r h w v size n e le is =
    is ∙ subst (λ z. min (bytes_per_beat z w) (bytes_per_beat z v) ≡ bytes_per_beat z v) (sym e) (min-last (per_beat r h w) (per_beat r h v) le)

-- the rest of a division by the bytes per beat, by a mask
pub rest-by-mask : (size v n wide : ℕ) → IsWidth v → wide ≡ bytes_per_beat size v → bit_and n (wide - 1) ≡ n % wide
rest-by-mask size v n wide width is = let power = per-power size v width in
    subst (λ x. bit_and n (x - 1) ≡ n % x) (sym (is ∙ power.1)) (and_mask n power.0)

pub bytes-within : (size w n : ℕ) → n ≡ bytes_per_beat size w → n ≤ w
bytes-within size w n is = omega arith

-- a far beat that has no byte of a message, whichever of its beats it may be
abbrev pub IsEmpty : {H : Type 0} (r : Rules H) (m : Message H) (v : ℕ) → BeatOf H v → Type 0
IsEmpty r m v b = (j : ℕ) → Filled r m v j (j * per_beat r m.head v) b

pub blank-empty : {H : Type 0} (r : Rules H) (m : Message H) (v : ℕ) → IsWidth v → (head : H) → head ≡ m.head → (b : BeatOf H v) → IsBlank head b →
    IsEmpty r m v b
blank-empty r m v vw head e b blank j = Filled-none r m v vw j b (blank.head_is ∙ e) blank.lanes blank.size blank.mask blank.corrupt

-- a far beat that is not begun, at the beginning of a far beat, has no byte
pub begun-empty : {H : Type 0} (r : Rules H) (m : Message H) (v first : ℕ) (b : BeatOf H v) → first % per_beat r m.head v ≡ 0 →
    Filled r m v (first / per_beat r m.head v) first b → IsEmpty r m v b
begun-empty {H} r m v first b begins filled j =
    let s : first / per_beat r m.head v * per_beat r m.head v + first % per_beat r m.head v ≡ first = div-add-mod' first (per_beat r m.head v) in
    let none : first - first / per_beat r m.head v * per_beat r m.head v ≡ 0 = omega arith in
    let same : j * per_beat r m.head v - j * per_beat r m.head v ≡ 0 = omega arith in
    record {
      head = filled.head;
      size = filled.size;
      bytes = λ i c lo hi e. absurd (omega arith);
      blank = λ l never. filled.blank l (λ i lo hi. absurd (omega arith));
      bits = λ i c lo hi e. absurd (omega arith);
      clear = λ l lt never. filled.clear l lt (λ i lo hi. absurd (omega arith));
      small = filled.small;
      corrupt = filled.corrupt ∙ ap (λ n. some_of (is_bad r m) (first / per_beat r m.head v * per_beat r m.head v) n) none ∙
          ap (λ n. some_of (is_bad r m) (j * per_beat r m.head v) n) (sym same);
    }

module _ {H : Type 0} {W : ℕ} (r : Rules H) (m : Message H) (v home first done q at : ℕ) (ww : IsWidth W) (vw : IsWidth v)
    (beat : BeatOf H W) (old new : BeatOf H v) (out : List (BeatOf H v))
    (source : Source r m home first beat) (begun : first ≤ done) (within : done + q ≤ first + per_beat r m.head W) (pos : 0 < q)
    (fits : done % per_beat r m.head v + q ≤ per_beat r m.head v) (ea : at ≡ (home + done) % 2 ^ 64)
    (poured : Poured r.masked beat old new at q) (before : Pours r m v first done old out) where
  filled-more : Filled r m v (done / per_beat r m.head v) (done + q) new
  filled-more =
      let s : done / per_beat r m.head v * per_beat r m.head v + done % per_beat r m.head v ≡ done = div-add-mod' done (per_beat r m.head v) in
      let brings : Brings r m done q beat = record {
        head = source.brings.head;
        cells = λ i lo hi. source.brings.cells i (omega arith) (omega arith);
        bits = λ t f i lo hi. source.brings.bits t f i (omega arith) (omega arith);
      } in
      Filled-more r m v vw ww (done / per_beat r m.head v) done q at beat old new (ea ∙ ap (λ x. (x + done) % 2 ^ 64) (sym source.home_is))
      (omega arith) (omega arith) pos brings poured before.filled

  -- the far beat isn't whole yet
  pub pour-stays : (done + q) % per_beat r m.head v ≢ 0 → Pours r m v first (done + q) new out
  pour-stays ne =
      let pp : 0 < per_beat r m.head v = per-pos r m v vw in
      let e : (done + q) / per_beat r m.head v ≡ done / per_beat r m.head v = inside-beat done q (per_beat r m.head v) pp pos fits ne in
      record {
        filled = (let P : ℕ → Type 0 = λ j. Filled r m v j (done + q) new in subst P (sym e) filled-more);
        beats = before.beats ∙ ap (λ j. map (beat_at r m v) (range_with_len (first / per_beat r m.head v) (j - first / per_beat r m.head v))) (sym e);
      }

  -- the far beat is whole
  pub pour-ends : (done + q) % per_beat r m.head v ≡ 0 → (fresh : BeatOf H v) → IsEmpty r m v fresh → (out' : List (BeatOf H v)) →
      out' ≡ out ++ new ∷ [] → Pours r m v first (done + q) fresh out'
  pour-ends z fresh empty out' eo =
      let p : ℕ = per_beat r m.head v in
      let pp : 0 < per_beat r m.head v = per-pos r m v vw in
      let j : ℕ = done / per_beat r m.head v in
      let e : done / per_beat r m.head v * per_beat r m.head v + per_beat r m.head v ≡ done + q =
      ends-beat done q (per_beat r m.head v) pp pos fits z in
      let f : (done / per_beat r m.head v + 1) * per_beat r m.head v ≡ done + q = grind arith in
      let g : (done + q) / per_beat r m.head v ≡ done / per_beat r m.head v + 1 = div-eq_of_eq-mul_left pp (sym f) in
      let le : first / per_beat r m.head v ≤ done / per_beat r m.head v = div-up first done (per_beat r m.head v) pp begun in
      let up : first / per_beat r m.head v + (done / per_beat r m.head v - first / per_beat r m.head v) ≡ done / per_beat r m.head v = omega arith in
      let n : done / per_beat r m.head v - first / per_beat r m.head v + 1 ≡ (done + q) / per_beat r m.head v - first / per_beat r m.head v =
      omega arith in
      let room : done + q ≤ 2 ^ r.size m.head = (let x : first + per_beat r m.head W ≤ 2 ^ r.size m.head = source.room in omega arith) in
      let P : ℕ → Type 0 = λ d. Filled r m v (done / per_beat r m.head v) d new in
      let whole : new ≡ beat_at r m v (done / per_beat r m.head v) =
      Filled-whole r m v vw (done / per_beat r m.head v) new source.carries source.cells (omega arith) (subst P (sym e) filled-more) in
      let none_in : Filled r m v (done / per_beat r m.head v + 1) ((done / per_beat r m.head v + 1) * per_beat r m.head v) fresh =
      empty (done / per_beat r m.head v + 1) in
      let Q : ℕ → Type 0 = λ d. Filled r m v (done / per_beat r m.head v + 1) d fresh in
      let R : ℕ → Type 0 = λ k. Filled r m v k (done + q) fresh in
      record {
        filled = subst R (sym g) (subst Q f none_in);
        beats = eo ∙ ap (λ x. x ++ new ∷ []) before.beats ∙ ap (λ x. far_beats r m v first done ++ x ∷ []) whole ∙
            sym (map-range_with_len_more (beat_at r m v) (first / per_beat r m.head v) (done / per_beat r m.head v - first / per_beat r m.head v)
            (done / per_beat r m.head v) up) ∙
            ap (λ k. map (beat_at r m v) (range_with_len (first / per_beat r m.head v) k)) n;
      }

-- a run of whole far beats ends with one
pub whole-ends : (first t q : ℕ) → 0 < q → first % q ≡ 0 → (first + t * q + q) % q ≡ 0
whole-ends first t q pos e =
    let s : first / q * q + first % q ≡ first = div-add-mod' first q in
    let n : first + t * q + q ≡ (first / q + t + 1) * q = grind arith in
    ap (λ x. x % q) n ∙ mul-mod_left (first / q + t + 1) q

-- the chunks of a near beat
pub record Chunk (near wide q first t : ℕ) : Type 0 where
  pub pos : 0 < q
  pub within : first + t * q + q ≤ first + near
  pub fits : (first + t * q) % wide + q ≤ wide

chunk-facts : (near wide q first t : ℕ) → 0 < near → 0 < wide → 0 < q → near ≡ near / q * q → wide ≡ wide / q * q → first % near ≡ 0 → t < near / q →
    Chunk near wide q first t
chunk-facts near wide q first t pn pw pq dn dw whole lt =
    let more : (t + 1) * q ≤ near / q * q = grind (arith, mul-le-mul_right) in
    let parted : first / near * near + first % near ≡ first = div-add-mod' first near in
    let start : first ≡ first / near * (near / q) * q = grind arith in
    let done : first + t * q ≡ (first / near * (near / q) + t) * q = grind arith in
    let cpos : 0 < wide / q = grind arith in
    record {
      pos = pq;
      within = grind arith;
      fits =
          let P : ℕ → Type 0 = λ d. d % wide + q ≤ wide in
          let Q : ℕ → Type 0 = λ p. ((first / near * (near / q) + t) * q) % p + q ≤ p in
          subst P (sym done) (subst Q (sym dw) (chunk-room (first / near * (near / q) + t) (wide / q) q pq cpos));
    }

min-power : (p q a b : ℕ) → p ≡ 2 ^ a → q ≡ 2 ^ b → (k : ℕ) × (min p q ≡ 2 ^ k)
min-power p q a b ep eq = ⊎_elim (λ s. (a, let z : p ≤ q = s.1 in omega arith)) (λ s. (b, let z : q < p = s.1 in omega arith)) (leb_tells p q)

power-pos : (p k : ℕ) → p ≡ 2 ^ k → 0 < p
power-pos p k e = let z : 0 < 2 ^ k = search rules in omega arith

pub chunks : (size W v first t near wide q : ℕ) → IsWidth W → IsWidth v → near ≡ bytes_per_beat size W → wide ≡ bytes_per_beat size v →
    q ≡ min near wide →
    first % near ≡ 0 → t < near / q → Chunk near wide q first t
chunks size W v first t near wide q ww vw en ew eq whole lt =
    let wn = per-power size W ww in
    let wv = per-power size v vw in
    let pn : near ≡ 2 ^ wn.0 = en ∙ wn.1 in
    let pw : wide ≡ 2 ^ wv.0 = ew ∙ wv.1 in
    let wc = min-power near wide wn.0 wv.0 pn pw in
    let pc : q ≡ 2 ^ wc.0 = eq ∙ wc.1 in
    chunk-facts near wide q first t (power-pos near wn.0 pn) (power-pos wide wv.0 pw) (power-pos q wc.0 pc)
    (powers-divide wn.0 wc.0 near q pn pc (omega arith)) (powers-divide wv.0 wc.0 wide q pw pc (omega arith)) whole lt

-- the chunk of an iteration
pub chunk-at : {H : Type 0} (r : Rules H) (head : H) (W v first t size near wide q : ℕ) → IsWidth W → IsWidth v →
    size ≡ r.size head → near ≡ bytes_per_beat size W → wide ≡ bytes_per_beat size v → q ≡ min near wide →
    first % per_beat r head W ≡ 0 → t < near / q → Chunk near wide q first t
chunk-at r head W v first t size near wide q ww vw es en ew eq whole lt =
    let e : per_beat r head W ≡ near = ap (λ z. bytes_per_beat z W) (sym es) ∙ sym en in
    chunks size W v first t near wide q ww vw en ew eq (ap (λ n. first % n) (sym e) ∙ whole) lt

-- a near beat that has fewer bytes than a far beat is one chunk
pub one-chunk : {H : Type 0} (r : Rules H) (head : H) (W v first size near wide : ℕ) → IsWidth W → IsWidth v →
    size ≡ r.size head → near ≡ bytes_per_beat size W → wide ≡ bytes_per_beat size v → near < wide →
    first % per_beat r head W ≡ 0 → (0 < near) × (first % wide + near ≤ wide)
one-chunk r head W v first size near wide ww vw es en ew less whole =
    let wn = per-power size W ww in
    let pos : 0 < near = power-pos near wn.0 (en ∙ wn.1) in
    let once : near / near ≡ 1 = div_self pos in
    let k : Chunk near wide near first 0 = chunk-at r head W v first 0 size near wide near ww vw es en ew (omega arith) whole (omega arith) in
    let start : first + 0 * near ≡ first = omega arith in
    let P : ℕ → Type 0 = λ d. d % wide + near ≤ wide in
    (pos, subst P start k.fits)

-- a near beat that has no fewer bytes than a far beat begins with the first byte of one
pub begins-far : {H : Type 0} (r : Rules H) (head : H) (W v first : ℕ) → IsWidth W → IsWidth v → per_beat r head v ≤ per_beat r head W →
    first % per_beat r head W ≡ 0 → (0 < per_beat r head v) × (first % per_beat r head v ≡ 0)
begins-far r head W v first ww vw fits whole =
    let wn = per-power (r.size head) W ww in
    let wv = per-power (r.size head) v vw in
    let d : per_beat r head W ≡ per_beat r head W / per_beat r head v * per_beat r head v =
    powers-divide wn.0 wv.0 (per_beat r head W) (per_beat r head v) wn.1 wv.1 fits in
    let s : first / per_beat r head W * per_beat r head W + first % per_beat r head W ≡ first = div-add-mod' first (per_beat r head W) in
    let n : first ≡ first / per_beat r head W * (per_beat r head W / per_beat r head v) * per_beat r head v = grind arith in (
      power-pos (per_beat r head v) wv.0 wv.1,
      ap (λ x. x % per_beat r head v) n ∙ mul-mod_left (first / per_beat r head W * (per_beat r head W / per_beat r head v)) (per_beat r head v),
    )

-- the chunks are all of the near beat
pub chunk-all : {H : Type 0} (r : Rules H) (head : H) (W v first t size near wide q : ℕ) → IsWidth W → IsWidth v →
    size ≡ r.size head → near ≡ bytes_per_beat size W → wide ≡ bytes_per_beat size v → q ≡ min near wide →
    t ≡ near / q → first + t * q ≡ first + per_beat r head W
chunk-all r head W v first t size near wide q ww vw es en ew eq et =
    let wn = per-power size W ww in
    let wv = per-power size v vw in
    let pn : near ≡ 2 ^ wn.0 = en ∙ wn.1 in
    let pw : wide ≡ 2 ^ wv.0 = ew ∙ wv.1 in
    let wc = min-power near wide wn.0 wv.0 pn pw in
    let pc : q ≡ 2 ^ wc.0 = eq ∙ wc.1 in
    let d : near ≡ near / q * q = powers-divide wn.0 wc.0 near q pn pc (omega arith) in
    let e : per_beat r head W ≡ near = ap (λ z. bytes_per_beat z W) (sym es) ∙ sym en in
    ap (λ n. first + n * q) et ∙ ap (λ n. first + n) (sym d ∙ sym e)
