-- Two bridges in a row give what one gives, but for what a wide middle bus gathers and rounds down.
use Rattle.tl_convert.proofs.Names.{◌≡◌, ◌≤◌, ◌<◌, ◌+◌, ◌*◌, ◌/◌, ◌^◌, ◌≢◌, ◌⊎◌, ◌++◌, ◌||◌, ◌&&◌, ℕ, zero, suc, Bool, true, false, cond, not, Option, None, Some}
use Rattle.tl_convert.proofs.Names.{List, [], ◌∷◌, length, map, take, slice_get, refl, sym, ap, subst, ◌∙◌, arith, inl, inr, ⊎_elim, append_assoc, max}
use Rattle.tl_convert.proofs.Names.{option_map_or, length-map-range_with_len, take-map-range_with_len, leb_tells, slice_get-left, slice_get_within}
use Rattle.tl_convert.proofs.Names.{get_or_from_slice_get, same_Some, cases_Bool, mul-le-mul_right, mul-div_cancel, div-mul-le_self, lt-div-mul-add, div-eq_of_lt}
use Rattle.tl_convert.proofs.Names.{Rules, BeatOf, IsWidth, Message, Cell, per_beat, beats_of, byte_on, lane_value, lane_on, beat_at, layout, some_of, is_bad}
use Rattle.tl_convert.proofs.Names.{IsLawful, Spells, Handed, nothing, begun, whole, due, far_beats_of, layouts, Begins, per-pos, per-power, powers-divide}
use Rattle.tl_convert.proofs.Names.{near-fill, mask_of-same, some_of-same, some_of-none}
use Rattle.std.proofs.Math.Nat.{div-div-eq-div-mul}
use Rattle.std.proofs.lemmas.Nat.{div-mul-add}
use Rattle.tl_msg.proofs.Beats.{same_beat}
use Rattle.tl_burst.proofs.Runs.{map-same}
use Rattle.tl_convert.specs.Laws.{is_bad_with, IsEvenlyBad, gathered}
use Rattle.tl_convert.specs.Series.{due_in_series, InSeries}
use Rattle.tl_convert.proofs.Comparisons.{there_is}
use Rattle.tl_convert.proofs.Filling.{some_of-more}
use Rattle.tl_convert.proofs.FarHanded.{first_beats, part-begins, far-proper, gathered-lawful, layout-spells, gathered-same, with_bad, with_bad-on}
use Rattle.tl_convert.proofs.FarHanded.{carries-cell, less-factor, shorter, spelled-heads, begun-due}
use Rattle.tl_convert.proofs.DuePrefix.{due-begun, due-whole}

none-of-none : (p q : ℕ) → 0 < q → 0 * p / q ≡ 0
none-of-none p q pos = let z : 0 * p ≡ 0 = omega arith in ap (λ x. x / q) z ∙ div-eq_of_lt pos

-- a test of two ranges, one after the other
some_of-parts : (f : ℕ → Bool) (a n q : ℕ) → some_of f a (n + q) ≡ (some_of f a n || some_of f (a + n) q)
some_of-parts f a n zero =
    let z : n + zero ≡ n = omega arith in
    ap (λ x. some_of f a x) z ∙ sym (or-false (some_of f a n))
  where
    or-false : (b : Bool) → (b || false) ≡ b
    or-false true = refl
    or-false false = refl
some_of-parts f a n (suc q) =
    let z : n + suc q ≡ suc (n + q) = omega arith in
    let y : a + (n + q) ≡ a + n + q = omega arith in
    ap (λ x. some_of f a x) z ∙ ap (λ b. b || f (a + (n + q))) (some_of-parts f a n q) ∙
    ap (λ x. (some_of f a n || some_of f (a + n) q) || f x) y ∙ or-assoc (some_of f a n) (some_of f (a + n) q) (f (a + n + q))
  where
    or-assoc : (x y z : Bool) → ((x || y) || z) ≡ (x || (y || z))
    or-assoc true y z = refl
    or-assoc false y z = refl

-- a test that was gathered over runs of p numbers, over k such runs
some_of-gathered : (f : ℕ → Bool) (p b k : ℕ) → 0 < p → some_of (λ i. some_of f (i / p * p) p) (b * p) (k * p) ≡ some_of f (b * p) (k * p)
some_of-gathered f p b zero pos =
    let z : zero * p ≡ 0 = omega arith in
    ap (λ n. some_of (λ i. some_of f (i / p * p) p) (b * p) n) z ∙ sym (ap (λ n. some_of f (b * p) n) z)
some_of-gathered f p b (suc k) pos =
    let g : ℕ → Bool = λ i. some_of f (i / p * p) p in
    let s : suc k * p ≡ k * p + p = grind arith in
    let start : b * p + k * p ≡ (b + k) * p = grind arith in
    ap (λ n. some_of g (b * p) n) s ∙
    some_of-more g (b * p) (k * p) p (some_of f ((b + k) * p) p) pos (λ t lt.
    let at : b * p + (k * p + t) ≡ (b + k) * p + t = omega arith in
    ap (λ i. some_of f (i / p * p) p) at ∙ ap (λ q. some_of f (q * p) p) (div-mul-add (b + k) p t lt)) ∙
    ap (λ x. x || some_of f ((b + k) * p) p) (some_of-gathered f p b k pos) ∙
    ap (λ a. some_of f (b * p) (k * p) || some_of f a p) (sym start) ∙
    sym (some_of-parts f (b * p) (k * p) p) ∙ ap (λ n. some_of f (b * p) n) (sym s)

-- the back of a join
slice_get-right : {A : Type 0} (xs ys : List A) (t : ℕ) → slice_get (xs ++ ys) (length xs + t) ≡ slice_get ys t
slice_get-right [] ys t = let z : 0 + t ≡ t = omega arith in ap (λ i. slice_get ys i) z
slice_get-right (x ∷ xs) ys t =
    let z : length (x ∷ xs) + t ≡ suc (length xs + t) = omega arith in
    ap (λ i. slice_get (x ∷ (xs ++ ys)) i) z ∙ slice_get-right xs ys t

with_bad-byte : (f : ℕ → Bool) (a : ℕ) (cs : List Cell) (i : ℕ) →
    option_map_or (λ c. c.byte) (slice_get (with_bad f a cs) i) 0 ≡ option_map_or (λ c. c.byte) (slice_get cs i) 0
with_bad-byte f a [] i = refl
with_bad-byte f a (x ∷ cs) zero = refl
with_bad-byte f a (x ∷ cs) (suc i) = with_bad-byte f (a + 1) cs i

with_bad-bad : (f : ℕ → Bool) (a : ℕ) (cs : List Cell) (i : ℕ) → i < length cs →
    option_map_or (λ c. c.bad) (slice_get (with_bad f a cs) i) false ≡ f (a + i)
with_bad-bad f a [] i lt = absurd (omega arith)
with_bad-bad f a (x ∷ cs) zero lt = let z : a ≡ a + 0 = omega arith in ap f z
with_bad-bad f a (x ∷ cs) (suc i) lt =
    let z : a + 1 + i ≡ a + suc i = omega arith in with_bad-bad f (a + 1) cs i (omega arith) ∙ ap f z

-- bytes counted in whole parts of p, and then in parts of q
div-down : (n a p q : ℕ) → 0 < p → a ≡ (a / p) * p → n * a / p * p / q ≡ n * a / q
div-down n a p q pos e =
    let s : n * a ≡ n * (a / p) * p = grind arith in
    let t : n * a / p ≡ n * (a / p) = ap (λ x. x / p) s ∙ mul-div_cancel (n * (a / p)) pos in
    ap (λ x. x * p / q) t ∙ ap (λ x. x / q) (sym s)

div-up-to : (x p q : ℕ) → 0 < p → q ≡ (q / p) * p → x / p * p / q ≡ x / q
div-up-to x p q pos e =
    let c : ℕ = q / p in
    let f : q ≡ p * c = grind arith in
    ap (λ y. x / p * p / y) f ∙ sym (div-div-eq-div-mul (x / p * p) p c) ∙ ap (λ y. y / c) (mul-div_cancel (x / p) pos) ∙
    div-div-eq-div-mul x p c ∙ ap (λ y. x / y) (sym f)

module _ {H : Type 0} (r : Rules H) (w v u : ℕ) (ww : IsWidth w) (vw : IsWidth v) (uw : IsWidth u)
    (partial_masked : (h : H) → r.partial h ≡ true → r.masked ≡ true) where
  -- middle beats that begin a message
  middle-begun : (m : Message H) → IsLawful r m → (k : ℕ) → k < beats_of r m.head v →
      (due r v u (first_beats r m v k) (m.home ∷ []) ≡ first_beats r (gathered r v m) u (far_beats_of r m.head v u k)) ×
      (far_beats_of r m.head v u k ≤ beats_of r m.head u)
  middle-begun m lawful zero proper =
      let z : far_beats_of r m.head v u 0 ≡ 0 = none-of-none (per_beat r m.head v) (per_beat r m.head u) (per-pos r m u uw) in
      (ap (λ n. first_beats r (gathered r v m) u n) (sym z), omega arith)
  middle-begun m lawful (suc k) proper =
      let b = part-begins r v vw m lawful (suc k) proper in
      let n : length (first_beats r m v (suc k)) ≡ suc k = length-map-range_with_len (beat_at r m v) 0 (suc k) in
      let some : first_beats r m v (suc k) ≢ [] = λ e. cc in
      let lt : far_beats_of r m.head v u (length (first_beats r m v (suc k))) < beats_of r m.head u =
      far-proper r v u vw uw partial_masked (gathered r v m) (first_beats r m v (suc k)) b.more b.lawful b.spells some b.left in
      let lt2 : far_beats_of r m.head v u (suc k) < beats_of r m.head u = subst (λ x. far_beats_of r m.head v u x < beats_of r m.head u) n lt in (
        due-begun r v u vw uw partial_masked (gathered r v m) (first_beats r m v (suc k)) b.more b.lawful b.spells some b.left ∙
            ap (λ x. first_beats r (gathered r v m) u (far_beats_of r m.head v u x)) n,
        omega arith,
      )

  -- near beats that begin one
  module _ (m : Message H) (bs more : List (BeatOf H w)) (lawful : IsLawful r m) (spells : Spells r m w (bs ++ more)) (some : bs ≢ []) (left : more ≢ [])
    where
      proper : far_beats_of r m.head w v (length bs) < beats_of r m.head v
      proper = far-proper r w v ww vw partial_masked m bs more lawful spells some left

      two-begun : due_in_series r w v u bs (m.home ∷ []) ≡
          first_beats r (gathered r v m) u (far_beats_of r m.head v u (far_beats_of r m.head w v (length bs)))
      two-begun =
          ap (λ y. due r v u y (m.home ∷ [])) (due-begun r w v ww vw partial_masked m bs more lawful spells some left) ∙
          (middle-begun m lawful (far_beats_of r m.head w v (length bs)) proper).0

      two-taken : due_in_series r w v u bs (m.home ∷ []) ≡
          take (far_beats_of r m.head v u (far_beats_of r m.head w v (length bs))) (layout r (gathered r v m) u)
      two-taken =
          two-begun ∙
          sym (take-map-range_with_len (beat_at r (gathered r v m) u) 0 (beats_of r m.head u)
          (far_beats_of r m.head v u (far_beats_of r m.head w v (length bs)))
          (middle-begun m lawful (far_beats_of r m.head w v (length bs)) proper).1)

  -- near beats whose first message is whole
  two-whole : (m : Message H) (bs others : List (BeatOf H w)) (homes : List ℕ) → IsLawful r m → Spells r m w bs →
      due_in_series r w v u (bs ++ others) (m.home ∷ homes) ≡ layout r (gathered r v m) u ++ due_in_series r w v u others homes
  two-whole m bs others homes lawful spells =
      ap (λ y. due r v u y (m.home ∷ homes)) (due-whole r w v ww vw partial_masked m bs others homes lawful spells) ∙
      due-whole r v u vw uw partial_masked (gathered r v m) (layout r m v) (due r w v others homes) homes (gathered-lawful r v vw m lawful)
      (layout-spells r v vw m lawful.cells)

  series-whole : {bs : List (BeatOf H w)} {homes : List ℕ} {ms : List (Message H)} {rest : List (BeatOf H w)} → Handed r w bs homes ms rest →
      rest ≡ [] → due_in_series r w v u bs homes ≡ layouts r u (map (gathered r v) ms)
  series-whole nothing e = refl
  series-whole (begun m rest more l s n1 n2) e = absurd (n1 e)
  series-whole (whole m bs o hs ms rest l s t) e =
      two-whole m bs o hs l s ∙ ap (λ y. layout r (gathered r v m) u ++ y) (series-whole t e)

  series-begun : {bs : List (BeatOf H w)} {homes : List ℕ} {ms : List (Message H)} {rest : List (BeatOf H w)} → Handed r w bs homes ms rest →
      (m : Message H) → rest ≢ [] → Begins r m (slice_get homes (length ms)) rest →
      due_in_series r w v u bs homes ≡ layouts r u (map (gathered r v) ms) ++
      take (far_beats_of r m.head v u (far_beats_of r m.head w v (length rest))) (layout r (gathered r v m) u)
  series-begun nothing m ne b = absurd (ne refl)
  series-begun (begun m' rest more l s n1 n2) m ne b =
      let same : m'.home ≡ m.home = same_Some m'.home m.home b.home_is in
      ap (λ x. due_in_series r w v u rest (x ∷ [])) same ∙ two-taken m rest b.more b.lawful b.spells ne b.left
  series-begun (whole m' bs o hs ms rest l s t) m ne b =
      two-whole m' bs o hs l s ∙ ap (λ y. layout r (gathered r v m') u ++ y) (series-begun t m ne b) ∙
      sym (append_assoc (layout r (gathered r v m') u) _ _)

  -- ---- a middle bus that is no wider than the near one: in each middle beat all bytes are corrupt or none is
  module _ (m : Message H) (lawful : IsLawful r m) (bs : List (BeatOf H w)) (spells : Spells r m w bs) (le : v ≤ w) where
    same-beat : (i k : ℕ) → k < per_beat r m.head v →
        (i / per_beat r m.head v * per_beat r m.head v + k) / per_beat r m.head w ≡ i / per_beat r m.head w
    same-beat i k lt =
        let a = per-power (r.size m.head) w ww in
        let b = per-power (r.size m.head) v vw in
        let pos : 0 < per_beat r m.head v = per-pos r m v vw in
        let c : ℕ = per_beat r m.head w / per_beat r m.head v in
        let e : per_beat r m.head w ≡ per_beat r m.head w / per_beat r m.head v * per_beat r m.head v =
        powers-divide a.0 b.0 (per_beat r m.head w) (per_beat r m.head v) a.1 b.1 (omega arith) in
        let f : per_beat r m.head w ≡ per_beat r m.head v * c = grind arith in
        let i' : ℕ = i / per_beat r m.head v * per_beat r m.head v + k in
        ap (λ y. i' / y) f ∙ sym (div-div-eq-div-mul i' (per_beat r m.head v) c) ∙
        ap (λ y. y / c) (div-mul-add (i / per_beat r m.head v) (per_beat r m.head v) k lt) ∙
        div-div-eq-div-mul i (per_beat r m.head v) c ∙ ap (λ y. i / y) (sym f)

    bad-in : (carries : r.carries m.head ≡ true) (j : ℕ) (b : BeatOf H w) → slice_get bs j ≡ Some b → (i : ℕ) → i / per_beat r m.head w ≡ j →
        is_bad r m i ≡ b.corrupt
    bad-in carries j b at i e =
        let pos : 0 < per_beat r m.head w = per-pos r m w ww in
        let fill : beats_of r m.head w * per_beat r m.head w ≡ 2 ^ r.size m.head = near-fill r m.head w v m.home ww vw carries in
        let count : length bs ≡ beats_of r m.head w = spells.count in
        let within : j < length bs = slice_get_within bs j b at in
        let up : (j + 1) * per_beat r m.head w ≤ beats_of r m.head w * per_beat r m.head w = grind (arith, mul-le-mul_right) in
        let one : (j + 1) * per_beat r m.head w ≡ j * per_beat r m.head w + per_beat r m.head w = grind arith in
        let lt : i < j * per_beat r m.head w + per_beat r m.head w =
        subst (λ q. i < q * per_beat r m.head w + per_beat r m.head w) e (lt-div-mul-add pos) in
        let cells : length m.cells ≡ 2 ^ r.size m.head = lawful.cells ∙ ap (λ x. cond x (2 ^ r.size m.head) 0) carries in
        let c = there_is m.cells i (omega arith) in
        ap (λ o. option_map_or (λ y. y.bad) o false) c.1 ∙ (spells.each j b at).bad i c.0 c.1 e

    evenly-bad : IsEvenlyBad r v m
    evenly-bad i c e =
        let inside = carries-cell (r.carries m.head) m.cells (2 ^ r.size m.head) i c lawful.cells e in
        let pos : 0 < per_beat r m.head v = per-pos r m v vw in
        let fill : beats_of r m.head w * per_beat r m.head w ≡ 2 ^ r.size m.head = near-fill r m.head w v m.home ww vw inside.0 in
        let low : i / per_beat r m.head w * per_beat r m.head w ≤ i = div-mul-le_self i (per_beat r m.head w) in
        let i_in : i < 2 ^ r.size m.head = inside.1 in
        let j : i / per_beat r m.head w < beats_of r m.head w =
        less-factor (i / per_beat r m.head w) (beats_of r m.head w) (per_beat r m.head w) (omega arith) in
        let count : length bs ≡ beats_of r m.head w = spells.count in
        let b = there_is bs (i / per_beat r m.head w) (omega arith) in
        let all : some_of (is_bad r m) (i / per_beat r m.head v * per_beat r m.head v) (0 + per_beat r m.head v) ≡ (false || b.0.corrupt) =
        some_of-more (is_bad r m) (i / per_beat r m.head v * per_beat r m.head v) 0 (per_beat r m.head v) b.0.corrupt pos (λ k lt.
        let zk : 0 + k ≡ k = omega arith in
        ap (λ x. is_bad r m (i / per_beat r m.head v * per_beat r m.head v + x)) zk ∙
        bad-in inside.0 (i / per_beat r m.head w) b.0 b.1 (i / per_beat r m.head v * per_beat r m.head v + k) (same-beat i k lt)) in
        let z : 0 + per_beat r m.head v ≡ per_beat r m.head v = omega arith in
        (spells.each (i / per_beat r m.head w) b.0 b.1).bad i c e refl ∙ sym all ∙
        ap (λ n. some_of (is_bad r m) (i / per_beat r m.head v * per_beat r m.head v) n) z

  -- ---- a middle bus that is no wider than the far one: gathering over each middle beat changes no far beat
  module _ (m : Message H) (lawful : IsLawful r m) where
    kept-on : (j l : ℕ) → lane_on r (gathered r v m) u j l ≡ lane_on r m u j l
    kept-on j l =
        elim (byte_on r m u j l) as (λ o.
        option_map_or (λ i. option_map_or (λ c. c.on) (slice_get (with_bad (is_bad_with r v m) 0 m.cells) i) (not (r.carries m.head))) o false ≡
        option_map_or (λ i. option_map_or (λ c. c.on) (slice_get m.cells i) (not (r.carries m.head))) o false) [
          | None ↦ refl
          | Some i ↦ with_bad-on (is_bad_with r v m) 0 m.cells i (not (r.carries m.head))
        ]

    kept-byte : (j l : ℕ) → lane_value r (gathered r v m) u j l ≡ lane_value r m u j l
    kept-byte j l =
        elim (byte_on r m u j l) as (λ o.
        option_map_or (λ i. option_map_or (λ c. c.byte) (slice_get (with_bad (is_bad_with r v m) 0 m.cells) i) 0) o 0 ≡
        option_map_or (λ i. option_map_or (λ c. c.byte) (slice_get m.cells i) 0) o 0) [
          | None ↦ refl
          | Some i ↦ with_bad-byte (is_bad_with r v m) 0 m.cells i
        ]

    kept-bad : v ≤ u → r.carries m.head ≡ true → (j : ℕ) → j < beats_of r m.head u →
        some_of (is_bad r (gathered r v m)) (j * per_beat r m.head u) (per_beat r m.head u) ≡
        some_of (is_bad r m) (j * per_beat r m.head u) (per_beat r m.head u)
    kept-bad le carries j lt =
        let a = per-power (r.size m.head) u uw in
        let b = per-power (r.size m.head) v vw in
        let pos : 0 < per_beat r m.head v = per-pos r m v vw in
        let c : ℕ = per_beat r m.head u / per_beat r m.head v in
        let e : per_beat r m.head u ≡ c * per_beat r m.head v =
        powers-divide a.0 b.0 (per_beat r m.head u) (per_beat r m.head v) a.1 b.1 (omega arith) in
        let start : j * per_beat r m.head u ≡ j * c * per_beat r m.head v = grind arith in
        let fill : beats_of r m.head u * per_beat r m.head u ≡ 2 ^ r.size m.head = near-fill r m.head u v m.home uw vw carries in
        let up : (j + 1) * per_beat r m.head u ≤ beats_of r m.head u * per_beat r m.head u = grind (arith, mul-le-mul_right) in
        let one : (j + 1) * per_beat r m.head u ≡ j * per_beat r m.head u + per_beat r m.head u = grind arith in
        let cells : length m.cells ≡ 2 ^ r.size m.head = lawful.cells ∙ ap (λ x. cond x (2 ^ r.size m.head) 0) carries in
        let g : ℕ → Bool = is_bad_with r v m in
        some_of-same (is_bad r (gathered r v m)) g (j * per_beat r m.head u) (per_beat r m.head u) (λ i lo hi.
        with_bad-bad g 0 m.cells i (omega arith) ∙ (let z : 0 + i ≡ i = omega arith in ap g z)) ∙
        ap (λ x. some_of g x (per_beat r m.head u)) start ∙ ap (λ n. some_of g (j * c * per_beat r m.head v) n) e ∙
        some_of-gathered (is_bad r m) (per_beat r m.head v) (j * c) c pos ∙
        sym (ap (λ x. some_of (is_bad r m) x (per_beat r m.head u)) start ∙ ap (λ n. some_of (is_bad r m) (j * c * per_beat r m.head v) n) e)

    kept-beat : v ≤ u → r.carries m.head ≡ true → (j : ℕ) → j < beats_of r m.head u → beat_at r (gathered r v m) u j ≡ beat_at r m u j
    kept-beat le carries j lt =
        same_beat (beat_at r (gathered r v m) u j) (beat_at r m u j) refl
        (mask_of-same (λ l. r.masked && lane_on r (gathered r v m) u j l) (λ l. r.masked && lane_on r m u j l) u
        (λ l. ap (λ b. r.masked && b) (kept-on j l)))
        (map-same (lane_value r (gathered r v m) u j) (lane_value r m u j) 0 u (λ l lo hi. kept-byte j l)) (kept-bad le carries j lt)

    no-data : r.carries m.head ≡ false → gathered r v m ≡ m
    no-data empty =
        gathered-same r v m (λ i c e.
        let inside = carries-cell (r.carries m.head) m.cells (2 ^ r.size m.head) i c lawful.cells e in
        let x : false ≡ true = sym empty ∙ inside.0 in
        absurd (cc))

    kept-beats : v ≤ u → (k : ℕ) → k ≤ beats_of r m.head u → first_beats r (gathered r v m) u k ≡ first_beats r m u k
    kept-beats le k fits = ⊎_elim
        (λ carries.
        map-same (beat_at r (gathered r v m) u) (beat_at r m u) 0 k (λ j lo hi. kept-beat le carries j (omega arith)))
        (λ empty. ap (λ y. first_beats r y u k) (no-data empty))
        (cases_Bool (r.carries m.head))

  -- ---- so a middle bus that is no wider than one of the others makes no difference
  module _ (narrow : v ≤ max w u) where
    narrower : (v ≤ w) ⊎ (v ≤ u)
    narrower = ⊎_elim (λ s. inl s.1) (λ s. let lt : w < v = s.1 in inr (omega arith)) (leb_tells v w)

    same-beats : (m : Message H) (bs : List (BeatOf H w)) → IsLawful r m → Spells r m w bs → (k : ℕ) → k ≤ beats_of r m.head u →
        first_beats r (gathered r v m) u k ≡ first_beats r m u k
    same-beats m bs lawful spells k fits = ⊎_elim
        (λ le. ap (λ y. first_beats r y u k) (gathered-same r v m (evenly-bad m lawful bs spells le)))
        (λ le. kept-beats m lawful le k fits)
        narrower

    same-count : (m : Message H) (n : ℕ) → far_beats_of r m.head v u (far_beats_of r m.head w v n) ≡ far_beats_of r m.head w u n
    same-count m n =
        let a = per-power (r.size m.head) w ww in
        let b = per-power (r.size m.head) v vw in
        let c = per-power (r.size m.head) u uw in
        let pos : 0 < per_beat r m.head v = per-pos r m v vw in
        ⊎_elim
        (λ (le : v ≤ w).
        div-down n (per_beat r m.head w) (per_beat r m.head v) (per_beat r m.head u) pos
        (powers-divide a.0 b.0 (per_beat r m.head w) (per_beat r m.head v) a.1 b.1 (omega arith)))
        (λ (le : v ≤ u).
        div-up-to (n * per_beat r m.head w) (per_beat r m.head v) (per_beat r m.head u) pos
        (powers-divide c.0 b.0 (per_beat r m.head u) (per_beat r m.head v) c.1 b.1 (omega arith)))
        narrower

    series-as-one : {bs : List (BeatOf H w)} {homes : List ℕ} {ms : List (Message H)} {rest : List (BeatOf H w)} → Handed r w bs homes ms rest →
        due_in_series r w v u bs homes ≡ due r w u bs homes
    series-as-one nothing = refl
    series-as-one (begun m rest more l s n1 n2) =
        two-begun m rest more l s n1 n2 ∙
        same-beats m (rest ++ more) l s (far_beats_of r m.head v u (far_beats_of r m.head w v (length rest)))
        (middle-begun m l (far_beats_of r m.head w v (length rest)) (proper m rest more l s n1 n2)).1 ∙
        ap (λ k. first_beats r m u k) (same-count m (length rest)) ∙ sym (due-begun r w u ww uw partial_masked m rest more l s n1 n2)
    series-as-one (whole m bs o hs ms rest l s t) =
        two-whole m bs o hs l s ∙ ap (λ y. y ++ due_in_series r w v u o hs) (same-beats m bs l s (beats_of r m.head u) (omega arith)) ∙
        ap (λ y. layout r m u ++ y) (series-as-one t) ∙ sym (due-whole r w u ww uw partial_masked m bs o hs l s)

  -- ---- and no middle bus does, after whole messages without a corrupt beat
  clean-same : (m : Message H) (bs : List (BeatOf H w)) → IsLawful r m → Spells r m w bs →
      ((j : ℕ) (b : BeatOf H w) → slice_get bs j ≡ Some b → b.corrupt ≡ false) → gathered r v m ≡ m
  clean-same m bs lawful spells clean =
      gathered-same r v m (λ i c e.
      clean-cell i c e ∙ sym (some_of-none (is_bad r m) (i / per_beat r m.head v * per_beat r m.head v) (per_beat r m.head v)
      (λ k. clean-at k (slice_get m.cells k) refl)))
    where
      clean-cell : (i : ℕ) (c : Cell) → slice_get m.cells i ≡ Some c → c.bad ≡ false
      clean-cell i c e =
          let inside = carries-cell (r.carries m.head) m.cells (2 ^ r.size m.head) i c lawful.cells e in
          let fill : beats_of r m.head w * per_beat r m.head w ≡ 2 ^ r.size m.head = near-fill r m.head w v m.home ww vw inside.0 in
          let low : i / per_beat r m.head w * per_beat r m.head w ≤ i = div-mul-le_self i (per_beat r m.head w) in
          let i_in : i < 2 ^ r.size m.head = inside.1 in
          let j : i / per_beat r m.head w < beats_of r m.head w =
          less-factor (i / per_beat r m.head w) (beats_of r m.head w) (per_beat r m.head w) (omega arith) in
          let count : length bs ≡ beats_of r m.head w = spells.count in
          let b = there_is bs (i / per_beat r m.head w) (omega arith) in
          (spells.each (i / per_beat r m.head w) b.0 b.1).bad i c e refl ∙ clean (i / per_beat r m.head w) b.0 b.1

      clean-at : (k : ℕ) (o : Option Cell) → slice_get m.cells k ≡ o → option_map_or (λ c. c.bad) o false ≡ false
      clean-at k None e = refl
      clean-at k (Some c) e = clean-cell k c e

  series-clean : {bs : List (BeatOf H w)} {homes : List ℕ} {ms : List (Message H)} {rest : List (BeatOf H w)} → Handed r w bs homes ms rest →
      rest ≡ [] → ((j : ℕ) (b : BeatOf H w) → slice_get bs j ≡ Some b → b.corrupt ≡ false) → due_in_series r w v u bs homes ≡ due r w u bs homes
  series-clean nothing e clean = refl
  series-clean (begun m rest more l s n1 n2) e clean = absurd (n1 e)
  series-clean (whole m bs o hs ms rest l s t) e clean =
      let same : gathered r v m ≡ m =
      clean-same m bs l s (λ j b at. clean j b (sym (slice_get-left bs o j (slice_get_within bs j b at)) ∙ at)) in
      two-whole m bs o hs l s ∙ ap (λ y. layout r y u ++ due_in_series r w v u o hs) same ∙
      ap (λ y. layout r m u ++ y) (series-clean t e (λ j b at. clean (length bs + j) b (slice_get-right bs o j ∙ at))) ∙
      sym (due-whole r w u ww uw partial_masked m bs o hs l s)

  -- ---- homes after those of the messages that have begun make no difference
  more-homes : {x : List (BeatOf H v)} {homes : List ℕ} {ms : List (Message H)} {rest : List (BeatOf H v)} → Handed r v x homes ms rest →
      (others : List ℕ) → due r v u x (homes ++ others) ≡ due r v u x homes
  more-homes nothing others = refl
  more-homes (begun m rest more l s n1 n2) others =
      let lt : length rest < beats_of r m.head v = shorter r v u vw uw partial_masked m rest more l s n1 n2 in
      let heads = spelled-heads r v u vw uw partial_masked m rest more s in
      begun-due r v u vw uw partial_masked m.head m.home others [] rest heads (omega arith) ∙
      sym (begun-due r v u vw uw partial_masked m.head m.home [] [] rest heads (omega arith))
  more-homes (whole m bs o hs ms rest l s t) others =
      due-whole r v u vw uw partial_masked m bs o (hs ++ others) l s ∙ ap (λ y. layout r m u ++ y) (more-homes t others) ∙
      sym (due-whole r v u vw uw partial_masked m bs o hs l s)

  pub is_in_series : InSeries r w v u
  is_in_series bs homes ms rest h = record {
    as_one = λ le. series-as-one le h;
    as_one_if_clean = λ e clean. series-clean h e (λ j b at.
        ap (λ y. y.corrupt) (sym (get_or_from_slice_get bs j b b at)) ∙ clean j b (slice_get_within bs j b at));
    whole = series-whole h;
    begun = series-begun h;
    middle_homes = λ fewer handed first.
        sym (more-homes handed.2 first.0) ∙ ap (λ hs. due r v u (due r w v bs homes) hs) first.1;
  }
