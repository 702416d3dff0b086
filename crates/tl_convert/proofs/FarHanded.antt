-- The far beats due are handed at the far width, by the same messages with corrupt gathered.
use Rattle.tl_convert.proofs.Names.{◌≡◌, ◌≤◌, ◌<◌, ◌+◌, ◌-◌, ◌*◌, ◌/◌, ◌^◌, ◌≢◌, ◌==◌, ◌&&◌, ◌++◌, ℕ, zero, suc, Bool, true, false, cond, not, Option}
use Rattle.tl_convert.proofs.Names.{None, Some, List, [], ◌∷◌, length, get_or, take, map, slice_get, refl, sym, ap, subst, ◌∙◌, arith, rules, ⊎_elim}
use Rattle.tl_convert.proofs.Names.{append-nil, length-append, range_with_len, enumerate_from, option_map_or, slice_get-get_or, get_or_from_slice_get}
use Rattle.tl_convert.proofs.Names.{slice_get_within, none-some, same_Some, length-map-range_with_len, fill_by_all, leb_tells, mul-le-mul_right}
use Rattle.tl_convert.proofs.Names.{div-mul-le_self, Rules, BeatOf, IsWidth, lane_of, lane-lt, Message, Cell, byte_on, per_beat, beats_of, lane_value}
use Rattle.tl_convert.proofs.Names.{lane_on, beat_at, layout, some_of, is_bad, IsLawful, SpellsBeat, Spells, Handed, nothing, begun, whole, ends}
use Rattle.tl_convert.proofs.Names.{cell_of, message_of, part, due_after, due, far_beats_of, Begins, byte_on-some, per-pos, mask_of-same, map-parts}
use Rattle.tl_convert.proofs.Names.{of_cells, cell_at, run_cells, run-is, near-fill, whole-same, some_of-none, more-carries, slice_get-left, head_of}
use Rattle.tl_convert.proofs.Names.{cases_Bool, nil_from_length}
use Rattle.std.specs.Int.{bit_at}
use Rattle.tl_convert.specs.Laws.{is_bad_with, IsEvenlyBad, gathered, far_homes, FarIsHanded}
use Rattle.tl_lanes.proofs.Masks.{bit_at-mask_of}
use Rattle.tl_convert.proofs.RunStep.{run_end, end-room, part-is}
use Rattle.tl_burst.proofs.RunSpelled.{get-range}
use Rattle.tl_convert.proofs.Comparisons.{equal_true, not_equal, there_is}

-- cells whose corrupt is f of their place
abbrev pub with_bad : (ℕ → Bool) → ℕ → List Cell → List Cell
with_bad f a cs = map (λ place. record { byte = place.1.byte; on = place.1.on; bad = f place.0 }) (enumerate_from a cs)

pub with_bad-length : (f : ℕ → Bool) (a : ℕ) (cs : List Cell) → length (with_bad f a cs) ≡ length cs
with_bad-length f a [] = refl
with_bad-length f a (c ∷ cs) = ap suc (with_bad-length f (a + 1) cs)

-- a cell comes from one with the same byte and the same enable
with_bad-back : (f : ℕ → Bool) (a : ℕ) (cs : List Cell) (i : ℕ) (c : Cell) → slice_get (with_bad f a cs) i ≡ Some c →
    (d : Cell) × (slice_get cs i ≡ Some d) × (c.byte ≡ d.byte) × (c.on ≡ d.on) × (c.bad ≡ f (a + i))
with_bad-back f a [] i c e = absurd (none-some c e)
with_bad-back f a (x ∷ cs) zero c e =
    let new : Cell = record { byte = x.byte; on = x.on; bad = f a } in
    let s : new ≡ c = same_Some new c e in
    let z : a ≡ a + 0 = omega arith in
    (x, refl, ap (λ y. y.byte) (sym s), ap (λ y. y.on) (sym s), ap (λ y. y.bad) (sym s) ∙ ap f z)
with_bad-back f a (x ∷ cs) (suc i) c e =
    let k = with_bad-back f (a + 1) cs i c e in
    let z : a + 1 + i ≡ a + suc i = omega arith in
    (k.0, k.1, k.2, k.3, k.4 ∙ ap f z)

pub with_bad-on : (f : ℕ → Bool) (a : ℕ) (cs : List Cell) (i : ℕ) (d : Bool) →
    option_map_or (λ c. c.on) (slice_get (with_bad f a cs) i) d ≡ option_map_or (λ c. c.on) (slice_get cs i) d
with_bad-on f a [] i d = refl
with_bad-on f a (x ∷ cs) zero d = refl
with_bad-on f a (x ∷ cs) (suc i) d = with_bad-on f (a + 1) cs i d

-- if corrupt is already f of the position, nothing changes
with_bad-same : (f : ℕ → Bool) (a : ℕ) (cs : List Cell) → ((i : ℕ) (c : Cell) → slice_get cs i ≡ Some c → c.bad ≡ f (a + i)) → with_bad f a cs ≡ cs
with_bad-same f a [] h = refl
with_bad-same f a (c ∷ cs) h =
    let z : a + 0 ≡ a = omega arith in
    ap (λ b. record { byte = c.byte; on = c.on; bad = b } ∷ with_bad f (a + 1) cs) (sym (h 0 c refl ∙ ap f z)) ∙
    ap (λ xs. c ∷ xs) (with_bad-same f (a + 1) cs (λ i d e.
    let y : a + suc i ≡ a + 1 + i = omega arith in h (suc i) d e ∙ ap f y))

no-cell : (cs : List Cell) (i : ℕ) → length cs ≡ 0 → option_map_or (λ c. c.bad) (slice_get cs i) false ≡ false
no-cell [] i e = refl
no-cell (c ∷ cs) i e = absurd (omega arith)

-- only a message that carries data has a cell
pub carries-cell : (carries : Bool) (cs : List Cell) (n i : ℕ) (c : Cell) → length cs ≡ cond carries n 0 → slice_get cs i ≡ Some c →
    (carries ≡ true) × (i < n)
carries-cell true cs n i c e g = let lt : i < length cs = slice_get_within cs i c g in (refl, omega arith)
carries-cell false cs n i c e g = let lt : i < length cs = slice_get_within cs i c g in absurd (omega arith)

-- an element of a map over a range, read back
pub map-back : {A : Type 0} (f : ℕ → A) (n j : ℕ) (b : A) → slice_get (map f (range_with_len 0 n)) j ≡ Some b → (j < n) × (f j ≡ b)
map-back {A = A} f n j b e =
    let k : length (map f (range_with_len 0 n)) ≡ n = length-map-range_with_len f 0 n in
    let lt : j < length (map f (range_with_len 0 n)) = slice_get_within (map f (range_with_len 0 n)) j b e in
    let inside : j < n = omega arith in
    (inside, same_Some {A = A} (f j) b (sym (get-range f n j inside) ∙ e))

-- two cells with the same fields are the same
pub same_cell : (a b : Cell) → a.byte ≡ b.byte → a.on ≡ b.on → a.bad ≡ b.bad → a ≡ b
same_cell a b x y z =
    let mk : ℕ → Bool → Bool → Cell = λ p q t. record { byte = p; on = q; bad = t } in
    ap (λ p. mk p a.on a.bad) x ∙ ap (λ q. mk b.byte q a.bad) y ∙ ap (λ t. mk b.byte b.on t) z

abbrev digit : Bool → ℕ
digit b = cond b 1 0

-- whether a byte is on, by its mask bit
on-is : (partial masked on : Bool) (x : ℕ) → (partial ≡ true → masked ≡ true) → (partial ≡ false → on ≡ true) →
    (masked ≡ true → x ≡ digit (masked && on)) → on ≡ cond partial (x == 1) true
on-is false masked on x pm full bit = full refl
on-is true false on x pm full bit = let e : false ≡ true = pm refl in absurd (cc)
on-is true true true x pm full bit = let e : x ≡ 1 = bit refl in rw e refl
on-is true true false x pm full bit = let e : x ≡ 0 = bit refl in rw e refl

pub some-length : {A : Type 0} (xs : List A) → xs ≢ [] → 0 < length xs
some-length [] ne = absurd (ne refl)
some-length (x ∷ xs) ne = omega arith

pub snoc-join : {A : Type 0} (xs : List A) (y : A) (ys : List A) → (xs ++ y ∷ []) ++ ys ≡ xs ++ y ∷ ys
snoc-join [] y ys = refl
snoc-join (x ∷ xs) y ys = ap (λ q. x ∷ q) (snoc-join xs y ys)

pub all-heads : {H : Type 0} {w : ℕ} (h : H) (bs : List (BeatOf H w)) → ((j : ℕ) (b : BeatOf H w) → slice_get bs j ≡ Some b → b.head ≡ h) →
    (g : H) → head_of bs ≡ Some g → g ≡ h
all-heads {H = H} h [] heads g e = absurd (none-some g e)
all-heads {H = H} h (b ∷ bs) heads g e = sym (same_Some {A = H} b.head g e) ∙ heads 0 b refl

pub less-factor : (k n p : ℕ) → k * p < n * p → k < n
less-factor k n p lt = ⊎_elim (λ s. let le : n ≤ k = s.1 in let m : n * p ≤ k * p = grind (arith, mul-le-mul_right) in absurd (omega arith))
    (λ s. s.1) (leb_tells n k)

module _ {H : Type 0} (r : Rules H) where
  module _ (v : ℕ) (vw : IsWidth v) (m : Message H) (lawful : IsLawful r m) where
    -- a message with corrupt gathered is lawful
    pub gathered-lawful : IsLawful r (gathered r v m)
    gathered-lawful = record {
      fault = lawful.fault;
      home = lawful.home;
      cells = with_bad-length (is_bad_with r v m) 0 m.cells ∙ lawful.cells;
      home_small = lawful.home_small;
      on = λ full k d lt.
          let c : Cell = get_or (with_bad (is_bad_with r v m) 0 m.cells) k d in
          let back = with_bad-back (is_bad_with r v m) 0 m.cells k c (slice_get-get_or (with_bad (is_bad_with r v m) 0 m.cells) k d lt) in
          let inside : k < length m.cells = slice_get_within m.cells k back.0 back.1 in
          back.3 ∙ ap (λ y. y.on) (sym (get_or_from_slice_get m.cells k back.0 d back.1)) ∙ lawful.on full k d inside;
      bytes = λ k d lt.
          let c : Cell = get_or (with_bad (is_bad_with r v m) 0 m.cells) k d in
          let back = with_bad-back (is_bad_with r v m) 0 m.cells k c (slice_get-get_or (with_bad (is_bad_with r v m) 0 m.cells) k d lt) in
          let inside : k < length m.cells = slice_get_within m.cells k back.0 back.1 in
          let small : (get_or m.cells k d).byte < 256 = lawful.bytes k d inside in
          let e : (get_or m.cells k d).byte ≡ back.0.byte = ap (λ y. y.byte) (get_or_from_slice_get m.cells k back.0 d back.1) in
          let f : c.byte ≡ back.0.byte = back.2 in
          omega arith;
    }

  module _ (v : ℕ) (vw : IsWidth v) (m : Message H) (all_cells : length m.cells ≡ cond (r.carries m.head) (2 ^ r.size m.head) 0) where
    gathered-on : (j l : ℕ) → lane_on r (gathered r v m) v j l ≡ lane_on r m v j l
    gathered-on j l =
        elim (byte_on r m v j l) as (λ o.
        option_map_or (λ i. option_map_or (λ c. c.on) (slice_get (with_bad (is_bad_with r v m) 0 m.cells) i) (not (r.carries m.head))) o false ≡
        option_map_or (λ i. option_map_or (λ c. c.on) (slice_get m.cells i) (not (r.carries m.head))) o false) [
          | None ↦ refl
          | Some i ↦ with_bad-on (is_bad_with r v m) 0 m.cells i (not (r.carries m.head))
        ]

    -- the far beat carries its part of the message
    beat-spells : (j : ℕ) → SpellsBeat r (gathered r v m) v j (beat_at r m v j)
    beat-spells j = record {
      head = refl;
      bytes = λ i c e q.
          let back = with_bad-back (is_bad_with r v m) 0 m.cells i c e in
          let inside = carries-cell (r.carries m.head) m.cells (2 ^ r.size m.head) i back.0 all_cells back.1 in
          let there : byte_on r m v j (lane_of m.home i v) ≡ Some i = byte_on-some r m v vw i j (lane_of m.home i v) inside.1 q refl in
          let value : lane_value r m v j (lane_of m.home i v) ≡ back.0.byte = rw there (rw back.1 refl) in
          get-range (lane_value r m v j) v (lane_of m.home i v) (lane-lt m.home i v vw) ∙ ap Some (value ∙ sym back.2);
      bad = λ i c e q.
          let back = with_bad-back (is_bad_with r v m) 0 m.cells i c e in
          let z : 0 + i ≡ i = omega arith in
          back.4 ∙ ap (is_bad_with r v m) z ∙ ap (λ k. some_of (is_bad r m) (k * per_beat r m.head v) (per_beat r m.head v)) q;
      mask = λ _. mask_of-same (λ l. r.masked && lane_on r m v j l) (λ l. r.masked && lane_on r (gathered r v m) v j l) v
          (λ l. ap (λ b. r.masked && b) (sym (gathered-on j l)));
      clean = λ _ empty.
          let none_in : length m.cells ≡ 0 = all_cells ∙ ap (λ b. cond b (2 ^ r.size m.head) 0) empty in
          some_of-none (is_bad r m) (j * per_beat r m.head v) (per_beat r m.head v) (λ i. no-cell m.cells i none_in);
    }

    -- the layout of a message carries the message with corrupt gathered
    pub layout-spells : Spells r (gathered r v m) v (layout r m v)
    layout-spells = record {
      count = length-map-range_with_len (beat_at r m v) 0 (beats_of r m.head v);
      each = λ j b e.
          let back = map-back (beat_at r m v) (beats_of r m.head v) j b e in
          let P : BeatOf H v → Type 0 = λ y. SpellsBeat r (gathered r v m) v j y in
          subst P back.1 (beat-spells j);
    }

  pub gathered-same : (v : ℕ) (m : Message H) → IsEvenlyBad r v m → gathered r v m ≡ m
  gathered-same v m even =
      let mk : List Cell → Message H = λ cs. record { head = m.head; home = m.home; cells = cs } in
      ap mk (with_bad-same (is_bad_with r v m) 0 m.cells (λ i c e. let z : i ≡ 0 + i = omega arith in even i c e ∙ ap (is_bad_with r v m) z))

  -- the layout of a message that is evenly bad carries it
  pub layout-spells-even : (v : ℕ) (m : Message H) → IsWidth v → length m.cells ≡ cond (r.carries m.head) (2 ^ r.size m.head) 0 → IsEvenlyBad r v m →
      Spells r m v (layout r m v)
  layout-spells-even v m vw all_cells even =
      let P : Message H → Type 0 = λ y. Spells r y v (layout r m v) in
      subst P (gathered-same v m even) (layout-spells v vw m all_cells)

  -- the first k beats of a message at v lanes
  abbrev pub first_beats : Message H → (v k : ℕ) → List (BeatOf H v)
  first_beats m v k = map (beat_at r m v) (range_with_len 0 k)

  module _ (v : ℕ) (vw : IsWidth v) (m : Message H) (lawful : IsLawful r m) (k : ℕ) (proper : k < beats_of r m.head v) where
    -- a layout is its first beats and the others
    pub layout-parts : layout r m v ≡ first_beats m v k ++ map (beat_at r m v) (range_with_len k (beats_of r m.head v - k))
    layout-parts =
        let s : k + (beats_of r m.head v - k) ≡ beats_of r m.head v = omega arith in
        ap (λ n. map (beat_at r m v) (range_with_len 0 n)) (sym s) ∙ map-parts (beat_at r m v) 0 k (beats_of r m.head v - k) k (omega arith)

    -- so a proper part of it begins the message with corrupt gathered
    pub part-begins : Begins r (gathered r v m) (Some m.home) (first_beats m v k)
    part-begins =
        let P : List (BeatOf H v) → Type 0 = λ y. Spells r (gathered r v m) v y in
        record {
          lawful = gathered-lawful v vw m lawful;
          home_is = refl;
          more = map (beat_at r m v) (range_with_len k (beats_of r m.head v - k));
          spells = subst P layout-parts (layout-spells v vw m lawful.cells);
          left = λ e.
              let n : length (map (beat_at r m v) (range_with_len k (beats_of r m.head v - k))) ≡ beats_of r m.head v - k =
              length-map-range_with_len (beat_at r m v) k (beats_of r m.head v - k) in
              let z : length (map (beat_at r m v) (range_with_len k (beats_of r m.head v - k))) ≡ 0 = ap length e in
              absurd (omega arith);
        }

    pub part-handed : first_beats m v k ≢ [] → Handed r v (first_beats m v k) (m.home ∷ []) [] (first_beats m v k)
    part-handed some =
        begun (gathered r v m) (first_beats m v k) part-begins.more (gathered-lawful v vw m lawful) part-begins.spells some part-begins.left

  module _ (w v : ℕ) (ww : IsWidth w) (vw : IsWidth v) (partial_masked : (h : H) → r.partial h ≡ true → r.masked ≡ true) where
    -- the message read back from beats that carry a message is that message
    module _ (m : Message H) (lawful : IsLawful r m) (bs : List (BeatOf H w)) (spells : Spells r m w bs) where
      cell-is : (carries : r.carries m.head ≡ true) (k : ℕ) → k < 2 ^ r.size m.head → (c : Cell) → slice_get m.cells k ≡ Some c →
          c ≡ cell_at r m.head w v m.home ww vw carries bs k
      cell-is carries k lt c ec =
          let pp : 0 < per_beat r m.head w = per-pos r m w ww in
          let fill : beats_of r m.head w * per_beat r m.head w ≡ 2 ^ r.size m.head = near-fill r m.head w v m.home ww vw carries in
          let le : k / per_beat r m.head w * per_beat r m.head w ≤ k = div-mul-le_self k (per_beat r m.head w) in
          let j : k / per_beat r m.head w < beats_of r m.head w =
          less-factor (k / per_beat r m.head w) (beats_of r m.head w) (per_beat r m.head w) (omega arith) in
          let count : length bs ≡ beats_of r m.head w = spells.count in
          let b = there_is bs (k / per_beat r m.head w) (omega arith) in
          let beat : SpellsBeat r m w (k / per_beat r m.head w) b.0 = spells.each (k / per_beat r m.head w) b.0 b.1 in
          let lane : ℕ = lane_of m.home k w in
          let there : byte_on r m w (k / per_beat r m.head w) (lane_of m.home k w) ≡ Some k =
          byte_on-some r m w ww k (k / per_beat r m.head w) (lane_of m.home k w) lt refl refl in
          let on : lane_on r m w (k / per_beat r m.head w) (lane_of m.home k w) ≡ c.on = rw there (rw ec refl) in
          let inside : k < length m.cells = slice_get_within m.cells k c ec in
          same_cell c (cell_of r m.head w (lane_of m.home k w) (Some b.0))
          (sym (get_or_from_slice_get b.0.lanes (lane_of m.home k w) c.byte 0 (beat.bytes k c ec refl)))
          (on-is (r.partial m.head) r.masked c.on (bit_at b.0.mask (lane_of m.home k w)) (partial_masked m.head)
          (λ full. ap (λ y. y.on) (sym (get_or_from_slice_get m.cells k c c ec)) ∙ lawful.on full k c inside)
          (λ masked. ap (λ n. bit_at n (lane_of m.home k w)) (beat.mask masked) ∙
          bit_at-mask_of (λ l. r.masked && lane_on r m w (k / per_beat r m.head w) l) w (lane_of m.home k w) (lane-lt m.home k w ww) ∙
          ap (λ y. digit (r.masked && y)) on))
          (beat.bad k c ec refl) ∙
          ap (λ o. cell_of r m.head w (lane_of m.home k w) o) (sym b.1)

      pub message-is : message_of r m.head w m.home bs ≡ m
      message-is = ⊎_elim
          (λ carries.
          let d : Cell = record { byte = 0; on = true; bad = false } in
          let size : length m.cells ≡ 2 ^ r.size m.head = lawful.cells ∙ ap (λ b. cond b (2 ^ r.size m.head) 0) carries in
          let cells : m.cells ≡ run_cells r m.head w v m.home ww vw carries bs =
          fill_by_all (cell_at r m.head w v m.home ww vw carries bs) m.cells (2 ^ r.size m.head) d size (λ k lt.
          cell-is carries k lt (get_or m.cells k d) (slice_get-get_or m.cells k d (omega arith))) in
          run-is r m.head w v m.home ww vw carries bs ∙ ap (λ cs. of_cells r m.head m.home cs) (sym cells))
          (λ empty.
          let none_in : m.cells ≡ [] = nil_from_length m.cells (lawful.cells ∙ ap (λ b. cond b (2 ^ r.size m.head) 0) empty) in
          let all : message_of r m.head w m.home bs ≡ of_cells r m.head m.home [] = rw empty refl in
          all ∙ ap (λ cs. of_cells r m.head m.home cs) (sym none_in))
          (cases_Bool (r.carries m.head))

    -- the far beats due for a list that begins with the beats of a message
    pub whole-due : (h : H) (x : ℕ) (homes : List ℕ) (o seen bs : List (BeatOf H w)) →
        ((j : ℕ) (b : BeatOf H w) → slice_get bs j ≡ Some b → b.head ≡ h) →
        bs ≢ [] → length seen + length bs ≡ beats_of r h w →
        due_after r w v seen (x ∷ homes) (bs ++ o) ≡ layout r (message_of r h w x (seen ++ bs)) v ++ due_after r w v [] homes o
    whole-due h x homes o seen [] heads some count = absurd (some refl)
    whole-due h x homes o seen (b ∷ []) heads some count =
        let e : b.head ≡ h = heads 0 b refl in
        let n : length seen + 1 ≡ beats_of r h w = omega arith in
        let t : ends r w seen b ≡ true = equal_true (length seen + 1) (beats_of r b.head w) (n ∙ ap (λ g. beats_of r g w) (sym e)) in
        rw t (ap (λ g. layout r (message_of r g w x (seen ++ b ∷ [])) v ++ due_after r w v [] homes o) e)
    whole-due h x homes o seen (b ∷ c ∷ cs) heads some count =
        let e : b.head ≡ h = heads 0 b refl in
        let s : beats_of r b.head w ≡ beats_of r h w = ap (λ g. beats_of r g w) e in
        let t : ends r w seen b ≡ false = not_equal (length seen + 1) (beats_of r b.head w) (λ q. absurd (omega arith)) in
        let len : length (seen ++ b ∷ []) ≡ length seen + 1 = length-append seen (b ∷ []) in
        rw t (whole-due h x homes o (seen ++ b ∷ []) (c ∷ cs) (λ j y q. heads (suc j) y q) (λ q. cc) (omega arith) ∙
        ap (λ q. layout r (message_of r h w x q) v ++ due_after r w v [] homes o) (snoc-join seen b (c ∷ cs)))

    -- and of beats that only begin one
    pub begun-due : (h : H) (x : ℕ) (homes : List ℕ) (seen bs : List (BeatOf H w)) → ((j : ℕ) (b : BeatOf H w) → slice_get bs j ≡ Some b → b.head ≡ h) →
        length seen + length bs < beats_of r h w → due_after r w v seen (x ∷ homes) bs ≡ part r w v x (seen ++ bs)
    begun-due h x homes seen [] heads short = ap (λ q. part r w v x q) (sym (append-nil seen))
    begun-due h x homes seen (b ∷ bs) heads short =
        let s : beats_of r b.head w ≡ beats_of r h w = ap (λ g. beats_of r g w) (heads 0 b refl) in
        let t : ends r w seen b ≡ false = not_equal (length seen + 1) (beats_of r b.head w) (λ q. absurd (omega arith)) in
        let len : length (seen ++ b ∷ []) ≡ length seen + 1 = length-append seen (b ∷ []) in
        rw t (begun-due h x homes (seen ++ b ∷ []) bs (λ j y q. heads (suc j) y q) (omega arith) ∙ ap (λ q. part r w v x q) (snoc-join seen b bs))

    pub spelled-heads : (m : Message H) (rest more : List (BeatOf H w)) → Spells r m w (rest ++ more) → (j : ℕ) (b : BeatOf H w) →
        slice_get rest j ≡ Some b → b.head ≡ m.head
    spelled-heads m rest more spells j b e =
        (spells.each j b (sym (slice_get-left rest more j (slice_get_within rest j b e)) ∙ e)).head

    -- a message has a beat
    pub beat-count : (m : Message H) → 0 < beats_of r m.head w
    beat-count m = ⊎_elim
        (λ carries.
        let fill : beats_of r m.head w * per_beat r m.head w ≡ 2 ^ r.size m.head = near-fill r m.head w v m.home ww vw carries in
        let pos : 0 < 2 ^ r.size m.head = search rules in
        let z : 0 * per_beat r m.head w ≡ 0 = omega arith in
        less-factor 0 (beats_of r m.head w) (per_beat r m.head w) (omega arith))
        (λ empty. let n : beats_of r m.head w ≡ 1 = rw empty refl in omega arith)
        (cases_Bool (r.carries m.head))

    pub not-empty : (m : Message H) (bs : List (BeatOf H w)) → Spells r m w bs → bs ≢ []
    not-empty m bs spells e =
        let n : length bs ≡ 0 = ap length e in
        let c : length bs ≡ beats_of r m.head w = spells.count in
        let p : 0 < beats_of r m.head w = beat-count m in
        absurd (omega arith)

    -- the beats that begin a message
    module _ (m : Message H) (rest more : List (BeatOf H w)) (lawful : IsLawful r m) (spells : Spells r m w (rest ++ more)) (some : rest ≢ [])
        (left : more ≢ []) where
      pub shorter : length rest < beats_of r m.head w
      shorter =
          let n : length (rest ++ more) ≡ length rest + length more = length-append rest more in
          let c : length (rest ++ more) ≡ beats_of r m.head w = spells.count in
          let p : 0 < length more = some-length more left in
          omega arith

      rest-carries : r.carries m.head ≡ true
      rest-carries =
          let lt : length rest < beats_of r m.head w = shorter in
          let p : 0 < length rest = some-length rest some in
          more-carries r m.head w (λ e. absurd (omega arith))

      -- not all far beats of an unfinished message are due
      pub far-proper : far_beats_of r m.head w v (length rest) < beats_of r m.head v
      far-proper =
          let pp : 0 < per_beat r m.head w = per-pos r m w ww in
          let lt : length rest < beats_of r m.head w = shorter in
          let near : beats_of r m.head w * per_beat r m.head w ≡ 2 ^ r.size m.head = near-fill r m.head w v m.home ww vw rest-carries in
          let far : beats_of r m.head v * per_beat r m.head v ≡ 2 ^ r.size m.head = near-fill r m.head v v m.home vw vw rest-carries in
          let le : far_beats_of r m.head w v (length rest) * per_beat r m.head v ≤ length rest * per_beat r m.head w =
          div-mul-le_self (length rest * per_beat r m.head w) (per_beat r m.head v) in
          let up : (length rest + 1) * per_beat r m.head w ≤ beats_of r m.head w * per_beat r m.head w = grind (arith, mul-le-mul_right) in
          let one : (length rest + 1) * per_beat r m.head w ≡ length rest * per_beat r m.head w + per_beat r m.head w = grind arith in
          less-factor (far_beats_of r m.head w v (length rest)) (beats_of r m.head v) (per_beat r m.head v) (omega arith)

      -- those that are due are the first ones of its layout
      pub part-first : part r w v m.home rest ≡ first_beats m v (far_beats_of r m.head w v (length rest))
      part-first =
          let lt : length rest < beats_of r m.head w = shorter in
          part-is r m.head w v m.home ww vw rest-carries rest (all-heads m.head rest (spelled-heads m rest more spells)) (omega arith) ∙
          whole-same r m.head w v m.home ww vw rest-carries rest more (run_end r m.head w v m.home ww vw rest-carries rest) refl
          (end-room r m.head w v m.home ww vw rest-carries rest (omega arith)) ∙
          ap (λ y. first_beats y v (far_beats_of r m.head w v (length rest)))
          (sym (run-is r m.head w v m.home ww vw rest-carries (rest ++ more)) ∙ message-is m lawful (rest ++ more) spells)

    begun-homes : (x : ℕ) (far_rest : List (BeatOf H v)) → (far_rest ≢ [] → Handed r v far_rest (x ∷ []) [] far_rest) →
        Handed r v far_rest (far_homes r [] (x ∷ []) far_rest) [] far_rest
    begun-homes x [] h = nothing
    begun-homes x (b ∷ bs) h =
        let t : (suc (length bs) == 0) ≡ false = not_equal (suc (length bs)) 0 (λ e. absurd (omega arith)) in
        let P : Bool → Type 0 = λ q. Handed r v (b ∷ bs) (take (0 + cond q 0 1) (x ∷ [])) [] (b ∷ bs) in
        subst P (sym t) (h (λ e. cc))

    pub far-handed : {bs : List (BeatOf H w)} {homes : List ℕ} {ms : List (Message H)} {rest : List (BeatOf H w)} →
        Handed r w bs homes ms rest → FarIsHanded r (due r w v bs homes) homes ms rest
    far-handed nothing = record { far_rest = []; handed = nothing; same_begun = λ m ne b f. absurd (f refl) }
    far-handed (begun m rest more lawful spells some left) =
        let lt : length rest < beats_of r m.head w = shorter m rest more lawful spells some left in
        let is_due : due r w v rest (m.home ∷ []) ≡ part r w v m.home rest =
        begun-due m.head m.home [] [] rest (spelled-heads m rest more spells) (omega arith) in
        let P : List (BeatOf H v) → Type 0 = λ y. y ≢ [] → Handed r v y (m.home ∷ []) [] y in
        let Q : List (BeatOf H v) → Type 0 = λ y. Handed r v y (far_homes r [] (m.home ∷ []) (part r w v m.home rest)) [] (part r w v m.home rest) in
        record {
          far_rest = part r w v m.home rest;
          handed = subst Q (sym is_due) (begun-homes m.home (part r w v m.home rest)
              (subst P (sym (part-first m rest more lawful spells some left))
              (part-handed v vw m lawful (far_beats_of r m.head w v (length rest)) (far-proper m rest more lawful spells some left))));
          same_begun = λ m' ne b f.
              let same : m.home ≡ m'.home = same_Some m.home m'.home b.home_is in
              let begins : Begins r (gathered r v m') (Some m'.home) (first_beats m' v (far_beats_of r m'.head w v (length rest))) =
              part-begins v vw m' b.lawful (far_beats_of r m'.head w v (length rest)) (far-proper m' rest b.more b.lawful b.spells ne b.left) in
              let is_part : part r w v m.home rest ≡ first_beats m' v (far_beats_of r m'.head w v (length rest)) =
              ap (λ y. part r w v y rest) same ∙ part-first m' rest b.more b.lawful b.spells ne b.left in
              let R : List (BeatOf H v) → Type 0 = λ y. Begins r (gathered r v m') (Some m'.home) y in
              let S : Option ℕ → Type 0 = λ y. Begins r (gathered r v m') y (part r w v m.home rest) in
              subst S (sym b.home_is) (subst R (sym is_part) begins);
        }
    far-handed (whole m bs others homes ms rest lawful spells h) =
        let ih = far-handed h in
        let count : length bs ≡ beats_of r m.head w = spells.count in
        let some : bs ≢ [] = λ e. not-empty m bs spells e in
        let is_due : due r w v (bs ++ others) (m.home ∷ homes) ≡ layout r m v ++ due r w v others homes =
        whole-due m.head m.home homes others [] bs (λ j b e. (spells.each j b e).head) some (omega arith) ∙
        ap (λ y. layout r y v ++ due r w v others homes) (message-is m lawful bs spells) in
        let n : length (m ∷ ms) + cond (length ih.far_rest == 0) 0 1 ≡ suc (length ms + cond (length ih.far_rest == 0) 0 1) = omega arith in
        let homes_are : far_homes r (m ∷ ms) (m.home ∷ homes) ih.far_rest ≡ m.home ∷ far_homes r ms homes ih.far_rest =
        ap (λ x. take x (m.home ∷ homes)) n in
        let P : List (BeatOf H v) → Type 0 = λ y. Handed r v y (far_homes r (m ∷ ms) (m.home ∷ homes) ih.far_rest) (map (gathered r v) (m ∷ ms))
        ih.far_rest in
        let Q : List ℕ → Type 0 = λ y. Handed r v (layout r m v ++ due r w v others homes) y (map (gathered r v) (m ∷ ms)) ih.far_rest in
        record {
          far_rest = ih.far_rest;
          handed = subst P (sym is_due) (subst Q (sym homes_are)
              (whole (gathered r v m) (layout r m v) (due r w v others homes) (far_homes r ms homes ih.far_rest) (map (gathered r v) ms) ih.far_rest
              (gathered-lawful v vw m lawful) (layout-spells v vw m lawful.cells) ih.handed));
          same_begun = λ m' ne b f. ih.same_begun m' ne b f;
        }
