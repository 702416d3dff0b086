-- A run of beats that fit a message carries the message that is read back from it.
use Rattle.tl_burst.proofs.Names.{◌≡◌, ◌≤◌, ◌<◌, ◌+◌, ◌-◌, ◌*◌, ◌/◌, ◌^◌, ◌≢◌, ◌==◌, ◌⊎◌, ◌++◌, ℕ, zero, suc, Bool, true, false, cond, Option, None}
use Rattle.tl_burst.proofs.Names.{Some, List, [], ◌∷◌, length, get_or, map, slice_get, slice_index, refl, sym, ap, subst, ◌∙◌, arith, inl, inr}
use Rattle.tl_burst.proofs.Names.{⊎_elim, length-append, range_with_len, bit_at, slice_get-get_or, get_or_from_slice_get, slice_get_within}
use Rattle.tl_burst.proofs.Names.{slice_get_past, All-from_get_or, digits_div, Rules, BeatOf, IsWidth, lane_of, lane-lt, Message, Cell, IsLawful}
use Rattle.tl_burst.proofs.Names.{byte_on, per_beat, beats_of, lane_value, beat_at, some_of, is_bad, Spells, SpellsBeat, cell_of, message_of}
use Rattle.tl_burst.proofs.Names.{cases_Bool}
use Rattle.std.proofs.lemmas.List.FromFn.{get_or-map-range_with_len, length-map-range_with_len}
use Rattle.tl_burst.proofs.Fits.{MaskFits, FitsMask}
use Rattle.tl_burst.proofs.Places.{byte_on-some}
use Rattle.tl_burst.proofs.RestOf.{some-first}
use Rattle.tl_burst.proofs.Runs.{of_cells, run_cells, cell_at, run-is, run-length, run-cell}
use Rattle.tl_burst.proofs.SpelledRun.{Fitting, room-of, mask-is}

-- an element of a joined list belongs to one of its parts
parts-get : {A : Type 0} (xs ys : List A) (j : ℕ) (b : A) → slice_get (xs ++ ys) j ≡ Some b →
    (slice_get xs j ≡ Some b) ⊎ ((k : ℕ) × (j ≡ length xs + k) × (slice_get ys k ≡ Some b))
parts-get [] ys j b e = inr (j, omega arith, e)
parts-get (x ∷ xs) ys zero b e = inl e
parts-get (x ∷ xs) ys (suc j) b e = ⊎_elim (λ s. inl s) (λ (k, n, f). inr (k, omega arith, f)) (parts-get xs ys j b e)

range-get : {A : Type 0} (f : ℕ → A) (a n k : ℕ) (b : A) → slice_get (map f (range_with_len a n)) k ≡ Some b → (k < n) × (b ≡ f (a + k))
range-get f a n k b e =
    let c : length (map f (range_with_len a n)) ≡ n = length-map-range_with_len f a n in
    let within : k < length (map f (range_with_len a n)) = slice_get_within (map f (range_with_len a n)) k b e in
    let lt : k < n = omega arith in
    (lt, sym (get_or_from_slice_get (map f (range_with_len a n)) k b b e) ∙ get_or-map-range_with_len f a n k (a + k) b lt refl)

-- an element of a map over a range
pub get-range : {A : Type 0} (f : ℕ → A) (n k : ℕ) → k < n → slice_get (map f (range_with_len 0 n)) k ≡ Some (f k)
get-range f n k lt =
    let c : length (map f (range_with_len 0 n)) ≡ n = length-map-range_with_len f 0 n in
    slice_get-get_or (map f (range_with_len 0 n)) k (f k) (omega arith) ∙ ap Some (get_or-map-range_with_len f 0 n k k (f k) lt (omega arith))

some_of-none : (f : ℕ → Bool) (a n : ℕ) → ((x : ℕ) → a ≤ x → x < a + n → f x ≡ false) → some_of f a n ≡ false
some_of-none f a zero h = refl
some_of-none f a (suc n) h =
    rw (some_of-none f a n (λ x lo hi. h x lo (omega arith))) (h (a + n) (omega arith) (omega arith))

some-same : {A : Type 0} (o : Option A) (x y : A) → o ≡ Some x → o ≡ Some y → x ≡ y
some-same o x y e f = cc

module _ {H : Type 0} (r : Rules H) (h : H) (x w : ℕ) (ww : IsWidth w)
    (masked_address : r.masked ≡ true → (h : H) (x y : ℕ) → r.lane_address h x ≡ r.lane_address h y)
    (partial_carries : (h : H) → r.partial h ≡ true → r.carries h ≡ true)
    (fault : r.fault h ≡ None) (home : r.lane_address h x ≡ x) (home_small : x < 2 ^ 64) where
  on-whole : (l : ℕ) (o : Option (BeatOf H w)) → r.partial h ≡ false → (cell_of r h w l o).on ≡ true
  on-whole l None e = rw e refl
  on-whole l (Some b) e = rw e refl

  byte-small : (l : ℕ) (o : Option (BeatOf H w)) → ((b : BeatOf H w) → o ≡ Some b → slice_index b.lanes l < 256) → (cell_of r h w l o).byte < 256
  byte-small l None here = omega arith
  byte-small l (Some b) here = here b refl

  mask-here : (b : BeatOf H w) → b.head ≡ h → FitsMask r b → r.masked ≡ true → MaskFits x (r.size h) w (r.partial h) b.mask
  mask-here b e fits masked =
      let at : r.lane_address h 0 ≡ x = sym (masked_address masked h x 0) ∙ home in
      let A : ℕ → Type 0 = λ a. MaskFits a (r.size h) w (r.partial h) b.mask in
      let B : H → Type 0 = λ g. MaskFits (r.lane_address g 0) (r.size g) w (r.partial g) b.mask in
      subst A at (subst B e (fits masked))

  -- the message of a run of beats is lawful
  pub run-lawful : (bs : List (BeatOf H w)) → ((j : ℕ) (b : BeatOf H w) → slice_get bs j ≡ Some b → Fitting r h x w j b) →
      IsLawful r (message_of r h w x bs)
  run-lawful bs fits = ⊎_elim
      (λ carries.
      let P : Message H → Type 0 = λ m. IsLawful r m in
      let d : Cell = record { byte = 0; on = true; bad = false } in
      subst P (sym (run-is r h w w x ww ww carries bs)) (record {
        fault = fault;
        home = home;
        home_small = home_small;
        cells = run-length r h w w x ww ww carries bs ∙ sym (ap (λ c. cond c (2 ^ r.size h) 0) carries);
        on = λ e. All-from_get_or (λ (c : Cell). c.on ≡ true) (run_cells r h w w x ww ww carries bs) d (λ i lt.
            let n : length (run_cells r h w w x ww ww carries bs) ≡ 2 ^ r.size h = run-length r h w w x ww ww carries bs in
            let at : get_or (run_cells r h w w x ww ww carries bs) i d ≡ cell_at r h w w x ww ww carries bs i =
            get_or_from_slice_get (run_cells r h w w x ww ww carries bs) i (cell_at r h w w x ww ww carries bs i) d
            (run-cell r h w w x ww ww carries bs i (omega arith)) in
            ap (λ (c : Cell). c.on) at ∙ on-whole (lane_of x i w) (slice_get bs (i / per_beat r h w)) e);
        bytes = All-from_get_or (λ (c : Cell). c.byte < 256) (run_cells r h w w x ww ww carries bs) d (λ i lt.
            let n : length (run_cells r h w w x ww ww carries bs) ≡ 2 ^ r.size h = run-length r h w w x ww ww carries bs in
            let at : get_or (run_cells r h w w x ww ww carries bs) i d ≡ cell_at r h w w x ww ww carries bs i =
            get_or_from_slice_get (run_cells r h w w x ww ww carries bs) i (cell_at r h w w x ww ww carries bs i) d
            (run-cell r h w w x ww ww carries bs i (omega arith)) in
            let small : (cell_at r h w w x ww ww carries bs i).byte < 256 = byte-small (lane_of x i w) (slice_get bs (i / per_beat r h w))
            (λ b e. (fits (i / per_beat r h w) b e).bytes carries i (omega arith) refl) in
            let B : Cell → Type 0 = λ c. c.byte < 256 in
            subst B (sym at) small);
      }))
      (λ none_of.
      let P : Message H → Type 0 = λ m. IsLawful r m in
      let e : of_cells r h x [] ≡ message_of r h w x bs = rw none_of refl in
      subst P e (record {
        fault = fault;
        home = home;
        home_small = home_small;
        cells = sym (ap (λ c. cond c (2 ^ r.size h) 0) none_of);
        on = λ e. All-from_get_or (λ (c : Cell). c.on ≡ true) [] (record { byte = 0; on = true; bad = false }) (λ i lt. absurd (omega arith));
        bytes = All-from_get_or (λ (c : Cell). c.byte < 256) [] (record { byte = 0; on = true; bad = false }) (λ i lt. absurd (omega arith));
      }))
      (cases_Bool (r.carries h))

  -- a beat without data
  plain-beat : (b : BeatOf H w) (j : ℕ) → r.carries h ≡ false → j < beats_of r h w → Fitting r h x w j b → SpellsBeat r (of_cells r h x []) w j b
  plain-beat b j none_of lt fit = record {
    head = fit.head;
    bytes = λ i c e place. absurd (cc);
    bad = λ i c e place. absurd (cc);
    mask = λ masked. mask-is r (of_cells r h x []) w j ww (room-of r h w j ww lt) b masked (mask-here b fit.head fit.fits masked)
        (λ i l lo hi there e. ⊎_elim
        (λ p. let t : r.carries h ≡ true = partial_carries h p in absurd (cc))
        (λ p. rw e (rw none_of (sym (ap (λ q. cond q (bit_at b.mask l == 1) true) p))))
        (cases_Bool (r.partial h)));
    clean = fit.clean;
  }

  module _ (carries : r.carries h ≡ true) (bs : List (BeatOf H w)) where
    abbrev run : Message H
    run = of_cells r h x (run_cells r h w w x ww ww carries bs)

    cell-here : (i : ℕ) (c : Cell) (o : Option (BeatOf H w)) → slice_get (run_cells r h w w x ww ww carries bs) i ≡ Some c →
        slice_get bs (i / per_beat r h w) ≡ o →
        c ≡ cell_of r h w (lane_of x i w) o
    cell-here i c o e place =
        let n : length (run_cells r h w w x ww ww carries bs) ≡ 2 ^ r.size h = run-length r h w w x ww ww carries bs in
        let within : i < length (run_cells r h w w x ww ww carries bs) = slice_get_within (run_cells r h w w x ww ww carries bs) i c e in
        some-same (slice_get (run_cells r h w w x ww ww carries bs) i) c (cell_at r h w w x ww ww carries bs i) e
        (run-cell r h w w x ww ww carries bs i (omega arith)) ∙
        ap (λ y. cell_of r h w (lane_of x i w) y) place

    inside-run : (i : ℕ) (c : Cell) → slice_get (run_cells r h w w x ww ww carries bs) i ≡ Some c → i < 2 ^ r.size h
    inside-run i c e =
        let n : length (run_cells r h w w x ww ww carries bs) ≡ 2 ^ r.size h = run-length r h w w x ww ww carries bs in
        let within : i < length (run_cells r h w w x ww ww carries bs) = slice_get_within (run_cells r h w w x ww ww carries bs) i c e in
        omega arith

    -- a beat of the run
    data-beat : (b : BeatOf H w) (j : ℕ) → slice_get bs j ≡ Some b → j < beats_of r h w → Fitting r h x w j b → SpellsBeat r run w j b
    data-beat b j is lt fit = record {
      head = fit.head;
      bytes = λ i c e place.
          let q : c ≡ cell_of r h w (lane_of x i w) (Some b) = cell-here i c (Some b) e (ap (λ y. slice_get bs y) place ∙ is) in
          slice_get-get_or b.lanes (lane_of x i w) 0 (fit.lanes carries i (inside-run i c e) place) ∙ ap (λ (y : Cell). Some y.byte) (sym q);
      bad = λ i c e place.
          let q : c ≡ cell_of r h w (lane_of x i w) (Some b) = cell-here i c (Some b) e (ap (λ y. slice_get bs y) place ∙ is) in
          ap (λ (y : Cell). y.bad) q;
      mask = λ masked. mask-is r run w j ww (room-of r h w j ww lt) b masked (mask-here b fit.head fit.fits masked)
          (λ i l lo hi there e.
          let room : j * per_beat r h w + per_beat r h w ≤ 2 ^ r.size h = room-of r h w j ww lt in
          let k : i - j * per_beat r h w < per_beat r h w = omega arith in
          let s : j * per_beat r h w + (i - j * per_beat r h w) ≡ i = omega arith in
          let place : i / per_beat r h w ≡ j = ap (λ y. y / per_beat r h w) (sym s) ∙ digits_div j k in
          let c : slice_get (run_cells r h w w x ww ww carries bs) i ≡ Some (cell_of r h w (lane_of x i w) (Some b)) =
          run-cell r h w w x ww ww carries bs i (omega arith) ∙ ap (λ y. Some (cell_of r h w (lane_of x i w) y))
          (ap (λ y. slice_get bs y) place ∙ is) in
          rw e (rw c (ap (λ y. cond (r.partial h) (bit_at b.mask y == 1) true) there)));
      clean = fit.clean;
    }

    none-bad : (j : ℕ) → length bs ≤ j → j < beats_of r h w → some_of (is_bad r run) (j * per_beat r h w) (per_beat r h w) ≡ false
    none-bad j past lt = some_of-none (is_bad r run) (j * per_beat r h w) (per_beat r h w) (λ i lo hi.
        let room : j * per_beat r h w + per_beat r h w ≤ 2 ^ r.size h = room-of r h w j ww lt in
        let k : i - j * per_beat r h w < per_beat r h w = omega arith in
        let s : j * per_beat r h w + (i - j * per_beat r h w) ≡ i = omega arith in
        let place : i / per_beat r h w ≡ j = ap (λ y. y / per_beat r h w) (sym s) ∙ digits_div j k in
        let c : slice_get (run_cells r h w w x ww ww carries bs) i ≡ Some (cell_of r h w (lane_of x i w) None) =
        run-cell r h w w x ww ww carries bs i (omega arith) ∙
        ap (λ y. Some (cell_of r h w (lane_of x i w) y)) (ap (λ y. slice_get bs y) place ∙ slice_get_past bs j past) in
        rw c refl)

    -- a beat that is still to come
    later-beat : (j : ℕ) → length bs ≤ j → j < beats_of r h w → SpellsBeat r run w j (beat_at r run w j)
    later-beat j past lt = record {
      head = refl;
      bytes = λ i c e place.
          let at : byte_on r run w j (lane_of x i w) ≡ Some i = byte_on-some r run w ww i j (lane_of x i w) (inside-run i c e) place refl in
          let value : lane_value r run w j (lane_of x i w) ≡ c.byte = rw at (rw e refl) in
          get-range (lane_value r run w j) w (lane_of x i w) (lane-lt x i w ww) ∙ ap Some value;
      bad = λ i c e place.
          let q : c ≡ cell_of r h w (lane_of x i w) None = cell-here i c None e (ap (λ y. slice_get bs y) place ∙ slice_get_past bs j past) in
          ap (λ (y : Cell). y.bad) q ∙ sym (none-bad j past lt);
      mask = λ masked. refl;
      clean = λ _ none_of. let t : r.carries h ≡ false = none_of in absurd (cc);
    }

  -- the beats that are still missing from a run
  abbrev pub wanted : List (BeatOf H w) → List (BeatOf H w)
  wanted bs = map (beat_at r (message_of r h w x bs) w) (range_with_len (length bs) (beats_of r h w - length bs))

  -- a run and its missing beats spell its message
  pub run-spells : (bs : List (BeatOf H w)) → bs ≢ [] → length bs ≤ beats_of r h w →
      ((j : ℕ) (b : BeatOf H w) → slice_get bs j ≡ Some b → Fitting r h x w j b) → Spells r (message_of r h w x bs) w (bs ++ wanted bs)
  run-spells bs ne le fits =
      let k : length (wanted bs) ≡ beats_of r h w - length bs =
      length-map-range_with_len (beat_at r (message_of r h w x bs) w) (length bs) (beats_of r h w - length bs) in
      let n : length (bs ++ wanted bs) ≡ length bs + length (wanted bs) = length-append bs (wanted bs) in
      record {
        count = omega arith;
        each = λ j b e. ⊎_elim
            (λ here.
            let within : j < length bs = slice_get_within bs j b here in
            let lt : j < beats_of r h w = omega arith in
            ⊎_elim
            (λ carries.
            let P : Message H → Type 0 = λ m. SpellsBeat r m w j b in
            subst P (sym (run-is r h w w x ww ww carries bs)) (data-beat carries bs b j here lt (fits j b here)))
            (λ none_of.
            let P : Message H → Type 0 = λ m. SpellsBeat r m w j b in
            let q : of_cells r h x [] ≡ message_of r h w x bs = rw none_of refl in
            subst P q (plain-beat b j none_of lt (fits j b here)))
            (cases_Bool (r.carries h)))
            (λ (t, et, there).
            let at = range-get (beat_at r (message_of r h w x bs) w) (length bs) (beats_of r h w - length bs) t b there in
            let lt : t < beats_of r h w - length bs = at.0 in
            let f = some-first bs ne in
            let some : length bs ≡ length (f.0 ∷ f.1) = ap length f.2 in
            ⊎_elim
            (λ carries.
            let P : Message H → Type 0 = λ m. SpellsBeat r m w j (beat_at r m w j) in
            let Q : BeatOf H w → Type 0 = λ y. SpellsBeat r (message_of r h w x bs) w j y in
            let same : beat_at r (message_of r h w x bs) w j ≡ b = ap (λ y. beat_at r (message_of r h w x bs) w y) et ∙ sym at.1 in
            subst Q same (subst P (sym (run-is r h w w x ww ww carries bs)) (later-beat carries bs j (omega arith) (omega arith))))
            (λ none_of.
            let one : beats_of r h w ≡ 1 = rw none_of refl in
            absurd (omega arith))
            (cases_Bool (r.carries h)))
            (parts-get bs (wanted bs) j b e);
      }
