use Rattle.tl_convert.proofs.Names.{◌≡◌, ◌≤◌, ◌<◌, ◌+◌, ◌-◌, ◌*◌, ◌/◌, ◌^◌, ℕ, rules, zero, suc, arith, sym, ap, subst, refl, ◌∙◌, add-mul-div_right}
use Rattle.tl_convert.proofs.Names.{mul-div_cancel, div-le_self, bytes_per_beat, width_bounds, per_beat, div-up, per-power, powers-divide}
use Rattle.tl_convert.proofs.PourStep.{some-bytes}
use Rattle.tl_convert.proofs.count.far_beats_between.Goals as goal

more : (index near far : ℕ) → 0 < far → (index + 1) * near ≤ index * near + near * far
more index near zero pos = absurd (omega arith)
more index near (suc far) pos = grind arith

fewer : (index near : ℕ) → index * near ≤ (index + 1) * near
fewer index near = grind arith

given-back : (before after : ℕ) → before ≤ after → (after - before) + before ≡ after
given-back before after le = omega arith

-- a near beat ends at most as many far beats as it has bytes
ended : (index near far : ℕ) → 0 < far → (index + 1) * near / far - index * near / far ≤ near
ended index near far pos =
    let grown : (index + 1) * near ≤ index * near + near * far = more index near far pos in
    let up : (index + 1) * near / far ≤ (index * near + near * far) / far = div-up ((index + 1) * near) (index * near + near * far) far pos grown in
    let sum : (index * near + near * far) / far ≡ index * near / far + near = add-mul-div_right (index * near) near pos in
    omega arith

-- the beats that bytes fill, by the number that was found for the bytes of one
filled : (count near far found : ℕ) → found ≡ count / near → far ≡ near → found ≡ count / far
filled count near far found is same = is ∙ ap (λ n. count / n) (sym same)

pub overflow_sub-result : goal.overflow_sub-result
overflow_sub-result g c =
    let i = c.args.place.now.index in
    let near = c.beat_bytes-near_bytes.result in
    let pos = some-bytes c.size-size.result c.args.far c.beat_bytes-far_bytes.result c.requires.far c.beat_bytes-far_bytes.ensures in
    let before = filled (i * near) _ _ _ c.beats_filled-before.ensures c.beat_bytes-far_bytes.ensures in
    let after = filled ((i + 1) * near) _ _ _ c.beats_filled-after.ensures c.beat_bytes-far_bytes.ensures in
    omega (arith, before, after, div-up (i * near) ((i + 1) * near) c.beat_bytes-far_bytes.result pos (fewer i near))

pub returns-clause-few : goal.returns-clause-few
returns-clause-few g c =
    let w = width_bounds c.args.near c.requires.near in
    let pos = some-bytes c.size-size.result c.args.far c.beat_bytes-far_bytes.result c.requires.far c.beat_bytes-far_bytes.ensures in
    let before = filled (c.args.place.now.index * c.beat_bytes-near_bytes.result) _ _ _ c.beats_filled-before.ensures
    c.beat_bytes-far_bytes.ensures in
    let after = filled ((c.args.place.now.index + 1) * c.beat_bytes-near_bytes.result) _ _ _ c.beats_filled-after.ensures
    c.beat_bytes-far_bytes.ensures in
    omega (
      arith,
      before,
      after,
      ended c.args.place.now.index c.beat_bytes-near_bytes.result c.beat_bytes-far_bytes.result pos,
      c.beat_bytes-near_bytes.ensures,
    )

pub returns-then-near_bytes-far_bytes-clause-few : goal.returns-then-near_bytes-far_bytes-clause-few
returns-then-near_bytes-far_bytes-clause-few g c =
    let w = width_bounds c.args.near c.requires.near in
    let most : c.beat_bytes-near_bytes.result / c.beat_bytes-far_bytes.result ≤ c.beat_bytes-near_bytes.result =
    div-le_self c.beat_bytes-near_bytes.result c.beat_bytes-far_bytes.result in
    let is = filled c.beat_bytes-near_bytes.result _ _ _ c.beats_filled.ensures c.beat_bytes-far_bytes.ensures in
    omega (arith, is, c.beat_bytes-near_bytes.ensures)

pub returns-then-not-carries_data-clause-gives : goal.returns-then-not-carries_data-clause-gives
returns-then-not-carries_data-clause-gives g c = record {
  data_beat = λ carries. search (rules, carries, c.if-not-carries_data.true, c.carries_data.ensures);
  no_data = λ _. refl;
}

pub returns-clause-gives : goal.returns-clause-gives
returns-clause-gives g c =
    let r = g.K.Channel.rules in
    let h = c.args.place.now.head in
    let i = c.args.place.now.index in
    let near = c.beat_bytes-near_bytes.result in
    let far = c.beat_bytes-far_bytes.result in
    let p : near ≡ per_beat r h c.args.near = c.beat_bytes-near_bytes.ensures ∙ ap (λ z. bytes_per_beat z c.args.near) c.size-size.ensures in
    let q : far ≡ per_beat r h c.args.far = c.beat_bytes-far_bytes.ensures ∙ ap (λ z. bytes_per_beat z c.args.far) c.size-size.ensures in
    let pos = some-bytes c.size-size.result c.args.far far c.requires.far c.beat_bytes-far_bytes.ensures in
    let sum = given-back (i * near / far) ((i + 1) * near / far) (div-up (i * near) ((i + 1) * near) far pos (fewer i near)) in
    let N : ℕ → Type 0 = λ n. ((i + 1) * near / far - i * near / far) + i * n / far ≡ (i + 1) * n / far in
    let F : ℕ → Type 0 = λ m. ((i + 1) * near / far - i * near / far) + i * per_beat r h c.args.near / m ≡ (i + 1) * per_beat r h c.args.near / m in
    let before = filled (i * near) _ _ _ c.beats_filled-before.ensures c.beat_bytes-far_bytes.ensures in
    let after = filled ((i + 1) * near) _ _ _ c.beats_filled-after.ensures c.beat_bytes-far_bytes.ensures in
    let is : c.beats_filled-after.result - c.beats_filled-before.result ≡ (i + 1) * near / far - i * near / far =
    ap (λ x. x - c.beats_filled-before.result) after ∙ ap (λ x. (i + 1) * near / far - x) before in
    let R : ℕ → Type 0 = λ given. given + i * per_beat r h c.args.near / per_beat r h c.args.far ≡ (i + 1) * per_beat r h c.args.near / per_beat r h
    c.args.far in
    record {
      data_beat = λ _. subst R (sym is) (subst F q (subst N p sum));
      no_data = λ none. search (rules, none, c.if-not-carries_data.false, c.if-not-carries_data.ensures, c.carries_data.ensures);
    }

-- if a near beat has the bytes of c far beats, each near beat completes c of them
times : (i p q c : ℕ) → p ≡ c * q → 0 < q → i * p / q ≡ i * c
times i p q c e pos =
    let product : i * p ≡ (i * c) * q = rw e (grind arith) in
    ap (λ x. x / q) product ∙ mul-div_cancel (i * c) pos

one-more : (i c : ℕ) → c + i * c ≡ (i + 1) * c
one-more i c = grind arith

whole : (i p q a b : ℕ) → p ≡ 2 ^ a → q ≡ 2 ^ b → q ≤ p → p / q + i * p / q ≡ (i + 1) * p / q
whole i p q a b ep eq le =
    let e = powers-divide a b p q ep eq le in
    let pos : 0 < q = (let z : 0 < 2 ^ b = search rules in omega (arith, eq)) in
    ap (λ x. p / q + x) (times i p q (p / q) e pos) ∙ one-more i (p / q) ∙ sym (times (i + 1) p q (p / q) e pos)

pub returns-then-near_bytes-far_bytes-clause-gives : goal.returns-then-near_bytes-far_bytes-clause-gives
returns-then-near_bytes-far_bytes-clause-gives g c =
    let r = g.K.Channel.rules in
    let h = c.args.place.now.head in
    let i = c.args.place.now.index in
    let near = c.beat_bytes-near_bytes.result in
    let far = c.beat_bytes-far_bytes.result in
    let a = per-power c.size-size.result c.args.near c.requires.near in
    let b = per-power c.size-size.result c.args.far c.requires.far in
    let p : near ≡ per_beat r h c.args.near = c.beat_bytes-near_bytes.ensures ∙ ap (λ z. bytes_per_beat z c.args.near) c.size-size.ensures in
    let q : far ≡ per_beat r h c.args.far = c.beat_bytes-far_bytes.ensures ∙ ap (λ z. bytes_per_beat z c.args.far) c.size-size.ensures in
    let least : far ≤ near = omega (arith, c.if-near_bytes-far_bytes.true) in
    let sum = whole i near far a.0 b.0 (c.beat_bytes-near_bytes.ensures ∙ a.1) (c.beat_bytes-far_bytes.ensures ∙ b.1) least in
    let N : ℕ → Type 0 = λ n. near / far + i * n / far ≡ (i + 1) * n / far in
    let F : ℕ → Type 0 = λ m. near / far + i * per_beat r h c.args.near / m ≡ (i + 1) * per_beat r h c.args.near / m in
    let is = filled near _ _ _ c.beats_filled.ensures c.beat_bytes-far_bytes.ensures in
    let R : ℕ → Type 0 = λ given. given + i * per_beat r h c.args.near / per_beat r h c.args.far ≡ (i + 1) * per_beat r h c.args.near / per_beat r h
    c.args.far in
    record {
      data_beat = λ _. subst R (sym is) (subst F q (subst N p sum));
      no_data = λ none. search (rules, none, c.if-not-carries_data.false, c.if-not-carries_data.ensures, c.carries_data.ensures);
    }
