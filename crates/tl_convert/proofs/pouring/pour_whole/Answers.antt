use Rattle.tl_convert.proofs.Names.{◌≡◌, ◌≤◌, ◌<◌, ◌+◌, ◌-◌, ◌*◌, ◌/◌, ◌%◌, ◌^◌, ◌++◌, ◌∷◌, [], ℕ, List, length, min, refl, sym, ap, subst, ◌∙◌}
use Rattle.tl_convert.proofs.Names.{arith, length-append, refill, set, mul-le-mul, BeatOf, WIDEST, bytes_per_beat, width_bounds, per_beat, Poured}
use Rattle.tl_convert.proofs.Names.{Pours}
use Rattle.std.proofs.Math.ListN.{get_or}
use denote.Memory.{lone}
use denote.Param.{layout}
use Rattle.tl_convert.proofs.PourStep.{Chunk, chunk-at, chunk-all, pour-ends, whole-ends, begins-far, begun-empty, last-changed, last-was, bytes-far}
use Rattle.tl_convert.proofs.PourStep.{last-inside, same-small}
use Rattle.tl_convert.proofs.Sizes.{place_fits}
use Rattle.tl_convert.proofs.pouring.pour_whole.Goals as goal

pub loop-t-init : goal.loop-t-init
loop-t-init g c = record {
  count = ap length c.requires.empty;
  pours = λ fits m s p.
      let z : c.args.first ≡ c.args.first + 0 * c.bytes_on_both-wide.result = omega arith in
      let P : List (BeatOf g.row.K-Head.Denot g.row.V) → Type 0 =
      λ xs. Pours g.K.Channel.rules m g.row.V c.args.first c.args.first c.args.partial.now xs in
      let Q : ℕ → Type 0 = λ d. Pours g.K.Channel.rules m g.row.V c.args.first d c.args.partial.now c.args.out.now.items in
      subst Q z (subst P (sym c.requires.empty) p);
}

least : (near wide x y : ℕ) → near ≡ x → wide ≡ y → y ≤ x → wide ≡ min near wide
least near wide x y a b le = omega arith

-- the bytes before an iteration are few
few-bytes : (t n wide w : ℕ) → t < n → n ≤ WIDEST → wide ≤ w → w ≤ WIDEST → t * wide ≤ WIDEST * WIDEST
few-bytes t n wide w lt few within small =
    let le : t ≤ WIDEST = omega arith in
    let bytes : wide ≤ WIDEST = omega arith in
    mul-le-mul le bytes

pub overflow_mul-done : goal.overflow_mul-done
overflow_mul-done g c =
    let w = width_bounds g.row.W c.requires.near in
    omega (
      arith,
      few-bytes c.loop-t.t c.whole_beats-count.result c.bytes_on_both-wide.result g.row.W c.loop-t-test.true
          c.whole_beats-count.ensures.few c.bytes_on_both-wide.ensures.near w.1,
    )

pub overflow_add-done : goal.overflow_add-done
overflow_add-done g c =
    let w = width_bounds g.row.W c.requires.near in
    omega (
      arith,
      few-bytes c.loop-t.t c.whole_beats-count.result c.bytes_on_both-wide.result g.row.W c.loop-t-test.true
          c.whole_beats-count.ensures.few c.bytes_on_both-wide.ensures.near w.1,
      c.requires.room,
    )

pub push-requires : goal.push-requires
push-requires g c = (c.requires-raw.1.1.1.1.1.1.0, omega (arith, c.loop-t.invariant.count, c.loop-t-test.true, c.whole_beats-count.ensures.few))

next : (t q first : ℕ) → first + t * q + q ≡ first + (t + 1) * q
next t q first = grind arith

pub loop-t-preserved : goal.loop-t-preserved
loop-t-preserved g c = record {
  count = ap length items ∙ length-append c.loop-t.out.items (c.add_bytes.new.far ∷ []) ∙ ap (λ n. n + 1) c.loop-t.invariant.count;
  pours = λ fits m s p.
      let is : c.bytes_on_both-wide.result ≡ bytes_per_beat c.size-size.result g.row.V =
      bytes-far g.K.Channel.rules c.args.beat.now.head g.row.W g.row.V c.size-size.result c.bytes_on_both-wide.result c.size-size.ensures fits
      c.bytes_on_both-wide.ensures.bytes in
      let count : c.whole_beats-count.result ≡ bytes_per_beat c.size-size.result g.row.W / c.bytes_on_both-wide.result =
      c.whole_beats-count.ensures.count (subst (λ z. bytes_per_beat z g.row.V ≤ bytes_per_beat z g.row.W) (sym c.size-size.ensures) fits) ∙
      ap (λ x. bytes_per_beat c.size-size.result g.row.W / x) (sym is) in
      let near : bytes_per_beat c.size-size.result g.row.W ≡ per_beat g.K.Channel.rules c.args.beat.now.head g.row.W =
      ap (λ z. bytes_per_beat z g.row.W) c.size-size.ensures in
      let wide : c.bytes_on_both-wide.result ≡ per_beat g.K.Channel.rules c.args.beat.now.head g.row.V =
      is ∙ ap (λ z. bytes_per_beat z g.row.V) c.size-size.ensures in
      let k : Chunk (bytes_per_beat c.size-size.result g.row.W) c.bytes_on_both-wide.result c.bytes_on_both-wide.result c.args.first c.loop-t.t =
      chunk-at g.K.Channel.rules c.args.beat.now.head g.row.W g.row.V c.args.first c.loop-t.t c.size-size.result
      (bytes_per_beat c.size-size.result g.row.W) c.bytes_on_both-wide.result c.bytes_on_both-wide.result c.requires.near c.requires.far
      c.size-size.ensures refl is (least (bytes_per_beat c.size-size.result g.row.W) c.bytes_on_both-wide.result
      (per_beat g.K.Channel.rules c.args.beat.now.head g.row.W) (per_beat g.K.Channel.rules c.args.beat.now.head g.row.V) near wide fits)
      c.requires.whole (subst (λ n. c.loop-t.t < n) count c.loop-t-test.true) in
      let b : (0 < per_beat g.K.Channel.rules c.args.beat.now.head g.row.V) ×
      (c.args.first % per_beat g.K.Channel.rules c.args.beat.now.head g.row.V ≡ 0) =
      begins-far g.K.Channel.rules c.args.beat.now.head g.row.W g.row.V c.args.first c.requires.near c.requires.far fits c.requires.whole in
      let hw : per_beat g.K.Channel.rules c.args.beat.now.head g.row.W ≡ per_beat g.K.Channel.rules m.head g.row.W =
      ap (λ h. per_beat g.K.Channel.rules h g.row.W) s.brings.head in
      let hv : per_beat g.K.Channel.rules c.args.beat.now.head g.row.V ≡ per_beat g.K.Channel.rules m.head g.row.V =
      ap (λ h. per_beat g.K.Channel.rules h g.row.V) s.brings.head in
      let P : ℕ → Type 0 = λ d. Pours g.K.Channel.rules m g.row.V c.args.first d c.args.partial.now out in
      let A : ℕ → Type 0 = λ x. (c.args.first + c.loop-t.t * c.bytes_on_both-wide.result) % x + c.bytes_on_both-wide.result ≤ x in
      let O : BeatOf g.row.K-Head.Denot g.row.V → Type 0 =
      λ old. Poured {W = g.row.W} g.K.Channel.rules.masked c.args.beat.now old c.add_bytes.new.far
      ((c.args.home + (c.args.first + c.loop-t.t * c.bytes_on_both-wide.result)) % 2 ^ 64) c.bytes_on_both-wide.result in
      subst P (next c.loop-t.t c.bytes_on_both-wide.result c.args.first)
      (pour-ends g.K.Channel.rules m g.row.V c.args.home c.args.first (c.args.first + c.loop-t.t * c.bytes_on_both-wide.result)
      c.bytes_on_both-wide.result ((c.args.home + (c.args.first + c.loop-t.t * c.bytes_on_both-wide.result)) % 2 ^ 64) c.requires.near c.requires.far
      c.args.beat.now c.args.partial.now c.add_bytes.new.far c.loop-t.out.items s (omega arith)
      (omega (arith, k.within, near, hw)) k.pos (subst A (wide ∙ hv) k.fits) refl (subst O was c.add_bytes.ensures)
      (c.loop-t.invariant.pours fits m s p)
      (ap (λ x. (c.args.first + c.loop-t.t * c.bytes_on_both-wide.result + c.bytes_on_both-wide.result) % x) (sym (wide ∙ hv)) ∙
      whole-ends c.args.first c.loop-t.t c.bytes_on_both-wide.result k.pos (ap (λ x. c.args.first % x) wide ∙ b.1))
      c.args.partial.now (begun-empty g.K.Channel.rules m g.row.V c.args.first c.args.partial.now (ap (λ x. c.args.first % x) (sym hv) ∙ b.1)
      p.filled) out items);
}
  where
    out : List (BeatOf g.row.K-Head.Denot g.row.V)
    out = refill (length c.push.new.self.items) c.push.new.self.items (set c.as_mut_slice.result.now c.loop-t.t c.add_bytes.new.far)

    items : out ≡ c.loop-t.out.items ++ c.add_bytes.new.far ∷ []
    items = last-changed c.loop-t.out.items c.args.partial.now c.add_bytes.new.far c.loop-t.t c.push.new.self.items c.as_mut_slice.result.now
        c.loop-t.invariant.count c.push.ensures.items c.as_mut_slice.ensures.value

    was : get_or c.as_mut_slice.result.now c.loop-t.t c.index-as_mut_slice-t.result ≡ c.args.partial.now
    was = last-was c.loop-t.out.items c.args.partial.now c.index-as_mut_slice-t.result c.loop-t.t c.push.new.self.items c.as_mut_slice.result.now
        c.loop-t.invariant.count c.push.ensures.items c.as_mut_slice.ensures.value

pub returns : goal.returns
returns g c = λ fits m s p.
    let is : c.bytes_on_both-wide.result ≡ bytes_per_beat c.size-size.result g.row.V =
    bytes-far g.K.Channel.rules c.args.beat.now.head g.row.W g.row.V c.size-size.result c.bytes_on_both-wide.result c.size-size.ensures fits
    c.bytes_on_both-wide.ensures.bytes in
    let count : c.whole_beats-count.result ≡ bytes_per_beat c.size-size.result g.row.W / c.bytes_on_both-wide.result =
    c.whole_beats-count.ensures.count (subst (λ z. bytes_per_beat z g.row.V ≤ bytes_per_beat z g.row.W) (sym c.size-size.ensures) fits) ∙
    ap (λ x. bytes_per_beat c.size-size.result g.row.W / x) (sym is) in
    let near : (bytes_per_beat c.size-size.result g.row.W) ≡ per_beat g.K.Channel.rules c.args.beat.now.head g.row.W =
    ap (λ z. bytes_per_beat z g.row.W) c.size-size.ensures in
    let wide : c.bytes_on_both-wide.result ≡ per_beat g.K.Channel.rules c.args.beat.now.head g.row.V =
    is ∙ ap (λ z. bytes_per_beat z g.row.V) c.size-size.ensures in
    let past : c.loop-t.t ≡ (bytes_per_beat c.size-size.result g.row.W) / c.bytes_on_both-wide.result =
    subst (λ n. c.loop-t.t ≡ n) count (omega arith) in
    let all : c.args.first + c.loop-t.t * c.bytes_on_both-wide.result ≡ c.args.first + per_beat g.K.Channel.rules c.args.beat.now.head g.row.W =
    chunk-all g.K.Channel.rules c.args.beat.now.head g.row.W g.row.V c.args.first c.loop-t.t c.size-size.result
    (bytes_per_beat c.size-size.result g.row.W) c.bytes_on_both-wide.result
    c.bytes_on_both-wide.result c.requires.near c.requires.far c.size-size.ensures refl is
    (least (bytes_per_beat c.size-size.result g.row.W) c.bytes_on_both-wide.result
    (per_beat g.K.Channel.rules c.args.beat.now.head g.row.W) (per_beat g.K.Channel.rules c.args.beat.now.head g.row.V) near wide fits)
    past in
    let P : ℕ → Type 0 = λ d. Pours g.K.Channel.rules m g.row.V c.args.first d c.args.partial.now c.loop-t.out.items in
    subst P (all ∙ ap (λ h. c.args.first + per_beat g.K.Channel.rules h g.row.W) s.brings.head) (c.loop-t.invariant.pours fits m s p)

below : (t n m : ℕ) → t < n → n ≤ m → t ≤ m
below t n m lt le = omega arith

pub size-size-requires : goal.size-size-requires
size-size-requires g c κs = λ p. p

pub bytes_on_both-wide-requires : goal.bytes_on_both-wide-requires
bytes_on_both-wide-requires g c = (
  c.requires.near,
  c.requires.far,
  same-small c.size-size.result (g.K.Channel.rules.size c.args.beat.now.head) c.size-size.ensures c.requires.small,
)

pub whole_beats-count-requires : goal.whole_beats-count-requires
whole_beats-count-requires g c = (
  c.requires.near,
  c.requires.far,
  same-small c.size-size.result (g.K.Channel.rules.size c.args.beat.now.head) c.size-size.ensures c.requires.small,
)

pub offset_bounds-as_mut_slice-t : goal.offset_bounds-as_mut_slice-t
offset_bounds-as_mut_slice-t g c =
    let inside : c.loop-t.t < length c.as_mut_slice.result.now =
    last-inside c.loop-t.out.items c.args.partial.now c.loop-t.t c.push.new.self.items c.as_mut_slice.result.now
    c.loop-t.invariant.count c.push.ensures.items c.as_mut_slice.ensures.value in
    place_fits (lone g.row.K-Head.mir) (layout g.row.K-Head) g.row.V c.loop-t.t c.requires-raw.1.1.1.1.1.1.0
    (below c.loop-t.t (length c.as_mut_slice.result.now) WIDEST inside c.as_mut_slice.ensures.fits)

pub bounds-as_mut_slice-t : goal.bounds-as_mut_slice-t
bounds-as_mut_slice-t g c =
    last-inside c.loop-t.out.items c.args.partial.now c.loop-t.t c.push.new.self.items c.as_mut_slice.result.now
    c.loop-t.invariant.count c.push.ensures.items c.as_mut_slice.ensures.value

further : (n t : ℕ) → t < n → n - (t + 1) < n - t
further n t lt = omega arith

pub loop-t-smaller : goal.loop-t-smaller
loop-t-smaller g c = further c.whole_beats-count.result c.loop-t.t c.loop-t-test.true
