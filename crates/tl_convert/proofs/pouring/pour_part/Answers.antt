use Rattle.tl_convert.proofs.Names.{◌≡◌, ◌≤◌, ◌+◌, ◌%◌, ◌^◌, ℕ, List, refl, sym, ap, subst, ◌∙◌, arith, ◌++◌, ◌∷◌, [], length, ◌*◌, refill, set}
use Rattle.tl_convert.proofs.Names.{BeatOf, bytes_per_beat, width_bounds, per_beat, Poured, Pours}
use Rattle.std.proofs.Math.ListN.{get_or}
use denote.Memory.{lone}
use denote.Param.{layout}
use prog.Memory.{size, align}
use mir.Syntax.{w64}
use mir.Val.{Fits}
use Rattle.tl_convert.proofs.PourStep.{some-bytes, one-chunk, pour-stays, pour-ends, blank-empty, last-changed, last-was, last-inside, same-small}
use Rattle.tl_convert.proofs.PourStep.{rest-by-mask, bytes-near}
use Rattle.tl_convert.proofs.Sizes.{beat_bytes}
use Rattle.tl_convert.proofs.pouring.pour_part.Goals as goal

pub returns-then-first-near-ne0 : goal.returns-then-first-near-ne0
returns-then-first-near-ne0 g c = λ less m s p.
    let is : c.bytes_on_both-near.result ≡ bytes_per_beat c.size-size.result g.row.W =
    bytes-near g.K.Channel.rules c.args.beat.now.head g.row.W g.row.V c.size-size.result c.bytes_on_both-near.result c.size-size.ensures less
    c.bytes_on_both-near.ensures.bytes in
    let near : c.bytes_on_both-near.result ≡ per_beat g.K.Channel.rules c.args.beat.now.head g.row.W =
    is ∙ ap (λ z. bytes_per_beat z g.row.W) c.size-size.ensures in
    let wide : c.beat_bytes.result ≡ per_beat g.K.Channel.rules c.args.beat.now.head g.row.V =
    c.beat_bytes.ensures ∙ ap (λ z. bytes_per_beat z g.row.V) c.size-size.ensures in
    let k = one-chunk g.K.Channel.rules c.args.beat.now.head g.row.W g.row.V c.args.first c.size-size.result c.bytes_on_both-near.result
    c.beat_bytes.result
    c.requires.near c.requires.far c.size-size.ensures is c.beat_bytes.ensures (omega (arith, near, wide, less))
    c.requires.whole in
    let hw : per_beat g.K.Channel.rules c.args.beat.now.head g.row.W ≡ per_beat g.K.Channel.rules m.head g.row.W =
    ap (λ h. per_beat g.K.Channel.rules h g.row.W) s.brings.head in
    let hv : per_beat g.K.Channel.rules c.args.beat.now.head g.row.V ≡ per_beat g.K.Channel.rules m.head g.row.V =
    ap (λ h. per_beat g.K.Channel.rules h g.row.V) s.brings.head in
    let P : ℕ → Type 0 = λ d. Pours g.K.Channel.rules m g.row.V c.args.first d c.add_bytes.new.far c.args.out.now.items in
    let O : List (BeatOf g.row.K-Head.Denot g.row.V) → Type 0 =
    λ o. Pours g.K.Channel.rules m g.row.V c.args.first c.args.first c.args.partial.now o in
    let A : ℕ → Type 0 = λ x. c.args.first % x + c.bytes_on_both-near.result ≤ x in
    subst P (ap (λ n. c.args.first + n) (near ∙ hw))
    (pour-stays g.K.Channel.rules m g.row.V c.args.home c.args.first c.args.first c.bytes_on_both-near.result
    ((c.args.home + c.args.first) % 2 ^ 64) c.requires.near c.requires.far
    c.args.beat.now c.args.partial.now c.add_bytes.new.far c.args.out.now.items s (omega arith)
    (omega (arith, near, hw)) k.0 (subst A (wide ∙ hv) k.1) refl c.add_bytes.ensures (subst O (sym c.requires.empty) p)
    (λ e. c.if-first-near-ne0.true (rest-by-mask c.size-size.result g.row.V (c.args.first + c.bytes_on_both-near.result) c.beat_bytes.result
    c.requires.far c.beat_bytes.ensures ∙ ap (λ x. (c.args.first + c.bytes_on_both-near.result) % x) (wide ∙ hv) ∙ e)))

pub returns : goal.returns
returns g c = λ less m s p.
    let is : c.bytes_on_both-near.result ≡ bytes_per_beat c.size-size.result g.row.W =
    bytes-near g.K.Channel.rules c.args.beat.now.head g.row.W g.row.V c.size-size.result c.bytes_on_both-near.result c.size-size.ensures less
    c.bytes_on_both-near.ensures.bytes in
    let near : c.bytes_on_both-near.result ≡ per_beat g.K.Channel.rules c.args.beat.now.head g.row.W =
    is ∙ ap (λ z. bytes_per_beat z g.row.W) c.size-size.ensures in
    let wide : c.beat_bytes.result ≡ per_beat g.K.Channel.rules c.args.beat.now.head g.row.V =
    c.beat_bytes.ensures ∙ ap (λ z. bytes_per_beat z g.row.V) c.size-size.ensures in
    let k = one-chunk g.K.Channel.rules c.args.beat.now.head g.row.W g.row.V c.args.first c.size-size.result c.bytes_on_both-near.result
    c.beat_bytes.result
    c.requires.near c.requires.far c.size-size.ensures is c.beat_bytes.ensures (omega (arith, near, wide, less))
    c.requires.whole in
    let hw : per_beat g.K.Channel.rules c.args.beat.now.head g.row.W ≡ per_beat g.K.Channel.rules m.head g.row.W =
    ap (λ h. per_beat g.K.Channel.rules h g.row.W) s.brings.head in
    let hv : per_beat g.K.Channel.rules c.args.beat.now.head g.row.V ≡ per_beat g.K.Channel.rules m.head g.row.V =
    ap (λ h. per_beat g.K.Channel.rules h g.row.V) s.brings.head in
    let P : ℕ → Type 0 = λ d. Pours g.K.Channel.rules m g.row.V c.args.first d c.blank.result out in
    let O : List (BeatOf g.row.K-Head.Denot g.row.V) → Type 0 =
    λ o. Pours g.K.Channel.rules m g.row.V c.args.first c.args.first c.args.partial.now o in
    let A : ℕ → Type 0 = λ x. c.args.first % x + c.bytes_on_both-near.result ≤ x in
    let B : BeatOf g.row.K-Head.Denot g.row.V → Type 0 =
    λ old. Poured {W = g.row.W} g.K.Channel.rules.masked c.args.beat.now old c.add_bytes-2.new.far ((c.args.home + c.args.first) % 2 ^ 64)
    c.bytes_on_both-near.result in
    subst P (ap (λ n. c.args.first + n) (near ∙ hw))
    (pour-ends g.K.Channel.rules m g.row.V c.args.home c.args.first c.args.first c.bytes_on_both-near.result
    ((c.args.home + c.args.first) % 2 ^ 64) c.requires.near c.requires.far
    c.args.beat.now c.args.partial.now c.add_bytes-2.new.far c.args.out.now.items s (omega arith)
    (omega (arith, near, hw)) k.0 (subst A (wide ∙ hv) k.1) refl (subst B was c.add_bytes-2.ensures) (subst O (sym c.requires.empty) p)
    (ap (λ x. (c.args.first + c.bytes_on_both-near.result) % x) (sym (wide ∙ hv)) ∙
    sym (rest-by-mask c.size-size.result g.row.V (c.args.first + c.bytes_on_both-near.result) c.beat_bytes.result c.requires.far
    c.beat_bytes.ensures) ∙ c.if-first-near-ne0.false)
    c.blank.result (blank-empty g.K.Channel.rules m g.row.V c.requires.far c.args.beat.now.head s.brings.head c.blank.result c.blank.ensures) out
    items)
  where
    out : List (BeatOf g.row.K-Head.Denot g.row.V)
    out = refill (length c.push.new.self.items) c.push.new.self.items (set c.as_mut_slice.result.now 0 c.add_bytes-2.new.far)

    none : length c.args.out.now.items ≡ 0
    none = ap length c.requires.empty

    items : out ≡ c.args.out.now.items ++ c.add_bytes-2.new.far ∷ []
    items = last-changed c.args.out.now.items c.args.partial.now c.add_bytes-2.new.far 0 c.push.new.self.items c.as_mut_slice.result.now none
        c.push.ensures.items c.as_mut_slice.ensures.value

    was : get_or c.as_mut_slice.result.now 0 c.index-as_mut_slice-0.result ≡ c.args.partial.now
    was = last-was c.args.out.now.items c.args.partial.now c.index-as_mut_slice-0.result 0 c.push.new.self.items c.as_mut_slice.result.now none
        c.push.ensures.items c.as_mut_slice.ensures.value

pub size-size-requires : goal.size-size-requires
size-size-requires g c κs = λ p. p

pub bytes_on_both-near-requires : goal.bytes_on_both-near-requires
bytes_on_both-near-requires g c = (
  c.requires.near,
  c.requires.far,
  same-small c.size-size.result (g.K.Channel.rules.size c.args.beat.now.head) c.size-size.ensures c.requires.small,
)

pub beat_bytes-requires-clause-small : goal.beat_bytes-requires-clause-small
beat_bytes-requires-clause-small g c = same-small c.size-size.result (g.K.Channel.rules.size c.args.beat.now.head) c.size-size.ensures
    c.requires.small

pub beat_bytes-requires-clause-width : goal.beat_bytes-requires-clause-width
beat_bytes-requires-clause-width g c = c.requires.far

pub push-requires : goal.push-requires
push-requires g c = (c.requires-raw.1.1.1.1.1.1.0, omega (arith, ap length c.requires.empty))

none-before : (n : ℕ) → Fits w64 (0 * n)
none-before n = record { fits = omega arith }

pub offset_bounds-0 : goal.offset_bounds-0
offset_bounds-0 g c = none-before (beat_bytes (align (lone g.row.K-Head.mir)) (align (layout g.row.K-Head)) (size (lone g.row.K-Head.mir)) g.row.V)

pub bounds-as_mut_slice-0 : goal.bounds-as_mut_slice-0
bounds-as_mut_slice-0 g c =
    last-inside c.args.out.now.items c.args.partial.now 0 c.push.new.self.items c.as_mut_slice.result.now
    (ap length c.requires.empty) c.push.ensures.items c.as_mut_slice.ensures.value

pub overflow_add-first : goal.overflow_add-first
overflow_add-first g c =
    let w = width_bounds g.row.W c.requires.near in
    omega (arith, w.1, c.bytes_on_both-near.ensures.near, c.requires.room)

pub overflow_sub-beat_bytes : goal.overflow_sub-beat_bytes
overflow_sub-beat_bytes g c = some-bytes c.size-size.result g.row.V c.beat_bytes.result c.requires.far c.beat_bytes.ensures
