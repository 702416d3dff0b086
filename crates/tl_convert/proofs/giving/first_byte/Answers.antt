use Rattle.tl_convert.proofs.Names.{◌≡◌, ◌≤◌, ◌<◌, ◌*◌, ◌%◌, ◌^◌, ℕ, ap, ◌∙◌, arith, mul-le-mul, mul-mod_left}
use Rattle.tl_convert.proofs.Names.{bytes_per_beat, per_beat, width_bounds, WIDEST}
use Rattle.tl_convert.proofs.PourStep.{same-small, bytes-within}
use Rattle.tl_convert.proofs.giving.first_byte.Goals as goal

first-small : (index near w : ℕ) → index < 2 ^ 32 → near ≤ w → w ≤ WIDEST → index * near < 2 ^ 40
first-small index near w i n s =
    let le : near ≤ WIDEST = omega arith in
    let few : index ≤ 2 ^ 32 = omega arith in
    let m : index * near ≤ 2 ^ 32 * WIDEST = mul-le-mul few le in
    omega arith

far-below : (n : ℕ) → n < 2 ^ 40 → n < 2 ^ 64
far-below n lt = omega arith

pub size-requires : goal.size-requires
size-requires g c κs = λ p. p

pub beat_bytes-requires-clause-small : goal.beat_bytes-requires-clause-small
beat_bytes-requires-clause-small g c = same-small c.size.result (g.K.Channel.rules.size c.args.head.now) c.size.ensures c.requires.1

pub overflow_mul-result : goal.overflow_mul-result
overflow_mul-result g c =
    let b = width_bounds g.row.W c.requires.0 in
    let small : c.args.index * c.beat_bytes.result < 2 ^ 40 = first-small c.args.index c.beat_bytes.result g.row.W c.ranges.index.fits
    (bytes-within c.size.result g.row.W c.beat_bytes.result c.beat_bytes.ensures) b.1 in
    record { fits = far-below (c.args.index * c.beat_bytes.result) small }

pub returns : goal.returns
returns g c =
    let b = width_bounds g.row.W c.requires.0 in
    let bytes : c.beat_bytes.result ≡ per_beat g.K.Channel.rules c.args.head.now g.row.W =
    c.beat_bytes.ensures ∙ ap (λ z. bytes_per_beat z g.row.W) c.size.ensures in
    let e : c.args.index * c.beat_bytes.result ≡ c.args.index * per_beat g.K.Channel.rules c.args.head.now g.row.W =
    ap (λ n. c.args.index * n) bytes in
    record {
      is = e;
      whole = ap (λ n. n % per_beat g.K.Channel.rules c.args.head.now g.row.W) e ∙
          mul-mod_left c.args.index (per_beat g.K.Channel.rules c.args.head.now g.row.W);
      room = first-small c.args.index c.beat_bytes.result g.row.W c.ranges.index.fits
          (bytes-within c.size.result g.row.W c.beat_bytes.result c.beat_bytes.ensures) b.1;
    }
