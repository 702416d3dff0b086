use Rattle.tl_convert.proofs.Names.{◌≡◌, ◌≤◌, ◌/◌, ℕ, refl, sym, ap, ◌∙◌, arith, div_self, div-le_self, bytes_per_beat, width_bounds, WIDEST}
use Rattle.tl_convert.proofs.PourStep.{some-bytes, bytes-within}
use Rattle.tl_convert.proofs.pouring.whole_beats.Goals as goal

pub returns-then-this : goal.returns-then-this
returns-then-this g c =
    let far = bytes_per_beat c.args.size g.row.V in
    record {
      count = λ fits.
          let same : bytes_per_beat c.args.size g.row.W ≡ far = omega (arith, c.if-this.true, fits) in
          sym (ap (λ n. n / far) same ∙ div_self (some-bytes c.args.size g.row.V far c.requires.1 refl));
      few = omega arith;
    }

few-beats : (n a b w : ℕ) → n ≡ a / b → a ≤ w → w ≤ WIDEST → n ≤ WIDEST
few-beats n a b w is le small = let part : a / b ≤ a = div-le_self a b in omega arith

pub returns-else-this : goal.returns-else-this
returns-else-this g c =
    let is = c.beats_filled.ensures ∙ ap (λ n. n / bytes_per_beat c.args.size g.row.V) c.beat_bytes.ensures in
    let w = width_bounds g.row.W c.requires.0 in
    record {
      count = λ _. is;
      few = few-beats c.beats_filled.result (bytes_per_beat c.args.size g.row.W) (bytes_per_beat c.args.size g.row.V) g.row.W is
          (bytes-within c.args.size g.row.W (bytes_per_beat c.args.size g.row.W) refl) w.1;
    }
