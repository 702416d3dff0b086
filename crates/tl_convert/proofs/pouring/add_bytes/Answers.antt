use Rattle.tl_convert.proofs.Names.{◌||◌, refl, sym, subst, ◌∙◌, BeatOf, Poured}
use Rattle.tl_convert.proofs.PourStep.{to-old, from-old}
use Rattle.tl_convert.proofs.pouring.add_bytes.Goals.{then-MASKED, else-MASKED}
use Rattle.tl_convert.proofs.pouring.add_bytes.Goals as goal

pub returns : goal.returns
returns g c =
    let P : BeatOf g.row.K-Head.Denot g.row.V → Type 0 = λ f. Poured {H = g.row.K-Head.Denot} {W = g.row.W} {V = g.row.V} g.K.Channel.rules.masked
    c.args.beat.now c.args.far.now
    (record { head = f.head; mask = f.mask; lanes = f.lanes; corrupt = f.corrupt || c.args.beat.now.corrupt }) c.args.at c.args.count in
    elim c.if-MASKED.branch [
      | then-MASKED w ↦ subst P (sym w.far-is) (record {
        head = refl;
        size = c.move_lanes.ensures.size;
        moved = λ k lt. c.move_lanes.ensures.moved k lt;
        kept = λ l never. c.move_lanes.ensures.kept l never;
        bits = λ k lt. to-old g.K.Channel.rules.masked _ _ _ (g.met.K.Channel.masked_is ∙ sym c.MASKED.ensures ∙ w.if-MASKED.true)
            (w.move_mask-far.ensures.moved k lt);
        bits_kept = λ l lt never. w.move_mask-far.ensures.kept l never;
        small = λ _. w.move_mask-far.type_inv;
        corrupt = refl;
      })
      | else-MASKED w ↦ subst P (sym w.far-is) (record {
        head = refl;
        size = c.move_lanes.ensures.size;
        moved = λ k lt. c.move_lanes.ensures.moved k lt;
        kept = λ l never. c.move_lanes.ensures.kept l never;
        bits = λ k lt. from-old g.K.Channel.rules.masked _ _ _ (g.met.K.Channel.masked_is ∙ sym c.MASKED.ensures ∙ w.if-MASKED.false) refl;
        bits_kept = λ l lt never. refl;
        small = λ h. h;
        corrupt = refl;
      })
    ]

pub MASKED-requires : goal.MASKED-requires
MASKED-requires g c κs = λ p. p
