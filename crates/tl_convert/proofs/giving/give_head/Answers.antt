use Rattle.tl_convert.proofs.Names.{◌≡◌, true, false, [], ◌∷◌, ◌++◌, length, sym, ap, subst, ◌∙◌, arith, active_mask, BeatOf, layout, of_head}
use Rattle.tl_convert.proofs.SingleBeat.{single-is}
use Rattle.tl_convert.proofs.PourStep.{same-small}
use Rattle.tl_convert.proofs.giving.give_head.Goals.{then-MASKED, else-MASKED}
use Rattle.tl_convert.proofs.giving.give_head.Goals as goal

not-both : {b : _} → b ≡ false → b ≡ true → ⊥
not-both e f = cc

pub returns : goal.returns
returns g c = λ no_data.
    let P : BeatOf g.row.K-Head.Denot g.row.V → Type 0 = λ b. b ∷ [] ≡ layout g.K.Channel.rules (of_head c.args.head c.args.home) g.row.V in
    let blank = c.blank-beat.ensures in
    let items : c.push.new.self.items ≡ c.if-MASKED.beat ∷ [] = c.push.ensures.items ∙ ap (λ xs. xs ++ c.if-MASKED.beat ∷ []) c.requires.2 in
    items ∙ elim c.if-MASKED.branch [
      | then-MASKED w ↦ subst P (sym w.beat-is)
          (single-is g.K.Channel.rules c.args.head g.row.V c.args.home c.requires.0 no_data _ blank.head_is blank.lanes blank.size blank.corrupt
          (λ t. w.active.ensures ∙ ap (λ z. active_mask c.args.home z g.row.V) w.size.ensures)
          (λ f. absurd (not-both f (g.met.K.Channel.masked_is ∙ sym c.MASKED.ensures ∙ w.if-MASKED.true))))
      | else-MASKED w ↦ subst P (sym w.beat-is)
          (single-is g.K.Channel.rules c.args.head g.row.V c.args.home c.requires.0 no_data _ blank.head_is blank.lanes blank.size blank.corrupt
          (λ t. absurd (not-both (g.met.K.Channel.masked_is ∙ sym c.MASKED.ensures ∙ w.if-MASKED.false) t)) (λ f. blank.mask))
    ]

pub active-requires-clause-small : goal.active-requires-clause-small
active-requires-clause-small g c = same-small c.size.result (g.K.Channel.rules.size c.args.head) c.size.ensures c.requires.1

pub push-requires : goal.push-requires
push-requires g c = (c.requires-raw.1.1.1.0, omega (arith, ap length c.requires.2))
