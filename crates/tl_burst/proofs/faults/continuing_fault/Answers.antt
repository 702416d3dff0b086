use Rattle.tl_burst.proofs.Names.{◌≡◌, true, false, sym, ap, subst, ◌∙◌, unless, Mask, HeadChanged, first_some, second_answers}
use Rattle.tl_burst.proofs.Names.{unless_true, unless_false, IsHeld}
use Rattle.tl_msg.specs.Faults as faults
use Rattle.tl_burst.proofs.Holding.{test-held, is_unless}
use Rattle.tl_burst.proofs.faults.continuing_fault.Goals as goal

pub returns-then-not-same : goal.returns-then-not-same
returns-then-not-same g c =
    let not_same : g.K.Channel.rules.same c.args.beat.now.head c.args.head.now ≡ false =
    g.met.K.Channel.same_is c.args.beat.now.head c.args.head.now ∙ sym c.eq-same.ensures ∙ c.if-not-same.true in
    sym (first_some (unless (g.K.Channel.rules.same c.args.beat.now.head c.args.head.now) HeadChanged)
    (unless (faults.mask_fits g.K.Channel.rules c.args.beat.now) Mask) HeadChanged
    (unless_false (g.K.Channel.rules.same c.args.beat.now.head c.args.head.now) HeadChanged not_same))

pub returns : goal.returns
returns g c =
    let same : g.K.Channel.rules.same c.args.beat.now.head c.args.head.now ≡ true =
    g.met.K.Channel.same_is c.args.beat.now.head c.args.head.now ∙ sym c.eq-same.ensures ∙ c.if-not-same.false in
    let head : c.args.head.now ≡ c.args.beat.now.head =
    sym ((g.met.K.Channel.same_heads c.args.beat.now.head c.args.head.now).0 (sym c.eq-same.ensures ∙ c.if-not-same.false)) in
    let test : c.mask_fits-fits.result ≡ faults.mask_fits g.K.Channel.rules c.args.beat.now =
    test-held g.K.Channel.rules g.row.W c.args.beat.now c.args.held.now c.MASKED.result c.mask_fits-fits.result
    (c.MASKED.ensures ∙ sym g.met.K.Channel.masked_is) c.mask_fits-fits.ensures
    (subst (λ h. IsHeld g.K.Channel.rules g.row.W h c.args.held.now) head c.requires) in
    let mask : c.then_some.result ≡ unless (faults.mask_fits g.K.Channel.rules c.args.beat.now) Mask =
    c.then_some.ensures ∙ is_unless c.mask_fits-fits.result Mask ∙ ap (λ x. unless x Mask) test in
    mask ∙ sym (second_answers (unless (g.K.Channel.rules.same c.args.beat.now.head c.args.head.now) HeadChanged)
    (unless (faults.mask_fits g.K.Channel.rules c.args.beat.now) Mask)
    (unless_true (g.K.Channel.rules.same c.args.beat.now.head c.args.head.now) HeadChanged same))
