use Rattle.std.proofs.Common.{ap₂}
use Rattle.tl_burst.proofs.Names.{◌≡◌, ◌==◌, ◌||◌, not, ap, Bool, true, false, sym, ◌∙◌, unless, ◌or_else◌, Mask, Corrupt}
use Rattle.tl_burst.proofs.Names.{first_some, second_answers}
use Rattle.tl_msg.specs.Faults as faults
use Rattle.tl_burst.proofs.Holding.{test-held, is_unless}
use Rattle.tl_burst.proofs.faults.opening_fault.Goals as goal

pub returns-in-Some : goal.returns-in-Some
returns-in-Some g c =
    sym (first_some (g.K.Channel.rules.fault c.args.beat.now.head)
    (unless (faults.mask_fits g.K.Channel.rules c.args.beat.now) Mask or_else unless (faults.is_clean g.K.Channel.rules c.args.beat.now) Corrupt)
    c.in-Some.fault (sym c.fault.ensures ∙ c.in-Some.is))

-- the corrupt test of the code is that of the rules
clean-is : (is_e carries corrupt corrupts : Bool) → corrupts ≡ not is_e →
    ((is_e || carries) || not corrupt) ≡ (not corrupts || (carries || not corrupt))
clean-is true carries corrupt corrupts e = rw e
clean-is false carries corrupt corrupts e = rw e

pub returns : goal.returns
returns g c =
    let fits : c.mask_fits-fits.result ≡ faults.mask_fits g.K.Channel.rules c.args.beat.now =
    test-held g.K.Channel.rules g.row.W c.args.beat.now c.held_by.result c.MASKED.result c.mask_fits-fits.result
    (c.MASKED.ensures ∙ sym g.met.K.Channel.masked_is) c.mask_fits-fits.ensures c.held_by.ensures in
    let clean : ((c.LETTER.result == 69 || c.carries_data.result) || not c.args.beat.now.corrupt) ≡
    faults.is_clean g.K.Channel.rules c.args.beat.now =
    clean-is (c.LETTER.result == 69) c.carries_data.result c.args.beat.now.corrupt g.K.Channel.rules.corrupts
    (g.met.K.Channel.corrupts_is ∙ ap (λ n. not (n == 69)) (sym c.LETTER.ensures)) ∙
    ap (λ x. not g.K.Channel.rules.corrupts || (x || not c.args.beat.now.corrupt)) c.carries_data.ensures in
    let mask : c.then_some.result ≡ unless (faults.mask_fits g.K.Channel.rules c.args.beat.now) Mask =
    c.then_some.ensures ∙ is_unless c.mask_fits-fits.result Mask ∙ ap (λ x. unless x Mask) fits in
    let corrupt : c.then_some-corrupt.result ≡ unless (faults.is_clean g.K.Channel.rules c.args.beat.now) Corrupt =
    c.then_some-corrupt.ensures ∙
    is_unless ((c.LETTER.result == 69 || c.carries_data.result) || not c.args.beat.now.corrupt) Corrupt ∙ ap (λ x. unless x Corrupt) clean in
    c.or.ensures ∙ ap₂ (λ f h. f or_else h) mask corrupt ∙
    sym (second_answers (g.K.Channel.rules.fault c.args.beat.now.head)
    (unless (faults.mask_fits g.K.Channel.rules c.args.beat.now) Mask or_else unless (faults.is_clean g.K.Channel.rules c.args.beat.now) Corrupt)
    (sym c.fault.ensures ∙ c.in_default.is))
