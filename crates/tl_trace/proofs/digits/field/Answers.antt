use Rattle.tl_trace.proofs.ReadDigits.{spelt_after}
use Rattle.tl_trace.proofs.digits.field.Goals as goal

pub returns : goal.returns
returns c =
    spelt_after c.args.text.now c.args.at c.args.count c.number_of_digits-number.result.value c.space.result c.number_of_digits-number.result.bad
    c.requires.room c.space.ensures c.number_of_digits-number.ensures
