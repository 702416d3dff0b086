-- Written out so that an incorrect test is refused at once.
use Rattle.tl_burst.proofs.faults.mask_fits.Goals as goal

pub returns-then-held : goal.returns-then-held
returns-then-held c = rw (c.if-not-masked.false, c.if-held.true)
