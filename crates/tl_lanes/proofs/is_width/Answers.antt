-- A width is a number up to the widest that has one bit.
use Rattle.std.proofs.Common.{sym, ◌∙◌}
use Rattle.tl_lanes.proofs.Widths.{width-one_bit, width_sure}
use Rattle.tl_lanes.proofs.is_width.Goals as goal

pub returns-then-w-le-WIDEST : goal.returns-then-w-le-WIDEST
returns-then-w-le-WIDEST c = (
  λ one. width_sure c.args.w c.if-w-le-WIDEST.true (sym c.is_power_of_two.ensures ∙ one),
  λ h. c.is_power_of_two.ensures ∙ width-one_bit c.args.w h,
)
