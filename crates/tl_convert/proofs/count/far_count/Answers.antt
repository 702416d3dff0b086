use denote.Memory.{lone}
use denote.Param.{layout}
use Rattle.tl_convert.proofs.Names.{rules}
use Rattle.tl_convert.proofs.Sizes.{tracker-fits}
use Rattle.tl_convert.proofs.count.far_count.Goals as goal

pub new-requires : goal.new-requires
new-requires g c = tracker-fits (lone g.row.K-Head.mir) (layout g.row.K-Head) g.met.K.Channel.head_small

pub returns : goal.returns
returns g c = c.count_until_refused.ensures

pub count_until_refused-requires : goal.count_until_refused-requires
count_until_refused-requires g c = (
  tracker-fits (lone g.row.K-Head.mir) (layout g.row.K-Head) g.met.K.Channel.head_small,
  (search rules, (c.new.ensures, c.requires.near, c.requires.far, c.requires.few)),
)
