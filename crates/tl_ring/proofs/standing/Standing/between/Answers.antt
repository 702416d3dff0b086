use Rattle.std.proofs.Common.{refl}
use Rattle.tl_ring.proofs.standing.Standing.between.Goals as goal

pub returns-clause-staged : goal.returns-clause-staged
returns-clause-staged g c = c.staged.ensures.count

pub returns-clause-in_ring : goal.returns-clause-in_ring
returns-clause-in_ring g c = refl

pub returns-clause-inbox : goal.returns-clause-inbox
returns-clause-inbox g c = c.len.ensures.count

pub returns-clause-most : goal.returns-clause-most
returns-clause-most g c = (c.staged.ensures.most, c.len.ensures.most)

-- the outbox and the inbox fit in memory, as the caller's do
pub staged-requires : goal.staged-requires
staged-requires g c = c.requires-raw.1.1.1.1.0
