use Rattle.std.proofs.Common.{◌≤◌, ◌∙◌, sym, subst}
use denote.Param.{layout, param, number, copied}
use Rattle.tl_ring.proofs.Names.{the_row}
use Rattle.tl_ring.proofs.FieldSizes.{part_small}
use Rattle.tl_ring.specs.declared.pipe.TheConstants.{MAX_RING}
use Rattle.tl_ring.proofs.pipe.SyncPipe.standing.Goals as goal

pub len-requires : goal.len-requires
len-requires g c = part_small (layout (the_row (param 0 g.row.K) (param 1 (number g.row.W)) (param 2 (number g.row.V)) (param 3 g.row.A)
    (copied 4 g.row.K-Head) g.K.Channel g.K.Head.PartialEq g.K.Head.Default g.A.Allocator)) 1 9223372036854775808 c.requires-raw.1.1.1.1.1

pub between-requires : goal.between-requires
between-requires g c = (
  part_small (layout (the_row (param 0 g.row.K) (param 1 (number g.row.W)) (param 2 (number g.row.V)) (param 3 g.row.A)
      (copied 4 g.row.K-Head) g.K.Channel g.K.Head.PartialEq g.K.Head.Default g.A.Allocator)) 0 9223372036854775808 c.requires-raw.1.1.1.1.1,
  part_small (layout (the_row (param 0 g.row.K) (param 1 (number g.row.W)) (param 2 (number g.row.V)) (param 3 g.row.A)
      (copied 4 g.row.K-Head) g.K.Channel g.K.Head.PartialEq g.K.Head.Default g.A.Allocator)) 2 9223372036854775808 c.requires-raw.1.1.1.1.1,
)

pub returns : goal.returns
returns g c =
    let stand = c.between.ensures in
    rw (← c.self.view_is) (record {
      staged = stand.staged;
      in_ring = stand.in_ring ∙ c.len.ensures.count;
      inbox = stand.inbox;
      most = (stand.most.0, subst (λ n. n ≤ MAX_RING) (sym stand.in_ring) c.len.ensures.most, stand.most.1);
    })
