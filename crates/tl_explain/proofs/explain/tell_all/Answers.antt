use Rattle.tl_ring.proofs.FieldSizes.{beat_small}
use Rattle.std.proofs.lemmas.Result.{on_ok_weaker}
use Rattle.tl_explain.proofs.Writing.{begins, goes_on}
use Rattle.tl_explain.proofs.explain.tell_all.Goals as goal

pub new-far_a-requires-room-T-Default : goal.new-far_a-requires-room-T-Default
new-far_a-requires-room-T-Default g c κs = beat_small g.row.M c.requires.1

pub new-far_b-requires-room-T-Default : goal.new-far_b-requires-room-T-Default
new-far_b-requires-room-T-Default g c κs = beat_small g.row.C c.requires.0

pub new-far_c-requires-room-T-Default : goal.new-far_c-requires-room-T-Default
new-far_c-requires-room-T-Default g c κs = beat_small g.row.M c.requires.1

pub new-far_d-requires-room-T-Default : goal.new-far_d-requires-room-T-Default
new-far_d-requires-room-T-Default g c κs = beat_small g.row.C c.requires.0

pub loop-at-init : goal.loop-at-init
loop-at-init g c = begins c.args.is_page _

pub loop-at-preserved : goal.loop-at-preserved
loop-at-preserved g c = goes_on c.args.is_page _ _ _ c.loop-at.invariant c.in_ok-write_block.ensures.out

pub returns-clause-out : goal.returns-clause-out
returns-clause-out g c =
    on_ok_weaker c.write_rest.result (λ more. goes_on c.args.is_page _ _ _ c.loop-at.invariant more) c.write_rest.ensures.out

pub returns-clause-kind : goal.returns-clause-kind
returns-clause-kind g c = c.write_rest.ensures.kind
