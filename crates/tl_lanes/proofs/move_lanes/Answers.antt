-- A run that goes round neither bus is copied as one slice.
use Rattle.std.proofs.Common.{◌≡◌, ◌≤◌, ◌<◌, ◌+◌, ◌⊎◌, ℕ, get_or, subst, arith}
use Rattle.tl_lanes.proofs.LaneRuns.{run-moved, lane-outside}
use Rattle.tl_lanes.proofs.move_lanes.Goals as goal

pub returns-then-count-most-clause-moved : goal.returns-then-count-most-clause-moved
returns-then-count-most-clause-moved g c =
    let all : c.args.count ≡ c.min-most.result = c.if-count-most.true in
    run-moved (λ l. get_or c.move_run.new.to l 0) (λ l. get_or c.args.from.now l 0) c.args.at g.row.W g.row.V c.args.count
    c.lane-near.result c.lane-far.result c.requires.near c.requires.far c.lane-near.ensures c.lane-far.ensures
    c.if-near-count.true c.if-far-count.true (λ k lt. c.move_run.ensures.moved k (omega (arith, lt, all)))

pub returns-then-count-most-clause-kept : goal.returns-then-count-most-clause-kept
returns-then-count-most-clause-kept g c l none =
    let all : c.args.count ≡ c.min-most.result = c.if-count-most.true in
    let P : ℕ → Type 0 = λ n. (l < c.lane-far.result) ⊎ (c.lane-far.result + n ≤ l) in
    c.move_run.ensures.kept l (subst P all
    (lane-outside c.args.at g.row.V c.args.count c.lane-far.result l c.requires.far c.lane-far.ensures c.if-far-count.true none))

pub returns-else-count-most-clause-moved : goal.returns-else-count-most-clause-moved
returns-else-count-most-clause-moved g c =
    run-moved (λ l. get_or c.move_run-else-count-most.new.to l 0) (λ l. get_or c.args.from.now l 0) c.args.at g.row.W g.row.V c.args.count
    c.lane-near.result c.lane-far.result c.requires.near c.requires.far c.lane-near.ensures c.lane-far.ensures
    c.if-near-count.true c.if-far-count.true c.move_run-else-count-most.ensures.moved

pub returns-else-count-most-clause-kept : goal.returns-else-count-most-clause-kept
returns-else-count-most-clause-kept g c l none =
    c.move_run-else-count-most.ensures.kept l
    (lane-outside c.args.at g.row.V c.args.count c.lane-far.result l c.requires.far c.lane-far.ensures c.if-far-count.true none)
