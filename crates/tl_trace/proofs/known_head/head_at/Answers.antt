use Rattle.tl_trace.proofs.Names.{arith}
use Rattle.tl_trace.proofs.KnownHeads.{known_of, same_head, read_head}
use Rattle.tl_trace.proofs.known_head.head_at.Goals as goal

pub repeats_at-requires : goal.repeats_at-requires
repeats_at-requires g c =
    let known =
    known_of (g.K.HeadText.form g.row.VERSION) g.row.VERSION c.args.text.now c.args.last.now c.in-Some.before c.in-Some.is c.requires.known in
    (omega (arith, c.requires.room), omega (arith, known.within, c.head_end-len.ensures.end))

pub returns-then-repeats_at : goal.returns-then-repeats_at
returns-then-repeats_at g c =
    let f = g.K.HeadText.form g.row.VERSION in
    let known = known_of f g.row.VERSION c.args.text.now c.args.last.now c.in-Some.before c.in-Some.is c.requires.known in
    record {
      head = same_head f g.row.VERSION c.args.text.now c.args.at c.head_end-len.result c.in-Some.before c.head_end-len.ensures.end
          (c.repeats_at.ensures c.if-repeats_at.true).same known;
      known = known;
    }

pub slice_bounds-new_head-end : goal.slice_bounds-new_head-end
slice_bounds-new_head-end g c = omega (arith, c.requires.room, c.head_end-len.ensures.end)

pub returns : goal.returns
returns g c =
    let has =
    read_head (g.K.HeadText.form g.row.VERSION) g.row.VERSION c.args.text.now c.args.at c.head_end-len.result _ c.in-Some-new_head.head
    c.head_end-len.ensures.end c.in-Some-new_head.is c.new_head.ensures in
    record { head = has; known = record { within = c.requires.room; has = has } }
