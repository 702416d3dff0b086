use Rattle.std.proofs.Common.{◌∷◌, [], take, sym, subst, arith}
use Rattle.std.proofs.lemmas.List.{take_all}
use Rattle.tl_sides.proofs.Draining.{next-taken}
use Rattle.tl_sides.proofs.noting.note_all.Goals as goal

pub loop-beat-init : goal.loop-beat-init
loop-beat-init g c = g.met.N.Notes.notes_none c.args.book.now

pub note-requires : goal.note-requires
note-requires g c =
    subst (λ b. g.N.Notes.CanNote b) (sym c.beat-item.is) (c.requires.can c.loop-beat.beat-index c.beat-item.result c.loop-beat-test.true)

pub loop-beat-preserved : goal.loop-beat-preserved
loop-beat-preserved g c =
    subst (λ q. g.N.Notes.Becomes c.args.book.now q c.note.new.self)
    (sym (next-taken c.args.beats.now c.loop-beat.beat-index c.beat-item.result c.loop-beat-test.true c.beat-item.is))
    (g.met.N.Notes.notes_then c.args.book.now c.loop-beat.book c.note.new.self (take c.loop-beat.beat-index c.args.beats.now)
    (c.beat-item.result ∷ []) c.loop-beat.invariant c.note.ensures)

pub returns : goal.returns
returns g c =
    subst (λ q. g.N.Notes.Becomes c.args.book.now q c.loop-beat.book)
    (take_all c.loop-beat.beat-index c.args.beats.now (omega (arith, c.loop-beat-test.false))) c.loop-beat.invariant
