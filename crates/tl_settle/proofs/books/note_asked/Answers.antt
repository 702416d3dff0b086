use Rattle.tl_settle.proofs.Entries.{begins_busy}
use Rattle.tl_settle.proofs.books.note_asked.Goals as goal

pub returns-then-first : goal.returns-then-first
returns-then-first g c = λ ms h. rw c.if-first.true (begins_busy _ _ ms c.args.head.now h c.begin.ensures)
