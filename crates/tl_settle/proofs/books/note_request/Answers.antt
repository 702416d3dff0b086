use Rattle.tl_settle.proofs.Entries.{begins_open}
use Rattle.tl_settle.proofs.books.note_request.Goals as goal

pub returns-then-first : goal.returns-then-first
returns-then-first g c = λ ms h. rw c.if-first.true (begins_open _ _ ms c.args.head.now h c.begin.ensures)
