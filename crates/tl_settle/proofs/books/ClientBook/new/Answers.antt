use Rattle.tl_settle.proofs.Entries.{new_busy}
use Rattle.tl_settle.proofs.books.ClientBook.new.Goals as goal

pub returns : goal.returns
returns g c = record { sources = new_busy _ c.in_ok-sources.ensures; lacking = c.new-2.ensures }
