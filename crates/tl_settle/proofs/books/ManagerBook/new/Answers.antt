use Rattle.tl_settle.proofs.Entries.{new_open}
use Rattle.tl_settle.proofs.books.ManagerBook.new.Goals as goal

pub returns : goal.returns
returns g c = record { requests = new_open _ c.in_ok-requests.ensures; lacking = c.new-2.ensures }
