-- The contents of the entry of a source in a table of requests.
use Rattle.std.specs.Prelude.{Option, None, Some, if◌then◌else◌}
use Rattle.tl_settle.specs.declared.tables.Entry.{Entry}
use Rattle.tl_settle.specs.declared.tables.Request.{Request}

abbrev pub request_in : Entry → Option Request
request_in e = if e.open then Some (record { size = e.size; address = e.address }) else None
