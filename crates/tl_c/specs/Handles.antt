-- The memory that a handle owns: a boxed side, or nothing.
use Rattle.std.specs.Prelude.{Option}
use base.Fml.{Fml}
use base.Stored.{Coded}
use denote.RawPtr.{Ptr}
use Rattle.std.specs.Coded.{coded_option}
use Rattle.std.specs.Global.{Global}
use Rattle.tl_c_beats.specs.Owners.{holds}
use Rattle.tl_c.specs.contracts.held.ClientHeld as client
use Rattle.tl_c.specs.contracts.held.ManagerHeld as manager

abbrev pub holds_client : Global → Ptr → Option client.the_row.Denot → Fml
holds_client = holds client.the_row

abbrev pub client_coded : Coded (Option client.the_row.Denot)
client_coded = coded_option client.the_row.coded

abbrev pub holds_manager : Global → Ptr → Option manager.the_row.Denot → Fml
holds_manager = holds manager.the_row

abbrev pub manager_coded : Coded (Option manager.the_row.Denot)
manager_coded = coded_option manager.the_row.coded
