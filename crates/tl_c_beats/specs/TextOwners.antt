-- The memory that the block of an answer owns: a boxed text, or nothing.
use Rattle.std.specs.Prelude.{Option}
use base.Fml.{Fml}
use base.Stored.{Coded}
use denote.RawPtr.{Ptr}
use Rattle.std.specs.Coded.{coded_option}
use Rattle.std.specs.Global.{Global}
use Rattle.tl_c_beats.specs.Owners.{holds}
use Rattle.tl_c_beats.specs.contracts.text_held.TextHeld as text

abbrev pub holds_text : Global → Ptr → Option text.the_row.Denot → Fml
holds_text = holds text.the_row

abbrev pub text_coded : Coded (Option text.the_row.Denot)
text_coded = coded_option text.the_row.coded
