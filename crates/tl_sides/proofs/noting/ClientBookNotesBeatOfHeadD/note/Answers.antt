use Rattle.std.proofs.Common.{refl}
use Rattle.tl_sides.proofs.noting.ClientBookNotesBeatOfHeadD.note.Goals as goal

pub record_response-requires : goal.record_response-requires
record_response-requires g c = (c.requires-raw.1.1.0, c.requires)

pub returns : goal.returns
returns g c = λ es h. c.record_response.ensures es c.args.beat.now h refl
