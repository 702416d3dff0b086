use Rattle.std.proofs.Common.{refl}
use Rattle.tl_sides.proofs.noting.ManagerBookNotesBeatOfHeadA.note.Goals as goal

pub record_request-requires : goal.record_request-requires
record_request-requires g c = (c.requires-raw.1.1.0, c.requires)

pub returns : goal.returns
returns g c = λ es h. c.record_request.ensures es c.args.beat.now h refl
