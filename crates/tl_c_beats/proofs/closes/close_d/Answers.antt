use Rattle.tl_c_beats.proofs.closes.close_d.Goals as goal

-- the side fits memory
pub close_d-closed-requires : goal.close_d-closed-requires
close_d-closed-requires g c = c.requires-raw.1.1.1

pub returns : goal.returns
returns g c = record { answer = c.close_d-closed.result; numbered = c.close_number.ensures; closes = c.close_d-closed.ensures }
