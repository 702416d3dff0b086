use Rattle.tl_c_beats.proofs.closes.close_e.Goals as goal

-- the side fits memory
pub close_e-closed-requires : goal.close_e-closed-requires
close_e-closed-requires g c = c.requires-raw.1.1.1

pub returns : goal.returns
returns g c = record { answer = c.close_e-closed.result; numbered = c.close_number.ensures; closes = c.close_e-closed.ensures }
