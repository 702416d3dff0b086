use Rattle.tl_c_beats.proofs.closes.close_c.Goals as goal

-- the side fits memory
pub close_c-closed-requires : goal.close_c-closed-requires
close_c-closed-requires g c = c.requires-raw.1.1.1

pub returns : goal.returns
returns g c = record { answer = c.close_c-closed.result; numbered = c.close_number.ensures; closes = c.close_c-closed.ensures }
