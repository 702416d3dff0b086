use Rattle.tl_c_beats.proofs.closes.close_b.Goals as goal

-- the side fits memory
pub close_b-closed-requires : goal.close_b-closed-requires
close_b-closed-requires g c = c.requires-raw.1.1.1

pub returns : goal.returns
returns g c = record { answer = c.close_b-closed.result; numbered = c.close_number.ensures; closes = c.close_b-closed.ensures }
