use Rattle.tl_c_beats.proofs.closes.close_a.Goals as goal

-- the side fits memory
pub close_a-closed-requires : goal.close_a-closed-requires
close_a-closed-requires g c = c.requires-raw.1.1.1

pub returns : goal.returns
returns g c = record { answer = c.close_a-closed.result; numbered = c.close_number.ensures; closes = c.close_a-closed.ensures }
