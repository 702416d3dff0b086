use Rattle.tl_c.proofs.client_handle.ClientHandle.take.Goals as goal

pub invariant_of-empty : goal.invariant_of-empty
invariant_of-empty c = record { tied = (λ e. let unset = c.unset.ensures in cc, λ ne. absurd (ne c.nothing.ensures)) }
