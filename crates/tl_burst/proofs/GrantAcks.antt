-- Beats of E, each of which is a message.
use Rattle.tl_burst.proofs.Names.{◌≡◌, ℕ, None, List, [], ◌∷◌, refl, ap, rules_e, BeatOf, rest_of, burst_of, fault_in, fault_after}
use Rattle.tl_msg.specs.declared.head.HeadE.{HeadE}

never-open : (w : ℕ) (bs : List (BeatOf HeadE w)) → rest_of rules_e w bs ≡ []
never-open w [] = refl
never-open w (b ∷ bs) = never-open w bs

pub never-refused : (w : ℕ) (bs : List (BeatOf HeadE w)) (b : BeatOf HeadE w) → fault_after rules_e bs b ≡ None
never-refused w bs b = ap (λ rest. fault_in rules_e (burst_of rules_e rest) b) (never-open w bs)
