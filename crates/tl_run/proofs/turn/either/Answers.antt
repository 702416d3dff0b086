use Rattle.tl_run.proofs.Names.{◌≡◌, ◌↔◌, ◌⊎◌, ◌||◌, Bool, true, false, inl, inr, refl, ⊎_elim}
use Rattle.tl_run.proofs.turn.either.Goals as goal

or-is : (x y : Bool) → ((x || y) ≡ true) ↔ ((x ≡ true) ⊎ (y ≡ true))
or-is true y = (λ e. inl refl, λ s. refl)
or-is false y = (λ e. inr e, λ s. ⊎_elim (λ e. cc) (λ e. e) s)

pub returns : goal.returns
returns g = or-is g.args.one g.args.other
