use Rattle.std.specs.Prelude.{Option, None, Some, IfSome, slice_get, take}
use Rattle.std.proofs.Common.{◌≡◌, ◌∷◌, [], List, sym, subst}
use Rattle.tl_convert.proofs.Extends.{take-next}
use Rattle.tl_sides.specs.Sides.{ManagerStandsFor, manager_takes_a, new_manager}
use Rattle.bridge_tests.proofs.pair.response.takes_request.Goals as goal

-- the first items of a list are its first one, if there is one
first-taken : {X : Type 0} (P : List X → Type 0) (xs : List X) (r : Option X) → r ≡ slice_get xs 0 → P (take 1 xs) → IfSome r (λ b. P (b ∷ []))
first-taken P xs None e p = tt
first-taken P xs (Some b) e p = subst P (take-next xs 0 b (sym e)) p

pub returns-clause-taken : goal.returns-clause-taken
returns-clause-taken c = λ new.
    let took = c.take_a.ensures in
    first-taken (λ bs. ManagerStandsFor c.take_a.new.self (manager_takes_a bs (new_manager 1))) c.fetch.new.self.a.inbox c.take_a.result took.beat
    (took.taken (new_manager 1) (c.fetch.ensures.stands (new_manager 1) new))
