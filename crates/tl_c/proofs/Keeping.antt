-- The parts of a handle that a call keeps.
use Rattle.std.specs.Prelude.{ℕ, Option, None, Some, Result, Ok, Err, OnOk, OnErr}
use Rattle.std.proofs.Common.{◌≡◌, sym, ap, ◌∙◌, subst, rules}
use Rattle.tl_sides.specs.Calls.{SendingChannel}
use Rattle.tl_sides.specs.Ports.{sends_a, sends_b, sends_c, sends_d, sends_e}
use Rattle.tl_sides.specs.Sides.{ClientState, ManagerState, SameClient, SameManager, client_side, manager_side}
use Rattle.tl_c_beats.specs.Calls.{ClosesNumbered}
use Rattle.tl_c.specs.Calls.{Keeps}

-- v is held, and h is v
pub held_at : {S : Type 0} {held : Option S} {h v : S} → held ≡ Some v → h ≡ v → held ≡ Some h
held_at was at = was ∙ ap (λ s. Some s) (sym at)

module _ {S : Type 0} (Same : S → S → Type 0) {before now : Option S} {N : Type 0} {l n : N} where
  -- nothing is held
  pub kept_none : before ≡ None → now ≡ None → n ≡ l → Keeps Same before now × (n ≡ l)
  kept_none was is number = (subst (λ s. Keeps Same s now) (sym was) is, number)

  -- h is held before the call, and k after it
  pub kept : {h k : S} {m : N} → before ≡ Some h → now ≡ Some k → Same h k → m ≡ l → n ≡ m → Keeps Same before now × (n ≡ l)
  kept {h = h} was is same taken put =
      (subst (λ s. Keeps Same s now) (sym was) (subst (λ s. Keeps Same (Some h) s) (sym is) same), put ∙ taken)

by_answer : {E Q Q' X : Type 0} (answer : Result (Unit {0}) E) → OnOk answer Q → OnErr answer Q' → (Q → X) → (Q' → X) → X
by_answer (Ok done) q r f g = f q
by_answer (Err fault) q r f g = g r

-- a close keeps the parts that an offer keeps, if nothing changes and also if the channel is closed
pub close_keeps : {R P H : Type 0} {w v : ℕ} (k : SendingChannel R P H w v) {q q' : R} {number : ℕ} → ClosesNumbered k q number q' → k.Keeps q q'
close_keeps k {q = q} told = by_answer told.answer told.closes.closed told.closes.refused
    (λ e. subst (λ r. k.Keeps q r) (sym e) (k.keeps_closed q)) (λ e. subst (λ r. k.Keeps q r) (sym e) (k.keeps_same q))

-- whatever a call changes in a side, its ends of the rings stay the same
module _ {A : Type 0} {C M : ℕ} where
  pub client_same : (s : ClientState A C M) → SameClient s s
  client_same s = search rules

  pub same_side_a : {s s' : ClientState A C M} → (sends_a (client_side {A = A} {C = C} {M = M})).Keeps s s' → SameClient s s'
  same_side_a rest = search rules

  pub same_side_c : {s s' : ClientState A C M} → (sends_c (client_side {A = A} {C = C} {M = M})).Keeps s s' → SameClient s s'
  same_side_c rest = search rules

  pub same_side_e : {s s' : ClientState A C M} → (sends_e (client_side {A = A} {C = C} {M = M})).Keeps s s' → SameClient s s'
  same_side_e rest = search rules

  pub manager_same : (t : ManagerState A C M) → SameManager t t
  manager_same t = search rules

  pub same_side_b : {t t' : ManagerState A C M} → (sends_b (manager_side {A = A} {C = C} {M = M})).Keeps t t' → SameManager t t'
  same_side_b rest = search rules

  pub same_side_d : {t t' : ManagerState A C M} → (sends_d (manager_side {A = A} {C = C} {M = M})).Keeps t t' → SameManager t t'
  same_side_d rest = search rules
