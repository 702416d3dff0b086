-- The status of a meeting of the sides that two handles hold.
use Rattle.std.specs.Prelude.{Bool, true, false, Option, None, Some, if◌then◌else◌}
use Rattle.std.proofs.Common.{◌≡◌, refl, sym, ap, ap₂, ◌∙◌, subst, arith}
use Rattle.std.specs.Global.{Global}
use Rattle.tl_sides.specs.Legal.{SidesObey}
use Rattle.tl_sides.specs.Sides.{AreSides, SameManager, SidesMeet, ClientState, ManagerState, ClientPast, ManagerPast}
use Rattle.tl_c_beats.specs.Receipts.{same_bridge}
use Rattle.tl_c_beats.specs.declared.bridge_id.BridgeId.{BridgeId}
use Rattle.tl_c_beats.specs.declared.answers.TheConstants.{NOT_OPEN, BRIDGE_MISMATCH}
use Rattle.tl_c.specs.declared.held.ClientHeld.{ClientHeld}
use Rattle.tl_c.specs.declared.held.ManagerHeld.{ManagerHeld}
use Rattle.tl_c.specs.declared.widths.TheConstants.{CLIENT, MANAGER}
use Rattle.tl_c.specs.Calls.{Keeps, MayMeet, MeetLegally, ClientStays, ManagerStays}
use Rattle.tl_c.specs.Settling.{answer_of_two}
use Rattle.tl_c.proofs.Keeping.{manager_same}

pub not_open : {X : Type 0} → NOT_OPEN ≡ 0 → X
not_open e = absurd (omega (arith, e))

pub bridge_mismatch : {X : Type 0} → BRIDGE_MISMATCH ≡ 0 → X
bridge_mismatch e = absurd (omega (arith, e))

-- nothing is done with the manager's handle
pub untouched : (held : Option ManagerHeld) {N : Type 0} {n : N} → Keeps (λ h k. SameManager h.side k.side) held held × (n ≡ n)
untouched None = (refl, refl)
untouched (Some h) = (manager_same h.side, refl)

-- a side that stays as it is moves no beat
pub client_stays : (s : ClientState Global CLIENT MANAGER) → ClientStays s s
client_stays s = record { a = (refl, refl, refl); b = (refl, refl); c = (refl, refl, refl); d = (refl, refl); e = (refl, refl, refl); book = refl }

pub manager_stays : (t : ManagerState Global CLIENT MANAGER) → ManagerStays t t
manager_stays t = record { a = (refl, refl); b = (refl, refl, refl); c = (refl, refl); d = (refl, refl, refl); e = (refl, refl); book = refl }

pub unmoved : (held : Option ManagerHeld) {N : Type 0} {n : N} →
    Keeps (λ h k. SameManager h.side k.side × ManagerStays h.side k.side) held held × (n ≡ n)
unmoved None = (refl, refl)
unmoved (Some h) = ((manager_same h.side, manager_stays h.side), refl)

module _ {S T : Type 0} where
  -- a property of the values that both handles hold
  pub for_both : (Q : Option S → Option T → Type 0) {s : Option S} {t : Option T} {h : S} {k : T} → s ≡ Some h → t ≡ Some k → Q (Some h) (Some k) →
      Q s t
  for_both Q {s = s} {k = k} first second q = subst (λ t. Q s t) (sym second) (subst (λ s. Q s (Some k)) (sym first) q)

  pub answer_no_client : {s : Option S} (t : Option T) (same : Bool) → s ≡ None → NOT_OPEN ≡ answer_of_two s t same
  answer_no_client t same e = subst (λ s. NOT_OPEN ≡ answer_of_two s t same) (sym e) refl

  pub answer_no_manager : (s : Option S) {t : Option T} (same : Bool) → t ≡ None → NOT_OPEN ≡ answer_of_two s t same
  answer_no_manager None same e = refl
  answer_no_manager (Some h) same e = subst (λ t. NOT_OPEN ≡ answer_of_two (Some h) t same) (sym e) refl

  -- by the numbers of the two handles, which a take keeps
  module _ {s : Option S} {t : Option T} {h : S} {k : T} {m n m' n' : BridgeId} (first : s ≡ Some h) (second : t ≡ Some k) (e : m' ≡ m) (f : n' ≡ n)
      {same : Bool} (is : same ≡ same_bridge m' n') where
    answer_by : (same' : Bool) → same ≡ same' → answer_of_two (Some h) (Some k) same' ≡ answer_of_two s t (same_bridge m n)
    answer_by same' tested = for_both (λ s t. answer_of_two (Some h) (Some k) same' ≡ answer_of_two s t (same_bridge m n)) first second
        (ap (λ b. if b then 0 else BRIDGE_MISMATCH) (sym tested ∙ is ∙ ap₂ same_bridge e f))

    pub answer_others : same ≡ false → BRIDGE_MISMATCH ≡ answer_of_two s t (same_bridge m n)
    answer_others = answer_by false

    pub answer_met : same ≡ true → 0 ≡ answer_of_two s t (same_bridge m n)
    answer_met = answer_by true

pub sides_held : {s : Option ClientHeld} {t : Option ManagerHeld} {h : ClientHeld} {k : ManagerHeld} → s ≡ Some h → t ≡ Some k → MayMeet s t →
    AreSides h.side k.side
sides_held {t = t} {h = h} first second sides =
    subst (λ t. MayMeet (Some h) t) second (subst (λ s. MayMeet s t) first sides)

-- both links obey the rules where two sides have met
pub meet_legally : SidesObey Global CLIENT MANAGER → {s : ClientState Global CLIENT MANAGER} {t : ManagerState Global CLIENT MANAGER}
    {x : ClientPast CLIENT MANAGER} {y : ManagerPast CLIENT MANAGER} → SidesMeet s t x y → MeetLegally s t x y
meet_legally obey {s} {t} {x} {y} meets =
    let fine = obey.alone s t x y meets in
    record {
      meets = meets;
      b = fine.0;
      c = fine.1;
      e = fine.2;
      obeys = obey.always s t x y meets;
      begins = obey.begins;
      goes_on = λ obeyed s' t' x' y' on. obey.goes_on s s' t t' x x' y y' on obeyed;
    }
