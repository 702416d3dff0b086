-- Legal in, legal out: both links of a bridge obey the protocol's rules, each at its own width (TileLink: burst rules,
-- source and size of responses; the moments at which a source is busy and a request is outstanding: this project's
-- choice).
use Rattle.std.specs.Prelude.{ℕ, [], ◌++◌}
use mathlib.Core.List.{IsPrefix}
use Rattle.tl_sides.specs.Words.{rules_b, rules_c, rules_e, asked, answered, known_items}
use Rattle.tl_convert.specs.Laws.{HasNoFaults}
use Rattle.tl_settle.specs.Obeying.{ObeysRules}
use Rattle.tl_settle.specs.OneOrder.{InOneOrder}
use Rattle.tl_sides.specs.Bridges.{Past}
use Rattle.tl_sides.specs.Sides.{ClientState, ManagerState, ClientPast, ManagerPast, ClientStandsFor, ManagerStandsFor, SidesMeet}

-- the beats that come out of a bridge obey the rules that an offer is held to, on the link where they come out
pub record BothLinksObey {C M : ℕ} (x : Past C M) : Type 0 where
  -- A and D: on the client's link, where responses come out, and on the manager's link, where requests come out
  pub client : ObeysRules x.client
  pub manager : ObeysRules x.manager
  -- both links obey them in one order, in which each beat came out only after the beats that made it due
  pub order : InOneOrder x.client x.manager
  -- B comes out on the client's link, C and E on the manager's: no beat has a fault after the beats before it
  pub b : HasNoFaults rules_b x.b.taken
  pub c : HasNoFaults rules_c x.c.taken
  pub e : HasNoFaults rules_e x.e.taken

-- sides in threads of their own, after a meeting and further calls of each side; by these, they took no more of D and
-- of A than had arrived at that side by the meeting, in its inbox and in its ring
pub record WentOn {A : Type 0} {C M : ℕ} (s s' : ClientState A C M) (t t' : ManagerState A C M) (x x' : ClientPast C M)
    (y y' : ManagerPast C M) : Type 0 where
  pub met : SidesMeet s t x y
  pub client : ClientStandsFor s' x'
  pub manager : ManagerStandsFor t' y'
  pub client_on : IsPrefix x.history x'.history
  pub manager_on : IsPrefix y.history y'.history
  pub d_had_come : IsPrefix (answered x'.history) (answered x.history ++ s.d.inbox ++ known_items s.d)
  pub a_had_come : IsPrefix (asked y'.history) (asked y.history ++ t.a.inbox ++ known_items t.a)

pub record SidesObey (A : Type 0) (C M : ℕ) : Type 0 where
  -- new sides have carried nothing
  pub begins : ObeysRules {w = C} [] × ObeysRules {w = M} []
  -- at every meeting both links have obeyed the rules, whatever each side did since the last meeting
  pub always : (s : ClientState A C M) (t : ManagerState A C M) (x : ClientPast C M) (y : ManagerPast C M) → SidesMeet s t x y →
      ObeysRules x.history × ObeysRules y.history
  -- if both links obeyed the rules at a meeting, they have obeyed them since, and the events of both sides are still in
  -- one order
  pub goes_on : (s s' : ClientState A C M) (t t' : ManagerState A C M) (x x' : ClientPast C M) (y y' : ManagerPast C M) →
      WentOn s s' t t' x x' y y' → ObeysRules x.history × ObeysRules y.history → ObeysRules x'.history × ObeysRules y'.history
  pub order_goes_on : (s s' : ClientState A C M) (t t' : ManagerState A C M) (x x' : ClientPast C M) (y y' : ManagerPast C M) →
      WentOn s s' t t' x x' y y' → InOneOrder x'.history y'.history
  -- for B, C and E a meeting is enough
  pub alone : (s : ClientState A C M) (t : ManagerState A C M) (x : ClientPast C M) (y : ManagerPast C M) → SidesMeet s t x y →
      HasNoFaults rules_b x.b × HasNoFaults rules_c y.c × HasNoFaults rules_e y.e
