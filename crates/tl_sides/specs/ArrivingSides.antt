-- Each beat under way is taken, on every channel of two sides that meet before each pump and each fetch, from every state.
-- Counted in rounds of calls, because the sides have no clock (this project's choice).
use Rattle.std.specs.Prelude.{◌≡◌, ◌≤◌, ◌+◌, ◌++◌, ℕ, suc, List, [], length}
use Rattle.tl_ring.specs.Ends.{Met, received, room, sent}
use Rattle.tl_convert.specs.Due.{due}
use Rattle.tl_sides.specs.Ends.{Pumps, Fetches}
use Rattle.tl_sides.specs.Sides.{ClientState, ManagerState, ClientPast, ManagerPast, ClientStandsFor, ManagerStandsFor, SidesMeet}
use Rattle.tl_sides.specs.Words.{rules_a, rules_b, rules_c, rules_d, rules_e, Sending, Taking, known_free, known_items, asked, answered}

module _ {K A H : Type 0} {v : ℕ} where
  -- the taking end knows all of the ring, and the sending end each free position, as at a meeting
  pub record IsKnown (s : Sending K A H v) (t : Taking K A H v) : Type 0 where
    pub ring : received t ++ known_items t ≡ sent s
    pub free : room s ≤ known_free s + length (known_items t)

  -- one round of both ends of a channel: a pump, a meeting, a fetch, a take of everything in the inbox, and a meeting
  pub record EndsRound (s : Sending K A H v) (t : Taking K A H v) (s' : Sending K A H v) (t' : Taking K A H v) : Type 0 where
    pub pumped : Sending K A H v
    pub pump : Pumps s pumped
    pub met_sending : Sending K A H v
    pub met_taking : Taking K A H v
    pub met : Met pumped t met_sending met_taking
    pub fetched : Taking K A H v
    pub fetch : Fetches met_taking fetched
    pub met_again : Met met_sending (record fetched { inbox = [] }) s' t'

  -- the number of far beats that are on their way to the taker
  abbrev pub under_way : Sending K A H v → Taking K A H v → ℕ
  under_way s t = length t.inbox + (length (known_items t) + length s.stage)

module _ {A : Type 0} {C M : ℕ} where
  pub record KnownSides (s : ClientState A C M) (t : ManagerState A C M) : Type 0 where
    pub a : IsKnown s.a t.a
    pub b : IsKnown t.b s.b
    pub c : IsKnown s.c t.c
    pub d : IsKnown t.d s.d
    pub e : IsKnown s.e t.e

  pub record SidesRound (s : ClientState A C M) (t : ManagerState A C M) (s' : ClientState A C M) (t' : ManagerState A C M) : Type 0 where
    pub a : EndsRound s.a t.a s'.a t'.a
    pub b : EndsRound t.b s.b t'.b s'.b
    pub c : EndsRound s.c t.c s'.c t'.c
    pub d : EndsRound t.d s.d t'.d s'.d
    pub e : EndsRound s.e t.e s'.e t'.e

  -- n rounds; no beat is offered in between
  pub data SidesAfter : (n : ℕ) → (s : ClientState A C M) (t : ManagerState A C M) (s' : ClientState A C M) (t' : ManagerState A C M) → Type 0 where
    none_yet : (s : ClientState A C M) (t : ManagerState A C M) → SidesAfter 0 s t s t
    one_more : (n : ℕ) (s s1 s2 : ClientState A C M) (t t1 t2 : ManagerState A C M) → SidesRound s t s1 t1 → SidesAfter n s1 t1 s2 t2 →
        SidesAfter (suc n) s t s2 t2

  -- on each channel no more than this number of beats are under way
  pub record SidesHaveUnderWay (s : ClientState A C M) (t : ManagerState A C M) (n : ℕ) : Type 0 where
    pub a : under_way s.a t.a ≤ n
    pub b : under_way t.b s.b ≤ n
    pub c : under_way s.c t.c ≤ n
    pub d : under_way t.d s.d ≤ n
    pub e : under_way s.e t.e ≤ n

module _ {C M : ℕ} where
  -- on each channel all beats that the accepted ones made due were taken, in order
  pub record AllDueCame (x : ClientPast C M) (y : ManagerPast C M) : Type 0 where
    pub a : asked y.history ≡ due rules_a C M x.a.accepted x.a.homes
    pub b : x.b ≡ due rules_b M C y.b.accepted y.b.homes
    pub c : y.c ≡ due rules_c C M x.c.accepted x.c.homes
    pub d : answered x.history ≡ due rules_d M C y.d.accepted y.d.homes
    pub e : y.e ≡ due rules_e C M x.e.accepted x.e.homes

-- from every state that a meeting leaves, after as many rounds as beats are under way on any one channel
abbrev pub AllBeatsCome : (A : Type 0) (C M : ℕ) → Type 0
AllBeatsCome A C M = (n : ℕ) (s s' : ClientState A C M) (t t' : ManagerState A C M) (x x' : ClientPast C M) (y y' : ManagerPast C M) →
    ClientStandsFor s x → ManagerStandsFor t y → KnownSides s t → SidesHaveUnderWay s t n → SidesAfter n s t s' t' → SidesMeet s' t' x' y' →
    AllDueCame x' y'
