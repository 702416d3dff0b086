-- Both sides of one bridge in one thread: the state in which nothing more can move (this project's choice).
use Rattle.std.specs.Prelude.{◌≡◌, ◌≤◌, ◌<◌, ◌+◌, ◌*◌, ℕ, length}
use Rattle.tl_ring.specs.Crossing.{inbox_room}
use Rattle.tl_ring.specs.Ends.{Sending, Taking, room, known_items, passed}
pub use Rattle.tl_sides.specs.ArrivingSides.{IsKnown, KnownSides}
use Rattle.tl_sides.specs.Sides.{ClientState, ManagerState, ClientPast, ManagerPast, SidesMeet}

module _ {C M : ℕ} where
  -- some staged beats of each channel of a side have moved on; the fields have their number
  pub record ClientWent (before after : ClientPast C M) : Type 0 where
    pub a : ℕ
    pub c : ℕ
    pub e : ℕ
    pub went : after ≡ record before { a = passed a before.a; c = passed c before.c; e = passed e before.e }

  pub record ManagerWent (before after : ManagerPast C M) : Type 0 where
    pub b : ℕ
    pub d : ℕ
    pub went : after ≡ record before { b = passed b before.b; d = passed d before.d }

module _ {K A H : Type 0} {v : ℕ} where
  -- nothing more can move on a channel: beats are staged only if its ring is full, and are in its ring only if its
  -- inbox is full
  pub record IsStill (s : Sending K A H v) (t : Taking K A H v) : Type 0 where
    pub staged : 0 < length s.stage → room s ≤ length (known_items t)
    pub in_ring : 0 < length (known_items t) → inbox_room ≤ length t.inbox

  -- the number of moves that the beats of a channel still have to make: two for each staged beat, and one for each beat
  -- in the ring
  abbrev pub moves_left : Sending K A H v → Taking K A H v → ℕ
  moves_left s t = 2 * length s.stage + length (known_items t)

module _ {A : Type 0} {C M : ℕ} where
  -- two sides have met, after some staged beats moved on
  pub record SidesSettle (s : ClientState A C M) (t : ManagerState A C M) (x : ClientPast C M) (y : ManagerPast C M) : Type 0 where
    pub client : ClientPast C M
    pub manager : ManagerPast C M
    pub client_went : ClientWent x client
    pub manager_went : ManagerWent y manager
    pub meets : SidesMeet s t client manager

  pub record StillSides (s : ClientState A C M) (t : ManagerState A C M) : Type 0 where
    pub a : IsStill s.a t.a
    pub b : IsStill t.b s.b
    pub c : IsStill s.c t.c
    pub d : IsStill t.d s.d
    pub e : IsStill s.e t.e

  abbrev pub all_moves_left : ClientState A C M → ManagerState A C M → ℕ
  all_moves_left s t = moves_left s.a t.a + moves_left t.b s.b + moves_left s.c t.c + moves_left t.d s.d + moves_left s.e t.e
