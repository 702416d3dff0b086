-- The state of each channel after a round, and after several.
use Rattle.std.proofs.Common.{◌≡◌, ◌+◌, ◌-◌, ℕ, ◌++◌, length, take, drop, min, sym, ap, subst, ◌∙◌, arith, append_assoc, append-nil, length-append}
use Rattle.std.proofs.lemmas.List.{length-drop, length-take, drop-drop}
use Rattle.std.proofs.Math.Seq.{take-add}
use Rattle.tl_ring.specs.Crossing.{World}
use Rattle.tl_ring.specs.Ends.{ArePair, SameSend, SameTake, Sending, Taking, Met, sent, received, room, known_items, passed}
use Rattle.tl_ring.proofs.Same.{same_send_then, same_take_then, still_pair}
use Rattle.tl_sides.specs.Ends.{Pumps, Fetches, pump_count, fetch_count}
use Rattle.tl_sides.specs.Sides.{AreSides, ClientState, ManagerState, ClientPast, ManagerPast, ClientStandsFor, ManagerStandsFor, SameClient, SameManager}
use Rattle.tl_c_beats.specs.Settling.{ClientWent, ManagerWent, IsKnown, KnownSides, IsStill, StillSides, SidesSettle, moves_left, all_moves_left}

module _ {K A H : Type 0} {v : ℕ} where
  -- both ends know all of the ring once they have met
  pub met_known : {s s' : Sending K A H v} {t t' : Taking K A H v} → Met s t s' t' → IsKnown s' t'
  met_known {s} {s'} {t} {t'} m =
      let same_room : room s' ≡ room s = m.send.1 in
      let all_free = m.all_free in
      record { ring = m.ring; free = omega (arith, same_room, all_free) }

  -- The moves of both ends of a channel before they meet. One pumps, and then the other fetches. In between, each may do
  -- something else.
  record Moved (s s1 s2 : Sending K A H v) (t t1 t2 : Taking K A H v) : Type 0 where
    pump : Pumps s s1
    alone : s2 ≡ s1
    beside : t1 ≡ t
    fetch : Fetches t1 t2

  -- they are a pair still
  still_paired : {s s1 s2 : Sending K A H v} {t t1 t2 : Taking K A H v} → ArePair s t → Moved s s1 s2 t t1 t2 → ArePair s2 t2
  still_paired {s} {s1} {s2} {t} {t1} {t2} pair m =
      subst (λ q. ArePair q t2) (sym m.alone)
      (still_pair s s1 t t2 m.pump.pushed.ring (subst (λ q. SameTake q t2) m.beside m.fetch.fetched.ring) pair)

  -- each is the same end still, also once they have met
  same_sender : {s s1 s2 s3 : Sending K A H v} {t t1 t2 t3 : Taking K A H v} → Moved s s1 s2 t t1 t2 → Met s2 t2 s3 t3 → SameSend s s3
  same_sender {s} {s1} {s2} {s3} m met = same_send_then s s2 s3 (subst (λ q. SameSend s q) (sym m.alone) m.pump.pushed.ring) met.send

  same_taker : {s s1 s2 s3 : Sending K A H v} {t t1 t2 t3 : Taking K A H v} → Moved s s1 s2 t t1 t2 → Met s2 t2 s3 t3 → SameTake t t3
  same_taker {t} {t1} {t2} {t3} m met = same_take_then t t2 t3 (subst (λ q. SameTake q t2) m.beside m.fetch.fetched.ring) met.take

  -- a round of one channel: some moves, after which both ends again know everything
  record Turned (s s1 s3 : Sending K A H v) (t t1 t2 t3 : Taking K A H v) : Type 0 where
    pub known : IsKnown s3 t3
    pub fewer : moves_left s3 t3 + (pump_count s s1 + fetch_count t1 t2) ≡ moves_left s t
    pub still : pump_count s s1 + fetch_count t1 t2 ≡ 0 → IsStill s3 t3

  -- they have moved, and then they meet
  turned : {s s1 s2 s3 : Sending K A H v} {t t1 t2 t3 : Taking K A H v} → IsKnown s t → Moved s s1 s2 t t1 t2 → Met s2 t2 s3 t3 →
      Turned s s1 s3 t t1 t2 t3
  turned {s} {s1} {s2} {s3} {t} {t1} {t2} {t3} known m met =
      let pump = m.pump in
      let alone = m.alone in
      let beside = m.beside in
      let fetch = m.fetch in
      let left : length s1.stage ≡ length s.stage - pump_count s s1 = ap length pump.pushed.stage ∙ length-drop (pump_count s s1) s.stage in
      let stage_2 : length s2.stage ≡ length s1.stage = ap (λ q. length q.stage) alone in
      let stage_3 : length s3.stage ≡ length s2.stage = ap length met.same_stage in
      let sent_1 : length (sent s1) ≡ length (sent s) + length (take (pump_count s s1) s.stage) =
      ap length pump.pushed.more_sent ∙ length-append (sent s) (take (pump_count s s1) s.stage) in
      let pushed : length (take (pump_count s s1) s.stage) ≡ min (pump_count s s1) (length s.stage) = length-take (pump_count s s1) s.stage in
      let sent_2 : length (sent s2) ≡ length (sent s1) = ap (λ q. length (sent q)) alone in
      let sent_3 : length (sent s3) ≡ length (sent s2) = ap length met.same_sent in
      let received_1 : length (received t1) ≡ length (received t) = ap (λ q. length (received q)) beside in
      let received_2 : length (received t2) ≡ length (received t1) + length fetch.fetched.moved =
      ap length fetch.fetched.received ∙ length-append (received t1) fetch.fetched.moved in
      let received_3 : length (received t3) ≡ length (received t2) = ap length met.same_received in
      let items_1 : length (known_items t1) ≡ length (known_items t) = ap (λ q. length (known_items q)) beside in
      let inbox_2 : length t2.inbox ≡ length t1.inbox + length fetch.fetched.moved = ap length fetch.fetched.inbox ∙
      length-append t1.inbox fetch.fetched.moved in
      let inbox_3 : length t3.inbox ≡ length t2.inbox = ap length met.same_inbox in
      let ring : length (received t) + length (known_items t) ≡ length (sent s) =
      sym (length-append (received t) (known_items t)) ∙ ap length known.ring in
      let ring_3 : length (received t3) + length (known_items t3) ≡ length (sent s3) =
      sym (length-append (received t3) (known_items t3)) ∙ ap length met.ring in
      let room_1 : room s1 ≡ room s = pump.pushed.ring.1 in
      let room_2 : room s2 ≡ room s1 = ap room alone in
      let room_3 : room s3 ≡ room s2 = met.send.1 in
      let free = known.free in
      let least = pump.least in
      let least_fetched = fetch.least in
      record {
        known = met_known met;
        fewer = omega (arith, left, stage_2, stage_3, sent_1, pushed, sent_2, sent_3, received_1, received_2, received_3, inbox_2, ring, ring_3);
        still = λ none. record {
          staged = λ some. omega (
            arith,
            none,
            some,
            left,
            stage_2,
            stage_3,
            sent_1,
            pushed,
            sent_2,
            sent_3,
            received_1,
            received_2,
            received_3,
            inbox_2,
            ring,
            ring_3,
            room_1,
            room_2,
            room_3,
            free,
            least,
          );
          in_ring = λ some. omega (
            arith,
            none,
            some,
            left,
            stage_2,
            stage_3,
            sent_1,
            pushed,
            sent_2,
            sent_3,
            received_1,
            received_2,
            received_3,
            items_1,
            inbox_2,
            inbox_3,
            ring,
            ring_3,
            least_fetched,
          );
        };
      }

-- the moves of each side before both meet: it pumps the channels that it sends, and fetches those that it takes
module _ {A : Type 0} {C M : ℕ} where
  pub record ClientMoves (s s1 s2 : ClientState A C M) : Type 0 where
    pub a : Pumps s.a s1.a
    pub c : Pumps s.c s1.c
    pub e : Pumps s.e s1.e
    pub pumped : s1 ≡ record s { a = s1.a; c = s1.c; e = s1.e }
    pub b : Fetches s1.b s2.b
    pub d : Fetches s1.d s2.d
    pub fetched : s2 ≡ record s1 { b = s2.b; d = s2.d }

  pub record ManagerMoves (t t1 t2 : ManagerState A C M) : Type 0 where
    pub b : Pumps t.b t1.b
    pub d : Pumps t.d t1.d
    pub pumped : t1 ≡ record t { b = t1.b; d = t1.d }
    pub a : Fetches t1.a t2.a
    pub c : Fetches t1.c t2.c
    pub e : Fetches t1.e t2.e
    pub fetched : t2 ≡ record t1 { a = t2.a; c = t2.c; e = t2.e }

  pub client_moves : (s s1 s2 : ClientState A C M) → Pumps s.a s1.a → Pumps s.c s1.c → Pumps s.e s1.e →
      s1 ≡ record s { a = s1.a; c = s1.c; e = s1.e } → Fetches s1.b s2.b → Fetches s1.d s2.d → s2 ≡ record s1 { b = s2.b; d = s2.d } →
      ClientMoves s s1 s2
  client_moves s s1 s2 a c e pumped b d fetched = record { a = a; c = c; e = e; pumped = pumped; b = b; d = d; fetched = fetched }

  pub manager_moves : (t t1 t2 : ManagerState A C M) → Pumps t.b t1.b → Pumps t.d t1.d → t1 ≡ record t { b = t1.b; d = t1.d } →
      Fetches t1.a t2.a → Fetches t1.c t2.c → Fetches t1.e t2.e → t2 ≡ record t1 { a = t2.a; c = t2.c; e = t2.e } → ManagerMoves t t1 t2
  manager_moves t t1 t2 b d pumped a c e fetched = record { b = b; d = d; pumped = pumped; a = a; c = c; e = e; fetched = fetched }

  -- how they meet then
  pub record AllMet (s s' : ClientState A C M) (t t' : ManagerState A C M) : Type 0 where
    pub a : Met s.a t.a s'.a t'.a
    pub b : Met t.b s.b t'.b s'.b
    pub c : Met s.c t.c s'.c t'.c
    pub d : Met t.d s.d t'.d s'.d
    pub e : Met s.e t.e s'.e t'.e

-- the same on each channel
module _ {A : Type 0} {C M : ℕ} {s s1 s2 : ClientState A C M} {t t1 t2 : ManagerState A C M} (x : ClientMoves s s1 s2)
    (y : ManagerMoves t t1 t2) where
  moved_a : Moved s.a s1.a s2.a t.a t1.a t2.a
  moved_a = record { pump = x.a; alone = ap (λ q. q.a) x.fetched; beside = ap (λ q. q.a) y.pumped; fetch = y.a }

  moved_b : Moved t.b t1.b t2.b s.b s1.b s2.b
  moved_b = record { pump = y.b; alone = ap (λ q. q.b) y.fetched; beside = ap (λ q. q.b) x.pumped; fetch = x.b }

  moved_c : Moved s.c s1.c s2.c t.c t1.c t2.c
  moved_c = record { pump = x.c; alone = ap (λ q. q.c) x.fetched; beside = ap (λ q. q.c) y.pumped; fetch = y.c }

  moved_d : Moved t.d t1.d t2.d s.d s1.d s2.d
  moved_d = record { pump = y.d; alone = ap (λ q. q.d) y.fetched; beside = ap (λ q. q.d) x.pumped; fetch = x.d }

  moved_e : Moved s.e s1.e s2.e t.e t1.e t2.e
  moved_e = record { pump = x.e; alone = ap (λ q. q.e) x.fetched; beside = ap (λ q. q.e) y.pumped; fetch = y.e }

  -- before they meet they are those of one bridge still
  pub still_sides : AreSides s t → AreSides s2 t2
  still_sides sides = record {
    a = still_paired sides.a moved_a;
    b = still_paired sides.b moved_b;
    c = still_paired sides.c moved_c;
    d = still_paired sides.d moved_d;
    e = still_paired sides.e moved_e;
  }

-- a round of all five: s becomes s1 by a pump, s2 by a fetch and s3 by the meeting, and so does t
module _ {A : Type 0} {C M : ℕ} (s s1 s2 s3 : ClientState A C M) (t t1 t2 t3 : ManagerState A C M) where
  -- how many moves the two sides have made
  abbrev count : ℕ
  count =
      (pump_count s.a s1.a + pump_count s.c s1.c + pump_count s.e s1.e) + (pump_count t.b t1.b + pump_count t.d t1.d) +
      ((fetch_count s1.b s2.b + fetch_count s1.d s2.d) + (fetch_count t1.a t2.a + fetch_count t1.c t2.c + fetch_count t1.e t2.e))

  pub record AllTurned : Type 0 where
    pub client : SameClient s s3
    pub manager : SameManager t t3
    pub known : KnownSides s3 t3
    pub fewer : all_moves_left s3 t3 + count ≡ all_moves_left s t
    pub still : count ≡ 0 → StillSides s3 t3

  pub all_turned : KnownSides s t → ClientMoves s s1 s2 → ManagerMoves t t1 t2 → AllMet s2 s3 t2 t3 → AllTurned
  all_turned known x y met =
      let a = turned known.a (moved_a x y) met.a in
      let b = turned known.b (moved_b x y) met.b in
      let c = turned known.c (moved_c x y) met.c in
      let d = turned known.d (moved_d x y) met.d in
      let e = turned known.e (moved_e x y) met.e in
      let fewer_a = a.fewer in
      let fewer_b = b.fewer in
      let fewer_c = c.fewer in
      let fewer_d = d.fewer in
      let fewer_e = e.fewer in
      record {
        client = record {
          a = same_sender (moved_a x y) met.a;
          b = same_taker (moved_b x y) met.b;
          c = same_sender (moved_c x y) met.c;
          d = same_taker (moved_d x y) met.d;
          e = same_sender (moved_e x y) met.e;
        };
        manager = record {
          a = same_taker (moved_a x y) met.a;
          b = same_sender (moved_b x y) met.b;
          c = same_taker (moved_c x y) met.c;
          d = same_sender (moved_d x y) met.d;
          e = same_taker (moved_e x y) met.e;
        };
        known = record { a = a.known; b = b.known; c = c.known; d = d.known; e = e.known };
        fewer = omega (arith, fewer_a, fewer_b, fewer_c, fewer_d, fewer_e);
        still = λ none. record {
          a = a.still (omega (arith, none));
          b = b.still (omega (arith, none));
          c = c.still (omega (arith, none));
          d = d.still (omega (arith, none));
          e = e.still (omega (arith, none));
        };
      }

module _ {H : Type 0} {w v : ℕ} where
  passed_none : (x : World H w v) → x ≡ passed 0 x
  passed_none x = λ i. record x { taken = sym (append-nil x.taken) i }

  passed_then : (j k : ℕ) (x : World H w v) → passed k (passed j x) ≡ passed (j + k) x
  passed_then j k x =
      let stage : drop k (drop j x.stage) ≡ drop (j + k) x.stage = drop-drop k j x.stage in
      let taken : (x.taken ++ take j x.stage) ++ take k (drop j x.stage) ≡ x.taken ++ take (j + k) x.stage =
      append_assoc x.taken (take j x.stage) (take k (drop j x.stage)) ∙ ap (λ l. x.taken ++ l) (sym (take-add j k x.stage)) in
      λ i. record x { stage = stage i; taken = taken i }

module _ {C M : ℕ} where
  pub client_stays : (x : ClientPast C M) → ClientWent x x
  client_stays x = record { a = 0; c = 0; e = 0; went = λ i. record x { a = passed_none x.a i; c = passed_none x.c i; e = passed_none x.e i } }

  pub client_then : {x y z : ClientPast C M} → ClientWent x y → ClientWent y z → ClientWent x z
  client_then {x} f g = record {
    a = f.a + g.a;
    c = f.c + g.c;
    e = f.e + g.e;
    went = let more : ClientPast C M → ClientPast C M = λ q. record q { a = passed g.a q.a; c = passed g.c q.c; e = passed g.e q.e } in
        g.went ∙ ap more f.went ∙ (λ i. record x { a = passed_then f.a g.a x.a i; c = passed_then f.c g.c x.c i; e = passed_then f.e g.e x.e i });
  }

  pub manager_stays : (y : ManagerPast C M) → ManagerWent y y
  manager_stays y = record { b = 0; d = 0; went = λ i. record y { b = passed_none y.b i; d = passed_none y.d i } }

  pub manager_then : {x y z : ManagerPast C M} → ManagerWent x y → ManagerWent y z → ManagerWent x z
  manager_then {x} f g = record {
    b = f.b + g.b;
    d = f.d + g.d;
    went = let more : ManagerPast C M → ManagerPast C M = λ q. record q { b = passed g.b q.b; d = passed g.d q.d } in
        g.went ∙ ap more f.went ∙ (λ i. record x { b = passed_then f.b g.b x.b i; d = passed_then f.d g.d x.d i });
  }

-- the state after some rounds, and one round more
pub settles_then : {A : Type 0} {C M : ℕ} {s s' : ClientState A C M} {t t' : ManagerState A C M} {x : ClientPast C M} {y : ManagerPast C M} →
    SidesSettle s t x y → ((p : ClientPast C M) (q : ManagerPast C M) → ClientStandsFor s p → ManagerStandsFor t q →
    SidesSettle s' t' p q) → SidesSettle s' t' x y
settles_then so_far more =
    let last = more so_far.client so_far.manager so_far.meets.client so_far.meets.manager in
    record {
      client = last.client;
      manager = last.manager;
      client_went = client_then so_far.client_went last.client_went;
      manager_went = manager_then so_far.manager_went last.manager_went;
      meets = last.meets;
    }
