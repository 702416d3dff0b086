-- The behaviour of each side of a run within a round, and the state of both at a meeting. Only contracts of private
-- functions use these definitions.
use Rattle.std.proofs.Common.{◌≡◌, ◌≢◌, ◌+◌, ◌≤◌, ◌⊎◌, ◌++◌, ◌∙◌, ℕ, true, List, [], length, map, vec_len, vec_capacity}
use mathlib.Core.List.{IsPrefix}
use Rattle.tl_bridge.specs.Words.{rules_a, rules_b, rules_c, rules_d, rules_e, HeadA, HeadB, HeadC, HeadD, HeadE, BeatOf, Sending, Taking, seen_by}
use Rattle.tl_bridge.specs.Words.{sent, received, known_free, known_items, room, Pipe, Event, Ask, Answer, asked, answered, client_answer}
use Rattle.tl_bridge.specs.Words.{manager_answer, manager_home, ClientMoves, ManagerMoves, far_a, far_d, Beats, PerChannel, stops_alone, Bridge, Past}
use Rattle.tl_bridge.specs.Words.{ClientState, ManagerState, ClientPast, ManagerPast, ClientStandsFor, ManagerStandsFor, AreSides, SameClient}
use Rattle.tl_bridge.specs.Words.{SameManager, SidesMeet, new_client, new_manager, Does, Stops, IsSent, IsHomed, IsAt, AllStop, AreStopped, IsStopped}
use Rattle.tl_bridge.specs.Words.{HaveRoomToCount, Standing, all_standing, all_under_way, Offered, NotReady, Turn}
use Rattle.tl_sides.proofs.SameSides.{same_client_then, same_manager_then}
use Rattle.tl_bridge.specs.declared.client_turns.ClientRun.{ClientRun}
use Rattle.tl_bridge.specs.declared.manager_turns.ManagerRun.{ManagerRun}

-- no channel was offered a beat
abbrev pub none_ready : PerChannel Offered
none_ready = record { a = NotReady; b = NotReady; c = NotReady; d = NotReady; e = NotReady }

module _ {A : Type 0} {C M : ℕ} where
  -- the progress of a side: the beats that it accepted, those that it sent, and those that it received
  abbrev pub client_progress : PerChannel ℕ → ClientState A C M → ℕ
  client_progress n s = n.a + n.c + n.e + length (sent s.a) + length (sent s.c) + length (sent s.e) + length (received s.b) + length (received s.d)

  abbrev pub manager_progress : PerChannel ℕ → ManagerState A C M → ℕ
  manager_progress n t = n.b + n.d + length (sent t.b) + length (sent t.d) + length (received t.a) + length (received t.c) + length (received t.e)

-- ---- both

module _ {A : Type 0} {C M : ℕ} where
  -- a side's ends of the rings are unchanged
  pub record SameClientEnds (s s' : ClientState A C M) : Type 0 where
    pub a : s'.a.producer ≡ s.a.producer
    pub b : s'.b.consumer ≡ s.b.consumer
    pub c : s'.c.producer ≡ s.c.producer
    pub d : s'.d.consumer ≡ s.d.consumer
    pub e : s'.e.producer ≡ s.e.producer

  pub record SameManagerEnds (t t' : ManagerState A C M) : Type 0 where
    pub a : t'.a.consumer ≡ t.a.consumer
    pub b : t'.b.producer ≡ t.b.producer
    pub c : t'.c.consumer ≡ t.c.consumer
    pub d : t'.d.producer ≡ t.d.producer
    pub e : t'.e.consumer ≡ t.e.consumer

module _ {A : Type 0} {C M : ℕ} where
  -- they were sides of one bridge, and each advanced by itself
  abbrev pub WereSides : ClientState A C M → ManagerState A C M → Type 0
  WereSides s' t' = (s : ClientState A C M) × (t : ManagerState A C M) × AreSides s t × SameClient s s' × SameManager t t'

-- ---- offers

module _ {A : Type 0} {C M : ℕ} (near : Beats C M) (n : PerChannel ℕ) where
  -- a side has offered the next beat of each of its channels that was ready
  pub record ClientHasOffered (x : ClientPast C M) (s : ClientState A C M) (o : PerChannel Offered) : Type 0 where
    pub past : ClientPast C M
    pub stands : ClientStandsFor s past
    pub beats_a : List (BeatOf HeadA C)
    pub beats_c : List (BeatOf HeadC C)
    pub beats_e : List (BeatOf HeadE C)
    pub history : past.history ≡ x.history ++ map Ask beats_a
    pub taken : past.b ≡ x.b
    pub does_a : Does rules_a near.a n.a (client_answer x.history) (λ _. 0) x.a o.a beats_a past.a
    pub does_c : Does rules_c near.c n.c (stops_alone rules_c x.c.accepted) (λ _. 0) x.c o.c beats_c past.c
    pub does_e : Does rules_e near.e n.e (stops_alone rules_e x.e.accepted) (λ _. 0) x.e o.e beats_e past.e

  pub record ManagerHasOffered (x : ManagerPast C M) (t : ManagerState A C M) (o : PerChannel Offered) : Type 0 where
    pub past : ManagerPast C M
    pub stands : ManagerStandsFor t past
    pub beats_b : List (BeatOf HeadB M)
    pub beats_d : List (BeatOf HeadD M)
    pub history : past.history ≡ x.history ++ map Answer beats_d
    pub taken_c : past.c ≡ x.c
    pub taken_e : past.e ≡ x.e
    pub does_b : Does rules_b near.b n.b (stops_alone rules_b x.b.accepted) (λ _. 0) x.b o.b beats_b past.b
    pub does_d : Does rules_d near.d n.d (manager_answer x.history) (λ b. manager_home x.history b.head) x.d o.d beats_d past.d

-- ---- a side within a round

module _ {A : Type 0} {C M : ℕ} (near : Beats C M) where
  -- The state of the client's side within a round that began with history es, when m beats of A and j of D were
  -- accepted: now n beats of each list are accepted, these far beats are taken, and these are the outcomes of its last
  -- offers
  pub record ClientIsAt (j m : ℕ) (es : List (Event C)) (n : PerChannel ℕ) (far_of_b : List (BeatOf HeadB C))
      (far_of_d : List (BeatOf HeadD C)) (s : ClientState A C M)
      (o : PerChannel Offered) : Type 0 where
    pub past : ClientPast C M
    pub stands : ClientStandsFor s past
    pub moves : ClientMoves near.a near.d j m es n.a past.history
    pub a_sent : IsSent rules_a near.a n.a past.a.taken past.a
    pub c_sent : IsSent rules_c near.c n.c past.c.taken past.c
    pub e_sent : IsSent rules_e near.e n.e past.e.taken past.e
    pub a_homed : IsHomed rules_a past.a
    pub c_homed : IsHomed rules_c past.c
    pub e_homed : IsHomed rules_e past.e
    pub b_taken : far_of_b ≡ past.b
    pub d_taken : far_of_d ≡ answered past.history
    pub stop_a : Stops rules_a near.a n.a (client_answer past.history) past.a.accepted o.a
    pub stop_c : Stops rules_c near.c n.c (stops_alone rules_c past.c.accepted) past.c.accepted o.c
    pub stop_e : Stops rules_e near.e n.e (stops_alone rules_e past.e.accepted) past.e.accepted o.e

  -- the same for the manager's side, in a round that began when i beats of A and m of D were accepted
  pub record ManagerIsAt (i m : ℕ) (es : List (Event M)) (n : PerChannel ℕ) (far_of_a : List (BeatOf HeadA M)) (far_of_c : List (BeatOf HeadC M))
      (far_of_e : List (BeatOf HeadE M))
      (t : ManagerState A C M) (o : PerChannel Offered) : Type 0 where
    pub past : ManagerPast C M
    pub stands : ManagerStandsFor t past
    pub moves : ManagerMoves near.a near.d i m es n.d past.history
    pub b_sent : IsSent rules_b near.b n.b past.b.taken past.b
    pub d_sent : IsSent rules_d near.d n.d past.d.taken past.d
    pub b_homed : IsHomed rules_b past.b
    pub a_taken : far_of_a ≡ asked past.history
    pub c_taken : far_of_c ≡ past.c
    pub e_taken : far_of_e ≡ past.e
    pub stop_b : Stops rules_b near.b n.b (stops_alone rules_b past.b.accepted) past.b.accepted o.b
    pub stop_d : Stops rules_d near.d n.d (manager_answer past.history) past.d.accepted o.d

-- ---- a side rests

module _ {K A H : Type 0} {v : ℕ} where
  -- a sending end sent nothing, because it has nothing staged or knew of no free position. If nothing is staged, its
  -- channel offers no more beats
  pub record SendRests (s s' : Sending K A H v) (o : Offered) : Type 0 where
    pub none_sent : sent s' ≡ sent s
    pub why : (s'.stage ≡ []) ⊎ (known_free s ≡ 0)
    pub stops : s'.stage ≡ [] → IsStopped o

  -- a taking end received nothing, because it knew of no beat in the ring, and all beats that it received before are
  -- taken
  pub record TakeRests (t t' : Taking K A H v) : Type 0 where
    pub none_received : received t' ≡ received t
    pub none_known : known_items t ≡ []
    pub none_left : t'.inbox ≡ []

module _ {A : Type 0} {C M : ℕ} where
  -- all ends of a side rest
  pub record ClientRests (s s' : ClientState A C M) (o : PerChannel Offered) : Type 0 where
    pub a : SendRests s.a s'.a o.a
    pub b : TakeRests s.b s'.b
    pub c : SendRests s.c s'.c o.c
    pub d : TakeRests s.d s'.d
    pub e : SendRests s.e s'.e o.e

  pub record ManagerRests (t t' : ManagerState A C M) (o : PerChannel Offered) : Type 0 where
    pub a : TakeRests t.a t'.a
    pub b : SendRests t.b t'.b o.b
    pub c : TakeRests t.c t'.c
    pub d : SendRests t.d t'.d o.d
    pub e : TakeRests t.e t'.e

-- ---- a side in its thread, whichever of the two it is

-- the description of a side S of a run, with the lists of the beats that it takes
pub record Playing (S : Type 0) (C M : ℕ) : Type 1 where
  -- it is the same side, and its lists have the same capacity
  pub Same : S → S → Type 0
  pub same_then : (s t u : S) → Same s t → Same t u → Same s u
  -- its progress, when this number of beats of each list is accepted
  pub progress : PerChannel ℕ → S → ℕ
  -- the beginning of a round, the state of the side in it, and that all beats in its inboxes are due then
  pub Round : Type 0
  pub IsAt : Beats C M → Round → PerChannel ℕ → S → PerChannel Offered → Type 0
  pub IsDue : Beats C M → Round → S → Type 0
  -- its inboxes are empty, or its lists have room for all beats in them
  pub IsEmpty : S → Type 0
  pub HasRoom : S → Type 0
  -- all of its ends rest
  pub Rests : S → S → PerChannel Offered → Type 0

-- a side's history when a round began, and the number of accepted beats of A and of D
pub record RoundOf (w : ℕ) : Type 0 where
  pub a : ℕ
  pub d : ℕ
  pub history : List (Event w)

module _ {C M : ℕ} where
  abbrev pub client_playing : Playing (ClientRun C M) C M
  client_playing = record {
    Same = λ x x'. SameClient x.side x'.side × (vec_capacity x'.far_b ≡ vec_capacity x.far_b) × (vec_capacity x'.far_d ≡ vec_capacity x.far_d);
    same_then = λ x y z f g. (same_client_then x.side y.side z.side f.0 g.0, g.1 ∙ f.1, g.2 ∙ f.2);
    progress = λ n x. client_progress n x.side;
    Round = RoundOf C;
    IsAt = λ near r n x o. ClientIsAt near r.d r.a r.history n x.far_b.items x.far_d.items x.side o;
    IsDue = λ near r x. IsPrefix (x.far_d.items ++ x.side.d.inbox) (far_d near.a near.d r.d);
    IsEmpty = λ x. (x.side.b.inbox ≡ []) × (x.side.d.inbox ≡ []);
    HasRoom = λ x. (vec_len x.far_b + length x.side.b.inbox ≤ vec_capacity x.far_b) ×
        (vec_len x.far_d + length x.side.d.inbox ≤ vec_capacity x.far_d);
    Rests = λ x x' o. ClientRests x.side x'.side o;
  }

  abbrev pub manager_playing : Playing (ManagerRun C M) C M
  manager_playing = record {
    Same = λ y y'. SameManager y.side y'.side × (vec_capacity y'.far_a ≡ vec_capacity y.far_a) × (vec_capacity y'.far_c ≡ vec_capacity y.far_c) ×
        (vec_capacity y'.far_e ≡ vec_capacity y.far_e);
    same_then = λ x y z f g. (same_manager_then x.side y.side z.side f.0 g.0, g.1 ∙ f.1, g.2 ∙ f.2, g.3 ∙ f.3);
    progress = λ n y. manager_progress n y.side;
    Round = RoundOf M;
    IsAt = λ near r n y o. ManagerIsAt near r.a r.d r.history n y.far_a.items y.far_c.items y.far_e.items y.side o;
    IsDue = λ near r y. IsPrefix (y.far_a.items ++ y.side.a.inbox) (far_a near.a near.d r.a);
    IsEmpty = λ y. (y.side.a.inbox ≡ []) × (y.side.c.inbox ≡ []) × (y.side.e.inbox ≡ []);
    HasRoom = λ y. (vec_len y.far_a + length y.side.a.inbox ≤ vec_capacity y.far_a) ×
        (vec_len y.far_c + length y.side.c.inbox ≤ vec_capacity y.far_c) × (vec_len y.far_e + length y.side.e.inbox ≤ vec_capacity y.far_e);
    Rests = λ y y' o. ManagerRests y.side y'.side o;
  }

module _ {S : Type 0} {C M : ℕ} (k : Playing S C M) where
  -- a side has taken all beats of its inboxes into its lists
  pub record HasTaken (s s' : S) : Type 0 where
    pub same : k.Same s s'
    pub stays : (n : PerChannel ℕ) → k.progress n s' ≡ k.progress n s
    pub is_at : (near : Beats C M) (r : k.Round) (n : PerChannel ℕ) (o : PerChannel Offered) → k.IsAt near r n s o → k.IsDue near r s →
        k.IsAt near r n s' none_ready × k.IsEmpty s'
    -- if it rests from here on, it has rested since before it took them
    pub rests : (t : S) (o : PerChannel Offered) → k.Rests s' t o → k.Rests s t o

  module _ (near : Beats C M) (n : PerChannel ℕ) (s : S) where
    -- a side may run a round: it is at its beginning, and its lists have room for all beats in its inboxes, all of
    -- which are due
    pub record MayPlay : Type 0 where
      pub few : HaveRoomToCount n
      pub round : k.Round
      pub is_at : k.IsAt near round n s none_ready
      pub due : k.IsDue near round s
      pub room : k.HasRoom s

    -- A side has run a part of a round: its state in every round that satisfies `May`, and, if the round satisfies
    -- `Rest`, that it has moved a beat, or has accepted none and rests
    pub record HasPlayedPart (May Rest : k.Round → Type 0) (s' : S) (u : Turn) : Type 0 where
      pub same : k.Same s s'
      -- it has not gone back, and has advanced if something moved
      pub keeps : k.progress n s ≤ k.progress u.at s'
      pub goes : u.moved ≡ true → k.progress n s + 1 ≤ k.progress u.at s'
      pub is_at : (r : k.Round) (o : PerChannel Offered) → k.IsAt near r n s o → May r → HaveRoomToCount u.at × k.IsAt near r u.at s' u.offers
      pub rests : (r : k.Round) (o : PerChannel Offered) → k.IsAt near r n s o → Rest r →
          (u.moved ≡ true) ⊎ ((u.accepted ≢ true) × k.Rests s s' u.offers)

    -- it has made one turn, or has taken the beats of its inboxes and made turns
    abbrev pub HasTurned : S → Turn → Type 0
    HasTurned = HasPlayedPart (λ _. Unit {0}) (λ _. k.IsEmpty s)

    abbrev pub HasPlayedTurns : S → Turn → Type 0
    HasPlayedTurns = HasPlayedPart (λ r. k.IsDue near r s) (λ r. k.IsDue near r s)

-- ---- a meeting

-- the pipe with all beats between two ends of a ring, once they have met
abbrev pub pipe_of : {K A H : Type 0} {v : ℕ} → Sending K A H v → Taking K A H v → Pipe H v
pipe_of s t = record { converter = s.converter; room = room s; stage = s.stage; ring = known_items t; inbox = t.inbox; closed = s.closed }

module _ {A : Type 0} {C M : ℕ} where
  -- the bridge in one thread that both sides form, once they have met
  abbrev pub bridge_of : ClientState A C M → ManagerState A C M → Bridge C M
  bridge_of s t = record {
    a = pipe_of s.a t.a;
    b = pipe_of t.b s.b;
    c = pipe_of s.c t.c;
    d = pipe_of t.d s.d;
    e = pipe_of s.e t.e;
    client = s.book;
    manager = t.book;
  }

  -- and its past
  abbrev pub past_of : ClientState A C M → ManagerState A C M → ClientPast C M → ManagerPast C M → Past C M
  past_of s t x y = record {
    client = x.history;
    manager = y.history;
    a = seen_by rules_a t.a x.a (asked y.history);
    b = seen_by rules_b s.b y.b x.b;
    c = seen_by rules_c t.c x.c y.c;
    d = seen_by rules_d s.d y.d (answered x.history);
    e = seen_by rules_e t.e x.e y.e;
  }

  -- the progress of a run at a meeting
  abbrev pub met_progress : PerChannel ℕ → ClientState A C M → ManagerState A C M → ℕ
  met_progress n s t = client_progress n s + manager_progress n t

  -- both sides have met, after n accepted beats of each list and these far beats taken
  pub record HasMet (near : Beats C M) (n : PerChannel ℕ) (far : Beats M C) (s : ClientState A C M) (t : ManagerState A C M) : Type 0 where
    pub client : ClientPast C M
    pub manager : ManagerPast C M
    pub sides : AreSides s t
    pub meet : SidesMeet s t client manager
    -- each taking end knows all of its ring
    pub ring_a : received t.a ++ known_items t.a ≡ sent s.a
    pub ring_b : received s.b ++ known_items s.b ≡ sent t.b
    pub ring_c : received t.c ++ known_items t.c ≡ sent s.c
    pub ring_d : received s.d ++ known_items s.d ≡ sent t.d
    pub ring_e : received t.e ++ known_items t.e ≡ sent s.e
    -- each sending end knows a free position, unless a beat is in the ring
    pub free_a : 1 ≤ known_free s.a + length (known_items t.a)
    pub free_b : 1 ≤ known_free t.b + length (known_items s.b)
    pub free_c : 1 ≤ known_free s.c + length (known_items t.c)
    pub free_d : 1 ≤ known_free t.d + length (known_items s.d)
    pub free_e : 1 ≤ known_free s.e + length (known_items t.e)
    pub is_at : IsAt near n far (past_of s t client manager)

  -- a round: the meeting of both sides after it, the reason why each channel is stopped, if it is, and that the run has
  -- advanced in it, or has accepted no beat, offers no more, and has nothing under way
  pub record HasPlayed (near : Beats C M) (n : PerChannel ℕ) (s : ClientState A C M) (t : ManagerState A C M) (u : Turn)
      (standings : PerChannel Standing) (far : Beats M C) (s' : ClientState A C M)
      (t' : ManagerState A C M) : Type 0 where
    pub met : HasMet near u.at far s' t'
    pub stops : AllStop near u.at (past_of s' t' met.client met.manager) u.offers
    pub keeps : met_progress n s t ≤ met_progress u.at s' t'
    pub goes : (met_progress n s t + 1 ≤ met_progress u.at s' t') ⊎ ((u.accepted ≢ true) × AreStopped u.offers × (all_standing standings ≡ 0))
    pub standing : all_standing standings ≡ all_under_way (past_of s' t' met.client met.manager)

  -- two new sides
  pub record AreNew (s : ClientState A C M) (t : ManagerState A C M) : Type 0 where
    pub sides : AreSides s t
    pub space : ℕ
    pub some : 1 ≤ space
    pub client : ClientStandsFor s (new_client space)
    pub manager : ManagerStandsFor t (new_manager space)
