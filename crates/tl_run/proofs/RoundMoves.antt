-- The moves of both sides within a round, and the end of a channel that is stopped.
use Rattle.tl_run.proofs.Names.{◌≡◌, ◌+◌, ◌++◌, ℕ, suc, Option, None, Some, List, [], ◌∷◌, map, sym, subst, arith, append-nil}
use Rattle.tl_run.proofs.Names.{slice_get, Rules, SideFault, rules_a, rules_d, HeadA, HeadD, BeatOf, World, Event, Ask, Answer}
use Rattle.tl_run.proofs.Names.{client_answer, manager_answer, ClientMoves, ManagerMoves, client_accepts}
use Rattle.tl_run.proofs.Names.{manager_accepts, Does, steps, Offered, Accepted, NotReady, Stopped, Done, Cut, Refused}
use Rattle.tl_run.proofs.Counting.{none-more}

-- a possible move of a side: the number of beats that it has accepted, and its history
module _ {w : ℕ} (Moves : ℕ → List (Event w) → Type 0) where
  -- it accepts no beat, and so it has moved no further
  stays : {B : Type 0} (event : B → Event w) (y : ℕ) (fs : List (Event w)) (bs : List B) → Moves y fs → bs ≡ [] → Moves (y + 0) (fs ++ map event bs)
  stays event y fs bs moves none =
      subst (λ q. Moves (y + 0) (fs ++ map event q)) (sym none)
      (subst (λ n. Moves n (fs ++ [])) (none-more y) (subst (λ gs. Moves y gs) (sym (append-nil fs)) moves))

  -- it offers its next beat, if it may
  offers : {H : Type 0} (r : Rules H) {u v : ℕ} (event : BeatOf H u → Event w) (list : List (BeatOf H u)) (y : ℕ) (fs : List (Event w))
      (answer : BeatOf H u → Option SideFault)
      (home : BeatOf H u → ℕ) (before : World H u v) (o : Offered) (bs : List (BeatOf H u)) (after : World H u v) →
      ((b : BeatOf H u) → slice_get list y ≡ Some b → answer b ≡ None → Moves (suc y) (fs ++ event b ∷ [])) → Moves y fs →
      Does r list y answer home before o bs after →
      Moves (y + steps o) (fs ++ map event bs)
  offers r event list y fs answer home before Accepted bs after accepts moves (b, at, ok, is, made) =
      let next : suc y ≡ y + 1 = omega arith in
      subst (λ q. Moves (y + 1) (fs ++ map event q)) (sym is) (subst (λ n. Moves n (fs ++ event b ∷ [])) next (accepts b at ok))
  offers r event list y fs answer home before NotReady bs after accepts moves (b, at, why, none, same) = stays event y fs bs moves none
  offers r event list y fs answer home before (Stopped (Refused fault)) bs after accepts moves (b, at, why, none, same) =
      stays event y fs bs moves none
  offers r event list y fs answer home before (Stopped Done) bs after accepts moves (past, rest, none, same) = stays event y fs bs moves none
  offers r event list y fs answer home before (Stopped Cut) bs after accepts moves (past, rest, none, same) = stays event y fs bs moves none

module _ {C M : ℕ} (a : List (BeatOf HeadA C)) (d : List (BeatOf HeadD M)) where
  -- so do the client's side and the manager's
  pub client-offers : (j x : ℕ) (es : List (Event C)) (y : ℕ) (fs : List (Event C)) (home : BeatOf HeadA C → ℕ)
      (before : World HeadA C M) (o : Offered)
      (bs : List (BeatOf HeadA C)) (after : World HeadA C M) → ClientMoves a d j x es y fs →
      Does rules_a a y (client_answer fs) home before o bs after →
      ClientMoves a d j x es (y + steps o) (fs ++ map Ask bs)
  client-offers j x es y fs home before o bs after moves =
      offers (ClientMoves a d j x es) rules_a Ask a y fs (client_answer fs) home before o bs after
      (λ b at ok. client_accepts y fs b moves at ok) moves

  pub manager-offers : (i x : ℕ) (es : List (Event M)) (y : ℕ) (fs : List (Event M)) (home : BeatOf HeadD M → ℕ)
      (before : World HeadD M C) (o : Offered)
      (bs : List (BeatOf HeadD M)) (after : World HeadD M C) → ManagerMoves a d i x es y fs →
      Does rules_d d y (manager_answer fs) home before o bs after →
      ManagerMoves a d i x es (y + steps o) (fs ++ map Answer bs)
  manager-offers i x es y fs home before o bs after moves =
      offers (ManagerMoves a d i x es) rules_d Answer d y fs (manager_answer fs) home before o bs after
      (λ b at ok. manager_accepts y fs b moves at ok) moves
