-- The part of a side's thread in a round, stated for all that the thread holds.
use Rattle.std.proofs.Common.{◌≡◌, ◌≢◌, ◌⊎◌, ◌↔◌, ◌+◌, ◌<◌, ◌≤◌, ◌^◌, ◌++◌, inl, inr, ℕ, true, sym, subst, ap, ◌∙◌, arith, vec_capacity, ⊎_elim}
use Rattle.tl_bridge.proofs.Words.{Takes, answered, asked, Beats, PerChannel, ClientPast, ManagerPast, ClientStandsFor, ManagerStandsFor}
use Rattle.tl_bridge.proofs.Words.{HaveRoomToCount, Offered, NotReady, steps, counted, none-more, answered-all, asked-all, client_takes_b}
use Rattle.tl_bridge.proofs.Words.{client_takes_d, manager_takes_a, manager_takes_c, manager_takes_e, all_steps, Turn}
use Rattle.tl_bridge.specs.Inner.Sides.{Playing, HasTaken, HasTurned, HasPlayedTurns, SameClientEnds, SameManagerEnds, client_playing}
use Rattle.tl_bridge.specs.Inner.Sides.{manager_playing, none_ready}
use Rattle.tl_bridge.specs.declared.client_turns.ClientRun.{ClientRun}
use Rattle.tl_bridge.specs.declared.manager_turns.ManagerRun.{ManagerRun}
use Rattle.tl_bridge.proofs.Resting.{moves-or, none-behind, client-rests-since, manager-rests-since}
use Rattle.tl_bridge.proofs.SideEnds.{client-same, client-stays, manager-same, manager-stays}
use Rattle.tl_bridge.proofs.SideRound.{client-took, manager-took}

module _ {S : Type 0} {C M : ℕ} (k : Playing S C M) (near : Beats C M) (n : PerChannel ℕ) where
  -- it has made one turn, with these outcomes of its offers, and pumped and fetched `others` beats
  pub turned : (s t : S) (o : PerChannel Offered) (others : ℕ) (u : Turn) → u.at ≡ counted n o → u.offers ≡ o →
      ((u.accepted ≡ true) ↔ (all_steps o ≢ 0)) →
      ((u.moved ≡ true) ↔ ((all_steps o ≢ 0) ⊎ (others ≢ 0))) → k.Same s t → k.progress (counted n o) t ≡ k.progress n s + all_steps o + others →
      ((r : k.Round) (p : PerChannel Offered) → k.IsAt near r n s p → HaveRoomToCount (counted n o) × k.IsAt near r (counted n o) t o) →
      ((r : k.Round) (p : PerChannel Offered) → k.IsAt near r n s p → k.IsEmpty s → all_steps o ≡ 0 → others ≡ 0 →
      k.Rests s t o) → HasTurned k near n s t u
  turned s t o others u at offers accepted moved same on is_at rests = record {
    same = same;
    keeps = subst (λ m. k.progress n s ≤ k.progress m t) (sym at) (keeps _ _ _ _ on);
    goes = λ e. subst (λ m. k.progress n s + 1 ≤ k.progress m t) (sym at)
        (⊎_elim (λ some. first _ _ _ _ on some) (λ some. second _ _ _ _ on some) (moved.0 e));
    is_at = λ r p h may. subst (λ q. HaveRoomToCount u.at × k.IsAt near r u.at t q) (sym offers)
        (subst (λ m. HaveRoomToCount m × k.IsAt near r m t o) (sym at) (is_at r p h));
    rests = λ r p h empty. moves-or (all_steps o) others u.moved u.accepted (k.Rests s t u.offers) moved accepted
        (λ none still. subst (λ q. k.Rests s t q) (sym offers) (rests r p h empty none still));
  }
    where
      keeps : (i j l whole : ℕ) → whole ≡ i + j + l → i ≤ whole
      keeps i j l whole e = omega arith

      first : (i j l whole : ℕ) → whole ≡ i + j + l → j ≢ 0 → i + 1 ≤ whole
      first i j l whole e some = omega arith

      second : (i j l whole : ℕ) → whole ≡ i + j + l → l ≢ 0 → i + 1 ≤ whole
      second i j l whole e some = omega arith

  module _ (s t u : S) where
    -- it has taken all beats of its inboxes, and made one turn
    pub played-first : (one : Turn) → HasTaken k s t → HasTurned k near n t u one → HasPlayedTurns k near n s u one
    played-first one took turn = record {
      same = k.same_then s t u took.same turn.same;
      keeps = subst (λ i. i ≤ k.progress one.at u) (took.stays n) turn.keeps;
      goes = λ e. subst (λ i. i + 1 ≤ k.progress one.at u) (took.stays n) (turn.goes e);
      is_at = λ r o h due. turn.is_at r none_ready (took.is_at near r n o h due).0 tt;
      rests = λ r o h due.
          let here = took.is_at near r n o h due in
          ⊎_elim (λ e. inl e) (λ still. inr (still.0, took.rests u one.offers still.1)) (turn.rests r none_ready here.0 here.1);
    }

    -- it has made one turn more, after some in which it moved a beat
    pub played-then : (some last both : Turn) → HasPlayedTurns k near n s t some → some.moved ≡ true → HasTurned k near some.at t u last →
        both.at ≡ last.at → both.offers ≡ last.offers →
        ((both.moved ≡ true) ↔ ((some.moved ≡ true) ⊎ (last.moved ≡ true))) → HasPlayedTurns k near n s u both
    played-then some last both before moved turn at offers moves = record {
      same = k.same_then s t u before.same turn.same;
      keeps = subst (λ m. k.progress n s ≤ k.progress m u) (sym at) (on before.keeps turn.keeps);
      goes = λ e. subst (λ m. k.progress n s + 1 ≤ k.progress m u) (sym at) (on (before.goes moved) turn.keeps);
      is_at = λ r o h due. subst (λ q. HaveRoomToCount both.at × k.IsAt near r both.at u q) (sym offers)
          (subst (λ m. HaveRoomToCount m × k.IsAt near r m u last.offers) (sym at) (turn.is_at r some.offers (before.is_at r o h due).1 tt));
      rests = λ r o h due. inl (moves.1 (inl moved));
    }
      where
        on : {i j l : ℕ} → i ≤ j → j ≤ l → i ≤ l
        on e f = omega arith

-- a channel that is not offered a beat has as much room to count
pub still-few : {n : ℕ} {o : Offered} → o ≡ NotReady → n < 2 ^ 41 → n + steps o < 2 ^ 41
still-few {n} e few = subst (λ k. k < 2 ^ 41) (none-more n ∙ ap (λ q. n + steps q) (sym e)) few

module _ {C M : ℕ} where
  -- all beats of a side's inboxes come after those in its lists
  pub client-taken : (x x' : ClientRun C M) →
      ((p : ClientPast C M) → ClientStandsFor x.side p → ClientStandsFor x'.side (client_takes_d x.side.d.inbox (client_takes_b x.side.b.inbox p))) →
      SameClientEnds x.side x'.side → x'.far_b.items ≡ x.far_b.items ++ x.side.b.inbox → x'.far_d.items ≡ x.far_d.items ++ x.side.d.inbox →
      vec_capacity x'.far_b ≡ vec_capacity x.far_b → vec_capacity x'.far_d ≡ vec_capacity x.far_d → HasTaken client_playing x x'
  client-taken x x' taken ends far_b far_d capacity_b capacity_d = record {
    same = (client-same x.side x'.side ends, capacity_b, capacity_d);
    stays = λ n. client-stays n x.side x'.side ends;
    is_at = λ near r n o h due. let stands = taken h.past h.stands in (
      client-took near r.d r.a r.history n x.far_b.items x'.far_b.items x.far_d.items x'.far_d.items x.side x'.side o h due stands far_b far_d,
      (
        none-behind x.side.b x'.side.b h.past.b ends.b h.stands.b stands.b,
        none-behind x.side.d x'.side.d (answered h.past.history) ends.d h.stands.d
            (subst (λ q. Takes x'.side.d q) (answered-all h.past.history x.side.d.inbox) stands.d),
      ),
    );
    rests = λ t o still. client-rests-since x.side x'.side t.side o ends still;
  }

  pub manager-taken : (y y' : ManagerRun C M) →
      ((p : ManagerPast C M) → ManagerStandsFor y.side p →
      ManagerStandsFor y'.side (manager_takes_e y.side.e.inbox (manager_takes_c y.side.c.inbox (manager_takes_a y.side.a.inbox p)))) →
      SameManagerEnds y.side y'.side → y'.far_a.items ≡ y.far_a.items ++ y.side.a.inbox → y'.far_c.items ≡ y.far_c.items ++ y.side.c.inbox →
      y'.far_e.items ≡ y.far_e.items ++ y.side.e.inbox → vec_capacity y'.far_a ≡ vec_capacity y.far_a → vec_capacity y'.far_c ≡ vec_capacity y.far_c →
      vec_capacity y'.far_e ≡ vec_capacity y.far_e → HasTaken manager_playing y y'
  manager-taken y y' taken ends far_a far_c far_e capacity_a capacity_c capacity_e = record {
    same = (manager-same y.side y'.side ends, capacity_a, capacity_c, capacity_e);
    stays = λ n. manager-stays n y.side y'.side ends;
    is_at = λ near r n o h due. let stands = taken h.past h.stands in (
      manager-took near r.a r.d r.history n y.far_a.items y'.far_a.items y.far_c.items y'.far_c.items y.far_e.items y'.far_e.items y.side y'.side o
          h due stands far_a far_c far_e,
      (
        none-behind y.side.a y'.side.a (asked h.past.history) ends.a h.stands.a
            (subst (λ q. Takes y'.side.a q) (asked-all h.past.history y.side.a.inbox) stands.a),
        none-behind y.side.c y'.side.c h.past.c ends.c h.stands.c stands.c,
        none-behind y.side.e y'.side.e h.past.e ends.e h.stands.e stands.e,
      ),
    );
    rests = λ t o still. manager-rests-since y.side y'.side t.side o ends still;
  }
