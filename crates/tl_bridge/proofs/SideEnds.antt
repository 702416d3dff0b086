-- The parts of a side's ends that only a pump and a fetch change, and the progress of a side.
use Rattle.std.proofs.Common.{◌≡◌, ◌+◌, ℕ, length, take, refl, sym, ap, subst, ◌∙◌, arith, length-append}
use Rattle.std.proofs.lemmas.List.{length-take}
use Rattle.tl_bridge.proofs.Words.{Sending, Taking, SameSend, SameTake, sent, received, same_send, same_take, PerChannel, Pumps, Fetches, pump_count}
use Rattle.tl_bridge.proofs.Words.{fetch_count, ClientState, ManagerState, SameClient, SameManager, same_client_then, same_manager_then, counted}
use Rattle.tl_bridge.proofs.Words.{all_steps, steps, Offered, NotReady, sends_a, sends_b, sends_c, sends_d, sends_e, client_side, manager_side}
use Rattle.tl_bridge.specs.Inner.Sides.{SameClientEnds, SameManagerEnds, client_progress, manager_progress}

module _ {A : Type 0} where
  -- the same ends are those of the same rings
  send-same : {K H : Type 0} {v : ℕ} (s s' : Sending K A H v) → s'.producer ≡ s.producer → SameSend s s'
  send-same s s' e = subst (λ (p : _). SameSend s (record s { producer = p })) (sym e) (same_send s)

  take-same : {K H : Type 0} {v : ℕ} (t t' : Taking K A H v) → t'.consumer ≡ t.consumer → SameTake t t'
  take-same t t' e = subst (λ (p : _). SameTake t (record t { consumer = p })) (sym e) (same_take t)

  -- and have sent and received as much
  send-count : {K H : Type 0} {v : ℕ} (s s' : Sending K A H v) → s'.producer ≡ s.producer → length (sent s') ≡ length (sent s)
  send-count s s' e = ap (λ (p : _). length (sent (record s { producer = p }))) e

  take-count : {K H : Type 0} {v : ℕ} (t t' : Taking K A H v) → t'.consumer ≡ t.consumer → length (received t') ≡ length (received t)
  take-count t t' e = ap (λ (p : _). length (received (record t { consumer = p }))) e

  -- a pump sends as many beats as its result says, and a fetch receives as many
  pumped-count : {K H : Type 0} {v : ℕ} (s s' : Sending K A H v) → Pumps s s' → length (sent s') ≡ length (sent s) + pump_count s s'
  pumped-count s s' h =
      let n : length (take (pump_count s s') s.stage) ≡ _ = length-take (pump_count s s') s.stage in
      let l = ap length h.pushed.more_sent ∙ length-append (sent s) (take (pump_count s s') s.stage) in
      omega arith

  fetched-count : {K H : Type 0} {v : ℕ} (t t' : Taking K A H v) → Fetches t t' → length (received t') ≡ length (received t) + fetch_count t t'
  fetched-count t t' h = ap length h.fetched.received ∙ length-append (received t) h.fetched.moved ∙ ap (λ k. length (received t) + k) h.fetched.count

-- five parts that are as they were
same-parts : (k p q r u v p' q' r' u' v' : ℕ) → p ≡ p' → q ≡ q' → r ≡ r' → u ≡ u' → v ≡ v' → k + p + q + r + u + v ≡ k + p' + q' + r' + u' + v'
same-parts v0 v1 v2 v3 v4 v5 v6 v7 v8 v9 v10 a b c d e = omega arith

module _ {A : Type 0} {C M : ℕ} where
  -- an offer, and a close, leave a side's ends of the rings as they are
  pub ends-a : (s t : ClientState A C M) → (sends_a (client_side {A = A} {C = C} {M = M})).Keeps s t → SameClientEnds s t
  ends-a s t keeps = subst (SameClientEnds s) (sym keeps) (record { a = refl; b = refl; c = refl; d = refl; e = refl })

  pub ends-b : (s t : ManagerState A C M) → (sends_b (manager_side {A = A} {C = C} {M = M})).Keeps s t → SameManagerEnds s t
  ends-b s t keeps = subst (SameManagerEnds s) (sym keeps) (record { a = refl; b = refl; c = refl; d = refl; e = refl })

  pub ends-c : (s t : ClientState A C M) → (sends_c (client_side {A = A} {C = C} {M = M})).Keeps s t → SameClientEnds s t
  ends-c s t keeps = subst (SameClientEnds s) (sym keeps) (record { a = refl; b = refl; c = refl; d = refl; e = refl })

  pub ends-d : (s t : ManagerState A C M) → (sends_d (manager_side {A = A} {C = C} {M = M})).Keeps s t → SameManagerEnds s t
  ends-d s t keeps = subst (SameManagerEnds s) (sym keeps) (record { a = refl; b = refl; c = refl; d = refl; e = refl })

  pub ends-e : (s t : ClientState A C M) → (sends_e (client_side {A = A} {C = C} {M = M})).Keeps s t → SameClientEnds s t
  ends-e s t keeps = subst (SameClientEnds s) (sym keeps) (record { a = refl; b = refl; c = refl; d = refl; e = refl })

  -- a side with the ends of another one
  pub client-ends-then : (s t u : ClientState A C M) → SameClientEnds s t → SameClientEnds t u → SameClientEnds s u
  client-ends-then s t u f g = record { a = g.a ∙ f.a; b = g.b ∙ f.b; c = g.c ∙ f.c; d = g.d ∙ f.d; e = g.e ∙ f.e }

  pub manager-ends-then : (s t u : ManagerState A C M) → SameManagerEnds s t → SameManagerEnds t u → SameManagerEnds s u
  manager-ends-then s t u f g = record { a = g.a ∙ f.a; b = g.b ∙ f.b; c = g.c ∙ f.c; d = g.d ∙ f.d; e = g.e ∙ f.e }

  pub client-same : (s t : ClientState A C M) → SameClientEnds s t → SameClient s t
  client-same s t h = record {
    a = send-same s.a t.a h.a;
    b = take-same s.b t.b h.b;
    c = send-same s.c t.c h.c;
    d = take-same s.d t.d h.d;
    e = send-same s.e t.e h.e;
  }

  pub manager-same : (s t : ManagerState A C M) → SameManagerEnds s t → SameManager s t
  manager-same s t h = record {
    a = take-same s.a t.a h.a;
    b = send-same s.b t.b h.b;
    c = take-same s.c t.c h.c;
    d = send-same s.d t.d h.d;
    e = take-same s.e t.e h.e;
  }

  pub client-stays : (n : PerChannel ℕ) (s t : ClientState A C M) → SameClientEnds s t → client_progress n t ≡ client_progress n s
  client-stays n s t h =
      same-parts _ _ _ _ _ _ _ _ _ _ _ (send-count s.a t.a h.a) (send-count s.c t.c h.c) (send-count s.e t.e h.e)
      (take-count s.b t.b h.b) (take-count s.d t.d h.d)

  pub manager-stays : (n : PerChannel ℕ) (s t : ManagerState A C M) → SameManagerEnds s t → manager_progress n t ≡ manager_progress n s
  manager-stays n s t h =
      same-parts _ _ _ _ _ _ _ _ _ _ _ (send-count s.b t.b h.b) (send-count s.d t.d h.d) (take-count s.a t.a h.a)
      (take-count s.c t.c h.c) (take-count s.e t.e h.e)

  -- ---- a turn

  pub client-pumped : (s t : ClientState A C M) (moved : ℕ) → t ≡ record s { a = t.a; c = t.c; e = t.e } → Pumps s.a t.a →
      Pumps s.c t.c → Pumps s.e t.e →
      moved ≡ pump_count s.a t.a + pump_count s.c t.c + pump_count s.e t.e → SameClient s t ×
      ((n : PerChannel ℕ) → client_progress n t ≡ client_progress n s + moved)
  client-pumped s t moved rest a c e total = (
    record {
      a = a.pushed.ring;
      b = take-same s.b t.b (ap (λ q. q.b.consumer) rest);
      c = c.pushed.ring;
      d = take-same s.d t.d (ap (λ q. q.d.consumer) rest);
      e = e.pushed.ring;
    },
    λ n. sums _ _ _ _ _ _ _ _ _ _ _ _ _ _ _ (pumped-count s.a t.a a) (pumped-count s.c t.c c) (pumped-count s.e t.e e)
        (take-count s.b t.b (ap (λ q. q.b.consumer) rest)) (take-count s.d t.d (ap (λ q. q.d.consumer) rest)) total,
  )
    where
      sums : (k p q r u v p' q' r' u' v' x y z whole : ℕ) → p' ≡ p + x → q' ≡ q + y → r' ≡ r + z → u' ≡ u → v' ≡ v → whole ≡ x + y + z →
          k + p' + q' + r' + u' + v' ≡ k + p + q + r + u + v + whole
      sums v0 v1 v2 v3 v4 v5 v6 v7 v8 v9 v10 v11 v12 v13 v14 a b c d e f = omega arith

  pub client-fetched : (s t : ClientState A C M) (moved : ℕ) → t ≡ record s { b = t.b; d = t.d } → Fetches s.b t.b → Fetches s.d t.d →
      moved ≡ fetch_count s.b t.b + fetch_count s.d t.d → SameClient s t × ((n : PerChannel ℕ) → client_progress n t ≡ client_progress n s + moved)
  client-fetched s t moved rest b d total = (
    record {
      a = send-same s.a t.a (ap (λ q. q.a.producer) rest);
      b = b.fetched.ring;
      c = send-same s.c t.c (ap (λ q. q.c.producer) rest);
      d = d.fetched.ring;
      e = send-same s.e t.e (ap (λ q. q.e.producer) rest);
    },
    λ n. sums _ _ _ _ _ _ _ _ _ _ _ _ _ _ (send-count s.a t.a (ap (λ q. q.a.producer) rest)) (send-count s.c t.c (ap (λ q. q.c.producer) rest))
        (send-count s.e t.e (ap (λ q. q.e.producer) rest)) (fetched-count s.b t.b b) (fetched-count s.d t.d d) total,
  )
    where
      sums : (k p q r u v p' q' r' u' v' x y whole : ℕ) → p' ≡ p → q' ≡ q → r' ≡ r → u' ≡ u + x → v' ≡ v + y → whole ≡ x + y →
          k + p' + q' + r' + u' + v' ≡ k + p + q + r + u + v + whole
      sums v0 v1 v2 v3 v4 v5 v6 v7 v8 v9 v10 v11 v12 v13 a b c d e f = omega arith

  pub manager-pumped : (s t : ManagerState A C M) (moved : ℕ) → t ≡ record s { b = t.b; d = t.d } → Pumps s.b t.b → Pumps s.d t.d →
      moved ≡ pump_count s.b t.b + pump_count s.d t.d → SameManager s t × ((n : PerChannel ℕ) → manager_progress n t ≡ manager_progress n s + moved)
  manager-pumped s t moved rest b d total = (
    record {
      a = take-same s.a t.a (ap (λ q. q.a.consumer) rest);
      b = b.pushed.ring;
      c = take-same s.c t.c (ap (λ q. q.c.consumer) rest);
      d = d.pushed.ring;
      e = take-same s.e t.e (ap (λ q. q.e.consumer) rest);
    },
    λ n. sums _ _ _ _ _ _ _ _ _ _ _ _ _ _ (pumped-count s.b t.b b) (pumped-count s.d t.d d) (take-count s.a t.a (ap (λ q. q.a.consumer) rest))
        (take-count s.c t.c (ap (λ q. q.c.consumer) rest)) (take-count s.e t.e (ap (λ q. q.e.consumer) rest)) total,
  )
    where
      sums : (k p q r u v p' q' r' u' v' x y whole : ℕ) → p' ≡ p + x → q' ≡ q + y → r' ≡ r → u' ≡ u → v' ≡ v → whole ≡ x + y →
          k + p' + q' + r' + u' + v' ≡ k + p + q + r + u + v + whole
      sums v0 v1 v2 v3 v4 v5 v6 v7 v8 v9 v10 v11 v12 v13 a b c d e f = omega arith

  pub manager-fetched : (s t : ManagerState A C M) (moved : ℕ) → t ≡ record s { a = t.a; c = t.c; e = t.e } → Fetches s.a t.a →
      Fetches s.c t.c → Fetches s.e t.e →
      moved ≡ fetch_count s.a t.a + fetch_count s.c t.c + fetch_count s.e t.e → SameManager s t ×
      ((n : PerChannel ℕ) → manager_progress n t ≡ manager_progress n s + moved)
  manager-fetched s t moved rest a c e total = (
    record {
      a = a.fetched.ring;
      b = send-same s.b t.b (ap (λ q. q.b.producer) rest);
      c = c.fetched.ring;
      d = send-same s.d t.d (ap (λ q. q.d.producer) rest);
      e = e.fetched.ring;
    },
    λ n. sums _ _ _ _ _ _ _ _ _ _ _ _ _ _ _ (send-count s.b t.b (ap (λ q. q.b.producer) rest)) (send-count s.d t.d (ap (λ q. q.d.producer) rest))
        (fetched-count s.a t.a a) (fetched-count s.c t.c c) (fetched-count s.e t.e e) total,
  )
    where
      sums : (k p q r u v p' q' r' u' v' x y z whole : ℕ) → p' ≡ p → q' ≡ q → r' ≡ r + x → u' ≡ u + y → v' ≡ v + z → whole ≡ x + y + z →
          k + p' + q' + r' + u' + v' ≡ k + p + q + r + u + v + whole
      sums v0 v1 v2 v3 v4 v5 v6 v7 v8 v9 v10 v11 v12 v13 v14 a b c d e f = omega arith

  -- offers, a pump and a fetch
  pub client-goes : (n : PerChannel ℕ) (s t u v : ClientState A C M) (o : PerChannel Offered) (pumped fetched : ℕ) → SameClientEnds s t →
      (o.b ≡ NotReady) × (o.d ≡ NotReady) →
      SameClient t u × ((n : PerChannel ℕ) → client_progress n u ≡ client_progress n t + pumped) →
      SameClient u v × ((n : PerChannel ℕ) → client_progress n v ≡ client_progress n u + fetched) →
      SameClient s v × (client_progress (counted n o) v ≡ client_progress n s + all_steps o + (pumped + fetched))
  client-goes n s t u v o pumped fetched ends others p f = (
    same_client_then s t v (client-same s t ends) (same_client_then t u v p.0 f.0),
    accepts n.a n.c n.e _ _ _ _ _ (steps o.a) (steps o.b) (steps o.c) (steps o.d) (steps o.e) _ _ _ pumped fetched
        (ap steps others.0) (ap steps others.1)
        (client-stays (counted n o) s t ends) (p.1 (counted n o)) (f.1 (counted n o)),
  )
    where
      accepts : (na nc ne sa sc se rb rd a b c d e offered sent received pumped fetched : ℕ) → b ≡ 0 → d ≡ 0 →
          offered ≡ (na + a) + (nc + c) + (ne + e) + sa + sc + se + rb + rd →
          sent ≡ offered + pumped → received ≡ sent + fetched →
          received ≡ na + nc + ne + sa + sc + se + rb + rd + (a + b + c + d + e) + (pumped + fetched)
      accepts na nc ne sa sc se rb rd a b c d e offered sent received pumped fetched k l f g h = omega arith

  pub manager-goes : (n : PerChannel ℕ) (s t u v : ManagerState A C M) (o : PerChannel Offered) (pumped fetched : ℕ) → SameManagerEnds s t →
      (o.a ≡ NotReady) × (o.c ≡ NotReady) × (o.e ≡ NotReady) → SameManager t u ×
      ((n : PerChannel ℕ) → manager_progress n u ≡ manager_progress n t + pumped) →
      SameManager u v × ((n : PerChannel ℕ) → manager_progress n v ≡ manager_progress n u + fetched) →
      SameManager s v × (manager_progress (counted n o) v ≡ manager_progress n s + all_steps o + (pumped + fetched))
  manager-goes n s t u v o pumped fetched ends others p f = (
    same_manager_then s t v (manager-same s t ends) (same_manager_then t u v p.0 f.0),
    accepts n.b n.d _ _ _ _ _ (steps o.a) (steps o.b) (steps o.c) (steps o.d) (steps o.e) _ _ _ pumped fetched (ap steps others.0)
        (ap steps others.1) (ap steps others.2)
        (manager-stays (counted n o) s t ends) (p.1 (counted n o)) (f.1 (counted n o)),
  )
    where
      accepts : (nb nd sb sd ra rc re a b c d e offered sent received pumped fetched : ℕ) → a ≡ 0 → c ≡ 0 → e ≡ 0 →
          offered ≡ (nb + b) + (nd + d) + sb + sd + ra + rc + re →
          sent ≡ offered + pumped → received ≡ sent + fetched → received ≡ nb + nd + sb + sd + ra + rc + re + (a + b + c + d + e) + (pumped + fetched)
      accepts nb nd sb sd ra rc re a b c d e offered sent received pumped fetched k l m f g h = omega arith
