-- The same side of the same bridge, through several calls.
use Rattle.std.proofs.Common.{◌≡◌, ℕ, sym, subst}
use Rattle.tl_sides.proofs.Words.{same_send, same_send_then, same_take_then, still_pair, SameSend, SameTake}
use Rattle.tl_sides.specs.Sides.{ClientState, ManagerState, AreSides, SameClient, SameManager}

module _ {A : Type 0} {C M : ℕ} where
  pub same_client_then : (s t u : ClientState A C M) → SameClient s t → SameClient t u → SameClient s u
  same_client_then s t u f g = record {
    a = same_send_then s.a t.a u.a f.a g.a;
    b = same_take_then s.b t.b u.b f.b g.b;
    c = same_send_then s.c t.c u.c f.c g.c;
    d = same_take_then s.d t.d u.d f.d g.d;
    e = same_send_then s.e t.e u.e f.e g.e;
  }

  pub same_manager_then : (s t u : ManagerState A C M) → SameManager s t → SameManager t u → SameManager s u
  same_manager_then s t u f g = record {
    a = same_take_then s.a t.a u.a f.a g.a;
    b = same_send_then s.b t.b u.b f.b g.b;
    c = same_take_then s.c t.c u.c f.c g.c;
    d = same_send_then s.d t.d u.d f.d g.d;
    e = same_take_then s.e t.e u.e f.e g.e;
  }

  -- two sides stay those of one bridge while each advances by itself
  pub still_sides : (s s' : ClientState A C M) (t t' : ManagerState A C M) → SameClient s s' → SameManager t t' → AreSides s t → AreSides s' t'
  still_sides s s' t t' client manager sides = record {
    a = still_pair s.a s'.a t.a t'.a client.a manager.a sides.a;
    b = still_pair t.b t'.b s.b s'.b manager.b client.b sides.b;
    c = still_pair s.c s'.c t.c t'.c client.c manager.c sides.c;
    d = still_pair t.d t'.d s.d s'.d manager.d client.d sides.d;
    e = still_pair s.e s'.e t.e t'.e client.e manager.e sides.e;
  }

-- a call that moves on the channels that a side takes, and leaves those that it sends
module _ {A : Type 0} {C M : ℕ} (s s' : ClientState A C M) where
  pub client_takes : s'.a ≡ s.a → s'.c ≡ s.c → s'.e ≡ s.e → SameTake s.b s'.b → SameTake s.d s'.d → SameClient s s'
  client_takes a c e on_b on_d = record {
    a = subst (λ t. SameSend s.a t) (sym a) (same_send s.a);
    b = on_b;
    c = subst (λ t. SameSend s.c t) (sym c) (same_send s.c);
    d = on_d;
    e = subst (λ t. SameSend s.e t) (sym e) (same_send s.e);
  }

module _ {A : Type 0} {C M : ℕ} (t t' : ManagerState A C M) where
  pub manager_takes : t'.b ≡ t.b → t'.d ≡ t.d → SameTake t.a t'.a → SameTake t.c t'.c → SameTake t.e t'.e → SameManager t t'
  manager_takes b d on_a on_c on_e = record {
    a = on_a;
    b = subst (λ x. SameSend t.b x) (sym b) (same_send t.b);
    c = on_c;
    d = subst (λ x. SameSend t.d x) (sym d) (same_send t.d);
    e = on_e;
  }
