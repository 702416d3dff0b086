-- A round accepts at most one beat of a channel, and the last one none.
use Rattle.tl_run.proofs.Names.{◌≡◌, ◌+◌, ◌<◌, ℕ, sym, subst, arith, PerChannel, Offered, Accepted, NotReady, Stopped, Stop, steps, counted, all_stopped}
use Rattle.tl_run.specs.Scripts.{AreBelow}

one-more : (n k : ℕ) (o : Offered) → n < k → n + steps o < k + 1
one-more n k Accepted l = omega (arith, l)
one-more n k NotReady l = omega (arith, l)
one-more n k (Stopped stop) l = omega (arith, l)

pub counted-below : (n : PerChannel ℕ) (k : ℕ) (o : PerChannel Offered) → AreBelow n k → AreBelow (counted n o) (k + 1)
counted-below n k o l = record {
  a = one-more n.a k o.a l.a;
  b = one-more n.b k o.b l.b;
  c = one-more n.c k o.c l.c;
  d = one-more n.d k o.d l.d;
  e = one-more n.e k o.e l.e;
}

pub stopped-below : (n m : PerChannel ℕ) (k : ℕ) (o : PerChannel Offered) (stops : PerChannel Stop) → m ≡ counted n o → o ≡ all_stopped stops →
    AreBelow n k → AreBelow m k
stopped-below n m k o stops is stopped l =
    subst (λ q. AreBelow q k) (sym is) (subst (λ q. AreBelow (counted n q) k) (sym stopped) (record {
      a = omega (arith, l.a);
      b = omega (arith, l.b);
      c = omega (arith, l.c);
      d = omega (arith, l.d);
      e = omega (arith, l.e);
    }))
