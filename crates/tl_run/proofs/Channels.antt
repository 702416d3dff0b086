-- A channel of a run in one thread: its list and its count, and its state.
use Rattle.tl_run.proofs.Names.{◌≡◌, ℕ, Option, None, List, refl, sym, ap, subst, ◌∙◌, slice_get, inl, HeadA, HeadD, BeatOf, SideFault, Beats}
use Rattle.tl_run.proofs.Names.{PerChannel, Bridge, Past, StandsFor, IsPart, IsAt, SendingChannel, RestsIn, ◌≤◌, ◌-◌}
use Rattle.tl_msg.specs.declared.head.HeadB.{HeadB}
use Rattle.tl_msg.specs.declared.head.HeadC.{HeadC}
use Rattle.tl_msg.specs.declared.head.HeadE.{HeadE}

module _ {S P H : Type 0} {w v : ℕ} (q : SendingChannel S P H w v) where
  -- the same in every past that a side represents
  abbrev pub RestsAt : List (BeatOf H w) → ℕ → S → Option SideFault → Type 0
  RestsAt bs n s o = (x : P) → q.Stands s x → RestsIn bs n (q.stops x) (q.crossing x) o

  pub rests_none : (bs : List (BeatOf H w)) (n : ℕ) (s : S) → slice_get bs n ≡ None → RestsAt bs n s None
  rests_none bs n s past = λ x stands. inl past

-- one of the five channels: its list of beats, its count, and how that is set
pub record Going (C M : ℕ) (B : Type 0) : Type 0 where
  pub list : Beats C M → List B
  pub count : PerChannel ℕ → ℕ
  pub set : ℕ → PerChannel ℕ → PerChannel ℕ
  -- setting it to what it is changes nothing, and it is what it was set to last
  pub same : (n : PerChannel ℕ) → set (count n) n ≡ n
  pub counts : (k : ℕ) (n : PerChannel ℕ) → count (set k n) ≡ k
  pub sets : (k l : ℕ) (n : PerChannel ℕ) → set k (set l n) ≡ set k n

module _ {C M : ℕ} where
  abbrev pub going_a : Going C M (BeatOf HeadA C)
  going_a = record {
    list = λ near. near.a;
    count = λ n. n.a;
    set = λ k n. record n { a = k };
    same = λ _. refl;
    counts = λ _ _. refl;
    sets = λ _ _ _. refl;
  }

  abbrev pub going_b : Going C M (BeatOf HeadB M)
  going_b = record {
    list = λ near. near.b;
    count = λ n. n.b;
    set = λ k n. record n { b = k };
    same = λ _. refl;
    counts = λ _ _. refl;
    sets = λ _ _ _. refl;
  }

  abbrev pub going_c : Going C M (BeatOf HeadC C)
  going_c = record {
    list = λ near. near.c;
    count = λ n. n.c;
    set = λ k n. record n { c = k };
    same = λ _. refl;
    counts = λ _ _. refl;
    sets = λ _ _ _. refl;
  }

  abbrev pub going_d : Going C M (BeatOf HeadD M)
  going_d = record {
    list = λ near. near.d;
    count = λ n. n.d;
    set = λ k n. record n { d = k };
    same = λ _. refl;
    counts = λ _ _. refl;
    sets = λ _ _ _. refl;
  }

  abbrev pub going_e : Going C M (BeatOf HeadE C)
  going_e = record {
    list = λ near. near.e;
    count = λ n. n.e;
    set = λ k n. record n { e = k };
    same = λ _. refl;
    counts = λ _ _. refl;
    sets = λ _ _ _. refl;
  }

  -- a bridge represents all pasts that another one represented
  abbrev pub Stays : Bridge C M → Bridge C M → Type 0
  Stays s t = (x : Past C M) → StandsFor s x → StandsFor t x

  pub stays_same : (s : Bridge C M) → Stays s s
  stays_same s x stands = stands

  module _ {B : Type 0} (k : Going C M B) where
    -- one channel advanced from one count to another in a past, whatever the states of the others
    pub record HasPassed (discarded : ℕ) (held : List B) (at : ℕ) (x : Past C M) (later : ℕ) (t : Bridge C M) : Type 0 where
      pub past : Past C M
      pub stands : StandsFor t past
      -- for every list of which these are held
      pub is_at : (near : Beats C M) (n : PerChannel ℕ) (far : Beats M C) → IsPart discarded held (k.list near) → k.count n ≡ at → IsAt near n far x →
          IsAt near (k.set later n) far past

    abbrev pub Passes : (discarded : ℕ) → (held : List B) → (at : ℕ) → (s : Bridge C M) → (later : ℕ) → (t : Bridge C M) → Type 0
    Passes discarded held at s later t = (x : Past C M) → StandsFor s x → HasPassed discarded held at x later t

    -- it did not at all
    pub passes_stays : (discarded : ℕ) (held : List B) (at : ℕ) (s t : Bridge C M) → Stays s t → Passes discarded held at s at t
    passes_stays discarded held at s t stays x stands = record {
      past = x;
      stands = stays x stands;
      is_at = λ near n far part here i. subst (λ m. IsAt near m far x) (sym (k.same n) ∙ ap (λ l. k.set l n) here) i;
    }

    pub passes_none : (discarded : ℕ) (held : List B) (at : ℕ) (s : Bridge C M) → Passes discarded held at s at s
    passes_none discarded held at s = passes_stays discarded held at s s (stays_same s)

    -- or by several beats, one after another
    pub passes_then : (discarded : ℕ) (held : List B) (i j l : ℕ) (s t u : Bridge C M) → Passes discarded held i s j t →
        Passes discarded held j t l u → Passes discarded held i s l u
    passes_then discarded held i j l s t u f g x stands =
        let p = f x stands in
        let q = g p.past p.stands in
        record {
          past = q.past;
          stands = q.stands;
          is_at = λ near n far part here at.
              subst (λ m. IsAt near m far q.past) (k.sets l j n) (q.is_at near (k.set j n) far part (k.counts j n) (p.is_at near n far part here at));
        }

-- the effect on a channel that went ahead, from this count and side to that one, if its next beat was refused for this
-- fault, or for none
module _ {C M : ℕ} {H : Type 0} {w v : ℕ} (k : Going C M (BeatOf H w)) (q : SendingChannel (Bridge C M) (Past C M) H w v) where
  pub record HasGone (discarded : ℕ) (held : List (BeatOf H w)) (at : ℕ) (s : Bridge C M) (later : ℕ) (t : Bridge C M) (o : Option SideFault) :
      Type 0 where
    pub on : at ≤ later
    pub passes : Passes k discarded held at s later t
    pub stays : later ≡ at → Stays s t
    pub rests : later ≡ at → RestsAt q held (at - discarded) s o
