-- Beats that are handed on while a text is read: those that were consumed go, and more is read.
use Rattle.tl_answer.proofs.Names.{◌≡◌, ◌≤◌, ◌+◌, ◌^◌, ◌++◌, ◌∙◌, ℕ, List, [], length, take, drop, refl, sym, ap, subst, arith}
use Rattle.tl_answer.proofs.Names.{append-nil, append_assoc, length-append, take-append-drop, length-take-le}
use Rattle.tl_answer.proofs.Names.{Beats, HasShortLists, Discarded, GoesOn, HasCounts, HasGrown, HasRemoved, IsRestOf}
use Rattle.tl_answer.proofs.Names.{more_discarded, none_gone, Line, Script, CanJudge, near, AreCounted, AreFew, Follow, GoesWith, all_of}
use Rattle.tl_trace.specs.declared.script.Counts.{Counts}
use Rattle.tl_check.specs.Inner.Passing.{IsWithin}
use Rattle.tl_parts.specs.Parts.{AreEnd, ArePart, AreDiscarded, IsEnd, IsPart, none_counted}
use Rattle.tl_check.specs.declared.judge.Judge.{Judge}

-- ---- one list

module _ {X : Type 0} where
  part : (n : ℕ) (discarded held beats : List X) → n ≡ length discarded → GoesOn (discarded ++ held) beats → IsPart n held beats
  part n discarded held beats is on = record { before = discarded; after = on.0; whole = on.1; place = is }

  end-of : (n : ℕ) (discarded held : List X) → n ≡ length discarded → IsEnd n held (discarded ++ held)
  end-of n discarded held is = record { before = discarded; whole = refl; place = is }

  -- beats that begin with those that were removed and those that are left begin with those that were held
  before-going : (discarded held left beats : List X) (n : ℕ) → left ≡ drop n held →
      GoesOn ((discarded ++ take n held) ++ left) beats → GoesOn (discarded ++ held) beats
  before-going discarded held left beats n is on =
      let same : (discarded ++ take n held) ++ left ≡ discarded ++ held =
      append_assoc discarded (take n held) left ∙
      ap (λ (xs : List X). discarded ++ xs) (ap (λ (xs : List X). take n held ++ xs) is ∙ take-append-drop n held) in
      subst (λ xs. GoesOn xs beats) same on

  -- and with those that were held before another piece was read
  before-growing : (discarded held more beats : List X) → GoesOn held more → GoesOn (discarded ++ more) beats → GoesOn (discarded ++ held) beats
  before-growing discarded held more beats grown on = (
    grown.0 ++ on.0,
    on.1 ∙ ap (λ (xs : List X). xs ++ on.0) (ap (λ (xs : List X). discarded ++ xs) grown.1 ∙ sym (append_assoc discarded held grown.0)) ∙
        append_assoc (discarded ++ held) grown.0 on.0,
  )

  longer-by : (discarded held : List X) (n before after : ℕ) → n ≤ length held → before ≡ length discarded → after ≡ before + n →
      after ≡ length (discarded ++ take n held)
  longer-by discarded held n before after few was is =
      let some = length-take-le n held few in
      let sum = length-append discarded (take n held) in
      omega (arith, some, sum, was, is)

  pub within : (discarded held more : List X) (n at far : ℕ) → n ≡ length discarded → length (discarded ++ more) ≤ 2 ^ 40 → GoesOn held more →
      IsWithin n at far (length held) → IsWithin n at far (length more)
  within discarded held more n at far is few grown w =
      let sum = length-append discarded more in
      let all : length more ≡ length held + length grown.0 = ap length grown.1 ∙ length-append held grown.0 in
      record { from = w.from; to = omega (arith, w.to, all); few = omega (arith, is, few, sum); few_far = w.few_far }

-- ---- a script

module _ {C M : ℕ} where
  pub all-near : (lines : List Line) (discarded : Discarded C M) (s : Script C M) → IsRestOf lines discarded s → all_of discarded s ≡ near C M lines
  all-near lines discarded s is = rw is.a (rw is.b (rw is.c (rw is.d (rw is.e refl))))

  -- that many more are counted
  pub counted-on : (discarded : Discarded C M) (s : Script C M) (before counts after : Counts) → HasCounts counts s →
      AreDiscarded before counts after → AreCounted before discarded →
      AreCounted after (more_discarded discarded counts s)
  counted-on discarded s before counts after few went is = record {
    a = longer-by discarded.a s.a.items counts.a before.a after.a few.a is.a went.a;
    b = longer-by discarded.b s.b.items counts.b before.b after.b few.b is.b went.b;
    c = longer-by discarded.c s.c.items counts.c before.c after.c few.c is.c went.c;
    d = longer-by discarded.d s.d.items counts.d before.d after.d few.d is.d went.d;
    e = longer-by discarded.e s.e.items counts.e before.e after.e few.e is.e went.e;
  }

  -- the beats that the consumer advanced over were removed, and more were read after them
  pub goes-on : (Can Now : Script C M → Type 0) (Has Had : Beats C M → Type 0) (discarded : Discarded C M) (s rest more : Script C M)
      (before counts after : Counts) →
      HasCounts counts s → AreDiscarded before counts after → HasRemoved counts s rest → HasGrown rest more → Now more →
      ((beats : Beats C M) → ArePart before s beats → Had beats → Has beats) →
      GoesWith before Can Had discarded s → GoesWith after Now Has (more_discarded discarded counts s) more
  goes-on Can Now Has Had discarded s rest more before counts after few went left grown now on h = record {
    counted = counted-on discarded s before counts after few went h.counted;
    can = now;
    has = λ beats f.
        let follow : Follow discarded s beats = record {
          a = before-going discarded.a s.a.items rest.a.items beats.a counts.a left.a
              (before-growing (discarded.a ++ take counts.a s.a.items) rest.a.items more.a.items beats.a grown.a f.a);
          b = before-going discarded.b s.b.items rest.b.items beats.b counts.b left.b
              (before-growing (discarded.b ++ take counts.b s.b.items) rest.b.items more.b.items beats.b grown.b f.b);
          c = before-going discarded.c s.c.items rest.c.items beats.c counts.c left.c
              (before-growing (discarded.c ++ take counts.c s.c.items) rest.c.items more.c.items beats.c grown.c f.c);
          d = before-going discarded.d s.d.items rest.d.items beats.d counts.d left.d
              (before-growing (discarded.d ++ take counts.d s.d.items) rest.d.items more.d.items beats.d grown.d f.d);
          e = before-going discarded.e s.e.items rest.e.items beats.e counts.e left.e
              (before-growing (discarded.e ++ take counts.e s.e.items) rest.e.items more.e.items beats.e grown.e f.e);
        } in
        let is = h.counted in
        on beats (record {
          a = part before.a discarded.a s.a.items beats.a is.a follow.a;
          b = part before.b discarded.b s.b.items beats.b is.b follow.b;
          c = part before.c discarded.c s.c.items beats.c is.c follow.c;
          d = part before.d discarded.d s.d.items beats.d is.d follow.d;
          e = part before.e discarded.e s.e.items beats.e is.e follow.e;
        }) (h.has beats follow);
  }

  -- if no beat was removed, those that the script holds can be counted
  pub short-lists : (s : Script C M) → AreFew none_gone s → HasShortLists s
  short-lists s few = record { few_a = few.few_a; few_b = few.few_b; few_c = few.few_c; few_d = few.few_d; few_e = few.few_e }

  -- a consumer that has consumed nothing
  pub new-goes : (Can : Script C M → Type 0) (Has : Beats C M → Type 0) (count : Counts) → count ≡ none_counted → (s : Script C M) → Can s →
      ((beats : Beats C M) → Has beats) →
      GoesWith count Can Has none_gone s
  new-goes Can Has count none s can has = record {
    counted = record { a = ap (λ q. q.a) none; b = ap (λ q. q.b) none; c = ap (λ q. q.c) none; d = ap (λ q. q.d) none; e = ap (λ q. q.e) none };
    can = can;
    has = λ beats f. has beats;
  }

  -- a judge can go on with more
  pub can-judge : (judge : Judge C M) (discarded : Discarded C M) (rest more : Script C M) → AreCounted judge.discarded discarded → AreFew discarded more →
      HasGrown rest more → CanJudge judge rest → CanJudge judge more
  can-judge judge discarded rest more is few grown can = record {
    a = within discarded.a rest.a.items more.a.items judge.discarded.a judge.a.at judge.a.far is.a few.few_a grown.a can.a;
    b = within discarded.b rest.b.items more.b.items judge.discarded.b judge.b.at judge.b.far is.b few.few_b grown.b can.b;
    c = within discarded.c rest.c.items more.c.items judge.discarded.c judge.c.at judge.c.far is.c few.few_c grown.c can.c;
    d = within discarded.d rest.d.items more.d.items judge.discarded.d judge.d.at judge.d.far is.d few.few_d grown.d can.d;
    e = within discarded.e rest.e.items more.e.items judge.discarded.e judge.e.at judge.e.far is.e few.few_e grown.e can.e;
  }

  -- at the end
  module _ (Can : Script C M → Type 0) (Has : Beats C M → Type 0) (count : Counts) (discarded : Discarded C M) (s : Script C M)
      (h : GoesWith count Can Has discarded s) where
    pub are-end : AreEnd count s (all_of discarded s)
    are-end = let is = h.counted in record {
      a = end-of count.a discarded.a s.a.items is.a;
      b = end-of count.b discarded.b s.b.items is.b;
      c = end-of count.c discarded.c s.c.items is.c;
      d = end-of count.d discarded.d s.d.items is.d;
      e = end-of count.e discarded.e s.e.items is.e;
    }

    pub has-all : Has (all_of discarded s)
    has-all = h.has (all_of discarded s) (record {
      a = ([], sym (append-nil (discarded.a ++ s.a.items)));
      b = ([], sym (append-nil (discarded.b ++ s.b.items)));
      c = ([], sym (append-nil (discarded.c ++ s.c.items)));
      d = ([], sym (append-nil (discarded.d ++ s.d.items)));
      e = ([], sym (append-nil (discarded.e ++ s.e.items)));
    })
