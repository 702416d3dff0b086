-- Each call of a bridge has the effect of the same events on the past that it represents.
use Rattle.std.proofs.Common.{◌≡◌, ◌≤◌, ◌+◌, ◌*◌, ◌↔◌, ℕ, Bool, true, false, cond, None, Some, List, [], ◌∷◌, ◌++◌, map, length, take}
use Rattle.std.proofs.Common.{drop, refl, sym, ap, subst, ◌∙◌, append-nil, append_assoc}
use Rattle.std.specs.Prelude.{◌==◌, slice_get}
use Rattle.tl_sides.proofs.Words.{Rules, mask_fits, is_clean, IsLawfulBeat, rules_a, rules_b, rules_c, rules_d, rules_e, Mask, Corrupt, first_none}
use Rattle.tl_sides.proofs.Words.{HeadA, HeadB, HeadC, HeadD, HeadE, BeatOf, left, rest_of, with_home, due, World, offered, pushed, popped, STAGE_CAPACITY}
use Rattle.tl_sides.proofs.Words.{Pipe, Event, Ask, Answer, Mark, Asks, Answers, asked, answered, marks, home_after, homes_from, manager_home}
use Rattle.tl_sides.proofs.Words.{manager_homes, equal_true, not_equal, from_ask, from_answer}
use Rattle.tl_settle.proofs.Noted.{marks_ask, marks_answer}
use Rattle.tl_msg.specs.Firsts.{unless, ◌or_else◌}
use Rattle.tl_ring.specs.Pipe as piping
use Rattle.tl_settle.specs.Books.{Client, Manager, KnowsClient, KnowsManager}
use Rattle.tl_settle.specs.Inner.Noting.{begun_with}
use Rattle.tl_settle.specs.Obeying.{ObeysRules}
use Rattle.tl_settle.specs.OneOrder.{InOneOrder}
use Rattle.tl_sides.specs.ChannelCalls.{pumped, fetched}
use Rattle.tl_sides.specs.Separate.{each_pumped, each_fetched}
use Rattle.tl_sides.specs.Bridges.{Bridge, Past, StandsFor, pump_count, fetch_count, all_pumped, all_fetched, after_pump, after_fetch}
use Rattle.tl_sides.proofs.Sums.{sum_most}

-- the homes of a history with one event more
homes_begun_ask : (t : Bool) (ms : List Mark) (h : HeadA) → homes_from [] (begun_with t (Asks h) ms) ≡ homes_from [] ms
homes_begun_ask true ms h = from_ask [] ms h
homes_begun_ask false ms h = refl

homes_ask : {w : ℕ} (es : List (Event w)) (b : BeatOf HeadA w) → manager_homes (es ++ Ask b ∷ []) ≡ manager_homes es
homes_ask {w} es b = ap (λ ms. homes_from [] ms) (marks_ask es b) ∙ homes_begun_ask (left rules_a w (asked es) == 0) (marks es) b.head

homes_begun_answer : (t : Bool) (ms : List Mark) (h : HeadD) →
    homes_from [] (begun_with t (Answers h) ms) ≡ homes_from [] ms ++ cond t (home_after ms h ∷ []) []
homes_begun_answer true ms h = from_answer [] ms h
homes_begun_answer false ms h = sym (append-nil (homes_from [] ms))

homes_answer : {w : ℕ} (es : List (Event w)) (b : BeatOf HeadD w) →
    manager_homes (es ++ Answer b ∷ []) ≡ manager_homes es ++ cond (left rules_d w (answered es) == 0) (manager_home es b.head ∷ []) []
homes_answer {w} es b = ap (λ ms. homes_from [] ms) (marks_answer es b) ∙ homes_begun_answer (left rules_d w (answered es) == 0) (marks es) b.head

-- the home of a beat is read only if it opens a message
homes_opened : {w : ℕ} (b : BeatOf HeadD w) (homes : List ℕ) (home : ℕ) (rest : List (BeatOf HeadD w)) (n : ℕ) → (n ≡ 0) ↔ (rest ≡ []) →
    homes ++ cond (n == 0) (home ∷ []) [] ≡ with_home rules_d home rest homes
homes_opened b homes home [] n f = ap (λ t. homes ++ cond t (home ∷ []) []) (equal_true n 0 (f.1 refl))
homes_opened b homes home (x ∷ rest) n f =
    ap (λ t. homes ++ cond t (home ∷ []) []) (not_equal n 0 (λ e. let g : (x ∷ rest) ≡ [] = f.0 e in cc)) ∙ append-nil homes

same_homes : {w : ℕ} (homes : List ℕ) (home other : ℕ) (rest : List (BeatOf HeadD w)) (n : ℕ) → (n ≡ 0) ↔ (rest ≡ []) →
    (n ≡ 0 → home ≡ other) → with_home rules_d home rest homes ≡ with_home rules_d other rest homes
same_homes homes home other [] n f e = ap (λ x. homes ++ x ∷ []) (e (f.1 refl))
same_homes homes home other (x ∷ rest) n f e = refl

-- the requests of a history, and its responses, after more of either
pub asked_answers : {w : ℕ} (es : List (Event w)) (bs : List (BeatOf HeadD w)) → asked (es ++ map Answer bs) ≡ asked es
asked_answers [] [] = refl
asked_answers [] (b ∷ bs) = asked_answers [] bs
asked_answers (Ask b ∷ es) bs = ap (λ q. b ∷ q) (asked_answers es bs)
asked_answers (Answer b ∷ es) bs = asked_answers es bs

pub answered_asks : {w : ℕ} (es : List (Event w)) (bs : List (BeatOf HeadA w)) → answered (es ++ map Ask bs) ≡ answered es
answered_asks [] [] = refl
answered_asks [] (b ∷ bs) = answered_asks [] bs
answered_asks (Ask b ∷ es) bs = answered_asks es bs
answered_asks (Answer b ∷ es) bs = ap (λ q. b ∷ q) (answered_asks es bs)

-- requests give no message of D a home
pub homes_asks : {w : ℕ} (es : List (Event w)) (bs : List (BeatOf HeadA w)) → manager_homes (es ++ map Ask bs) ≡ manager_homes es
homes_asks es [] = ap manager_homes (append-nil es)
homes_asks es (b ∷ bs) = ap manager_homes (sym (append_assoc es (Ask b ∷ []) (map Ask bs))) ∙ homes_asks (es ++ Ask b ∷ []) bs ∙ homes_ask es b

-- a beat of D crosses with its home only if it opens a message
pub home_given : {w v : ℕ} (x : World HeadD w v) (b : BeatOf HeadD w) (home given : ℕ) →
    (left rules_d w x.accepted ≡ 0) ↔ (rest_of rules_d w x.accepted ≡ []) → (left rules_d w x.accepted ≡ 0 → home ≡ given) →
    offered rules_d b home x ≡ offered rules_d b given x
home_given {w} {v} x b home given between right = ap (λ hs. record x {
  accepted = x.accepted ++ b ∷ [];
  homes = hs;
  stage = drop (length (due rules_d w v x.accepted x.homes)) (due rules_d w v (x.accepted ++ b ∷ []) hs);
}) (same_homes x.homes home given (rest_of rules_d w x.accepted) (left rules_d w x.accepted) between right)

-- the homes of a history that accepts a beat of D, after these beats were accepted
pub homes_given : {w : ℕ} (es : List (Event w)) (b : BeatOf HeadD w) (accepted : List (BeatOf HeadD w)) (homes : List ℕ) →
    (left rules_d w accepted ≡ 0) ↔ (rest_of rules_d w accepted ≡ []) → answered es ≡ accepted → manager_homes es ≡ homes →
    manager_homes (es ++ Answer b ∷ []) ≡ with_home rules_d (manager_home es b.head) (rest_of rules_d w accepted) homes
homes_given {w} es b accepted homes between same so_far =
    let given : ℕ = manager_home es b.head in
    homes_answer es b ∙
    ap (λ q. manager_homes es ++ cond (left rules_d w q == 0) (given ∷ []) []) same ∙
    ap (λ q. q ++ cond (left rules_d w accepted == 0) (given ∷ []) []) so_far ∙
    homes_opened b homes given (rest_of rules_d w accepted) (left rules_d w accepted) between

module _ {C M : ℕ} (s : Bridge C M) (x : Past C M) (h : StandsFor s x) where
  -- the crossings advance, and the beats of A and D that were accepted and taken, and the homes, stay
  pub go_on : (a : Pipe HeadA M) (b : Pipe HeadB C) (c : Pipe HeadC M) (d : Pipe HeadD C) (e : Pipe HeadE M)
      (xa : World HeadA C M) (xb : World HeadB M C) (xc : World HeadC C M) (xd : World HeadD M C) (xe : World HeadE C M) →
      piping.StandsFor rules_a a xa → piping.StandsFor rules_b b xb → piping.StandsFor rules_c c xc → piping.StandsFor rules_d d xd →
      piping.StandsFor rules_e e xe → (xa.accepted ≡ x.a.accepted) × (xa.taken ≡ x.a.taken) →
      (xd.accepted ≡ x.d.accepted) × (xd.taken ≡ x.d.taken) × (xd.homes ≡ x.d.homes) →
      StandsFor (record s { a = a; b = b; c = c; d = d; e = e }) (record x { a = xa; b = xb; c = xc; d = xd; e = xe })
  go_on a b c d e xa xb xc xd xe ka kb kc kd ke same_a same_d = record {
    a = ka;
    b = kb;
    c = kc;
    d = kd;
    e = ke;
    client_asked = h.client_asked ∙ sym same_a.0;
    client_answered = h.client_answered ∙ sym same_d.1;
    manager_asked = h.manager_asked ∙ sym same_a.1;
    manager_answered = h.manager_answered ∙ sym same_d.0;
    homes = h.homes ∙ sym same_d.2;
    client = h.client;
    manager = h.manager;
    client_obeys = h.client_obeys;
    manager_obeys = h.manager_obeys;
    order = h.order;
  }

  -- the events between the ends of one crossing, and its closing
  pub with_a : (p : Pipe HeadA M) (y : World HeadA C M) → piping.StandsFor rules_a p y → (y.accepted ≡ x.a.accepted) × (y.taken ≡ x.a.taken) →
      StandsFor (record s { a = p }) (record x { a = y })
  with_a p y k same = go_on p s.b s.c s.d s.e y x.b x.c x.d x.e k h.b h.c h.d h.e same (refl, refl, refl)

  pub with_b : (p : Pipe HeadB C) (y : World HeadB M C) → piping.StandsFor rules_b p y → StandsFor (record s { b = p }) (record x { b = y })
  with_b p y k = go_on s.a p s.c s.d s.e x.a y x.c x.d x.e h.a k h.c h.d h.e (refl, refl) (refl, refl, refl)

  pub with_c : (p : Pipe HeadC M) (y : World HeadC C M) → piping.StandsFor rules_c p y → StandsFor (record s { c = p }) (record x { c = y })
  with_c p y k = go_on s.a s.b p s.d s.e x.a x.b y x.d x.e h.a h.b k h.d h.e (refl, refl) (refl, refl, refl)

  pub with_d : (p : Pipe HeadD C) (y : World HeadD M C) → piping.StandsFor rules_d p y →
      (y.accepted ≡ x.d.accepted) × (y.taken ≡ x.d.taken) × (y.homes ≡ x.d.homes) → StandsFor (record s { d = p }) (record x { d = y })
  with_d p y k same = go_on s.a s.b s.c p s.e x.a x.b x.c y x.e h.a h.b h.c k h.e (refl, refl) same

  pub with_e : (p : Pipe HeadE M) (y : World HeadE C M) → piping.StandsFor rules_e p y → StandsFor (record s { e = p }) (record x { e = y })
  with_e p y k = go_on s.a s.b s.c s.d p x.a x.b x.c x.d y h.a h.b h.c h.d k (refl, refl) (refl, refl, refl)

  -- the client's side advances on A and D
  pub client_goes_on : (a : Pipe HeadA M) (d : Pipe HeadD C) (book : Client) (es : List (Event C)) (xa : World HeadA C M) (xd : World HeadD M C) →
      piping.StandsFor rules_a a xa → piping.StandsFor rules_d d xd → asked es ≡ xa.accepted → answered es ≡ xd.taken → KnowsClient book es →
      ObeysRules es → InOneOrder es x.manager → xa.taken ≡ x.a.taken → (xd.accepted ≡ x.d.accepted) × (xd.homes ≡ x.d.homes) →
      StandsFor (record s { a = a; d = d; client = book }) (record x { client = es; a = xa; d = xd })
  client_goes_on a d book es xa xd ka kd asks answers knows obeys order taken same = record {
    a = ka;
    b = h.b;
    c = h.c;
    d = kd;
    e = h.e;
    client_asked = asks;
    client_answered = answers;
    manager_asked = h.manager_asked ∙ sym taken;
    manager_answered = h.manager_answered ∙ sym same.0;
    homes = h.homes ∙ sym same.1;
    client = knows;
    manager = h.manager;
    client_obeys = obeys;
    manager_obeys = h.manager_obeys;
    order = order;
  }

  -- and the manager's side
  pub manager_goes_on : (a : Pipe HeadA M) (d : Pipe HeadD C) (book : Manager) (es : List (Event M)) (xa : World HeadA C M) (xd : World HeadD M C) →
      piping.StandsFor rules_a a xa → piping.StandsFor rules_d d xd → asked es ≡ xa.taken → answered es ≡ xd.accepted →
      manager_homes es ≡ xd.homes → KnowsManager book es → ObeysRules es → InOneOrder x.client es → xa.accepted ≡ x.a.accepted → xd.taken ≡ x.d.taken →
      StandsFor (record s { a = a; d = d; manager = book }) (record x { manager = es; a = xa; d = xd })
  manager_goes_on a d book es xa xd ka kd asks answers homes knows obeys order accepted taken = record {
    a = ka;
    b = h.b;
    c = h.c;
    d = kd;
    e = h.e;
    client_asked = h.client_asked ∙ sym accepted;
    client_answered = h.client_answered ∙ sym taken;
    manager_asked = asks;
    manager_answered = answers;
    homes = homes;
    client = h.client;
    manager = knows;
    client_obeys = h.client_obeys;
    manager_obeys = obeys;
    order = order;
  }

-- the head of a lawful beat has no fault
pub lawful_head : {H : Type 0} (r : Rules H) {w : ℕ} (b : BeatOf H w) → IsLawfulBeat r b → r.fault b.head ≡ None
lawful_head r b e = first_none (r.fault b.head) (unless (mask_fits r b) Mask or_else unless (is_clean r b) Corrupt) e

-- the first beat of an inbox
pub some_taken : {A : Type 0} (bs : List A) (b : A) → slice_get bs 0 ≡ Some b → take 1 bs ≡ b ∷ []
some_taken [] b e = cc
some_taken (x ∷ bs) b e = let f : x ≡ b = cc in ap (λ y. y ∷ []) f

pub none_taken : {A : Type 0} (bs : List A) → slice_get bs 0 ≡ None → take 1 bs ≡ []
none_taken [] e = refl
none_taken (x ∷ bs) e = cc

-- the property of a pump or a fetch of a crossing that moves n of its beats by `step`, and so makes another pipe of it
abbrev pub Moves : {H : Type 0} (r : Rules H) (w : ℕ) {v : ℕ} (p p' : Pipe H v) (result n : ℕ) (step : ℕ → World H w v → World H w v)
    (next : Pipe H v → Pipe H v) → Type 0
Moves {H} r w {v} p p' result n step next = record {
  count : result ≡ n;
  moved : (x : World H w v) → piping.StandsFor r p x → piping.StandsFor r p' (step result x);
  most : result ≤ STAGE_CAPACITY;
  is : p' ≡ next p;
}

pub moved_by : {H : Type 0} (r : Rules H) (w : ℕ) {v : ℕ} (p p' : Pipe H v) (result n : ℕ) (step : ℕ → World H w v → World H w v)
    (next : Pipe H v → Pipe H v) →
    Moves r w p p' result n step next → (x : World H w v) → piping.StandsFor r p x → piping.StandsFor r p' (step n x)
moved_by r w p p' result n step next e x h = subst (λ k. piping.StandsFor r p' (step k x)) e.count (e.moved x h)

module _ {C M : ℕ} where
  -- and the property of one on all five
  abbrev pub AllMove : (s s' : Bridge C M) (result total : ℕ) (next : Past C M → Past C M) (each : Bridge C M → Bridge C M) → Type 0
  AllMove s s' result total next each = record {
    count : result ≡ total;
    moved : (x : Past C M) → StandsFor s x → StandsFor s' (next x);
    most : result ≤ 5 * STAGE_CAPACITY;
    each : s' ≡ each s;
  }

  pub all_pushed : {inside s : Bridge C M} → inside ≡ s →
      (a : Pipe HeadA M) (b : Pipe HeadB C) (c : Pipe HeadC M) (d : Pipe HeadD C) (e : Pipe HeadE M)
      (i j k l m : ℕ) → Moves rules_a C inside.a a i (pump_count inside.a) pushed pumped → Moves rules_b M inside.b b j (pump_count inside.b) pushed pumped →
      Moves rules_c C inside.c c k (pump_count inside.c) pushed pumped → Moves rules_d M inside.d d l (pump_count inside.d) pushed pumped →
      Moves rules_e C inside.e e m (pump_count inside.e) pushed pumped →
      AllMove s (record inside { a = a; b = b; c = c; d = d; e = e }) (i + j + k + l + m) (all_pumped s) (after_pump s) each_pumped
  all_pushed {inside} view a b c d e i j k l m on_a on_b on_c on_d on_e =
      subst (λ s. AllMove s (record inside { a = a; b = b; c = c; d = d; e = e }) (i + j + k + l + m) (all_pumped s) (after_pump s) each_pumped) view (record {
        count = λ t. on_a.count t + on_b.count t + on_c.count t + on_d.count t + on_e.count t;
        moved = λ x h. go_on inside x h a b c d e (pushed (pump_count inside.a) x.a) (pushed (pump_count inside.b) x.b)
            (pushed (pump_count inside.c) x.c)
            (pushed (pump_count inside.d) x.d) (pushed (pump_count inside.e) x.e)
            (moved_by rules_a C inside.a a i (pump_count inside.a) pushed pumped on_a x.a h.a)
            (moved_by rules_b M inside.b b j (pump_count inside.b) pushed pumped on_b x.b h.b)
            (moved_by rules_c C inside.c c k (pump_count inside.c) pushed pumped on_c x.c h.c)
            (moved_by rules_d M inside.d d l (pump_count inside.d) pushed pumped on_d x.d h.d)
            (moved_by rules_e C inside.e e m (pump_count inside.e) pushed pumped on_e x.e h.e)
            (refl, refl) (refl, refl, refl);
        most = sum_most i j k l m on_a.most on_b.most on_c.most on_d.most on_e.most;
        each = λ t. record inside { a = on_a.is t; b = on_b.is t; c = on_c.is t; d = on_d.is t; e = on_e.is t };
      })

  pub all_popped : {inside s : Bridge C M} → inside ≡ s →
      (a : Pipe HeadA M) (b : Pipe HeadB C) (c : Pipe HeadC M) (d : Pipe HeadD C) (e : Pipe HeadE M)
      (i j k l m : ℕ) → Moves rules_a C inside.a a i (fetch_count inside.a) popped fetched → Moves rules_b M inside.b b j (fetch_count inside.b) popped fetched →
      Moves rules_c C inside.c c k (fetch_count inside.c) popped fetched → Moves rules_d M inside.d d l (fetch_count inside.d) popped fetched →
      Moves rules_e C inside.e e m (fetch_count inside.e) popped fetched →
      AllMove s (record inside { a = a; b = b; c = c; d = d; e = e }) (i + j + k + l + m) (all_fetched s) (after_fetch s) each_fetched
  all_popped {inside} view a b c d e i j k l m on_a on_b on_c on_d on_e =
      subst (λ s. AllMove s (record inside { a = a; b = b; c = c; d = d; e = e }) (i + j + k + l + m) (all_fetched s) (after_fetch s) each_fetched) view (record {
        count = λ t. on_a.count t + on_b.count t + on_c.count t + on_d.count t + on_e.count t;
        moved = λ x h. go_on inside x h a b c d e (popped (fetch_count inside.a) x.a) (popped (fetch_count inside.b) x.b)
            (popped (fetch_count inside.c) x.c)
            (popped (fetch_count inside.d) x.d) (popped (fetch_count inside.e) x.e)
            (moved_by rules_a C inside.a a i (fetch_count inside.a) popped fetched on_a x.a h.a)
            (moved_by rules_b M inside.b b j (fetch_count inside.b) popped fetched on_b x.b h.b)
            (moved_by rules_c C inside.c c k (fetch_count inside.c) popped fetched on_c x.c h.c)
            (moved_by rules_d M inside.d d l (fetch_count inside.d) popped fetched on_d x.d h.d)
            (moved_by rules_e C inside.e e m (fetch_count inside.e) popped fetched on_e x.e h.e)
            (refl, refl) (refl, refl, refl);
        most = sum_most i j k l m on_a.most on_b.most on_c.most on_d.most on_e.most;
        each = λ t. record inside { a = on_a.is t; b = on_b.is t; c = on_c.is t; d = on_d.is t; e = on_e.is t };
      })
