-- The clock of a side through its calls.
use Rattle.std.proofs.Common.{◌≡◌, ◌≤◌, ◌<◌, ◌++◌, ◌∷◌, ℕ, suc, Option, Some, List, [], map, refl, sym, ap, subst, ◌∙◌, arith, append-nil}
use Rattle.std.proofs.Common.{append_assoc}
use Rattle.std.proofs.lemmas.List.{map-append}
use mathlib.Core.List.{IsPrefix}
use Rattle.tl_ring.specs.Halves.{Heard, all_stamped}
use Rattle.tl_ring.specs.Halves as halves
use Rattle.tl_ring.specs.declared.stamped.Stamped.{Stamped}
use Rattle.tl_settle.proofs.Timing.{time_goes_on}
use Rattle.tl_settle.specs.Clocks.{Sent, items, Way, client_way, manager_way, KeepsTime, TimeGoesOn}
use Rattle.tl_settle.specs.OneOrder.{Timed}
use Rattle.tl_sides.proofs.Words.{Rules, rules_a, rules_d, HeadA, HeadD, BeatOf, World, Sending, Taking, Sends, due, Event, Ask, Answer, asked, answered}
use Rattle.tl_sides.proofs.Words.{asked_ask, answered_answer, sent_times, received_times, clock, sent}
use Rattle.tl_sides.specs.Sides.{with_times}

-- ---- items with times, as a ring and as the definitions of one order have them

pub times_append : {X : Type 0} (xs ys : List (Stamped X)) → with_times (xs ++ ys) ≡ with_times xs ++ with_times ys
times_append xs ys = map-append (λ s. record { item = s.item; time = s.stamp.time }) xs ys

pub times_items : {X : Type 0} (xs : List (Stamped X)) → items (with_times xs) ≡ halves.items xs
times_items [] = refl
times_items (x ∷ xs) = ap (λ q. x.item ∷ q) (times_items xs)

-- these items, all sent at this time
abbrev all_sent : {X : Type 0} → ℕ → List X → List (Sent X)
all_sent time xs = map (λ x. record { item = x; time = time }) xs

times_stamped : {X : Type 0} (time : ℕ) (xs : List X) → with_times (all_stamped time xs) ≡ all_sent time xs
times_stamped time [] = refl
times_stamped time (x ∷ xs) = ap (λ q. record { item = x; time = time } ∷ q) (times_stamped time xs)

-- each of these items was sent before a time
abbrev AllBefore : {X : Type 0} → List (Sent X) → ℕ → Type 0
AllBefore {X} ss time = (before after : List (Sent X)) (s : Sent X) → ss ≡ before ++ s ∷ after → s.time < time

never : {X : Type 0} (before : List X) (x : X) (after : List X) → [] ≡ before ++ x ∷ after → ⊥
never [] x after e = cc
never (y ∷ before) x after e = cc

heard_times : {X : Type 0} (got : List (Stamped X)) (time : ℕ) →
    ((firsts lasts : List (Stamped X)) (s : Stamped X) → got ≡ firsts ++ s ∷ lasts → s.stamp.time < time) → AllBefore (with_times got) time
heard_times [] time past before after s e = absurd (never before s after e)
heard_times (x ∷ got) time past [] after s e =
    let same : x.stamp.time ≡ s.time = (let f : record { item = x.item; time = x.stamp.time } ≡ s = cc in ap (λ z. z.time) f) in
    let l : x.stamp.time < time = past [] got x refl in
    omega (arith, same, l)
heard_times (x ∷ got) time past (y ∷ before) after s e =
    let f : with_times got ≡ before ++ s ∷ after = cc in
    heard_times got time (λ firsts lasts z q. past (x ∷ firsts) lasts z (ap (λ l. x ∷ l) q)) before after s f

-- ---- many events, and many items

module _ {w : ℕ} {X Y : Type 0} (way : Way w X Y) where
  idle : (es : List (Event w)) (sent : List (Sent X)) (received : List (Sent Y)) (now later : ℕ) → now ≤ later → KeepsTime way es sent received now →
      KeepsTime way es sent received later
  idle es sent received now later on k = record {
    past = k.past;
    is = k.is;
    until = λ before after t p. let l : t.time < suc now = k.until before after t p in omega arith;
    sent_at = k.sent_at;
    got = k.got;
    heard = λ before after s p. let l : s.time < now = k.heard before after s p in omega arith;
  }

  fetches : (es : List (Event w)) (sent : List (Sent X)) (received got : List (Sent Y)) (now later : ℕ) → now ≤ later → AllBefore got later →
      KeepsTime way es sent received now → KeepsTime way es sent (received ++ got) later
  fetches es sent received [] now later on before k =
      subst (λ z. KeepsTime way es sent z later) (sym (append-nil received)) (idle es sent received now later on k)
  fetches es sent received (s ∷ got) now later on before k =
      let one = (time_goes_on way).fetches es sent received now k s later on (before [] got s refl) in
      subst (λ z. KeepsTime way es sent z later) (append_assoc received (s ∷ []) got)
      (fetches es sent (received ++ s ∷ []) got later later (omega arith)
      (λ firsts lasts z q. before (s ∷ firsts) lasts z (ap (λ l. s ∷ l) q)) one)

  pub heard_time : (es : List (Event w)) (sent : List (Sent X)) (before after : List (Stamped Y)) (now later : ℕ) → Heard before after now later →
      KeepsTime way es sent (with_times before) now → KeepsTime way es sent (with_times after) later
  heard_time es sent before after now later heard k =
      subst (λ z. KeepsTime way es sent z later) (sym (times_append before heard.got) ∙ ap with_times (sym heard.more))
      (fetches es sent (with_times before) (with_times heard.got) now later heard.later (heard_times heard.got later heard.past) k)

  module _ (fewer : (es : List (Event w)) (xs ys : List X) → way.DueBy es (xs ++ ys) → way.DueBy es xs) where
    pushes : (es : List (Event w)) (sent : List (Sent X)) (received : List (Sent Y)) (now : ℕ) (xs : List X) → way.DueBy es (items sent ++ xs) →
        KeepsTime way es sent received now → KeepsTime way es (sent ++ all_sent now xs) received now
    pushes es sent received now [] due k = subst (λ z. KeepsTime way es z received now) (sym (append-nil sent)) k
    pushes es sent received now (x ∷ xs) due k =
        let new : Sent X = record { item = x; time = now } in
        let first : way.DueBy es ((items sent ++ x ∷ []) ++ xs) = subst (λ z. way.DueBy es z) (sym (append_assoc (items sent) (x ∷ []) xs)) due in
        let one = (time_goes_on way).pushes es sent received now k x (fewer es (items sent ++ x ∷ []) xs first) in
        subst (λ z. KeepsTime way es z received now) (append_assoc sent (new ∷ []) (all_sent now xs))
        (pushes es (sent ++ new ∷ []) received now xs
        (subst (λ z. way.DueBy es (z ++ xs)) (sym (map-append (λ s. s.item) sent (new ∷ []))) first) one)

    pub pushed_time : (es : List (Event w)) (before after : List (Stamped X)) (received : List (Sent Y)) (now : ℕ) (xs : List X) →
        after ≡ before ++ all_stamped now xs → way.DueBy es (halves.items after) → KeepsTime way es (with_times before) received now →
        KeepsTime way es (with_times after) received now
    pushed_time es before after received now xs more due k =
        let all : halves.items after ≡ items (with_times before) ++ xs =
        ap halves.items more ∙ map-append (λ s. s.item) before (all_stamped now xs) ∙
        ap (λ q. halves.items before ++ q) (plain now xs) ∙ ap (λ q. q ++ xs) (sym (times_items before)) in
        subst (λ z. KeepsTime way es z received now)
        (ap (λ q. with_times before ++ q) (sym (times_stamped now xs)) ∙ sym (times_append before (all_stamped now xs)) ∙ ap with_times (sym more))
        (pushes es (with_times before) received now xs (subst (λ z. way.DueBy es z) all due) k)
      where
        plain : (time : ℕ) (ys : List X) → halves.items (all_stamped time ys) ≡ ys
        plain time [] = refl
        plain time (y ∷ ys) = ap (λ q. y ∷ q) (plain time ys)

  module _ (event : Y → Event w) (takes_it : (y : Y) → way.take_of (event y) ≡ Some y)
      (more : (es : List (Event w)) (y : Y) → way.taken (es ++ event y ∷ []) ≡ way.taken es ++ y ∷ [])
    where
      takes : (es : List (Event w)) (sent : List (Sent X)) (received : List (Sent Y)) (now : ℕ) (ys rest : List Y) →
          items received ≡ way.taken es ++ (ys ++ rest) → KeepsTime way es sent received now → KeepsTime way (es ++ map event ys) sent received now
      takes es sent received now [] rest e k = subst (λ z. KeepsTime way z sent received now) (sym (append-nil es)) k
      takes es sent received now (y ∷ ys) rest e k =
          let one = (time_goes_on way).takes es sent received now k (event y) y (takes_it y) (ys ++ rest) e in
          subst (λ z. KeepsTime way z sent received now) (append_assoc es (event y ∷ []) (map event ys))
          (takes (es ++ event y ∷ []) sent received now ys rest
          (e ∙ sym (append_assoc (way.taken es) (y ∷ []) (ys ++ rest)) ∙ ap (λ q. q ++ (ys ++ rest)) (sym (more es y))) one)

      pub took_time : (es : List (Event w)) (sent : List (Sent X)) (received : List (Stamped Y)) (now : ℕ) (ys rest inbox : List Y) →
          halves.items received ≡ way.taken es ++ inbox → ys ++ rest ≡ inbox → KeepsTime way es sent (with_times received) now →
          KeepsTime way (es ++ map event ys) sent (with_times received) now
      took_time es sent received now ys rest inbox held parts k =
          takes es sent (with_times received) now ys rest (times_items received ∙ held ∙ ap (λ q. way.taken es ++ q) (sym parts)) k

-- ---- the ways of both sides

fewer_due : {X : Type 0} (xs ys all : List X) → IsPrefix (xs ++ ys) all → IsPrefix xs all
fewer_due xs ys all p = (ys ++ p.0, sym (append_assoc xs ys p.0) ∙ p.1)

-- what a sending end has sent is due by what it accepted
sent_due : {K A H : Type 0} (r : Rules H) {w v : ℕ} (s : Sending K A H v) (x : World H w v) → Sends r s x →
    IsPrefix (sent s) (due r w v x.accepted x.homes)
sent_due r s x h = (
  x.inbox ++ (x.ring ++ x.stage),
  ap (λ q. q ++ (x.inbox ++ (x.ring ++ x.stage))) h.sent ∙ sym (append_assoc x.taken x.inbox (x.ring ++ x.stage)) ∙
      sym (append_assoc (x.taken ++ x.inbox) x.ring x.stage) ∙ h.pipe.crosses.beats,
)

module _ {C M : ℕ} where
  -- the client's side
  pub client_sends : {K A : Type 0} (es : List (Event C)) (a a' : Sending K A HeadA M) (received : List (Sent (BeatOf HeadD C))) (now : ℕ)
      (xs : List (BeatOf HeadA M)) (x : World HeadA C M) → sent_times a' ≡ sent_times a ++ all_stamped now xs → asked es ≡ x.accepted →
      Sends rules_a a' x → KeepsTime (client_way {C = C} {M = M}) es (with_times (sent_times a)) received now →
      KeepsTime (client_way {C = C} {M = M}) es (with_times (sent_times a')) received now
  client_sends es a a' received now xs x more accepted h k =
      pushed_time client_way (λ fs ps qs p. (p.0, fewer_due ps qs (due rules_a C M (asked fs) p.0) p.1)) es (sent_times a) (sent_times a') received now xs
      more (x.homes, subst (λ z. IsPrefix (sent a') (due rules_a C M z x.homes)) (sym accepted) (sent_due rules_a a' x h)) k

  pub client_accepts : (es : List (Event C)) (sent : List (Sent (BeatOf HeadA M))) (received : List (Sent (BeatOf HeadD C))) (now : ℕ)
      (b : BeatOf HeadA C) → KeepsTime (client_way {C = C} {M = M}) es sent received now → KeepsTime (client_way {C = C} {M = M}) (es ++ Ask b ∷ []) sent received now
  client_accepts es sent received now b k = (time_goes_on client_way).accepts es sent received now k (Ask b) refl

  pub client_took : (es : List (Event C)) (sent : List (Sent (BeatOf HeadA M))) (received : List (Stamped (BeatOf HeadD C))) (now : ℕ)
      (ys rest inbox : List (BeatOf HeadD C)) → halves.items received ≡ answered es ++ inbox → ys ++ rest ≡ inbox →
      KeepsTime (client_way {C = C} {M = M}) es sent (with_times received) now →
      KeepsTime (client_way {C = C} {M = M}) (es ++ map Answer ys) sent (with_times received) now
  client_took = took_time client_way Answer (λ y. refl) answered_answer

  -- the manager's side
  pub manager_sends : {K A : Type 0} (es : List (Event M)) (d d' : Sending K A HeadD C) (received : List (Sent (BeatOf HeadA M))) (now : ℕ)
      (xs : List (BeatOf HeadD C)) (x : World HeadD M C) → sent_times d' ≡ sent_times d ++ all_stamped now xs → answered es ≡ x.accepted →
      Sends rules_d d' x → KeepsTime (manager_way {C = C} {M = M}) es (with_times (sent_times d)) received now →
      KeepsTime (manager_way {C = C} {M = M}) es (with_times (sent_times d')) received now
  manager_sends es d d' received now xs x more accepted h k =
      pushed_time manager_way (λ fs ps qs p. (p.0, fewer_due ps qs (due rules_d M C (answered fs) p.0) p.1)) es (sent_times d) (sent_times d') received now
      xs more (x.homes, subst (λ z. IsPrefix (sent d') (due rules_d M C z x.homes)) (sym accepted) (sent_due rules_d d' x h)) k

  pub manager_accepts : (es : List (Event M)) (sent : List (Sent (BeatOf HeadD C))) (received : List (Sent (BeatOf HeadA M))) (now : ℕ)
      (b : BeatOf HeadD M) → KeepsTime (manager_way {C = C} {M = M}) es sent received now →
      KeepsTime (manager_way {C = C} {M = M}) (es ++ Answer b ∷ []) sent received now
  manager_accepts es sent received now b k = (time_goes_on manager_way).accepts es sent received now k (Answer b) refl

  pub manager_took : (es : List (Event M)) (sent : List (Sent (BeatOf HeadD C))) (received : List (Stamped (BeatOf HeadA M))) (now : ℕ)
      (ys rest inbox : List (BeatOf HeadA M)) → halves.items received ≡ asked es ++ inbox → ys ++ rest ≡ inbox →
      KeepsTime (manager_way {C = C} {M = M}) es sent (with_times received) now →
      KeepsTime (manager_way {C = C} {M = M}) (es ++ map Ask ys) sent (with_times received) now
  manager_took = took_time manager_way Ask (λ y. refl) asked_ask

-- the same lists and the same clock
pub same_time : {w : ℕ} {X Y : Type 0} (way : Way w X Y) {es : List (Event w)} {sent sent' : List (Stamped X)} {received received' : List (Stamped Y)}
    {now now' : ℕ} → sent' ≡ sent → received' ≡ received → now' ≡ now → KeepsTime way es (with_times sent) (with_times received) now →
    KeepsTime way es (with_times sent') (with_times received') now'
same_time way {es} e f g k = rw (e, f, g) k

-- new rings, and a new clock
pub new_time : {w : ℕ} {X Y : Type 0} (way : Way w X Y) (sent : List (Stamped X)) (received : List (Stamped Y)) (now : ℕ) → sent ≡ [] → received ≡ [] →
    now ≡ 0 → KeepsTime way [] (with_times sent) (with_times received) now
new_time way sent received now none_sent none_received starts = rw (none_sent, none_received, starts) (time_goes_on way).begins

-- items that came out of a ring are the first of those that went in
pub first_times : {X : Type 0} (received known sent : List (Stamped X)) → received ++ known ≡ sent → IsPrefix (with_times received) (with_times sent)
first_times received known sent fifo = (with_times known, sym (times_append received known) ∙ ap with_times fifo)

-- items that were sent at the time of a clock
pub at_time : {X : Type 0} (before after : List (Stamped X)) (time now : ℕ) (xs : List X) → time ≡ now → after ≡ before ++ all_stamped time xs →
    after ≡ before ++ all_stamped now xs
at_time before after time now xs same more = more ∙ ap (λ n. before ++ all_stamped n xs) same
