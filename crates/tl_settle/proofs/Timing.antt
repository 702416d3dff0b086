-- Sides keep their clocks, and at a meeting these show one order.
use Rattle.tl_settle.proofs.Names.{◌≡◌, ◌≤◌, ◌<◌, ℕ, suc, List, [], ◌∷◌, ◌++◌, Option, None, Some, map, refl, sym, ap, subst, ◌∙◌, arith}
use Rattle.tl_settle.proofs.Names.{⊎_elim, append_assoc, append-nil, map-append, rules_a, rules_d, Event, Ask, Answer, asked, answered}
use mathlib.Core.List.{IsPrefix}
use Rattle.tl_convert.specs.Due.{due}
use Rattle.tl_settle.proofs.InOrder.{clocks_order}
use Rattle.tl_settle.proofs.Obeys.{at_last}
use Rattle.tl_settle.specs.OneOrder.{InOneOrder, Timed, events, ClocksAgree}
use Rattle.tl_settle.specs.Clocks.{Sent, items, Way, client_way, manager_way, SentAt, Got, KeepsTime, TimeGoesOn, TimesShowAnOrder}

never : {X : Type 0} (before : List X) (x : X) (after : List X) → [] ≡ before ++ x ∷ after → ⊥
never [] x after e = cc
never (y ∷ before) x after e = cc

-- a list of which a map is known in parts
pub map_parts : {X Y : Type 0} (f : X → Y) (xs : List X) (us vs : List Y) (y : Y) → map f xs ≡ us ++ y ∷ vs →
    (before : List X) × (x : X) × (after : List X) × (xs ≡ before ++ x ∷ after) × (map f before ≡ us) × (f x ≡ y)
map_parts f [] us vs y e = absurd (never us y vs e)
map_parts f (x ∷ xs) [] vs y e = let h : f x ≡ y = cc in ([], x, xs, refl, refl, h)
map_parts f (x ∷ xs) (u ∷ us) vs y e =
    let h : f x ≡ u = cc in
    let t : map f xs ≡ us ++ y ∷ vs = cc in
    let p = map_parts f xs us vs y t in
    (x ∷ p.0, p.1, p.2, ap (λ q. x ∷ q) p.3, ap (λ z. z ∷ map f p.0) h ∙ ap (λ q. u ∷ q) p.4, p.5)

later_prefix : {X : Type 0} (xs ys : List X) (y : X) → IsPrefix xs ys → IsPrefix xs (ys ++ y ∷ [])
later_prefix xs ys y p = (p.0 ++ y ∷ [], sym (append_assoc xs p.0 (y ∷ [])) ∙ ap (λ q. q ++ y ∷ []) p.1)

module _ {w : ℕ} {X Y : Type 0} (way : Way w X Y) where
  event_more : (es : List (Event w)) (sent : List (Sent X)) (received : List (Sent Y)) (now : ℕ) → (k : KeepsTime way es sent received now) →
      (e : Event w) → ((y : Y) → way.take_of e ≡ Some y → Got way received k.past y now) → KeepsTime way (es ++ e ∷ []) sent received now
  event_more es sent received now k e taken =
      let new : Timed w = record { time = now; event = e } in
      record {
        past = k.past ++ new ∷ [];
        is = map-append (λ t. t.event) k.past (new ∷ []) ∙ ap (λ q. q ++ e ∷ []) k.is;
        until = λ before after t p. ⊎_elim
            (λ (q : (others : _) × (k.past ≡ before ++ t ∷ others)). let l : t.time < suc now = k.until before q.0 t q.1 in omega arith)
            (λ (q : (k.past ≡ before) × (new ≡ t)). let f : now ≡ t.time = ap (λ z. z.time) q.1 in omega arith)
            (at_last k.past new t before after p);
        sent_at = λ before after s p.
            let old : SentAt way k.past (items before ++ s.item ∷ []) s.time = k.sent_at before after s p in
            record { front = old.front; first = later_prefix old.front k.past new old.first; until = old.until; due = old.due };
        got = λ before after t y p took. ⊎_elim
            (λ (q : (others : _) × (k.past ≡ before ++ t ∷ others)). k.got before q.0 t y q.1 took)
            (λ (q : (k.past ≡ before) × (new ≡ t)).
            subst (λ z. Got way received z y t.time) q.0
            (subst (λ (z : Timed w). Got way received k.past y z.time) q.1
            (taken y (subst (λ (z : Timed w). way.take_of z.event ≡ Some y) (sym q.1) took))))
            (at_last k.past new t before after p);
        heard = k.heard;
      }

  takes : (es : List (Event w)) (sent : List (Sent X)) (received : List (Sent Y)) (now : ℕ) → KeepsTime way es sent received now →
      (e : Event w) (y : Y) → way.take_of e ≡ Some y → (rest : List Y) → items received ≡ way.taken es ++ y ∷ rest →
      KeepsTime way (es ++ e ∷ []) sent received now
  takes es sent received now k e y is_take rest parts =
      event_more es sent received now k e
      (λ z took.
      let same : y ≡ z = (let both : ◌≡◌ {A = Option Y} (Some y) (Some z) = sym is_take ∙ took in cc) in
      let p = map_parts (λ s. s.item) received (way.taken es) rest y parts in
      record {
        firsts = p.0;
        next = p.1;
        lasts = p.2;
        parts = p.3;
        before_it = p.4 ∙ ap (λ q. way.taken q) (sym k.is);
        is = p.5 ∙ same;
        earlier = k.heard p.0 p.2 p.1 p.3;
      })

  pushes : (es : List (Event w)) (sent : List (Sent X)) (received : List (Sent Y)) (now : ℕ) → KeepsTime way es sent received now →
      (x : X) → way.DueBy es (items sent ++ x ∷ []) → KeepsTime way es (sent ++ record { item = x; time = now } ∷ []) received now
  pushes es sent received now k x made =
      let new : Sent X = record { item = x; time = now } in
      record {
        past = k.past;
        is = k.is;
        until = k.until;
        sent_at = λ before after s p. ⊎_elim
            (λ (q : (others : _) × (sent ≡ before ++ s ∷ others)). k.sent_at before q.0 s q.1)
            (λ (q : (sent ≡ before) × (new ≡ s)).
            subst (λ z. SentAt way k.past (items z ++ s.item ∷ []) s.time) q.0
            (subst (λ (z : Sent X). SentAt way k.past (items sent ++ z.item ∷ []) z.time) q.1
            (record {
              front = k.past;
              first = ([], append-nil k.past);
              until = k.until;
              due = subst (λ z. way.DueBy z (items sent ++ x ∷ [])) (sym k.is) made;
            })))
            (at_last sent new s before after p);
        got = k.got;
        heard = k.heard;
      }

  fetches : (es : List (Event w)) (sent : List (Sent X)) (received : List (Sent Y)) (now : ℕ) → KeepsTime way es sent received now →
      (s : Sent Y) (later : ℕ) → now ≤ later → s.time < later → KeepsTime way es sent (received ++ s ∷ []) later
  fetches es sent received now k new later on in_time =
      record {
        past = k.past;
        is = k.is;
        until = λ before after t p. let l : t.time < suc now = k.until before after t p in omega arith;
        sent_at = k.sent_at;
        got = λ before after t y p took.
            let old : Got way received before y t.time = k.got before after t y p took in
            record {
              firsts = old.firsts;
              next = old.next;
              lasts = old.lasts ++ new ∷ [];
              parts = ap (λ q. q ++ new ∷ []) old.parts ∙ append_assoc old.firsts (old.next ∷ old.lasts) (new ∷ []);
              before_it = old.before_it;
              is = old.is;
              earlier = old.earlier;
            };
        heard = λ before after s p. ⊎_elim
            (λ (q : (others : _) × (received ≡ before ++ s ∷ others)). let l : s.time < now = k.heard before q.0 s q.1 in omega arith)
            (λ (q : (received ≡ before) × (new ≡ s)). let f : new.time ≡ s.time = ap (λ z. z.time) q.1 in omega arith)
            (at_last received new s before after p);
      }

  pub time_goes_on : TimeGoesOn way
  time_goes_on = record {
    begins = record {
      past = [];
      is = refl;
      until = λ before after t e. absurd (never before t after e);
      sent_at = λ before after s e. absurd (never before s after e);
      got = λ before after t y e took. absurd (never before t after e);
      heard = λ before after s e. absurd (never before s after e);
    };
    accepts = λ es sent received now k e none.
        event_more es sent received now k e (λ y took. let no : ◌≡◌ {A = Option Y} None (Some y) = sym none ∙ took in absurd (cc));
    takes = λ es sent received now k e y is_take rest parts. takes es sent received now k e y is_take rest parts;
    pushes = λ es sent received now k x made. pushes es sent received now k x made;
    fetches = λ es sent received now k s later on in_time. fetches es sent received now k s later on in_time;
  }

-- ---- a meeting

pub times_show_an_order : {C M : ℕ} → TimesShowAnOrder C M
times_show_an_order {C} {M} x y sent_a received_a sent_d received_d client_now manager_now c m on_a on_d =
    subst (λ q. InOneOrder q y) c.is (subst (λ q. InOneOrder (events c.past) q) m.is (clocks_order c.past m.past agree))
  where
    agree : ClocksAgree c.past m.past
    agree = record {
      a = λ before after time b e.
          let t : Timed M = record { time = time; event = Ask b } in
          let g : Got manager_way received_a before b time = m.got before after t b e refl in
          let parts : sent_a ≡ g.firsts ++ g.next ∷ (g.lasts ++ on_a.0) =
          sym on_a.1 ∙ ap (λ q. q ++ on_a.0) g.parts ∙ append_assoc g.firsts (g.next ∷ g.lasts) on_a.0 in
          let s : SentAt client_way c.past (items g.firsts ++ g.next.item ∷ []) g.next.time = c.sent_at g.firsts (g.lasts ++ on_a.0) g.next parts in
          let same : items g.firsts ++ g.next.item ∷ [] ≡ asked (events before) ++ b ∷ [] =
          ap (λ q. q ++ g.next.item ∷ []) g.before_it ∙ ap (λ q. asked (events before) ++ q ∷ []) g.is in
          record {
            front = s.front;
            first = s.first;
            earlier = λ p q r k. let l : r.time < suc g.next.time = s.until p q r k in let less : g.next.time < time = g.earlier in omega arith;
            homes = s.due.0;
            due = subst (λ z. IsPrefix z (due rules_a C M (asked (events s.front)) s.due.0)) same s.due.1;
          };
      d = λ before after time b e.
          let t : Timed C = record { time = time; event = Answer b } in
          let g : Got client_way received_d before b time = c.got before after t b e refl in
          let parts : sent_d ≡ g.firsts ++ g.next ∷ (g.lasts ++ on_d.0) =
          sym on_d.1 ∙ ap (λ q. q ++ on_d.0) g.parts ∙ append_assoc g.firsts (g.next ∷ g.lasts) on_d.0 in
          let s : SentAt manager_way m.past (items g.firsts ++ g.next.item ∷ []) g.next.time = m.sent_at g.firsts (g.lasts ++ on_d.0) g.next parts in
          let same : items g.firsts ++ g.next.item ∷ [] ≡ answered (events before) ++ b ∷ [] =
          ap (λ q. q ++ g.next.item ∷ []) g.before_it ∙ ap (λ q. answered (events before) ++ q ∷ []) g.is in
          record {
            front = s.front;
            first = s.first;
            earlier = λ p q r k. let l : r.time < suc g.next.time = s.until p q r k in let less : g.next.time < time = g.earlier in omega arith;
            homes = s.due.0;
            due = subst (λ z. IsPrefix z (due rules_d M C (answered (events s.front)) s.due.0)) same s.due.1;
          };
    }
