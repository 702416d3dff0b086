-- Each call of a sending end has the effect of the same event on its crossing, and a meeting makes one crossing of both
-- ends.
use Rattle.tl_ring.proofs.Names.{◌≡◌, ◌≤◌, ◌<◌, ◌+◌, ℕ, true, false, List, [], ◌∷◌, ◌++◌, length, take, drop, min, refl, sym, ap, subst, ◌∙◌, arith}
use Rattle.tl_ring.proofs.Names.{⊎_elim, append_assoc, length-append, cases_lt, Rules, BeatOf, rest_of, homes_with, Outgoing, HasSent, World, empty}
use Rattle.tl_ring.proofs.Names.{offered, shut, inbox_room, Crosses}
use mathlib.Core.List.{IsPrefix}
use Rattle.rtrb.specs.Ring as rtrb
use Rattle.rtrb.specs.declared.producer.Producer.{Producer}
use Rattle.rtrb.specs.declared.consumer.Consumer.{Consumer}
use Rattle.tl_ring.specs.Ends.{ArePair, Sending, as_pipe, Taking, Ended, Sends, Takes, Fetched, Met, Meets, Shows, Shown, LookedAfter, IsReceiptOf}
use Rattle.tl_ring.specs.Ends.{Finishes, SameTake, SendHalf, TakeHalf, sent, room, known_items, known_times, received, received_times, passed}
use Rattle.tl_ring.specs.Ends.{clock, closing, sending_of}
use Rattle.tl_ring.specs.Halves.{Popped, items}
use Rattle.tl_ring.specs.Pipe.{Pipe, StandsFor, outbox_of}
use Rattle.tl_ring.specs.declared.stamped.Stamped.{Stamped}
use Rattle.tl_ring.proofs.Times.{items_append, items_length, seen_items}
use Rattle.tl_ring.proofs.Parting.{reached_parted}
use Rattle.tl_ring.proofs.Boxes.{none_on_the_way, has_more_sent}
use Rattle.tl_ring.proofs.PipeSteps.{stands_of, stands_new, stands_offered, stands_shut}

module _ {H : Type 0} (r : Rules H) {w v : ℕ} where
  -- the property that holds at every moment also holds for another division of the same beats
  pub Crosses-parted : (x : World H w v) → (taken inbox ring : List (BeatOf H v)) → x.taken ++ x.inbox ++ x.ring ≡ taken ++ inbox ++ ring →
      x.ring ≡ [] → x.inbox ≡ [] → length inbox ≤ inbox_room → length ring ≤ x.room → Crosses r x →
      Crosses r (record x { ring = ring; inbox = inbox; taken = taken })
  Crosses-parted x taken inbox ring all no_ring no_inbox held fits c = record {
    beats = ap (λ t. t ++ x.stage) (sym all) ∙ c.beats;
    messages = c.messages;
    rest = c.rest;
    handed = c.handed;
    closed_whole = c.closed_whole;
    drained = λ shut none_staged none_in_ring none_in_inbox.
        sym (none_on_the_way taken inbox ring none_in_inbox none_in_ring) ∙ sym all ∙ none_on_the_way x.taken x.inbox x.ring no_inbox no_ring ∙
        c.drained shut none_staged no_ring no_inbox;
    ring_room = fits;
    inbox_size = held;
  }

module _ {K A H : Type 0} (r : Rules H) {w v : ℕ} (partial_masked : (h : H) → r.partial h ≡ true → r.masked ≡ true) where
  pub sends_new : (s : Sending K A H v) (size : ℕ) → 1 ≤ size → HasSent r {w = w} (outbox_of (as_pipe s)) [] [] [] → s.stage ≡ [] →
      sent s ≡ [] → room s ≡ size → s.closed ≡ false → Sends r s (empty {w = w} size)
  sends_new s size some h none_staged none_sent room open_yet = record {
    pipe = stands_new r partial_masked (as_pipe s) size some h room none_staged refl refl open_yet;
    sent = none_sent;
    some_room = some;
  }

  pub sends_offered : (s : Sending K A H v) (x : World H w v) (b : BeatOf H w) (home : ℕ) (o : Outgoing H v) → s.stage ≡ [] → s.closed ≡ false →
      o.closed ≡ false →
      HasSent r o (x.accepted ++ b ∷ []) (homes_with r x.accepted x.homes b home) (x.taken ++ x.inbox ++ x.ring) → Sends r s x →
      Sends r (sending_of o s.producer) (offered r b home x)
  sends_offered s x b home o none_staged still still' h' h = record {
    pipe = stands_offered r partial_masked (as_pipe s) x b home o none_staged still still' h' h.pipe;
    sent = h.sent;
    some_room = h.some_room;
  }

  pub sends_shut : (s : Sending K A H v) (x : World H w v) → rest_of r w x.accepted ≡ [] → Sends r s x → Sends r (closing s) (shut x)
  sends_shut s x over h = record {
    pipe = stands_shut r partial_masked (as_pipe s) x over h.pipe;
    sent = h.sent;
    some_room = h.some_room;
  }

  -- k staged beats were sent
  pub sends_passed : (k : ℕ) (s s' : Sending K A H v) (x : World H w v) → s'.converter ≡ s.converter → s'.stage ≡ drop k s.stage →
      sent s' ≡ sent s ++ take k s.stage → room s' ≡ room s → s'.closed ≡ s.closed → Sends r s x → Sends r s' (passed k x)
  sends_passed k s s' x converter staged sends room closed h =
      let p = h.pipe in
      let all : List (BeatOf H v) = x.taken ++ x.inbox ++ x.ring in
      let more : List (BeatOf H v) = take k x.stage in
      let none : all ≡ x.taken = none_on_the_way x.taken x.inbox x.ring (sym p.inbox) (sym p.ring) in
      let none' : (x.taken ++ more) ++ x.inbox ++ x.ring ≡ x.taken ++ more =
      none_on_the_way (x.taken ++ more) x.inbox x.ring (sym p.inbox) (sym p.ring) in
      let sent_is : all ++ take k s.stage ≡ (x.taken ++ more) ++ x.inbox ++ x.ring =
      ap (λ t. t ++ take k s.stage) none ∙ ap (λ t. x.taken ++ take k t) p.stage ∙ sym none' in
      let o : Outgoing H v = outbox_of (as_pipe s) in
      let same : record o { stage = drop k o.stage } ≡ outbox_of (as_pipe s') =
      λ i. record { converter = sym converter i; stage = sym staged i; closed = sym closed i } in
      let now : HasSent r (outbox_of (as_pipe s')) x.accepted x.homes ((x.taken ++ more) ++ x.inbox ++ x.ring) =
      subst (λ (q : Outgoing H v). HasSent r q x.accepted x.homes ((x.taken ++ more) ++ x.inbox ++ x.ring)) same
      (subst (λ t. HasSent r (record o { stage = drop k o.stage }) x.accepted x.homes t) sent_is
      (has_more_sent r k o x.accepted x.homes all p.outbox)) in
      record {
        pipe = stands_of r partial_masked (as_pipe s') (passed k x) h.some_room (room ∙ p.room) (staged ∙ ap (λ t. drop k t) p.stage) p.ring p.inbox
            (closed ∙ p.closed) p.crosses.ring_room p.crosses.inbox_size now;
        sent = sends ∙ ap (λ t. t ++ take k s.stage) h.sent ∙ ap (λ t. x.taken ++ take k t) p.stage;
        some_room = h.some_room;
      }

module _ {K A H : Type 0} (r : Rules H) {w v : ℕ} where
  -- the effect of a meeting on both ends
  pub meets_of : (s s' : Sending K A H v) (t t' : Taking K A H v) (x : World H w v) (taken : List (BeatOf H v)) → Met s t s' t' →
      length t'.inbox ≤ inbox_room → Sends r s x → Takes t taken → Meets r s' t' x taken
  meets_of s s' t t' x taken met held h takes =
      let p = h.pipe in
      let now : Takes t' taken = met.same_received ∙ takes ∙ ap (λ l. taken ++ l) (sym met.same_inbox) in
      let all : x.taken ++ x.inbox ++ x.ring ≡ taken ++ t'.inbox ++ known_items t' =
      none_on_the_way x.taken x.inbox x.ring (sym p.inbox) (sym p.ring) ∙ sym h.sent ∙ sym met.same_sent ∙ sym met.ring ∙
      ap (λ l. l ++ known_items t') now in
      let still : as_pipe s' ≡ as_pipe s = λ i.
      record { converter = met.same_converter i; room = met.send.1 i; stage = met.same_stage i; ring = []; inbox = []; closed = met.same_closed i } in
      let same_room : room s ≡ x.room = p.room in
      let fits : length (known_items t') ≤ x.room = omega (arith, met.in_room, same_room) in
      record {
        sends = record {
          pipe = subst (λ (p : Pipe H v). StandsFor r p x) (sym still) p;
          sent = met.same_sent ∙ h.sent;
          some_room = h.some_room;
        };
        takes = now;
        outbox = subst (λ all. HasSent r (outbox_of (as_pipe s')) x.accepted x.homes all) all
            (subst (λ (p : Pipe H v). HasSent r (outbox_of p) x.accepted x.homes (x.taken ++ x.inbox ++ x.ring)) (sym still) p.outbox);
        reached = reached_parted r x h.some_room taken t'.inbox (known_items t') all held fits p.reached;
        crosses = Crosses-parted r x taken t'.inbox (known_items t') all (sym p.ring) (sym p.inbox) held fits p.crosses;
      }

-- the beats known to be there are moved, or there was no room for more
pub least_moved : {X : Type 0} (known moved left : List X) (k room : ℕ) → IsPrefix known (moved ++ left) → length moved ≡ k →
    (k < room → length left ≡ 0) →
    min (length known) room ≤ k
least_moved known moved left k room (more, e) count none = ⊎_elim
    (λ short.
    let empty : length left ≡ 0 = none short in
    let all : length known + length more ≡ length moved + length left =
    sym (length-append known more) ∙ ap length e ∙ length-append moved left in
    omega (arith, empty, all, count))
    (λ full. omega (arith, full))
    (cases_lt k room)

-- a beginning of a beginning is one
prefix_twice : {X : Type 0} (xs ys zs : List X) → IsPrefix xs ys → IsPrefix ys zs → IsPrefix xs zs
prefix_twice xs ys zs (more, one) (rest, two) = (more ++ rest, sym (append_assoc xs more rest) ∙ ap (λ l. l ++ rest) one ∙ two)

module _ {X A P : Type 0} where
  -- ends that look at their ring stay a pair
  pub still_pair_after : (p p' : Producer X A P) (c c' : Consumer X A P) → rtrb.IsPair p c → rtrb.ProducerLooked p p' → rtrb.ConsumerLooked c c' →
      rtrb.IsPair p' c'
  still_pair_after p p' c c' pair sees seen = (
    seen.0.0.0 ∙ pair.0 ∙ sym sees.0.0.0,
    seen.0.0.1 ∙ pair.1 ∙ sym sees.0.0.1,
    seen.0.0.2 ∙ pair.2 ∙ sym sees.0.0.2,
    seen.0.0.3 ∙ pair.3 ∙ sym sees.0.0.3,
  )

  -- two looks of an end are one
  pub producer_twice : (a b c : Producer X A P) → rtrb.ProducerLooked a b → rtrb.ProducerLooked b c → rtrb.ProducerLooked a c
  producer_twice a b c one two = (
    ((two.0.0.0 ∙ one.0.0.0, two.0.0.1 ∙ one.0.0.1, two.0.0.2 ∙ one.0.0.2, two.0.0.3 ∙ one.0.0.3), two.0.1 ∙ one.0.1),
    two.1 ∙ one.1,
    (let before : rtrb.known_free a ≤ rtrb.known_free b = one.2 in
        let after : rtrb.known_free b ≤ rtrb.known_free c = two.2 in
        omega (arith, before, after)),
  )

  pub consumer_twice : (a b c : Consumer X A P) → rtrb.ConsumerLooked a b → rtrb.ConsumerLooked b c → rtrb.ConsumerLooked a c
  consumer_twice a b c one two = (
    ((two.0.0.0 ∙ one.0.0.0, two.0.0.1 ∙ one.0.0.1, two.0.0.2 ∙ one.0.0.2, two.0.0.3 ∙ one.0.0.3), two.0.1 ∙ one.0.1),
    two.1 ∙ one.1,
    prefix_twice (rtrb.known_items a) (rtrb.known_items b) (rtrb.known_items c) one.2 two.2,
  )

  -- after the sending end, and then the taking end, has looked, the ring holds no more items than it has places, and all others are known to be free
  pub all_places : (p p1 p2 : Producer X A P) (c1 c2 : Consumer X A P) (free count : ℕ) → rtrb.ProducerLooked p p1 → free ≡ rtrb.known_free p1 →
      free + length (rtrb.sent p1) ≡ rtrb.producer_capacity p1 + length (rtrb.received c1) → rtrb.ConsumerLooked c1 c2 → rtrb.ProducerLooked p1 p2 →
      count ≡ length (rtrb.known_items c2) → rtrb.received c2 ++ rtrb.known_items c2 ≡ rtrb.sent p2 →
      (count ≤ rtrb.producer_capacity p) × (rtrb.producer_capacity p ≤ rtrb.known_free p2 + count)
  all_places p p1 p2 c1 c2 free count sees1 value all_free seen2 sees2 counts fifo =
      let size : length (rtrb.received c2) + length (rtrb.known_items c2) ≡ length (rtrb.sent p2) =
      sym (length-append (rtrb.received c2) (rtrb.known_items c2)) ∙ ap length fifo in
      let sent_size : length (rtrb.sent p2) ≡ length (rtrb.sent p1) = ap length sees2.1 in
      let received_size : length (rtrb.received c2) ≡ length (rtrb.received c1) = ap length seen2.1 in
      let capacity : p1.capacity ≡ p.capacity = sees1.0.1 in
      let more : rtrb.known_free p1 ≤ rtrb.known_free p2 = sees2.2 in (
        omega (arith, size, sent_size, received_size, capacity, all_free, counts),
        omega (arith, size, sent_size, received_size, capacity, all_free, value, more, counts),
      )

module _ {K A H : Type 0} {v : ℕ} where
  -- the same end of the same ring is of the same receipt
  still_of : (e : Ended K A H v) (t t' : Taking K A H v) → SameTake t t' → IsReceiptOf e t → IsReceiptOf e t'
  still_of e t t' same of = (same.0.0 ∙ of.0, same.0.1 ∙ of.1, same.0.2 ∙ of.2, same.0.3 ∙ of.3)

  -- two receipts of one end are of the same ends
  of_both : (e e' : Ended K A H v) (t u : Taking K A H v) → IsReceiptOf e t → IsReceiptOf e' t → IsReceiptOf e' u → IsReceiptOf e u
  of_both e e' t u of of' here =
      (here.0 ∙ sym of'.0 ∙ of.0, here.1 ∙ sym of'.1 ∙ of.1, here.2 ∙ sym of'.2 ∙ of.2, here.3 ∙ sym of'.3 ∙ of.3)

  -- both ends have looked at the ring
  pub met_of : (s : Sending K A H v) (t : Taking K A H v) (p : SendHalf K A H v) (c : TakeHalf K A H v) (count : ℕ) →
      ArePair s t → rtrb.ProducerLooked s.producer p → rtrb.ConsumerLooked t.consumer.end c.end → c.clock ≡ t.consumer.clock →
      count ≡ length (rtrb.known_items c.end) → rtrb.received c.end ++ rtrb.known_items c.end ≡ rtrb.sent p →
      (count ≤ rtrb.producer_capacity s.producer) × (rtrb.producer_capacity s.producer ≤ rtrb.known_free p + count) →
      Met s t (record s { producer = p }) (record t { consumer = c })
  met_of s t p c count pair sees seen ticks counts fifo places =
      let size : length (items (rtrb.known_items c.end)) ≡ length (rtrb.known_items c.end) = items_length (rtrb.known_items c.end) in
      record {
        pair = still_pair_after s.producer p t.consumer.end c.end pair sees seen;
        send = sees.0;
        take = seen.0;
        same_converter = refl;
        same_stage = refl;
        same_closed = refl;
        same_sent = ap items sees.1;
        same_inbox = refl;
        same_received = ap items seen.1;
        ring = sym (items_append (rtrb.received c.end) (rtrb.known_items c.end)) ∙ ap items fifo;
        same_sent_times = sees.1;
        same_received_times = seen.1;
        same_clock = ticks;
        ring_times = fifo;
        in_room = omega (arith, places.0, counts, size);
        free = sees.2;
        all_free = omega (arith, places.1, counts, size);
      }

  -- beats moved from the ring into the inbox
  pub fetched_of : (allows : List (Stamped (BeatOf H v)) → Stamped (BeatOf H v) → Type 0) (t : Taking K A H v) (c : TakeHalf K A H v)
      (inbox moved : List (BeatOf H v)) (k : ℕ) → rtrb.SameConsumer t.consumer.end c.end → length moved ≡ k → inbox ≡ t.inbox ++ moved →
      Popped allows (received_times t) (rtrb.received c.end) (known_times t) (rtrb.known_items c.end) moved (clock t) c.clock →
      Fetched t k (record { inbox = inbox; consumer = c })
  fetched_of allows t c inbox moved k same count more popped = record {
    ring = same;
    moved = moved;
    count = count;
    inbox = more;
    received = ap items popped.heard.more ∙ items_append (received_times t) popped.heard.got ∙ ap (λ l. received t ++ l) popped.are;
    known = seen_items (known_times t) popped.heard.got (rtrb.known_items c.end) moved popped.are popped.seen;
    heard = popped.heard;
  }

  pub takes_fetched : (t t' : Taking K A H v) (k : ℕ) → Fetched t k t' → (taken : List (BeatOf H v)) → Takes t taken → Takes t' taken
  takes_fetched t t' k f taken takes =
      f.received ∙ ap (λ l. l ++ f.moved) takes ∙ append_assoc taken t.inbox f.moved ∙ ap (λ l. taken ++ l) (sym f.inbox)

module _ {K A H : Type 0} (r : Rules H) {w v : ℕ} where
  -- and that is a meeting for whatever crossing they represented
  pub meeting_of : (s : Sending K A H v) (t : Taking K A H v) (p : SendHalf K A H v) (c : TakeHalf K A H v) (count : ℕ) →
      ArePair s t → rtrb.ProducerLooked s.producer p → rtrb.ConsumerLooked t.consumer.end c.end → c.clock ≡ t.consumer.clock →
      count ≡ length (rtrb.known_items c.end) → rtrb.received c.end ++ rtrb.known_items c.end ≡ rtrb.sent p →
      (count ≤ rtrb.producer_capacity s.producer) × (rtrb.producer_capacity s.producer ≤ rtrb.known_free p + count) →
      length t.inbox ≤ inbox_room →
      Met s t (record s { producer = p }) (record t { consumer = c }) ×
      ((x : World H w v) (taken : List (BeatOf H v)) → Sends r s x → Takes t taken →
      Meets r (record s { producer = p }) (record t { consumer = c }) x taken)
  meeting_of s t p c count pair sees seen ticks counts fifo places held =
      let met = met_of s t p c count pair sees seen ticks counts fifo places in
      (met, λ x taken sends takes. meets_of r s (record s { producer = p }) t (record t { consumer = c }) x taken met held sends takes)

  -- the receipt of an end shows the crossing that the end represents, and its ring is no larger than the end's
  pub shows_of : (s : Sending K A H v) (e : Ended K A H v) (x : World H w v) → Finishes s e → s.stage ≡ [] → s.closed ≡ true → Sends r s x →
      Shows r e x
  shows_of s e x finishes none_staged closed h = record {
    closed = sym h.pipe.closed ∙ closed;
    none_staged = sym h.pipe.stage ∙ none_staged;
    sent = ap items finishes.1 ∙ h.sent;
    no_ring = sym h.pipe.ring;
    no_inbox = sym h.pipe.inbox;
    some_room = h.some_room;
    room = λ t of.
        let held : length (known_times t) ≤ t.consumer.end.capacity = t.consumer.end.counts in
        let size : length (known_items t) ≡ length (known_times t) = items_length (known_times t) in
        let same : t.consumer.end.capacity ≡ s.producer.capacity =
        t.consumer.end.reads.2 ∙ ap (λ (n : _). n.0) (of.2 ∙ finishes.0.2) ∙ sym s.producer.writes.2 in
        let mine : s.producer.capacity ≡ x.room = h.pipe.room in
        omega (arith, held, size, same, mine);
    reached = h.pipe.reached;
    crosses = h.pipe.crosses;
  }

  -- the facts that it shows the taking end
  pub shown_of : (e e' : Ended K A H v) (t t' : Taking K A H v) (x : World H w v) (taken : List (BeatOf H v)) → IsReceiptOf e t →
      LookedAfter e t e' t' →
      length t'.inbox ≤ inbox_room → Shows r e x → Takes t taken → Shown r e' t' x taken
  shown_of e e' t t' x taken of looked held h takes =
      let now : Takes t' taken = looked.same_received ∙ takes ∙ ap (λ l. taken ++ l) (sym looked.same_inbox) in
      let all : x.taken ++ x.inbox ++ x.ring ≡ taken ++ t'.inbox ++ known_items t' =
      none_on_the_way x.taken x.inbox x.ring h.no_inbox h.no_ring ∙ sym h.sent ∙ sym looked.ring ∙ ap (λ l. l ++ known_items t') now in
      let fits : length (known_items t') ≤ x.room = h.room t' (still_of e t t' looked.take of) in
      record {
        shows = record {
          closed = h.closed;
          none_staged = h.none_staged;
          sent = looked.same_sent ∙ h.sent;
          no_ring = h.no_ring;
          no_inbox = h.no_inbox;
          some_room = h.some_room;
          room = λ u here. h.room u (of_both e e' t' u (still_of e t t' looked.take of) looked.receipt here);
          reached = h.reached;
          crosses = h.crosses;
        };
        takes = now;
        reached = reached_parted r x h.some_room taken t'.inbox (known_items t') all held fits h.reached;
        crosses = Crosses-parted r x taken t'.inbox (known_items t') all h.no_ring h.no_inbox held fits h.crosses;
      }
