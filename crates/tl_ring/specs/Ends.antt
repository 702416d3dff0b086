-- The logical view of the two ends of a ring between two threads.
use Rattle.std.specs.Prelude.{◌≡◌, ◌≤◌, ◌+◌, ◌-◌, ℕ, Bool, true, List, [], ◌++◌, length, take, drop}
use mathlib.Core.List.{IsPrefix}
use Rattle.rtrb.specs.Ring as rtrb
use Rattle.rtrb.specs.declared.producer.Producer.{Producer}
use Rattle.rtrb.specs.declared.finished.Finished.{Finished}
use Rattle.tl_msg.specs.Rules.{Rules}
use Rattle.tl_msg.specs.declared.beat.BeatOf.{BeatOf}
use Rattle.tl_convert.specs.Converting.{Progress}
use Rattle.tl_ring.specs.Boxes.{Outgoing, HasSent, HasTaken}
use Rattle.tl_ring.specs.Counts.{counted}
use Rattle.tl_ring.specs.Crossing.{World, IsReached}
use Rattle.tl_ring.specs.Halves.{Receiver, Heard, items}
use Rattle.tl_ring.specs.Laws.{Crosses}
use Rattle.tl_ring.specs.Pipe.{Pipe, StandsFor, outbox_of}
use Rattle.tl_ring.specs.declared.lawful.LawfulAt.{LawfulAt}
use Rattle.tl_ring.specs.declared.stamped.Stamped.{Stamped}

-- the two halves of a ring, whose beats carry the times at which they were sent
abbrev pub SendHalf : (K A H : Type 0) → ℕ → Type 0
SendHalf K A H v = Producer (Stamped (BeatOf H v)) A (LawfulAt K v H)

abbrev pub TakeHalf : (K A H : Type 0) → ℕ → Type 0
TakeHalf K A H v = Receiver (Stamped (BeatOf H v)) A (LawfulAt K v H)

-- the current state of a sending end
pub record Sending (K A H : Type 0) (v : ℕ) : Type 0 where
  -- the position of its converter in a burst
  pub converter : Progress H v
  -- the far beats that wait for a free position in the ring
  pub stage : List (BeatOf H v)
  -- its half of the ring
  pub producer : Producer (Stamped (BeatOf H v)) A (LawfulAt K v H)
  pub closed : Bool

-- the receipt of a sending end that was given up: it shows all beats that were sent
pub record Ended (K A H : Type 0) (v : ℕ) : Type 0 where
  pub finished : Finished (Stamped (BeatOf H v)) A (LawfulAt K v H)

-- the current state of a taking end
pub record Taking (K A H : Type 0) (v : ℕ) : Type 0 where
  -- the far beats that were fetched and not yet taken
  pub inbox : List (BeatOf H v)
  -- its half of the ring, and the clock of its side
  pub consumer : Receiver (Stamped (BeatOf H v)) A (LawfulAt K v H)

module _ {K A H : Type 0} {v : ℕ} where
  -- both halves are of one new ring of `size` beats, and the sending half knows all of it to be free
  pub record IsNewRing (size : ℕ) (s : SendHalf K A H v) (t : TakeHalf K A H v) : Type 0 where
    pub pair : rtrb.IsPair s t.end
    pub some_room : 1 ≤ size
    pub room : rtrb.producer_capacity s ≡ size
    pub none_sent : rtrb.sent s ≡ []
    pub all_free : rtrb.known_free s ≡ size
    pub none_received : rtrb.received t.end ≡ []
    pub none_known : rtrb.known_items t.end ≡ []
    pub starts : t.clock ≡ 0

  -- the beats that entered the ring so far, each with the time at which it was sent
  abbrev pub sent_times : Sending K A H v → List (Stamped (BeatOf H v))
  sent_times s = rtrb.sent s.producer

  abbrev pub sent : Sending K A H v → List (BeatOf H v)
  sent s = items (sent_times s)

  -- the capacity of the ring in beats
  abbrev pub room : Sending K A H v → ℕ
  room s = rtrb.producer_capacity s.producer

  -- the number of positions in the ring that the sending end knows to be free
  abbrev pub known_free : Sending K A H v → ℕ
  known_free s = rtrb.known_free s.producer

  -- the beats that came out of the ring so far, each with the time at which it was sent
  abbrev pub received_times : Taking K A H v → List (Stamped (BeatOf H v))
  received_times t = rtrb.received t.consumer.end

  abbrev pub received : Taking K A H v → List (BeatOf H v)
  received t = items (received_times t)

  -- the beats that the taking end knows to be in the ring
  abbrev pub known_times : Taking K A H v → List (Stamped (BeatOf H v))
  known_times t = rtrb.known_items t.consumer.end

  abbrev pub known_items : Taking K A H v → List (BeatOf H v)
  known_items t = items (known_times t)

  -- the clock of the side that takes
  abbrev pub clock : Taking K A H v → ℕ
  clock t = t.consumer.clock

  -- both are of one pair
  abbrev pub ArePair : Sending K A H v → Taking K A H v → Type 0
  ArePair s t = rtrb.IsPair s.producer t.consumer.end

  -- the same end of the same ring
  abbrev pub SameSend : Sending K A H v → Sending K A H v → Type 0
  SameSend a b = rtrb.SameProducer a.producer b.producer

  abbrev pub SameTake : Taking K A H v → Taking K A H v → Type 0
  SameTake a b = rtrb.SameConsumer a.consumer.end b.consumer.end

  -- everything that was sent
  abbrev pub all_sent : Ended K A H v → List (BeatOf H v)
  all_sent e = items (rtrb.all_sent e.finished)

  -- how many beats a sending end has sent, as it counts them
  abbrev pub sent_count : Sending K A H v → ℕ
  sent_count s = counted (length (sent s))

  -- how many beats were taken from a taking end, as it counts them: they came out of the ring, and are in the inbox no more
  abbrev pub taken_count : Taking K A H v → ℕ
  taken_count t = counted (length (received t)) - length t.inbox

  -- the receipt of this sending end
  abbrev pub Finishes : Sending K A H v → Ended K A H v → Type 0
  Finishes s e = rtrb.Finishes s.producer e.finished

  -- the receipt of the other end of this one's ring
  abbrev pub IsReceiptOf : Ended K A H v → Taking K A H v → Type 0
  IsReceiptOf e t = rtrb.IsFinishedOf e.finished t.consumer.end

  -- the receipt of the taking end that is a pair with this sending end
  abbrev pub IsReceiptFor : Sending K A H v → Ended K A H v → Type 0
  IsReceiptFor s e = (t : Taking K A H v) → ArePair s t → IsReceiptOf e t

  -- the pipe with the end's converter and stage, if the other end takes each beat as soon as it is sent
  abbrev pub as_pipe : Sending K A H v → Pipe H v
  as_pipe s = record { converter = s.converter; room = room s; stage = s.stage; ring = []; inbox = []; closed = s.closed }

  -- the sending end of an outbox and its half of a ring
  abbrev pub sending_of : Outgoing H v → SendHalf K A H v → Sending K A H v
  sending_of o half = record { converter = o.converter; stage = o.stage; producer = half; closed = o.closed }

  -- the taking end of an inbox and its half of a ring
  abbrev pub taking_of : (inbox : List (BeatOf H v)) → TakeHalf K A H v → Taking K A H v
  taking_of inbox half = record { inbox = inbox; consumer = half }

  -- the end after closing: it accepts no more beats
  abbrev pub closing : Sending K A H v → Sending K A H v
  closing s = record s { closed = true }

  -- the first beat leaves the inbox
  abbrev pub took_first : Taking K A H v → Taking K A H v
  took_first t = record t { inbox = drop 1 t.inbox }

  -- b is a after k beats moved from its stage into the ring
  pub record Pushed (a : Sending K A H v) (k : ℕ) (b : Sending K A H v) : Type 0 where
    pub ring : SameSend a b
    pub same_converter : b.converter ≡ a.converter
    pub same_closed : b.closed ≡ a.closed
    pub stage : b.stage ≡ drop k a.stage
    pub more_sent : sent b ≡ sent a ++ take k a.stage
    pub known : known_free a ≤ known_free b + k

  -- nothing moved, neither end forgot anything, and the taking end knows all of the ring
  pub record Met (s : Sending K A H v) (t : Taking K A H v) (s' : Sending K A H v) (t' : Taking K A H v) : Type 0 where
    pub pair : ArePair s' t'
    pub send : SameSend s s'
    pub take : SameTake t t'
    pub same_converter : s'.converter ≡ s.converter
    pub same_stage : s'.stage ≡ s.stage
    pub same_closed : s'.closed ≡ s.closed
    pub same_sent : sent s' ≡ sent s
    pub same_inbox : t'.inbox ≡ t.inbox
    pub same_received : received t' ≡ received t
    pub ring : received t' ++ known_items t' ≡ sent s'
    -- so are the times at which the beats were sent
    pub same_sent_times : sent_times s' ≡ sent_times s
    pub same_received_times : received_times t' ≡ received_times t
    pub same_clock : clock t' ≡ clock t
    pub ring_times : received_times t' ++ known_times t' ≡ sent_times s'
    pub in_room : length (known_items t') ≤ room s
    pub free : known_free s ≤ known_free s'
    -- each position without a beat is known to be free
    pub all_free : room s ≤ known_free s' + length (known_items t')

  -- nothing moved, and the taking end knows all of the ring
  pub record LookedAfter (e : Ended K A H v) (t : Taking K A H v) (e' : Ended K A H v) (t' : Taking K A H v) : Type 0 where
    pub receipt : IsReceiptOf e' t'
    pub take : SameTake t t'
    pub same_sent : all_sent e' ≡ all_sent e
    pub same_inbox : t'.inbox ≡ t.inbox
    pub same_received : received t' ≡ received t
    pub same_received_times : received_times t' ≡ received_times t
    pub same_clock : clock t' ≡ clock t
    pub ring : received t' ++ known_items t' ≡ all_sent e

  -- the beats that were taken, and those in the inbox, are those that came out of the ring
  abbrev pub Takes : Taking K A H v → (taken : List (BeatOf H v)) → Type 0
  Takes t taken = HasTaken t.inbox (received t) taken

  -- b is a after k beats came out of the ring, including those that were known to be there
  pub record Fetched (a : Taking K A H v) (k : ℕ) (b : Taking K A H v) : Type 0 where
    pub ring : SameTake a b
    pub moved : List (BeatOf H v)
    pub count : length moved ≡ k
    pub inbox : b.inbox ≡ a.inbox ++ moved
    pub received : received b ≡ received a ++ moved
    pub known : IsPrefix (known_items a) (moved ++ known_items b)
    -- the clock of the side moved on past the times at which they were sent
    pub heard : Heard (received_times a) (received_times b) (clock a) (clock b)

module _ {H : Type 0} {w v : ℕ} where
  -- k beats move from the front of the stage through the ring, and are taken
  abbrev pub passed : (k : ℕ) → World H w v → World H w v
  passed k x = record x { stage = drop k x.stage; taken = x.taken ++ take k x.stage }

module _ {K A H : Type 0} (r : Rules H) {w v : ℕ} where
  -- the sending end represents the crossing that its calls so far made, if its other end takes each beat as soon as it
  -- is sent; only a meeting shows how far the sent beats have come
  pub record Sends (s : Sending K A H v) (x : World H w v) : Type 0 where
    pub pipe : StandsFor r (as_pipe s) x
    pub sent : sent s ≡ x.taken
    pub some_room : 1 ≤ x.room

  -- the crossing of both ends: beats sent and not taken are in the inbox and in the ring
  abbrev pub seen_by : Taking K A H v → World H w v → (taken : List (BeatOf H v)) → World H w v
  seen_by t x taken = record x { ring = known_items t; inbox = t.inbox; taken = taken }

  -- the facts that a meeting shows about the crossing that the two ends represented
  pub record Meets (s : Sending K A H v) (t : Taking K A H v) (x : World H w v) (taken : List (BeatOf H v)) : Type 0 where
    -- each end still represents it
    pub sends : Sends s x
    pub takes : Takes t taken
    -- each beat sent was taken, or is in the inbox or the ring
    pub outbox : HasSent r (outbox_of (as_pipe s)) x.accepted x.homes (taken ++ t.inbox ++ known_items t)
    -- both ends, and the ring between them, are one crossing, to which a list of events leads
    pub reached : IsReached r (seen_by t x taken)
    -- so the beats taken, followed by those in the inbox, the ring and the stage, are the far layout of the accepted
    -- beats
    pub crosses : Crosses r (seen_by t x taken)

  -- a receipt shows a closed crossing with nothing staged, whose other end took each beat as soon as it was sent
  pub record Shows (e : Ended K A H v) (x : World H w v) : Type 0 where
    pub closed : x.closed ≡ true
    pub none_staged : x.stage ≡ []
    pub sent : all_sent e ≡ x.taken
    pub no_ring : x.ring ≡ []
    pub no_inbox : x.inbox ≡ []
    pub some_room : 1 ≤ x.room
    pub room : (t : Taking K A H v) → IsReceiptOf e t → length (known_items t) ≤ x.room
    pub reached : IsReached r x
    pub crosses : Crosses r x

  -- the facts that a receipt shows a taking end
  pub record Shown (e : Ended K A H v) (t : Taking K A H v) (x : World H w v) (taken : List (BeatOf H v)) : Type 0 where
    -- both still represent it
    pub shows : Shows e x
    pub takes : Takes t taken
    -- the beats taken, and those in the inbox and the ring, are one crossing, to which a list of events leads
    pub reached : IsReached r (seen_by t x taken)
    -- so they are the far layout of the accepted beats
    pub crosses : Crosses r (seen_by t x taken)
