-- The logical view of a side's outboxes, inboxes and book, without the rings that carry its beats: the channels that such a
-- port sends and takes, in any holder of it, and the effect of a call on one box.
use Rattle.std.proofs.Common.{◌≡◌, ◌++◌, ℕ, true, List, [], map, take, drop, refl}
use Rattle.tl_sides.specs.Words.{Rules, rules_a, rules_b, rules_c, rules_d, rules_e, HeadA, HeadB, HeadC, HeadD, HeadE, BeatOf, Outgoing, World}
use Rattle.tl_sides.specs.Words.{HasSent, HasTaken, as_sent, Event, Ask, Answer, asked, answered, client_answer, manager_answer, manager_home}
use Rattle.tl_sides.specs.Words.{manager_homes}
use Rattle.tl_settle.specs.Books.{Client, Manager, KnowsClient, KnowsManager, Deciding, client_decides, manager_decides}
use Rattle.tl_sides.specs.Calls.{SendingChannel, TakingChannel, Holds, itself, alone, coupled, taking}

-- the current state of the client's side
pub record ClientNow (C M : ℕ) : Type 0 where
  pub a : Outgoing HeadA M
  pub b : List (BeatOf HeadB C)
  pub c : Outgoing HeadC M
  pub d : List (BeatOf HeadD C)
  pub e : Outgoing HeadE M
  pub book : Client

-- it is new: nothing was accepted
pub record ClientIsNew {C M : ℕ} (s : ClientNow C M) : Type 0 where
  pub a : HasSent rules_a {w = C} s.a [] [] []
  pub c : HasSent rules_c {w = C} s.c [] [] []
  pub e : HasSent rules_e {w = C} s.e [] [] []
  pub book : KnowsClient {w = C} s.book []

-- the current state of the manager's side
pub record ManagerNow (C M : ℕ) : Type 0 where
  pub a : List (BeatOf HeadA M)
  pub b : Outgoing HeadB C
  pub c : List (BeatOf HeadC M)
  pub d : Outgoing HeadD C
  pub e : List (BeatOf HeadE M)
  pub book : Manager

pub record ManagerIsNew {C M : ℕ} (s : ManagerNow C M) : Type 0 where
  pub b : HasSent rules_b {w = M} s.b [] [] []
  pub d : HasSent rules_d {w = M} s.d [] [] []
  pub book : KnowsManager {w = M} s.book []

-- The past of a port whose history has width n: its history of A and D, and the crossing of each channel. The crossing
-- of a channel that it takes counts only by its inbox and its taken beats.
pub record PortPast (C M n : ℕ) : Type 0 where
  pub history : List (Event n)
  pub a : World HeadA C M
  pub b : World HeadB M C
  pub c : World HeadC C M
  pub d : World HeadD M C
  pub e : World HeadE C M

-- the first beat of this inbox is taken
abbrev pub took_from : {H : Type 0} {w v : ℕ} → (inbox : List (BeatOf H v)) → World H w v → World H w v
took_from inbox x = record x { inbox = drop 1 inbox; taken = x.taken ++ take 1 inbox }

-- The channels of a client's port. An accepted beat of A is a request in its history, and a beat taken of D a response.
module _ {S P : Type 0} {C M : ℕ} (h : Holds S P (ClientNow C M) (PortPast C M C)) where
  abbrev pub sends_a : SendingChannel S P HeadA C M
  sends_a = coupled h rules_a (λ x. x.a) (λ y x. record x { a = y }) (λ _. refl) (λ p. p.a.closed) (λ p. record p { a = record p.a { closed = true } })
      (λ p p'. record p { a = p'.a; book = p'.book }) (λ _. refl) (λ _. refl)
      Ask (λ x. x.history) (λ es x. record x { history = es }) (λ _. refl) client_answer (λ _ _. 0)

  abbrev pub sends_c : SendingChannel S P HeadC C M
  sends_c = alone h rules_c (λ x. x.c) (λ y x. record x { c = y }) (λ _. refl) (λ p. p.c.closed) (λ p. record p { c = record p.c { closed = true } })
      (λ p p'. record p { c = p'.c }) (λ _. refl) (λ _. refl)

  abbrev pub sends_e : SendingChannel S P HeadE C M
  sends_e = alone h rules_e (λ x. x.e) (λ y x. record x { e = y }) (λ _. refl) (λ p. p.e.closed) (λ p. record p { e = record p.e { closed = true } })
      (λ p p'. record p { e = p'.e }) (λ _. refl) (λ _. refl)

  abbrev pub takes_b : TakingChannel S P HeadB C
  takes_b = taking h rules_b (λ p. p.b) (λ p x. record x { b = took_from p.b x.b }) (λ p _. record p { b = drop 1 p.b })

  abbrev pub takes_d : TakingChannel S P HeadD C
  takes_d = taking h rules_d (λ p. p.d) (λ p x. record x { history = x.history ++ map Answer (take 1 p.d); d = took_from p.d x.d })
      (λ p p'. record p { d = drop 1 p.d; book = p'.book })

-- The channels of a manager's port. An accepted beat of D is a response in its history, and a beat taken of A a request. The
-- home of a message of D is the address of its request, outstanding at that moment, and 0 for ReleaseAck.
module _ {S P : Type 0} {C M : ℕ} (h : Holds S P (ManagerNow C M) (PortPast C M M)) where
  abbrev pub sends_b : SendingChannel S P HeadB M C
  sends_b = alone h rules_b (λ x. x.b) (λ y x. record x { b = y }) (λ _. refl) (λ p. p.b.closed) (λ p. record p { b = record p.b { closed = true } })
      (λ p p'. record p { b = p'.b }) (λ _. refl) (λ _. refl)

  abbrev pub sends_d : SendingChannel S P HeadD M C
  sends_d = coupled h rules_d (λ x. x.d) (λ y x. record x { d = y }) (λ _. refl) (λ p. p.d.closed) (λ p. record p { d = record p.d { closed = true } })
      (λ p p'. record p { d = p'.d; book = p'.book }) (λ _. refl) (λ _. refl)
      Answer (λ x. x.history) (λ es x. record x { history = es }) (λ _. refl) manager_answer (λ es b. manager_home es b.head)

  abbrev pub takes_a : TakingChannel S P HeadA M
  takes_a = taking h rules_a (λ p. p.a) (λ p x. record x { history = x.history ++ map Ask (take 1 p.a); a = took_from p.a x.a })
      (λ p p'. record p { a = drop 1 p.a; book = p'.book })

  abbrev pub takes_c : TakingChannel S P HeadC M
  takes_c = taking h rules_c (λ p. p.c) (λ p x. record x { c = took_from p.c x.c }) (λ p _. record p { c = drop 1 p.c })

  abbrev pub takes_e : TakingChannel S P HeadE M
  takes_e = taking h rules_e (λ p. p.e) (λ p x. record x { e = took_from p.e x.e }) (λ p _. record p { e = drop 1 p.e })

-- an outbox represents a crossing, as if each beat were taken as soon as it was sent
pub record SentBy {H : Type 0} (r : Rules H) {w v : ℕ} (o : Outgoing H v) (x : World H w v) : Type 0 where
  pub sent : HasSent r o x.accepted x.homes x.taken
  pub is : x ≡ as_sent x.room o x.accepted x.homes x.taken

-- the past of an inbox
pub record Hither (H : Type 0) (v : ℕ) : Type 0 where
  pub received : List (BeatOf H v)
  pub taken : List (BeatOf H v)

-- a channel that depends on no other is its outbox, at one side, and its inbox at the other
abbrev pub outbox_sends : {H : Type 0} (r : Rules H) {w v : ℕ} → SendingChannel (Outgoing H v) (World H w v) H w v
outbox_sends r = alone (itself (SentBy r)) r (λ x. x) (λ y _. y) (λ _. refl) (λ o. o.closed) (λ o. record o { closed = true })
    (λ _ o. o) (λ _. refl) (λ _. refl)

abbrev pub inbox_takes : {H : Type 0} (r : Rules H) {v : ℕ} → TakingChannel (List (BeatOf H v)) (Hither H v) H v
inbox_takes r = taking (itself (λ i x. HasTaken i x.received x.taken)) r (λ i. i) (λ i x. record x { taken = x.taken ++ take 1 i }) (λ i _. drop 1 i)

-- On A and D the book of the side decides, or records: an outbox or an inbox, and that book.
pub record Booked (Box Book : Type 0) : Type 0 where
  pub box : Box
  pub book : Book

-- the past of an outbox and a book
pub record BookedAway (H : Type 0) (w v : ℕ) : Type 0 where
  pub history : List (Event w)
  pub crossing : World H w v

-- the past of an inbox and a book: the history has the taken beats
pub record BookedHither (H : Type 0) (v : ℕ) : Type 0 where
  pub history : List (Event v)
  pub received : List (BeatOf H v)

module _ {Book H : Type 0} {w v : ℕ} (k : Deciding Book H w) (AreHomes : List (Event w) → List ℕ → Type 0) where
  -- an outbox and a book represent a past: the history has the accepted beats, and their messages have these homes
  pub record SentBooked (s : Booked (Outgoing H v) Book) (x : BookedAway H w v) : Type 0 where
    pub box : SentBy k.rules s.box x.crossing
    pub accepted : k.accepted x.history ≡ x.crossing.accepted
    pub homes : AreHomes x.history x.crossing.homes
    pub book : k.Knows s.book x.history

  -- a channel on which the book decides
  abbrev pub booked_sends : (home : List (Event w) → BeatOf H w → ℕ) → SendingChannel (Booked (Outgoing H v) Book) (BookedAway H w v) H w v
  booked_sends home = coupled (itself SentBooked) k.rules (λ x. x.crossing) (λ y x. record x { crossing = y }) (λ _. refl) (λ s. s.box.closed)
      (λ s. record s { box = record s.box { closed = true } }) (λ _ s. s) (λ _. refl) (λ _. refl)
      k.event (λ x. x.history) (λ es x. record x { history = es }) (λ _. refl) k.stops home

-- the history determines the homes of D, and not those of A
abbrev pub sends_requests : {C M : ℕ} → SendingChannel (Booked (Outgoing HeadA M) Client) (BookedAway HeadA C M) HeadA C M
sends_requests = booked_sends client_decides (λ _ _. Unit {0}) (λ _ _. 0)

abbrev pub sends_responses : {C M : ℕ} → SendingChannel (Booked (Outgoing HeadD C) Manager) (BookedAway HeadD M C) HeadD M C
sends_responses = booked_sends manager_decides (λ es homes. manager_homes es ≡ homes) (λ es b. manager_home es b.head)

-- a channel whose taken beats the book records
abbrev pub booked_takes : {Book H : Type 0} {v : ℕ} (r : Rules H) (event : BeatOf H v → Event v) (taken : List (Event v) → List (BeatOf H v))
    (Knows : Book → List (Event v) → Type 0) → TakingChannel (Booked (List (BeatOf H v)) Book) (BookedHither H v) H v
booked_takes r event taken Knows = record {
  rules = r;
  Stands = λ s x. HasTaken s.box x.received (taken x.history) × Knows s.book x.history;
  inbox = λ s. s.box;
  after_take = λ s x. record x { history = x.history ++ map event (take 1 s.box) };
  Keeps = λ s s'. s'.box ≡ drop 1 s.box;
}

abbrev pub takes_requests : {M : ℕ} → TakingChannel (Booked (List (BeatOf HeadA M)) Manager) (BookedHither HeadA M) HeadA M
takes_requests = booked_takes rules_a Ask asked KnowsManager

abbrev pub takes_responses : {C : ℕ} → TakingChannel (Booked (List (BeatOf HeadD C)) Client) (BookedHither HeadD C) HeadD C
takes_responses = booked_takes rules_d Answer answered KnowsClient
