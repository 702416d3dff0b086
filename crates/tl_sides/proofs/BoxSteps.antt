-- The properties that an offer, a close and a take keep for the box that they are made to.
use Rattle.std.proofs.Common.{◌≡◌, ◌↔◌, ◌++◌, ◌∷◌, [], ℕ, true, false, List, Option, None, Some, Result, Ok, Err, length, map, take, drop, refl, sym, subst, ap, ◌∙◌, append-nil}
use Rattle.std.specs.Prelude.{IfOk, IfErr, IfSome, IsOk, OnOk, OnErr, slice_get}
use Rattle.tl_sides.proofs.Words.{Rules, rules_d, HeadD, BeatOf, left, IsPlaceOf, fault_after, homes_with, rest_of, due, Place, left-zero}
use Rattle.tl_sides.proofs.Words.{Outgoing, HasSent, HasTaken, IsOpen, as_sent, World, offered, shut, drop-append_seam, Event, answered, manager_home}
use Rattle.tl_sides.proofs.Words.{BeatFault, SideFault, EndFault, IsLawfulBeat}
use Rattle.tl_settle.specs.Books.{Admits, Deciding, IsChecked}
use Rattle.tl_sides.proofs.BridgeSteps.{home_given, none_taken, some_taken}
use Rattle.tl_sides.specs.Calls.{OffersBeat, ClosesChannel, TakesBeat}
use Rattle.tl_sides.specs.Ports.{BookedAway, SentBooked, SentBy, booked_sends, booked_takes, inbox_takes, outbox_sends}

-- the result of an outbox's check holds for the beats that it accepted
pub checked_in : {K H : Type 0} (r : Rules H) {w v : ℕ} (o : Outgoing H v) (bs : List (BeatOf H w)) (homes : List ℕ) (sent : List (BeatOf H v))
    (b : BeatOf H w) (checked : Result (Place K H) BeatFault) → HasSent r o bs homes sent → IfOk checked (IsPlaceOf r w o.converter.burst b) →
    IfErr checked (λ fault. fault_after r bs b ≡ Some fault) → IsChecked r bs b checked
checked_in r o bs homes sent b (Err fault) h is stops = record { place = tt; fault = stops }
checked_in {H = H} r {w} o bs homes sent b (Ok place) h is stops =
    let (ms, rest, handed) = h.converter.handed in
    let P : Option (H × ℕ) → Type 0 = λ burst. IsPlaceOf r w burst b place in record {
      place = record { handed = record { homes = homes; messages = ms; rest = rest; handed = handed }; is_place = subst P h.converter.burst_is is };
      fault = tt;
    }

-- if nothing of a message is left, the next beat begins one
pub between_of : {H : Type 0} (r : Rules H) {w v : ℕ} (o : Outgoing H v) (bs : List (BeatOf H w)) (homes : List ℕ) (sent : List (BeatOf H v)) →
    HasSent r o bs homes sent → (left r w bs ≡ 0) ↔ (rest_of r w bs ≡ [])
between_of r {w} o bs homes sent h = let (ms, rest, handed) = h.converter.handed in left-zero r w handed

-- an outbox that sent what a crossing shows is closed as it is
pub still_open : {H : Type 0} {r : Rules H} {w v : ℕ} {o : Outgoing H v} {x : World H w v} → SentBy r o x → x.closed ≡ false → o.closed ≡ false
still_open h open_still = sym (ap (λ z. z.closed) h.is) ∙ open_still

-- an open outbox accepts a beat
pub sent_offered : {H : Type 0} (r : Rules H) {w v : ℕ} (o o' : Outgoing H v) (x : World H w v) (b : BeatOf H w) (home : ℕ) → IsOpen o →
    o'.closed ≡ false → SentBy r o x → HasSent r o' (x.accepted ++ b ∷ []) (homes_with r x.accepted x.homes b home) x.taken →
    SentBy r o' (offered r b home x)
sent_offered r {w} {v} o o' x b home ready still h h' =
    let before : due r w v x.accepted x.homes ≡ x.taken = sym h.sent.beats ∙ ap (λ t. x.taken ++ t) ready.0 ∙ append-nil x.taken in
    let staged : o'.stage ≡ drop (length (due r w v x.accepted x.homes)) (due r w v (x.accepted ++ b ∷ []) (homes_with r x.accepted x.homes b home)) =
    sym (drop-append_seam (due r w v x.accepted x.homes) o'.stage) ∙
    ap (λ t. drop (length (due r w v x.accepted x.homes)) t) (ap (λ t. t ++ o'.stage) before ∙ h'.beats) in record {
      sent = h';
      is = λ i. record {
        room = x.room;
        accepted = x.accepted ++ b ∷ [];
        homes = homes_with r x.accepted x.homes b home;
        stage = sym staged i;
        ring = ap (λ z. z.ring) h.is i;
        inbox = ap (λ z. z.inbox) h.is i;
        taken = x.taken;
        closed = (ap (λ z. z.closed) h.is ∙ ready.1 ∙ sym still) i;
      };
    }

-- a beat of D is accepted with the home that the book returned, which is the history's if one is read
pub responds : {C M : ℕ} (es : List (Event M)) (o o' : Outgoing HeadD C) (x : World HeadD M C) (b : BeatOf HeadD M) (home : ℕ) → IsOpen o →
    o'.closed ≡ false → SentBy rules_d o x → answered es ≡ x.accepted → (left rules_d M (answered es) ≡ 0 → home ≡ manager_home es b.head) →
    HasSent rules_d o' (x.accepted ++ b ∷ []) (homes_with rules_d x.accepted x.homes b home) x.taken →
    SentBy rules_d o' (offered rules_d b (manager_home es b.head) x)
responds {M = M} es o o' x b home ready still h accepted right h' = subst (λ y. SentBy rules_d o' y)
    (home_given x b home (manager_home es b.head) (between_of rules_d o x.accepted x.homes x.taken h.sent)
    (λ e. right (ap (λ bs. left rules_d M bs) accepted ∙ e))) (sent_offered rules_d o o' x b home ready still h h')

-- a book decides on a beat, which the outbox checked
module _ {Book K H : Type 0} {w v : ℕ} (k : Deciding Book H w) (AreHomes : List (Event w) → List ℕ → Type 0) (home : List (Event w) → BeatOf H w → ℕ)
    (o : Outgoing H v) (s : Book) (b : BeatOf H w) (checked : Result (Place K H) BeatFault) (place : IfOk checked (IsPlaceOf k.rules w o.converter.burst b))
    (stops : (bs : List (BeatOf H w)) (homes : List ℕ) (sent : List (BeatOf H v)) → HasSent k.rules o bs homes sent →
    IfErr checked (λ fault. fault_after k.rules bs b ≡ Some fault)) where
  pub booked_checked : (x : BookedAway H w v) → SentBooked k AreHomes (record { box = o; book = s }) x →
      IsChecked k.rules (k.accepted x.history) b checked
  booked_checked x h = subst (λ bs. IsChecked k.rules bs b checked) (sym h.accepted)
      (checked_in k.rules o x.crossing.accepted x.crossing.homes x.crossing.taken b checked h.box.sent place
      (stops x.crossing.accepted x.crossing.homes x.crossing.taken h.box.sent))

  pub book_refuses : {T : Type 0} (s' : Book) (fault : SideFault) → Admits {T = T} k checked s (Err fault) s' →
      OffersBeat (booked_sends k AreHomes home) b (record { box = o; book = s }) (Err fault) (record { box = o; book = s' })
  book_refuses s' fault said = record {
    admitted = λ x h. said.admitted x.history b h.book (booked_checked x h);
    accepted = λ x h. tt;
    fault = λ x h. said.fault x.history b h.book (booked_checked x h);
    refused = ap (λ book. record { box = o; book = book }) said.refused;
    rest = refl;
  }

  pub book_accepts : {T : Type 0} (s' : Book) (given : T) (o' : Outgoing H v) → Admits k checked s (Ok given) s' →
      ((es : List (Event w)) → k.accepted (es ++ k.event b ∷ []) ≡ k.accepted es ++ b ∷ []) →
      ((x : BookedAway H w v) → SentBooked k AreHomes (record { box = o; book = s }) x → SentBy k.rules o' (offered k.rules b (home x.history b) x.crossing)) →
      ((x : BookedAway H w v) → SentBooked k AreHomes (record { box = o; book = s }) x →
      AreHomes (x.history ++ k.event b ∷ []) (homes_with k.rules x.crossing.accepted x.crossing.homes b (home x.history b))) →
      OffersBeat (booked_sends k AreHomes home) b (record { box = o; book = s }) (Ok tt) (record { box = o'; book = s' })
  book_accepts s' given o' said grows sends homes = record {
    admitted = λ x h. said.admitted x.history b h.book (booked_checked x h);
    accepted = λ x h. record {
      box = sends x h;
      accepted = grows x.history ∙ ap (λ bs. bs ++ b ∷ []) h.accepted;
      homes = homes x h;
      book = said.noted x.history b h.book (booked_checked x h);
    };
    fault = λ x h. tt;
    refused = tt;
    rest = refl;
  }

-- two properties of a success show a third
both_ok : {T E P Q R : Type 0} (answer : Result T E) → (P → Q → R) → OnOk answer P → OnOk answer Q → OnOk answer R
both_ok (Ok _) f p q = f p q
both_ok (Err _) f p q = tt

-- the contract of an outbox's close, and that of an inbox's take, in the words of a channel
pub closes_outbox : {H : Type 0} (r : Rules H) (w : ℕ) {v : ℕ} (o o' : Outgoing H v) (answer : Result (Unit {0}) EndFault) → record {
  between : (bs : List (BeatOf H w)) (homes : List ℕ) (sent : List (BeatOf H v)) → HasSent r o bs homes sent → IsOk answer ↔ (rest_of r w bs ≡ []);
  stands : (bs : List (BeatOf H w)) (homes : List ℕ) (sent : List (BeatOf H v)) → HasSent r o bs homes sent → OnOk answer (HasSent r o' bs homes sent);
  closed : OnOk answer (o' ≡ record o { closed = true });
  again : o.closed ≡ true → IsOk answer × (o' ≡ o);
  refused : OnErr answer (o' ≡ o);
} → ClosesChannel (outbox_sends r {w = w}) o answer o'
closes_outbox r w o o' answer said = record {
  between = λ x h. said.between x.accepted x.homes x.taken h.sent;
  stands = λ x h. both_ok answer (λ sent closed. record { sent = sent; is = ap shut h.is ∙ ap (λ q. as_sent x.room q x.accepted x.homes x.taken) (sym closed) })
      (said.stands x.accepted x.homes x.taken h.sent) said.closed;
  closed = said.closed;
  again = said.again;
  refused = said.refused;
}

pub takes_inbox : {H : Type 0} (r : Rules H) {v : ℕ} (i i' : List (BeatOf H v)) (answer : Option (BeatOf H v)) → record {
  beat : answer ≡ slice_get i 0;
  lawful : IfSome answer (λ beat. IsLawfulBeat r beat);
  rest : i' ≡ drop 1 i;
  taken : (received taken : List (BeatOf H v)) → HasTaken i received taken → HasTaken i' received (taken ++ take 1 i);
} → TakesBeat (inbox_takes r) i answer i'
takes_inbox r i i' answer said = record {
  beat = said.beat;
  lawful = said.lawful;
  taken = λ x h. said.taken x.received x.taken h;
  rest = said.rest;
}

-- a channel takes the first beat of its inbox, if there is one, and the book records it
module _ {Book H : Type 0} {v : ℕ} (r : Rules H) (event : BeatOf H v → Event v) (beats : List (Event v) → List (BeatOf H v))
    (Knows : Book → List (Event v) → Type 0) (all : (es : List (Event v)) (bs : List (BeatOf H v)) → beats (es ++ map event bs) ≡ beats es ++ bs)
    (i i' : List (BeatOf H v)) (book : Book) (rest : i' ≡ drop 1 i)
    (gave : (received taken : List (BeatOf H v)) → HasTaken i received taken → HasTaken i' received (taken ++ take 1 i)) where
  took : (answer : Option (BeatOf H v)) (book' : Book) → answer ≡ slice_get i 0 → IfSome answer (λ beat. IsLawfulBeat r beat) →
      ((es : List (Event v)) → Knows book es → Knows book' (es ++ map event (take 1 i))) →
      TakesBeat (booked_takes r event beats Knows) (record { box = i; book = book }) answer (record { box = i'; book = book' })
  took answer book' first lawful knows = record {
    beat = first;
    lawful = lawful;
    taken = λ x h. (gave x.received (beats x.history) h.0 ∙ ap (λ q. q ++ i') (sym (all x.history (take 1 i))), knows x.history h.1);
    rest = rest;
  }

  pub took_none : None ≡ slice_get i 0 →
      TakesBeat (booked_takes r event beats Knows) (record { box = i; book = book }) None (record { box = i'; book = book })
  took_none empty = took None book empty tt
      (λ es. subst (λ q. Knows book q) (sym (append-nil es) ∙ ap (λ q. es ++ map event q) (sym (none_taken i (sym empty)))))

  pub took_one : (beat : BeatOf H v) (book' : Book) → Some beat ≡ slice_get i 0 → IsLawfulBeat r beat →
      ((es : List (Event v)) → Knows book es → Knows book' (es ++ event beat ∷ [])) →
      TakesBeat (booked_takes r event beats Knows) (record { box = i; book = book }) (Some beat) (record { box = i'; book = book' })
  took_one beat book' first lawful knows = took (Some beat) book' first lawful
      (λ es known. subst (λ q. Knows book' q) (ap (λ q. es ++ map event q) (sym (some_taken i beat (sym first)))) (knows es known))
