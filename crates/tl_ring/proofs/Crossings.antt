-- The law of the crossing: each event keeps what holds at every moment of a crossing.
use Rattle.tl_ring.proofs.Names.{◌≡◌, ◌≤◌, ◌+◌, ◌-◌, ℕ, true, false, List, [], ◌∷◌, ◌++◌, length, take, drop, min, refl, sym, ap, ◌∙◌, arith}
use Rattle.tl_ring.proofs.Names.{append-nil, length-append, length-take, length-drop, drop-append_seam, IsWidth, Rules, BeatOf, Handed, nothing}
use Rattle.tl_ring.proofs.Names.{IsHandedWith, rest_of, homes_with, due, layouts, World, Event, offer, push, pop, take_one, close, empty, offered}
use Rattle.tl_ring.proofs.Names.{pushed, popped, took, shut, effect, IsPossible, inbox_room, Run, done, happens, fails, Crosses, ChannelLaws, RestIs}
use mathlib.Core.List.{IsPrefix}
use Rattle.tl_burst.specs.Messages.{Message}
use Rattle.tl_ring.proofs.Moves.{cut_moves, cut_moves_after}
use Rattle.tl_ring.proofs.OneMore.{one_more, due_grows, whole_due}

-- a prefix, followed by the rest of the list, is the list
rest_behind : {X : Type 0} (xs ys : List X) → IsPrefix xs ys → xs ++ drop (length xs) ys ≡ ys
rest_behind xs ys (zs, e) =
    ap (λ t. xs ++ drop (length xs) t) (sym e) ∙ ap (λ t. xs ++ t) (drop-append_seam xs zs) ∙ e

module _ {H : Type 0} (r : Rules H) {w v : ℕ} (near : IsWidth w) (far : IsWidth v)
    (partial_masked : (h : H) → r.partial h ≡ true → r.masked ≡ true) where
  -- once all that was accepted is whole, and nothing is under way, its layouts were taken
  all_taken : (x : World H w v) (ms : List (Message H)) (rest : List (BeatOf H w)) → Handed r w x.accepted x.homes ms rest →
      x.taken ++ x.inbox ++ x.ring ++ x.stage ≡ due r w v x.accepted x.homes → rest ≡ [] → x.stage ≡ [] → x.ring ≡ [] → x.inbox ≡ [] →
      x.taken ≡ layouts r v ms
  all_taken x ms rest handed beats over no_stage no_ring no_inbox =
      let taken_alone : x.taken ++ x.inbox ++ x.ring ++ x.stage ≡ x.taken =
      ap (λ t. x.taken ++ x.inbox ++ x.ring ++ t) no_stage ∙ append-nil (x.taken ++ x.inbox ++ x.ring) ∙
      ap (λ t. x.taken ++ x.inbox ++ t) no_ring ∙ append-nil (x.taken ++ x.inbox) ∙ ap (λ t. x.taken ++ t) no_inbox ∙ append-nil x.taken in
      sym taken_alone ∙ beats ∙ whole_due r near far partial_masked handed over

  -- so this is all that an event has to keep
  pub crosses : (x : World H w v) (ms : List (Message H)) (rest : List (BeatOf H w)) → Handed r w x.accepted x.homes ms rest →
      x.taken ++ x.inbox ++ x.ring ++ x.stage ≡ due r w v x.accepted x.homes → (x.closed ≡ true → rest ≡ []) →
      length x.ring ≤ x.room → length x.inbox ≤ inbox_room → Crosses r x
  crosses x ms rest handed beats closed_whole ring_room inbox_size = record {
    beats = beats;
    messages = ms;
    rest = rest;
    handed = handed;
    closed_whole = closed_whole;
    drained = λ shut no_stage no_ring no_inbox. all_taken x ms rest handed beats (closed_whole shut) no_stage no_ring no_inbox;
    ring_room = ring_room;
    inbox_size = inbox_size;
  }

  pub Crosses-empty : (room : ℕ) → Crosses r (empty {w = w} {v = v} room)
  Crosses-empty room = crosses (empty {w = w} {v = v} room) [] [] nothing refl (λ c. refl) (omega arith) (omega arith)

  -- a beat that was admitted fills the empty stage
  pub Crosses-fed : (x : World H w v) (b : BeatOf H w) (home : ℕ) → x.closed ≡ false → x.stage ≡ [] →
      IsHandedWith r (x.accepted ++ b ∷ []) (homes_with r x.accepted x.homes b home) →
      IsPrefix (due r w v x.accepted x.homes) (due r w v (x.accepted ++ b ∷ []) (homes_with r x.accepted x.homes b home)) →
      Crosses r x → Crosses r (offered r b home x)
  Crosses-fed x b home still no_stage (ms, rest, handed) prefix c =
      let more : List (BeatOf H v) =
      drop (length (due r w v x.accepted x.homes)) (due r w v (x.accepted ++ b ∷ []) (homes_with r x.accepted x.homes b home)) in
      let before : x.taken ++ x.inbox ++ x.ring ≡ due r w v x.accepted x.homes =
      sym (append-nil (x.taken ++ x.inbox ++ x.ring)) ∙ ap (λ t. x.taken ++ x.inbox ++ x.ring ++ t) (sym no_stage) ∙ c.beats in
      let beats : x.taken ++ x.inbox ++ x.ring ++ more ≡ due r w v (x.accepted ++ b ∷ []) (homes_with r x.accepted x.homes b home) =
      ap (λ t. t ++ more) before ∙
      rest_behind (due r w v x.accepted x.homes) (due r w v (x.accepted ++ b ∷ []) (homes_with r x.accepted x.homes b home)) prefix in
      crosses (offered r b home x) ms rest handed beats (λ shut. absurd (cc)) c.ring_room c.inbox_size

  pub Crosses-offered : ChannelLaws r → (x : World H w v) (b : BeatOf H w) (home : ℕ) → IsPossible r x (offer b home) → Crosses r x →
      Crosses r (offered r b home x)
  Crosses-offered laws x b home (still, no_stage, is_beat, small, admitted) c =
      let next : IsHandedWith r (x.accepted ++ b ∷ []) (homes_with r x.accepted x.homes b home) =
      one_more r near far partial_masked laws c.handed b home is_beat small admitted in
      Crosses-fed x b home still no_stage next (due_grows r near far partial_masked c.handed b home next) c

  pub Crosses-pushed : (k : ℕ) (x : World H w v) → k ≤ min (length x.stage) (x.room - length x.ring) → Crosses r x → Crosses r (pushed k x)
  Crosses-pushed k x fits c =
      let size : length (x.ring ++ take k x.stage) ≡ length x.ring + min k (length x.stage) =
      length-append x.ring (take k x.stage) ∙ ap (λ n. length x.ring + n) (length-take k x.stage) in
      let room : length x.ring ≤ x.room = c.ring_room in
      crosses (pushed k x) c.messages c.rest c.handed
      (cut_moves_after (x.taken ++ x.inbox) k x.ring x.stage ∙ c.beats) c.closed_whole (omega arith) c.inbox_size

  pub Crosses-popped : (k : ℕ) (x : World H w v) → k ≤ min (length x.ring) (inbox_room - length x.inbox) → Crosses r x → Crosses r (popped k x)
  Crosses-popped k x fits c =
      let size : length (x.inbox ++ take k x.ring) ≡ length x.inbox + min k (length x.ring) =
      length-append x.inbox (take k x.ring) ∙ ap (λ n. length x.inbox + n) (length-take k x.ring) in
      let fewer : length (drop k x.ring) ≡ length x.ring - k = length-drop k x.ring in
      let room : length x.ring ≤ x.room = c.ring_room in
      let inbox : length x.inbox ≤ inbox_room = c.inbox_size in
      crosses (popped k x) c.messages c.rest c.handed
      (ap (λ t. t ++ x.stage) (cut_moves_after x.taken k x.inbox x.ring) ∙ c.beats) c.closed_whole (omega arith) (omega arith)

  pub Crosses-took : (x : World H w v) → Crosses r x → Crosses r (took x)
  Crosses-took x c =
      let fewer : length (drop 1 x.inbox) ≡ length x.inbox - 1 = length-drop 1 x.inbox in
      let inbox : length x.inbox ≤ inbox_room = c.inbox_size in
      crosses (took x) c.messages c.rest c.handed
      (ap (λ t. t ++ x.ring ++ x.stage) (cut_moves 1 x.taken x.inbox) ∙ c.beats) c.closed_whole c.ring_room (omega arith)

  pub Crosses-shut : (x : World H w v) → rest_of r w x.accepted ≡ [] → Crosses r x → Crosses r (shut x)
  Crosses-shut x over c =
      crosses (shut x) c.messages c.rest c.handed c.beats (λ shut. RestIs r w c.handed ∙ over) c.ring_room c.inbox_size

  -- every event that is possible
  pub Crosses-effect : ChannelLaws r → (x : World H w v) (e : Event H w) → IsPossible r x e → Crosses r x → Crosses r (effect r x e)
  Crosses-effect laws x (offer b home) possible c = Crosses-offered laws x b home possible c
  Crosses-effect laws x (push k) possible c = Crosses-pushed k x possible.1 c
  Crosses-effect laws x (pop k) possible c = Crosses-popped k x possible.1 c
  Crosses-effect laws x take_one possible c = Crosses-took x c
  Crosses-effect laws x close possible c = Crosses-shut x possible.1 c

  pub Crosses-run : ChannelLaws r → {x y : World H w v} {es : List (Event H w)} → Run r x es y → Crosses r x → Crosses r y
  Crosses-run laws (done x) c = c
  Crosses-run laws (happens x y e es possible run) c = Crosses-run laws run (Crosses-effect laws x e possible c)
  Crosses-run laws (fails x y e es never run) c = Crosses-run laws run c

module _ {H : Type 0} (r : Rules H) {w v : ℕ} where
  -- once closed nothing more is accepted
  shut_effect : (x : World H w v) (e : Event H w) → IsPossible r x e → x.closed ≡ true →
      ((effect r x e).closed ≡ true) × ((effect r x e).accepted ≡ x.accepted)
  shut_effect x (offer b home) possible closed = let open_yet : x.closed ≡ false = possible.0 in absurd (cc)
  shut_effect x (push k) possible closed = (closed, refl)
  shut_effect x (pop k) possible closed = (closed, refl)
  shut_effect x take_one possible closed = (closed, refl)
  shut_effect x close possible closed = (refl, refl)

  pub shut_run : {x y : World H w v} {es : List (Event H w)} → Run r x es y → x.closed ≡ true → (y.closed ≡ true) × (y.accepted ≡ x.accepted)
  shut_run (done x) closed = (closed, refl)
  shut_run (happens x y e es possible run) closed =
      let now = shut_effect x e possible closed in
      let later = shut_run run now.0 in
      (later.0, later.1 ∙ now.1)
  shut_run (fails x y e es never run) closed = shut_run run closed
