-- Each call of an outbox keeps the history that it represents, and that gives every crossing among whose parts its
-- beats are divided.
use Rattle.tl_ring.proofs.Names.{◌≡◌, ◌≤◌, ◌<◌, ◌^◌, ℕ, zero, suc, true, false, List, [], ◌∷◌, ◌++◌, length, take, drop, refl, sym, ap, subst, ◌∙◌}
use Rattle.tl_ring.proofs.Names.{append_assoc, append-nil, drop-append_seam, IsWidth, IsBeat, Rules, BeatOf, IsAdmitted, rest_of, homes_with, due}
use Rattle.tl_ring.proofs.Names.{Outgoing, HasSent, as_sent, World, empty, inbox_room, IsReached, Crosses, RestIs}
use Rattle.tl_convert.specs.Converting.{Progress}
use Rattle.tl_convert.specs.Converting as converting
use Rattle.tl_ring.proofs.Moves.{cut_moves}
use Rattle.tl_ring.proofs.Reached.{reached_new, reached_offered, reached_shut}
use Rattle.tl_ring.proofs.Parting.{into_taken, reached_parted}
use Rattle.tl_ring.proofs.Crossings.{crosses}

-- if inbox and ring are empty, all beats that were sent were taken
pub none_on_the_way : {X : Type 0} (taken inbox ring : List X) → inbox ≡ [] → ring ≡ [] → taken ++ inbox ++ ring ≡ taken
none_on_the_way taken inbox ring no_inbox no_ring =
    ap (λ t. taken ++ inbox ++ t) no_ring ∙ append-nil (taken ++ inbox) ∙ ap (λ t. taken ++ t) no_inbox ∙ append-nil taken

module _ {H : Type 0} (r : Rules H) {w v : ℕ} where
  -- staged beats pass through the ring one by one
  reached_passed : (k : ℕ) (stage : List (BeatOf H v)) (x : World H w v) → x.stage ≡ stage → x.ring ≡ [] → x.inbox ≡ [] → 1 ≤ x.room →
      IsReached r x → IsReached r (record x { stage = drop k stage; taken = x.taken ++ take k stage })
  reached_passed zero stage x staged no_ring no_inbox room h =
      let e : x ≡ record x { stage = stage; taken = x.taken ++ [] } =
      λ i. record x { stage = staged i; taken = sym (append-nil x.taken) i } in
      subst (λ (y : World H w v). IsReached r y) e h
  reached_passed (suc k) [] x staged no_ring no_inbox room h =
      let e : x ≡ record x { stage = []; taken = x.taken ++ [] } =
      λ i. record x { stage = staged i; taken = sym (append-nil x.taken) i } in
      subst (λ (y : World H w v). IsReached r y) e h
  reached_passed (suc k) (b ∷ more) x staged no_ring no_inbox room h =
      let next : IsReached r (record x { stage = drop k more; ring = []; inbox = []; taken = (x.taken ++ b ∷ []) ++ take k more }) =
      reached_passed k more (record x { stage = more; ring = []; inbox = []; taken = x.taken ++ b ∷ [] }) refl refl refl room
      (into_taken r x b more staged no_ring no_inbox room h) in
      let e : record x { stage = drop k more; ring = []; inbox = []; taken = (x.taken ++ b ∷ []) ++ take k more } ≡
      record x { stage = drop k more; taken = x.taken ++ (b ∷ take k more) } =
      λ i. record x { stage = drop k more; ring = sym no_ring i; inbox = sym no_inbox i; taken = append_assoc x.taken (b ∷ []) (take k more) i } in
      subst (λ (y : World H w v). IsReached r y) e next

  pub has_new : (o : Outgoing H v) → IsWidth w → IsWidth v → converting.StandsFor {w = w} r o.converter [] [] → o.stage ≡ [] → o.closed ≡ false →
      HasSent r {w = w} o [] [] []
  has_new o near far converts none_staged still = record {
    near = near;
    far = far;
    converter = converts;
    beats = none_staged;
    closed_whole = λ shut. refl;
    reached = λ room some.
        let e : empty {w = w} {v = v} room ≡ as_sent {w = w} room o [] [] [] =
        λ i. record (empty {w = w} {v = v} room) { stage = sym none_staged i; closed = sym still i } in
        subst (λ (y : World H w v). IsReached r y) e (reached_new r room);
  }

  pub has_offered : (o : Outgoing H v) (bs : List (BeatOf H w)) (homes : List ℕ) (sent : List (BeatOf H v)) (b : BeatOf H w) (home : ℕ)
      (c : Progress H v) (out : List (BeatOf H v)) →
      IsBeat r b → r.lane_address b.head home < 2 ^ 64 → IsAdmitted r bs b → o.stage ≡ [] → o.closed ≡ false →
      converting.StandsFor r c (bs ++ b ∷ []) (homes_with r bs homes b home) →
      due r w v (bs ++ b ∷ []) (homes_with r bs homes b home) ≡ due r w v bs homes ++ out → HasSent r o bs homes sent →
      HasSent r (record o { converter = c; stage = out }) (bs ++ b ∷ []) (homes_with r bs homes b home) sent
  has_offered o bs homes sent b home c out is_beat small admitted none_staged still converts more h =
      let before : sent ≡ due r w v bs homes = sym (append-nil sent) ∙ ap (λ t. sent ++ t) (sym none_staged) ∙ h.beats in
      let out_is : drop (length (due r w v bs homes)) (due r w v (bs ++ b ∷ []) (homes_with r bs homes b home)) ≡ out =
      ap (λ t. drop (length (due r w v bs homes)) t) more ∙ drop-append_seam (due r w v bs homes) out in
      record {
        near = h.near;
        far = h.far;
        converter = converts;
        beats = ap (λ t. t ++ out) before ∙ sym more;
        closed_whole = λ shut. absurd (cc);
        reached = λ room some.
            let x : World H w v = as_sent room o bs homes sent in
            let P : List (BeatOf H v) → Type 0 =
            λ stage. IsReached r (record x { accepted = bs ++ b ∷ []; homes = homes_with r bs homes b home; stage = stage }) in
            subst P out_is (reached_offered r x b home (still, none_staged, is_beat, small, admitted) (h.reached room some));
      }

  -- the first k staged beats were sent
  pub has_more_sent : (k : ℕ) (o : Outgoing H v) (bs : List (BeatOf H w)) (homes : List ℕ) (sent : List (BeatOf H v)) → HasSent r o bs homes sent →
      HasSent r (record o { stage = drop k o.stage }) bs homes (sent ++ take k o.stage)
  has_more_sent k o bs homes sent h = record {
    near = h.near;
    far = h.far;
    converter = h.converter;
    beats = cut_moves k sent o.stage ∙ h.beats;
    closed_whole = h.closed_whole;
    reached = λ room some. reached_passed k o.stage (as_sent room o bs homes sent) refl refl refl some (h.reached room some);
  }

  pub has_closed : (o : Outgoing H v) (bs : List (BeatOf H w)) (homes : List ℕ) (sent : List (BeatOf H v)) → rest_of r w bs ≡ [] →
      HasSent r o bs homes sent →
      HasSent r (record o { closed = true }) bs homes sent
  has_closed o bs homes sent over h = record {
    near = h.near;
    far = h.far;
    converter = h.converter;
    beats = h.beats;
    closed_whole = λ shut. over;
    reached = λ room some. reached_shut r (as_sent room o bs homes sent) over (h.reached room some);
  }

  -- however what was sent is parted among what was taken, an inbox and a ring, a list of events leads there
  pub reached_by : (o : Outgoing H v) (x : World H w v) → 1 ≤ x.room → o.stage ≡ x.stage → o.closed ≡ x.closed → length x.ring ≤ x.room →
      length x.inbox ≤ inbox_room → HasSent r o x.accepted x.homes (x.taken ++ x.inbox ++ x.ring) → IsReached r x
  reached_by o x some staged closed fits held h =
      let all : List (BeatOf H v) = x.taken ++ x.inbox ++ x.ring in
      let y : World H w v = as_sent x.room o x.accepted x.homes all in
      let parted : IsReached r (record y { ring = x.ring; inbox = x.inbox; taken = x.taken }) =
      reached_parted r y some x.taken x.inbox x.ring (none_on_the_way all [] [] refl refl) held fits (h.reached x.room some) in
      let e : record y { ring = x.ring; inbox = x.inbox; taken = x.taken } ≡ x =
      λ i. record x { stage = staged i; closed = closed i } in
      subst (λ (z : World H w v). IsReached r z) e parted

module _ {H : Type 0} (r : Rules H) {w v : ℕ} (partial_masked : (h : H) → r.partial h ≡ true → r.masked ≡ true) where
  -- and what holds at every moment of a crossing holds there
  pub crosses_by : (o : Outgoing H v) (x : World H w v) → o.stage ≡ x.stage → o.closed ≡ x.closed → length x.ring ≤ x.room →
      length x.inbox ≤ inbox_room → HasSent r o x.accepted x.homes (x.taken ++ x.inbox ++ x.ring) → Crosses r x
  crosses_by o x staged closed fits held h =
      let (ms, rest, handed) = h.converter.handed in
      crosses r h.near h.far partial_masked x ms rest handed
      (ap (λ t. x.taken ++ x.inbox ++ x.ring ++ t) (sym staged) ∙ h.beats)
      (λ shut. RestIs r w handed ∙ h.closed_whole (closed ∙ shut)) fits held
