-- The final state of a script, in whole messages: A and D at a state that steps reach and that no step leaves, and each
-- other channel by itself.
use Rattle.tl_settle.proofs.Names.{◌≡◌, ◌≢◌, ◌≤◌, ◌<◌, ◌+◌, ◌-◌, ◌^◌, ◌↔◌, ℕ, zero, suc, Bool, true, false, cond, Option, None, Some, List, [], ◌∷◌}
use Rattle.tl_settle.proofs.Names.{◌++◌, length, map, take, refl, sym, ap, subst, ◌∙◌, arith, append_assoc, length-filter}
use Rattle.tl_settle.proofs.Names.{◌==◌, ◌&&◌, not, slice_get, All, option_map_or, is_none, filter, IsBeat, rules_a, rules_b, rules_c, rules_d}
use Rattle.tl_settle.proofs.Names.{rules_e, HeadA, HeadD, BeatOf, BeatFault, Beat, SourceBusy, NoRequest, SizeMismatch, beats_of, Handed, nothing}
use Rattle.tl_settle.proofs.Names.{IsHanded, IsHandedWith, fault_after, rest_of, with_home, heads, heads_from, left, some_beats, heads_open}
use Rattle.tl_settle.proofs.Names.{heads_inside_one, equal_true, there_is, Extends, take-next, take-past, count_by-append, NoFaults}
use Rattle.tl_settle.proofs.Names.{no-faults-less, Beats, verdict_of, far_alone, verdict_alone, homes_after, home_of, is_release_ack, is_request_of}
use Rattle.tl_settle.proofs.Names.{is_response_to, partner, requests_of, responses_to, IsSettledState, far_a, far_d, goes_a, goes_d, held_request}
use Rattle.tl_settle.proofs.Names.{held_response, is_free, requests, responses, settled_state, stops_a, stops_d, Reaches, Settled, State}
use Rattle.tl_msg.specs.Rules.{Rules}
use Rattle.tl_burst.proofs.BegunMessages.{left-zero}
use Rattle.tl_convert.proofs.Accepting.{each_beat, no_faults_handed}
use Rattle.tl_settle.specs.InMessages.{AreBeats, Brings, BringsAlone, EndsInMessages}
use Rattle.tl_settle.specs.Obeying.{LinksObey}
use Rattle.tl_settle.proofs.Admits.{at_admitted}
use Rattle.tl_settle.proofs.Brings.{Known, own_homes, brings, brings_alone}
use Rattle.tl_settle.proofs.Grows.{homes_more}
use Rattle.tl_settle.proofs.Manager.{whole_asks}
use Rattle.tl_settle.proofs.Settles.{Good, good, one_settled, there_behind, within}
use Rattle.tl_settle.proofs.Sides.{nth_stays}

-- the next beat is refused if no step is possible
stays : {X Y : Type 0} (s : X → Option Y) (o : Option X) →
    option_map_or (λ x. is_none (s x)) o false ≡ false → (x : X) → o ≡ Some x → s x ≢ None
stays s None e x f g = cc
stays s (Some y) e x f g =
    let same : y ≡ x = cc in
    let u : is_none (s y) ≡ true = ap (λ z. is_none (s z)) same ∙ ap (λ q. is_none q) g in
    cc

-- the reason why a beat is held back is not a fault of its own
never_a : (f : Bool) (fault : BeatFault) → cond f None (Some SourceBusy) ≡ Some (Beat fault) → ⊥
never_a true fault e = cc
never_a false fault e = cc

never_d : (r n s : Bool) (fault : BeatFault) →
    cond r None (cond n (cond s None (Some SizeMismatch)) (Some NoRequest)) ≡ Some (Beat fault) → ⊥
never_d true n s fault e = cc
never_d false false s fault e = cc
never_d false true true fault e = cc
never_d false true false fault e = cc

-- the items that a test takes are items of the list
one_filtered : {X : Type 0} (p : X → Bool) (y : X) (ys : List X) (x : X) →
    ((k : ℕ) → slice_get (filter p ys) k ≡ Some x → (i : ℕ) × (slice_get ys i ≡ Some x)) →
    (t : Bool) → p y ≡ t → (k : ℕ) →
    slice_get (cond t (y ∷ filter p ys) (filter p ys)) k ≡ Some x →
    (i : ℕ) × (slice_get (y ∷ ys) i ≡ Some x)
one_filtered p y ys x others true e zero g = (0, g)
one_filtered p y ys x others true e (suc k) g = let n = others k g in (suc n.0, n.1)
one_filtered p y ys x others false e k g = let n = others k g in (suc n.0, n.1)

of_filter : {X : Type 0} (p : X → Bool) (xs : List X) (k : ℕ) (x : X) →
    slice_get (filter p xs) k ≡ Some x → (i : ℕ) × (slice_get xs i ≡ Some x)
of_filter p [] k x e = cc
of_filter p (y ∷ ys) k x e = one_filtered p y ys x (λ n. of_filter p ys n x) (p y) refl k e

-- the messages that begin in a list have the heads of its beats
of_heads : {H : Type 0} (r : Rules H) {w : ℕ} (inside : ℕ) (bs : List (BeatOf H w)) (k : ℕ)
    (h : H) → slice_get (heads_from r w inside bs) k ≡ Some h →
    (i : ℕ) × (b : BeatOf H w) × (slice_get bs i ≡ Some b) × (b.head ≡ h)
of_heads r inside [] k h e = cc
of_heads r zero (b ∷ bs) zero h e = let same : b.head ≡ h = cc in (0, b, refl, same)
of_heads {H} r {w} zero (b ∷ bs) (suc k) h e =
    let n = of_heads r (beats_of r b.head w - 1) bs k h e in
    (suc n.0, n.1, n.2, n.3)
of_heads r (suc inside) (b ∷ bs) k h e =
    let n = of_heads r inside bs k h e in
    (suc n.0, n.1, n.2, n.3)

small_or_zero : (o : Option HeadA) → ((q : HeadA) → o ≡ Some q → q.address < 2 ^ 64) →
    option_map_or (λ q. q.address) o 0 < 2 ^ 64
small_or_zero None f = omega arith
small_or_zero (Some q) f = f q refl

small_home : (requests : List HeadA) →
    ((k : ℕ) (q : HeadA) → slice_get requests k ≡ Some q → q.address < 2 ^ 64) →
    (before : List HeadD) (h : HeadD) (t : Bool) → is_release_ack h ≡ t →
    home_of requests before h < 2 ^ 64
small_home requests small before h true e = rw e (omega arith)
small_home requests small before h false e =
    rw e (small_or_zero (partner requests before h.source)
    (λ q f. let n =
    of_filter (is_request_of h.source) requests (responses_to h.source before) q f in
    small n.0 q n.1))

-- the homes of responses whose requests are among the first ones
one_home : {qs all : List HeadA} → Extends qs all → (before : List HeadD) (h : HeadD) (t : Bool) →
    is_release_ack h ≡ t →
    (t ≡ false → responses_to h.source before < requests_of h.source qs) →
    home_of all before h ≡ home_of qs before h
one_home {qs} {all} on before h true e room =
    ap (λ t. cond t 0 (option_map_or (λ q. q.address) (partner all before h.source) 0)) e ∙
    ap (λ t. cond t 0 (option_map_or (λ q. q.address) (partner qs before h.source) 0)) (sym e)
one_home {qs} {all} on before h false e room =
    let s : ℕ = h.source in
    let k : ℕ = responses_to s before in
    let l : length (filter (is_request_of s) qs) ≡ requests_of s qs =
    length-filter (is_request_of s) qs in
    let n : k < requests_of s qs = room refl in
    let q = there_is (filter (is_request_of s) qs) k (omega arith) in
    let same : partner all before s ≡ partner qs before s =
    nth_stays (is_request_of s) k q.0 on q.1 ∙ sym q.1 in
    ap (λ (x : Option HeadA). cond (is_release_ack h) 0 (option_map_or (λ y. y.address) x 0)) same

few_before : (n : ℕ) (before hs : List HeadD) (h : HeadD) → is_release_ack h ≡ false →
    responses_to h.source (before ++ h ∷ hs) ≤ n →
    responses_to h.source before < n
few_before n before hs h e few =
    let c = count_by-append (is_response_to h.source) before (h ∷ hs) in
    let k : responses_to h.source (h ∷ hs) ≡
    0 + cond (is_response_to h.source h) 1 0 + responses_to h.source hs =
    count_by-append (is_response_to h.source) (h ∷ []) hs in
    let f : (h.source == h.source) ≡ true = equal_true h.source h.source refl in
    let u : ◌≡◌ {A = ℕ} (cond (is_response_to h.source h) 1 0) 1 =
    ap (λ t. cond (not t && (h.source == h.source)) 1 0) e ∙ ap (λ t. cond t 1 0) f in
    omega arith

pub first_homes : {qs all : List HeadA} → Extends qs all → (before hs : List HeadD) →
    ((s : ℕ) → responses_to s (before ++ hs) ≤ requests_of s qs) →
    homes_after all before hs ≡ homes_after qs before hs
first_homes on before [] few = refl
first_homes {qs} {all} on before (h ∷ hs) few =
    ap (λ q. q ∷ homes_after all (before ++ h ∷ []) hs)
    (one_home on before h (is_release_ack h) refl
    (λ e. few_before (requests_of h.source qs) before hs h e (few h.source))) ∙
    ap (λ q. home_of qs before h ∷ q)
    (first_homes on (before ++ h ∷ []) hs
    (λ s. subst (λ xs. responses_to s xs ≤ requests_of s qs)
    (sym (append_assoc before (h ∷ []) hs)) (few s)))

-- the homes of D's messages are kept beat by beat
module _ {M C : ℕ} (known : Known rules_d M C) (requests : List HeadA)
    (small : (k : ℕ) (q : HeadA) → slice_get requests k ≡ Some q → q.address < 2 ^ 64) where
  abbrev homes_of : List (BeatOf HeadD M) → List ℕ
  homes_of bs = homes_after requests [] (heads rules_d M bs)

  homes_one : (bs : List (BeatOf HeadD M)) (b : BeatOf HeadD M) →
      ((left rules_d M bs ≡ 0) ↔ (rest_of rules_d M bs ≡ [])) → (rest : List (BeatOf HeadD M)) →
      rest_of rules_d M bs ≡ rest →
      (l : ℕ) → left rules_d M bs ≡ l →
      with_home rules_d (home_of requests (heads rules_d M bs) b.head) rest (homes_of bs) ≡
      homes_of (bs ++ b ∷ [])
  homes_one bs b ends [] e l f =
      sym (ap (λ hs. homes_after requests [] hs) (heads_open rules_d M 0 bs b (ends.1 e)) ∙
      homes_more requests [] (heads rules_d M bs) (b.head ∷ []))
  homes_one bs b ends (x ∷ xs) e zero f = let g : [] ≡ x ∷ xs = sym (ends.0 f) ∙ e in cc
  homes_one bs b ends (x ∷ xs) e (suc l) f =
      sym (ap (λ hs. homes_after requests [] hs) (heads_inside_one rules_d M 0 l bs b f))

  one_more : (bs : List (BeatOf HeadD M)) (b : BeatOf HeadD M) →
      IsHandedWith rules_d bs (homes_of bs) → IsBeat rules_d b → fault_after rules_d bs b ≡ None →
      IsHandedWith rules_d (bs ++ b ∷ []) (homes_of (bs ++ b ∷ []))
  one_more bs b h beat fine =
      let home : ℕ = home_of requests (heads rules_d M bs) b.head in
      subst (λ hs. IsHandedWith rules_d (bs ++ b ∷ []) hs)
      (homes_one bs b (left-zero rules_d M h.2) (rest_of rules_d M bs) refl
      (left rules_d M bs) refl)
      (known.kept bs (homes_of bs) b home h beat fine
      (small_home requests small (heads rules_d M bs) b.head (is_release_ack b.head) refl))

  next_handed : (d : List (BeatOf HeadD M))
      (beats : (k : ℕ) (b : BeatOf HeadD M) → slice_get d k ≡ Some b → IsBeat rules_d b) (j : ℕ) →
      ((b : BeatOf HeadD M) → slice_get d j ≡ Some b → fault_after rules_d (take j d) b ≡ None) →
      IsHandedWith rules_d (take j d) (homes_of (take j d)) →
      (o : Option (BeatOf HeadD M)) → slice_get d j ≡ o →
      IsHandedWith rules_d (take (suc j) d) (homes_of (take (suc j) d))
  next_handed d beats j fine h None e =
      subst (λ q. IsHandedWith rules_d q (homes_of q)) (sym (take-past d j e)) h
  next_handed d beats j fine h (Some b) e =
      subst (λ q. IsHandedWith rules_d q (homes_of q)) (sym (take-next d j b e))
      (one_more (take j d) b h (beats j b e) (fine b e))

  pub d_handed : (d : List (BeatOf HeadD M)) →
      ((k : ℕ) (b : BeatOf HeadD M) → slice_get d k ≡ Some b → IsBeat rules_d b) → (j : ℕ) →
      NoFaults rules_d d j →
      IsHandedWith rules_d (take j d) (homes_of (take j d))
  d_handed d beats zero f = ([], [], nothing)
  d_handed d beats (suc j) f =
      next_handed d beats j (λ b e. f.none j b (omega arith) e)
      (d_handed d beats j (no-faults-less j (omega arith) f)) (slice_get d j) refl

module _ {C M : ℕ} (near : 0 < C) (far : 0 < M) (a : List (BeatOf HeadA C))
    (d : List (BeatOf HeadD M)) (on_a : Known rules_a C M) (on_d : Known rules_d M C)
    (beats_a : (k : ℕ) (b : BeatOf HeadA C) → slice_get a k ≡ Some b → IsBeat rules_a b)
    (beats_d : (k : ℕ) (b : BeatOf HeadD M) → slice_get d k ≡ Some b → IsBeat rules_d b) where
  pub ends_a : (i j : ℕ) → Reaches (goes_a a d) (goes_d a d) i j → goes_a a d i j ≡ false →
      Brings rules_a a (far_a a d i) i (map (λ h. h.address) (requests a d i))
      (held_request a d i j)
      (verdict_of i (length (far_a a d i)) (left rules_a C (take i a))
      (option_map_or (λ b. stops_a a d i j b) (slice_get a i) None))
  ends_a i j r stop =
      let h : IsHanded rules_a (take i a) =
      no_faults_handed rules_a on_a.exact a beats_a i (good near far a d r).a_fine in
      let handed : Handed rules_a C (take i a)
      (map (λ h. h.address) (requests a d i)) h.messages h.rest =
      subst (λ hs. Handed rules_a C (take i a) hs h.messages h.rest)
      (own_homes rules_a (some_beats rules_a C near) (λ x y. refl) h.handed) h.handed in
      brings rules_a (some_beats rules_a C near) (some_beats rules_a M far) on_a a beats_a i
      (within near far a d r).0 handed
      (held_request a d i j) (λ h fault e. never_a (is_free a d i j h.source) fault e)
      (λ b. stops_a a d i j b) (λ b. refl) (stays (stops_a a d i j) (slice_get a i) stop)

  pub small_requests : (k : ℕ) (q : HeadA) → slice_get (heads rules_a C a) k ≡ Some q →
      q.address < 2 ^ 64
  small_requests k q e =
      let n = of_heads rules_a 0 a k q e in
      subst (λ h. h.address < 2 ^ 64) n.3 (beats_a n.0 n.1 n.2).address

  pub ends_d : (i j : ℕ) → Reaches (goes_a a d) (goes_d a d) i j → goes_d a d i j ≡ false →
      Brings rules_d d (far_d a d j) j (homes_after (requests a d i) [] (responses a d j))
      (held_response a d i j)
      (verdict_of j (length (far_d a d j)) (left rules_d M (take j d))
      (option_map_or (λ b. stops_d a d i j b) (slice_get d j) None))
  ends_d i j r stop =
      let g : Good near far a d i j = good near far a d r in
      let h = d_handed on_d (heads rules_a C a) small_requests d beats_d j g.d_fine in
      let few : (s : ℕ) → responses_to s (responses a d j) ≤ requests_of s (requests a d i) =
      λ s. let x = g.fewer s in let y = there_behind near far a d i s g.a_fine in omega arith in
      subst (λ hs. Brings rules_d d (far_d a d j) j hs (held_response a d i j)
      (verdict_of j (length (far_d a d j)) (left rules_d M (take j d))
      (option_map_or (λ b. stops_d a d i j b) (slice_get d j) None)))
      (first_homes (whole_asks near far a d i) [] (responses a d j) few)
      (brings rules_d (some_beats rules_d M far) (some_beats rules_d C near) on_d d beats_d j
      (within near far a d r).1 h.2
      (held_response a d i j) (λ h fault e. never_d (is_release_ack h) _ _ fault e)
      (λ b. stops_d a d i j b) (λ b. refl) (stays (stops_d a d i j) (slice_get d j) stop))

-- a channel that does not depend on another channel, if a head determines the home
alone : {H : Type 0} (r : Rules H) {w v : ℕ} → 0 < w → 0 < v → Known r w v →
    ((h : H) (x : ℕ) → r.lane_address h x ≡ r.lane_address h 0) →
    (bs : List (BeatOf H w)) → All (λ b. IsBeat r b) bs →
    BringsAlone r bs (far_alone r v bs) (verdict_alone r v bs)
alone r {w} {v} near far known fixed bs all =
    let beats = each_beat r known.exact bs all in
    brings_alone r (some_beats r w near) (some_beats r v far) known bs beats fixed

pub script_ends : {C M : ℕ} → 0 < C → 0 < M →
    Known rules_a C M → Known rules_b M C → Known rules_c C M → Known rules_d M C →
    Known rules_e C M → ((bs : Beats C M) → AreBeats bs → LinksObey bs) →
    (bs : Beats C M) → AreBeats bs → EndsInMessages bs
script_ends near far on_a on_b on_c on_d on_e obey bs held =
    let a = bs.a in
    let d = bs.d in
    let settled : IsSettledState a d (settled_state a d) = one_settled near far a d in
    let beats_a = each_beat rules_a on_a.exact a held.a in
    let beats_d = each_beat rules_d on_d.exact d held.d in
    let s : State = settled_state a d in
    let stands : Settled (goes_a a d) (goes_d a d) s.a s.d = settled.settled in
    record {
      settled = settled;
      admitted = λ i j r. at_admitted near far on_a.exact on_d.exact a d held.a held.d i j r;
      on_a = ends_a near far a d on_a on_d beats_a beats_d s.a s.d stands.reached stands.a_stops;
      on_b = alone rules_b far near on_b (λ h x. refl) bs.b held.b;
      on_c = alone rules_c near far on_c (λ h x. refl) bs.c held.c;
      on_d = ends_d near far a d on_a on_d beats_a beats_d s.a s.d stands.reached stands.d_stops;
      on_e = alone rules_e near far on_e (λ h x. refl) bs.e held.e;
      links = obey bs held;
    }
