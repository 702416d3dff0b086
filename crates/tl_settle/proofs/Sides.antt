-- The client's side within a run: accepting a beat is a step, and its reason to refuse one, once all due beats are
-- taken, is the one of the step.
use Rattle.tl_settle.proofs.Names.{◌≡◌, ◌≤◌, ◌<◌, ◌≢◌, ℕ, zero, suc, Bool, true, false, cond, Option, None, Some, List, [], ◌∷◌, ◌++◌, length, take}
use Rattle.tl_settle.proofs.Names.{refl, sym, ap, subst, ◌∙◌, arith, zero-le, ⊎_elim, inl, inr, eqb_tells, slice_get_within, length-filter, ◌==◌}
use Rattle.tl_settle.proofs.Names.{◌&&◌, not, slice_get, option_map_or, is_none, is_some, filter, rules_a, rules_d, HeadA, HeadD, BeatOf, BeatFault}
use Rattle.tl_settle.proofs.Names.{Beat, SourceBusy, Extends, more, count_by-append, count-grows, take-next, equal_true, true_equal, not_equal}
use Rattle.tl_settle.proofs.Names.{map_true, some_not_none, is_there, there_is, none_past, heads_open, heads_inside_one, heads_extend, Answer, Ask}
use Rattle.tl_settle.proofs.Names.{Event, answered, asked, client_answer, marks, open_request, is_release_ack, is_request_of, is_response_to}
use Rattle.tl_settle.proofs.Names.{requests_of, responses_to, far_d, goes_a, goes_d, is_free, requests, stops_a, Reaches, by_a, by_d, start, heads}
use Rattle.tl_settle.proofs.Names.{left, fault_after}
use Rattle.std.proofs.lemmas.List.Elements.{filter-append}
use Rattle.tl_settle.proofs.Orders.{asks, answers, Ordered, ask, answer, ClientIs}
use Rattle.tl_settle.proofs.Settles.{good, there_behind, back_grows, back_behind, responses_there}
use Rattle.tl_settle.proofs.Opens.{Match, matches, asks_heads, answers_heads}
use Rattle.tl_settle.proofs.Marks.{asked_ask, asked_answer, answered_ask, answered_answer, marks_ask_first, marks_ask_inside, marks_answer_first}
use Rattle.tl_settle.proofs.Marks.{marks_answer_inside}

client_imp : (o : Option BeatFault) (l p f : Bool) → (p ≡ false → f ≡ true) →
    option_map_or (λ x. Some (Beat x)) o (cond l (cond p (Some SourceBusy) None) None) ≡ None →
    is_none (option_map_or (λ x. Some (Beat x)) o (cond l (cond f None (Some SourceBusy)) None)) ≡ true
client_imp (Some x) l p f h e = cc
client_imp None false p f h e = refl
client_imp None true true f h e = cc
client_imp None true false f h e = rw (h refl) refl

pub client_first : (o : Option BeatFault) (p : Bool) →
    option_map_or (λ x. Some (Beat x)) o (cond true (cond p (Some SourceBusy) None) None) ≡ None → p ≡ false
client_first (Some x) p e = cc
client_first None true e = cc
client_first None false e = refl

free_true : (o : Option BeatFault) (f : Bool) →
    is_none (option_map_or (λ x. Some (Beat x)) o (cond true (cond f None (Some SourceBusy)) None)) ≡ true → f ≡ true
free_true (Some x) f e = cc
free_true None true e = refl
free_true None false e = cc

swap : (p f : Bool) → f ≡ not p → cond p (Some SourceBusy) None ≡ cond f None (Some SourceBusy)
swap true f e = rw e refl
swap false f e = rw e refl

pub to_response : (s : ℕ) (h : HeadD) → is_release_ack h ≡ false → h.source ≡ s → is_response_to s h ≡ true
to_response s h e f = ap (λ b. not b && (h.source == s)) e ∙ equal_true h.source s f

-- the number of a request among those of a source stays the same while the list grows
pub nth_stays : {X : Type 0} (p : X → Bool) (k : ℕ) (q : X) {xs ys : List X} → Extends xs ys → slice_get (filter p xs) k ≡ Some q →
    slice_get (filter p ys) k ≡ Some q
nth_stays {X = X} p k q (more xs rest) e = ap (λ zs. slice_get zs k) (filter-append p xs rest) ∙ first_stays (filter p xs) (filter p rest) k e
  where
    first_stays : (us vs : List X) (n : ℕ) → slice_get us n ≡ Some q → slice_get (us ++ vs) n ≡ Some q
    first_stays [] vs n f = cc
    first_stays (u ∷ us) vs zero f = f
    first_stays (u ∷ us) vs (suc n) f = first_stays us vs n f

module _ {C M : ℕ} (near : 0 < C) (far : 0 < M) (a : List (BeatOf HeadA C)) (d : List (BeatOf HeadD M)) where
  -- for each source, at most one request more has begun than responses at the client's side
  abbrev pub Tight : ℕ → ℕ → Type 0
  Tight i j = (s : ℕ) → requests_of s (requests a d i) ≤ suc (responses_to s (responses_there a d j))

  tight_a : (i j s : ℕ) (b : BeatOf HeadA C) (l : ℕ) → left rules_a C (take i a) ≡ l → is_none (stops_a a d i j b) ≡ true →
      requests_of s (requests a d i) ≤ suc (responses_to s (responses_there a d j)) →
      requests_of s (heads rules_a C (take i a ++ b ∷ [])) ≤ suc (responses_to s (responses_there a d j))
  tight_a i j s b (suc l) e stop old = rw (heads_inside_one rules_a C 0 l (take i a) b e) old
  tight_a i j s b zero e stop old =
      let c = count_by-append (is_request_of s) (requests a d i) (b.head ∷ []) in
      let free : is_free a d i j b.head.source ≡ true =
      free_true (fault_after rules_a (take i a) b) (is_free a d i j b.head.source)
      (subst (λ x. is_none (option_map_or (λ f. Some (Beat f)) (fault_after rules_a (take i a) b)
      (cond (x == 0) (cond (is_free a d i j b.head.source) None (Some SourceBusy)) None)) ≡ true) e stop) in
      let same : requests_of b.head.source (requests a d i) ≡ responses_to b.head.source (responses_there a d j) =
      true_equal _ _ free in
      rw (heads_open rules_a C 0 (take i a) b e)
      (⊎_elim
      (λ (p : ((b.head.source == s) ≡ true) × (b.head.source ≡ s)).
      let u : ◌≡◌ {A = ℕ} (cond (is_request_of s b.head) 1 0) 1 = ap (λ x. cond x 1 0) p.0 in
      let at : requests_of s (requests a d i) ≡ responses_to s (responses_there a d j) =
      subst (λ x. requests_of x (requests a d i) ≡ responses_to x (responses_there a d j)) p.1 same in
      omega arith)
      (λ (p : ((b.head.source == s) ≡ false) × (b.head.source ≢ s)).
      let u : ◌≡◌ {A = ℕ} (cond (is_request_of s b.head) 1 0) 0 = ap (λ x. cond x 1 0) p.0 in
      omega arith)
      (eqb_tells b.head.source s))

  pub tight : {i j : ℕ} → Reaches (goes_a a d) (goes_d a d) i j → Tight i j
  tight start s = zero-le
  tight (by_a i j r g) s =
      let found = map_true (λ b. is_none (stops_a a d i j b)) (slice_get a i) g in
      rw (take-next a i found.0 found.1) (tight_a i j s found.0 (left rules_a C (take i a)) refl found.2 (tight r s))
  tight (by_d i j r g) s = let h = tight r s in let k = back_grows near far a d j (suc j) s (omega arith) (good near far a d (by_d i j r g)).d_fine in
      omega arith

  -- The client's side: what it counts.
  client_asks : (i j : ℕ) (es : List (Event C)) → ClientIs a d i j es → asks (marks es) ≡ requests a d i
  client_asks i j es c = asks_heads 0 0 es ∙ ap (λ bs. heads rules_a C bs) c.accepted

  client_answers : (i j s : ℕ) (es : List (Event C)) → ClientIs a d i j es →
      responses_to s (answers (marks es)) ≤ responses_to s (responses_there a d j)
  client_answers i j s es c = rw (answers_heads 0 0 es) (count-grows (is_response_to s) (heads_extend rules_d C c.taken))

  -- if its table says that a source is free, the step's rule says the same
  client_free : (i j s : ℕ) (es : List (Event C)) → Reaches (goes_a a d) (goes_d a d) i j → ClientIs a d i j es →
      is_some (open_request s (marks es)) ≡ false → is_free a d i j s ≡ true
  client_free i j s es r c e =
      let m : Match (open_request s (marks es)) (asks (marks es)) (answers (marks es)) s = matches c.ordered s in
      let n : slice_get (filter (is_request_of s) (asks (marks es))) (responses_to s (answers (marks es))) ≡ None =
      sym m.is ∙ some_not_none (open_request s (marks es)) e in
      let k = none_past (filter (is_request_of s) (asks (marks es))) (responses_to s (answers (marks es))) n in
      let l : length (filter (is_request_of s) (asks (marks es))) ≡ requests_of s (requests a d i) =
      length-filter (is_request_of s) (asks (marks es)) ∙ ap (λ q. requests_of s q) (client_asks i j es c) in
      let t = client_answers i j s es c in
      let x = back_behind near far a d j s (good near far a d r).d_fine in
      let y = (good near far a d r).fewer s in
      let z = there_behind near far a d i s (good near far a d r).a_fine in
      equal_true _ _ (omega arith)

  -- so a beat of A that it accepts is a step
  pub client_accepts : (i j : ℕ) (es : List (Event C)) (b : BeatOf HeadA C) → Reaches (goes_a a d) (goes_d a d) i j → ClientIs a d i j es →
      slice_get a i ≡ Some b → client_answer es b ≡ None → goes_a a d i j ≡ true
  client_accepts i j es b r c at ok =
      let here : option_map_or (λ x. Some (Beat x)) (fault_after rules_a (take i a) b)
      (cond (left rules_a C (take i a) == 0) (cond (is_some (open_request b.head.source (marks es))) (Some SourceBusy) None) None) ≡ None =
      subst (λ bs. option_map_or (λ x. Some (Beat x)) (fault_after rules_a bs b)
      (cond (left rules_a C bs == 0) (cond (is_some (open_request b.head.source (marks es))) (Some SourceBusy) None) None) ≡ None) c.accepted ok in
      ap (λ o. option_map_or (λ x. is_none (stops_a a d i j x)) o false) at ∙
      client_imp (fault_after rules_a (take i a) b) (left rules_a C (take i a) == 0) (is_some (open_request b.head.source (marks es)))
      (is_free a d i j b.head.source) (client_free i j b.head.source es r c) here

  -- and after it the side is in the state of the step
  client_ordered : (es : List (Event C)) (b : BeatOf HeadA C) (l : ℕ) → left rules_a C (asked es) ≡ l → Ordered (marks es) →
      client_answer es b ≡ None →
      Ordered (marks (es ++ Ask b ∷ []))
  client_ordered es b zero e o ok =
      rw (marks_ask_first 0 0 es b e)
      (ask (marks es) b.head o (some_not_none (open_request b.head.source (marks es))
      (client_first (fault_after rules_a (asked es) b) (is_some (open_request b.head.source (marks es)))
      (subst (λ x. option_map_or (λ x. Some (Beat x)) (fault_after rules_a (asked es) b)
      (cond (x == 0) (cond (is_some (open_request b.head.source (marks es))) (Some SourceBusy) None) None) ≡ None) e ok))))
  client_ordered es b (suc l) e o ok = rw (marks_ask_inside 0 0 l es b e) o

  pub client_accepted : (i j : ℕ) (es : List (Event C)) (b : BeatOf HeadA C) → ClientIs a d i j es → slice_get a i ≡ Some b →
      client_answer es b ≡ None →
      ClientIs a d (suc i) j (es ++ Ask b ∷ [])
  client_accepted i j es b c at ok = record {
    accepted = asked_ask es b ∙ ap (λ q. q ++ b ∷ []) c.accepted ∙ sym (take-next a i b at);
    taken = rw (answered_ask es b) c.taken;
    ordered = client_ordered es b (left rules_a C (asked es)) refl c.ordered ok;
  }

  -- the beats that the client's side takes arrive in order: a response comes while its source is busy
  response_comes : (i j : ℕ) (es : List (Event C)) (b : BeatOf HeadD C) → Reaches (goes_a a d) (goes_d a d) i j → ClientIs a d i j es →
      Extends (answered es ++ b ∷ []) (far_d a d j) → left rules_d C (answered es) ≡ 0 → is_release_ack b.head ≡ false →
      (q : HeadA) × (open_request b.head.source (marks es) ≡ Some q)
  response_comes i j es b r c on e other =
      let s : ℕ = b.head.source in
      let m : Match (open_request s (marks es)) (asks (marks es)) (answers (marks es)) s = matches c.ordered s in
      let grown : responses_to s (heads rules_d C (answered es ++ b ∷ [])) ≤ responses_to s (responses_there a d j) =
      count-grows (is_response_to s) (heads_extend rules_d C on) in
      let open_one : responses_to s (heads rules_d C (answered es ++ b ∷ [])) ≡ responses_to s (heads rules_d C (answered es) ++ b.head ∷ []) =
      ap (λ hs. responses_to s hs) (heads_open rules_d C 0 (answered es) b e) in
      let one = count_by-append (is_response_to s) (heads rules_d C (answered es)) (b.head ∷ []) in
      let u : ◌≡◌ {A = ℕ} (cond (is_response_to s b.head) 1 0) 1 = ap (λ x. cond x 1 0) (to_response s b.head other refl) in
      let k : responses_to s (answers (marks es)) ≡ responses_to s (heads rules_d C (answered es)) =
      ap (λ hs. responses_to s hs) (answers_heads 0 0 es) in
      let l : length (filter (is_request_of s) (asks (marks es))) ≡ requests_of s (requests a d i) =
      length-filter (is_request_of s) (asks (marks es)) ∙ ap (λ q. requests_of s q) (client_asks i j es c) in
      let x = back_behind near far a d j s (good near far a d r).d_fine in
      let y = (good near far a d r).fewer s in
      let z = there_behind near far a d i s (good near far a d r).a_fine in
      let got = there_is (filter (is_request_of s) (asks (marks es))) (responses_to s (answers (marks es))) (omega arith) in
      (got.0, m.is ∙ got.1)

  takes_ordered : (i j : ℕ) (es : List (Event C)) (b : BeatOf HeadD C) (l : ℕ) (t : Bool) → left rules_d C (answered es) ≡ l →
      is_release_ack b.head ≡ t →
      Reaches (goes_a a d) (goes_d a d) i j → ClientIs a d i j es → Extends (answered es ++ b ∷ []) (far_d a d j) →
      Ordered (marks (es ++ Answer b ∷ []))
  takes_ordered i j es b (suc l) t e f r c on = rw (marks_answer_inside 0 0 l es b e) c.ordered
  takes_ordered i j es b zero true e f r c on = rw (marks_answer_first 0 0 es b e) (answer (marks es) b.head c.ordered (inl f))
  takes_ordered i j es b zero false e f r c on =
      rw (marks_answer_first 0 0 es b e) (answer (marks es) b.head c.ordered (inr (response_comes i j es b r c on e f)))

  pub client_takes : (i j : ℕ) (es : List (Event C)) (b : BeatOf HeadD C) → Reaches (goes_a a d) (goes_d a d) i j → ClientIs a d i j es →
      Extends (answered es ++ b ∷ []) (far_d a d j) → ClientIs a d i j (es ++ Answer b ∷ [])
  client_takes i j es b r c on = record {
    accepted = asked_answer es b ∙ c.accepted;
    taken = rw (answered_answer es b) on;
    ordered = takes_ordered i j es b (left rules_d C (answered es)) (is_release_ack b.head) refl refl r c on;
  }

  -- once all beats are taken, the side's reason to refuse a beat is the one of the step
  busy_free : (i j s : ℕ) (es : List (Event C)) (p : Bool) → Reaches (goes_a a d) (goes_d a d) i j → ClientIs a d i j es →
      answered es ≡ far_d a d j → is_some (open_request s (marks es)) ≡ p → is_free a d i j s ≡ not p
  busy_free i j s es false r c all e = client_free i j s es r c e
  busy_free i j s es true r c all e =
      let m : Match (open_request s (marks es)) (asks (marks es)) (answers (marks es)) s = matches c.ordered s in
      let q = is_there (open_request s (marks es)) e in
      let n : responses_to s (answers (marks es)) < length (filter (is_request_of s) (asks (marks es))) =
      slice_get_within (filter (is_request_of s) (asks (marks es))) (responses_to s (answers (marks es))) q.0 (sym m.is ∙ q.1) in
      let k : responses_to s (answers (marks es)) ≡ responses_to s (responses_there a d j) =
      ap (λ hs. responses_to s hs) (answers_heads 0 0 es ∙ ap (λ bs. heads rules_d C bs) all) in
      let l : length (filter (is_request_of s) (asks (marks es))) ≡ requests_of s (requests a d i) =
      length-filter (is_request_of s) (asks (marks es)) ∙ ap (λ x. requests_of s x) (client_asks i j es c) in
      not_equal _ _ (λ f. absurd (omega arith))

  pub client_stops : (i j : ℕ) (es : List (Event C)) (b : BeatOf HeadA C) → Reaches (goes_a a d) (goes_d a d) i j → ClientIs a d i j es →
      answered es ≡ far_d a d j → client_answer es b ≡ stops_a a d i j b
  client_stops i j es b r c all =
      ap (λ bs. option_map_or (λ x. Some (Beat x)) (fault_after rules_a bs b)
      (cond (left rules_a C bs == 0) (cond (is_some (open_request b.head.source (marks es))) (Some SourceBusy) None) None)) c.accepted ∙
      ap (λ o. option_map_or (λ x. Some (Beat x)) (fault_after rules_a (take i a) b) (cond (left rules_a C (take i a) == 0) o None))
      (swap (is_some (open_request b.head.source (marks es))) (is_free a d i j b.head.source)
      (busy_free i j b.head.source es (is_some (open_request b.head.source (marks es))) r c all refl))
