-- The manager's side within a run: the same for channel D, and the homes that it gives.
use Rattle.tl_settle.proofs.Names.{◌≡◌, ◌≤◌, ◌<◌, ℕ, zero, suc, Bool, true, false, cond, Option, None, Some, List, [], ◌∷◌, ◌++◌, length, take, drop}
use Rattle.tl_settle.proofs.Names.{refl, sym, ap, subst, ◌∙◌, arith, inl, inr, slice_get_within, slice_get_past, length-filter, nat_lt, ◌==◌}
use Rattle.tl_settle.proofs.Names.{slice_get, option_map_or, is_none, filter, rules_a, rules_d, HeadA, HeadD, BeatOf, BeatFault, SideFault, Beat}
use Rattle.tl_settle.proofs.Names.{NoRequest, SizeMismatch, take-append-drop, Extends, count_by-append, count-grows, take-next, equal_true, less_true}
use Rattle.tl_settle.proofs.Names.{not_less_false, none_past, heads_open, heads_grow, heads_extend, Answer, Ask, Event, answered, asked}
use Rattle.tl_settle.proofs.Names.{manager_answer, marks, open_request, to_request, is_release_ack, is_request_of, partner}
use Rattle.tl_settle.proofs.Names.{requests_of, responses_to, far_a, goes_a, goes_d, requests, responses, stops_d, Reaches, heads, left, fault_after}
use Rattle.tl_settle.proofs.Orders.{asks, answers, Ordered, ask, answer, ManagerIs}
use Rattle.tl_settle.proofs.Settles.{good, there_on, there_behind, back_behind, requests_there}
use Rattle.tl_settle.proofs.Opens.{Match, matches, asks_heads, answers_heads}
use Rattle.tl_settle.proofs.Sides.{nth_stays, tight}
use Rattle.tl_settle.proofs.Marks.{asked_ask, asked_answer, answered_ask, answered_answer, marks_ask_first, marks_ask_inside, marks_answer_first}
use Rattle.tl_settle.proofs.Marks.{marks_answer_inside}

manager_imp : (o : Option BeatFault) (l r : Bool) (request : Option HeadA) (h : HeadD) (n s : Bool) →
    ((q : HeadA) → request ≡ Some q → (n ≡ true) × (s ≡ (q.size == h.size))) →
    option_map_or (λ x. Some (Beat x)) o (cond l (cond r None (to_request request h)) None) ≡ None →
    is_none (option_map_or (λ x. Some (Beat x)) o (cond l (cond r None (cond n (cond s None (Some SizeMismatch)) (Some NoRequest))) None)) ≡ true
manager_imp (Some x) l r request h n s f e = cc
manager_imp None false r request h n s f e = refl
manager_imp None true true request h n s f e = refl
manager_imp None true false None h n s f e = cc
manager_imp None true false (Some q) h n s f e =
    rw ((f q refl).0, (f q refl).1) (none_none (cond (q.size == h.size) None (Some SizeMismatch)) e)
  where
    none_none : (x : Option SideFault) → x ≡ None → is_none x ≡ true
    none_none None u = refl
    none_none (Some x) u = cc

manager_first : (o : Option BeatFault) (r : Bool) (request : Option HeadA) (h : HeadD) → r ≡ false →
    option_map_or (λ x. Some (Beat x)) o (cond true (cond r None (to_request request h)) None) ≡ None → (q : HeadA) × (request ≡ Some q)
manager_first (Some x) r request h f e = cc
manager_first None true request h f e = cc
manager_first None false None h f e = cc
manager_first None false (Some q) h f e = (q, refl)

-- the result for a request that is outstanding, or is not
same_request : (request : Option HeadA) (h : HeadD) (n s : Bool) → (request ≡ None → n ≡ false) →
    ((q : HeadA) → request ≡ Some q → (n ≡ true) × (s ≡ (q.size == h.size))) →
    to_request request h ≡ cond n (cond s None (Some SizeMismatch)) (Some NoRequest)
same_request None h n s f g = rw (f refl) refl
same_request (Some q) h n s f g = rw ((g q refl).0, (g q refl).1) refl

both_on : {X : Type 0} {xs ys zs : List X} → Extends xs ys → Extends ys zs → (p : X → Bool) (k : ℕ) (q : X) →
    slice_get (filter p xs) k ≡ Some q → slice_get (filter p zs) k ≡ Some q
both_on f g p k q e = nth_stays p k q g (nth_stays p k q f e)

module _ {C M : ℕ} (near : 0 < C) (far : 0 < M) (a : List (BeatOf HeadA C)) (d : List (BeatOf HeadD M)) where
  pub manager_asks : (i j : ℕ) (es : List (Event M)) → ManagerIs a d i j es → Extends (asks (marks es)) (requests_there a d i)
  manager_asks i j es m = rw (asks_heads 0 0 es) (heads_extend rules_a M m.taken)

  pub manager_answers : (i j : ℕ) (es : List (Event M)) → ManagerIs a d i j es → answers (marks es) ≡ responses a d j
  manager_answers i j es m = answers_heads 0 0 es ∙ ap (λ bs. heads rules_d M bs) m.accepted

  pub whole_asks : (i : ℕ) → Extends (requests a d i) (heads rules_a C a)
  whole_asks i = subst (λ bs. Extends (requests a d i) (heads rules_a C bs)) (take-append-drop i a)
      (heads_grow rules_a C 0 (take i a) (drop i a))

  -- the request that is outstanding at the manager's side is the partner of the next response, and has begun there
  opened : (i j s : ℕ) (es : List (Event M)) (q : HeadA) → Reaches (goes_a a d) (goes_d a d) i j → ManagerIs a d i j es →
      open_request s (marks es) ≡ Some q →
      (partner (heads rules_a C a) (responses a d j) s ≡ Some q) ×
      (responses_to s (responses a d j) < requests_of s (requests_there a d i))
  opened i j s es q r m e =
      let t : Match (open_request s (marks es)) (asks (marks es)) (answers (marks es)) s = matches m.ordered s in
      let k : ℕ = responses_to s (responses a d j) in
      let here : slice_get (filter (is_request_of s) (asks (marks es))) k ≡ Some q =
      ap (λ hs. slice_get (filter (is_request_of s) (asks (marks es))) (responses_to s hs)) (sym (manager_answers i j es m)) ∙ sym t.is ∙ e in
      let there : slice_get (filter (is_request_of s) (requests_there a d i)) k ≡ Some q =
      nth_stays (is_request_of s) k q (manager_asks i j es m) here in
      let n : k < length (filter (is_request_of s) (requests_there a d i)) =
      slice_get_within (filter (is_request_of s) (requests_there a d i)) k q there in
      let l : length (filter (is_request_of s) (requests_there a d i)) ≡ requests_of s (requests_there a d i) =
      length-filter (is_request_of s) (requests_there a d i) in
      (both_on (there_on near far a d i (good near far a d r).a_fine) (whole_asks i) (is_request_of s) k q there, omega arith)

  both_tests : (i j : ℕ) (es : List (Event M)) (h : HeadD) → Reaches (goes_a a d) (goes_d a d) i j → ManagerIs a d i j es → (q : HeadA) →
      open_request h.source (marks es) ≡ Some q →
      (nat_lt (responses_to h.source (responses a d j)) (requests_of h.source (requests_there a d i)) ≡ true) ×
      (option_map_or (λ x. x.size == h.size) (partner (heads rules_a C a) (responses a d j) h.source) false ≡ (q.size == h.size))
  both_tests i j es h r m q e =
      let o = opened i j h.source es q r m e in
      (less_true _ _ o.1, ap (λ (x : Option HeadA). option_map_or (λ y. y.size == h.size) x false) o.0)

  -- a beat of D that it accepts is a step
  pub manager_accepts : (i j : ℕ) (es : List (Event M)) (b : BeatOf HeadD M) → Reaches (goes_a a d) (goes_d a d) i j → ManagerIs a d i j es →
      slice_get d j ≡ Some b → manager_answer es b ≡ None → goes_d a d i j ≡ true
  manager_accepts i j es b r m at ok =
      let here : option_map_or (λ x. Some (Beat x)) (fault_after rules_d (take j d) b)
      (cond (left rules_d M (take j d) == 0) (cond (is_release_ack b.head) None (to_request (open_request b.head.source (marks es)) b.head))
      None) ≡ None =
      subst (λ bs. option_map_or (λ x. Some (Beat x)) (fault_after rules_d bs b)
      (cond (left rules_d M bs == 0) (cond (is_release_ack b.head) None (to_request (open_request b.head.source (marks es)) b.head)) None) ≡ None)
      m.accepted ok in
      ap (λ o. option_map_or (λ x. is_none (stops_d a d i j x)) o false) at ∙
      manager_imp (fault_after rules_d (take j d) b) (left rules_d M (take j d) == 0) (is_release_ack b.head) (open_request b.head.source (marks es))
      b.head
      _ _ (both_tests i j es b.head r m) here

  answer_ordered : (es : List (Event M)) (b : BeatOf HeadD M) (l : ℕ) (t : Bool) → left rules_d M (answered es) ≡ l → is_release_ack b.head ≡ t →
      Ordered (marks es) → manager_answer es b ≡ None → Ordered (marks (es ++ Answer b ∷ []))
  answer_ordered es b (suc l) t e f o ok = rw (marks_answer_inside 0 0 l es b e) o
  answer_ordered es b zero true e f o ok = rw (marks_answer_first 0 0 es b e) (answer (marks es) b.head o (inl f))
  answer_ordered es b zero false e f o ok =
      rw (marks_answer_first 0 0 es b e) (answer (marks es) b.head o (inr
      (manager_first (fault_after rules_d (answered es) b) (is_release_ack b.head) (open_request b.head.source (marks es)) b.head f
      (subst (λ x. option_map_or (λ x. Some (Beat x)) (fault_after rules_d (answered es) b)
      (cond (x == 0) (cond (is_release_ack b.head) None (to_request (open_request b.head.source (marks es)) b.head)) None) ≡ None) e ok))))

  pub manager_accepted : (i j : ℕ) (es : List (Event M)) (b : BeatOf HeadD M) → ManagerIs a d i j es → slice_get d j ≡ Some b →
      manager_answer es b ≡ None →
      ManagerIs a d i (suc j) (es ++ Answer b ∷ [])
  manager_accepted i j es b m at ok = record {
    taken = rw (asked_answer es b) m.taken;
    accepted = answered_answer es b ∙ ap (λ q. q ++ b ∷ []) m.accepted ∙ sym (take-next d j b at);
    ordered = answer_ordered es b (left rules_d M (answered es)) (is_release_ack b.head) refl refl m.ordered ok;
  }

  -- a request arrives while its source has none outstanding
  request_comes : (i j : ℕ) (es : List (Event M)) (b : BeatOf HeadA M) → Reaches (goes_a a d) (goes_d a d) i j → ManagerIs a d i j es →
      Extends (asked es ++ b ∷ []) (far_a a d i) → left rules_a M (asked es) ≡ 0 → open_request b.head.source (marks es) ≡ None
  request_comes i j es b r m on e =
      let s : ℕ = b.head.source in
      let t : Match (open_request s (marks es)) (asks (marks es)) (answers (marks es)) s = matches m.ordered s in
      let grown : requests_of s (heads rules_a M (asked es ++ b ∷ [])) ≤ requests_of s (requests_there a d i) =
      count-grows (is_request_of s) (heads_extend rules_a M on) in
      let open_one : requests_of s (heads rules_a M (asked es ++ b ∷ [])) ≡ requests_of s (heads rules_a M (asked es) ++ b.head ∷ []) =
      ap (λ hs. requests_of s hs) (heads_open rules_a M 0 (asked es) b e) in
      let one = count_by-append (is_request_of s) (heads rules_a M (asked es)) (b.head ∷ []) in
      let u : ◌≡◌ {A = ℕ} (cond (is_request_of s b.head) 1 0) 1 = ap (λ x. cond x 1 0) (equal_true s s refl) in
      let k : responses_to s (answers (marks es)) ≡ responses_to s (responses a d j) =
      ap (λ hs. responses_to s hs) (manager_answers i j es m) in
      let l : length (filter (is_request_of s) (asks (marks es))) ≡ requests_of s (heads rules_a M (asked es)) =
      length-filter (is_request_of s) (asks (marks es)) ∙ ap (λ q. requests_of s q) (asks_heads 0 0 es) in
      let x = tight near far a d r s in
      let y = back_behind near far a d j s (good near far a d r).d_fine in
      let z = there_behind near far a d i s (good near far a d r).a_fine in
      t.is ∙ slice_get_past (filter (is_request_of s) (asks (marks es))) (responses_to s (answers (marks es))) (omega arith)

  ask_ordered : (i j : ℕ) (es : List (Event M)) (b : BeatOf HeadA M) (l : ℕ) → left rules_a M (asked es) ≡ l →
      Reaches (goes_a a d) (goes_d a d) i j → ManagerIs a d i j es → Extends (asked es ++ b ∷ []) (far_a a d i) → Ordered (marks (es ++ Ask b ∷ []))
  ask_ordered i j es b zero e r m on = rw (marks_ask_first 0 0 es b e) (ask (marks es) b.head m.ordered (request_comes i j es b r m on e))
  ask_ordered i j es b (suc l) e r m on = rw (marks_ask_inside 0 0 l es b e) m.ordered

  pub manager_takes : (i j : ℕ) (es : List (Event M)) (b : BeatOf HeadA M) → Reaches (goes_a a d) (goes_d a d) i j → ManagerIs a d i j es →
      Extends (asked es ++ b ∷ []) (far_a a d i) → ManagerIs a d i j (es ++ Ask b ∷ [])
  manager_takes i j es b r m on = record {
    taken = rw (asked_ask es b) on;
    accepted = answered_ask es b ∙ m.accepted;
    ordered = ask_ordered i j es b (left rules_a M (asked es)) refl r m on;
  }

  -- once all beats are taken, the side's reason to refuse a beat is the one of the step
  none_open : (i j s : ℕ) (es : List (Event M)) → ManagerIs a d i j es → asked es ≡ far_a a d i → open_request s (marks es) ≡ None →
      nat_lt (responses_to s (responses a d j)) (requests_of s (requests_there a d i)) ≡ false
  none_open i j s es m all e =
      let t : Match (open_request s (marks es)) (asks (marks es)) (answers (marks es)) s = matches m.ordered s in
      let n : length (filter (is_request_of s) (asks (marks es))) ≤ responses_to s (answers (marks es)) =
      none_past (filter (is_request_of s) (asks (marks es))) (responses_to s (answers (marks es))) (sym t.is ∙ e) in
      let k : responses_to s (answers (marks es)) ≡ responses_to s (responses a d j) =
      ap (λ hs. responses_to s hs) (manager_answers i j es m) in
      let l : length (filter (is_request_of s) (asks (marks es))) ≡ requests_of s (requests_there a d i) =
      length-filter (is_request_of s) (asks (marks es)) ∙
      ap (λ q. requests_of s q) (asks_heads 0 0 es ∙ ap (λ bs. heads rules_a M bs) all) in
      not_less_false _ _ (omega arith)

  pub manager_stops : (i j : ℕ) (es : List (Event M)) (b : BeatOf HeadD M) → Reaches (goes_a a d) (goes_d a d) i j → ManagerIs a d i j es →
      asked es ≡ far_a a d i → manager_answer es b ≡ stops_d a d i j b
  manager_stops i j es b r m all =
      ap (λ bs. option_map_or (λ x. Some (Beat x)) (fault_after rules_d bs b)
      (cond (left rules_d M bs == 0) (cond (is_release_ack b.head) None (to_request (open_request b.head.source (marks es)) b.head)) None))
      m.accepted ∙
      ap (λ o. option_map_or (λ x. Some (Beat x)) (fault_after rules_d (take j d) b)
      (cond (left rules_d M (take j d) == 0) (cond (is_release_ack b.head) None o) None))
      (same_request (open_request b.head.source (marks es)) b.head _ _
      (none_open i j b.head.source es m all) (both_tests i j es b.head r m))
