-- How many far beats the accepted beats of a list make due at most: 4,096 for each near beat, which is the most that a message has, and as many
-- for one that is unfinished.
use Rattle.tl_run.proofs.Names.{◌≡◌, ◌+◌, ◌*◌, ◌≤◌, ℕ, Bool, true, false, cond, Option, None, Some, List, [], ◌∷◌, ◌++◌, length, drop, refl, sym}
use Rattle.tl_run.proofs.Names.{subst, arith, zero-le, append-nil, length-append, length-take, slice_index, is_none, ◌&&◌, ◌==◌, IsWidth, Rules}
use Rattle.tl_run.proofs.Names.{rules_a, rules_b, rules_c, rules_d, rules_e, is_aligned, HeadA, HeadD, BeatOf, BeatFault, ends, rest_of, fault_in}
use Rattle.tl_run.proofs.Names.{fault_after, burst_of, far_beats_of, part, due_after, due, accepted_of, accepted_after, true_equal}
use Rattle.std.proofs.lemmas.List.FromFn.{length-map-range_with_len}
use Rattle.tl_msg.specs.Firsts.{unless, ◌or_else◌}
use Rattle.tl_msg.specs.Laws.{small_fault}
use Rattle.tl_msg.specs.Kinds.{column_a, column_b, column_c, column_d, kind_at}
use Rattle.tl_msg.specs.declared.head.HeadB.{HeadB}
use Rattle.tl_msg.specs.declared.head.HeadC.{HeadC}
use Rattle.tl_msg.specs.declared.head.HeadE.{HeadE}
use Rattle.tl_burst.specs.Messages.{beats_of, beat_at, layout}
use Rattle.tl_burst.specs.Reading.{message_of}
use Rattle.tl_burst.proofs.Burst.{beats-bounds, rest-snoc}
use Rattle.tl_convert.proofs.Extends.{both}

-- a first fault that does not exist
first-none : (o q : Option BeatFault) → (o or_else q) ≡ None → o ≡ None
first-none None q e = refl
first-none (Some f) q e = e

-- a test that finds no fault
unless-true : (b : Bool) (f : BeatFault) → unless b f ≡ None → b ≡ true
unless-true true f e = refl
unless-true false f e = cc

-- beats without a fault are of messages of at most 4,096 bytes, and so are the beats that continue such a message
abbrev pub HaveSmall : {H : Type 0} → Rules H → Type 0
HaveSmall {H} r = ((h : H) → r.fault h ≡ None → r.size h ≤ 12) × ((g h : H) → r.same g h ≡ true → r.size g ≡ r.size h)

module _ {H : Type 0} (r : Rules H) (w v : ℕ) where
  -- heads of messages of at most 4,096 bytes, all through
  pub data AreSmall : List (BeatOf H w) → Type 0 where
    none_small : AreSmall []
    more_small : (b : BeatOf H w) (bs : List (BeatOf H w)) → r.size b.head ≤ 12 → AreSmall bs → AreSmall (b ∷ bs)

  -- with one more at the end
  small-snoc : (bs : List (BeatOf H w)) (b : BeatOf H w) → AreSmall bs → r.size b.head ≤ 12 → AreSmall (bs ++ b ∷ [])
  small-snoc [] b none_small l = more_small b [] l none_small
  small-snoc (x ∷ xs) b (more_small _ _ k s) l = more_small x (xs ++ b ∷ []) k (small-snoc xs b s l)

  -- so are the first of them
  small-first : (xs ys : List (BeatOf H w)) → AreSmall (xs ++ ys) → AreSmall xs
  small-first [] ys s = none_small
  small-first (x ∷ xs) ys (more_small _ _ k s) = more_small x xs k (small-first xs ys s)

  module _ (small : (h : H) → r.fault h ≡ None → r.size h ≤ 12) (same : (g h : H) → r.same g h ≡ true → r.size g ≡ r.size h) where
    -- a beat that has no fault after small ones is small
    next-small : (rest : List (BeatOf H w)) (b : BeatOf H w) → AreSmall rest → fault_in r (burst_of r rest) b ≡ None → r.size b.head ≤ 12
    next-small [] b s e = small b.head (first-none (r.fault b.head) _ e)
    next-small (x ∷ xs) b (more_small _ _ k s) e = subst (λ n. n ≤ 12) (sym (same b.head x.head (unless-true _ _ (first-none _ _ e)))) k

    -- and so is the rest after it
    rest-small : (rest : List (BeatOf H w)) (b : BeatOf H w) → AreSmall rest → r.size b.head ≤ 12 →
        AreSmall (cond (ends r w rest b) [] (rest ++ b ∷ []))
    rest-small rest b s l = both (λ q. AreSmall q) (ends r w rest b) (λ e. none_small) (λ e. small-snoc rest b s l)

    -- all beats that are accepted are small
    pub accepted-small : (seen bs : List (BeatOf H w)) → AreSmall (rest_of r w seen) → AreSmall (accepted_after r seen bs)
    accepted-small seen [] s = none_small
    accepted-small seen (b ∷ bs) s =
        here (fault_after r seen b) refl
        (λ l. accepted-small (seen ++ b ∷ []) bs (subst (λ q. AreSmall q) (sym (rest-snoc r w [] seen b)) (rest-small (rest_of r w seen) b s l)))
      where
        here : (o : Option BeatFault) → fault_after r seen b ≡ o → (r.size b.head ≤ 12 → AreSmall (accepted_after r (seen ++ b ∷ []) bs)) →
            AreSmall (cond (is_none (fault_after r seen b)) (b ∷ accepted_after r (seen ++ b ∷ []) bs) [])
        here None e others =
            let l : r.size b.head ≤ 12 = next-small (rest_of r w seen) b s e in
            subst (λ o. AreSmall (cond (is_none o) (b ∷ accepted_after r (seen ++ b ∷ []) bs) [])) (sym e)
            (more_small b (accepted_after r (seen ++ b ∷ []) bs) l (others l))
        here (Some f) e others = subst (λ o. AreSmall (cond (is_none o) (b ∷ accepted_after r (seen ++ b ∷ []) bs) [])) (sym e) none_small

  -- no more beats are accepted than there are
  accepted-length : (seen bs : List (BeatOf H w)) → length (accepted_after r seen bs) ≤ length bs
  accepted-length seen [] = zero-le
  accepted-length seen (b ∷ bs) =
      let l : length (accepted_after r (seen ++ b ∷ []) bs) ≤ length bs = accepted-length (seen ++ b ∷ []) bs in
      both (λ q. length q ≤ length (b ∷ bs)) (is_none (fault_after r seen b)) (λ e. omega arith) (λ e. zero-le)

  module _ (vw : IsWidth v) where
    -- an unfinished message
    part-most : (home : ℕ) (rest : List (BeatOf H w)) → AreSmall rest → length (part r w v home rest) ≤ 4096
    part-most home [] s = zero-le
    part-most home (b ∷ bs) (more_small _ _ l s) =
        let n = length-take (far_beats_of r b.head w v (length (b ∷ bs))) (layout r (message_of r b.head w home (b ∷ bs)) v) in
        let k : length (layout r (message_of r b.head w home (b ∷ bs)) v) ≡ beats_of r b.head v =
        length-map-range_with_len (beat_at r (message_of r b.head w home (b ∷ bs)) v) 0 (beats_of r b.head v) in
        let m : beats_of r b.head v ≤ 4096 = (beats-bounds r b.head v vw l).1 in
        omega arith

    -- a list, after the beats of an unfinished message
    pub due-most : (seen : List (BeatOf H w)) (homes : List ℕ) (bs : List (BeatOf H w)) → AreSmall seen → AreSmall bs →
        length (due_after r w v seen homes bs) ≤ 4096 * (length bs + 1)
    due-most seen homes [] s none_small = part-most (slice_index homes 0) seen s
    due-most seen homes (b ∷ bs) s (more_small _ _ l t) =
        let first : List (BeatOf H v) = layout r (message_of r b.head w (slice_index homes 0) (seen ++ b ∷ [])) v in
        let k : length first ≡ beats_of r b.head v =
        length-map-range_with_len (beat_at r (message_of r b.head w (slice_index homes 0) (seen ++ b ∷ [])) v) 0 (beats_of r b.head v) in
        let m : beats_of r b.head v ≤ 4096 = (beats-bounds r b.head v vw l).1 in
        let n = length-append first (due_after r w v [] (drop 1 homes) bs) in
        both (λ q. length q ≤ 4096 * (length (b ∷ bs) + 1)) (ends r w seen b)
        (λ e. let h : length (due_after r w v [] (drop 1 homes) bs) ≤ 4096 * (length bs + 1) =
        due-most [] (drop 1 homes) bs none_small t in omega arith)
        (λ e. let h : length (due_after r w v (seen ++ b ∷ []) homes bs) ≤ 4096 * (length bs + 1) =
        due-most (seen ++ b ∷ []) homes bs (small-snoc seen b s l) t in omega arith)

    -- the far beats that the first n accepted beats of a list make due
    pub first-most : HaveSmall r → (homes : List ℕ) (bs xs rest : List (BeatOf H w)) (n : ℕ) → accepted_of r bs ≡ xs ++ rest → length xs ≤ n →
        length (due r w v xs homes) ≤ 4096 * (n + 1)
    first-most (small, same) homes bs xs rest n e few =
        let m : length (due r w v xs homes) ≤ 4096 * (length xs + 1) =
        due-most [] homes xs none_small (small-first xs rest (subst (λ q. AreSmall q) e (accepted-small small same [] bs none_small))) in
        omega (arith, m, few)

    -- and those that all its accepted beats do
    accepted-most : HaveSmall r → (homes : List ℕ) (bs : List (BeatOf H w)) → length (due r w v (accepted_of r bs) homes) ≤ 4096 * (length bs + 1)
    accepted-most small homes bs =
        first-most small homes bs (accepted_of r bs) [] (length bs) (sym (append-nil (accepted_of r bs))) (accepted-length [] bs)

-- ---- the five channels

-- two tests
two : (b c : Bool) → (b && c) ≡ true → (b ≡ true) × (c ≡ true)
two true true e = (refl, refl)
two true false e = cc
two false c e = cc

-- the third of some tests
third : (b c : Bool) (x y : ℕ) (d : Bool) → (b && (c && (x == y && d))) ≡ true → x ≡ y
third b c x y d e = true_equal x y (two (x == y) d (two c (x == y && d) (two b (c && (x == y && d)) e).1).1).0

-- each channel is such a one
pub small-a : HaveSmall rules_a
small-a = (λ h e. small_fault (kind_at column_a h.opcode) h.param h.size (is_aligned h.address h.size) e, λ g h e. third _ _ g.size h.size _ e)

pub small-b : HaveSmall rules_b
small-b = (λ h e. small_fault (kind_at column_b h.opcode) h.param h.size (is_aligned h.address h.size) e, λ g h e. third _ _ g.size h.size _ e)

pub small-c : HaveSmall rules_c
small-c = (λ h e. small_fault (kind_at column_c h.opcode) h.param h.size (is_aligned h.address h.size) e, λ g h e. third _ _ g.size h.size _ e)

pub small-d : HaveSmall rules_d
small-d = (λ h e. small_fault (kind_at column_d h.opcode) h.param h.size true e, λ g h e. third _ _ g.size h.size _ e)

pub small-e : HaveSmall rules_e
small-e = (λ h e. zero-le, λ g h e. refl)

-- how many far beats the accepted beats of a list make due, on each channel
module _ {w : ℕ} (v : ℕ) (vw : IsWidth v) (homes : List ℕ) where
  pub most-a : (bs : List (BeatOf HeadA w)) → length (due rules_a w v (accepted_of rules_a bs) homes) ≤ 4096 * (length bs + 1)
  most-a = accepted-most rules_a w v vw small-a homes

  pub most-b : (bs : List (BeatOf HeadB w)) → length (due rules_b w v (accepted_of rules_b bs) homes) ≤ 4096 * (length bs + 1)
  most-b = accepted-most rules_b w v vw small-b homes

  pub most-c : (bs : List (BeatOf HeadC w)) → length (due rules_c w v (accepted_of rules_c bs) homes) ≤ 4096 * (length bs + 1)
  most-c = accepted-most rules_c w v vw small-c homes

  pub most-d : (bs : List (BeatOf HeadD w)) → length (due rules_d w v (accepted_of rules_d bs) homes) ≤ 4096 * (length bs + 1)
  most-d = accepted-most rules_d w v vw small-d homes

  pub most-e : (bs : List (BeatOf HeadE w)) → length (due rules_e w v (accepted_of rules_e bs) homes) ≤ 4096 * (length bs + 1)
  most-e = accepted-most rules_e w v vw small-e homes
