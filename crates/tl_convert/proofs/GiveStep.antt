-- The far beats that a near beat with data completes after the earlier beats of its message.
use Rattle.tl_convert.proofs.Names.{◌≡◌, ◌<◌, ◌+◌, ◌-◌, ◌*◌, ◌/◌, ◌≢◌, ◌++◌, ℕ, true, List, [], ◌∷◌, length, map, refl, sym, ap, subst, ◌∙◌, arith}
use Rattle.tl_convert.proofs.Names.{⊎_elim, range_with_len, eqb_tells, Rules, BeatOf, IsWidth, Message, per_beat, beats_of, beat_at, FitsMask, Filled}
use Rattle.tl_convert.proofs.Names.{Source, Pours, IsBlank, Run, Given, GivenData, of_head, per-pos, of_cells, run-is}
use Rattle.tl_convert.proofs.Names.{false, cond, drop, slice_index, append-nil, false≢true, layout, message_of, ends, due_after}
use Rattle.tl_convert.proofs.Filling.{Filled-none}
use Rattle.tl_convert.proofs.RunStep.{run_message, run_end, end-next, run-source, filled-longer, run-due}

module _ {H : Type 0} (r : Rules H) (w v home : ℕ) (ww : IsWidth w) (vw : IsWidth v) (b : BeatOf H w) (carries : r.carries b.head ≡ true) where
  -- nothing of a message is filled before its first beat
  none-filled : (bs : List (BeatOf H w)) (far : BeatOf H v) → length bs ≡ 0 → IsBlank b.head far →
      Filled r (run_message r b.head w v home ww vw carries (bs ++ b ∷ [])) v (run_end r b.head w v home ww vw carries bs / per_beat r b.head v)
      (run_end r b.head w v home ww vw carries bs) far
  none-filled bs far e blank =
      let m : Message H = run_message r b.head w v home ww vw carries (bs ++ b ∷ []) in
      let pp : 0 < per_beat r b.head v = per-pos r (of_cells r b.head home []) v vw in
      let n : length bs * per_beat r b.head w ≡ 0 * per_beat r b.head w = ap (λ k. k * per_beat r b.head w) e in
      let z : 0 * per_beat r b.head w ≡ 0 = omega arith in
      let zv : 0 * per_beat r b.head v ≡ 0 = omega arith in
      let q : length bs * per_beat r b.head w / per_beat r b.head v ≡ 0 = ap (λ k. k / per_beat r b.head v) (n ∙ z) ∙ omega arith in
      let none_is : Filled r (run_message r b.head w v home ww vw carries (bs ++ b ∷ [])) v 0 (0 * per_beat r b.head v) far =
      Filled-none r (run_message r b.head w v home ww vw carries (bs ++ b ∷ [])) v vw 0 far blank.head_is blank.lanes blank.size blank.mask
      blank.corrupt in
      let P : ℕ → Type 0 = λ k. Filled r (run_message r b.head w v home ww vw carries (bs ++ b ∷ [])) v 0 k far in
      let Q : ℕ → Type 0 = λ j. Filled r (run_message r b.head w v home ww vw carries (bs ++ b ∷ [])) v j (length bs * per_beat r b.head w) far in
      subst Q (sym q) (subst P (zv ∙ sym (n ∙ z)) none_is)

  pub give-all : (bs : List (BeatOf H w)) (index first : ℕ) (far0 far1 new : BeatOf H v) (out : List (BeatOf H v)) → Run r index home b far0 bs →
      first ≡ index * per_beat r b.head w → (index ≡ 0 → IsBlank b.head far1) → (index ≢ 0 → far1 ≡ far0) →
      ((m : Message H) → Source r m home first b → Pours r m v first first far1 [] → Pours r m v first (first + per_beat r m.head w) new out) →
      GivenData r home b new bs out
  give-all bs index first far0 far1 new out run ef blank kept pours =
      let fits : FitsMask r b = run.mask in
      let inside : index < beats_of r b.head w = run.inside in
      let m : Message H = run_message r b.head w v home ww vw carries (bs ++ b ∷ []) in
      let shorter : length bs < beats_of r b.head w = (let i : index ≡ length bs = run.index_is in omega arith) in
      let e : first ≡ run_end r b.head w v home ww vw carries bs = ef ∙ ap (λ k. k * per_beat r b.head w) run.index_is in
      let before : Filled r (run_message r b.head w v home ww vw carries (bs ++ b ∷ [])) v
      (run_end r b.head w v home ww vw carries bs / per_beat r b.head v)
      (run_end r b.head w v home ww vw carries bs) far1 =
      ⊎_elim
      (λ s. none-filled bs far1 (sym run.index_is ∙ s.1) (blank s.1))
      (λ s.
      let M : Message H → Type 0 = λ y. Filled r y v (run_end r b.head w v home ww vw carries bs / per_beat r b.head v)
      (run_end r b.head w v home ww vw carries bs) far0 in
      let F : BeatOf H v → Type 0 = λ y. Filled r (run_message r b.head w v home ww vw carries (bs ++ b ∷ [])) v
      (run_end r b.head w v home ww vw carries bs / per_beat r b.head v) (run_end r b.head w v home ww vw carries bs) y in
      subst F (sym (kept s.1))
      (filled-longer r b.head w v home ww vw carries bs b shorter refl fits run.home_is
      (run_end r b.head w v home ww vw carries bs / per_beat r b.head v) far0
      (subst M (run-is r b.head w v home ww vw carries bs) (run.filled s.1))))
      (eqb_tells index 0) in
      let z : run_end r b.head w v home ww vw carries bs / per_beat r b.head v - run_end r b.head w v home ww vw carries bs / per_beat r b.head
      v ≡ 0 = omega arith in
      let start : Pours r (run_message r b.head w v home ww vw carries (bs ++ b ∷ [])) v (run_end r b.head w v home ww vw carries bs)
      (run_end r b.head w v home ww vw carries bs) far1 [] = record {
        filled = before;
        beats = ap (λ k. map (beat_at r (run_message r b.head w v home ww vw carries (bs ++ b ∷ [])) v)
            (range_with_len (run_end r b.head w v home ww vw carries bs / per_beat r b.head v) k)) (sym z);
      } in
      let S : ℕ → Type 0 = λ k. Source r (run_message r b.head w v home ww vw carries (bs ++ b ∷ [])) home k b in
      let T : ℕ → Type 0 = λ k. Pours r (run_message r b.head w v home ww vw carries (bs ++ b ∷ [])) v k k far1 [] in
      let U : ℕ → Type 0 = λ k. Pours r (run_message r b.head w v home ww vw carries (bs ++ b ∷ [])) v k (k + per_beat r b.head w) new out in
      let done : Pours r (run_message r b.head w v home ww vw carries (bs ++ b ∷ [])) v (run_end r b.head w v home ww vw carries bs)
      (run_end r b.head w v home ww vw carries bs + per_beat r b.head w) new out =
      subst U e (pours (run_message r b.head w v home ww vw carries (bs ++ b ∷ []))
      (subst S (sym e) (run-source r b.head w v home ww vw carries bs b shorter refl fits run.home_is)) (subst T (sym e) start)) in
      let M : Message H → Type 0 = λ y. Filled r y v (run_end r b.head w v home ww vw carries (bs ++ b ∷ []) / per_beat r b.head v)
      (run_end r b.head w v home ww vw carries (bs ++ b ∷ [])) new in
      let E : ℕ → Type 0 = λ k. Filled r (run_message r b.head w v home ww vw carries (bs ++ b ∷ [])) v (k / per_beat r b.head v) k new in
      record {
        due_is = λ homes eh. run-due r b.head w v home ww vw carries bs b shorter refl fits run.home_is homes eh run.heads new out done;
        filled = subst M (sym (run-is r b.head w v home ww vw carries (bs ++ b ∷ [])))
            (subst E (end-next r b.head w v home ww vw carries bs b) done.filled);
      }

-- the far beat of a near beat without data
pub give-head : {H : Type 0} (r : Rules H) (w v index home : ℕ) (b : BeatOf H w) → r.carries b.head ≡ false → (bs : List (BeatOf H w))
    (partial new : BeatOf H v) (out : List (BeatOf H v)) → out ≡ layout r (of_head b.head home) v → Run r index home b partial bs →
    Given r home b new bs out
give-head r w v index home b none [] partial new out is run =
    let last : ends r w [] b ≡ true = rw none refl in
    record {
      due_is = λ homes eh.
          let whole : message_of r b.head w (slice_index homes 0) (b ∷ []) ≡ of_head b.head (slice_index homes 0) = rw none refl in
          ap (λ t. cond t (layout r (message_of r b.head w (slice_index homes 0) (b ∷ [])) v ++ due_after r w v [] (drop 1 homes) [])
          (due_after r w v (b ∷ []) homes [])) last ∙
          append-nil (layout r (message_of r b.head w (slice_index homes 0) (b ∷ [])) v) ∙ ap (λ m. layout r m v) whole ∙
          ap (λ x. layout r (of_head b.head x) v) eh ∙ sym is;
      filled = λ carries. absurd (false≢true (sym none ∙ carries));
    }
give-head r w v index home b none (a ∷ xs) partial new out is run =
    let one : beats_of r b.head w ≡ 1 = rw none refl in
    absurd (omega (arith, one, run.inside, run.index_is))
