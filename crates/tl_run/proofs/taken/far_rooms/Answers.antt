use Rattle.tl_run.proofs.Names.{◌≡◌, ℕ, List, subst, rules_a, rules_b, rules_c, rules_d, rules_e, Rules, BeatOf}
use Rattle.tl_run.specs.Inner.Arriving.{IsDueCount}
use Rattle.tl_run.proofs.taken.far_rooms.Goals as goal

-- the count of a list is that of the same one
same-count : {H : Type 0} (r : Rules H) {w : ℕ} (v : ℕ) {bs cs : List (BeatOf H w)} {n : ℕ} → bs ≡ cs → IsDueCount r v bs n → IsDueCount r v cs n
same-count r v {n = n} same told = subst (λ q. IsDueCount r v q n) same told

pub returns : goal.returns
returns g c = record {
  of_a = same-count rules_a g.row.M c.short.ensures.is c.far_count-a.ensures;
  of_b = same-count rules_b g.row.C c.short-2.ensures.is c.far_count-b.ensures;
  of_c = same-count rules_c g.row.M c.short-3.ensures.is c.far_count-c.ensures;
  of_d = same-count rules_d g.row.C c.short-4.ensures.is c.far_count-d.ensures;
  of_e = same-count rules_e g.row.M c.short-5.ensures.is c.far_count-e.ensures;
}
