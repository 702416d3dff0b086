use Rattle.tl_settle.proofs.Names.{◌≡◌, ◌∙◌, ap, Some, rules_b, rules_c, rules_e, far_alone, verdict_alone, far_a, far_d, settled_state, verdict_a}
use Rattle.tl_settle.proofs.Names.{verdict_d}
use Rattle.tl_settle.proofs.laws.no_channel_blocks_another.Goals as goal

-- what both lists of A and D decide
by_both : {X Y Z : Type 0} (f : X → Y → Z) {a a' : X} {d d' : Y} → a ≡ a' → d ≡ d' → f a d ≡ f a' d'
by_both f {a} {a'} {d} {d'} e g = ap (λ x. f x d) e ∙ ap (λ y. f a' y) g

pub returns : goal.returns
returns start c m one other = record {
  far_b = λ e. ap (λ bs. far_alone rules_b c bs) e;
  far_c = λ e. ap (λ bs. far_alone rules_c m bs) e;
  far_e = λ e. ap (λ bs. far_alone rules_e m bs) e;
  verdict_b = λ e. ap (λ bs. Some (verdict_alone rules_b c bs)) e;
  verdict_c = λ e. ap (λ bs. Some (verdict_alone rules_c m bs)) e;
  verdict_e = λ e. ap (λ bs. Some (verdict_alone rules_e m bs)) e;
  far_a = λ e f. by_both (λ a d. far_a a d (settled_state a d).a) e f;
  far_d = λ e f. by_both (λ a d. far_d a d (settled_state a d).d) e f;
  verdict_a = λ e f. by_both (λ a d. Some (verdict_a a d)) e f;
  verdict_d = λ e f. by_both (λ a d. Some (verdict_d a d)) e f;
}
