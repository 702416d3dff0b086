-- The state of a run that has ended.
use Rattle.tl_run.proofs.Names.{◌≡◌, ◌+◌, ◌*◌, ◌≤◌, ℕ, [], ◌∷◌, length, refl, ap, ◌∙◌, arith, IsWidth, rules_a, rules_b, rules_c, rules_d, rules_e}
use Rattle.tl_run.proofs.Names.{Verdict, Beats, far_beats, far_alone, verdicts, Bridge, near_count, far_count, progress, under_way, HasEnded}
use Rattle.tl_run.proofs.Names.{stop_verdict, PerChannel, Stop}
use Rattle.tl_run.specs.Scripts.{near_counts}
use Rattle.tl_parts.proofs.Channels.{five-same}
use Rattle.tl_run.proofs.ChannelEnd.{progress-end, count-end, far-end, verdict-end}
use Rattle.tl_run.proofs.RunRound.{IsSettledEnd, run-end}

-- five numbers whose sum is zero
pub each-zero : (p q r s t : ℕ) → p + q + r + s + t ≡ 0 → (p ≡ 0) × (q ≡ 0) × (r ≡ 0) × (s ≡ 0) × (t ≡ 0)
each-zero p q r s t e = (omega arith, omega arith, omega arith, omega arith, omega arith)

-- the rounds by what was accepted and what was taken
sum-rounds : (rounds p q r s t a b c d e f g h i j : ℕ) → rounds ≤ p + q + r + s + t + 1 → p ≡ a + 2 * f → q ≡ b + 2 * g → r ≡ c + 2 * h →
    s ≡ d + 2 * i → t ≡ e + 2 * j →
    rounds ≤ a + b + c + d + e + 2 * (f + g + h + i + j) + 1
sum-rounds rounds p q r s t a b c d e f g h i j few k l m n o = omega arith

-- a verdict, from the length of a list instead of a count
pub verdict-is : (stop : Stop) (near : ℕ) {len far : ℕ} {v : Verdict} → len ≡ far → v ≡ stop_verdict stop near len → v ≡ stop_verdict stop near far
verdict-is stop near e f = f ∙ ap (λ k. stop_verdict stop near k) e

-- five counts are the same if each is
same-counts : (x y : PerChannel ℕ) → x.a ≡ y.a → x.b ≡ y.b → x.c ≡ y.c → x.d ≡ y.d → x.e ≡ y.e → x ≡ y
same-counts x y a b c d e = rw (a, b, c, d, e) refl

module _ {C M : ℕ} (cw : IsWidth C) (mw : IsWidth M) (near : Beats C M) (n : PerChannel ℕ) (far : Beats M C) (s : Bridge C M)
    (stops : PerChannel Stop) (rounds : ℕ) (h : HasEnded near n far s stops rounds) where
  -- nothing is under way on any channel
  rests : (under_way h.past.a ≡ 0) × (under_way h.past.b ≡ 0) × (under_way h.past.c ≡ 0) × (under_way h.past.d ≡ 0) × (under_way h.past.e ≡ 0)
  rests = each-zero (under_way h.past.a) (under_way h.past.b) (under_way h.past.c) (under_way h.past.d) (under_way h.past.e) h.at_rest

  pub a-rests : under_way h.past.a ≡ 0
  a-rests = rests.0

  pub b-rests : under_way h.past.b ≡ 0
  b-rests = rests.1

  pub c-rests : under_way h.past.c ≡ 0
  c-rests = rests.2

  pub d-rests : under_way h.past.d ≡ 0
  d-rests = rests.3

  pub e-rests : under_way h.past.e ≡ 0
  e-rests = rests.4

  -- A and D have settled
  pub has-settled : IsSettledEnd cw mw near.a near.d n.a n.d s h.past h.stands h.is_at.run h.is_at.a_homed far.a far.d h.is_at.a_sent
      h.is_at.d_sent stops.a stops.d
      h.all_stop.stop_a h.all_stop.stop_d a-rests d-rests
  has-settled = run-end cw mw near.a near.d n.a n.d s h.past h.stands h.is_at.run h.is_at.a_homed far.a far.d h.is_at.a_sent
      h.is_at.d_sent stops.a stops.d
      h.all_stop.stop_a h.all_stop.stop_d a-rests d-rests

  -- the beats taken are those of the script's settled state
  pub b-far : far.b ≡ far_alone rules_b C near.b
  b-far = far-end rules_b mw cw near.b n.b far.b h.past.b stops.b h.all_stop.stop_b h.is_at.b_sent h.stands.b.crosses h.is_at.b_homed b-rests

  pub c-far : far.c ≡ far_alone rules_c M near.c
  c-far = far-end rules_c cw mw near.c n.c far.c h.past.c stops.c h.all_stop.stop_c h.is_at.c_sent h.stands.c.crosses h.is_at.c_homed c-rests

  pub e-far : far.e ≡ far_alone rules_e M near.e
  e-far = far-end rules_e cw mw near.e n.e far.e h.past.e stops.e h.all_stop.stop_e h.is_at.e_sent h.stands.e.crosses h.is_at.e_homed e-rests

  pub far-is : far ≡ far_beats near
  far-is = rw (← has-settled.a_far, ← has-settled.d_far, ← b-far, ← c-far, ← e-far) refl

  -- and so are the verdicts
  pub verdicts-are : stop_verdict stops.a n.a (length far.a) ∷ stop_verdict stops.b n.b (length far.b) ∷ stop_verdict stops.c n.c (length far.c) ∷
      stop_verdict stops.d n.d (length far.d) ∷ stop_verdict stops.e n.e (length far.e) ∷ [] ≡ verdicts near
  verdicts-are =
      five-same has-settled.a_verdict
      (verdict-end rules_b mw cw near.b n.b far.b h.past.b stops.b h.all_stop.stop_b h.is_at.b_sent h.stands.b.crosses h.is_at.b_homed b-rests)
      (verdict-end rules_c cw mw near.c n.c far.c h.past.c stops.c h.all_stop.stop_c h.is_at.c_sent h.stands.c.crosses h.is_at.c_homed c-rests)
      has-settled.d_verdict
      (verdict-end rules_e cw mw near.e n.e far.e h.past.e stops.e h.all_stop.stop_e h.is_at.e_sent h.stands.e.crosses h.is_at.e_homed e-rests)

  -- the number of accepted beats is that of the script's settled state
  pub counts-are : n ≡ near_counts near
  counts-are = same-counts n (near_counts near) has-settled.a_count
      (count-end rules_b mw cw near.b n.b far.b h.past.b stops.b h.all_stop.stop_b h.is_at.b_sent)
      (count-end rules_c cw mw near.c n.c far.c h.past.c stops.c h.all_stop.stop_c h.is_at.c_sent) has-settled.d_count
      (count-end rules_e cw mw near.e n.e far.e h.past.e stops.e h.all_stop.stop_e h.is_at.e_sent)

  -- there were few rounds
  pub rounds-few : rounds ≤ near_count near + 2 * far_count near + 1
  rounds-few =
      sum-rounds rounds (progress n.a h.past.a) (progress n.b h.past.b) (progress n.c h.past.c) (progress n.d h.past.d)
      (progress n.e h.past.e) _ _ _ _ _
      (length (far_beats near).a) (length (far_beats near).b) (length (far_beats near).c) (length (far_beats near).d)
      (length (far_beats near).e) h.few_rounds
      (progress-end rules_a cw mw near.a n.a far.a h.past.a h.is_at.a_sent a-rests ∙ ap (λ q. n.a + 2 * length q) has-settled.a_far ∙
      ap (λ k. k + 2 * length (far_beats near).a) has-settled.a_count)
      (progress-end rules_b mw cw near.b n.b far.b h.past.b h.is_at.b_sent b-rests ∙ ap (λ q. n.b + 2 * length q) b-far ∙
      ap (λ k. k + 2 * length (far_beats near).b) (count-end rules_b mw cw near.b n.b far.b h.past.b stops.b h.all_stop.stop_b h.is_at.b_sent))
      (progress-end rules_c cw mw near.c n.c far.c h.past.c h.is_at.c_sent c-rests ∙ ap (λ q. n.c + 2 * length q) c-far ∙
      ap (λ k. k + 2 * length (far_beats near).c) (count-end rules_c cw mw near.c n.c far.c h.past.c stops.c h.all_stop.stop_c h.is_at.c_sent))
      (progress-end rules_d mw cw near.d n.d far.d h.past.d h.is_at.d_sent d-rests ∙ ap (λ q. n.d + 2 * length q) has-settled.d_far ∙
      ap (λ k. k + 2 * length (far_beats near).d) has-settled.d_count)
      (progress-end rules_e cw mw near.e n.e far.e h.past.e h.is_at.e_sent e-rests ∙ ap (λ q. n.e + 2 * length q) e-far ∙
      ap (λ k. k + 2 * length (far_beats near).e) (count-end rules_e cw mw near.e n.e far.e h.past.e stops.e h.all_stop.stop_e h.is_at.e_sent))
