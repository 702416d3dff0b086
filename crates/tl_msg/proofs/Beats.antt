-- Beats with the same fields.
use Rattle.std.proofs.Common.{◌≡◌, ℕ, Bool, List, ap, ◌∙◌}
use Rattle.tl_msg.specs.declared.beat.BeatOf.{BeatOf}

-- two beats with the same fields are the same
pub same_beat : {H : Type 0} {v : ℕ} (a b : BeatOf H v) → a.head ≡ b.head → a.mask ≡ b.mask → a.lanes ≡ b.lanes → a.corrupt ≡ b.corrupt → a ≡ b
same_beat {H = H} {v = v} a b h m l c =
    let mk : H → ℕ → List ℕ → Bool → BeatOf H v = λ x y z t. record { head = x; mask = y; lanes = z; corrupt = t } in
    ap (λ x. mk x a.mask a.lanes a.corrupt) h ∙ ap (λ x. mk b.head x a.lanes a.corrupt) m ∙
    ap (λ x. mk b.head b.mask x a.corrupt) l ∙ ap (λ x. mk b.head b.mask b.lanes x) c
