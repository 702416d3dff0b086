use Rattle.tl_run.proofs.Names.{◌≡◌, ◌⊎◌, ℕ, refl, sym, ap, subst, ◌∙◌, ⊎_elim, BeatFault, SideFault, Beat, SourceBusy, NoRequest, SizeMismatch}
use Rattle.tl_run.proofs.Names.{Refused, stop_verdict}
use Rattle.tl_msg.specs.declared.verdict.Verdict.TheVariants as ending
use Rattle.tl_run.proofs.outcome.verdict.Goals as goal

-- a beat that is refused for good, and one that waits
refused : (near far : ℕ) (f : SideFault) → ((x : BeatFault) × (f ≡ Beat x)) ⊎ (f ≡ SizeMismatch) →
    ending.Refused near f ≡ stop_verdict (Refused f) near far
refused near far f is =
    let by : (q : SideFault) → ending.Refused near q ≡ stop_verdict (Refused q) near far → f ≡ q →
    ending.Refused near f ≡ stop_verdict (Refused f) near far =
    λ q e same. subst (λ p. ending.Refused near p ≡ stop_verdict (Refused p) near far) (sym same) e in
    ⊎_elim (λ e. by (Beat e.0) refl e.1) (λ e. by SizeMismatch refl e) is

waits : (near far : ℕ) (f : SideFault) → (f ≡ SourceBusy) ⊎ (f ≡ NoRequest) → ending.Waiting near f ≡ stop_verdict (Refused f) near far
waits near far f is =
    let by : (q : SideFault) → ending.Waiting near q ≡ stop_verdict (Refused q) near far → f ≡ q →
    ending.Waiting near f ≡ stop_verdict (Refused f) near far =
    λ q e same. subst (λ p. ending.Waiting near p ≡ stop_verdict (Refused p) near far) (sym same) e in
    ⊎_elim (λ e. by SourceBusy refl e) (λ e. by NoRequest refl e) is

pub returns-in-Done : goal.returns-in-Done
returns-in-Done c = sym (ap (λ s. stop_verdict s c.args.near c.args.far) c.in-Done.is)

pub returns-in-Cut : goal.returns-in-Cut
returns-in-Cut c = sym (ap (λ s. stop_verdict s c.args.near c.args.far) c.in-Cut.is)

pub returns-in-Beat : goal.returns-in-Beat
returns-in-Beat c = refused c.args.near c.args.far c.in-Refused.fault c.in-Beat.is ∙
    sym (ap (λ s. stop_verdict s c.args.near c.args.far) c.in-Refused.is)

pub returns-in-SourceBusy : goal.returns-in-SourceBusy
returns-in-SourceBusy c =
    waits c.args.near c.args.far c.in-Refused.fault c.in-SourceBusy.is ∙ sym (ap (λ s. stop_verdict s c.args.near c.args.far) c.in-Refused.is)
