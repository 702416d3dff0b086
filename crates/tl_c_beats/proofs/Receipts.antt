-- The numbers of a side's beats, and its receipt, as C gets them.
use Rattle.std.specs.Prelude.{◌↔◌, ◌==◌, ◌&&◌, ℕ, Bool, true, false, IsTrue}
use Rattle.std.proofs.Common.{◌≡◌, refl, sym, subst, ◌∙◌, arith, List}
use Rattle.std.proofs.lemmas.Bool.{and_parts, false≢true}
use Rattle.tl_convert.proofs.Comparisons.{true_equal}
use Rattle.tl_ring.specs.Counts.{IsNumberOf}
use Rattle.tl_sides.specs.Words.{asked, answered}
use Rattle.tl_sides.specs.Receipts.{CountClient, CountManager}
use Rattle.tl_sides.specs.Sides.{ClientPast, ManagerPast}
use Rattle.tl_sides.specs.declared.per_channel.PerChannel.{PerChannel}
use Rattle.tl_c_beats.specs.declared.answers.TheConstants.{NOT_SENT}
use Rattle.tl_c_beats.specs.declared.bridge_id.BridgeId.{BridgeId}
use Rattle.tl_c_beats.specs.declared.totals.BeatTotals.{BeatTotals}
use Rattle.tl_c_beats.specs.Receipts.{beat_totals, client_took, manager_took, ClientTook, ManagerTook}
use Rattle.tl_c_beats.specs.Receipts.{TotalsOfClient, TotalsOfManager}

-- the numbers that C is given are those that the side counts
module _ {C M : ℕ} {n : PerChannel ℕ} {t : BeatTotals} {bridge : BridgeId} {finished : ℕ} (is : t ≡ beat_totals bridge finished n) where
  pub of_client : (x : ClientPast C M) → CountClient n x → TotalsOfClient t x
  of_client x count = subst (λ t. TotalsOfClient t x) (sym is) (record { a = count.a; b = count.b; c = count.c; d = count.d; e = count.e })

  pub of_manager : (y : ManagerPast C M) → CountManager n y → TotalsOfManager t y
  of_manager y count = subst (λ t. TotalsOfManager t y) (sym is) (record { a = count.a; b = count.b; c = count.c; d = count.d; e = count.e })

-- a side that has sent everything gives a receipt, and one that has not gives none
pub sent_out : {Q : Type 0} (b : Bool) → IsTrue b ↔ Q → b ≡ true → (◌≡◌ {A = ℕ} 0 0) ↔ Q
sent_out b is e = (λ zero. is.0 e, λ q. refl)

pub not_sent_out : {Q : Type 0} (b : Bool) → IsTrue b ↔ Q → b ≡ false → (NOT_SENT ≡ 0) ↔ Q
not_sent_out b is e = (λ zero. absurd (omega (arith, zero)), λ q. absurd (false≢true (sym e ∙ is.1 q)))

-- if as many were taken, the receipt's numbers are those of the beats that were taken
as_counted : {X : Type 0} {m n : ℕ} (beats : List X) → (m == n) ≡ true → IsNumberOf m beats → IsNumberOf n beats
as_counted {m = m} {n = n} beats same count small = sym (true_equal m n same) ∙ count small

pub client_took_them : {C M : ℕ} (n : PerChannel ℕ) (receipt : BeatTotals) (x : ClientPast C M) → client_took n receipt ≡ true → CountClient n x →
    ClientTook receipt x
client_took_them n receipt x took count =
    let each = and_parts (n.b == receipt.b) (n.d == receipt.d) took in
    (as_counted x.b each.0 count.b, as_counted (answered x.history) each.1 count.d)

pub manager_took_them : {C M : ℕ} (n : PerChannel ℕ) (receipt : BeatTotals) (y : ManagerPast C M) → manager_took n receipt ≡ true →
    CountManager n y → ManagerTook receipt y
manager_took_them n receipt y took count =
    let first = and_parts (n.a == receipt.a) ((n.c == receipt.c) && (n.e == receipt.e)) took in
    let rest = and_parts (n.c == receipt.c) (n.e == receipt.e) first.1 in
    (as_counted (asked y.history) first.0 count.a, as_counted y.c rest.0 count.c, as_counted y.e rest.1 count.e)
