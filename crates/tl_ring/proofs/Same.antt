-- The same end of the same ring, through several calls.
use Rattle.tl_ring.proofs.Names.{ℕ, refl, sym, ◌∙◌}
use Rattle.tl_ring.specs.Ends.{Sending, Taking, Ended, ArePair, SameSend, SameTake, IsReceiptFor, IsReceiptOf}

module _ {K A H : Type 0} {v : ℕ} where
  pub same_send : (a : Sending K A H v) → SameSend a a
  same_send a = ((refl, refl, refl, refl), refl)

  pub same_send_then : (a b c : Sending K A H v) → SameSend a b → SameSend b c → SameSend a c
  same_send_then a b c e f = ((f.0.0 ∙ e.0.0, f.0.1 ∙ e.0.1, f.0.2 ∙ e.0.2, f.0.3 ∙ e.0.3), f.1 ∙ e.1)

  pub same_take : (a : Taking K A H v) → SameTake a a
  same_take a = ((refl, refl, refl, refl), refl)

  pub same_take_then : (a b c : Taking K A H v) → SameTake a b → SameTake b c → SameTake a c
  same_take_then a b c e f = ((f.0.0 ∙ e.0.0, f.0.1 ∙ e.0.1, f.0.2 ∙ e.0.2, f.0.3 ∙ e.0.3), f.1 ∙ e.1)

  -- two ends stay a pair while each advances by itself
  pub still_pair : (s s' : Sending K A H v) (t t' : Taking K A H v) → SameSend s s' → SameTake t t' → ArePair s t → ArePair s' t'
  still_pair s s' t t' send take pair = (
    take.0.0 ∙ pair.0 ∙ sym send.0.0,
    take.0.1 ∙ pair.1 ∙ sym send.0.1,
    take.0.2 ∙ pair.2 ∙ sym send.0.2,
    take.0.3 ∙ pair.3 ∙ sym send.0.3,
  )

  -- a receipt goes to the end that is a pair with the one that left it
  pub receipt_of : (s : Sending K A H v) (e : Ended K A H v) (t t' : Taking K A H v) → IsReceiptFor s e → ArePair s t → SameTake t t' →
      IsReceiptOf e t'
  receipt_of s e t t' left pair same = left t' (still_pair s s t t' (same_send s) same pair)
