-- A run of a script in pieces asks its sink for no more room than the script's far beats need.
use Rattle.tl_run.proofs.Names.{ℕ, IsWidth, Beats, Bridge, StandsFor, PerChannel, Fit, joined, HaveRoom, IsRunning, ArePart, inboxes, after_fetch}
use Rattle.tl_trace.specs.declared.script.Script.{Script}
use Rattle.tl_trace.specs.declared.script.Counts.{Counts}
use Rattle.tl_run.specs.Inner.Going.{HavePassed}
use Rattle.tl_run.proofs.Pieces.{fetched-at}
use Rattle.tl_run.proofs.Rooms.{inboxes-fit}

module _ {F : Type 0} {C M : ℕ} where
  -- a run goes on where its bridge has accepted beats and passed them on
  pub passed-on : (Holds : F → Beats M C → Type 0) (near : Beats C M) (discarded : Counts) (held : Script C M) (n m taken : PerChannel ℕ) (far : F)
      (s t : Bridge C M) → ArePart discarded held near → (r : IsRunning Holds near n taken far s) → HavePassed discarded held n r.under_way.past m t →
      IsRunning Holds near m taken far t
  passed-on Holds near discarded held n m taken far s t part r p = record {
    all = r.all;
    holds = r.holds;
    counts = r.counts;
    under_way = record { past = p.past; stands = p.stands; is_at = p.is_at near r.all part r.under_way.is_at };
  }

  -- after a fetch, enough room for all far beats is room for those that were taken and those in the inboxes
  pub fetched-fits : IsWidth C → IsWidth M → (Holds : F → Beats M C → Type 0) (near : Beats C M) (n taken : PerChannel ℕ) (far : F)
      (s t : Bridge C M) (r : IsRunning Holds near n taken far s) → StandsFor t (after_fetch s r.under_way.past) →
      (room : PerChannel ℕ) → HaveRoom near room → Fit (joined r.all (inboxes t)) room
  fetched-fits cw mw Holds near n taken far s t r stands room has =
      inboxes-fit cw mw near n r.all t (after_fetch s r.under_way.past) stands (fetched-at near n r.all s r.under_way.past r.under_way.is_at) room
      has
