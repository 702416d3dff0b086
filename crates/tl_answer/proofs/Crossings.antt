-- A run that writes texts advances from piece to piece.
use Rattle.tl_answer.proofs.Names.{◌≡◌, ◌≤◌, ◌^◌, ◌∙◌, ℕ, List, length, ◌++◌, Result, Ok, Err, zero-le, IfOk, OnOk, Beats, Discarded, GoesOn, HasCounts}
use Rattle.tl_answer.proofs.Names.{HasGrown, HasRemoved, more_discarded, Script, AreFew, CanRun, HasRun, HasLines, AreCounted}
use Rattle.std.specs.declared.alloc.AllocError.{AllocError}
use Rattle.tl_trace.specs.declared.script.Counts.{Counts}
use Rattle.tl_parts.specs.Parts.{AreGoing, ArePart, AreWaiting, AreDiscarded, IsBetween}
use Rattle.tl_parts.specs.Stopping.{AreStuck}
use Rattle.tl_run.specs.Running.{as_counts}
use Rattle.tl_run.specs.declared.streaming.SyncRun.{SyncRun}
use Rattle.tl_answer.specs.Inner.Crossing.{Crosses, CrossesOn}
use Rattle.tl_answer.specs.declared.crossing.Crossing.{Crossing}
use Rattle.tl_answer.proofs.Consuming.{counted-on, goes-on, within}

-- if a list grows, the same number of beats may be removed, and more are held
between : {X : Type 0} (discarded held more : List X) (n at : ℕ) → n ≡ length discarded → length (discarded ++ more) ≤ 2 ^ 40 → GoesOn held more →
    IsBetween n at (length held) → IsBetween n at (length more)
between discarded held more n at is few grown b =
    let w = within discarded held more n at 0 is few grown (record { from = b.from; to = b.to; few = b.few; few_far = zero-le }) in
    record { from = w.from; to = w.to; few = w.few }

module _ {C M : ℕ} where
  -- a run can go on with more
  can-run : (run : SyncRun C M) (discarded : Discarded C M) (rest more : Script C M) → AreCounted run.discarded discarded → AreFew discarded more →
      HasGrown rest more → CanRun run rest → CanRun run more
  can-run run discarded rest more is few grown can = let was = can.within in record {
    within = record {
      a = between discarded.a rest.a.items more.a.items run.discarded.a run.at.a is.a few.few_a grown.a was.a;
      b = between discarded.b rest.b.items more.b.items run.discarded.b run.at.b is.b few.few_b grown.b was.b;
      c = between discarded.c rest.c.items more.c.items run.discarded.c run.at.c is.c few.few_c grown.c was.c;
      d = between discarded.d rest.d.items more.d.items run.discarded.d run.at.d is.d few.few_d grown.d was.d;
      e = between discarded.e rest.e.items more.e.items run.discarded.e run.at.e is.e few.few_e grown.e was.e;
    };
    rests = can.rests;
  }

  -- and advances, unless it fails
  pub crosses-on : (result : Result Counts AllocError) (version : ℕ) (discarded : Discarded C M) (s : Script C M) (was x : Crossing C M) →
      IfOk result (λ counts. HasCounts counts s) → IfOk result (λ counts. AreDiscarded was.run.discarded counts x.run.discarded) →
      IfOk result (λ counts. (rest : Script C M) → HasRemoved counts s rest → CanRun x.run rest) → OnOk result (x.far.version ≡ was.far.version) →
      ((near : Beats C M) → ArePart was.run.discarded s near → HasRun HasLines near was.far was.run → OnOk result (HasRun HasLines near x.far x.run)) →
      Crosses version was discarded s → IfOk result (λ counts. (rest more : Script C M) → HasRemoved counts s rest → HasGrown rest more →
      AreFew (more_discarded discarded counts s) more → Crosses version x (more_discarded discarded counts s) more)
  crosses-on (Err e) version discarded s was x few went held same on h = tt
  crosses-on (Ok counts) version discarded s was x few went held same on h = λ rest more left grown short. record {
    version_is = same ∙ h.version_is;
    goes = goes-on (CanRun was.run) (CanRun x.run) (λ beats. HasRun HasLines beats x.far x.run)
        (λ beats. HasRun HasLines beats was.far was.run) discarded s rest more
        was.run.discarded counts x.run.discarded few went left grown
        (can-run x.run (more_discarded discarded counts s) rest more (counted-on discarded s was.run.discarded counts x.run.discarded few went h.goes.counted) short
        grown (held rest left)) on h.goes;
  }

  -- as far as the beats lead that are held
  pub crosses-consumed : (result : Result Counts AllocError) (s : Script C M) (was x : Crossing C M) →
      ((near : Beats C M) → ArePart was.run.discarded s near → HasRun HasLines near was.far was.run →
      IfOk result (λ _. AreStuck near was.run.discarded (as_counts x.run.at) s)) → IfOk result (AreGoing was.run.discarded (as_counts x.run.at) s) →
      IfOk result (λ counts. (rest : Script C M) → HasRemoved counts s rest → AreWaiting x.run.discarded (as_counts x.run.at) rest) → IfOk result (CrossesOn was x s)
  crosses-consumed (Err e) s was x stuck going waiting = tt
  crosses-consumed (Ok counts) s was x stuck going waiting = record { stuck = stuck; going = going; waiting = waiting }
