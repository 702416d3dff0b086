-- The number of waiting beats on each channel, after both sides have met.
use Rattle.std.specs.Prelude.{ℕ, Option, Some}
use Rattle.std.proofs.Common.{◌≡◌, sym, subst}
use Rattle.tl_ring.specs.Ends.{Sending, Taking}
use Rattle.tl_ring.specs.declared.standing.Standing.{Standing}
use Rattle.tl_sides.specs.declared.per_channel.PerChannel.{PerChannel}
use Rattle.tl_sides.specs.Ends.{AreStanding}
use Rattle.tl_c_beats.specs.declared.counts.ChannelCounts.{ChannelCounts}
use Rattle.tl_c_beats.specs.Counts as told
use Rattle.tl_c.specs.declared.held.ClientHeld.{ClientHeld}
use Rattle.tl_c.specs.declared.held.ManagerHeld.{ManagerHeld}
use Rattle.tl_c.specs.Calls.{AreCounted, beat_counts}

counts_one : {K A H : Type 0} {v : ℕ} {s : Sending K A H v} {t : Taking K A H v} {n : Standing} → AreStanding s t n →
    told.beat_counts n ≡ beat_counts s t
counts_one is = let staged = is.staged in let in_ring = is.in_ring in let inbox = is.inbox in cc

pub counted : {client : Option ClientHeld} {manager : Option ManagerHeld} {s : ClientHeld} {t : ManagerHeld}
    {n : PerChannel Standing} {counts : ChannelCounts} →
    client ≡ Some s → manager ≡ Some t → counts ≡ told.channel_counts n → AreStanding s.side.a t.side.a n.a → AreStanding t.side.b s.side.b n.b →
    AreStanding s.side.c t.side.c n.c → AreStanding t.side.d s.side.d n.d → AreStanding s.side.e t.side.e n.e → AreCounted client manager counts
counted {manager = manager} {s = s} {counts = counts} client_is manager_is told_as a b c d e =
    let at_a = counts_one a in let at_b = counts_one b in let at_c = counts_one c in let at_d = counts_one d in let at_e = counts_one e in
    subst (λ h. AreCounted h manager counts) (sym client_is) (subst (λ k. AreCounted (Some s) k counts) (sym manager_is) cc)
