-- Accepted beats are handed, if a beat after handed ones has no fault if and only if it is admitted.
use Rattle.tl_convert.proofs.Names.{◌≡◌, ◌↔◌, ℕ, zero, suc, Option, None, Some, List, [], take, refl, sym, subst, arith, slice_get_within}
use Rattle.tl_convert.proofs.Names.{get_or_from_slice_get, slice_get, All, Rules, IsBeat, BeatOf, nothing, IsHanded, IsAdmitted, fault_after}
use Rattle.tl_convert.proofs.Extends.{take-next, take-past}
use Rattle.tl_convert.proofs.FarHeads.{NoFaults, no-faults-less}

module _ {H : Type 0} (r : Rules H) {w : ℕ}
    (exact : (bs : List (BeatOf H w)) (b : BeatOf H w) → IsHanded r bs → IsBeat r b → (fault_after r bs b ≡ None) ↔ IsAdmitted r bs b)
  where
    none_handed : IsHanded r {w = w} []
    none_handed = record { homes = []; messages = []; rest = []; handed = nothing }

    pub each_beat : (bs : List (BeatOf H w)) → All (λ b. IsBeat r b) bs → (k : ℕ) (b : BeatOf H w) → slice_get bs k ≡ Some b → IsBeat r b
    each_beat bs all k b e = subst (λ x. IsBeat r x) (get_or_from_slice_get bs k b b e) (all k b (slice_get_within bs k b e))

    abbrev AllBeats : List (BeatOf H w) → Type 0
    AllBeats bs = (k : ℕ) (b : BeatOf H w) → slice_get bs k ≡ Some b → IsBeat r b

    -- accepted beats are handed
    pub no_faults_handed : (bs : List (BeatOf H w)) → AllBeats bs → (i : ℕ) → NoFaults r bs i → IsHanded r (take i bs)
    no_faults_handed bs all zero f = none_handed
    no_faults_handed bs all (suc i) f = here (slice_get bs i) refl (no_faults_handed bs all i (no-faults-less i (omega arith) f))
      where
        here : (o : Option (BeatOf H w)) → slice_get bs i ≡ o → IsHanded r (take i bs) → IsHanded r (take (suc i) bs)
        here None e h = subst (λ q. IsHanded r q) (sym (take-past bs i e)) h
        here (Some b) e h = subst (λ q. IsHanded r q) (sym (take-next bs i b e)) ((exact (take i bs) b h (all i b e)).0 (f.none i b (omega arith) e))
