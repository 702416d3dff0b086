-- Worked examples: the rounds of a run in one thread, by its rings.
use Rattle.tl_run.proofs.Names.{◌≡◌, ℕ, false, List, [], ◌∷◌, refl, map, no_beats, Beats, Done, Stopped, PerChannel, Offered, all_under_way}
use Rattle.std.specs.List.{range_with_len}
use Rattle.tl_run.specs.InRounds.{after_rounds}

-- how many beats are under way after each of the first n rounds
abbrev under_way_in : {C M : ℕ} → (near : Beats C M) (ring n : ℕ) → List ℕ
under_way_in near ring n = map (λ k. all_under_way (after_rounds near ring k).past) (range_with_len 1 n)

abbrev all_done : PerChannel Offered
all_done = record { a = Stopped Done; b = Stopped Done; c = Stopped Done; d = Stopped Done; e = Stopped Done }

-- a script without beats is over after one round
empty : (after_rounds {C = 8} {M = 8} no_beats 1 1).offers ≡ all_done
empty = refl

-- eight bytes of a PutFullData, from a bus of 8 bytes to one of 1 byte
abbrev put : Beats 8 1
put = record no_beats {
  a = record {
    head = record { opcode = 0; param = 0; size = 3; source = 0; address = 0 };
    mask = 255;
    lanes = 1 ∷ 2 ∷ 3 ∷ 4 ∷ 5 ∷ 6 ∷ 7 ∷ 8 ∷ [];
    corrupt = false;
  } ∷ [];
}

-- over a ring of 1 beat they arrive one in each round, so the run takes nine; over a ring of 8 beats it takes two
one_by_one : under_way_in put 1 9 ≡ 8 ∷ 7 ∷ 6 ∷ 5 ∷ 4 ∷ 3 ∷ 2 ∷ 1 ∷ 0 ∷ []
one_by_one = refl

together : under_way_in put 8 2 ≡ 8 ∷ 0 ∷ []
together = refl

ends_alike : (after_rounds put 1 9).offers ≡ (after_rounds put 8 2).offers
ends_alike = refl
