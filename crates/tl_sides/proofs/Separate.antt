-- The behaviour of a channel depends only on that channel, and it advances.
use Rattle.std.proofs.Common.{◌≡◌, ◌≢◌, ◌<◌, ◌+◌, ◌-◌, ◌++◌, ℕ, [], length, min, take, drop, refl, sym, ap, subst, ◌∙◌, arith, length-append}
use Rattle.std.proofs.lemmas.List.{length-drop, length-take}
use Rattle.tl_convert.proofs.FarHanded.{some-length}
use Rattle.tl_ring.specs.Pipe.{IsReady}
use Rattle.tl_sides.proofs.Words.{Pipe, inbox_room, known_items}
use Rattle.tl_sides.specs.Bridges.{Bridge, pump_count, fetch_count}
use Rattle.tl_sides.specs.ChannelCalls.{pumped, fetched}
use Rattle.tl_sides.specs.Separate.{IsSeparate, EndsAreSeparate, NoChannelBlocks, each_pumped, each_fetched}

module _ {H : Type 0} {v : ℕ} where
  -- a pump sends if there is a beat to send, and room for it
  pump_sends : (p : Pipe H v) → p.stage ≢ [] → length p.ring < p.room → length (pumped p).stage < length p.stage
  pump_sends p some place =
      let staged : 0 < length p.stage = some-length p.stage some in
      let left : length (drop (pump_count p) p.stage) ≡ length p.stage - pump_count p = length-drop (pump_count p) p.stage in
      omega (arith, staged, place, left)

  fetch_brings : (p : Pipe H v) → p.ring ≢ [] → length p.inbox < inbox_room → length p.inbox < length (fetched p).inbox
  fetch_brings p some place =
      let there : 0 < length p.ring = some-length p.ring some in
      let more : length (p.inbox ++ take (fetch_count p) p.ring) ≡ length p.inbox + length (take (fetch_count p) p.ring) =
      length-append p.inbox (take (fetch_count p) p.ring) in
      let count : length (take (fetch_count p) p.ring) ≡ min (fetch_count p) (length p.ring) = length-take (fetch_count p) p.ring in
      omega (arith, there, place, more, count)

module _ {C M : ℕ} {H : Type 0} {v : ℕ} where
  -- a channel for which a pump and a fetch of the bridge are those of its own pipe
  pub is_separate : (channel : Bridge C M → Pipe H v) → ((s : Bridge C M) → channel (each_pumped s) ≡ pumped (channel s)) →
      ((s : Bridge C M) → channel (each_fetched s) ≡ fetched (channel s)) → IsSeparate channel
  is_separate channel pump fetch = record {
    ready = λ s t same ready. subst (λ p. IsReady p) same ready;
    pump = λ s t same. pump s ∙ ap pumped same ∙ sym (pump t);
    fetch = λ s t same. fetch s ∙ ap fetched same ∙ sym (fetch t);
    sends = λ s some place. subst (λ p. length p.stage < length (channel s).stage) (sym (pump s)) (pump_sends (channel s) some place);
    arrives = λ s some place. subst (λ p. length (channel s).inbox < length p.inbox) (sym (fetch s)) (fetch_brings (channel s) some place);
  }

pub ends_are_separate : (K A H : Type 0) (v : ℕ) → EndsAreSeparate K A H v
ends_are_separate K A H v = record {
  sends = λ s s' pumps some free.
      let staged : 0 < length s.stage = some-length s.stage some in
      let least = pumps.least in
      omega (arith, staged, free, least);
  arrives = λ t t' fetches some place.
      let there : 0 < length (known_items t) = some-length (known_items t) some in
      let least = fetches.least in
      omega (arith, there, place, least);
}

pub no_channel_blocks : (A : Type 0) (C M : ℕ) → NoChannelBlocks A C M
no_channel_blocks A C M = record {
  a = is_separate (λ s. s.a) (λ s. refl) (λ s. refl);
  b = is_separate (λ s. s.b) (λ s. refl) (λ s. refl);
  c = is_separate (λ s. s.c) (λ s. refl) (λ s. refl);
  d = is_separate (λ s. s.d) (λ s. refl) (λ s. refl);
  e = is_separate (λ s. s.e) (λ s. refl) (λ s. refl);
  ends_of_a = ends_are_separate _ _ _ _;
  ends_of_b = ends_are_separate _ _ _ _;
  ends_of_c = ends_are_separate _ _ _ _;
  ends_of_d = ends_are_separate _ _ _ _;
  ends_of_e = ends_are_separate _ _ _ _;
}
