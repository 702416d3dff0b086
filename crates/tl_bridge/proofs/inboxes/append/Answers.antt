use Rattle.std.proofs.Common.{◌++◌, ◌∷◌, [], take, refl, sym, ap, ◌∙◌, arith, append-nil, append_assoc}
use Rattle.std.proofs.lemmas.List.{take_all}
use Rattle.tl_sides.proofs.Draining.{next-taken}
use Rattle.tl_bridge.proofs.inboxes.append.Goals as goal

pub loop-beat-init : goal.loop-beat-init
loop-beat-init g c = record { items = sym (append-nil c.args.far.now.items); len = omega arith; capacity = refl }

pub push_reserved-requires : goal.push_reserved-requires
push_reserved-requires g c = omega (arith, c.loop-beat.invariant.len, c.loop-beat.invariant.capacity, c.loop-beat-test.true, c.requires)

pub loop-beat-preserved : goal.loop-beat-preserved
loop-beat-preserved g c =
    let i = c.loop-beat.invariant in
    let more = next-taken c.args.beats.now c.loop-beat.beat-index c.beat-item.result c.loop-beat-test.true c.beat-item.is in
    record {
      items = c.push_reserved.ensures.items ∙ ap (λ q. q ++ c.beat-item.result ∷ []) i.items ∙
          append_assoc c.args.far.now.items (take c.loop-beat.beat-index c.args.beats.now) (c.beat-item.result ∷ [])
          ∙ ap (λ q. c.args.far.now.items ++ q) (sym more);
      len = omega (arith, c.push_reserved.ensures.len, i.len);
      capacity = c.push_reserved.ensures.capacity ∙ i.capacity;
    }

pub returns : goal.returns
returns g c = record {
  items = c.loop-beat.invariant.items ∙
      ap (λ q. c.args.far.now.items ++ q) (take_all c.loop-beat.beat-index c.args.beats.now (omega (arith, c.loop-beat-test.false)));
  capacity = c.loop-beat.invariant.capacity;
}
