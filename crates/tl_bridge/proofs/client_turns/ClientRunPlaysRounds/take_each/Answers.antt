use Rattle.std.proofs.Common.{◌+◌, ◌++◌, ◌≤◌, length, vec_len, vec_capacity, refl, sym, ap, subst, ◌∙◌}
use Rattle.tl_bridge.specs.Inner.Sides.{SameClientEnds}
use Rattle.tl_bridge.proofs.SidePlays.{client-taken}
use Rattle.tl_bridge.proofs.client_turns.ClientRunPlaysRounds.take_each.Goals as goal

pub append-requires : goal.append-requires
append-requires g c = subst (λ q. vec_len c.args.self.now.far_b + length q ≤ vec_capacity c.args.self.now.far_b)
    (sym c.inbox_b.ensures) c.requires.1.0

pub append-requires-2 : goal.append-requires-2
append-requires-2 g c = subst (λ q. vec_len c.args.self.now.far_d + length q ≤ vec_capacity c.args.self.now.far_d)
    (sym c.inbox_d.ensures) c.requires.1.1

pub inbox_b-requires : goal.inbox_b-requires
inbox_b-requires g c = (c.sides_fit.ensures.client, c.beat_fits.ensures)

pub append-requires-room-B-Clone : goal.append-requires-room-B-Clone
append-requires-room-B-Clone g c κs = c.beat_fits.ensures

pub inbox_d-requires : goal.inbox_d-requires
inbox_d-requires g c = (c.sides_fit.ensures.client, c.beat_fits.ensures)

pub append-requires-2-room-B-Clone : goal.append-requires-2-room-B-Clone
append-requires-2-room-B-Clone g c κs = c.beat_fits.ensures

pub returns : goal.returns
returns g c =
    let x = c.args.self.now in
    client-taken x (record { side = c.take_all.new.self; far_b = c.append.new.far; far_d = c.append-2.new.far }) c.take_all.ensures.taken
    (subst (λ s. SameClientEnds x.side s) (sym c.take_all.ensures.rest) (record { a = refl; b = refl; c = refl; d = refl; e = refl }))
    (c.append.ensures.items ∙ ap (λ q. x.far_b.items ++ q) c.inbox_b.ensures)
    (c.append-2.ensures.items ∙ ap (λ q. x.far_d.items ++ q) c.inbox_d.ensures)
    c.append.ensures.capacity c.append-2.ensures.capacity
