use Rattle.std.proofs.Common.{◌+◌, ◌++◌, ◌≤◌, length, vec_len, vec_capacity, refl, sym, ap, subst, ◌∙◌}
use Rattle.tl_bridge.specs.Inner.Sides.{SameManagerEnds}
use Rattle.tl_bridge.proofs.SidePlays.{manager-taken}
use Rattle.tl_bridge.proofs.manager_turns.ManagerRunPlaysRounds.take_each.Goals as goal

pub append-requires : goal.append-requires
append-requires g c = subst (λ q. vec_len c.args.self.now.far_a + length q ≤ vec_capacity c.args.self.now.far_a)
    (sym c.inbox_a.ensures) c.requires.1.0

pub append-requires-2 : goal.append-requires-2
append-requires-2 g c = subst (λ q. vec_len c.args.self.now.far_c + length q ≤ vec_capacity c.args.self.now.far_c)
    (sym c.inbox_c.ensures) c.requires.1.1

pub append-requires-3 : goal.append-requires-3
append-requires-3 g c = subst (λ q. vec_len c.args.self.now.far_e + length q ≤ vec_capacity c.args.self.now.far_e)
    (sym c.inbox_e.ensures) c.requires.1.2

pub inbox_a-requires : goal.inbox_a-requires
inbox_a-requires g c = (c.sides_fit.ensures.manager, c.beat_fits.ensures)

pub append-requires-room-B-Clone : goal.append-requires-room-B-Clone
append-requires-room-B-Clone g c κs = c.beat_fits.ensures

pub inbox_c-requires : goal.inbox_c-requires
inbox_c-requires g c = (c.sides_fit.ensures.manager, c.beat_fits.ensures)

pub append-requires-2-room-B-Clone : goal.append-requires-2-room-B-Clone
append-requires-2-room-B-Clone g c κs = c.beat_fits.ensures

pub inbox_e-requires : goal.inbox_e-requires
inbox_e-requires g c = (c.sides_fit.ensures.manager, c.beat_fits.ensures)

pub append-requires-3-room-B-Clone : goal.append-requires-3-room-B-Clone
append-requires-3-room-B-Clone g c κs = c.beat_fits.ensures

pub returns : goal.returns
returns g c =
    let y = c.args.self.now in
    manager-taken y (record { side = c.take_all.new.self; far_a = c.append.new.far; far_c = c.append-2.new.far; far_e = c.append-3.new.far })
    c.take_all.ensures.taken
    (subst (λ s. SameManagerEnds y.side s) (sym c.take_all.ensures.rest) (record { a = refl; b = refl; c = refl; d = refl; e = refl }))
    (c.append.ensures.items ∙ ap (λ q. y.far_a.items ++ q) c.inbox_a.ensures)
    (c.append-2.ensures.items ∙ ap (λ q. y.far_c.items ++ q) c.inbox_c.ensures)
    (c.append-3.ensures.items ∙ ap (λ q. y.far_e.items ++ q) c.inbox_e.ensures) c.append.ensures.capacity
    c.append-2.ensures.capacity c.append-3.ensures.capacity
