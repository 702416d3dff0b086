use Rattle.tl_run.proofs.Names.{◌≡◌, ◌∙◌, ◌+◌, ◌≤◌, ℕ, arith}
use Rattle.tl_run.proofs.AllOk.{five_ok}
use Rattle.tl_run.proofs.Rooms.{same-lists}
use Rattle.tl_run.proofs.taken.reserve_far.Goals as goal

-- room for n beats after the first `len` is room for n
enough : {n room capacity : ℕ} (len : ℕ) → room ≡ n → len + room ≤ capacity → n ≤ capacity
enough len f g = omega (arith, f, g)

pub returns : goal.returns
returns g c =
    let h = c.far_rooms-room.ensures in
    record {
      empty = same-lists c.args.far.now (record {
        a = c.reserve_exact-a.new.self;
        b = c.reserve_exact-b.new.self;
        c = c.reserve_exact-c.new.self;
        d = c.reserve_exact-d.new.self;
        e = c.reserve_exact-e.new.self;
      })
          c.reserve_exact-a.ensures.items c.reserve_exact-b.ensures.items c.reserve_exact-c.ensures.items c.reserve_exact-d.ensures.items
          c.reserve_exact-e.ensures.items ∙ c.requires.2;
      room = five_ok c.reserve_exact-a.result c.reserve_exact-b.result c.reserve_exact-c.result c.reserve_exact-d.result c.reserve_exact-e.result
          c.and.result c.and-2.result c.and-3.result c.and-4.result c.and.ensures c.and-2.ensures c.and-3.ensures c.and-4.ensures
          (λ a b x d e. record {
            in_a = λ homes. enough _ (h.of_a homes) a;
            in_b = λ homes. enough _ (h.of_b homes) b;
            in_c = λ homes. enough _ (h.of_c homes) x;
            in_d = λ homes. enough _ (h.of_d homes) d;
            in_e = λ homes. enough _ (h.of_e homes) e;
          })
          c.reserve_exact-a.ensures.ok c.reserve_exact-b.ensures.ok c.reserve_exact-c.ensures.ok c.reserve_exact-d.ensures.ok
          c.reserve_exact-e.ensures.ok;
    }
