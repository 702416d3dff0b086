-- The effect of the calls on one channel of a bridge in one thread, and of the call that takes all beats that have
-- arrived (this project's choice).
use Rattle.std.specs.Prelude.{◌++◌, ◌==◌, ℕ, [], cond, drop, length, map, take}
use Rattle.tl_sides.specs.Words.{World, Pipe, popped, pushed, Ask, Answer}
use Rattle.tl_sides.specs.Bridges.{Bridge, Past, StandsFor, fetch_count, pump_count}

-- all beats of an inbox are taken
abbrev pub emptied : {H : Type 0} {w v : ℕ} → World H w v → World H w v
emptied x = record x { inbox = []; taken = x.taken ++ x.inbox }

module _ {C M : ℕ} where
  -- each side takes all beats of its inboxes; a beat of A is a request in the manager's history, and one of D a
  -- response in the client's
  abbrev pub after_take_all : Past C M → Past C M
  after_take_all x = record {
    client = x.client ++ map Answer x.d.inbox;
    manager = x.manager ++ map Ask x.a.inbox;
    a = emptied x.a;
    b = emptied x.b;
    c = emptied x.c;
    d = emptied x.d;
    e = emptied x.e;
  }

-- `first` staged beats moved into the ring, then `out` beats from the ring into the inbox, and then `again` more staged
-- beats into the ring
abbrev pub passed_on : {H : Type 0} {w v : ℕ} → (first out again : ℕ) → World H w v → World H w v
passed_on first out again x = pushed again (popped out (pushed first x))

module _ {H : Type 0} {v : ℕ} where
  -- a channel once it has pumped, and once it has fetched
  abbrev pub pumped : Pipe H v → Pipe H v
  pumped p = record p { stage = drop (pump_count p) p.stage; ring = p.ring ++ take (pump_count p) p.stage }

  abbrev pub fetched : Pipe H v → Pipe H v
  fetched p = record p { ring = drop (fetch_count p) p.ring; inbox = p.inbox ++ take (fetch_count p) p.ring }

  -- Forwarding staged beats. They move into the ring. If it has too little room for all, the ring's beats move into the
  -- inbox, and the remaining staged beats into the ring. The two counts are of the beats that then leave the ring and
  -- enter it.
  abbrev pub out_count : Pipe H v → ℕ
  out_count p = cond (length (pumped p).stage == 0) 0 (fetch_count (pumped p))

  abbrev pub again_count : Pipe H v → ℕ
  again_count p = cond (length (pumped p).stage == 0) 0 (pump_count (fetched (pumped p)))

  abbrev pub after_pass_on : {w : ℕ} → Pipe H v → World H w v → World H w v
  after_pass_on p x = passed_on (pump_count p) (out_count p) (again_count p) x

  -- the channel after that
  abbrev pub passed : Pipe H v → Pipe H v
  passed p = cond (length (pumped p).stage == 0) (pumped p) (pumped (fetched (pumped p)))

-- a bridge forwards the staged beats of a channel
module _ {C M : ℕ} where
  abbrev pub passes_a : Bridge C M → Bridge C M → Type 0
  passes_a s t = (x : Past C M) → StandsFor s x → StandsFor t (record x { a = after_pass_on s.a x.a })

  abbrev pub passes_b : Bridge C M → Bridge C M → Type 0
  passes_b s t = (x : Past C M) → StandsFor s x → StandsFor t (record x { b = after_pass_on s.b x.b })

  abbrev pub passes_c : Bridge C M → Bridge C M → Type 0
  passes_c s t = (x : Past C M) → StandsFor s x → StandsFor t (record x { c = after_pass_on s.c x.c })

  abbrev pub passes_d : Bridge C M → Bridge C M → Type 0
  passes_d s t = (x : Past C M) → StandsFor s x → StandsFor t (record x { d = after_pass_on s.d x.d })

  abbrev pub passes_e : Bridge C M → Bridge C M → Type 0
  passes_e s t = (x : Past C M) → StandsFor s x → StandsFor t (record x { e = after_pass_on s.e x.e })
