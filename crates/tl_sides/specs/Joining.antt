-- The bridge of both sides in one thread, composed of their two ports and a ring on each channel.
use Rattle.std.specs.Prelude.{ℕ, List}
use Rattle.tl_sides.specs.Words.{Buffer, HeadA, HeadB, HeadC, HeadD, HeadE, BeatOf, Outgoing, Pipe}
use Rattle.tl_sides.specs.Bridges.{Bridge}
use Rattle.tl_sides.specs.Ports.{ClientNow, ManagerNow}

-- an outbox, a ring and an inbox are a pipe
abbrev pub pipe_of : {H : Type 0} {v : ℕ} → Outgoing H v → Buffer (BeatOf H v) → List (BeatOf H v) → Pipe H v
pipe_of o ring inbox = record {
  converter = o.converter;
  room = ring.capacity;
  stage = o.stage;
  ring = ring.items;
  inbox = inbox;
  closed = o.closed;
}

abbrev pub bridge_of : {C M : ℕ} → ClientNow C M → ManagerNow C M → Buffer (BeatOf HeadA M) → Buffer (BeatOf HeadB C) → Buffer (BeatOf HeadC M) →
    Buffer (BeatOf HeadD C) → Buffer (BeatOf HeadE M) → Bridge C M
bridge_of s t a b c d e = record {
  a = pipe_of s.a a t.a;
  b = pipe_of t.b b s.b;
  c = pipe_of s.c c t.c;
  d = pipe_of t.d d s.d;
  e = pipe_of s.e e t.e;
  client = s.book;
  manager = t.book;
}
