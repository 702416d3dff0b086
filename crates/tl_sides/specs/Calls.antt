-- The effect of an offer, a close and a take on the holder of a channel: a port, a bridge in one thread, or a side in a
-- thread of its own (this project's choice).
use Rattle.std.proofs.Common.{◌≡◌, ◌↔◌, ◌++◌, ◌∙◌, ℕ, Bool, true, Option, None, Some, List, [], ◌∷◌, Result, map, refl, sym, ap, append-nil}
use Rattle.std.specs.Prelude.{IsOk, IfErr, IfSome, OnOk, OnErr, slice_get}
use Rattle.tl_sides.specs.Words.{IsLawfulBeat, Rules, BeatOf, SideFault, rest_of, World, offered, shut, EndFault}
use Rattle.tl_sides.specs.Crossings.{stops_alone}

-- a channel that a holder S sends, which represents pasts P: its beats have w lanes, and v lanes at the other side
pub record SendingChannel (S P H : Type 0) (w v : ℕ) : Type 1 where
  pub rules : Rules H
  pub Stands : S → P → Type 0
  -- the channel's crossing, and the past with this crossing
  pub crossing : P → World H w v
  pub put : World H w v → P → P
  -- the past with these beats accepted, except for the crossing
  pub note : List (BeatOf H w) → P → P
  -- the reason why a beat is refused; None if it is accepted
  pub stops : P → BeatOf H w → Option SideFault
  -- the home of a message that the beat begins
  pub home : P → BeatOf H w → ℕ
  -- whether the holder has closed the channel, and the holder after closing it
  pub closed : S → Bool
  pub as_closed : S → S
  -- the parts that no offer and no close changes are the same
  pub Keeps : S → S → Type 0
  -- a past is unchanged by no beat, and by its own crossing
  pub noted : (x : P) → note [] x ≡ x
  pub kept : (x : P) → put (crossing x) x ≡ x
  -- these parts are the same if nothing changes, and if the channel is closed
  pub keeps_same : (s : S) → Keeps s s
  pub keeps_closed : (s : S) → Keeps s (as_closed s)

-- a channel that its holder takes
pub record TakingChannel (S P H : Type 0) (w : ℕ) : Type 1 where
  pub rules : Rules H
  pub Stands : S → P → Type 0
  pub inbox : S → List (BeatOf H w)
  -- the past once the inbox's first beat is taken, if there is one
  pub after_take : S → P → P
  -- the parts that no take changes are the same
  pub Keeps : S → S → Type 0

module _ {S P H : Type 0} {w v : ℕ} (k : SendingChannel S P H w v) where
  -- the past once a beat is accepted, and once the channel is closed
  abbrev pub with_beat : BeatOf H w → P → P
  with_beat b x = k.put (offered k.rules b (k.home x b) (k.crossing x)) (k.note (b ∷ []) x)

  abbrev pub ended : P → P
  ended x = k.put (shut (k.crossing x)) x

  -- a beat was offered
  pub record OffersBeat (b : BeatOf H w) (s : S) (answer : Result (Unit {0}) SideFault) (s' : S) : Type 0 where
    -- for every past, it is accepted if and only if there is no reason to refuse it
    pub admitted : (x : P) → k.Stands s x → IsOk answer ↔ (k.stops x b ≡ None)
    pub accepted : (x : P) → k.Stands s x → OnOk answer (k.Stands s' (with_beat b x))
    -- otherwise the result is that reason, and nothing changes
    pub fault : (x : P) → k.Stands s x → IfErr answer (λ fault. k.stops x b ≡ Some fault)
    pub refused : OnErr answer (s' ≡ s)
    pub rest : k.Keeps s s'

  -- closing the channel was attempted
  pub record ClosesChannel (s : S) (answer : Result (Unit {0}) EndFault) (s' : S) : Type 0 where
    -- for every past, it is refused if and only if a burst is unfinished
    pub between : (x : P) → k.Stands s x → IsOk answer ↔ (rest_of k.rules w (k.crossing x).accepted ≡ [])
    pub stands : (x : P) → k.Stands s x → OnOk answer (k.Stands s' (ended x))
    pub closed : OnOk answer (s' ≡ k.as_closed s)
    -- closing again returns Ok and changes nothing
    pub again : k.closed s ≡ true → IsOk answer × (s' ≡ s)
    pub refused : OnErr answer (s' ≡ s)

-- the first beat of the channel's inbox was taken, if there is one
pub record TakesBeat {S P H : Type 0} {w : ℕ} (k : TakingChannel S P H w) (s : S) (answer : Option (BeatOf H w)) (s' : S) : Type 0 where
  pub beat : answer ≡ slice_get (k.inbox s) 0
  -- it is lawful by itself
  pub lawful : IfSome answer (λ beat. IsLawfulBeat k.rules beat)
  pub taken : (x : P) → k.Stands s x → k.Stands s' (k.after_take s x)
  pub rest : k.Keeps s s'

-- the port N in a holder S: the holder represents pasts P, and the port pasts Q
pub record Holds (S P N Q : Type 0) : Type 1 where
  pub Stands : S → P → Type 0
  pub port : S → N
  pub with_port : N → S → S
  pub past : P → Q
  pub with_past : Q → P → P
  -- a holder is unchanged by its own port, and its past by the port's own; a port that is put into a holder is there
  pub same_port : (s : S) → with_port (port s) s ≡ s
  pub same_past : (x : P) → with_past (past x) x ≡ x
  pub new_port : (p : N) (s : S) → port (with_port p s) ≡ p

-- a port is its own holder
abbrev pub itself : {N Q : Type 0} → (N → Q → Type 0) → Holds N Q N Q
itself Stands = record {
  Stands = Stands;
  port = λ p. p;
  with_port = λ p _. p;
  past = λ x. x;
  with_past = λ x _. x;
  same_port = λ _. refl;
  same_past = λ _. refl;
  new_port = λ _ _. refl;
}

-- a channel that a port sends, in its holder; `changed p p'` is p with those parts of p' that an offer and a close may change
module _ {S P N Q H : Type 0} {w v : ℕ} (h : Holds S P N Q) (r : Rules H) (crossing : Q → World H w v) (put : World H w v → Q → Q)
    (kept : (x : Q) → put (crossing x) x ≡ x) (closed : N → Bool) (as_closed : N → N) (changed : N → N → N)
    (changed_same : (p : N) → changed p p ≡ p) (changed_closed : (p : N) → changed p (as_closed p) ≡ as_closed p) where
  -- it does not depend on another channel
  abbrev pub alone : SendingChannel S P H w v
  alone = record {
    rules = r;
    Stands = h.Stands;
    crossing = λ x. crossing (h.past x);
    put = λ y x. h.with_past (put y (h.past x)) x;
    note = λ _ x. x;
    stops = λ x. stops_alone r (crossing (h.past x)).accepted;
    home = λ _ _. 0;
    closed = λ s. closed (h.port s);
    as_closed = λ s. h.with_port (as_closed (h.port s)) s;
    Keeps = λ s s'. s' ≡ h.with_port (changed (h.port s) (h.port s')) s;
    noted = λ _. refl;
    kept = λ x. ap (λ y. h.with_past y x) (kept (h.past x)) ∙ h.same_past x;
    keeps_same = λ s. sym (ap (λ p. h.with_port p s) (changed_same (h.port s)) ∙ h.same_port s);
    keeps_closed = λ s. sym (ap (λ p. h.with_port (changed (h.port s) p) s) (h.new_port (as_closed (h.port s)) s) ∙
        ap (λ p. h.with_port p s) (changed_closed (h.port s)));
  }

  -- its faults and homes depend on a history, in which each accepted beat is an event
  abbrev pub coupled : {E : Type 0} (event : BeatOf H w → E) (history : Q → List E) (tell : List E → Q → Q) →
      ((x : Q) → tell (history x) x ≡ x) →
      (stops : List E → BeatOf H w → Option SideFault) (home : List E → BeatOf H w → ℕ) → SendingChannel S P H w v
  coupled event history tell told stops home = record alone {
    note = λ bs x. h.with_past (tell (history (h.past x) ++ map event bs) (h.past x)) x;
    stops = λ x. stops (history (h.past x));
    home = λ x. home (history (h.past x));
    noted = λ x. ap (λ es. h.with_past (tell es (h.past x)) x) (append-nil (history (h.past x))) ∙
        ap (λ y. h.with_past y x) (told (h.past x)) ∙ h.same_past x;
  }

-- a channel that a port takes, in its holder; `changed p p'` is p with its inbox's first beat taken, and those parts of
-- p' that a take may change
abbrev pub taking : {S P N Q H : Type 0} {w : ℕ} → Holds S P N Q → Rules H → (inbox : N → List (BeatOf H w)) → (after_take : N → Q → Q) →
    (changed : N → N → N) → TakingChannel S P H w
taking h r inbox after_take changed = record {
  rules = r;
  Stands = h.Stands;
  inbox = λ s. inbox (h.port s);
  after_take = λ s x. h.with_past (after_take (h.port s) (h.past x)) x;
  Keeps = λ s s'. s' ≡ h.with_port (changed (h.port s) (h.port s')) s;
}
