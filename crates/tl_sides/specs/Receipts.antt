-- The end of a side: the receipts of the channels that it sent, and what they show the other side (this project's
-- choice).
use Rattle.std.specs.Prelude.{◌≡◌, ℕ, true, [], List, length, IfSome}
use Rattle.tl_ring.specs.Counts.{IsNumberOf}
use Rattle.tl_ring.specs.Ends.{IsReceiptOf, Shows, Shown, sent_count, taken_count}
use Rattle.tl_sides.specs.Words.{rules_a, rules_b, rules_c, rules_d, rules_e, BeatOf, Sending, Taking, asked, answered}
use Rattle.tl_sides.specs.Ends.{IsIdle}
use Rattle.tl_sides.specs.Sides.{ClientState, ManagerState, ClientPast, ManagerPast, ClientStandsFor, ManagerStandsFor}
use Rattle.tl_sides.specs.declared.per_channel.PerChannel.{PerChannel}
use Rattle.tl_sides.specs.declared.receipts.ClientReceipt.{ClientReceipt}
use Rattle.tl_sides.specs.declared.receipts.FinishedClient.{FinishedClient}
use Rattle.tl_sides.specs.declared.receipts.FinishedManager.{FinishedManager}
use Rattle.tl_sides.specs.declared.receipts.ManagerReceipt.{ManagerReceipt}

-- a channel is closed, and all beats that became due were sent
abbrev pub IsSentOut : {K A H : Type 0} {v : ℕ} → Sending K A H v → Type 0
IsSentOut s = (s.closed ≡ true) × (s.stage ≡ [])

module _ {A : Type 0} {C M : ℕ} where
  -- the same for all channels that a side sends
  abbrev pub ClientIsSentOut : ClientState A C M → Type 0
  ClientIsSentOut s = IsSentOut s.a × IsSentOut s.c × IsSentOut s.e

  abbrev pub ManagerIsSentOut : ManagerState A C M → Type 0
  ManagerIsSentOut t = IsSentOut t.b × IsSentOut t.d

  -- receipts are of the other ends of a side's rings
  abbrev pub AreClientsReceipts : ClientReceipt C M A → ManagerState A C M → Type 0
  AreClientsReceipts r t = IsReceiptOf r.a t.a × IsReceiptOf r.c t.c × IsReceiptOf r.e t.e

  abbrev pub AreManagersReceipts : ManagerReceipt C M A → ClientState A C M → Type 0
  AreManagersReceipts r s = IsReceiptOf r.b s.b × IsReceiptOf r.d s.d

  -- the same for the receipts that a side leaves when it finishes, for each that there is
  abbrev pub ClientLeaves : FinishedClient C M A → ManagerState A C M → Type 0
  ClientLeaves left t = IfSome left.a (λ r. IsReceiptOf r t.a) × IfSome left.c (λ r. IsReceiptOf r t.c) × IfSome left.e (λ r. IsReceiptOf r t.e)

  abbrev pub ManagerLeaves : FinishedManager C M A → ClientState A C M → Type 0
  ManagerLeaves left s = IfSome left.b (λ r. IsReceiptOf r s.b) × IfSome left.d (λ r. IsReceiptOf r s.d)

  -- each receipt shows the past that the side represented
  abbrev pub LeftShowsClient : FinishedClient C M A → ClientPast C M → Type 0
  LeftShowsClient left x = IfSome left.a (λ r. Shows rules_a r x.a) × IfSome left.c (λ r. Shows rules_c r x.c) × IfSome left.e (λ r. Shows rules_e r x.e)

  abbrev pub LeftShowsManager : FinishedManager C M A → ManagerPast C M → Type 0
  LeftShowsManager left y = IfSome left.b (λ r. Shows rules_b r y.b) × IfSome left.d (λ r. Shows rules_d r y.d)

  -- they show the past that the side that left them represented
  abbrev pub ShowsClient : ClientReceipt C M A → ClientPast C M → Type 0
  ShowsClient r x = Shows rules_a r.a x.a × Shows rules_c r.c x.c × Shows rules_e r.e x.e

  abbrev pub ShowsManager : ManagerReceipt C M A → ManagerPast C M → Type 0
  ShowsManager r y = Shows rules_b r.b y.b × Shows rules_d r.d y.d

  -- the facts that the other side's receipts show a side: each channel is one crossing, to which a list of events
  -- leads. So the beats taken, followed by those in its inbox and ring, are the far layout of all accepted beats of the
  -- other side; if both are empty, it took all of them
  pub record ClientIsShown (r : ClientReceipt C M A) (t : ManagerState A C M) (x : ClientPast C M) (y : ManagerPast C M) : Type 0 where
    pub manager : ManagerStandsFor t y
    pub a : Shown rules_a r.a t.a x.a (asked y.history)
    pub c : Shown rules_c r.c t.c x.c y.c
    pub e : Shown rules_e r.e t.e x.e y.e

  pub record ManagerIsShown (r : ManagerReceipt C M A) (s : ClientState A C M) (y : ManagerPast C M) (x : ClientPast C M) : Type 0 where
    pub client : ClientStandsFor s x
    pub b : Shown rules_b r.b s.b y.b x.b
    pub d : Shown rules_d r.d s.d y.d (answered x.history)

-- how many beats a side has sent on the channels that it sends, and how many were taken from it on the others, as it counts them
module _ {A : Type 0} {C M : ℕ} where
  abbrev pub client_totals : ClientState A C M → PerChannel ℕ
  client_totals s = record { a = sent_count s.a; b = taken_count s.b; c = sent_count s.c; d = taken_count s.d; e = sent_count s.e }

  abbrev pub manager_totals : ManagerState A C M → PerChannel ℕ
  manager_totals t = record { a = taken_count t.a; b = sent_count t.b; c = taken_count t.c; d = sent_count t.d; e = taken_count t.e }

-- these are the numbers of the beats of a past
module _ {C M : ℕ} where
  pub record CountClient (n : PerChannel ℕ) (x : ClientPast C M) : Type 0 where
    pub a : IsNumberOf n.a x.a.taken
    pub b : IsNumberOf n.b x.b
    pub c : IsNumberOf n.c x.c.taken
    pub d : IsNumberOf n.d (answered x.history)
    pub e : IsNumberOf n.e x.e.taken

  pub record CountManager (n : PerChannel ℕ) (y : ManagerPast C M) : Type 0 where
    pub a : IsNumberOf n.a (asked y.history)
    pub b : IsNumberOf n.b y.b.taken
    pub c : IsNumberOf n.c y.c
    pub d : IsNumberOf n.d y.d.taken
    pub e : IsNumberOf n.e y.e

-- if as many beats were taken as were sent, they are all of them, in order, and none is in a ring or an inbox
abbrev pub AllIfAsMany : {K A H : Type 0} {v : ℕ} → Taking K A H v → (sent taken : List (BeatOf H v)) → Type 0
AllIfAsMany t sent taken = length taken ≡ length sent → (taken ≡ sent) × IsIdle t

-- the same of each channel, at a meeting of both sides
pub record AsManyAreAll (A : Type 0) (C M : ℕ) (s : ClientState A C M) (t : ManagerState A C M) (x : ClientPast C M) (y : ManagerPast C M) : Type 0 where
  pub a : AllIfAsMany t.a x.a.taken (asked y.history)
  pub b : AllIfAsMany s.b y.b.taken x.b
  pub c : AllIfAsMany t.c x.c.taken y.c
  pub d : AllIfAsMany s.d y.d.taken (answered x.history)
  pub e : AllIfAsMany t.e x.e.taken y.e
