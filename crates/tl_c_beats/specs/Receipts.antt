-- How many beats passed, and the receipts of sides, as C gets them (this project's choice).
use Rattle.std.specs.Prelude.{◌≡◌, ◌≢◌, ◌<◌, ◌↔◌, ◌==◌, ◌&&◌, ℕ, Bool, Option, None, IfSome, if◌then◌else◌}
use Rattle.tl_ring.specs.Counts.{IsNumberOf}
use Rattle.tl_sides.specs.Words.{asked, answered}
use Rattle.tl_sides.specs.Receipts.{CountClient, CountManager}
use Rattle.tl_sides.specs.Sides.{ClientPast, ManagerPast}
use Rattle.tl_sides.specs.declared.per_channel.PerChannel.{PerChannel}
use Rattle.tl_c_beats.specs.declared.answers.TheConstants.{BRIDGE_MISMATCH, NOT_OPEN, NOT_SENT, NOT_TAKEN, WRONG_RECEIPT}
use Rattle.tl_c_beats.specs.declared.bridge_id.BridgeId.{BridgeId}
use Rattle.tl_c_beats.specs.declared.totals.BeatTotals.{BeatTotals}

-- the numbers of a side's beats, with those of its bridge and with the side that has finished; and without them
abbrev pub beat_totals : BridgeId → (finished : ℕ) → PerChannel ℕ → BeatTotals
beat_totals bridge finished n = record { bridge = bridge; finished = finished; a = n.a; b = n.b; c = n.c; d = n.d; e = n.e }

abbrev pub per_channel : BeatTotals → PerChannel ℕ
per_channel t = record { a = t.a; b = t.b; c = t.c; d = t.d; e = t.e }

-- whether both numbers of two bridges are the same
abbrev pub same_bridge : BridgeId → BridgeId → Bool
same_bridge one other = (one.number == other.number) && (one.opening == other.opening)

-- a handle whose side was freed keeps only the number of its opening
abbrev pub without_number : BridgeId → BridgeId
without_number bridge = record { number = 0; opening = bridge.opening }

-- the number of an opening is higher than those of the two handles before, unless one of them was opened 2^64 - 1 times
abbrev pub IsLater : (client manager now : ℕ) → Type 0
IsLater client manager now = client < 18446744073709551615 → manager < 18446744073709551615 → (client < now) × (manager < now)

-- the side `other` has finished, and gave these numbers as its receipt for this opening of a bridge
pub record IsReceipt (bridge : BridgeId) (other : ℕ) (receipt : BeatTotals) : Type 0 where
  pub gave : receipt.finished ≡ other
  pub same : receipt.bridge ≡ bridge

-- the status of a comparison with these numbers: 0 if they are the receipt of the side `other` for this opening of a bridge,
-- and as many beats were taken as it counts
abbrev pub drained_answer : BridgeId → (other : ℕ) → (receipt : BeatTotals) → (as_many : Bool) → ℕ
drained_answer bridge other receipt as_many =
    if receipt.finished == other
    then (if receipt.bridge.number == bridge.number
    then (if receipt.bridge.opening == bridge.opening then (if as_many then 0 else NOT_TAKEN) else WRONG_RECEIPT)
    else BRIDGE_MISMATCH)
    else WRONG_RECEIPT

-- a side took as many beats as the other side's receipt counts
abbrev pub client_took : PerChannel ℕ → (receipt : BeatTotals) → Bool
client_took n receipt = (n.b == receipt.b) && (n.d == receipt.d)

abbrev pub manager_took : PerChannel ℕ → (receipt : BeatTotals) → Bool
manager_took n receipt = (n.a == receipt.a) && ((n.c == receipt.c) && (n.e == receipt.e))

module _ {C M : ℕ} where
  abbrev pub TotalsOfClient : BeatTotals → ClientPast C M → Type 0
  TotalsOfClient t x = CountClient (per_channel t) x

  abbrev pub TotalsOfManager : BeatTotals → ManagerPast C M → Type 0
  TotalsOfManager t y = CountManager (per_channel t) y

  -- the numbers of a receipt are those of the beats that were taken
  abbrev pub ClientTook : (receipt : BeatTotals) → ClientPast C M → Type 0
  ClientTook receipt x = IsNumberOf receipt.b x.b × IsNumberOf receipt.d (answered x.history)

  abbrev pub ManagerTook : (receipt : BeatTotals) → ManagerPast C M → Type 0
  ManagerTook receipt y = IsNumberOf receipt.a (asked y.history) × IsNumberOf receipt.c y.c × IsNumberOf receipt.e y.e

-- a call that writes the numbers of the held side, which are those of each past that it represents. Nothing else changes
pub record Counts {S P : Type 0} (Holds : Option S → P → Type 0) (totals : S → BeatTotals) (AreOf : BeatTotals → P → Type 0) (before now : Option S)
    (unwritten written : BeatTotals) (answer : ℕ) : Type 0 where
  pub nothing : before ≡ None → (answer ≡ NOT_OPEN) × (written ≡ unwritten)
  pub counts : IfSome before (λ h. (answer ≡ 0) × (written ≡ totals h))
  pub exact : (x : P) → Holds before x → AreOf written x
  pub same : now ≡ before

-- a call that writes the receipt of the held side, if all channels that it sends are closed and nothing of them is staged. Nothing else changes
pub record GivesReceipt {S P : Type 0} (Holds : Option S → P → Type 0) (IsSentOut : S → Type 0) (totals : S → BeatTotals)
    (AreOf : BeatTotals → P → Type 0) (before now : Option S) (unwritten written : BeatTotals) (answer : ℕ) : Type 0 where
  pub nothing : before ≡ None → answer ≡ NOT_OPEN
  pub sent : IfSome before (λ h. (answer ≡ 0) ↔ IsSentOut h)
  pub not_sent : IfSome before (λ h. answer ≢ 0 → answer ≡ NOT_SENT)
  pub receipt : IfSome before (λ h. answer ≡ 0 → written ≡ totals h)
  pub exact : (x : P) → Holds before x → answer ≡ 0 → AreOf written x
  pub refused : answer ≢ 0 → written ≡ unwritten
  pub same : now ≡ before

-- a call that returns whether as many beats were taken from the held side as the receipt of the side `other` of its bridge
-- counts. Nothing changes
pub record Drains {S P : Type 0} (Holds : Option S → P → Type 0) (took_as_many : S → Bool) (Took : P → Type 0) (bridge : BridgeId) (other : ℕ)
    (receipt : BeatTotals) (before now : Option S) (answer : ℕ) : Type 0 where
  pub nothing : before ≡ None → answer ≡ NOT_OPEN
  pub drained : IfSome before (λ h. answer ≡ drained_answer bridge other receipt (took_as_many h))
  pub right : answer ≡ 0 → IsReceipt bridge other receipt
  pub taken : (x : P) → Holds before x → answer ≡ 0 → Took x
  pub same : now ≡ before
