-- A beat that begins no response other than ReleaseAck changes no table.
use Rattle.std.proofs.Common.{◌≡◌, Bool, true, false, Option, List, refl}
use Rattle.tl_settle.proofs.Names.{HeadD, is_release_ack, Mark, Answers}
use Rattle.tl_settle.specs.declared.tables.Request.{Request}
use Rattle.tl_settle.specs.Tables.{AreBusy, AreOpen}
use Rattle.tl_settle.specs.Inner.Noting.{begun_with}
use Rattle.tl_settle.proofs.Entries.{acknowledged_busy, acknowledged_open}

pub kept_busy : (first : Bool) (t : List Bool) (ms : List Mark) (h : HeadD) → (first ≡ true → is_release_ack h ≡ true) → AreBusy t ms →
    AreBusy t (begun_with first (Answers h) ms)
kept_busy true t ms h ack b = acknowledged_busy t ms h (ack refl) b
kept_busy false t ms h ack b = b

pub kept_open : (first : Bool) (t : List (Option Request)) (ms : List Mark) (h : HeadD) → (first ≡ true → is_release_ack h ≡ true) → AreOpen t ms →
    AreOpen t (begun_with first (Answers h) ms)
kept_open true t ms h ack b = acknowledged_open t ms h (ack refl) b
kept_open false t ms h ack b = b
