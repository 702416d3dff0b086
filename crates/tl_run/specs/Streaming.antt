-- The state of a run in one thread of a script that is read incrementally (this project's choice).
use Rattle.std.specs.Prelude.{◌≡◌, ℕ}
use Rattle.tl_settle.specs.Outcomes.{Beats}
use Rattle.tl_sides.specs.declared.per_channel.PerChannel.{PerChannel}
use Rattle.tl_sides.specs.Bridges.{Bridge, Past, StandsFor}
use Rattle.tl_trace.specs.declared.script.Script.{Script}
use Rattle.tl_parts.specs.Parts.{AreBetween}
use Rattle.tl_run.specs.Arrivals.{HaveRoom, no_beats}
use Rattle.tl_run.specs.Running.{IsRunning, IsUnderWay, all_under_way, as_counts, lengths}
use Rattle.tl_run.specs.declared.streaming.SyncRun.{SyncRun}

-- a bridge represents a past in which nothing is under way
pub record IsAtRest {C M : ℕ} (s : Bridge C M) : Type 0 where
  pub past : Past C M
  pub stands : StandsFor s past
  pub rest : all_under_way past ≡ 0

module _ {C M : ℕ} where
  -- on each channel, the beats that a run has accepted were discarded or are held by the script, and nothing is under
  -- way
  pub record CanRun (run : SyncRun C M) (held : Script C M) : Type 0 where
    pub within : AreBetween run.discarded (as_counts run.at) held
    pub rests : IsAtRest run.bridge

  -- a run of these near beats has not begun
  abbrev pub HasBegun : Beats C M → SyncRun C M → Type 0
  HasBegun near run = (run.taken ≡ lengths {C = C} {M = M} no_beats) × IsUnderWay near run.at no_beats run.bridge

  -- a run has accepted some of these near beats, and the far beats that it took are held by their destination
  abbrev pub HasRun : {F : Type 0} (Holds : F → Beats M C → Type 0) → Beats C M → F → SyncRun C M → Type 0
  HasRun Holds near far run = IsRunning Holds near run.at run.taken far run.bridge

  -- a sink has room for all far beats that these near beats can make due
  abbrev pub HasRoomForAll : {F : Type 0} (HasRoom : F → PerChannel ℕ → Type 0) → Beats C M → F → Type 0
  HasRoomForAll HasRoom near far = (room : PerChannel ℕ) × HaveRoom near room × HasRoom far room
