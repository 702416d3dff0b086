-- The state of a consumer that keeps all beats of a trace. Only private contracts use these words.
use Rattle.std.specs.Prelude.{◌≡◌, ℕ}
use Rattle.tl_trace.specs.Scripts.{Discarded, none_gone}
use Rattle.tl_trace.specs.declared.script.Script.{Script}
use Rattle.tl_trace.specs.declared.script.Counts.{Counts}
use Rattle.tl_stream.specs.declared.keep_all.KeepAll.{KeepAll}

abbrev pub Keeps : {C M : ℕ} → (version : ℕ) → KeepAll → Discarded C M → Script C M → Type 0
Keeps version keeper discarded s = discarded ≡ none_gone

-- every beat that the script holds is kept
abbrev pub KeepsEach : {C M : ℕ} → (before after : KeepAll) → Script C M → Counts → Type 0
KeepsEach before after s counts = counts ≡ record { a = 0; b = 0; c = 0; d = 0; e = 0 }
