use Rattle.tl_trace.proofs.Names.{◌≡◌, ◌≤◌, ◌∙◌, ℕ, List, length, take, lit<, sym, take_all, IsScriptOf, Line, Script}
use Rattle.tl_trace.proofs.ReadBeats.{script_more, on_ok}
use Rattle.tl_trace.proofs.script.script_of.Goals as goal

-- at the end of the loop all lines were taken
whole : {C M : ℕ} (s : Script C M) (lines items : List Line) (i : ℕ) → items ≡ lines → length items ≤ i → IsScriptOf (take i lines) s
    → IsScriptOf lines s
whole s lines items i same past is = let long : length lines ≤ i = rw same at past in rw (take_all i lines long) at is

pub loop-line-preserved : goal.loop-line-preserved
loop-line-preserved g c =
    script_more c.deref-line-items.result.now c.args.trace.now.lines.items c.loop-line.line-index _ c.loop-line.script c.push_beat_of.new.script
    c.loop-line-test.true c.deref-line-items.ensures.value c.loop-line.invariant
    (on_ok c.push_beat_of.result c.push_beat_of.ensures.pushed (sym c.is_err.ensures.value ∙ c.if-is_err.false))

pub empty_script-script-requires : goal.empty_script-script-requires
empty_script-script-requires g c = lit< tt

pub returns : goal.returns
returns g c =
    whole c.loop-line.script c.args.trace.now.lines.items _ c.loop-line.line-index c.deref-line-items.ensures.value c.loop-line-test.false
    c.loop-line.invariant
