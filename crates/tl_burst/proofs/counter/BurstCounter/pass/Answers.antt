use Rattle.tl_burst.proofs.Names.{◌≡◌, ◌-◌, sym, ap, ◌∙◌, beats_per_message, left, beats_of}
use Rattle.tl_burst.proofs.BegunMessages.{left-begins, left-goes}
use Rattle.tl_burst.proofs.counter.BurstCounter.pass.Goals.{then-self-eq0, else-self-eq0}
use Rattle.tl_burst.proofs.counter.BurstCounter.pass.Goals as goal

pub returns : goal.returns
returns g c = λ bs b stands same.
    let old : c.self.inside.left ≡ left g.K.Channel.rules g.row.W bs = c.self.view_is ∙ stands in
    elim c.if-self-eq0.branch [
      | then-self-eq0 w ↦ (let count = w.beats-self-inside.ensures ∙
          ap (λ carries. beats_per_message carries w.size.result g.row.W) w.carries_data.ensures ∙
          ap (λ size. beats_per_message (g.K.Channel.rules.carries c.args.head.now) size g.row.W) w.size.ensures ∙
          ap (λ h. beats_of g.K.Channel.rules h g.row.W) (sym same) in
          ap (λ s. s.left - 1) w.self-inside-is ∙ ap (λ n. n - 1) count ∙
          sym (left-begins g.K.Channel.rules g.row.W bs b (sym old ∙ w.if-self-eq0.true)))
      | else-self-eq0 w ↦ ap (λ s. s.left - 1) w.self-inside-is ∙ ap (λ n. n - 1) old ∙
          sym (left-goes g.K.Channel.rules g.row.W bs b (λ none. w.if-self-eq0.false (old ∙ none)))
    ]
