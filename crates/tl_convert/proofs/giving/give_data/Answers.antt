use Rattle.tl_convert.proofs.Names.{◌≡◌, ◌≤◌, ◌<◌, sym, ap, subst, ◌∙◌, arith, BeatOf, bytes_per_beat, per_beat, IsBlank}
use Rattle.tl_convert.proofs.giving.give_data.Goals.{then-index-eq0, else-index-eq0}
use Rattle.tl_convert.proofs.PourStep.{same-small}
use Rattle.tl_convert.proofs.GiveStep.{give-all}
use Rattle.tl_convert.proofs.giving.give_data.Goals as goal

pub size-size-requires : goal.size-size-requires
size-size-requires g c κs = λ p. p

pub beat_bytes-near-requires-clause-small : goal.beat_bytes-near-requires-clause-small
beat_bytes-near-requires-clause-small g c = same-small c.size-size.result (g.K.Channel.rules.size c.args.beat.now.head) c.size-size.ensures
    c.requires.small

pub beat_bytes-requires-clause-small : goal.beat_bytes-requires-clause-small
beat_bytes-requires-clause-small g c = same-small c.size-size.result (g.K.Channel.rules.size c.args.beat.now.head) c.size-size.ensures
    c.requires.small

pub beat_bytes-near-requires-clause-width : goal.beat_bytes-near-requires-clause-width
beat_bytes-near-requires-clause-width g c = c.requires.near

pub beat_bytes-requires-clause-width : goal.beat_bytes-requires-clause-width
beat_bytes-requires-clause-width g c = c.requires.far

pub returns-then-beat_bytes-near : goal.returns-then-beat_bytes-near
returns-then-beat_bytes-near g c = λ carried bs run.
    let near : c.beat_bytes-near.result ≡ per_beat g.K.Channel.rules c.args.beat.now.head g.row.W = c.beat_bytes-near.ensures ∙
    ap (λ z. bytes_per_beat z g.row.W) c.size-size.ensures in
    let far : c.beat_bytes.result ≡ per_beat g.K.Channel.rules c.args.beat.now.head g.row.V = c.beat_bytes.ensures ∙
    ap (λ z. bytes_per_beat z g.row.V) c.size-size.ensures in
    let fits : per_beat g.K.Channel.rules c.args.beat.now.head g.row.V ≤ per_beat g.K.Channel.rules c.args.beat.now.head g.row.W =
    omega (arith, near, far, c.if-beat_bytes-near.true) in
    elim c.if-index-eq0.branch [
      | then-index-eq0 w ↦ give-all g.K.Channel.rules g.row.W g.row.V c.args.home c.requires.near c.requires.far c.args.beat.now carried bs
          c.args.index c.first_byte-first.result c.args.partial.now c.if-index-eq0.partial c.if-index-eq0.partial c.pour_whole.new.out.items run
          c.first_byte-first.ensures.is
          (λ z. subst (λ (f : BeatOf g.row.K-Head.Denot g.row.V). IsBlank c.args.beat.now.head f) (sym w.partial-is) w.blank.ensures)
          (λ ne. absurd (ne w.if-index-eq0.true)) (λ m s p. c.pour_whole.ensures fits m s p)
      | else-index-eq0 w ↦ give-all g.K.Channel.rules g.row.W g.row.V c.args.home c.requires.near c.requires.far c.args.beat.now carried bs
          c.args.index c.first_byte-first.result c.args.partial.now c.if-index-eq0.partial c.if-index-eq0.partial c.pour_whole.new.out.items run
          c.first_byte-first.ensures.is
          (λ z. absurd (w.if-index-eq0.false z)) (λ ne. w.partial-is) (λ m s p. c.pour_whole.ensures fits m s p)
    ]

pub returns-else-beat_bytes-near : goal.returns-else-beat_bytes-near
returns-else-beat_bytes-near g c = λ carried bs run.
    let near : c.beat_bytes-near.result ≡ per_beat g.K.Channel.rules c.args.beat.now.head g.row.W = c.beat_bytes-near.ensures ∙
    ap (λ z. bytes_per_beat z g.row.W) c.size-size.ensures in
    let far : c.beat_bytes.result ≡ per_beat g.K.Channel.rules c.args.beat.now.head g.row.V = c.beat_bytes.ensures ∙
    ap (λ z. bytes_per_beat z g.row.V) c.size-size.ensures in
    let less : per_beat g.K.Channel.rules c.args.beat.now.head g.row.W < per_beat g.K.Channel.rules c.args.beat.now.head g.row.V =
    omega (arith, near, far, c.if-beat_bytes-near.false) in
    elim c.if-index-eq0.branch [
      | then-index-eq0 w ↦ give-all g.K.Channel.rules g.row.W g.row.V c.args.home c.requires.near c.requires.far c.args.beat.now carried bs
          c.args.index c.first_byte-first.result c.args.partial.now c.if-index-eq0.partial c.pour_part.new.partial c.pour_part.new.out.items run
          c.first_byte-first.ensures.is
          (λ z. subst (λ (f : BeatOf g.row.K-Head.Denot g.row.V). IsBlank c.args.beat.now.head f) (sym w.partial-is) w.blank.ensures)
          (λ ne. absurd (ne w.if-index-eq0.true)) (λ m s p. c.pour_part.ensures less m s p)
      | else-index-eq0 w ↦ give-all g.K.Channel.rules g.row.W g.row.V c.args.home c.requires.near c.requires.far c.args.beat.now carried bs
          c.args.index c.first_byte-first.result c.args.partial.now c.if-index-eq0.partial c.pour_part.new.partial c.pour_part.new.out.items run
          c.first_byte-first.ensures.is
          (λ z. absurd (w.if-index-eq0.false z)) (λ ne. w.partial-is) (λ m s p. c.pour_part.ensures less m s p)
    ]
