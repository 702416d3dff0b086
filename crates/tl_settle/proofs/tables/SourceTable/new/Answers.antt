use Rattle.std.proofs.Common.{false, ap, ◌∙◌}
use Rattle.tl_settle.specs.Tables.{is_busy}
use Rattle.tl_settle.proofs.Entries.{replicate_any}
use Rattle.tl_settle.proofs.tables.SourceTable.new.Goals as goal

pub returns : goal.returns
returns g c = λ s. ap (λ items. is_busy items s) (c.in_ok-busy.ensures.items_if_clones_equal (λ y same. same)) ∙ replicate_any 65536 s false
