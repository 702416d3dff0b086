use Rattle.std.proofs.Common.{false, map, ap, ◌∙◌}
use Rattle.tl_settle.specs.Tables.{entry}
use Rattle.tl_settle.specs.Inner.Entries.{request_in}
use Rattle.tl_settle.proofs.Entries.{mapped_replicate}
use Rattle.tl_settle.proofs.tables.RequestTable.new.Goals as goal

pub returns : goal.returns
returns g c = λ s.
    ap (λ items. entry (map request_in items) s) (c.in_ok-entries.ensures.items_if_clones_equal (λ y same. same)) ∙
    mapped_replicate request_in 65536 s (record { «open» = false; size = 0; address = 0 })
