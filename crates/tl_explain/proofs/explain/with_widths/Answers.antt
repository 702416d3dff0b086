use Rattle.std.proofs.Common.{lit<}
use Rattle.tl_stream.proofs.ToRead.{widths_named}
use Rattle.tl_explain.proofs.explain.with_widths.Goals as goal

pub begin-requires : goal.begin-requires
begin-requires g c =
    let widths = widths_named c.args.text.now _ _ _ c.requires.0 in
    (lit< tt, (widths.0, widths.1, c.requires.1, c.in_ok-script.ensures.told))

pub tell_all-requires : goal.tell_all-requires
tell_all-requires g c =
    let widths = widths_named c.args.text.now _ _ _ c.requires.0 in
    (lit< tt, (widths.0, widths.1))
