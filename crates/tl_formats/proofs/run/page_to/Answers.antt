use Rattle.tl_formats.proofs.Pages.{written}
use Rattle.tl_formats.proofs.run.page_to.Goals as goal

pub returns-clause-ok : goal.returns-clause-ok
returns-clause-ok g c =
    written c.args.text.now _ _ _ _ _ (_, c.in_ok-scene.ensures.ok) c.in_ok-scene.ensures.out c.in_ok-write_all.ensures.all
