use Rattle.std.proofs.Common.{◌∙◌, ap}
use Rattle.std.specs.Prelude.{length}
use Rattle.edi_image.specs.migrate.OldFiles.{is_old_fit}
use Rattle.edi_image.proofs.migrate.OldRules.{old_entry_fits}
use Rattle.edi_image.proofs.migrate.old.said_at.Goals as goal

pub returns-clause-fits : goal.returns-clause-fits
returns-clause-fits c =
    ap (is_old_fit (length c.args.blocks.now)) c.entry_says.ensures ∙ old_entry_fits (length c.args.blocks.now) c.split_at-2.result.0.now
