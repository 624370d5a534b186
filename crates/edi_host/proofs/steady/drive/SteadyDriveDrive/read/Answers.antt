use Rattle.std.proofs.Common.{◌≡◌, Some, ap, refl, rules, sym, ◌∙◌}
use Rattle.std.proofs.lemmas.Option.{slice_get_read}
use Rattle.edi_host.specs.declared.drive.DriveEnd.TheVariants as drive
use Rattle.edi_host.proofs.DriveBlocks.{told_read}
use Rattle.edi_host.proofs.steady.drive.SteadyDriveDrive.read.Goals as goal

pub returns-clause-tells : goal.returns-clause-tells
returns-clause-tells c =
    let copied : c.copy_from_slice.new.self ≡ c.index.result.now = search rules in
    told_read drive.Ok c.args.n _ c.args.self.now _ (search rules)
    (refl, slice_get_read c.args.self.now _ c.args.n c.index.result.now refl c.requires (search rules) ∙ ap Some (sym copied))
