use Rattle.std.proofs.Common.{◌≡◌, ◌<◌, sym, subst, arith, length}
use Rattle.std.specs.Prelude.{IfSome}
use Rattle.std.proofs.lemmas.Grind.{common_steps}
use Rattle.edi_unit.specs.Types.{field_type}
use Rattle.edi_unit.specs.TypeTables.{IsTypeTable}
use Rattle.edi_unit.proofs.Tables.{field_known}
use Rattle.edi_unit.proofs.types.TypeTable.field.Goals as goal

pub returns-in-Record-clause-known : goal.returns-in-Record-clause-known
returns-in-Record-clause-known c =
    let exact : c.copied.result ≡ field_type c.args.self.now c.args.t c.args.i = grind (arith, common_steps) in
    subst (λ o. IfSome o (λ f. f < length c.args.self.now)) (sym exact)
    (field_known c.args.self.now c.args.t c.args.i (subst IsTypeTable c.self.view_is c.self.invariant.1) c.requires.known)
