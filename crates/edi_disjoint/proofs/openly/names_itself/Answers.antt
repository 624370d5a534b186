use Rattle.std.proofs.Common.{rules, ◌≡◌, sym, subst}
use Rattle.std.specs.Bool.{Decides}
use Rattle.edi_unit.specs.View.{unit_of}
use Rattle.edi_disjoint.specs.Apart.{any_names}
use Rattle.edi_disjoint.specs.Footprints.{NamesProgram}
use Rattle.edi_disjoint.proofs.Enclosing.{naming_decides}
use Rattle.edi_disjoint.proofs.openly.names_itself.Goals as goal

pub returns : goal.returns
returns c =
    let named : c.names_program.result ≡ any_names (unit_of c.args.unit.now).program c.in_ok-texts.texts.items = search rules in
    record { exact = subst (λ b. Decides b (NamesProgram (unit_of c.args.unit.now))) (sym named) (naming_decides (unit_of c.args.unit.now) c.in_ok-texts.texts.items c.in_ok-texts.ensures.exact) }
