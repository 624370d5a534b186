use Rattle.std.proofs.Common.{◌+◌, ◌++◌, [], ◌∷◌, refl, sym, ap}
use Rattle.edi_unit.specs.View.{block_of}
use Rattle.edi_scheme.specs.Pieces as pieces
use Rattle.edi_code.specs.InScope.{acts_code}
use Rattle.edi_code.specs.Scope.{types_in}
use Rattle.edi_code.proofs.Emitting.{two}
use Rattle.edi_code.proofs.program.emit_procedure.Goals as goal

pub returns : goal.returns
returns c =
    let s = c.args.scope.now in
    let block = block_of c.args.block.now in
    record {
      emits =
          two c.put-2.result _ _ _ _ _ _ _ c.in_ok-put.ensures.emits
          (two c.put-2.result _ _ _ _ _ _ _ c.in_ok-emit_acts.ensures.emits c.put-2.ensures.emits c.return_of.ensures.exact refl) refl
          (ap (λ l. l ++ (acts_code s (c.args.at + 6) block.body ++ pieces.return_of (types_in s) block ∷ [])) (sym c.entry_of.ensures.exact));
    }
