use Rattle.std.proofs.Common.{rules, ◌≡◌, ℕ, [], ◌∷◌, length, ap, ◌∙◌, arith}
use Rattle.std.proofs.lemmas.List.{length-map}
use Rattle.edi_unit.specs.Lists.{list_items}
use Rattle.edi_unit.specs.Need.{block_at}
use Rattle.edi_target.specs.Op as instruction
use Rattle.edi_target.specs.Op.{Branch, branch_words}
use Rattle.edi_target.specs.Decode.{branches_of}
use Rattle.edi_code.specs.Scope.{blocks_in, entry_in}
use Rattle.edi_code.specs.InScope.{branches_in}
use Rattle.edi_code.proofs.Cobegins.{cobegin_whole, frames_true, branches_again}
use Rattle.edi_code.proofs.Emitting.{stated}
use Rattle.edi_code.proofs.statements.emit_cobegin.Goals as goal

pub put-requires : goal.put-requires
put-requires c =
    let scope = c.args.scope.now in
    let numbers = list_items c.args.branches.now in
    let f : ℕ → Branch = λ n. record { need = (block_at (blocks_in scope) n).need; address = entry_in scope n } in
    let same : length (branches_in scope numbers) ≡ length numbers = length-map numbers f in
    let frames = frames_true f numbers (length (blocks_in scope)) (λ n l. let fits = c.requires.scope.frames n l in
    omega (arith, fits.roomy)) c.requires.writable.1 in
    let words : c.deref.result.now ≡ branch_words (branches_in scope numbers) = search rules in
    record {
      allowed = cobegin_whole (branches_in scope numbers) c.deref.result.now words (omega (arith, same, c.requires.writable.0.0))
          (omega (arith, same, c.requires.writable.0.1)) frames;
    }

pub returns : goal.returns
returns c =
    let scope = c.args.scope.now in
    let numbers = list_items c.args.branches.now in
    let words : c.deref.result.now ≡ branch_words (branches_in scope numbers) = search rules in
    record {
      emits =
          stated c.put.result _ _ _ _ (ap (λ l. instruction.cobegin c.args.line l ∷ []) (ap branches_of words ∙ branches_again (branches_in scope numbers)))
          c.put.ensures.emits;
    }
