use Rattle.std.proofs.Common.{rules, ◌≡◌, ◌+◌, [], ◌∷◌, ◌++◌, length, sym, subst, ap, ◌∙◌, arith, length-append}
use Rattle.std.proofs.lemmas.List.{length-map}
use Rattle.std.specs.Prelude.{map}
use Rattle.edi_unit.specs.View.{block_of}
use Rattle.edi_code.specs.Stored.{AreVariables}
use Rattle.edi_code.proofs.Entries.{entry_many}
use Rattle.edi_code.proofs.Frames.{frame_roomy}
use Rattle.edi_code.proofs.StoredLoops.{variables_more}
use Rattle.edi_code.proofs.stored.all_variables.Goals as goal

pub overflow_cast-block-end : goal.overflow_cast-block-end
overflow_cast-block-end c =
    let blocks = map block_of c.args.blocks.now in
    omega (arith, c.requires.writable.room, length-map c.args.blocks.now block_of, entry_many c.args.types.now blocks (length blocks))

pub block_stored-requires-clause-frame : goal.block_stored-requires-clause-frame
block_stored-requires-clause-frame c =
    let blocks = map block_of c.args.blocks.now in
    let i = c.loop-block.block in
    frame_roomy c.args.types.now blocks i
    (c.requires.writable.frames i (omega (arith, length-map c.args.blocks.now block_of, c.loop-block-test.true)))

pub loop-block-preserved : goal.loop-block-preserved
loop-block-preserved c =
    let grown : c.push.new.self.items ≡ c.loop-block.rows.items ++ c.in_ok-row.row ∷ [] = search rules in
    let blocks = map block_of c.args.blocks.now in
    record {
      all = ap length grown ∙ omega (arith, length-append c.loop-block.rows.items (c.in_ok-row.row ∷ []), c.loop-block.invariant.all);
      known = subst (AreVariables c.args.types.now blocks) (sym grown)
          (variables_more c.args.types.now blocks c.loop-block.rows.items c.in_ok-row.row c.loop-block.block c.loop-block.invariant.known
          c.loop-block.invariant.all c.in_ok-row.ensures.exact);
    }
