use Rattle.std.proofs.Common.{◌+◌, length, sym, subst, arith}
use Rattle.std.proofs.lemmas.List.{length-map}
use Rattle.std.specs.Prelude.{map}
use Rattle.edi_unit.specs.View.{block_of}
use Rattle.edi_code.specs.Emits.{Emits}
use Rattle.edi_code.proofs.Emitting.{emits_then}
use Rattle.edi_code.proofs.Entries.{entry_many, entry_next, entry_before, blocks_next}
use Rattle.edi_code.proofs.program.emit_blocks.Goals as goal

pub overflow_cast-block-end : goal.overflow_cast-block-end
overflow_cast-block-end c =
    let blocks = map block_of c.args.blocks.now in
    omega (arith, c.requires.writable.room, length-map c.args.blocks.now block_of, entry_many c.args.types.now blocks (length blocks))

pub emit_block-requires-clause-room : goal.emit_block-requires-clause-room
emit_block-requires-clause-room c =
    let types = c.args.types.now in
    let blocks = map block_of c.args.blocks.now in
    let i = c.loop-block.block in
    let all = length-map c.args.blocks.now block_of in
    omega (
      arith,
      c.requires.writable.room,
      entry_next types blocks i,
      entry_before types blocks (i + 1) (length blocks) (omega (arith, all, c.loop-block-test.true)),
    )

pub loop-block-preserved : goal.loop-block-preserved
loop-block-preserved c =
    let types = c.args.types.now in
    let blocks = map block_of c.args.blocks.now in
    subst (Emits c.args.out.now.items c.emit_block.new.out.items) (sym (blocks_next types blocks c.loop-block.block))
    (emits_then _ _ _ _ _ c.loop-block.invariant c.in_ok-emit_block.ensures.emits)
