use Rattle.std.proofs.Common.{◌≡◌, ◌+◌, length, arith}
use Rattle.std.specs.Prelude.{map}
use Rattle.edi_unit.specs.View.{block_of}
use Rattle.edi_scheme.specs.Lengths.{block_length}
use Rattle.edi_code.proofs.Entries.{entry_many, entry_next, entry_before}
use Rattle.edi_code.proofs.program.block_entries.Goals as goal

pub overflow_cast-block-end : goal.overflow_cast-block-end
overflow_cast-block-end c =
    omega (arith, c.requires.room, entry_many c.args.types.now (map block_of c.args.blocks.now) (length c.args.blocks.now))

pub block_words-here-requires-clause-small : goal.block_words-here-requires-clause-small
block_words-here-requires-clause-small c =
    let types = c.args.types.now in
    let blocks = map block_of c.args.blocks.now in
    let i = c.loop-block.block in
    omega (
      arith,
      c.requires.room,
      entry_next types blocks i,
      entry_before types blocks (i + 1) (length c.args.blocks.now)
          (omega (arith, c.loop-block-test.true)),
    )

pub overflow_add-here : goal.overflow_add-here
overflow_add-here c =
    let types = c.args.types.now in
    let blocks = map block_of c.args.blocks.now in
    let i = c.loop-block.block in
    let words : c.block_words-here.result ≡ block_length types blocks i = c.block_words-here.ensures.exact in
    omega (
      arith,
      c.requires.room,
      c.loop-block.invariant.here,
      words,
      entry_next types blocks i,
      entry_before types blocks (i + 1) (length c.args.blocks.now)
          (omega (arith, c.loop-block-test.true)),
    )
