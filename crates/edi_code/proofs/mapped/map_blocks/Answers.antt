use Rattle.std.proofs.Common.{rules, ◌≡◌, ◌+◌, List, [], ◌∷◌, ◌++◌, length, Some, slice_get, sym, subst, ap, ◌∙◌, arith, length-append}
use Rattle.std.proofs.lemmas.List.{length-map}
use Rattle.std.specs.Prelude.{map}
use Rattle.edi_unit.specs.View.{block_of}
use Rattle.edi_code.specs.Mapped.{IsMappedBlock}
use Rattle.edi_code.specs.declared.mapped.MappedBlock.{MappedBlock}
use Rattle.edi_code.proofs.Entries.{entry_many, entry_next, entry_before}
use Rattle.edi_code.proofs.StoredLoops.{each_more, no_fields, no_variables}
use Rattle.edi_code.proofs.mapped.map_blocks.Goals as goal

pub overflow_cast-block-end : goal.overflow_cast-block-end
overflow_cast-block-end c =
    let blocks = map block_of c.args.blocks.now in
    omega (arith, c.requires.writable.room, length-map c.args.blocks.now block_of, entry_many c.args.types.now blocks (length blocks))

pub mapped_block-requires-clause-scope : goal.mapped_block-requires-clause-scope
mapped_block-requires-clause-scope c = record {
  shapes = c.requires.writable.shapes;
  frames = c.requires.writable.frames;
  entries = c.requires.entries;
  variables = no_variables c.args.types.now (map block_of c.args.blocks.now);
  fields = no_fields c.args.types.now;
}

pub mapped_block-requires-clause-room : goal.mapped_block-requires-clause-room
mapped_block-requires-clause-room c =
    let types = c.args.types.now in
    let blocks = map block_of c.args.blocks.now in
    let i = c.loop-block.block in
    let all = length-map c.args.blocks.now block_of in
    omega (
      arith,
      c.requires.writable.room,
      entry_next types blocks i,
      entry_before types blocks (i + 1) (length blocks) (omega (arith, all, c.loop-block-test.true)),
    )

pub loop-block-preserved : goal.loop-block-preserved
loop-block-preserved c =
    let grown : c.push.new.self.items ≡ c.loop-block.mapped.items ++ c.in_ok-one.one ∷ [] = search rules in
    let P = IsMappedBlock c.args.types.now (map block_of c.args.blocks.now) in
    record {
      all = ap length grown ∙ omega (arith, length-append c.loop-block.mapped.items (c.in_ok-one.one ∷ []), c.loop-block.invariant.all);
      each = λ b x e.
          each_more P c.loop-block.mapped.items c.in_ok-one.one c.loop-block.invariant.each
          (subst (λ n. P n c.in_ok-one.one) (sym c.loop-block.invariant.all) c.in_ok-one.ensures.exact) b x
          (subst (λ l. slice_get l b ≡ Some x) grown e);
    }
