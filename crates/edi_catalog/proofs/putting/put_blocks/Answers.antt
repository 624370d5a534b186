use Rattle.std.proofs.Common.{◌+◌, Some, arith, sym, subst, refl}
use Rattle.std.specs.Prelude.{length}
use Rattle.edi_disk.specs.declared.disk.DiskEnd.TheVariants as disk
use Rattle.edi_disk.specs.Shown.{drive_of}
use Rattle.edi_catalog.specs.Plan.{content_of, used_in}
use Rattle.edi_catalog.specs.Putting.{MayBePut, PutsBlocks}
use Rattle.edi_catalog.proofs.PutBlocks.{puts_none, puts_more}
use Rattle.edi_catalog.proofs.FileShape.{index_within, all_within}
use Rattle.edi_catalog.proofs.putting.put_blocks.Goals as goal

pub loop-i-init : goal.loop-i-init
loop-i-init g c = puts_none g.D.Drive.contents g.D.Drive.count g.D.Drive.faults _ _ c.args.disk.now c.requires.works

pub put_block-requires-clause-file : goal.put_block-requires-clause-file
put_block-requires-clause-file g c = subst (λ n. MayBePut n c.args.file.now c.args.bytes.now) (sym c.loop-i.invariant.count_stays) c.requires.file

pub put_block-requires-clause-within : goal.put_block-requires-clause-within
put_block-requires-clause-within g c =
    index_within (g.D.Drive.count (drive_of c.args.disk.now)) c.args.file.now (length c.args.bytes.now) c.blocks_of-i-end.result c.loop-i.i
    c.requires.file.stored c.requires.file.size c.blocks_of-i-end.ensures.exact c.loop-i-test.true

pub returns-in-Fault : goal.returns-in-Fault
returns-in-Fault g c = record {
  puts = puts_more g.D.Drive.contents g.D.Drive.count g.D.Drive.faults disk.Fault _ _ c.loop-i.i c.args.disk.now c.loop-i.disk c.put_block.new.disk
      c.requires.file.different (index_within (g.D.Drive.count (drive_of c.args.disk.now)) c.args.file.now (length c.args.bytes.now) c.blocks_of-i-end.result c.loop-i.i
      c.requires.file.stored c.requires.file.size c.blocks_of-i-end.ensures.exact c.loop-i-test.true) c.loop-i.invariant c.in-Fault.ensures.puts _ (λ e. absurd (cc));
}

pub loop-i-preserved : goal.loop-i-preserved
loop-i-preserved g c =
    puts_more g.D.Drive.contents g.D.Drive.count g.D.Drive.faults disk.Ok _ _ c.loop-i.i c.args.disk.now c.loop-i.disk c.put_block.new.disk
    c.requires.file.different (index_within (g.D.Drive.count (drive_of c.args.disk.now)) c.args.file.now (length c.args.bytes.now) c.blocks_of-i-end.result c.loop-i.i
    c.requires.file.stored c.requires.file.size c.blocks_of-i-end.ensures.exact c.loop-i-test.true) c.loop-i.invariant c.in-Ok.ensures.puts (c.loop-i.i + 1) (λ e. refl)

pub returns : goal.returns
returns g c = record {
  puts = subst
      (λ n. PutsBlocks g.D.Drive.contents g.D.Drive.count g.D.Drive.faults disk.Ok (used_in (Some c.args.file.now))
      (content_of c.args.file.now c.args.bytes.now) n
      c.args.disk.now c.loop-i.disk)
      (sym (all_within (g.D.Drive.count (drive_of c.args.disk.now)) c.args.file.now (length c.args.bytes.now) c.blocks_of-i-end.result c.loop-i.i
      c.requires.file.stored c.requires.file.size c.blocks_of-i-end.ensures.exact c.loop-i-test.false (omega arith)))
      c.loop-i.invariant;
}
