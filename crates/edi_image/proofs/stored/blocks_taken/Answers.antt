use Rattle.std.proofs.Common.{arith}
use Rattle.edi_image.proofs.KeptFiles.{taken_more}
use Rattle.edi_image.proofs.stored.blocks_taken.Goals as goal

pub loop-file-preserved : goal.loop-file-preserved
loop-file-preserved c =
    let more = taken_more c.args.files.now c.loop-file.file-index c.file-item.result c.loop-file-test.true c.file-item.is in
    record { exact = cc; bound = omega arith }
