use Rattle.std.proofs.Common.{◌≤◌, ◌*◌, ◌/◌, length, ap, arith, rules, ◌∙◌}
use Rattle.std.specs.List.{list_all}
use Rattle.edi_host.specs.Blocks.{is_block}
use Rattle.edi_host.proofs.DriveBlocks.{chunks_are_blocks}
use Rattle.edi_host.proofs.steady.drive.SteadyDrive.new.Goals as goal

pub invariant_of-result : goal.invariant_of-result
invariant_of-result c =
    let within : 512 * (length c.args.bytes.now / 512) ≤ length c.args.bytes.now = omega arith in (
      search rules,
      ap (list_all is_block) (c.in_ok-from_slice.ensures.items ∙ c.as_chunks.ensures.front) ∙ chunks_are_blocks (length c.args.bytes.now / 512)
          c.args.bytes.now within,
    )
