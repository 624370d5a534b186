use Rattle.std.proofs.Common.{rules, ◌≡◌, ◌<◌, length}
use Rattle.std.specs.Prelude.{slice_index_or}
use Rattle.edi_disjoint.proofs.Filing.{put_at}
use Rattle.edi_disjoint.proofs.showing.file.Goals as goal

pub returns : goal.returns
returns c =
    let low : c.args.block < length c.args.begun.now.items = search rules in
    let there : slice_index_or c.args.begun.now.items c.args.block c.index_mut.result.now ≡ c.index_mut.result.now = search rules in
    record { exact = put_at c.args.begun.now.items c.args.block c.index_mut.result.now c.push.new.self c.args.fork low there c.in_ok-push.ensures.items }
