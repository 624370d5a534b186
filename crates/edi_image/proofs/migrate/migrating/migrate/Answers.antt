use Rattle.std.proofs.Common.{◌≤◌, sym, subst, arith}
use Rattle.std.specs.Prelude.{length}
use Rattle.edi_host.specs.BytesAsBlocks.{blocks_of}
use Rattle.edi_image.specs.migrate.Migrated.{MigrateLeaves}
use Rattle.edi_image.proofs.Told.{told_then, told_same}
use Rattle.edi_image.proofs.migrate.Migrations.{refuses_leaves, refuses_touches, refusal_told, room_told, image_fits, migration_leaves}
use Rattle.edi_image.proofs.migrate.migrating.migrate.Goals as goal

pub returns-in-Err-clause-leaves : goal.returns-in-Err-clause-leaves
returns-in-Err-clause-leaves g c =
    told_same (g.D.Drive.contents c.args.drive.now) (MigrateLeaves c.in-Err.end c.args.blocks (blocks_of c.args.old.now))
    (λ before. refuses_leaves c.in-Err.end c.args.blocks (blocks_of c.args.old.now) before c.in-Err.ensures.0)

pub returns-in-Err-clause-answers : goal.returns-in-Err-clause-answers
returns-in-Err-clause-answers g c =
    refusal_told c.in-Err.end c.args.old.now c.as_chunks.result.0.now c.args.blocks c.as_chunks.ensures.front c.in-Err.ensures.0
    c.in-Err.ensures.1 c.in-Err.ensures.2

pub returns-in-Err-clause-untouched : goal.returns-in-Err-clause-untouched
returns-in-Err-clause-untouched g c = refuses_touches c.in-Err.end c.args.drive.now

pub returns-in-Ok-write_blocks-clause-answers : goal.returns-in-Ok-write_blocks-clause-answers
returns-in-Ok-write_blocks-clause-answers g c =
    room_told c.args.old.now c.as_chunks.result.0.now c.args.blocks c.as_chunks.ensures.front c.in-Ok.ensures.2 c.in-Ok.ensures.0

pub returns-in-Ok-resize-clause-answers : goal.returns-in-Ok-resize-clause-answers
returns-in-Ok-resize-clause-answers g c =
    room_told c.args.old.now c.as_chunks.result.0.now c.args.blocks c.as_chunks.ensures.front c.in-Ok.ensures.2 c.in-Ok.ensures.0

pub returns-in-Failed-clause-answers : goal.returns-in-Failed-clause-answers
returns-in-Failed-clause-answers g c =
    room_told c.args.old.now c.as_chunks.result.0.now c.args.blocks c.as_chunks.ensures.front c.in-Ok.ensures.2 c.in-Ok.ensures.0

pub write_blocks-requires-clause-room : goal.write_blocks-requires-clause-room
write_blocks-requires-clause-room g c =
    let fits : length c.as_chunks-2.result.0.now ≤ c.args.blocks =
    image_fits c.args.old.now c.as_chunks.result.0.now c.as_chunks-2.result.0.now c.args.blocks c.in-Ok.bytes.items c.as_slice.result.now
    c.as_chunks.ensures.front c.in-Ok.ensures.0 c.in-Ok.ensures.1 c.in-Ok.ensures.2 c.as_slice.ensures.value c.as_chunks-2.ensures.front in
    subst (λ n. length c.as_chunks-2.result.0.now ≤ n) (sym c.in-Ok-resize.ensures.count) fits

pub write_blocks-requires-clause-most : goal.write_blocks-requires-clause-most
write_blocks-requires-clause-most g c =
    let fits : length c.as_chunks-2.result.0.now ≤ c.args.blocks =
    image_fits c.args.old.now c.as_chunks.result.0.now c.as_chunks-2.result.0.now c.args.blocks c.in-Ok.bytes.items c.as_slice.result.now
    c.as_chunks.ensures.front c.in-Ok.ensures.0 c.in-Ok.ensures.1 c.in-Ok.ensures.2 c.as_slice.ensures.value c.as_chunks-2.ensures.front in
    omega (arith, fits, c.requires.most)

pub returns-in-Ok-write_blocks-clause-leaves : goal.returns-in-Ok-write_blocks-clause-leaves
returns-in-Ok-write_blocks-clause-leaves g c =
    told_then _ _ _ _ _ _
    (λ before between after resized written.
    migration_leaves c.args.old.now c.as_chunks.result.0.now c.as_chunks-2.result.0.now c.args.blocks c.in-Ok.bytes.items c.as_slice.result.now
    before between after c.as_chunks.ensures.front c.in-Ok.ensures.0 c.in-Ok.ensures.1 c.in-Ok.ensures.2 c.as_slice.ensures.value
    c.as_chunks-2.ensures.front c.requires.least c.requires.most resized written)
    c.in-Ok-resize.ensures.leaves c.in-Ok-write_blocks.ensures.leaves
