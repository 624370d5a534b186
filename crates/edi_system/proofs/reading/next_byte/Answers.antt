use Rattle.std.proofs.Common.{◌≡◌, ◌∙◌, ap, sym, arith, Some}
use Rattle.std.specs.Prelude.{◌/◌, ◌%◌, slice_index}
use Rattle.std.proofs.lemmas.Bool.{le-ltb, lt-ltb}
use Rattle.edi_catalog.proofs.Mounts.{told_same_blocks}
use Rattle.edi_system.specs.Reading.{byte_in}
use Rattle.edi_system.specs.declared.reading.Reading.{Reading}
use Rattle.edi_system.proofs.Loading.{loads_none, loads_some}
use Rattle.edi_system.proofs.Told.{told_back}
use Rattle.edi_system.proofs.Pages.{byte_none, byte_some}
use Rattle.edi_system.proofs.reading.next_byte.Goals as goal

pub returns-then-reading-clause-byte : goal.returns-then-reading-clause-byte
returns-then-reading-clause-byte g c =
    told_same_blocks _ _ _
    (λ blocks told. (
      told,
      sym (byte_none g.D.Drive.contents g.D.Drive.count c.args.catalog.now c.args.page.now c.args.reading.now blocks c.requires.mounted c.requires.reading
          c.if-reading.true told),
    ))

pub returns-in-Ok-clause-byte : goal.returns-in-Ok-clause-byte
returns-in-Ok-clause-byte g c =
    let title : c.load.new.reading.title ≡ c.args.reading.now.title = ap (λ (r : Reading). r.title) c.load.ensures.same in
    let position : c.load.new.reading.position ≡ c.args.reading.now.position = ap (λ (r : Reading). r.position) c.load.ensures.same in
    let length_ : c.load.new.reading.length ≡ c.args.reading.now.length = ap (λ (r : Reading). r.length) c.load.ensures.same in
    told_same_blocks _ _ _
    (λ blocks told. (
      told_back _ _ c.load.ensures.rests.blocks blocks told,
      sym (ap (λ t. byte_in blocks t c.args.reading.now.position) (sym title)
          ∙ ap (byte_in blocks c.load.new.reading.title) (sym position)
          ∙ byte_some g.D.Drive.contents g.D.Drive.count g.met.D.Drive.counted g.met.D.Drive.sized c.load.new.catalog c.load.new.page c.load.new.reading
          blocks c.in-Ok.ensures.mounted c.in-Ok.ensures.reading
          (omega (arith, c.if-reading.false, position, length_)) (c.in-Ok.ensures.loads.keeps ∙ ap (λ n. Some (n / 512)) (sym position)) told),
    ))

pub returns-then-reading-clause-there : goal.returns-then-reading-clause-there
returns-then-reading-clause-there g c = sym (le-ltb c.args.reading.now.position c.args.reading.now.length c.if-reading.true)

pub returns-in-Ok-clause-there : goal.returns-in-Ok-clause-there
returns-in-Ok-clause-there g c =
    sym (lt-ltb c.args.reading.now.position c.args.reading.now.length (omega (arith, c.if-reading.false)))

pub returns-then-reading-clause-loads : goal.returns-then-reading-clause-loads
returns-then-reading-clause-loads g c = loads_none c.args.reading.now c.args.page.now c.args.catalog.now c.if-reading.true

pub returns-in-Ok-clause-loads : goal.returns-in-Ok-clause-loads
returns-in-Ok-clause-loads g c =
    loads_some c.args.reading.now c.load.new.reading.kept c.args.page.now c.load.new.page c.args.catalog.now c.load.new.catalog
    (omega (arith, c.if-reading.false)) c.in-Ok.ensures.loads

pub returns-in-Ok-clause-on : goal.returns-in-Ok-clause-on
returns-in-Ok-clause-on g c =
    ap (λ n. slice_index c.load.new.page (n % 512)) (ap (λ (r : Reading). r.position) c.load.ensures.same)
