use Rattle.std.proofs.Common.{◌∙◌, refl, rules, subst}
use Rattle.edi_catalog.specs.Reads.{GivesBlocks}
use Rattle.edi_catalog.proofs.ReadBlocks.{gives_more, gives_none}
use Rattle.edi_catalog.proofs.Sequence.{checks_none, checks_then}
use Rattle.edi_catalog.proofs.WholeFiles.{pages_more}
use Rattle.edi_catalog.proofs.reading.read_pages.Goals as goal

pub returns-in-Err-clause-checks : goal.returns-in-Err-clause-checks
returns-in-Err-clause-checks g c =
    checks_then _ _ _ _ _ _ _ _ _ _ (λ blocks p q. tt) c.loop-i.invariant.checks c.in-Err.ensures.checks

pub loop-i-init : goal.loop-i-init
loop-i-init g c = record {
  checks = checks_none _ _ _ _ _ c.requires.works (λ blocks. refl);
  gives = gives_none c.args.pages.now c.args.into.now c.args.disk.now;
  many = refl;
}

pub loop-i-preserved : goal.loop-i-preserved
loop-i-preserved g c = record {
  checks =
      checks_then _ _ _ _ _ _ _ _ _ _
      (λ blocks p q. pages_more blocks c.args.pages.now c.loop-i.i c.loop-i.into c.read_page_at.new.into c.loop-i-test.true p q)
      c.loop-i.invariant.checks c.in-Ok.ensures.checks;
  gives =
      gives_more c.args.pages.now c.loop-i.i _ c.loop-i.into c.read_page_at.new.into c.args.disk.now c.loop-i.disk c.read_page_at.new.disk
      c.requires.different c.loop-i-test.true refl c.in-Ok.ensures.front c.in-Ok.ensures.others c.loop-i.invariant.gives c.in-Ok.ensures.gives;
  many = c.in-Ok.ensures.many ∙ c.loop-i.invariant.many;
}

pub returns-clause-gives : goal.returns-clause-gives
returns-clause-gives g c =
    subst (λ n. GivesBlocks c.args.pages.now n c.loop-i.into c.args.disk.now c.loop-i.disk)
    (search rules) c.loop-i.invariant.gives
