use Rattle.std.proofs.Common.{◌≡◌, ◌+◌, ◌++◌, ◌∷◌, [], ◌∙◌, ap, rules, length, length-append, arith}
use Rattle.edi_catalog.proofs.Sequence.{checks_none, checks_then, checks_map}
use Rattle.edi_catalog.proofs.EntryBlocks.{kept_more, drive_is}
use Rattle.edi_catalog.proofs.KeptEntries.{whole_more}
use Rattle.edi_catalog.proofs.StillCached.{cached_more}
use Rattle.edi_catalog.proofs.entry_blocks.entry_blocks.Goals as goal

pub loop-i-init : goal.loop-i-init
loop-i-init g c = record {
  checks = checks_none _ _ _ _ _ c.requires.works (λ blocks. λ k h. absurd (omega arith));
  many = ap length c.new-entries.ensures.items;
  each = λ k h. absurd (omega arith);
  kept = λ k block h. absurd (omega arith);
}

pub loop-i-preserved : goal.loop-i-preserved
loop-i-preserved g c =
    let more : c.push.new.self.items ≡ c.loop-i.entries.items ++ c.in-Ok.bytes ∷ [] = search rules in
    record {
      checks =
          checks_then _ _ _ _ _ _ _ _ _ _
          (λ blocks p q. kept_more c.loop-i.entries.items c.push.new.self.items c.in-Ok.bytes blocks c.loop-i.i more c.loop-i.invariant.many p q)
          c.loop-i.invariant.checks c.in-Ok.ensures.checks;
      many =
          ap length more ∙ length-append c.loop-i.entries.items (c.in-Ok.bytes ∷ []) ∙ ap (λ n. n + 1) c.loop-i.invariant.many;
      each =
          whole_more c.loop-i.entries.items c.push.new.self.items c.in-Ok.bytes c.loop-i.i more c.loop-i.invariant.many (search rules) c.loop-i.invariant.each;
      kept =
          cached_more c.loop-i.entries.items c.push.new.self.items c.in-Ok.bytes c.loop-i.i c.loop-i.disk c.block.new.disk more c.loop-i.invariant.many
          c.in-Ok.ensures.gives.caches.there c.in-Ok.ensures.others c.loop-i.invariant.kept;
    }

pub returns-in-Err-clause-checks : goal.returns-in-Err-clause-checks
returns-in-Err-clause-checks g c =
    checks_then _ _ _ _ _ _ _ _ _ _ (λ blocks p q. tt) c.loop-i.invariant.checks c.in-Err.ensures.checks

pub returns-in-Err-clause-fault : goal.returns-in-Err-clause-fault
returns-in-Err-clause-fault g c = drive_is c.in-Err.fault c.in-Err.ensures.fault

pub returns-then-is_err-clause-checks : goal.returns-then-is_err-clause-checks
returns-then-is_err-clause-checks g c =
    checks_then _ _ _ _ _ _ _ _ _ _ (λ blocks p q. tt) c.loop-i.invariant.checks c.in-Ok.ensures.checks

pub returns-clause-checks : goal.returns-clause-checks
returns-clause-checks g c =
    checks_map _ _ _ _ _ _ _ _ (λ blocks p. λ k h. p k (omega (arith, h, c.loop-i-test.false))) c.loop-i.invariant.checks

pub returns-clause-whole : goal.returns-clause-whole
returns-clause-whole g c = record {
  many = omega (arith, c.loop-i.invariant.many, c.loop-i-test.false);
  each = λ k h. c.loop-i.invariant.each k (omega (arith, h, c.loop-i-test.false));
}

pub returns-clause-cached : goal.returns-clause-cached
returns-clause-cached g c = λ k block h e. c.loop-i.invariant.kept k block (omega (arith, h, c.loop-i-test.false)) e
