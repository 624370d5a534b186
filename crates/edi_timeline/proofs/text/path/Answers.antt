use Rattle.std.proofs.Common.{◌++◌, ◌∙◌, ◌-◌, ◌+◌, sym, ap, append-nil}
use Rattle.edi_timeline.specs.Told.{path_in}
use Rattle.edi_timeline.proofs.Naming.{path_ends, path_goes}
use Rattle.edi_timeline.proofs.text.path.Goals as goal

pub loop-level-preserved : goal.loop-level-preserved
loop-level-preserved c = record {
  path =
      ap (λ r. c.push.new.self.items ++ path_in c.args.rows.now (c.args.most - (c.loop-level._level + 1)) r) c.numbered-at.ensures.exact
      ∙ path_goes c.args.rows.now c.args.most c.loop-level._level c.loop-level.at c.loop-level.path.items c.push.new.self.items c.loop-level-test.true
      c.if-at-eq0.false c.in_ok-push.ensures.items
      ∙ c.loop-level.invariant.path;
}

pub returns-then-at-eq0 : goal.returns-then-at-eq0
returns-then-at-eq0 c = record {
  exact =
      sym (append-nil c.loop-level.path.items)
      ∙ ap (λ p. c.loop-level.path.items ++ p)
      (sym (path_ends c.args.rows.now (c.args.most - c.loop-level._level) c.loop-level.at c.if-at-eq0.true))
      ∙ c.loop-level.invariant.path;
}
