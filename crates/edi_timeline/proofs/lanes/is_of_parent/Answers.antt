use Rattle.std.proofs.Common.{◌∙◌, sym, ap}
use Rattle.edi_calls.specs.Names.{same}
use Rattle.edi_timeline.specs.Told.{process_in}
use Rattle.edi_timeline.proofs.Processes.{parent_first, parent_more}
use Rattle.edi_timeline.proofs.lanes.is_of_parent.Goals as goal

pub returns-then-other-eq0 : goal.returns-then-other-eq0
returns-then-other-eq0 c = record {
  exact =
      c.is_same.ensures.exact
      ∙ ap (same (process_in c.args.rows.now c.args.one.now)) (sym (parent_first c.args.rows.now c.args.other.now c.if-other-eq0.true));
}

pub returns : goal.returns
returns c = record {
  exact =
      c.is_same-2.ensures.exact
      ∙ ap (λ r. same (process_in c.args.rows.now c.args.one.now) (process_in c.args.rows.now r)) c.numbered.ensures.exact
      ∙ ap (same (process_in c.args.rows.now c.args.one.now))
      (sym (parent_more c.args.rows.now c.requires.rows.born c.args.other.now c.if-other-eq0.false));
}
