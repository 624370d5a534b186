use Rattle.std.proofs.Common.{◌≡◌, ◌∙◌, sym, ap, arith}
use Rattle.edi_calls.specs.Names.{same}
use Rattle.edi_timeline.specs.Told.{process_in, numbered}
use Rattle.edi_timeline.proofs.Processes.{first_same, same_first, other_fork, other_branch, further}
use Rattle.edi_timeline.proofs.lanes.is_same.Goals as goal
use Rattle.edi_timeline.proofs.lanes.is_same.Goals.{then-x-eq0-via-then-x-eq0, then-x-eq0-via-else-x-eq0+then-y-eq0, then-x-y-via-then-x-y, then-x-y-via-else-x-y+then-x-y-2}

pub returns-then-x-eq0 : goal.returns-then-x-eq0
returns-then-x-eq0 c =
    elim c.then-x-eq0.branch [
      | then-x-eq0-via-then-x-eq0 w ↦
          record { exact = sym (first_same c.args.rows.now c.requires.rows.born c.loop-level.x c.loop-level.y w.if-x-eq0.true) ∙ c.loop-level.invariant.same }
      | then-x-eq0-via-else-x-eq0+then-y-eq0 w ↦
          record { exact = sym (same_first c.args.rows.now c.requires.rows.born c.loop-level.x c.loop-level.y w.if-y-eq0.true) ∙ c.loop-level.invariant.same }
    ]

pub returns-then-x-y : goal.returns-then-x-y
returns-then-x-y c =
    elim c.then-x-y.branch [
      | then-x-y-via-then-x-y w ↦
          record {
            exact =
                other_fork c.args.rows.now c.requires.rows.born c.loop-level.x c.loop-level.y c.if-x-eq0.false c.if-y-eq0.false w.if-x-y.true
                ∙ c.loop-level.invariant.same;
          }
      | then-x-y-via-else-x-y+then-x-y-2 w ↦
          record {
            exact =
                other_branch c.args.rows.now c.requires.rows.born c.loop-level.x c.loop-level.y c.if-x-eq0.false c.if-y-eq0.false w.if-x-y-2.true
                ∙ c.loop-level.invariant.same;
          }
    ]

pub loop-level-preserved : goal.loop-level-preserved
loop-level-preserved c = record {
  same =
      ap (λ r. same (process_in c.args.rows.now r) (process_in c.args.rows.now c.numbered-y.result)) c.numbered-x.ensures.exact
      ∙ ap (λ r. same (process_in c.args.rows.now (numbered c.args.rows.now c.loop-level.x.born)) (process_in c.args.rows.now r)) c.numbered-y.ensures.exact
      ∙ further c.args.rows.now c.requires.rows.born c.loop-level.x c.loop-level.y c.if-x-eq0.false c.if-y-eq0.false c.if-x-y.false c.if-x-y-2.false
      ∙ c.loop-level.invariant.same;
  level =
      let e : c.numbered-x.result.born ≡ (numbered c.args.rows.now c.loop-level.x.born).born = ap (λ r. r.born) c.numbered-x.ensures.exact in
      omega (arith, e, c.requires.rows.born c.loop-level.x.born, c.if-x-eq0.false, c.loop-level.invariant.level);
}

pub returns : goal.returns
returns c = record {
  exact =
      sym (first_same c.args.rows.now c.requires.rows.born c.loop-level.x c.loop-level.y
      (omega (arith, c.loop-level-test.false, c.loop-level.invariant.level)))
      ∙ c.loop-level.invariant.same;
}
