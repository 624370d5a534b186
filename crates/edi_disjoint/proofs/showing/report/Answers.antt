use Rattle.std.proofs.Common.{rules, ◌≡◌, ◌++◌, length, map, List, ap, subst, ◌∙◌, arith}
use Rattle.std.specs.Prelude.{[], filter, replicate}
use Rattle.edi_unit.specs.Tree.{ProgramUnit}
use Rattle.edi_unit.specs.View.{unit_of}
use Rattle.edi_disjoint.specs.Apart.{answer_of}
use Rattle.edi_disjoint.specs.Report.{Fork, begins_with, forks_from, forks_of, report_of}
use Rattle.edi_disjoint.specs.Shown.{all_filed, forks_here}
use Rattle.edi_disjoint.proofs.Deciding.{deciding, answer_exchanges}
use Rattle.edi_disjoint.proofs.Filing.{as_many_begun, read_here}
use Rattle.edi_disjoint.proofs.Ordered.{one_block_more}
use Rattle.edi_disjoint.proofs.showing.report.Goals as goal

pub loop-forks-preserved : goal.loop-forks-preserved
loop-forks-preserved c =
    let unit : ProgramUnit = unit_of c.args.unit.now in
    let all : List Fork = forks_of unit.blocks in
    let same : c.in_ok-begun.begun.items ≡ c.deref-forks-items.result.now = search rules in
    let filed : map forks_here c.deref-forks-items.result.now ≡ all_filed (replicate (length unit.blocks) []) all =
    subst (λ xs. map forks_here xs ≡ all_filed (replicate (length unit.blocks) []) all) same c.in_ok-begun.ensures.exact in
    let put : c.put_forks.new.text.items ≡ c.loop-forks.text.items ++ report_of (answer_of c.in_ok-found.found) (forks_here c.forks-item.result) = search rules in
    put
    ∙ ap (λ fs. c.loop-forks.text.items ++ report_of (answer_of c.in_ok-found.found) fs)
    (read_here c.deref-forks-items.result.now (length unit.blocks) all filed c.loop-forks.forks-index c.forks-item.result c.loop-forks-test.true c.forks-item.is)
    ∙ ap (λ t. t ++ report_of (answer_of c.in_ok-found.found) (filter (begins_with c.loop-forks.forks-index) all)) c.loop-forks.invariant
    ∙ one_block_more (answer_of c.in_ok-found.found) all c.loop-forks.forks-index

pub returns-clause-exact : goal.returns-clause-exact
returns-clause-exact c =
    let unit : ProgramUnit = unit_of c.args.unit.now in
    let all : List Fork = forks_of unit.blocks in
    let same : c.in_ok-begun.begun.items ≡ c.deref-forks-items.result.now = search rules in
    let many : length c.in_ok-begun.begun.items ≡ length unit.blocks = as_many_begun c.in_ok-begun.begun.items (length unit.blocks) all c.in_ok-begun.ensures.exact in
    let end : c.loop-forks.forks-index ≡ length unit.blocks = omega (arith, c.loop-forks-test.false, c.loop-forks.auto.forks-index-end, ap length same, many) in
    λ ok few. record {
      answer = answer_of c.in_ok-found.found;
      exact = deciding unit c.in_ok-found.found (c.in_ok-found.ensures.exact ok few);
      is = c.loop-forks.invariant ∙ ap (λ n. report_of (answer_of c.in_ok-found.found) (forks_from all 0 n)) end;
    }

pub returns-clause-exchange : goal.returns-clause-exchange
returns-clause-exchange c =
    let unit : ProgramUnit = unit_of c.args.unit.now in
    let all : List Fork = forks_of unit.blocks in
    let same : c.in_ok-begun.begun.items ≡ c.deref-forks-items.result.now = search rules in
    let many : length c.in_ok-begun.begun.items ≡ length unit.blocks = as_many_begun c.in_ok-begun.begun.items (length unit.blocks) all c.in_ok-begun.ensures.exact in
    let end : c.loop-forks.forks-index ≡ length unit.blocks = omega (arith, c.loop-forks-test.false, c.loop-forks.auto.forks-index-end, ap length same, many) in
    λ ok few. record {
      report = record {
        answer = answer_of c.in_ok-found.found;
        exact = deciding unit c.in_ok-found.found (c.in_ok-found.ensures.exact ok few);
        is = c.loop-forks.invariant ∙ ap (λ n. report_of (answer_of c.in_ok-found.found) (forks_from all 0 n)) end;
      };
      exchange = answer_exchanges unit c.in_ok-found.found (c.in_ok-found.ensures.exact ok few) ok;
    }
