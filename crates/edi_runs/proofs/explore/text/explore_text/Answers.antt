use Rattle.std.proofs.Common.{suc, ◌≤◌, map, subst, sym, arith}
use Rattle.edi_target.specs.Check.{CodeParts}
use Rattle.edi_explore.specs.Found.{AllTellWaits}
use Rattle.edi_runs.specs.explore.Explorations.{IsExplorationOf}
use Rattle.edi_runs.specs.explore.Orders.{OrdersOfSteps}
use Rattle.edi_runs.specs.explore.Told.{reached_of}
use Rattle.edi_runs.proofs.explore.Explored.{exploration, unit_code}
use Rattle.edi_runs.proofs.explore.text.explore_text.Goals as goal

pub returns : goal.returns
returns g c = record {
  explored = λ text unit front same known.
      let e = c.in_ok-report.ensures in
      let r = c.in_ok-report.report in
      let is = unit_code unit c.args.code.now same in
      let few : r.states ≤ suc c.args.limits.states = omega (arith, e.few) in
      subst (λ (orders : OrdersOfSteps). IsExplorationOf text c.args.input.now c.args.limits.states c.args.limits.turns c.args.limits.shown (record {
        endings = map reached_of r.found.items;
        verdict = r.verdict;
        states = r.states;
        cut = r.cut.items;
        longest = r.longest;
        orders = orders;
      })) (sym c.orders_by_openness-orders.ensures.exact)
      (exploration text unit front.unit_is c.args.input.now c.args.limits.states c.args.limits.turns c.args.limits.shown r.verdict r.states r.found.items
      r.cut.items (e.recorded unit front.can is) (e.good unit front.can is)
      (subst (λ (code : CodeParts). AllTellWaits code c.args.input.now r.found.items) same e.waits) e.distinct (e.all unit front.can is)
      (e.below unit front.can is)
      (record {
        all = λ asks. e.all_shown asks unit front.can is;
        below = λ asks moves up. e.below_shown asks unit front.can is moves up;
        many = e.many;
        few = e.few_found;
      })
      (e.fewest unit front.can is) e.within e.full few (e.cause unit front.can is) r.longest (e.longest unit front.can is) c.args.openly known
      (λ none. e.by_steps none unit front.can is));
  watches = c.in_ok-report.ensures.watches;
}
