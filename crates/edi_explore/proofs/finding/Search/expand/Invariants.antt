use Rattle.std.proofs.Common.{◌≡◌, ◌≤◌, length}
use Rattle.edi_explore.specs.declared.expand.Expanded.TheVariants as expanded
use Rattle.edi_explore.specs.Expand.{Apart, GoesFurther, HasStintsTo}
use Rattle.edi_explore.specs.Finding.{FindsAt}
use Rattle.edi_explore.proofs.finding.Search.expand.Given as goal

-- the stints so far were followed, where nothing is lacking
abbrev pub invariant-loop-index : goal.invariant-loop-index
invariant-loop-index l = record {
  finds : FindsAt l.code l.input l.limits l.fn.self l.self;
  further : GoesFurther l.code l.input l.limits l.fn.self l.self;
  few : length l.self.states.keys.keys ≤ l.limits.states;
  grown : length l.fn.self.states.keys.keys ≤ length l.self.states.keys.keys;
  so : l.expanded ≡ expanded.Whole → Apart l.code l.input l.limits l.self l.state → HasStintsTo l.code l.input l.limits l.self l.index l.state l.stands;
}
