use Rattle.std.proofs.Common.{◌≡◌, ◌+◌, ◌<◌, ◌≤◌, ℕ, length}
use Rattle.edi_told.specs.Told.{WhereTold}
use Rattle.edi_explore.specs.declared.expand.Expanded.TheVariants as expanded
use Rattle.edi_explore.specs.Expand.{GoesFurther, HasExpanded}
use Rattle.edi_explore.specs.Finding.{FindsAt}
use Rattle.edi_explore.specs.Watched.{Sees}
use Rattle.edi_explore.proofs.finding.Search.level.Given as goal

-- the states so far were expanded, where nothing is lacking; the watcher was told of each
abbrev pub invariant-loop-state : goal.invariant-loop-state
invariant-loop-state g l = record {
  finds : FindsAt l.code l.input l.limits l.fn.self l.self;
  further : GoesFurther l.code l.input l.limits l.fn.self l.self;
  few : length l.self.states.keys.keys ≤ l.limits.states;
  grown : length l.fn.self.states.keys.keys ≤ length l.self.states.keys.keys;
  so : l.expanded ≡ expanded.Whole → (v : ℕ) → l.from ≤ v → v < l.state → HasExpanded l.code l.input l.limits l.self v;
  watches : WhereTold (g.W.Watcher.seen l.fn.watcher) (g.W.Watcher.seen l.watcher) (λ x y.
      (s : Sees l.from (length l.fn.self.states.keys.keys + 1) (length l.self.states.keys.keys + 1) x y) × (l.from + length s.more ≡ l.state));
}
