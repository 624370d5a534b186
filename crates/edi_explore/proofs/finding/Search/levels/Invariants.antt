use Rattle.std.proofs.Common.{◌≡◌, ◌+◌, ◌≤◌, length}
use Rattle.edi_told.specs.Told.{WhereTold}
use Rattle.edi_explore.specs.Expand.{IsSearch}
use Rattle.edi_explore.specs.Fewest.{AreFewest, AreUpTo}
use Rattle.edi_explore.specs.Finding.{Finds}
use Rattle.edi_explore.specs.Watched.{Sees}
use Rattle.edi_explore.proofs.Fewer.{IsLow}
use Rattle.edi_explore.proofs.Levelling.{IsSoFar}
use Rattle.edi_explore.proofs.finding.Search.levels.Given as goal

-- as many levels were expanded, where nothing is lacking; each has a state at least
abbrev pub invariant-loop-depth : goal.invariant-loop-depth
invariant-loop-depth g l = record {
  finds : Finds l.code l.input l.limits l.fn.self.found.items l.self.found.items;
  search : IsSearch l.code l.input l.limits l.self;
  so : IsSoFar l.code l.input l.limits l.verdict l.self l.depth l.from;
  low : IsLow l.code l.input l.limits l.verdict l.depth;
  fewest : AreFewest l.code l.input l.limits l.verdict l.self.found.items;
  early : AreUpTo l.depth l.self.found.items;
  few : length l.self.states.keys.keys ≤ l.limits.states;
  deep : l.depth ≤ l.from;
  within : l.from ≤ length l.self.states.keys.keys;
  watches : WhereTold (g.W.Watcher.seen l.fn.watcher) (g.W.Watcher.seen l.watcher) (λ x y.
      (s : Sees 0 0 (length l.self.states.keys.keys + 1) x y) × (length s.more ≡ l.from));
}
