-- The first stint, and then the levels.
use Rattle.std.proofs.Common.{◌≡◌, ◌+◌, length, sym, subst, arith}
use Rattle.edi_explore.specs.declared.ends.Verdict.{Verdict}
use Rattle.edi_explore.specs.declared.ends.Verdict.TheVariants as verdict
use Rattle.edi_explore.specs.Fewest.{AreWithin}
use Rattle.edi_explore.specs.Verdicts.{IsAnswer, IsWholeIf}
use Rattle.edi_explore.specs.Watched.{IsWatched}
use Rattle.edi_explore.proofs.Fewer.{fewest_none, up_to_none, within_given_up}
use Rattle.edi_explore.proofs.Findings.{finds_on}
use Rattle.edi_explore.proofs.Levelling.{all_to_none, early_none}
use Rattle.edi_explore.proofs.Longest.{whole_early}
use Rattle.edi_explore.proofs.Watching.{sees_none, told_same, watched_early, watched_not}
use Rattle.edi_explore.proofs.finding.Search.follow_all.Goals as goal

pub levels-requires-clause-search : goal.levels-requires-clause-search
levels-requires-clause-search g c = c.in-Ok-Whole.ensures.begins.further.search

pub levels-requires-clause-begun : goal.levels-requires-clause-begun
levels-requires-clause-begun g c = c.in-Ok-Whole.ensures.begins.so c.in-Ok-Whole.field-0-is

pub returns-in-Ok-Whole-clause-finds : goal.returns-in-Ok-Whole-clause-finds
returns-in-Ok-Whole-clause-finds g c =
    finds_on c.args.code.now c.args.input.now c.args.limits c.args.self.now.found.items c.begin.new.self.found.items c.levels.new.self.found.items c.begin.ensures.finds.finds
    c.levels.ensures.finds

pub returns-in-Ok-Cut-clause-answer : goal.returns-in-Ok-Cut-clause-answer
returns-in-Ok-Cut-clause-answer g c = all_to_none c.args.code.now c.args.input.now c.args.limits c.begin.new.self.found.items

pub returns-in-Ok-Unrecorded-clause-answer : goal.returns-in-Ok-Unrecorded-clause-answer
returns-in-Ok-Unrecorded-clause-answer g c = all_to_none c.args.code.now c.args.input.now c.args.limits c.begin.new.self.found.items

pub returns-in-Err-clause-answer : goal.returns-in-Err-clause-answer
returns-in-Err-clause-answer g c =
    let fs = c.begin.new.self.found.items in
    let count = length c.begin.new.self.states.keys.keys in
    subst (λ (x : Verdict). IsAnswer c.args.code.now c.args.input.now c.args.limits count fs x) (sym c.verdict.ensures)
    (early_none c.args.code.now c.args.input.now c.args.limits c.in-Err.given_up fs count c.in-Err.ensures.full c.in-Err.ensures.many)

pub levels-requires-clause-fewest : goal.levels-requires-clause-fewest
levels-requires-clause-fewest g c =
    fewest_none c.args.code.now c.args.input.now c.args.limits verdict.All c.args.self.now c.begin.new.self c.requires.new.found c.requires.new.moves
    c.begin.ensures.finds

pub returns-in-Ok-Cut-clause-fewest : goal.returns-in-Ok-Cut-clause-fewest
returns-in-Ok-Cut-clause-fewest g c =
    fewest_none c.args.code.now c.args.input.now c.args.limits (verdict.Cut 0) c.args.self.now c.begin.new.self c.requires.new.found c.requires.new.moves
    c.begin.ensures.finds

pub returns-in-Ok-Unrecorded-clause-fewest : goal.returns-in-Ok-Unrecorded-clause-fewest
returns-in-Ok-Unrecorded-clause-fewest g c =
    fewest_none c.args.code.now c.args.input.now c.args.limits (verdict.Unrecorded 0) c.args.self.now c.begin.new.self c.requires.new.found
    c.requires.new.moves c.begin.ensures.finds

pub returns-in-Err-clause-fewest : goal.returns-in-Err-clause-fewest
returns-in-Err-clause-fewest g c =
    fewest_none c.args.code.now c.args.input.now c.args.limits c.verdict.result c.args.self.now c.begin.new.self c.requires.new.found
    c.requires.new.moves c.begin.ensures.finds

pub returns-in-Ok-Cut-clause-watches : goal.returns-in-Ok-Cut-clause-watches
returns-in-Ok-Cut-clause-watches g c =
    let states = length c.begin.new.self.states.keys.keys + 1 in
    told_same (IsWatched (verdict.Cut 0) (c.args.limits.states + 1) states) (g.W.Watcher.seen c.args.watcher.now)
    (λ x. watched_not (verdict.Cut 0) (c.args.limits.states + 1) states x x
    (omega (arith, c.begin.ensures.few)) (sees_none 0 0 states x).0 (λ e. not_cut e))
  where
    not_cut : verdict.Cut 0 ≡ verdict.All → ⊥
    not_cut e = cc

pub returns-in-Ok-Unrecorded-clause-watches : goal.returns-in-Ok-Unrecorded-clause-watches
returns-in-Ok-Unrecorded-clause-watches g c =
    let states = length c.begin.new.self.states.keys.keys + 1 in
    told_same (IsWatched (verdict.Unrecorded 0) (c.args.limits.states + 1) states) (g.W.Watcher.seen c.args.watcher.now)
    (λ x. watched_not (verdict.Unrecorded 0) (c.args.limits.states + 1) states x x
    (omega (arith, c.begin.ensures.few)) (sees_none 0 0 states x).0 (λ e. not_this e))
  where
    not_this : verdict.Unrecorded 0 ≡ verdict.All → ⊥
    not_this e = cc

pub returns-in-Err-clause-watches : goal.returns-in-Err-clause-watches
returns-in-Err-clause-watches g c =
    let states = length c.begin.new.self.states.keys.keys + 1 in
    told_same (IsWatched c.verdict.result (c.args.limits.states + 1) states) (g.W.Watcher.seen c.args.watcher.now)
    (λ x. watched_early verdict.All c.verdict.result c.in-Err.given_up 0 (c.args.limits.states + 1) states x x c.verdict.ensures
    (omega (arith, c.begin.ensures.few)) (sees_none 0 0 states x).0)

pub levels-requires-clause-first : goal.levels-requires-clause-first
levels-requires-clause-first g c =
    up_to_none c.args.code.now c.args.input.now c.args.limits c.args.self.now c.begin.new.self c.requires.new.found c.requires.new.moves c.begin.ensures.finds

pub returns-in-Err-clause-within : goal.returns-in-Err-clause-within
returns-in-Err-clause-within g c =
    subst (λ (v : Verdict). AreWithin v c.begin.new.self.found.items) (sym c.verdict.ensures)
    (within_given_up c.args.code.now c.args.input.now c.args.limits c.in-Err.given_up 0 c.begin.new.self.found.items
    (up_to_none c.args.code.now c.args.input.now c.args.limits c.args.self.now c.begin.new.self c.requires.new.found c.requires.new.moves
    c.begin.ensures.finds))

pub returns-in-Err-clause-whole : goal.returns-in-Err-clause-whole
returns-in-Err-clause-whole g c =
    subst (λ (v : Verdict). IsWholeIf c.args.code.now c.args.input.now c.args.limits v c.begin.new.self) (sym c.verdict.ensures)
    (whole_early c.args.code.now c.args.input.now c.args.limits verdict.All c.in-Err.given_up 0 c.begin.new.self)
