-- Level after level is expanded.
use Rattle.std.proofs.Common.{◌≡◌, ◌+◌, suc, ℕ, List, length, sym, ap, subst, ◌∙◌, arith}
use Rattle.std.specs.Prelude.{Result, Ok, IfOk}
use Rattle.edi_told.proofs.Told.{WhereTold-map, WhereTold-then}
use Rattle.edi_explore.specs.declared.ends.Verdict.{Verdict}
use Rattle.edi_explore.specs.declared.ends.Verdict.TheVariants as verdict
use Rattle.edi_explore.specs.declared.expand.Expanded.{Expanded}
use Rattle.edi_explore.specs.declared.finding.Search.{Search}
use Rattle.edi_explore.specs.declared.step.GivenUp.{GivenUp}
use Rattle.edi_explore.specs.Fewest.{AreFewest, AreUpTo, AreWithin}
use Rattle.edi_explore.specs.Verdicts.{IsAnswer, IsWholeIf, or_else, verdict_of, verdict_of_given_up}
use Rattle.edi_explore.specs.Watched.{IsWatched, Sees, SeesLevel}
use Rattle.edi_explore.proofs.Fewer.{IsLow, fewest_more, fewest_or, low_none, up_to_more, within_given_up, within_or, within_whole}
use Rattle.edi_explore.proofs.Findings.{finds_none, finds_on}
use Rattle.edi_explore.proofs.Levelling.{IsSoFar, ends_bound, ends_early, ends_whole, no_levels, so_far_more}
use Rattle.edi_explore.proofs.Longest.{whole_bound, whole_early, whole_ends}
use Rattle.edi_explore.proofs.Noted.{noted_levels, noted_search}
use Rattle.edi_explore.proofs.Table.{longer}
use Rattle.edi_explore.proofs.Watching.{sees_none, sees_on, told_same, watched_early, watched_full, watched_whole}
use Rattle.edi_explore.proofs.finding.Search.levels.Goals as goal

whole : (r : Result Expanded GivenUp) (e : Expanded) (from to most : ℕ) (xs ys : List ℕ) → r ≡ Ok e → (t : SeesLevel r from to most xs ys) →
    from + length t.sees.more ≡ to
whole r e from to most xs ys is t = subst (λ (x : Result Expanded GivenUp). IfOk x (λ expanded. from + length t.sees.more ≡ to)) is t.whole

pub loop-depth-init : goal.loop-depth-init
loop-depth-init g c = record {
  finds = finds_none c.args.code.now c.args.input.now c.args.limits c.args.self.now.found.items;
  search = c.requires.search;
  so = no_levels c.args.code.now c.args.input.now c.args.limits c.args.self.now c.requires.begun;
  low = λ m up. absurd up;
  fewest = c.requires.fewest;
  early = c.requires.first;
  few = c.requires.few;
  deep = omega arith;
  within = omega arith;
  watches =
      told_same (λ (x y : List ℕ). (s : Sees 0 0 (length c.args.self.now.states.keys.keys + 1) x y) × (length s.more ≡ 0)) (g.W.Watcher.seen c.args.watcher.now)
      (λ x. sees_none 0 0 (length c.args.self.now.states.keys.keys + 1) x);
}

pub returns-then-from-to-clause-answer : goal.returns-then-from-to-clause-answer
returns-then-from-to-clause-answer g c =
    ends_whole c.args.code.now c.args.input.now c.args.limits c.loop-depth.verdict c.loop-depth.self c.loop-depth.depth c.loop-depth.from
    (length c.loop-depth.self.states.keys.keys) c.loop-depth.invariant.search c.loop-depth.invariant.so (c.if-from-to.true ∙ c.len-to.ensures)

pub returns-then-from-to-clause-watches : goal.returns-then-from-to-clause-watches
returns-then-from-to-clause-watches g c =
    WhereTold-map (λ x y. (s : Sees 0 0 (length c.loop-depth.self.states.keys.keys + 1) x y) × (length s.more ≡ c.loop-depth.from))
    (IsWatched c.loop-depth.verdict (c.args.limits.states + 1) (length c.loop-depth.self.states.keys.keys + 1)) (g.W.Watcher.seen c.args.watcher.now)
    (g.W.Watcher.seen c.loop-depth.watcher)
    (λ x y s.
    watched_whole c.loop-depth.verdict (c.args.limits.states + 1) (length c.loop-depth.self.states.keys.keys + 1) x y
    (omega (arith, c.loop-depth.invariant.few)) s.0
    (omega (arith, s.1, c.if-from-to.true, c.len-to.ensures))) c.loop-depth.invariant.watches

pub level-requires-clause-search : goal.level-requires-clause-search
level-requires-clause-search g c =
    noted_search c.args.code.now c.args.input.now c.args.limits c.loop-depth.self (c.loop-depth.depth + 1) c.loop-depth.invariant.search

pub loop-depth-preserved : goal.loop-depth-preserved
loop-depth-preserved g c =
    let code = c.args.code.now in
    let input = c.args.input.now in
    let limits = c.args.limits in
    let a : Search = record c.loop-depth.self { moves = c.loop-depth.depth + 1 } in
    let b : Search = c.level.new.self in
    let came = c.in-Ok.ensures.expands in
    let finds = c.level.ensures.finds in
    let next : suc c.loop-depth.depth ≡ c.loop-depth.depth + 1 = omega arith in
    let told : or_else c.loop-depth.verdict (verdict_of c.in-Ok.expanded (suc c.loop-depth.depth)) ≡ c.or-verdict.result =
    ap (λ n. or_else c.loop-depth.verdict (verdict_of c.in-Ok.expanded n)) next
    ∙ sym (c.or-verdict.ensures ∙ ap (or_else c.loop-depth.verdict) c.verdict.ensures) in
    let was : IsSoFar code input limits c.loop-depth.verdict a c.loop-depth.depth c.loop-depth.from =
    noted_levels code input limits c.loop-depth.verdict c.loop-depth.self (c.loop-depth.depth + 1) c.loop-depth.depth c.loop-depth.from
    c.loop-depth.invariant.so in
    let so : IsSoFar code input limits (or_else c.loop-depth.verdict (verdict_of c.in-Ok.expanded (suc c.loop-depth.depth))) b (suc c.loop-depth.depth)
    (length a.states.keys.keys) =
    so_far_more code input limits c.loop-depth.verdict c.in-Ok.expanded a b c.loop-depth.depth c.loop-depth.from c.loop-depth.invariant.search.states
    was finds.finds.more came.further came.so in
    record {
      finds =
          finds_on code input limits c.args.self.now.found.items a.found.items b.found.items c.loop-depth.invariant.finds finds.finds;
      search = came.further.search;
      so = subst (λ x. x) (λ i. IsSoFar code input limits (told i) b (next i) (sym c.len-to.ensures i)) so;
      low =
          subst (λ x. x) (λ i. IsLow code input limits (told i) (next i))
          (low_none code input limits c.loop-depth.verdict c.in-Ok.expanded c.loop-depth.depth c.loop-depth.invariant.low);
      fewest =
          subst (λ (v : Verdict). AreFewest code input limits v b.found.items) told
          (fewest_or code input limits c.loop-depth.verdict (verdict_of c.in-Ok.expanded (suc c.loop-depth.depth)) b.found.items
          (fewest_more code input limits a b c.loop-depth.depth c.loop-depth.from finds (sym next) c.loop-depth.verdict was c.loop-depth.invariant.low
          c.loop-depth.invariant.fewest));
      early =
          subst (λ n. AreUpTo n b.found.items) next
          (up_to_more code input limits a b c.loop-depth.depth finds (sym next) c.loop-depth.invariant.early);
      few = c.level.ensures.few;
      deep = omega (arith, c.loop-depth.invariant.deep, c.loop-depth.invariant.within, c.if-from-to.false, c.len-to.ensures);
      within = omega (arith, c.len-to.ensures, longer a.states b.states input c.loop-depth.invariant.search.states came.further.grows);
      watches =
          WhereTold-then (λ x y. (s : Sees 0 0 (length a.states.keys.keys + 1) x y) × (length s.more ≡ c.loop-depth.from))
          (SeesLevel c.level.result c.loop-depth.from (length a.states.keys.keys) (length b.states.keys.keys + 1))
          (λ x z. (s : Sees 0 0 (length b.states.keys.keys + 1) x z) × (length s.more ≡ c.len-to.result)) (g.W.Watcher.seen c.args.watcher.now)
          (g.W.Watcher.seen c.loop-depth.watcher) (g.W.Watcher.seen c.level.new.watcher)
          (λ x y z s t.
          let u =
          sees_on (length a.states.keys.keys + 1) (length b.states.keys.keys + 1) c.loop-depth.from x y z s.0 t.sees (sym s.1)
          (omega (arith, c.level.ensures.grows)) in
          (u.0, u.1 ∙ whole c.level.result c.in-Ok.expanded c.loop-depth.from (length a.states.keys.keys) (length b.states.keys.keys + 1) y z c.in-Ok.is t ∙ sym c.len-to.ensures)) c.loop-depth.invariant.watches c.level.ensures.watches;
    }

pub returns-in-Err-clause-finds : goal.returns-in-Err-clause-finds
returns-in-Err-clause-finds g c =
    finds_on c.args.code.now c.args.input.now c.args.limits c.args.self.now.found.items c.loop-depth.self.found.items c.level.new.self.found.items
    c.loop-depth.invariant.finds c.level.ensures.finds.finds

pub returns-in-Err-clause-answer : goal.returns-in-Err-clause-answer
returns-in-Err-clause-answer g c =
    let next : suc c.loop-depth.depth ≡ c.loop-depth.depth + 1 = omega arith in
    let told : or_else c.loop-depth.verdict (verdict_of_given_up c.in-Err.given_up (suc c.loop-depth.depth)) ≡ c.or.result =
    ap (λ n. or_else c.loop-depth.verdict (verdict_of_given_up c.in-Err.given_up n)) next
    ∙ sym (c.or.ensures ∙ ap (or_else c.loop-depth.verdict) c.verdict-in-Err.ensures) in
    subst (IsAnswer c.args.code.now c.args.input.now c.args.limits (length c.level.new.self.states.keys.keys) c.level.new.self.found.items) told
    (ends_early c.args.code.now c.args.input.now c.args.limits c.loop-depth.verdict c.in-Err.given_up c.loop-depth.self c.level.new.self.found.items
    c.loop-depth.depth c.loop-depth.from (length c.level.new.self.states.keys.keys) c.loop-depth.invariant.so c.level.ensures.finds.finds.more
    c.in-Err.ensures.full c.in-Err.ensures.many)

pub returns-then-from-to-clause-whole : goal.returns-then-from-to-clause-whole
returns-then-from-to-clause-whole g c =
    whole_ends c.args.code.now c.args.input.now c.args.limits c.loop-depth.verdict c.loop-depth.self c.loop-depth.depth c.loop-depth.from
    c.loop-depth.invariant.search c.loop-depth.invariant.so (c.if-from-to.true ∙ c.len-to.ensures)

pub returns-in-Err-clause-whole : goal.returns-in-Err-clause-whole
returns-in-Err-clause-whole g c =
    subst (λ (v : Verdict). IsWholeIf c.args.code.now c.args.input.now c.args.limits v c.level.new.self)
    (sym (c.or.ensures ∙ ap (or_else c.loop-depth.verdict) c.verdict-in-Err.ensures))
    (whole_early c.args.code.now c.args.input.now c.args.limits c.loop-depth.verdict c.in-Err.given_up (c.loop-depth.depth + 1) c.level.new.self)

pub returns-clause-whole : goal.returns-clause-whole
returns-clause-whole g c =
    subst (λ (v : Verdict). IsWholeIf c.args.code.now c.args.input.now c.args.limits v c.loop-depth.self) (sym c.or-2.ensures)
    (whole_bound c.args.code.now c.args.input.now c.args.limits c.loop-depth.verdict (c.args.limits.states + 2) c.loop-depth.self)

pub returns-in-Err-clause-fewest : goal.returns-in-Err-clause-fewest
returns-in-Err-clause-fewest g c =
    let code = c.args.code.now in
    let input = c.args.input.now in
    let limits = c.args.limits in
    let a : Search = record c.loop-depth.self { moves = c.loop-depth.depth + 1 } in
    let b : Search = c.level.new.self in
    let next : suc c.loop-depth.depth ≡ c.loop-depth.depth + 1 = omega arith in
    let was : IsSoFar code input limits c.loop-depth.verdict a c.loop-depth.depth c.loop-depth.from =
    noted_levels code input limits c.loop-depth.verdict c.loop-depth.self (c.loop-depth.depth + 1) c.loop-depth.depth c.loop-depth.from
    c.loop-depth.invariant.so in
    subst (λ (v : Verdict). AreFewest code input limits v b.found.items) (sym c.or.ensures)
    (fewest_or code input limits c.loop-depth.verdict c.verdict-in-Err.result b.found.items
    (fewest_more code input limits a b c.loop-depth.depth c.loop-depth.from c.level.ensures.finds (sym next) c.loop-depth.verdict was
    c.loop-depth.invariant.low c.loop-depth.invariant.fewest))

pub returns-in-Err-clause-watches : goal.returns-in-Err-clause-watches
returns-in-Err-clause-watches g c =
    let limits = c.args.limits in
    let b : Search = c.level.new.self in
    let before = length c.loop-depth.self.states.keys.keys in
    WhereTold-then (λ x y. (s : Sees 0 0 (before + 1) x y) × (length s.more ≡ c.loop-depth.from))
    (SeesLevel c.level.result c.loop-depth.from before (length b.states.keys.keys + 1))
    (IsWatched c.or.result (limits.states + 1) (length b.states.keys.keys + 1)) (g.W.Watcher.seen c.args.watcher.now)
    (g.W.Watcher.seen c.loop-depth.watcher) (g.W.Watcher.seen c.level.new.watcher)
    (λ x y z s t.
    watched_early c.loop-depth.verdict c.or.result c.in-Err.given_up (c.loop-depth.depth + 1) (limits.states + 1) (length b.states.keys.keys + 1) x z
    (c.or.ensures ∙ ap (or_else c.loop-depth.verdict) c.verdict-in-Err.ensures)
    (omega (arith, c.level.ensures.few))
    (sees_on (before + 1) (length b.states.keys.keys + 1) c.loop-depth.from x y z s.0 t.sees (sym s.1) (omega (arith, c.level.ensures.grows))).0)
    c.loop-depth.invariant.watches c.level.ensures.watches

pub returns-clause-answer : goal.returns-clause-answer
returns-clause-answer g c =
    let next : suc c.loop-depth.depth ≡ c.args.limits.states + 2 = omega (arith, c.loop-depth-test.false, c.loop-depth.auto.depth-end) in
    let told : or_else c.loop-depth.verdict (verdict.Full (suc c.loop-depth.depth)) ≡ c.or-2.result =
    ap (λ n. or_else c.loop-depth.verdict (verdict.Full n)) next ∙ sym c.or-2.ensures in
    subst (IsAnswer c.args.code.now c.args.input.now c.args.limits (length c.loop-depth.self.states.keys.keys) c.loop-depth.self.found.items) told
    (ends_bound c.args.code.now c.args.input.now c.args.limits c.loop-depth.verdict c.loop-depth.self c.loop-depth.depth c.loop-depth.from
    (length c.loop-depth.self.states.keys.keys) c.loop-depth.invariant.so
    (omega (arith, c.loop-depth.invariant.deep, c.loop-depth.invariant.within, c.loop-depth-test.false)))

pub returns-clause-fewest : goal.returns-clause-fewest
returns-clause-fewest g c =
    subst (λ (v : Verdict). AreFewest c.args.code.now c.args.input.now c.args.limits v c.loop-depth.self.found.items) (sym c.or-2.ensures)
    (fewest_or c.args.code.now c.args.input.now c.args.limits c.loop-depth.verdict (verdict.Full (c.args.limits.states + 2)) c.loop-depth.self.found.items
    c.loop-depth.invariant.fewest)

pub returns-clause-watches : goal.returns-clause-watches
returns-clause-watches g c =
    WhereTold-map (λ x y. (s : Sees 0 0 (length c.loop-depth.self.states.keys.keys + 1) x y) × (length s.more ≡ c.loop-depth.from))
    (IsWatched c.or-2.result (c.args.limits.states + 1) (length c.loop-depth.self.states.keys.keys + 1)) (g.W.Watcher.seen c.args.watcher.now)
    (g.W.Watcher.seen c.loop-depth.watcher)
    (λ x y s.
    watched_full c.loop-depth.verdict c.or-2.result (c.args.limits.states + 2) (c.args.limits.states + 1) (length c.loop-depth.self.states.keys.keys + 1)
    x y c.or-2.ensures (omega (arith, c.loop-depth.invariant.few)) s.0) c.loop-depth.invariant.watches

pub returns-then-from-to-clause-within : goal.returns-then-from-to-clause-within
returns-then-from-to-clause-within g c =
    within_whole c.args.code.now c.args.input.now c.args.limits c.loop-depth.verdict c.loop-depth.self c.loop-depth.depth c.loop-depth.from
    c.loop-depth.invariant.so

pub returns-in-Err-clause-within : goal.returns-in-Err-clause-within
returns-in-Err-clause-within g c =
    let code = c.args.code.now in
    let input = c.args.input.now in
    let limits = c.args.limits in
    let a : Search = record c.loop-depth.self { moves = c.loop-depth.depth + 1 } in
    let b : Search = c.level.new.self in
    let next : suc c.loop-depth.depth ≡ c.loop-depth.depth + 1 = omega arith in
    let early : AreUpTo (c.loop-depth.depth + 1) b.found.items =
    subst (λ n. AreUpTo n b.found.items) next (up_to_more code input limits a b c.loop-depth.depth c.level.ensures.finds (sym next) c.loop-depth.invariant.early) in
    subst (λ (v : Verdict). AreWithin v b.found.items) (sym (c.or.ensures ∙ ap (or_else c.loop-depth.verdict) c.verdict-in-Err.ensures))
    (within_or code input limits c.loop-depth.verdict (verdict_of_given_up c.in-Err.given_up (c.loop-depth.depth + 1)) c.loop-depth.self
    c.loop-depth.depth c.loop-depth.from b.found.items c.loop-depth.invariant.so
    (within_given_up code input limits c.in-Err.given_up (c.loop-depth.depth + 1) b.found.items early))

pub returns-clause-within : goal.returns-clause-within
returns-clause-within g c =
    let most = c.args.limits.states + 2 in
    subst (λ (v : Verdict). AreWithin v c.loop-depth.self.found.items) (sym c.or-2.ensures)
    (within_or c.args.code.now c.args.input.now c.args.limits c.loop-depth.verdict (verdict.Full most) c.loop-depth.self c.loop-depth.depth
    c.loop-depth.from c.loop-depth.self.found.items c.loop-depth.invariant.so
    (λ one there. omega (arith, c.loop-depth.invariant.early one there, c.loop-depth-test.false, c.loop-depth.auto.depth-end)))
