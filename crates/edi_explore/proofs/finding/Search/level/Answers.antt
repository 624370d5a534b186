-- State after state is expanded.
use Rattle.std.proofs.Common.{◌≡◌, ◌+◌, ◌++◌, ◌∷◌, [], List, ℕ, length, refl, sym, ◌∙◌, arith}
use Rattle.edi_told.proofs.Told.{WhereTold-map, WhereTold-then}
use Rattle.edi_explore.specs.Watched.{Sees, SeesLevel}
use Rattle.edi_explore.proofs.Expanding.{further_on, further_same, level_more}
use Rattle.edi_explore.proofs.Findings.{found_none, found_on}
use Rattle.edi_explore.proofs.Table.{longer}
use Rattle.edi_explore.proofs.Watching.{sees_none, sees_one, sees_wide, told_same}
use Rattle.edi_explore.proofs.finding.Search.level.Goals as goal

pub loop-state-init : goal.loop-state-init
loop-state-init g c = record {
  finds = found_none c.args.code.now c.args.input.now c.args.limits c.args.self.now c.args.self.now refl refl;
  further = further_same c.args.code.now c.args.input.now c.args.limits c.args.self.now c.requires.search;
  few = c.requires.few;
  grown = omega arith;
  so = λ e v low high. absurd (omega (arith, low, high));
  watches =
      told_same (λ (x y : List ℕ). (s : Sees c.args.from (length c.args.self.now.states.keys.keys + 1) (length c.args.self.now.states.keys.keys + 1) x y) × (c.args.from + length s.more ≡ c.args.from))
      (g.W.Watcher.seen c.args.watcher.now) (λ x.
      let s = sees_none c.args.from (length c.args.self.now.states.keys.keys + 1) (length c.args.self.now.states.keys.keys + 1) x in (s.0, omega (arith, s.1)));
}

pub expand-requires-clause-state : goal.expand-requires-clause-state
expand-requires-clause-state g c =
    omega (
      arith,
      c.loop-state-test.true,
      c.len-state-end.ensures,
      longer c.args.self.now.states c.loop-state.self.states c.args.input.now c.requires.search.states c.loop-state.invariant.further.grows,
    )

pub loop-state-preserved : goal.loop-state-preserved
loop-state-preserved g c =
    let code = c.args.code.now in
    let input = c.args.input.now in
    let limits = c.args.limits in
    let a = c.loop-state.self in
    let b = c.expand.new.self in
    let came = c.in-Ok.ensures.expands in
    let least = length c.args.self.now.states.keys.keys + 1 in
    let far = longer a.states b.states input c.loop-state.invariant.further.search.states came.further.grows in
    let long = longer c.args.self.now.states a.states input c.requires.search.states c.loop-state.invariant.further.grows in
    record {
      finds = found_on code input limits c.args.self.now a b c.loop-state.invariant.finds c.in-Ok.ensures.finds;
      further = further_on code input limits c.args.self.now a b c.loop-state.invariant.further came.further;
      few = c.expand.ensures.few;
      grown = omega (arith, c.loop-state.invariant.grown, c.expand.ensures.grows);
      so = λ whole v low high.
          level_more code input limits c.args.self.now a b c.args.from c.loop-state.state c.loop-state.expanded c.in-Ok.more
          c.loop-state.invariant.further (omega (arith, c.loop-state-test.true, c.len-state-end.ensures)) c.requires.search c.loop-state.invariant.so
          c.in-Ok.ensures.finds.finds.more came (sym c.and-expanded.ensures ∙ whole) v low high;
      watches =
          WhereTold-then (λ x y. (s : Sees c.args.from least (length a.states.keys.keys + 1) x y) × (c.args.from + length s.more ≡ c.loop-state.state))
          (λ y z. z ≡ y ++ c.total.result ∷ [])
          (λ x z. (s : Sees c.args.from least (length b.states.keys.keys + 1) x z) × (c.args.from + length s.more ≡ c.loop-state.state + 1))
          (g.W.Watcher.seen c.args.watcher.now) (g.W.Watcher.seen c.loop-state.watcher) (g.W.Watcher.seen c.tell.new.self)
          (λ x y z s is.
          let t =
          sees_one c.args.from least (length a.states.keys.keys + 1) (length b.states.keys.keys + 1) c.total.result x y z s.0 is
          (omega (arith, c.total.ensures, far)) (omega (arith, c.total.ensures)) (omega (arith, c.total.ensures, far, long))
          (omega (arith, s.1, c.total.ensures, far, long, c.loop-state-test.true, c.len-state-end.ensures)) in
          (t.0, omega (arith, t.1, s.1))) c.loop-state.invariant.watches c.tell.ensures;
    }

pub returns-in-Err-clause-finds : goal.returns-in-Err-clause-finds
returns-in-Err-clause-finds g c =
    found_on c.args.code.now c.args.input.now c.args.limits c.args.self.now c.loop-state.self c.expand.new.self
    c.loop-state.invariant.finds c.expand.ensures.finds

pub returns-in-Err-clause-watches : goal.returns-in-Err-clause-watches
returns-in-Err-clause-watches g c =
    let least = length c.args.self.now.states.keys.keys + 1 in
    let before = length c.loop-state.self.states.keys.keys + 1 in
    let most = length c.expand.new.self.states.keys.keys + 1 in
    WhereTold-map (λ x y. (s : Sees c.args.from least before x y) × (c.args.from + length s.more ≡ c.loop-state.state))
    (SeesLevel _ c.args.from (length c.args.self.now.states.keys.keys) most) (g.W.Watcher.seen c.args.watcher.now)
    (g.W.Watcher.seen c.loop-state.watcher)
    (λ x y s. record { sees = sees_wide c.args.from least before most x y s.0 (omega (arith, c.expand.ensures.grows)); whole = tt })
    c.loop-state.invariant.watches

pub returns-clause-watches : goal.returns-clause-watches
returns-clause-watches g c =
    let least = length c.args.self.now.states.keys.keys + 1 in
    let most = length c.loop-state.self.states.keys.keys + 1 in
    WhereTold-map (λ x y. (s : Sees c.args.from least most x y) × (c.args.from + length s.more ≡ c.loop-state.state))
    (SeesLevel _ c.args.from (length c.args.self.now.states.keys.keys) most) (g.W.Watcher.seen c.args.watcher.now)
    (g.W.Watcher.seen c.loop-state.watcher)
    (λ x y s. record { sees = s.0; whole = omega (arith, s.1, c.loop-state-test.false, c.len-state-end.ensures, c.requires.from) })
    c.loop-state.invariant.watches

pub returns-clause-expands : goal.returns-clause-expands
returns-clause-expands g c = record {
  further = c.loop-state.invariant.further;
  so = λ whole v low high. c.loop-state.invariant.so whole v low (omega (arith, high, c.loop-state-test.false, c.len-state-end.ensures));
}
