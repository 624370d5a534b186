use Rattle.std.proofs.Common.{rules, ◌≡◌, ◌-◌, suc, [], ◌∷◌, ◌∙◌, ap, sym, drop, subst}
use Rattle.std.proofs.lemmas.List.{drop_more, at_drop_all}
use Rattle.std.proofs.Math.ListN.{get_or}
use Rattle.edi_explain.proofs.places.Skips.{Goes, over_space, over_symbol, at_symbol, no_stray, at_end}
use Rattle.edi_explain.proofs.places.cuts.place_of.Goals as goal

pub loop-at-preserved-in-Space : goal.loop-at-preserved-in-Space
loop-at-preserved-in-Space c = record {
  small = (search rules);
  goes = λ found e. over_space c.args.bytes.now c.args.index c.loop-at.at c.loop-at.left c.in-Space.more _ _
      (drop_more c.args.bytes.now c.loop-at.at 0 c.loop-at-test.true ∙ ap (λ l. get_or c.args.bytes.now c.loop-at.at 0 ∷ l) (sym c.bytes_after.ensures.exact)) c.in-Space.ensures.exact (c.loop-at.invariant.goes found e);
}

pub returns-then-left-eq0 : goal.returns-then-left-eq0
returns-then-left-eq0 c = record {
  exact = λ found e. at_symbol c.args.bytes.now c.args.index c.loop-at.at c.in-Symbol.more _ _
      (drop_more c.args.bytes.now c.loop-at.at 0 c.loop-at-test.true ∙ ap (λ l. get_or c.args.bytes.now c.loop-at.at 0 ∷ l) (sym c.bytes_after.ensures.exact)) c.in-Symbol.ensures.exact
      (subst (λ n. Goes c.args.bytes.now c.args.index c.loop-at.at n) c.if-left-eq0.true (c.loop-at.invariant.goes found e));
}

pub loop-at-preserved : goal.loop-at-preserved
loop-at-preserved c = record {
  small = (search rules);
  goes = λ found e.
      let one : c.loop-at.left ≡ suc (c.loop-at.left - 1) = (search rules) in
      over_symbol c.args.bytes.now c.args.index c.loop-at.at (c.loop-at.left - 1) c.in-Symbol.more _ _
      (drop_more c.args.bytes.now c.loop-at.at 0 c.loop-at-test.true ∙ ap (λ l. get_or c.args.bytes.now c.loop-at.at 0 ∷ l) (sym c.bytes_after.ensures.exact)) c.in-Symbol.ensures.exact
      (subst (λ n. Goes c.args.bytes.now c.args.index c.loop-at.at n) one (c.loop-at.invariant.goes found e));
}

pub returns-in-Stray : goal.returns-in-Stray
returns-in-Stray c = record {
  exact = λ found e. absurd (no_stray c.args.bytes.now c.args.index c.loop-at.at c.loop-at.left _ _
      (drop_more c.args.bytes.now c.loop-at.at 0 c.loop-at-test.true ∙ ap (λ l. get_or c.args.bytes.now c.loop-at.at 0 ∷ l) (sym c.bytes_after.ensures.exact)) c.in-Stray.ensures.exact (c.loop-at.invariant.goes found e));
}

pub returns : goal.returns
returns c = record {
  exact = λ found e. let none : drop c.loop-at.at c.args.bytes.now ≡ [] = at_drop_all (λ l. l) c.args.bytes.now c.loop-at.at (search rules) in
      at_end c.args.bytes.now c.args.index c.loop-at.at c.loop-at.left none (c.loop-at.invariant.goes found e);
}
