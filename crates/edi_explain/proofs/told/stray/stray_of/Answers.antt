use Rattle.std.proofs.Common.{rules, ◌≡◌, [], ◌∷◌, ◌∙◌, ap, sym, drop}
use Rattle.std.proofs.lemmas.List.{drop_more, at_drop_all}
use Rattle.std.proofs.Math.ListN.{get_or}
use Rattle.edi_explain.proofs.told.Strays.{begun, over_space, over_symbol, at_stray, not_at_end}
use Rattle.edi_explain.proofs.told.stray.stray_of.Goals as goal

pub loop-at-init : goal.loop-at-init
loop-at-init c = record { small = (search rules); goes = (c.requires.has.0, begun c.args.bytes.now c.requires.has.0 c.requires.has.1) }

pub loop-at-preserved-in-Space : goal.loop-at-preserved-in-Space
loop-at-preserved-in-Space c = record {
  small = (search rules);
  goes = (
    c.loop-at.invariant.goes.0,
    over_space c.args.bytes.now c.loop-at.invariant.goes.0 c.loop-at.at c.in-Space.more _ _
        (drop_more c.args.bytes.now c.loop-at.at 0 c.loop-at-test.true ∙ ap (λ l. get_or c.args.bytes.now c.loop-at.at 0 ∷ l) (sym c.back_of.ensures.exact))
        c.in-Space.ensures.exact c.loop-at.invariant.goes.1,
  );
}

pub loop-at-preserved : goal.loop-at-preserved
loop-at-preserved c = record {
  small = (search rules);
  goes = (
    c.loop-at.invariant.goes.0,
    over_symbol c.args.bytes.now c.loop-at.invariant.goes.0 c.loop-at.at c.in-Symbol.more _ _
        (drop_more c.args.bytes.now c.loop-at.at 0 c.loop-at-test.true ∙ ap (λ l. get_or c.args.bytes.now c.loop-at.at 0 ∷ l) (sym c.back_of.ensures.exact))
        c.in-Symbol.ensures.exact c.loop-at.invariant.goes.1,
  );
}

pub returns-in-Stray : goal.returns-in-Stray
returns-in-Stray c = record {
  exact = at_stray c.args.bytes.now c.loop-at.invariant.goes.0 c.loop-at.at _ _
      (drop_more c.args.bytes.now c.loop-at.at 0 c.loop-at-test.true ∙ ap (λ l. get_or c.args.bytes.now c.loop-at.at 0 ∷ l) (sym c.back_of.ensures.exact))
      c.in-Stray.ensures.exact c.loop-at.invariant.goes.1;
}

pub returns : goal.returns
returns c = record {
  exact = let none : drop c.loop-at.at c.args.bytes.now ≡ [] = at_drop_all (λ l. l) c.args.bytes.now c.loop-at.at (search rules) in
      absurd (not_at_end c.args.bytes.now c.loop-at.invariant.goes.0 c.loop-at.at none c.loop-at.invariant.goes.1);
}
