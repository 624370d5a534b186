use Rattle.edi_walk.specs.declared.walker.Walker as code_walker
use Rattle.std.proofs.Common.{refl, sym, ap, ◌∙◌}
use Rattle.edi_walk.specs.Processes.{without_named}
use Rattle.edi_walk.proofs.Livings.{none_without, removed_without}
use Rattle.edi_walk.proofs.walker.Walker.remove.Goals as goal

pub loop-index-preserved : goal.loop-index-preserved
loop-index-preserved c = record {
  live = ap (without_named c.args.name.now) c.remove-gone.ensures.items
      ∙ removed_without c.args.name.now c.in-Some.index c.loop-index.self.live.items c.in-Some.ensures.exact
      ∙ c.loop-index.invariant.live;
  others = ap (λ (w : code_walker.Walker). record w { live = c.remove-gone.new.self }) c.loop-index.invariant.others;
}

pub returns-clause-live : goal.returns-clause-live
returns-clause-live c = sym (none_without c.args.name.now c.loop-index.self.live.items (c.in_default.ensures.none refl)) ∙ c.loop-index.invariant.live
