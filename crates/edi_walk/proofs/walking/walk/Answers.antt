use Rattle.std.proofs.Common.{refl, sym, subst, ◌∙◌, arith}
use Rattle.edi_told.specs.Told.{WhereTold}
use Rattle.edi_told.proofs.Told.{WhereTold-map, WhereTold-then}
use Rattle.edi_walk.proofs.Calls.{WhereTold-same}
use Rattle.edi_unit.specs.View.{unit_of}
use Rattle.edi_walk.specs.Ends.{WalkFaultsBy, WalksTo}
use Rattle.edi_walk.proofs.FrameRuns.{lasts_on}
use Rattle.edi_walk.proofs.Reaching.{cut_here, cut_first, reached_first, reached_next, walk_asks, walk_ends, blames_since}
use Rattle.edi_walk.proofs.walking.walk.Goals as goal

pub loop-step-init : goal.loop-step-init
loop-step-init g c =
    record {
      working = c.requires.working;
      lasts = (λ outside. omega arith, refl, λ start led. led);
      free = c.in-Ok.ensures.free;
      source = refl;
      drawn = omega arith;
      told = WhereTold-same _ (g.C.Calls.state c.args.calls.now) (λ s. reached_first (unit_of c.args.unit.now) c.args.bound c.args.choices.now _ s (c.in-Ok.ensures.exact s));
    }

pub loop-step-preserved : goal.loop-step-preserved
loop-step-preserved g c =
    let inv = c.loop-step.invariant in
    record {
      working = c.in-Ok-step.ensures.blame;
      lasts = lasts_on g.C.Calls.faults g.C.Calls.references g.C.Calls.leads _ _ _ inv.lasts c.in-Ok-step.ensures.lasts;
      free = c.in-Ok-step.ensures.free;
      source = c.in-Ok-step.ensures.source ∙ inv.source;
      drawn = omega (arith, c.in-Ok-step.ensures.drawn, inv.drawn);
      told = WhereTold-then _ _ _ (g.C.Calls.state c.args.calls.now) (g.C.Calls.state c.loop-step.calls) (g.C.Calls.state c.step.new.calls)
          (λ r s t far next. reached_next (unit_of c.args.unit.now) c.args.bound c.args.choices.now c.loop-step.choices c.step.new.choices c.loop-step.walker c.step.new.self
          r s t inv.source (omega (arith, inv.drawn, c.loop-step-test.true)) far next) inv.told c.in-Ok-step.ensures.exact;
    }

pub returns-in-Err-clause-exact : goal.returns-in-Err-clause-exact
returns-in-Err-clause-exact g c =
    let inv = c.loop-step.invariant in
    subst (λ e. WhereTold (g.C.Calls.state c.args.calls.now) (g.C.Calls.state c.step.new.calls) (λ s t. WalksTo (unit_of c.args.unit.now) s c.args.bound c.args.choices.now e t c.step.new.choices))
    (sym c.end_of.ensures.exact)
    (WhereTold-then _ _ _ (g.C.Calls.state c.args.calls.now) (g.C.Calls.state c.loop-step.calls) (g.C.Calls.state c.step.new.calls)
    (λ r s t far next. walk_ends (unit_of c.args.unit.now) c.args.bound c.args.choices.now c.loop-step.choices c.loop-step.walker r s inv.source
    (omega (arith, inv.drawn, c.loop-step-test.true)) far c.step.new.choices c.step.new.self t c.in-Err.stop next) inv.told c.in-Err.ensures.exact)

pub returns-in-Err-clause-asked : goal.returns-in-Err-clause-asked
returns-in-Err-clause-asked g c =
    let inv = c.loop-step.invariant in
    subst (λ e. WhereTold (g.C.Calls.state c.args.calls.now) (g.C.Calls.state c.step.new.calls)
    (λ s t. WalkFaultsBy (g.C.Calls.failed c.step.new.calls) (unit_of c.args.unit.now) s c.args.bound c.args.choices.now e t c.step.new.choices))
    (sym c.end_of.ensures.exact)
    (WhereTold-then _ _ _ (g.C.Calls.state c.args.calls.now) (g.C.Calls.state c.loop-step.calls) (g.C.Calls.state c.step.new.calls)
    (λ r s t far next. walk_asks (unit_of c.args.unit.now) c.args.bound c.args.choices.now c.loop-step.choices c.loop-step.walker r s inv.source
    (omega (arith, inv.drawn, c.loop-step-test.true)) far (g.C.Calls.failed c.step.new.calls) (g.C.Calls.faults c.loop-step.calls) (g.C.Calls.faults c.step.new.calls)
    c.step.new.choices c.step.new.self t c.in-Err.stop c.in-Err.ensures.blame next) inv.told c.in-Err.ensures.exact)

pub returns-in-Err-clause-blame : goal.returns-in-Err-clause-blame
returns-in-Err-clause-blame g c =
    blames_since c.in-Err.stop c.end_of.result (g.C.Calls.failed c.step.new.calls) (g.C.Calls.faults c.args.calls.now) (g.C.Calls.faults c.loop-step.calls)
    (g.C.Calls.faults c.step.new.calls) c.loop-step.invariant.lasts.0 c.end_of.ensures.exact c.in-Err.ensures.blame

pub returns-in-Err-clause-lasts : goal.returns-in-Err-clause-lasts
returns-in-Err-clause-lasts g c =
    lasts_on g.C.Calls.faults g.C.Calls.references g.C.Calls.leads _ _ _ c.loop-step.invariant.lasts c.in-Err.ensures.lasts

pub returns-clause-exact : goal.returns-clause-exact
returns-clause-exact g c =
    let inv = c.loop-step.invariant in
    WhereTold-map _ _ (g.C.Calls.state c.args.calls.now) (g.C.Calls.state c.loop-step.calls)
    (λ s t far. cut_here (unit_of c.args.unit.now) c.args.bound c.args.choices.now c.loop-step.choices c.loop-step.walker s t inv.source far) inv.told

pub returns-clause-asked : goal.returns-clause-asked
returns-clause-asked g c =
    WhereTold-map _ _ (g.C.Calls.state c.args.calls.now) (g.C.Calls.state c.loop-step.calls) (λ s t far. tt) c.loop-step.invariant.told

pub returns-in_default-clause-asked : goal.returns-in_default-clause-asked
returns-in_default-clause-asked g c = WhereTold-same _ (g.C.Calls.state c.args.calls.now) (λ s. tt)

pub returns-in_default-clause-exact : goal.returns-in_default-clause-exact
returns-in_default-clause-exact g c =
    WhereTold-same _ (g.C.Calls.state c.args.calls.now) (λ s. cut_first (unit_of c.args.unit.now) c.args.bound c.args.choices.now s)
