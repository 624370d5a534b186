-- A stretch is one more instruction, until the last.
use Rattle.std.proofs.Common.{arith, refl}
use Rattle.std.specs.Prelude.{◌==◌}
use Rattle.edi_kernel.specs.Table.{live_in}
use Rattle.edi_kernel.specs.Stretch.{cleared_in, running_in}
use Rattle.edi_kernel.proofs.Plain.{told_arrival, told_on}
use Rattle.edi_kernel.proofs.Stretches.{lasts_on, told_more, told_last, spends_less}
use Rattle.edi_kernel.proofs.stretch.advance.Goals as goal

pub returns-in-Some-clause-exact : goal.returns-in-Some-clause-exact
returns-in-Some-clause-exact g c =
    told_last c.args.code.now.words (live_in c.args.table.now) (c.args.slot == 0)
    (λ s. running_in c.args.store.now c.args.progress.now.activity s c.args.progress.now.left)
    (λ s. running_in c.go_plainly.new.store c.go_plainly.new.progress.activity s c.go_plainly.new.progress.left)
    (λ s. running_in c.instruct_among.new.store c.instruct_among.new.progress.activity s c.instruct_among.new.progress.left)
    (cleared_in c.args.progress.now) (cleared_in c.go_plainly.new.progress) c.instruct_among.new.progress.cleared
    _ (g.C.Calls.state c.stretch.calls) _ c.in-Some.pause
    (told_on c.args.code.now.words c.words.result.now c.words.ensures.value (live_in c.args.table.now) (c.args.slot == 0)
    (λ s. running_in c.args.store.now c.args.progress.now.activity s c.args.progress.now.left)
    (λ s. running_in c.stretch.store c.stretch.progress.activity s c.stretch.progress.left)
    (λ s. running_in c.go_plainly.new.store c.go_plainly.new.progress.activity s c.go_plainly.new.progress.left)
    (cleared_in c.args.progress.now) (cleared_in c.stretch.progress) (cleared_in c.go_plainly.new.progress)
    _ _ c.stretch.invariant.reached
    (c.go_plainly.ensures.goes c.if-go_plainly.false (live_in c.args.table.now) (c.args.slot == 0))) c.in-Some.ensures.exact

pub stretch-preserved : goal.stretch-preserved
stretch-preserved g c = record {
  reached =
      told_more c.args.code.now.words (live_in c.args.table.now) (c.args.slot == 0)
      (λ s. running_in c.args.store.now c.args.progress.now.activity s c.args.progress.now.left)
      (λ s. running_in c.go_plainly.new.store c.go_plainly.new.progress.activity s c.go_plainly.new.progress.left)
      (λ s. running_in c.instruct_among.new.store c.instruct_among.new.progress.activity s c.instruct_among.new.progress.left)
      (cleared_in c.args.progress.now) (cleared_in c.go_plainly.new.progress) (cleared_in c.instruct_among.new.progress)
      _ (g.C.Calls.state c.stretch.calls) _
      (told_on c.args.code.now.words c.words.result.now c.words.ensures.value (live_in c.args.table.now) (c.args.slot == 0)
      (λ s. running_in c.args.store.now c.args.progress.now.activity s c.args.progress.now.left)
      (λ s. running_in c.stretch.store c.stretch.progress.activity s c.stretch.progress.left)
      (λ s. running_in c.go_plainly.new.store c.go_plainly.new.progress.activity s c.go_plainly.new.progress.left)
      (cleared_in c.args.progress.now) (cleared_in c.stretch.progress) (cleared_in c.go_plainly.new.progress)
      _ _ c.stretch.invariant.reached
      (c.go_plainly.ensures.goes c.if-go_plainly.false (live_in c.args.table.now) (c.args.slot == 0))) c.in_default.ensures.exact;
  working = c.in_default.ensures.blame;
  lasts = lasts_on g.C.Calls.faults g.C.Calls.references g.C.Calls.leads _ _ _ c.stretch.invariant.lasts c.in_default.ensures.lasts;
  ordered = c.in_default.ensures.ordered;
  phase = c.in_default.ensures.phase refl;
  less = omega (arith, c.in_default.ensures.less, c.go_plainly.ensures.less, c.stretch.invariant.less);
}

pub returns-in-Some-clause-spends : goal.returns-in-Some-clause-spends
returns-in-Some-clause-spends g c =
    spends_less c.in-Some.pause _ _ _ c.in-Some.ensures.spends (omega (arith, c.go_plainly.ensures.less, c.stretch.invariant.less))

pub returns-then-go_plainly-clause-exact : goal.returns-then-go_plainly-clause-exact
returns-then-go_plainly-clause-exact g c =
    told_arrival c.args.code.now.words c.words.result.now c.words.ensures.value (live_in c.args.table.now) (c.args.slot == 0)
    (λ s. running_in c.args.store.now c.args.progress.now.activity s c.args.progress.now.left)
    (λ s. running_in c.stretch.store c.stretch.progress.activity s c.stretch.progress.left)
    (λ s. running_in c.go_plainly.new.store c.go_plainly.new.progress.activity s c.go_plainly.new.progress.left)
    (cleared_in c.args.progress.now) (cleared_in c.stretch.progress) c.go_plainly.new.progress.cleared
    _ _ c.stretch.invariant.reached (c.go_plainly.ensures.pauses c.if-go_plainly.true (live_in c.args.table.now) (c.args.slot == 0))
