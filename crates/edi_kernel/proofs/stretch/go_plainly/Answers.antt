-- Plain instructions, one after another.
use Rattle.std.proofs.Common.{refl, subst, sym, arith}
use Rattle.edi_machine.specs.declared.ends.TurnKind.TheVariants as kind
use Rattle.edi_kernel.specs.declared.stretch.Pause.TheVariants as pause
use Rattle.edi_kernel.specs.declared.stretch.Progress.{Progress}
use Rattle.edi_kernel.specs.Stretch.{cleared_in, running_in, with_activity, Stretches}
use Rattle.edi_kernel.proofs.Plain.{segment_on}
use Rattle.edi_kernel.proofs.Stretches.{last, measure_falls, one_more}
use Rattle.edi_kernel.proofs.stretch.go_plainly.Goals as goal

pub plain-preserved : goal.plain-preserved
plain-preserved c =
    let e = c.in-On.ensures in
    let began = c.args.progress.now in
    let now = c.instruct_plainly.new in
    record {
      reached = λ live is_first s.
          one_more c.args.words.now live is_first (running_in c.args.store.now began.activity s began.left)
          (running_in c.plain.store c.plain.here s c.plain.progress.left) (running_in now.store now.activity s now.progress.left)
          (cleared_in began) (cleared_in (with_activity c.plain.progress c.plain.here)) (cleared_in (with_activity now.progress now.activity))
          (c.plain.invariant.reached live is_first s) (e.exact live is_first s);
      ordered = e.ordered;
      phase = e.phase refl;
      segment = segment_on c.plain.progress.activity now.progress.activity c.plain.here now.activity e.apart.0 c.plain.invariant.segment e.segment;
      less = omega (arith, e.less, c.plain.invariant.less);
      nearer = omega (
        arith,
        measure_falls c.args.words.now c.plain.progress.left c.plain.here.pc now.progress.left now.activity.pc (e.falls refl),
        c.plain.invariant.nearer,
      );
    }

pub returns-in-Arrived-clause-pauses : goal.returns-in-Arrived-clause-pauses
returns-in-Arrived-clause-pauses c = λ is live is_first s.
    let began = c.args.progress.now in
    let now = c.instruct_plainly.new in
    subst (λ (q : Progress). Stretches c.args.words.now live is_first (running_in c.args.store.now began.activity s began.left) (cleared_in began)
    (pause.At kind.Arrive) (running_in now.store q.activity s q.left) q.cleared) (sym c.give_back.ensures)
    (last c.args.words.now live is_first (pause.At kind.Arrive) (running_in c.args.store.now began.activity s began.left)
    (running_in c.plain.store c.plain.here s c.plain.progress.left) (running_in now.store now.activity s now.progress.left)
    (cleared_in began) (cleared_in (with_activity c.plain.progress c.plain.here)) now.progress.cleared
    (c.plain.invariant.reached live is_first s) (c.in-Arrived.ensures.exact live is_first s))
