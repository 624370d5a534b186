-- The exits of a run without a disk.
use Rattle.std.proofs.Common.{None, Some, ap, option_map}
use Rattle.edi_words.specs.View.{account_of}
use Rattle.edi_statuses.specs.EachObject.{is_before_drive}
use Rattle.edi_statuses.specs.Outside.{blaming, kernel_of, lent}
use Rattle.edi_main.specs.run.OnAccounts.{IsGiven}
use Rattle.edi_main.proofs.run.Alone.{alone_by, alone_wants}
use Rattle.edi_main.proofs.run.demonstration.run_alone.Goals as goal

pub returns-in_default-clause-ran : goal.returns-in_default-clause-ran
returns-in_default-clause-ran g c = (
  None,
  tt,
  alone_wants (option_map account_of c.args.account) (IsGiven (Some c.args.text.now) c.args.code.now) c.args.turns c.args.choices.now.source (option_map (λ name. name.now) c.args.record_file) c.stopped.result.status
      c.stopped.result.due (g.F.Files.contents c.args.files.now) (g.T.Sink.taken c.args.terminal.now) (g.P.Sink.taken c.args.printer.now)
      (kernel_of c.args.kernel.now.store c.args.kernel.now.used) c.stopped.ensures.status_is c.stopped.ensures.due,
)

pub returns-in_default-new-clause-ran : goal.returns-in_default-new-clause-ran
returns-in_default-new-clause-ran g c = (
  None,
  tt,
  alone_wants (option_map account_of c.args.account) (IsGiven (Some c.args.text.now) c.args.code.now) c.args.turns c.args.choices.now.source (option_map (λ name. name.now) c.args.record_file)
      c.stopped-in_default-new.result.status c.stopped-in_default-new.result.due (g.F.Files.contents c.args.files.now) (g.T.Sink.taken c.args.terminal.now)
      (g.P.Sink.taken c.args.printer.now) (kernel_of c.args.kernel.now.store c.args.kernel.now.used) c.stopped-in_default-new.ensures.status_is
      c.stopped-in_default-new.ensures.due,
)

pub returns-clause-ran : goal.returns-clause-ran
returns-clause-ran g c =
    let r = c.run_with.ensures.ran in (
      r.0,
      r.1,
      alone_by (option_map account_of c.args.account) (IsGiven (Some c.args.text.now) c.args.code.now) c.args.turns c.args.choices.now.source
          (option_map (λ name. name.now) c.args.record_file) c.run_with.result.status
          c.run_with.result.due (g.F.Files.contents c.args.files.now) (g.F.Files.contents c.run_with.new.files) (g.T.Sink.taken c.args.terminal.now)
          (g.T.Sink.taken c.run_with.new.terminal) (g.P.Sink.taken c.args.printer.now) (g.P.Sink.taken c.run_with.new.printer)
          (blaming r.0 (lent c.args.kernel.now.store c.args.kernel.now.used c.run_with.new.kernel.store c.run_with.new.kernel.used))
          c.in-Ok.disk c.run_with.new.drive c.in-Ok-new.input c.run_with.new.input c.in-Ok.ensures.made c.in-Ok-new.ensures.left r.2,
    )

pub returns-in_default-clause-asked : goal.returns-in_default-clause-asked
returns-in_default-clause-asked g c = ap is_before_drive c.stopped.ensures.status_is

pub returns-in_default-new-clause-asked : goal.returns-in_default-new-clause-asked
returns-in_default-new-clause-asked g c = ap is_before_drive c.stopped-in_default-new.ensures.status_is

pub returns-clause-asked : goal.returns-clause-asked
returns-clause-asked g c = c.run_with.ensures.asked.behind_steps
