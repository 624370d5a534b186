-- The exits of a run of a code with an account of either kind.
use Rattle.std.proofs.Common.{option_map, sym, subst}
use Rattle.edi_words.specs.View.{account_of}
use Rattle.edi_words.specs.Words.{timeline}
use Rattle.edi_statuses.specs.Outside.{Lent, Outside, blaming, lent, outside_of}
use Rattle.edi_main.specs.run.OnAccounts.{IsGiven, RanAccount}
use Rattle.edi_main.proofs.run.AccountEnds.{of_given}
use Rattle.edi_main.proofs.run.accounts.account_code.Goals as goal

pub returns-in-Timeline-clause-ran : goal.returns-in-Timeline-clause-ran
returns-in-Timeline-clause-ran g c =
    let r = c.time_code.ensures.ran in
    let before : Outside = outside_of g.F.Files.contents g.D.Drive.contents g.S.Source.left g.T.Sink.taken g.P.Sink.taken c.args.files.now
    c.args.drive.now c.args.input.now c.args.terminal.now c.args.printer.now in
    let after : Outside = outside_of g.F.Files.contents g.D.Drive.contents g.S.Source.left g.T.Sink.taken g.P.Sink.taken c.time_code.new.files
    c.time_code.new.drive c.time_code.new.input c.time_code.new.terminal c.time_code.new.printer in
    let kernel : Lent = blaming r.0 (lent c.args.kernel.now.store c.args.kernel.now.used c.time_code.new.kernel.store c.time_code.new.kernel.used) in
    let text = option_map (λ bytes. bytes.now) c.args.text in (
      r.0,
      r.1,
      subst (λ a. RanAccount (IsGiven text c.args.code.now) c.args.turns c.args.choices.now.source (account_of a)
          (option_map (λ name. name.now) c.args.record_file) c.time_code.result.status c.time_code.result.due before after kernel) (sym c.in-Timeline.is)
          (of_given text c.args.code.now (timeline c.in-Timeline.out.now) c.args.turns c.args.choices.now.source
          (option_map (λ name. name.now) c.args.record_file) c.time_code.result.status c.time_code.result.due before after kernel r.2),
    )
