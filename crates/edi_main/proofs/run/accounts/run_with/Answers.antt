-- The exits of a run of a code, with an account or without one.
use Rattle.std.proofs.Common.{option_map, sym, subst}
use Rattle.edi_words.specs.View.{account_of}
use Rattle.edi_statuses.specs.Outside.{Lent, Outside, blaming, lent, outside_of}
use Rattle.edi_main.specs.run.OnAccounts.{IsGiven, RanWith}
use Rattle.edi_main.proofs.run.AccountEnds.{ran_plainly}
use Rattle.edi_main.proofs.run.accounts.run_with.Goals as goal

pub returns-in-None-clause-ran : goal.returns-in-None-clause-ran
returns-in-None-clause-ran g c =
    let r = c.run_code.ensures.ran in
    let before : Outside = outside_of g.F.Files.contents g.D.Drive.contents g.S.Source.left g.T.Sink.taken g.P.Sink.taken c.args.files.now
    c.args.drive.now c.args.input.now c.args.terminal.now c.args.printer.now in
    let after : Outside = outside_of g.F.Files.contents g.D.Drive.contents g.S.Source.left g.T.Sink.taken g.P.Sink.taken c.run_code.new.files
    c.run_code.new.drive c.run_code.new.input c.run_code.new.terminal c.run_code.new.printer in
    let kernel : Lent = blaming r.0 (lent c.args.kernel.now.store c.args.kernel.now.used c.run_code.new.kernel.store c.run_code.new.kernel.used) in (
      r.0,
      r.1,
      subst (λ t. RanWith (option_map account_of t) (IsGiven (option_map (λ bytes. bytes.now) c.args.text) c.args.code.now) c.args.turns c.args.choices.now.source
          (option_map (λ name. name.now) c.args.record_file) c.run_code.result.status c.run_code.result.due before after kernel) (sym c.in-None.is)
          (ran_plainly (IsGiven (option_map (λ bytes. bytes.now) c.args.text) c.args.code.now) c.args.code.now (λ program is. is.0) c.args.turns c.args.choices.now.source (option_map (λ name. name.now) c.args.record_file) c.run_code.result.status
          c.run_code.result.due before after kernel r.2),
    )
