-- The exits of `demo`.
use Rattle.std.proofs.Common.{rules, ◌≡◌, ◌∙◌, None, Some, true, false, option_map, subst}
use Rattle.edi_calls.specs.declared.ends.Outside.TheVariants as object
use Rattle.edi_words.specs.View.{account_of, options_of}
use Rattle.edi_utils.specs.Demo.{demo_text}
use Rattle.edi_statuses.specs.Executions.{text}
use Rattle.edi_statuses.specs.Outside.{blaming, kernel_of, lent}
use Rattle.edi_statuses.specs.Showing.{ShowsBytes}
use Rattle.edi_statuses.proofs.Causes.{rose_before}
use Rattle.edi_main.specs.run.Demonstrated.{is_ok}
use Rattle.edi_main.specs.run.OnAccounts.{IsGiven}
use Rattle.edi_main.proofs.run.Asked.{never_early, shown_behind}
use Rattle.edi_main.proofs.run.Alone.{cause_since, lined, of_demo, ran_alone, uncoded, unread}
use Rattle.edi_main.proofs.run.Coded.{line_is, of_text, ok_is}
use Rattle.edi_main.proofs.run.AccountDemo.{no_file_named}
use Rattle.edi_main.proofs.run.demonstration.demonstrate.Goals as goal

pub returns-in-Err-clause-came : goal.returns-in-Err-clause-came
returns-in-Err-clause-came g c = (
  None,
  tt,
  unread c.args.n (option_map account_of c.args.account) (options_of c.args.options) (g.F.Files.contents c.args.files.now) (g.F.Files.contents c.read_from.new.files)
      c.in-Err.ensures.only.unchanged (g.T.Sink.taken c.args.terminal.now) (g.P.Sink.taken c.args.printer.now)
      (kernel_of c.args.kernel.now.store c.args.kernel.now.used) c.in-Err.status c.stopped.result.status c.stopped.result.due c.stopped.ensures.status_is
      c.stopped.ensures.due c.in-Err.ensures.reads,
)

pub returns-in-Err-demo_code-clause-came : goal.returns-in-Err-demo_code-clause-came
returns-in-Err-demo_code-clause-came g c = (
  None,
  tt,
  uncoded c.args.n (option_map account_of c.args.account) (options_of c.args.options) (g.F.Files.contents c.args.files.now) (g.F.Files.contents c.read_from.new.files)
      c.in-Ok.ensures.only.unchanged (g.T.Sink.taken c.args.terminal.now) (g.P.Sink.taken c.args.printer.now)
      (kernel_of c.args.kernel.now.store c.args.kernel.now.used) c.stopped-in-Err-demo_code.result.status c.stopped-in-Err-demo_code.result.due
      (c.stopped-in-Err-demo_code.ensures.status_is ∙ c.in-Err-demo_code.ensures.made) c.stopped-in-Err-demo_code.ensures.due,
)

pub returns-then-not-is_ok-clause-came : goal.returns-then-not-is_ok-clause-came
returns-then-not-is_ok-clause-came g c =
    let m = c.in-Ok-demo_code.ensures.made in
    let r = c.run_alone-ended.ensures.ran in
    let not_ok : is_ok c.run_alone-ended.result.status ≡ false = search rules in (
      r.0,
      r.1,
      ran_alone c.args.n (option_map account_of c.args.account) (options_of c.args.options) (g.F.Files.contents c.args.files.now) (g.F.Files.contents c.read_from.new.files)
          (g.F.Files.contents c.run_alone-ended.new.files) c.in-Ok.choices.source c.in-Ok.ensures.reads.1 c.in-Ok.ensures.only.unchanged c.run_alone-ended.ensures.tells
          (IsGiven (Some c.deref.result.now) c.in-Ok-demo_code.made.code)
          (of_text c.deref.result.now c.in-Ok-demo_code.made.text.items c.deref.ensures.value c.in-Ok-demo_code.made.code (text (demo_text c.args.n)) m.0) (g.T.Sink.taken c.args.terminal.now) (g.T.Sink.taken c.run_alone-ended.new.terminal)
          (g.P.Sink.taken c.args.printer.now) (g.P.Sink.taken c.run_alone-ended.new.printer)
          (blaming r.0 (lent c.args.kernel.now.store c.args.kernel.now.used c.run_alone-ended.new.kernel.store c.run_alone-ended.new.kernel.used)) c.run_alone-ended.result.status
          c.run_alone-ended.result.due r.2 (of_demo c.run_alone-ended.result.status _ _ _ _ _ _ c.run_alone-ended.ensures.cause) not_ok,
    )

pub returns-clause-came : goal.returns-clause-came
returns-clause-came g c =
    let m = c.in-Ok-demo_code.ensures.made in
    let r = c.run_alone-ended.ensures.ran in
    let ok : is_ok c.run_alone-ended.result.status ≡ true = search rules in
    let turns : c.turns_used.result ≡ c.run_alone-ended.new.kernel.used = search rules in (
      Some object.Terminal,
      (λ is. rose_before _ _ _ c.run_alone-ended.ensures.later_terminal (c.show_size.ensures.cause is)),
      lined c.args.n (option_map account_of c.args.account) (options_of c.args.options) (g.F.Files.contents c.args.files.now) (g.F.Files.contents c.read_from.new.files)
          (g.F.Files.contents c.run_alone-ended.new.files) c.in-Ok.choices.source c.in-Ok.ensures.reads.1 c.in-Ok.ensures.only.unchanged c.run_alone-ended.ensures.tells
          (IsGiven (Some c.deref.result.now) c.in-Ok-demo_code.made.code)
          (of_text c.deref.result.now c.in-Ok-demo_code.made.text.items c.deref.ensures.value c.in-Ok-demo_code.made.code (text (demo_text c.args.n)) m.0) (g.T.Sink.taken c.args.terminal.now) (g.T.Sink.taken c.run_alone-ended.new.terminal)
          (g.P.Sink.taken c.args.printer.now) (g.P.Sink.taken c.run_alone-ended.new.printer)
          (blaming r.0 (lent c.args.kernel.now.store c.args.kernel.now.used c.run_alone-ended.new.kernel.store c.run_alone-ended.new.kernel.used)) c.run_alone-ended.result.status
          c.run_alone-ended.result.due r.2 (ok_is c.run_alone-ended.result.status ok) (g.T.Sink.taken c.show_size.new.terminal) c.show_size.result
          (subst (λ b. ShowsBytes b c.run_alone-ended.result.due c.show_size.result (g.T.Sink.taken c.run_alone-ended.new.terminal)
          (g.T.Sink.taken c.show_size.new.terminal))
          (line_is c.args.n c.in-Ok-demo_code.made.symbols c.turns_used.result c.run_alone-ended.new.kernel.used c.run_alone-ended.result.due r.2.ran.shown
          r.2.ran.due_is m.1 turns)
          c.show_size.ensures.shows),
    )

pub returns-then-not-is_ok-clause-early : goal.returns-then-not-is_ok-clause-early
returns-then-not-is_ok-clause-early g c = λ early. absurd (never_early c.run_alone-ended.result.status c.run_alone-ended.ensures.asked early)

pub returns-clause-early : goal.returns-clause-early
returns-clause-early g c = λ early.
    let line = c.show_size.ensures.shows in
    absurd (never_early c.show_size.result.status (shown_behind c.show_size.result.status line.0 _ line.1) early)

pub returns-in-Err-clause-no_files : goal.returns-in-Err-clause-no_files
returns-in-Err-clause-no_files g c = λ none. c.in-Err.ensures.untouched (no_file_named c.args.n c.args.account c.args.options none).1.1

pub returns-in-Err-demo_code-clause-no_files : goal.returns-in-Err-demo_code-clause-no_files
returns-in-Err-demo_code-clause-no_files g c = λ none. c.in-Ok.ensures.untouched (no_file_named c.args.n c.args.account c.args.options none).1.1

pub returns-then-not-is_ok-clause-no_files : goal.returns-then-not-is_ok-clause-no_files
returns-then-not-is_ok-clause-no_files g c = λ none.
    let unnamed = no_file_named c.args.n c.args.account c.args.options none in
    c.run_alone-ended.ensures.untouched unnamed.0 unnamed.1.0 ∙ c.in-Ok.ensures.untouched unnamed.1.1

pub returns-clause-no_files : goal.returns-clause-no_files
returns-clause-no_files g c = λ none.
    let unnamed = no_file_named c.args.n c.args.account c.args.options none in
    c.run_alone-ended.ensures.untouched unnamed.0 unnamed.1.0 ∙ c.in-Ok.ensures.untouched unnamed.1.1

pub returns-then-not-is_ok-clause-cause : goal.returns-then-not-is_ok-clause-cause
returns-then-not-is_ok-clause-cause g c =
    cause_since c.run_alone-ended.result.status _ _ _ _ _ _ _ c.in-Ok.ensures.only.later c.run_alone-ended.ensures.cause
