use Rattle.edi_explain.proofs.expected.after.expected_behind.Goals as goal

pub returns : goal.returns
returns c = record { exact = c.in_ok-expected.ensures.exact c.args.before.now c.in_ok-found.ensures.exact }
