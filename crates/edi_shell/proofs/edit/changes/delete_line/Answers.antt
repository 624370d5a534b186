use Rattle.edi_shell.proofs.edit.changes.delete_line.Goals as goal

pub returns-clause-exact : goal.returns-clause-exact
returns-clause-exact g c = λ s title a t. c.answer_change.ensures.exact s title _ c.args.text.now _ c.delete-deleted.new.self c.delete-deleted.ensures.exact a t
