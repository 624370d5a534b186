use Rattle.edi_edit.proofs.Back.{length-earlier, replace_pushed}
use Rattle.edi_edit.proofs.Text.replace.Goals as goal

pub returns-in_err-was-clause-undos : goal.returns-in_err-was-clause-undos
returns-in_err-was-clause-undos c = rw (length-earlier c.self.inside.steps.items _) c.self.invariant.few

pub invariant_of-self-2 : goal.invariant_of-self-2
invariant_of-self-2 c =
    let done = c.in_ok-was.ensures.exact in
    rw (c.keep_step.ensures.kept, done.1) (replace_pushed _ _ _ _ _ _ c.requires.one_line c.self.invariant done.0 c.in_ok-was.ensures.was).kept_is

pub returns-clause-exact : goal.returns-clause-exact
returns-clause-exact c =
    let done = c.in_ok-was.ensures.exact in
    rw (← c.self.view_is) (
      done.0,
      rw (c.keep_step.ensures.kept, done.1)
          (replace_pushed _ _ _ _ _ _ c.requires.one_line c.self.invariant done.0 c.in_ok-was.ensures.was).view,
    )

pub returns-clause-undos : goal.returns-clause-undos
returns-clause-undos c =
    let done = c.in_ok-was.ensures.exact in
    rw (c.keep_step.ensures.kept, done.1) (replace_pushed _ _ _ _ _ _ c.requires.one_line c.self.invariant done.0 c.in_ok-was.ensures.was).few
