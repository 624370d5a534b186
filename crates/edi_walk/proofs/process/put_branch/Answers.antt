use Rattle.std.proofs.Common.{[], sym, subst}
use Rattle.std.specs.Prelude.{map}
use Rattle.std.proofs.lemmas.List.{append-nil}
use Rattle.edi_unit.specs.View.{acts, act_of}
use Rattle.edi_walk.specs.Processes.{acts_bare}
use Rattle.edi_walk.specs.Works.{PutsChosen, PutsFirst}
use Rattle.edi_walk.proofs.process.put_branch.Goals as goal

pub returns-in-Some : goal.returns-in-Some
returns-in-Some c = record {
  exact = subst (λ b. PutsChosen [] b c.put_first.result c.args.work.now.items c.put_first.new.work.items) (sym c.in-Some.is)
      (subst (λ l. PutsFirst l c.put_first.result c.args.work.now.items c.put_first.new.work.items)
      (sym (append-nil (acts_bare (acts (map act_of c.in-Some.body.now))))) c.put_first.ensures.exact);
}
