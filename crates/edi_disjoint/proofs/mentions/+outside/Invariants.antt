use Rattle.std.proofs.Common.{◌≡◌, ◌++◌, drop}
use Rattle.std.specs.Prelude.{map}
use Rattle.edi_unit.specs.View.{acts, act_of, clauses, clause_of}
use Rattle.edi_disjoint.specs.Mentions.{in_acts, in_clauses}
use Rattle.edi_disjoint.specs.Open.{open_acts, open_clauses}
use Rattle.edi_disjoint.proofs.mentions.+outside.Given as goal

abbrev pub invariant-put_open_acts-loop-act : goal.invariant-put_open_acts-loop-act
invariant-put_open_acts-loop-act l = l.list.items ++ in_acts (open_acts (acts (map act_of (drop l.act-index l.act-items))))
    ≡ l.fn.list.items ++ in_acts (open_acts (acts (map act_of l.act-items)))

abbrev pub invariant-put_open_clauses-loop-clause : goal.invariant-put_open_clauses-loop-clause
invariant-put_open_clauses-loop-clause l = l.list.items ++ in_clauses (open_clauses (clauses (map clause_of (drop l.clause-index l.clause-items))))
    ≡ l.fn.list.items ++ in_clauses (open_clauses (clauses (map clause_of l.clause-items)))
