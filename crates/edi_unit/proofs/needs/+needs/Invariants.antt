use Rattle.std.specs.Prelude.{map}
use Rattle.edi_unit.specs.View.{block_of, acts, act_of, clauses, clause_of}
use Rattle.edi_unit.specs.Need.{acts_height, clauses_height}
use Rattle.edi_unit.proofs.Loops.{Heightens}
use Rattle.edi_unit.proofs.needs.+needs.Given as goal

abbrev pub invariant-acts_words-loop-act : goal.invariant-acts_words-loop-act
invariant-acts_words-loop-act l = Heightens act_of acts (acts_height l.types (map block_of l.blocks) l.block) l.words l.act-index l.act-items

abbrev pub invariant-act_words-loop-clause : goal.invariant-act_words-loop-clause
invariant-act_words-loop-clause l =
    Heightens clause_of clauses (clauses_height l.types (map block_of l.blocks) l.block) l.words l.clause-index l.clause-items
