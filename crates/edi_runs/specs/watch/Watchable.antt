-- Words of contracts. A text that can be watched, and what a watched run leaves.
use Rattle.std.specs.Prelude.{ℕ, List}
use Rattle.edi_lex.specs.declared.symbol.Mark.{Mark}
use Rattle.edi_tree.specs.Tree.{Program}
use Rattle.edi_tree.specs.Whole.{program_of}
use Rattle.edi_grammar.specs.derivation.Faults.{IsTheTree}
use Rattle.edi_unit.specs.Tree.{ProgramUnit}
use Rattle.edi_static.specs.Programs.{Resolved, Sound}
use Rattle.edi_follows.specs.Theorem.{CanBeCoded}
use Rattle.edi_code.specs.Mapped.{IsMapped}
use Rattle.edi_runs.specs.watch.Logs.{IsTreeOf}
use Rattle.edi_runs.specs.declared.watch.source.Watchable.{Watchable}

-- its program
abbrev pub program_in : Watchable → Program
program_in w = program_of w.tree

-- the program is sound, and the code is that of its unit
pub record IsWhole (w : Watchable) : Type 0 where
  pub unit : ProgramUnit
  pub sound : Sound (program_in w)
  pub resolved : Resolved (program_in w) unit
  pub can : CanBeCoded unit
  pub mapped : IsMapped unit w.mapped

-- it is of this text
pub record IsWatchable (text : List ℕ) (w : Watchable) : Type 0 where
  pub tree_is : IsTreeOf text (program_in w)
  pub whole : IsWhole w

-- The same by the symbols of the text. No public contract cites it.
pub record IsWatchableFrom (known : List Mark × ℕ) (w : Watchable) : Type 0 where
  pub tree_is : IsTheTree known.0 (program_in w)
  pub whole : IsWhole w
