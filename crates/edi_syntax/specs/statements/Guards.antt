-- Words of contracts. The statements with conditions: `if`, `while` and `when`.
use Rattle.std.specs.Prelude.{ℕ, Bool, true, false}
use Rattle.edi_lex.specs.declared.symbol.Symbol.{Symbol}
use Rattle.edi_lex.specs.declared.symbol.Symbol.TheVariants as is
use Rattle.edi_tree.specs.Tree.{Statement, Conditions, if_statement, while_statement, when_statement}

-- whether such a statement begins with this symbol
abbrev pub is_guard : Symbol → Bool
is_guard is.If = true
is_guard is.While = true
is_guard is.When = true
is_guard _ = false

-- the statement that begins with this one of the three, on this line
abbrev pub guarded : Symbol → ℕ → Conditions → Statement
guarded is.If line cs = if_statement cs
guarded is.While line cs = while_statement cs
guarded _ line cs = when_statement line cs
