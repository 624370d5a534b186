-- Definition. The rules on statements.
use Rattle.std.specs.Prelude.{ℕ, not, ◌&&◌, ◌==◌, nat_le, List, [], ◌∷◌, length, Option, Some, None}
use Rattle.edi_tree.specs.Tree as text
use Rattle.edi_unit.specs.declared.units.BlockKind.TheVariants as block_kind
use Rattle.edi_unit.specs.Types.{int_type, bool_type, greatest_size}
use Rattle.edi_unit.specs.Tree as unit
use Rattle.edi_unit.specs.Tree.{Act, Acts, Block}
use Rattle.edi_unit.specs.Need.{block_at, need}
use Rattle.edi_unit.specs.Headings.{heading_formals}
use Rattle.edi_static.specs.declared.faults.StaticKind.TheVariants as kind
use Rattle.edi_static.specs.Judged.{Judged, gives, faults, ◌>>=◌, must}
use Rattle.edi_static.specs.Environment.{Environment, look_up, here, begun_block, with_block, set_block, no_heading}
use Rattle.edi_static.specs.Types.{constant}
use Rattle.edi_static.specs.Fitting.{Called, Use, constructs, calls, halts, neither, use_of, is_function, takes_so_many}
use Rattle.edi_static.specs.Expressions.{expression, variable_place, all_arguments, args_count}

-- what a construct becomes, and what is known after it
pub record After (A : Type 0) : Type 0 where
  pub what : A
  pub env : Environment

-- ---- calls as statements

-- a call as a statement is that of a procedure, with as many arguments as its heading has parameters
abbrev pub procedure_called : (line : ℕ) → Called → ℕ → Judged (Unit {0})
procedure_called line c n = must (not (is_function c.asks) && takes_so_many c.asks n) kind.Call line

abbrev pub called : Environment → (line : ℕ) → Use → Option text.Args → Judged Act
called env line (calls c) None = procedure_called line c 0 >>= λ _. gives (unit.call c.callee unit.no_argument line)
called env line (calls c) (Some xs) =
    procedure_called line c (args_count xs) >>= λ _.
    all_arguments env line xs (heading_formals c.asks) >>= λ as'. gives (unit.call c.callee as' line)
called env line halts None = gives (unit.halt line)
called env line halts (Some xs) = faults kind.Call line
called env line (constructs of) xs = faults kind.Kind line
called env line neither xs = faults kind.Kind line

-- ---- assignments

-- the variable and the expression are of one type
abbrev pub assigned : Environment → text.Variable → (line : ℕ) → text.Expr → Judged Act
assigned env v line e =
    variable_place env v >>= λ l. expression env e >>= λ x. must (l.of == x.of) kind.Types line >>= λ _.
    gives (unit.assign l.at x.what)

-- ---- ends of blocks

abbrev pub acts_append : Acts → Acts → Acts
acts_append unit.no_act more = more
acts_append (unit.act_then a s) more = unit.act_then a (acts_append s more)

abbrev pub with_statements : Acts → Block → Block
with_statements s block = record block { body = acts_append block.body s }

-- the statements of a block come behind those that it has already, which are those of its modules
abbrev pub add_statements : ℕ → Acts → Environment → Environment
add_statements n s env = set_block n (with_statements s (block_at env.blocks n)) env

-- a block needs at most 65,535 words; that is judged at the symbol that closes it
abbrev pub with_need : ℕ → (line : ℕ) → Environment → Judged Environment
with_need n line env =
    must (nat_le (need env.types env.blocks n) greatest_size) kind.Range line >>= λ _.
    gives (set_block n (record (block_at env.blocks n) { need = need env.types env.blocks n }) env)

abbrev pub close_block : ℕ → Acts → (line : ℕ) → Environment → Judged Environment
close_block n s line env = with_need n line (add_statements n s env)

-- ---- branches

-- a branch is a block of its own in the block where it stands
abbrev pub enter_branch : Environment → Environment
enter_branch env =
    let inner : Environment = with_block (begun_block block_kind.Branch (here env) None []) no_heading env in
    record inner { around = length env.blocks ∷ env.around }

-- after the statements of the branch that began in an environment
abbrev pub leave_branch : (before : Environment) → (line : ℕ) → After Acts → Judged (After ℕ)
leave_branch before line done =
    close_block (length before.blocks) done.what line done.env >>= λ after.
    gives (record { what = length before.blocks; env = record after { around = before.around } })

-- ---- statements

-- the statements of a list, and what is known after them
abbrev mutual
  pub statement_list : text.StatementList → Environment → Judged (After Acts)
  statement_list (text.list s more) env =
      statement s env >>= λ one. statements more one.env >>= λ others.
      gives (record { what = unit.act_then one.what others.what; env = others.env })

  pub statements : text.Statements → Environment → Judged (After Acts)
  statements text.no_statement env = gives (record { what = unit.no_act; env = env })
  statements (text.next_statement s more) env =
      statement s env >>= λ one. statements more one.env >>= λ others.
      gives (record { what = unit.act_then one.what others.what; env = others.env })

  pub statement : text.Statement → Environment → Judged (After Act)
  statement text.skip env = gives (record { what = unit.skip; env = env })
  statement (text.assignment v line e) env = assigned env v line e >>= λ a. gives (record { what = a; env = env })
  statement (text.call name xs) env =
      look_up env name >>= λ means. called env name.line (use_of env means) xs >>= λ a. gives (record { what = a; env = env })
  statement (text.if_statement cs) env =
      conditions cs env >>= λ done. gives (record { what = unit.if_act done.what; env = done.env })
  statement (text.while_statement cs) env =
      conditions cs env >>= λ done. gives (record { what = unit.while_act done.what; env = done.env })
  statement (text.when_statement line cs) env =
      conditions cs env >>= λ done. gives (record { what = unit.when_act done.what line; env = done.env })
  statement (text.cobegin line b bs) env =
      branch b env >>= branches bs env >>= λ done. gives (record { what = unit.cobegin done.what line; env = done.env })

  pub conditions : text.Conditions → Environment → Judged (After unit.Clauses)
  conditions (text.conditions c more) env =
      condition c env >>= λ one. elses more one.env >>= λ others.
      gives (record { what = unit.clause_then one.what others.what; env = others.env })

  pub elses : text.Else → Environment → Judged (After unit.Clauses)
  elses text.no_else env = gives (record { what = unit.no_clause; env = env })
  elses (text.next_else c more) env =
      condition c env >>= λ one. elses more one.env >>= λ others.
      gives (record { what = unit.clause_then one.what others.what; env = others.env })

  -- a condition is of type `bool`; that is judged at its `do`, before the statements behind it
  pub condition : text.Condition → Environment → Judged (After unit.Clause)
  condition (text.condition e line s) env =
      expression env e >>= λ c. must (c.of == bool_type) kind.Types line >>= λ _.
      statement_list s env >>= λ done. gives (record { what = unit.clause c.what done.what; env = done.env })

  -- a branch's constant is of type `int`; that too is judged at its `do`
  pub branch : text.Branch → Environment → Judged (After Acts)
  branch (text.branch c line s) env =
      constant env c >>= λ k. must (k.of == int_type) kind.Types line >>= λ _. statement_list s (enter_branch env)

  -- behind the statements of a branch that began in an environment: the symbol that closes it, and the branches behind that
  pub branches : text.Branches → (before : Environment) → After Acts → Judged (After (List ℕ))
  branches (text.no_branch end) before done =
      leave_branch before end done >>= λ one. gives (record { what = one.what ∷ []; env = one.env })
  branches (text.next_branch also b bs) before done =
      leave_branch before also done >>= λ one.
      branch b one.env >>= branches bs one.env >>= λ others.
      gives (record { what = one.what ∷ others.what; env = others.env })
