-- Words of contracts. The `when`s of statements, met without judging these: only the number of the next block has to be known besides.
use Rattle.std.specs.Prelude.{ℕ, suc, List, [], ◌∷◌, ◌++◌, length}
use Rattle.edi_tree.specs.Tree as text
use Rattle.edi_static.specs.Environment.{Environment}
use Rattle.edi_sema.specs.Blocks.{inside_block}
use Rattle.edi_sights.specs.declared.awaits.Await.{Await}
use Rattle.edi_sights.specs.Awaits.{await_at}

-- those met so far, and the number of the next block
pub record Met : Type 0 where
  pub awaits : List Await
  pub next : ℕ

abbrev pub with_await : Await → Met → Met
with_await a met = record met { awaits = met.awaits ++ a ∷ [] }

abbrev pub with_block : Met → Met
with_block met = record met { next = suc met.next }

-- Statements declare nothing, so what is known at one place of them is known at each. A branch is the next block, and stands
-- in it.
abbrev mutual
  pub list_counted : (name : List ℕ) → text.StatementList → Environment → Met → Met
  list_counted name (text.list s more) env met = statements_counted name more env (statement_counted name s env met)

  pub statements_counted : (name : List ℕ) → text.Statements → Environment → Met → Met
  statements_counted name text.no_statement env met = met
  statements_counted name (text.next_statement s more) env met = statements_counted name more env (statement_counted name s env met)

  -- a `when` stands before those in its body
  pub statement_counted : (name : List ℕ) → text.Statement → Environment → Met → Met
  statement_counted name text.skip env met = met
  statement_counted name (text.assignment v line e) env met = met
  statement_counted name (text.call called xs) env met = met
  statement_counted name (text.if_statement cs) env met = conditions_counted name cs env met
  statement_counted name (text.while_statement cs) env met = conditions_counted name cs env met
  statement_counted name (text.when_statement line cs) env met = conditions_counted name cs env (with_await (await_at name line env) met)
  statement_counted name (text.cobegin line b bs) env met = branches_counted name bs env (branch_counted name b env met)

  pub conditions_counted : (name : List ℕ) → text.Conditions → Environment → Met → Met
  conditions_counted name (text.conditions c more) env met = elses_counted name more env (condition_counted name c env met)

  pub elses_counted : (name : List ℕ) → text.Else → Environment → Met → Met
  elses_counted name text.no_else env met = met
  elses_counted name (text.next_else c more) env met = elses_counted name more env (condition_counted name c env met)

  pub condition_counted : (name : List ℕ) → text.Condition → Environment → Met → Met
  condition_counted name (text.condition e line s) env met = list_counted name s env met

  pub branch_counted : (name : List ℕ) → text.Branch → Environment → Met → Met
  branch_counted name (text.branch c line s) env met = list_counted name s (inside_block met.next env) (with_block met)

  pub branches_counted : (name : List ℕ) → text.Branches → Environment → Met → Met
  branches_counted name (text.no_branch end) env met = met
  branches_counted name (text.next_branch also b bs) env met = branches_counted name bs env (branch_counted name b env met)

-- the statements of a procedure or a module
abbrev pub body_counted : (name : List ℕ) → text.StatementList → Environment → List Await → List Await
body_counted name s env awaits = (list_counted name s env (record { awaits = awaits; next = length env.blocks })).awaits
