-- Definition. The `when`s of a program in the order of the text, each with its line, its block, and what one name means there.
use Rattle.std.specs.Prelude.{ℕ, Bool, false, true, if◌then◌else◌, List, [], ◌∷◌, ◌++◌, length, Option, Some, None}
use Rattle.edi_scope.specs.declared.entity.Entity.{Entity}
use Rattle.edi_scope.specs.declared.entity.Entity.TheVariants as entity
use Rattle.edi_scope.specs.Scope.{visible}
use Rattle.edi_tree.specs.Tree as text
use Rattle.edi_unit.specs.Types.{is_elementary}
use Rattle.edi_unit.specs.Tree.{Acts}
use Rattle.edi_static.specs.Judged.{Judged, gives, faults, ◌>>=◌}
use Rattle.edi_static.specs.Environment.{Environment, here, steps_to}
use Rattle.edi_static.specs.Statements.{After, enter_branch, leave_branch, statement, condition, branch}
use Rattle.edi_static.specs.Declarations.{begun_named, heading_of, procedure_name, begin_procedure, begin_post, block_of, enter_block, members, member}
use Rattle.edi_static.specs.Declarations.{declarations, declaration}
use Rattle.edi_static.specs.Programs.{global_decls}
use Rattle.edi_sema.specs.Bodies.{inside_module}
use Rattle.edi_sema.specs.Whole.{first_environment, begun_program}
use Rattle.edi_sights.specs.declared.awaits.Await.{Await}
use Rattle.edi_sights.specs.declared.answer.Sighted.{Sighted}

-- ---- one `when`

-- a variable of an elementary type, as it is seen from a place: the steps out to its block, and its number there
abbrev pub sighted : Environment → Option Entity → Option Sighted
sighted env (Some (entity.Variable block variable of)) =
    if is_elementary env.types of then Some (record { levels = steps_to block env.around; variable = variable }) else None
sighted env _ = None

-- a `when` at a place, where the name has a meaning or none
abbrev pub await_at : (name : List ℕ) → (line : ℕ) → Environment → Await
await_at name line env = record { line = line; block = here env; slot = sighted env (visible env.scopes name) }

-- ---- the `when`s of statements, behind those met before

-- with what is known behind a construct, by the static rules
abbrev pub behind : {A : Type 0} → Judged A → (A → List Await → List Await) → List Await → List Await
behind (gives a) f awaits = f a awaits
behind (faults why line) f awaits = awaits

abbrev mutual
  pub list_met : (name : List ℕ) → text.StatementList → Environment → List Await → List Await
  list_met name (text.list s more) env awaits =
      behind (statement s env) (λ one. statements_met name more one.env) (statement_met name s env awaits)

  pub statements_met : (name : List ℕ) → text.Statements → Environment → List Await → List Await
  statements_met name text.no_statement env awaits = awaits
  statements_met name (text.next_statement s more) env awaits =
      behind (statement s env) (λ one. statements_met name more one.env) (statement_met name s env awaits)

  -- a `when` stands before those in its body
  pub statement_met : (name : List ℕ) → text.Statement → Environment → List Await → List Await
  statement_met name text.skip env awaits = awaits
  statement_met name (text.assignment v line e) env awaits = awaits
  statement_met name (text.call called xs) env awaits = awaits
  statement_met name (text.if_statement cs) env awaits = conditions_met name cs env awaits
  statement_met name (text.while_statement cs) env awaits = conditions_met name cs env awaits
  statement_met name (text.when_statement line cs) env awaits = conditions_met name cs env (awaits ++ await_at name line env ∷ [])
  statement_met name (text.cobegin line b bs) env awaits = behind (branch b env) (branches_met name bs env) (branch_met name b env awaits)

  pub conditions_met : (name : List ℕ) → text.Conditions → Environment → List Await → List Await
  conditions_met name (text.conditions c more) env awaits =
      behind (condition c env) (λ one. elses_met name more one.env) (condition_met name c env awaits)

  pub elses_met : (name : List ℕ) → text.Else → Environment → List Await → List Await
  elses_met name text.no_else env awaits = awaits
  elses_met name (text.next_else c more) env awaits =
      behind (condition c env) (λ one. elses_met name more one.env) (condition_met name c env awaits)

  pub condition_met : (name : List ℕ) → text.Condition → Environment → List Await → List Await
  condition_met name (text.condition e line s) env awaits = list_met name s env awaits

  -- a branch is a block of its own
  pub branch_met : (name : List ℕ) → text.Branch → Environment → List Await → List Await
  branch_met name (text.branch c line s) env awaits = list_met name s (enter_branch env) awaits

  -- behind the statements of a branch that began in an environment
  pub branches_met : (name : List ℕ) → text.Branches → (before : Environment) → After Acts → List Await → List Await
  branches_met name (text.no_branch end) before done awaits = awaits
  branches_met name (text.next_branch also b bs) before done awaits =
      behind (leave_branch before also done)
      (λ one awaits. behind (branch b one.env) (branches_met name bs one.env) (branch_met name b one.env awaits)) awaits

-- ---- the `when`s of declarations

abbrev mutual
  pub procedure_met : (name : List ℕ) → (block : ℕ) → text.Procedure → Environment → List Await → List Await
  procedure_met name block (text.procedure h ds s end) env awaits =
      behind (declarations ds (enter_block block env)) (list_met name s) (declarations_met name ds (enter_block block env) awaits)

  pub item_met : (name : List ℕ) → (export : Bool) → text.Item → Environment → List Await → List Await
  item_met name export (text.procedure_item p) env awaits =
      behind (begin_procedure export (heading_of p) env) (procedure_met name (length env.blocks) p) awaits
  item_met name export (text.post_item p) env awaits =
      behind (begin_post export (heading_of p) env) (procedure_met name (block_of env (begun_named env.begun (procedure_name p).text)) p) awaits
  item_met name export _ env awaits = awaits

  pub module_met : (name : List ℕ) → text.Module → Environment → List Await → List Await
  module_met name (text.module_with ms s) env awaits =
      behind (members ms (inside_module env)) (list_met name s) (members_met name ms (inside_module env) awaits)

  pub members_met : (name : List ℕ) → text.Members → Environment → List Await → List Await
  members_met name text.no_member env awaits = awaits
  members_met name (text.next_member m ms) env awaits = behind (member m env) (members_met name ms) (member_met name m env awaits)

  pub member_met : (name : List ℕ) → text.Member → Environment → List Await → List Await
  member_met name (text.item_member i) env awaits = item_met name false i env awaits
  member_met name (text.exported_member i) env awaits = item_met name true i env awaits
  member_met name (text.module_member m) env awaits = module_met name m env awaits

  pub declarations_met : (name : List ℕ) → text.Declarations → Environment → List Await → List Await
  declarations_met name text.no_declaration env awaits = awaits
  declarations_met name (text.next_declaration d ds) env awaits =
      behind (declaration d env) (declarations_met name ds) (declaration_met name d env awaits)

  pub declaration_met : (name : List ℕ) → text.Declaration → Environment → List Await → List Await
  declaration_met name (text.item_declaration i) env awaits = item_met name false i env awaits
  declaration_met name (text.module_declaration m) env awaits = module_met name m env awaits

-- ---- the `when`s of a program

-- behind the heading of a program
abbrev pub program_met : (name : List ℕ) → text.Procedure → Environment → List Await → List Await
program_met name p env awaits =
    behind (begun_program (heading_of p) env >>= λ heads. gives heads.env) (procedure_met name 0 p) awaits

abbrev pub awaits_of : (name : List ℕ) → text.Program → List Await
awaits_of name (text.program globals p) = behind (global_decls globals first_environment) (program_met name p) []
