-- Definition. THE NAMES OF A PROGRAM: of each block of its unit the name of its procedure and the names of its variables, and of each
-- type the names of its constants. Blocks, variables and types have the numbers of the unit, which count them in the order of the text.
use Rattle.std.specs.Prelude.{ℕ, ◌==◌, if◌then◌else◌, List, [], ◌∷◌, ◌++◌, length, codes, option_map, slice_index_or, slice_set, unwrap_or}
use Rattle.edi_tree.specs.Tree as text
use Rattle.edi_static.specs.Environment.{Begun}
use Rattle.edi_static.specs.Headings.{own_name}
use Rattle.edi_static.specs.Declarations.{begun_named, heading_of, without_begun}
use Rattle.edi_sights.specs.named.Names.{constant_names, declared_names, heading_name, heading_names}

-- A block. Its variables are the function variable, the parameters and the declared variables, those of its modules among them.
-- A branch of a `cobegin` has no name and no variable.
pub record Named : Type 0 where
  pub name : List ℕ
  pub variables : List (List ℕ)

-- what has been named before a place, and the procedures of the innermost scope whose `pre` has stood and whose `post` is still to come
pub record Naming : Type 0 where
  pub blocks : List Named
  pub constants : List (List (List ℕ))
  pub begun : List Begun

-- ---- blocks

abbrev pub nameless : Named
nameless = record { name = []; variables = [] }

abbrev pub named_at : List Named → ℕ → Named
named_at blocks n = slice_index_or blocks n nameless

-- one more block, behind the others
abbrev pub with_block : Named → Naming → Naming
with_block block w = record w { blocks = w.blocks ++ block ∷ [] }

abbrev pub headed : text.Heading → Named
headed h = record { name = heading_name h; variables = heading_names h }

abbrev pub set_block : ℕ → Named → Naming → Naming
set_block n block w = record w { blocks = slice_set w.blocks n block }

abbrev pub more_variables : List (List ℕ) → Named → Named
more_variables names block = record block { variables = block.variables ++ names }

-- more declared variables of a block
abbrev pub with_variables : ℕ → List (List ℕ) → Naming → Naming
with_variables n names w = set_block n (more_variables names (named_at w.blocks n)) w

-- A `post` has as many parameters as its `pre`. Between them its statements see the names in the `post`.
abbrev pub renamed : List (List ℕ) → Named → Named
renamed names block = if length names == length block.variables then record block { variables = names } else block

abbrev pub with_new_names : ℕ → List (List ℕ) → Naming → Naming
with_new_names n names w = set_block n (renamed names (named_at w.blocks n)) w

-- ---- types

abbrev pub with_type : List (List ℕ) → Naming → Naming
with_type names w = record w { constants = w.constants ++ names ∷ [] }

-- ---- split procedures

abbrev pub with_begun : List Begun → Naming → Naming
with_begun begun w = record w { begun = begun }

-- one more procedure is begun, whose block is the next
abbrev pub begin : text.Heading → Naming → Naming
begin h w = with_begun (w.begun ++ record { name = own_name h; block = length w.blocks } ∷ []) (with_block (headed h) w)

-- the block of a `post`; a `post` of a sound program has one
abbrev pub post_block : List ℕ → Naming → ℕ
post_block name w = unwrap_or (option_map (λ b. b.block) (begun_named w.begun name)) (length w.blocks)

-- ---- statements: each branch of a `cobegin` is a block

abbrev mutual
  pub list_named : text.StatementList → Naming → Naming
  list_named (text.list s more) w = statements_named more (statement_named s w)

  pub statements_named : text.Statements → Naming → Naming
  statements_named text.no_statement w = w
  statements_named (text.next_statement s more) w = statements_named more (statement_named s w)

  pub statement_named : text.Statement → Naming → Naming
  statement_named text.skip w = w
  statement_named (text.assignment v line e) w = w
  statement_named (text.call called xs) w = w
  statement_named (text.if_statement cs) w = conditions_named cs w
  statement_named (text.while_statement cs) w = conditions_named cs w
  statement_named (text.when_statement line cs) w = conditions_named cs w
  statement_named (text.cobegin line b bs) w = branches_named bs (branch_named b w)

  pub conditions_named : text.Conditions → Naming → Naming
  conditions_named (text.conditions c more) w = elses_named more (condition_named c w)

  pub elses_named : text.Else → Naming → Naming
  elses_named text.no_else w = w
  elses_named (text.next_else c more) w = elses_named more (condition_named c w)

  pub condition_named : text.Condition → Naming → Naming
  condition_named (text.condition e line s) w = list_named s w

  pub branch_named : text.Branch → Naming → Naming
  branch_named (text.branch c line s) w = list_named s (with_block nameless w)

  pub branches_named : text.Branches → Naming → Naming
  branches_named (text.no_branch end) w = w
  branches_named (text.next_branch also b bs) w = branches_named bs (branch_named b w)

-- ---- declarations, which stand in a block

abbrev mutual
  -- a procedure behind its heading, with its block
  pub procedure_named : (block : ℕ) → text.Procedure → Naming → Naming
  procedure_named block (text.procedure h ds s end) w =
      with_begun w.begun (list_named s (declarations_named block ds (with_begun [] w)))

  pub item_named : (block : ℕ) → text.Item → Naming → Naming
  item_named block (text.const_item cs) w = w
  item_named block (text.type_item t) w = with_type (constant_names t) w
  item_named block (text.var_item vs) w = with_variables block (declared_names vs) w
  item_named block (text.procedure_item p) w = procedure_named (length w.blocks) p (with_block (headed (heading_of p)) w)
  item_named block (text.pre_item h) w = begin h w
  item_named block (text.post_item p) w =
      let h : text.Heading = heading_of p in
      let own : ℕ = post_block (heading_name h) w in
      let done : Naming = procedure_named own p (with_new_names own (heading_names h) w) in
      with_begun (without_begun (heading_name h) w.begun) done

  -- the variables of a module, and the branches in its statements, are those of the block where it stands
  pub module_named : (block : ℕ) → text.Module → Naming → Naming
  module_named block (text.module_with ms s) w = with_begun w.begun (list_named s (members_named block ms (with_begun [] w)))

  pub members_named : (block : ℕ) → text.Members → Naming → Naming
  members_named block text.no_member w = w
  members_named block (text.next_member m ms) w = members_named block ms (member_named block m w)

  pub member_named : (block : ℕ) → text.Member → Naming → Naming
  member_named block (text.item_member i) w = item_named block i w
  member_named block (text.exported_member i) w = item_named block i w
  member_named block (text.module_member m) w = module_named block m w

  pub declarations_named : (block : ℕ) → text.Declarations → Naming → Naming
  declarations_named block text.no_declaration w = w
  declarations_named block (text.next_declaration d ds) w = declarations_named block ds (declaration_named block d w)

  pub declaration_named : (block : ℕ) → text.Declaration → Naming → Naming
  declaration_named block (text.item_declaration i) w = item_named block i w
  declaration_named block (text.module_declaration m) w = module_named block m w

-- ---- programs

-- before a program there are the types `int`, `char` and `bool`, of which the last has constants
abbrev pub standard_constants : List (List (List ℕ))
standard_constants = [] ∷ [] ∷ (codes "false" ∷ codes "true" ∷ []) ∷ []

abbrev pub first_naming : Naming
first_naming = record { blocks = []; constants = standard_constants; begun = [] }

abbrev pub global_named : text.Global → Naming → Naming
global_named (text.const_global cs) w = w
global_named (text.type_global t) w = with_type (constant_names t) w

abbrev pub globals_named : text.Globals → Naming → Naming
globals_named text.no_global w = w
globals_named (text.next_global g gs) w = globals_named gs (global_named g w)

-- the program is block 0
abbrev pub program_named : text.Procedure → Naming → Naming
program_named p w = procedure_named 0 p (with_block (headed (heading_of p)) w)

pub record Names : Type 0 where
  pub blocks : List Named
  pub constants : List (List (List ℕ))

abbrev pub names_of : text.Program → Names
names_of (text.program globals p) =
    let done : Naming = program_named p (globals_named globals first_naming) in record { blocks = done.blocks; constants = done.constants }
