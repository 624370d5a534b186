-- Definition. The rules on procedures, also split ones, and on modules and what they export.
use Rattle.std.specs.Prelude.{ℕ, Bool, true, false, not, if◌then◌else◌, List, [], ◌∷◌, ◌++◌, length, filter, Option, Some, None}
use Rattle.std.specs.Option.{option_map_or}
use Rattle.std.specs.Str.{bytes_eq}
use Rattle.edi_scope.specs.declared.entity.Entity.TheVariants as entity
use Rattle.edi_tree.specs.declared.names.Name.{Name}
use Rattle.edi_tree.specs.Tree as text
use Rattle.edi_unit.specs.declared.units.BlockKind.{BlockKind}
use Rattle.edi_unit.specs.declared.units.BlockKind.TheVariants as block_kind
use Rattle.edi_unit.specs.Tree.{Acts}
use Rattle.edi_unit.specs.Headings.{heading_result, heading_formals}
use Rattle.edi_static.specs.declared.faults.StaticKind.TheVariants as kind
use Rattle.edi_static.specs.Judged.{Judged, gives, faults, ◌>>=◌, must}
use Rattle.edi_static.specs.Environment.{Begun, Environment, declare, give_outside, enter, here, begun_block, with_block, heading_at, same_heading}
use Rattle.edi_static.specs.Environment.{parameters_of}
use Rattle.edi_static.specs.Types.{const_list, type_decl, var_list}
use Rattle.edi_static.specs.Headings.{Headed, leave, round, own_name, heading_parts}
use Rattle.edi_static.specs.Statements.{After, add_statements, close_block, statement_list}

-- ---- blocks of procedures

-- a procedure with a result is a function
abbrev pub kind_of : Option ℕ → BlockKind
kind_of None = block_kind.Procedure
kind_of (Some of) = block_kind.Function

-- after a heading: its block, in the block where it stands
abbrev pub with_heading : BlockKind → Headed → Environment
with_heading block_kind headed =
    with_block
    (begun_block block_kind (here headed.env) (heading_result headed.asks) (parameters_of (heading_formals headed.asks)))
    headed.asks
    headed.env

-- ---- split procedures

-- the procedure of this name that is begun, if there is one
abbrev pub begun_named : List Begun → List ℕ → Option Begun
begun_named [] name = None
begun_named (b ∷ bs) name = if bytes_eq b.name.text name then Some b else begun_named bs name

abbrev pub without_begun : List ℕ → List Begun → List Begun
without_begun name bs = filter (λ b. not (bytes_eq b.name.text name)) bs

-- a `post` has an earlier `pre` of its name in the same scope, not completed, and of the same shape
abbrev pub completes : Option Begun → Name → Headed → Judged (Unit {0})
completes None name headed = faults kind.Split name.line
completes (Some b) name headed = must (same_heading (heading_at headed.env.headings b.block) headed.asks) kind.Split name.line

-- an export on a `post` gives the name to the scope round the module
abbrev pub post_export : Bool → Name → (block : ℕ) → Environment → Judged Environment
post_export true name block env = round (give_outside name (entity.Procedure block)) env
post_export false name block env = gives env

-- at the `begin` of a scope each procedure that is begun in it has been completed
abbrev pub all_completed : List Begun → Judged (Unit {0})
all_completed [] = gives tt
all_completed (b ∷ bs) = faults kind.Split b.name.line

-- ---- scopes of procedures and modules

-- inside a procedure, whose heading's scope is the innermost
abbrev pub enter_block : ℕ → Environment → Environment
enter_block n env = record env { around = n ∷ env.around; begun = [] }

-- after a construct whose scope is the innermost: what was round it
abbrev pub leave_to : Environment → List Begun → Environment → Environment
leave_to outer begun env = record (leave env) { around = outer.around; begun = begun }

-- after the statements of a module, which the block where it stands executes when it is entered
abbrev pub leave_module : Environment → After Acts → Environment
leave_module outer done = leave_to outer outer.begun (add_statements (here outer) done.what done.env)

-- ---- declarations

abbrev pub heading_of : text.Procedure → text.Heading
heading_of (text.procedure h ds s end) = h

abbrev pub procedure_name : text.Procedure → Name
procedure_name (text.procedure h ds s end) = own_name h

-- a procedure that is begun: its block is there and its name is declared
abbrev pub begin_procedure : Bool → text.Heading → Environment → Judged Environment
begin_procedure export h env =
    let n : ℕ = length env.blocks in
    heading_parts n h env >>= λ headed.
    round (declare export (own_name h) (entity.Procedure n)) (with_heading (kind_of (heading_result headed.asks)) headed)

-- the block of a `post`; without its `pre` it will be refused, and has none
abbrev pub block_of : Environment → Option Begun → ℕ
block_of env found = option_map_or (λ b. b.block) found (length env.blocks)

-- a `post` is compared with its `pre` after its heading's parts
abbrev pub begin_post : Bool → text.Heading → Environment → Judged Environment
begin_post export h env =
    let found : Option Begun = begun_named env.begun (own_name h).text in
    heading_parts (block_of env found) h env >>= λ headed.
    completes found (own_name h) headed >>= λ _.
    post_export export (own_name h) (block_of env found) headed.env

-- a `pre` alone: its heading's scope ends at once
abbrev pub pre_decl : Bool → text.Heading → Environment → Judged Environment
pre_decl export h env =
    begin_procedure export h env >>= λ after.
    let one : Begun = record { name = own_name h; block = length env.blocks } in
    gives (record (leave after) { begun = env.begun ++ one ∷ [] })

abbrev mutual
  -- the rest of a procedure behind its heading
  pub procedure_rest : (block : ℕ) → text.Procedure → Environment → Judged Environment
  procedure_rest block (text.procedure h ds s end) env =
      declarations ds (enter_block block env) >>= λ inner.
      all_completed inner.begun >>= λ _.
      statement_list s inner >>= λ done.
      close_block block done.what end done.env

  pub item : (export : Bool) → text.Item → Environment → Judged Environment
  item export (text.const_item cs) env = const_list export cs env
  item export (text.type_item t) env = type_decl export t env
  item export (text.var_item vs) env = var_list export vs env
  item export (text.procedure_item p) env =
      begin_procedure export (heading_of p) env >>= procedure_rest (length env.blocks) p >>= λ after.
      gives (leave_to env env.begun after)
  item export (text.pre_item h) env = pre_decl export h env
  item export (text.post_item p) env =
      begin_post export (heading_of p) env >>= procedure_rest (block_of env (begun_named env.begun (procedure_name p).text)) p >>= λ after.
      gives (leave_to env (without_begun (procedure_name p).text env.begun) after)

  pub module_decl : text.Module → Environment → Judged Environment
  module_decl (text.module_with ms s) env =
      members ms (record (enter true env) { begun = [] }) >>= λ inner.
      all_completed inner.begun >>= λ _.
      statement_list s inner >>= λ done.
      gives (leave_module env done)

  pub members : text.Members → Environment → Judged Environment
  members text.no_member env = gives env
  members (text.next_member m ms) env = member m env >>= members ms

  -- an export `*` exports all names of the declaration behind it
  pub member : text.Member → Environment → Judged Environment
  member (text.item_member i) env = item false i env
  member (text.exported_member i) env = item true i env
  member (text.module_member m) env = module_decl m env

  pub declarations : text.Declarations → Environment → Judged Environment
  declarations text.no_declaration env = gives env
  declarations (text.next_declaration d ds) env = declaration d env >>= declarations ds

  pub declaration : text.Declaration → Environment → Judged Environment
  declaration (text.item_declaration i) env = item false i env
  declaration (text.module_declaration m) env = module_decl m env
