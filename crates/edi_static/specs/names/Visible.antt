-- Words of contracts. Each name of a program is visible where it is used: there it is a standard name, or one that is declared before, in the
-- same scope or in one round it. What is declared in a procedure or a module is not seen behind its `end`, but for what a
-- module exports.
use Rattle.std.specs.Prelude.{ℕ, List, [], ◌∷◌, ◌++◌, Option, Some, None, codes}
use Rattle.edi_tree.specs.declared.names.Name.{Name}
use Rattle.edi_tree.specs.Tree.{Names, no_name, next_name, ConstDecls, no_const_decl, next_const_decl, ConstList, const_list, Group, group, Groups, no_group}
use Rattle.edi_tree.specs.Tree.{next_group, TypeDecl, enum_decl, record_decl, array_decl, set_decl, VarList, var_list, Heading, heading, Params, no_params}
use Rattle.edi_tree.specs.Tree.{params, MoreParams, no_param, next_param, Param, value_param, var_param, procedure_param, Procedure, procedure, Item}
use Rattle.edi_tree.specs.Tree.{const_item, type_item, var_item, procedure_item, pre_item, post_item, Module, module_with, Member, item_member}
use Rattle.edi_tree.specs.Tree.{exported_member, module_member, Members, no_member, next_member, Declaration, item_declaration, module_declaration}
use Rattle.edi_tree.specs.Tree.{Declarations, no_declaration, next_declaration, Global, const_global, type_global, Globals, no_global, next_global, Program}
use Rattle.edi_tree.specs.Tree.{program}
use Rattle.edi_static.specs.Headings.{own_name}
use Rattle.edi_static.specs.Declarations.{procedure_name}
use Rattle.edi_static.specs.names.Uses.{NameKnown, ConstantKnown, ListKnown}

-- ---- the names that a declaration declares

abbrev pub names_in : Names → List (List ℕ)
names_in no_name = []
names_in (next_name name names) = name.text ∷ names_in names

abbrev pub group_names : Group → List (List ℕ)
group_names (group first names of) = names_in (next_name first names)

abbrev pub groups_names : Groups → List (List ℕ)
groups_names no_group = []
groups_names (next_group g gs) = group_names g ++ groups_names gs

abbrev pub consts_names : ConstDecls → List (List ℕ)
consts_names no_const_decl = []
consts_names (next_const_decl d ds) = d.name.text ∷ consts_names ds

abbrev pub const_list_names : ConstList → List (List ℕ)
const_list_names (const_list d ds) = d.name.text ∷ consts_names ds

-- the constants of an enumeration too
abbrev pub type_names : TypeDecl → List (List ℕ)
type_names (enum_decl name first more) = name.text ∷ names_in (next_name first more)
type_names (record_decl name first more) = name.text ∷ []
type_names (array_decl name line lower upper element) = name.text ∷ []
type_names (set_decl name base) = name.text ∷ []

abbrev pub var_list_names : VarList → List (List ℕ)
var_list_names (var_list first more) = groups_names (next_group first more)

abbrev pub heading_name : Heading → List ℕ
heading_name h = (own_name h).text

abbrev pub item_names : Item → List (List ℕ)
item_names (const_item cs) = const_list_names cs
item_names (type_item t) = type_names t
item_names (var_item vs) = var_list_names vs
item_names (procedure_item p) = (procedure_name p).text ∷ []
item_names (pre_item h) = heading_name h ∷ []
item_names (post_item p) = (procedure_name p).text ∷ []

-- what a module gives to the scope round it
abbrev pub exported_names : Members → List (List ℕ)
exported_names no_member = []
exported_names (next_member (item_member i) ms) = exported_names ms
exported_names (next_member (exported_member i) ms) = item_names i ++ exported_names ms
exported_names (next_member (module_member m) ms) = exported_names ms

abbrev pub module_names : Module → List (List ℕ)
module_names (module_with ms s) = exported_names ms

abbrev pub member_names : Member → List (List ℕ)
member_names (item_member i) = item_names i
member_names (exported_member i) = item_names i
member_names (module_member m) = module_names m

abbrev pub members_names : Members → List (List ℕ)
members_names no_member = []
members_names (next_member m ms) = member_names m ++ members_names ms

abbrev pub declaration_names : Declaration → List (List ℕ)
declaration_names (item_declaration i) = item_names i
declaration_names (module_declaration m) = module_names m

abbrev pub declarations_names : Declarations → List (List ℕ)
declarations_names no_declaration = []
declarations_names (next_declaration d ds) = declaration_names d ++ declarations_names ds

abbrev pub param_names : Param → List (List ℕ)
param_names (value_param g) = group_names g
param_names (var_param g) = group_names g
param_names (procedure_param h) = heading_name h ∷ []

abbrev pub more_params_names : MoreParams → List (List ℕ)
more_params_names no_param = []
more_params_names (next_param p ps) = param_names p ++ more_params_names ps

abbrev pub params_names : Params → List (List ℕ)
params_names no_params = []
params_names (params p ps) = param_names p ++ more_params_names ps

abbrev pub parameter_names : Heading → List (List ℕ)
parameter_names (heading name ps result) = params_names ps

-- ---- the names that it uses: each is among those known before it

abbrev pub GroupKnown : List (List ℕ) → Group → Type 0
GroupKnown known (group first names of) = NameKnown known of

-- the fields of a record are no names of the scopes
abbrev pub FieldsKnown : List (List ℕ) → Groups → Type 0
FieldsKnown known no_group = Unit {0}
FieldsKnown known (next_group g gs) = GroupKnown known g × FieldsKnown known gs

abbrev pub VariablesKnown : List (List ℕ) → Groups → Type 0
VariablesKnown known no_group = Unit {0}
VariablesKnown known (next_group g gs) = GroupKnown known g × VariablesKnown (group_names g ++ known) gs

abbrev pub ConstsKnown : List (List ℕ) → ConstDecls → Type 0
ConstsKnown known no_const_decl = Unit {0}
ConstsKnown known (next_const_decl d ds) = ConstantKnown known d.constant × ConstsKnown (d.name.text ∷ known) ds

abbrev pub ConstListKnown : List (List ℕ) → ConstList → Type 0
ConstListKnown known (const_list d ds) = ConstantKnown known d.constant × ConstsKnown (d.name.text ∷ known) ds

abbrev pub TypeKnown : List (List ℕ) → TypeDecl → Type 0
TypeKnown known (enum_decl name first more) = Unit {0}
TypeKnown known (record_decl name first more) = FieldsKnown known (next_group first more)
TypeKnown known (array_decl name line lower upper element) =
    ConstantKnown known lower × ConstantKnown known upper × NameKnown known element
TypeKnown known (set_decl name base) = NameKnown known base

abbrev pub VarListKnown : List (List ℕ) → VarList → Type 0
VarListKnown known (var_list first more) = VariablesKnown known (next_group first more)

abbrev pub ResultKnown : List (List ℕ) → Option Name → Type 0
ResultKnown known None = Unit {0}
ResultKnown known (Some name) = NameKnown known name

abbrev mutual
  pub HeadingKnown : List (List ℕ) → Heading → Type 0
  HeadingKnown known (heading name ps result) = ParamsKnown known ps × ResultKnown (params_names ps ++ known) result

  pub ParamsKnown : List (List ℕ) → Params → Type 0
  ParamsKnown known no_params = Unit {0}
  ParamsKnown known (params p ps) = ParamKnown known p × MoreParamsKnown (param_names p ++ known) ps

  pub MoreParamsKnown : List (List ℕ) → MoreParams → Type 0
  MoreParamsKnown known no_param = Unit {0}
  MoreParamsKnown known (next_param p ps) = ParamKnown known p × MoreParamsKnown (param_names p ++ known) ps

  pub ParamKnown : List (List ℕ) → Param → Type 0
  ParamKnown known (value_param g) = GroupKnown known g
  ParamKnown known (var_param g) = GroupKnown known g
  ParamKnown known (procedure_param h) = HeadingKnown known h

-- what is known in the scope of a heading: its own name and its parameters too
abbrev pub inside : List (List ℕ) → Heading → List (List ℕ)
inside known h = parameter_names h ++ heading_name h ∷ known

abbrev mutual
  pub ProcedureKnown : List (List ℕ) → Procedure → Type 0
  ProcedureKnown known (procedure h ds s end) =
      HeadingKnown known h × DeclarationsKnown (inside known h) ds × ListKnown (declarations_names ds ++ inside known h) s

  pub ItemKnown : List (List ℕ) → Item → Type 0
  ItemKnown known (const_item cs) = ConstListKnown known cs
  ItemKnown known (type_item t) = TypeKnown known t
  ItemKnown known (var_item vs) = VarListKnown known vs
  ItemKnown known (procedure_item p) = ProcedureKnown known p
  ItemKnown known (pre_item h) = HeadingKnown known h
  ItemKnown known (post_item p) = ProcedureKnown known p

  pub ModuleKnown : List (List ℕ) → Module → Type 0
  ModuleKnown known (module_with ms s) = MembersKnown known ms × ListKnown (members_names ms ++ known) s

  pub MemberKnown : List (List ℕ) → Member → Type 0
  MemberKnown known (item_member i) = ItemKnown known i
  MemberKnown known (exported_member i) = ItemKnown known i
  MemberKnown known (module_member m) = ModuleKnown known m

  pub MembersKnown : List (List ℕ) → Members → Type 0
  MembersKnown known no_member = Unit {0}
  MembersKnown known (next_member m ms) = MemberKnown known m × MembersKnown (member_names m ++ known) ms

  pub DeclarationKnown : List (List ℕ) → Declaration → Type 0
  DeclarationKnown known (item_declaration i) = ItemKnown known i
  DeclarationKnown known (module_declaration m) = ModuleKnown known m

  pub DeclarationsKnown : List (List ℕ) → Declarations → Type 0
  DeclarationsKnown known no_declaration = Unit {0}
  DeclarationsKnown known (next_declaration d ds) = DeclarationKnown known d × DeclarationsKnown (declaration_names d ++ known) ds

-- ---- programs

abbrev pub standard_names : List (List ℕ)
standard_names = codes "int" ∷ codes "char" ∷ codes "bool" ∷ codes "false" ∷ codes "true" ∷ codes "halt" ∷ []

abbrev pub global_names : Global → List (List ℕ)
global_names (const_global cs) = const_list_names cs
global_names (type_global t) = type_names t

abbrev pub globals_names : Globals → List (List ℕ)
globals_names no_global = []
globals_names (next_global g gs) = global_names g ++ globals_names gs

abbrev pub GlobalKnown : List (List ℕ) → Global → Type 0
GlobalKnown known (const_global cs) = ConstListKnown known cs
GlobalKnown known (type_global t) = TypeKnown known t

abbrev pub GlobalsKnown : List (List ℕ) → Globals → Type 0
GlobalsKnown known no_global = Unit {0}
GlobalsKnown known (next_global g gs) = GlobalKnown known g × GlobalsKnown (global_names g ++ known) gs

-- each name of a program is visible where it is used
abbrev pub NamesAreVisible : Program → Type 0
NamesAreVisible (program gs p) = GlobalsKnown standard_names gs × ProcedureKnown (globals_names gs ++ standard_names) p
