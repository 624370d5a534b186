-- Definition. The names that a heading, a declaration of variables and a declaration of a type give, in the order of the text.
use Rattle.std.specs.Prelude.{ℕ, List, [], ◌∷◌, ◌++◌, codes, Option, Some, None}
use Rattle.edi_tree.specs.declared.names.Name.{Name}
use Rattle.edi_tree.specs.Tree as text
use Rattle.edi_tree.specs.Tree.{Names, no_name, next_name, Groups, no_group, next_group}

abbrev pub spellings : Names → List (List ℕ)
spellings no_name = []
spellings (next_name name names) = name.text ∷ spellings names

-- ---- variables

abbrev pub group_names : text.Group → List (List ℕ)
group_names (text.group first names of) = first.text ∷ spellings names

abbrev pub groups_names : Groups → List (List ℕ)
groups_names no_group = []
groups_names (next_group g groups) = group_names g ++ groups_names groups

abbrev pub declared_names : text.VarList → List (List ℕ)
declared_names (text.var_list first more) = group_names first ++ groups_names more

-- ---- headings

abbrev pub heading_name : text.Heading → List ℕ
heading_name (text.heading name ps result) = name.text

-- a procedure parameter is one parameter, whatever its own heading has
abbrev pub param_names : text.Param → List (List ℕ)
param_names (text.value_param g) = group_names g
param_names (text.var_param g) = group_names g
param_names (text.procedure_param h) = heading_name h ∷ []

abbrev pub more_param_names : text.MoreParams → List (List ℕ)
more_param_names text.no_param = []
more_param_names (text.next_param p ps) = param_names p ++ more_param_names ps

abbrev pub params_names : text.Params → List (List ℕ)
params_names text.no_params = []
params_names (text.params p ps) = param_names p ++ more_param_names ps

-- the function variable, as the text writes it
abbrev pub result_names : (function : List ℕ) → (result : Option Name) → List (List ℕ)
result_names function None = []
result_names function (Some of) = (codes "val " ++ function) ∷ []

-- the variables that a heading gives its block: the function variable, and then the parameters
abbrev pub heading_names : text.Heading → List (List ℕ)
heading_names (text.heading name ps result) = result_names name.text result ++ params_names ps

-- ---- types

-- the constants of an enumeration; no other type has any
abbrev pub constant_names : text.TypeDecl → List (List ℕ)
constant_names (text.enum_decl name first more) = first.text ∷ spellings more
constant_names (text.record_decl name first more) = []
constant_names (text.array_decl name line lower upper element) = []
constant_names (text.set_decl name base) = []
