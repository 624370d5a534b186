-- Definition. The rules on constants, types and variables.
use Rattle.std.specs.Prelude.{ℕ, suc, ℤ, pos, int_le, Bool, not, ◌==◌, nat_lt, nat_le, List, [], ◌∷◌, ◌++◌, length, Some, None}
use Rattle.std.specs.List.{list_any}
use Rattle.std.specs.Str.{bytes_eq}
use Rattle.edi_scope.specs.declared.entity.Entity.{Entity}
use Rattle.edi_scope.specs.declared.entity.Entity.TheVariants as entity
use Rattle.edi_tree.specs.declared.names.Name.{Name}
use Rattle.edi_tree.specs.declared.constants.Constant.{Constant}
use Rattle.edi_tree.specs.declared.constants.Constant.TheVariants as code
use Rattle.edi_tree.specs.declared.constants.ConstDecl.{ConstDecl}
use Rattle.edi_tree.specs.Tree as text
use Rattle.edi_tree.specs.Tree.{Names, no_name, next_name, ConstDecls, ConstList, Groups, no_group, next_group, TypeDecl, VarList}
use Rattle.edi_unit.specs.Types.{Shape, int_type, char_type, enumeration, record_of, array_of, set_of, is_elementary, shape_size, size, greatest_size}
use Rattle.edi_unit.specs.Need.{block_at}
use Rattle.edi_static.specs.declared.faults.StaticKind.TheVariants as kind
use Rattle.edi_static.specs.Judged.{Judged, gives, faults, ◌>>=◌, must}
use Rattle.edi_static.specs.Environment.{Environment, look_up, type_named, declare, with_type, here, next_variable, with_variable, set_block}

-- ---- constants

-- the value of an elementary type
pub record Ordinal : Type 0 where
  pub of : ℕ
  pub ordinal : ℤ

-- a constant is asked
abbrev pub as_constant : (line : ℕ) → Entity → Judged Ordinal
as_constant line (entity.Constant of n) = gives (record { of = of; ordinal = n })
as_constant line _ = faults kind.Kind line

-- before a numeral in parentheses the standard type `char` is asked; the numeral is at most 127
abbrev pub as_character : (line : ℕ) → ℤ → Entity → Judged Ordinal
as_character line n (entity.Types t) =
    must (t == char_type) kind.Kind line >>= λ _.
    must (int_le n (pos 127)) kind.Range line >>= λ _.
    gives (record { of = char_type; ordinal = n })
as_character line n _ = faults kind.Kind line

abbrev pub constant : Environment → Constant → Judged Ordinal
constant env (code.Numeral n) = gives (record { of = int_type; ordinal = n })
constant env (code.Char c) = gives (record { of = char_type; ordinal = pos c.character })
constant env (code.Name name None) = look_up env name >>= as_constant name.line
constant env (code.Name name (Some n)) = look_up env name >>= as_character name.line n

-- the constant is judged first, then the name is declared
abbrev pub const_decl : Bool → ConstDecl → Environment → Judged Environment
const_decl export d env =
    constant env d.constant >>= λ c. declare export d.name (entity.Constant c.of c.ordinal) env

abbrev pub const_decls : Bool → ConstDecls → Environment → Judged Environment
const_decls export text.no_const_decl env = gives env
const_decls export (text.next_const_decl d ds) env = const_decl export d env >>= const_decls export ds

abbrev pub const_list : Bool → ConstList → Environment → Judged Environment
const_list export (text.const_list d ds) env = const_decl export d env >>= const_decls export ds

-- ---- enumerations

-- an enumeration has at most so many constants
abbrev pub most_constants : ℕ
most_constants = 32768

abbrev pub names_count : Names → ℕ
names_count no_name = 0
names_count (next_name name names) = suc (names_count names)

-- the constant of ordinal n
abbrev pub enum_constant : Bool → (of n : ℕ) → Name → Environment → Judged Environment
enum_constant export of n name env =
    declare export name (entity.Constant of (pos n)) env >>= λ env.
    must (nat_lt n most_constants) kind.Range name.line >>= λ _.
    gives env

-- the constants from ordinal n on
abbrev pub enum_constants : Bool → (of n : ℕ) → Names → Environment → Judged Environment
enum_constants export of n no_name env = gives env
enum_constants export of n (next_name name names) env =
    enum_constant export of n name env >>= enum_constants export of (suc n) names

-- the type's name is declared before its constants
abbrev pub enum_decl : Bool → Name → Names → Environment → Judged Environment
enum_decl export name constants env =
    let of : ℕ = length env.types in
    declare export name (entity.Types of) env >>= enum_constants export of 0 constants >>= λ env.
    gives (with_type (enumeration (names_count constants)) [] env)

-- ---- records

-- the names of a record's fields and their types
pub record Fields : Type 0 where
  pub names : List (List ℕ)
  pub types : List ℕ

abbrev pub with_field : List ℕ → ℕ → Fields → Fields
with_field name of fields = record { names = fields.names ++ name ∷ []; types = fields.types ++ of ∷ [] }

-- a field's name must be new in its record
abbrev pub field_named : (of : ℕ) → Name → Fields → Judged Fields
field_named of name fields =
    must (not (list_any (bytes_eq name.text) fields.names)) kind.Ambiguous name.line >>= λ _. gives (with_field name.text of fields)

abbrev pub fields_named : (of : ℕ) → Names → Fields → Judged Fields
fields_named of no_name fields = gives fields
fields_named of (next_name name names) fields = field_named of name fields >>= fields_named of names

-- in a group the type is judged first, then the names in their order
abbrev pub fields_of_group : Environment → text.Group → Fields → Judged Fields
fields_of_group env (text.group first names of) fields = type_named env of >>= λ t. fields_named t (next_name first names) fields

abbrev pub fields_of_groups : Environment → Groups → Fields → Judged Fields
fields_of_groups env no_group fields = gives fields
fields_of_groups env (next_group g groups) fields = fields_of_group env g fields >>= fields_of_groups env groups

-- ---- types

-- a type takes at most 65,535 words; its name is declared after its parts have been judged
abbrev pub declare_type : Bool → Name → Shape → List (List ℕ) → Environment → Judged Environment
declare_type export name shape field_names env =
    must (nat_le (shape_size (size env.types) shape) greatest_size) kind.Range name.line >>= λ _.
    declare export name (entity.Types (length env.types)) env >>= λ env.
    gives (with_type shape field_names env)

-- the bounds are of one elementary type, and the lower one is not above the upper one
abbrev pub array_decl : Bool → Name → Constant → Constant → Name → Environment → Judged Environment
array_decl export name lower upper element env =
    constant env lower >>= λ lo.
    constant env upper >>= λ hi.
    type_named env element >>= λ e.
    must (lo.of == hi.of) kind.Types name.line >>= λ _.
    must (int_le lo.ordinal hi.ordinal) kind.Range name.line >>= λ _.
    declare_type export name (array_of lo.of lo.ordinal hi.ordinal e) [] env

-- the base is elementary
abbrev pub set_decl : Bool → Name → Name → Environment → Judged Environment
set_decl export name base env =
    type_named env base >>= λ b.
    must (is_elementary env.types b) kind.Types base.line >>= λ _.
    declare_type export name (set_of b) [] env

abbrev pub no_fields : Fields
no_fields = record { names = []; types = [] }

abbrev pub type_decl : Bool → TypeDecl → Environment → Judged Environment
type_decl export (text.enum_decl name first more) env = enum_decl export name (next_name first more) env
type_decl export (text.record_decl name first more) env =
    fields_of_groups env (next_group first more) no_fields >>= λ fields.
    declare_type export name (record_of fields.types) fields.names env
type_decl export (text.array_decl name line lower upper element) env = array_decl export name lower upper element env
type_decl export (text.set_decl name base) env = set_decl export name base env

-- ---- variables

-- a declared variable belongs to the block in which it stands, also in a module
abbrev pub variable_decl : Bool → (of : ℕ) → Name → Environment → Judged Environment
variable_decl export of name env =
    declare export name (entity.Variable (here env) (next_variable env) of) env >>= λ env.
    gives (set_block (here env) (with_variable of (block_at env.blocks (here env))) env)

abbrev pub variables_named : Bool → (of : ℕ) → Names → Environment → Judged Environment
variables_named export of no_name env = gives env
variables_named export of (next_name name names) env = variable_decl export of name env >>= variables_named export of names

abbrev pub variables_of_group : Bool → text.Group → Environment → Judged Environment
variables_of_group export (text.group first names of) env =
    type_named env of >>= λ t. variables_named export t (next_name first names) env

abbrev pub variables_of_groups : Bool → Groups → Environment → Judged Environment
variables_of_groups export no_group env = gives env
variables_of_groups export (next_group g groups) env = variables_of_group export g env >>= variables_of_groups export groups

abbrev pub var_list : Bool → VarList → Environment → Judged Environment
var_list export (text.var_list first more) env = variables_of_groups export (next_group first more) env
