-- Definition. The rules on a program's heading, and what a whole program is resolved to.
use Rattle.std.specs.Prelude.{◌≡◌, ◌≤◌, ⊤, ℕ, pos, Bool, false, ◌&&◌, ◌==◌, if◌then◌else◌, List, [], ◌∷◌, Option, Some, None, codes}
use Rattle.std.specs.Ordering.{int_eq}
use Rattle.std.specs.Str.{bytes_eq}
use Rattle.edi_scope.specs.declared.entity.Entity.TheVariants as entity
use Rattle.edi_tree.specs.declared.names.Name.{Name}
use Rattle.edi_tree.specs.Tree as text
use Rattle.edi_tree.specs.Depth.{depth}
use Rattle.edi_tree.specs.Spells.{IsBounded}
use Rattle.edi_unit.specs.declared.units.BlockKind.TheVariants as block_kind
use Rattle.edi_unit.specs.Types.{Shape, array_of, shape_at, int_type, char_type, bool_type}
use Rattle.edi_unit.specs.Tree.{ProgramUnit}
use Rattle.edi_unit.specs.Headings.{Heading, heading, Formals, no_formal, value_then, variable_then, procedure_then, heading_formals}
use Rattle.edi_static.specs.declared.faults.StaticKind.{StaticKind}
use Rattle.edi_static.specs.declared.faults.StaticKind.TheVariants as kind
use Rattle.edi_static.specs.declared.faults.StaticFault.{StaticFault}
use Rattle.edi_static.specs.declared.faults.StaticFault.TheVariants as fault
use Rattle.edi_static.specs.Judged.{Judged, gives, faults, ◌>>=◌}
use Rattle.edi_static.specs.Environment.{Environment, at_first, declare, enter, same_heading, no_heading}
use Rattle.edi_static.specs.Types.{const_list, type_decl}
use Rattle.edi_static.specs.Headings.{round, own_name, heading_parts}
use Rattle.edi_static.specs.Fitting.{rest_of}
use Rattle.edi_static.specs.Declarations.{with_heading, heading_of, procedure_rest}

-- ---- the calls of the system as headings

-- a title is passed as an array of 12 characters
abbrev pub is_title_shape : Shape → Bool
is_title_shape (array_of i lo hi e) = i == int_type && int_eq lo (pos 1) && int_eq hi (pos 12) && e == char_type
is_title_shape _ = false

-- a title, and a variable for the answer
abbrev pub is_titled : List Shape → Heading → Bool
is_titled types (heading (value_then t (variable_then b no_formal)) None) =
    is_title_shape (shape_at types t) && b == bool_type
is_titled types _ = false

abbrev pub gives_char : Heading
gives_char = heading (variable_then char_type no_formal) None

abbrev pub gives_bool : Heading
gives_bool = heading (variable_then bool_type no_formal) None

abbrev pub takes_char : Heading
takes_char = heading (value_then char_type no_formal) None

-- the calls by their names, each with its number and whether a heading is its
abbrev pub system_calls : List Shape → Heading → List (List ℕ × ℕ × Bool)
system_calls types asks =
    (codes "accept", 1, same_heading asks gives_char) ∷
    (codes "display", 2, same_heading asks takes_char) ∷
    (codes "print", 3, same_heading asks takes_char) ∷
    (codes "find", 4, is_titled types asks) ∷
    (codes "more", 5, same_heading asks gives_bool) ∷
    (codes "read", 6, same_heading asks gives_char) ∷
    (codes "fresh", 7, same_heading asks no_heading) ∷
    (codes "write", 8, same_heading asks takes_char) ∷
    (codes "close", 9, is_titled types asks) ∷
    (codes "remove", 10, is_titled types asks) ∷
    []

-- the number of the call with this name, if there is one and the heading is its
abbrev pub number_of_call : List (List ℕ × ℕ × Bool) → List ℕ → Option ℕ
number_of_call [] name = None
number_of_call (row ∷ rows) name =
    if bytes_eq row.0 name then (if row.2 then Some row.1 else None) else number_of_call rows name

-- ---- the program's heading

-- a program's parameter is a call of the system, by name and shape
abbrev pub call_with : Name → Option ℕ → Judged ℕ
call_with name None = faults kind.Heading name.line
call_with name (Some n) = gives n

abbrev pub first_asked : Formals → Heading
first_asked (procedure_then asks fs) = asks
first_asked _ = no_heading

-- the call that a parameter is; a group is none
abbrev pub call_of : List Shape → text.Param → Formals → Judged ℕ
call_of types (text.procedure_param (text.heading name ps r)) formals =
    call_with name (number_of_call (system_calls types (first_asked formals)) name.text)
call_of types (text.value_param (text.group first names of)) formals = faults kind.Heading first.line
call_of types (text.var_param (text.group first names of)) formals = faults kind.Heading first.line

abbrev pub calls_of_more : List Shape → text.MoreParams → Formals → Judged (List ℕ)
calls_of_more types text.no_param formals = gives []
calls_of_more types (text.next_param p ps) formals =
    call_of types p formals >>= λ n. calls_of_more types ps (rest_of formals) >>= λ ns. gives (n ∷ ns)

abbrev pub calls_of : List Shape → text.Params → Formals → Judged (List ℕ)
calls_of types text.no_params formals = gives []
calls_of types (text.params p ps) formals =
    call_of types p formals >>= λ n. calls_of_more types ps (rest_of formals) >>= λ ns. gives (n ∷ ns)

-- a program has no result, and its parameters are calls of the system
abbrev pub program_heading : List Shape → text.Heading → Heading → Judged (List ℕ)
program_heading types (text.heading name ps (Some result)) asks = faults kind.Heading name.line
program_heading types (text.heading name ps None) asks = calls_of types ps (heading_formals asks)

-- ---- programs

abbrev pub global_decl : text.Global → Environment → Judged Environment
global_decl (text.const_global cs) env = const_list false cs env
global_decl (text.type_global t) env = type_decl false t env

abbrev pub global_decls : text.Globals → Environment → Judged Environment
global_decls text.no_global env = gives env
global_decls (text.next_global g gs) env = global_decl g env >>= global_decls gs

-- the program's own name is declared before its heading is judged by the rules on programs, and that is done before its
-- declarations
abbrev pub program_procedure : text.Procedure → Environment → Judged ProgramUnit
program_procedure p env =
    heading_parts 0 (heading_of p) env >>= λ headed.
    round (declare false (own_name (heading_of p)) (entity.Procedure 0)) (with_heading block_kind.Program headed) >>= λ begun.
    program_heading begun.types (heading_of p) headed.asks >>= λ calls.
    procedure_rest 0 p begun >>= λ after.
    gives (record { types = after.types; blocks = after.blocks; program = 0; calls = calls })

-- RESOLVED: the unit of a program, or the first fault
abbrev pub resolve_tree : text.Program → Judged ProgramUnit
resolve_tree (text.program globals p) = global_decls globals (enter false at_first) >>= program_procedure p

-- the first construct that breaks a rule breaks one of this kind, at this line
abbrev pub FirstStatic : text.Program → StaticKind → ℕ → Type 0
FirstStatic tree why line = resolve_tree tree ≡ faults why line

-- no construct breaks a rule, and this is the unit
abbrev pub Resolved : text.Program → ProgramUnit → Type 0
Resolved tree unit = resolve_tree tree ≡ gives unit

-- The tree spells marks that `Symbols` can hold, at most 64 levels are open in it at once, and no construct of it breaks a
-- rule.
pub record Sound (tree : text.Program) : Type 0 where
  pub is_bounded : ∥ IsBounded tree ∥₁
  pub shallow : depth tree ≤ 64
  pub resolved : (unit : ProgramUnit) × Resolved tree unit

-- the tree is not sound, and this is its first fault
pub record IsUnsound (tree : text.Program) (why : StaticKind) (line : ℕ) : Type 0 where
  pub first : FirstStatic tree why line
  pub not_sound : Sound tree → ⊥

-- what the fault says of the tree; want of memory says nothing
abbrev pub Refuses : text.Program → StaticFault → Type 0
Refuses tree (fault.At why line) = IsUnsound tree why line
Refuses tree fault.NoMemory = ⊤
