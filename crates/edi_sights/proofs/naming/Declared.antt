-- Constants, types, variables and headings: what they give the environment is named.
use Rattle.std.proofs.Common.{◌≡◌, ℕ, suc, Bool, List, [], ◌∷◌, ◌++◌, length, map, get_or, nat_lt, nat_le, is_some}
use Rattle.std.proofs.Common.{◌||◌, ◌&&◌, ◌==◌, refl, sym, ap, ◌∙◌, length-append}
use Rattle.std.specs.Prelude.{int_le}
use Rattle.edi_scope.specs.declared.entity.Entity.{Entity}
use Rattle.edi_scope.specs.Scope.{declared, outside}
use Rattle.edi_tree.specs.declared.names.Name.{Name}
use Rattle.edi_tree.specs.declared.constants.Constant.{Constant}
use Rattle.edi_tree.specs.declared.constants.ConstDecl.{ConstDecl}
use Rattle.edi_tree.specs.Tree as text
use Rattle.edi_unit.specs.Types.{Shape, enumeration, record_of, array_of, set_of, is_elementary, shape_size, size, greatest_size}
use Rattle.edi_unit.specs.Tree.{Block}
use Rattle.edi_static.specs.declared.faults.StaticKind.TheVariants as kind
use Rattle.edi_static.specs.Judged.{gives, must}
use Rattle.edi_static.specs.Environment.{Begun, Environment, type_named, declare, here, with_type}
use Rattle.edi_static.specs.Types.{constant, const_decl, const_decls, const_list, most_constants, names_count, enum_constants, enum_decl, fields_of_groups}
use Rattle.edi_static.specs.Types.{no_fields, declare_type, array_decl, set_decl, type_decl, variable_decl, variables_named, variables_of_group}
use Rattle.edi_static.specs.Types.{variables_of_groups, var_list}
use Rattle.edi_static.proofs.Judging.{Gives, bind, behind, choose, ruled, weaker}
use Rattle.edi_sights.specs.named.Laws.{slot_count, variable_count, constant_count}
use Rattle.edi_sights.specs.named.Names as names
use Rattle.edi_sights.specs.named.Naming.{Naming, with_block, with_variables, headed}
use Rattle.edi_sights.specs.named.Naming as naming
use Rattle.edi_sights.proofs.naming.Counts.{raised, raised_none, raised_twice, variable_raised, names_raised, one_more}

-- what is known in these blocks round a place has been named
pub record Agree (place : List ℕ) (w : Naming) (types : List Shape) (blocks : List Block) (begun : List Begun) (around : List ℕ) : Type 0 where
  pub of_blocks : map slot_count blocks ≡ map variable_count w.blocks
  pub of_types : map constant_count types ≡ map length w.constants
  pub of_begun : begun ≡ w.begun
  pub at : around ≡ place

abbrev pub Agrees : (place : List ℕ) → Naming → Environment → Type 0
Agrees place w env = Agree place w env.types env.blocks env.begun env.around

-- ---- names

pub declare_agrees : (place : List ℕ) (w : Naming) (m : Bool) (name : Name) (means : Entity) (env : Environment) → Agrees place w env
    → Gives (Agrees place w) (declare m name means env)
declare_agrees place w m name means env h =
    choose (Agrees place w) (is_some (declared env.scopes name.text) || (m && is_some (declared (outside env.scopes) name.text))) _ _ tt h

-- ---- constants

const_agrees : (place : List ℕ) (w : Naming) (m : Bool) (d : ConstDecl) (env : Environment) → Agrees place w env → Gives (Agrees place w) (const_decl m d env)
const_agrees place w m d env h = behind (Agrees place w) _ _ (λ c. declare_agrees place w m d.name _ env h)

consts_agree : (place : List ℕ) (w : Naming) (m : Bool) (ds : text.ConstDecls) (env : Environment) → Agrees place w env
    → Gives (Agrees place w) (const_decls m ds env)
consts_agree place w m text.no_const_decl env h = h
consts_agree place w m (text.next_const_decl d ds) env h =
    bind (Agrees place w) (Agrees place w) _ _ (const_agrees place w m d env h) (λ e k. consts_agree place w m ds e k)

pub const_list_agrees : (place : List ℕ) (w : Naming) (m : Bool) (cs : text.ConstList) (env : Environment) → Agrees place w env
    → Gives (Agrees place w) (const_list m cs env)
const_list_agrees place w m (text.const_list d ds) env h =
    bind (Agrees place w) (Agrees place w) _ _ (const_agrees place w m d env h) (λ e k. consts_agree place w m ds e k)

-- ---- types

spelled_count : (ns : text.Names) → names_count ns ≡ length (names.spellings ns)
spelled_count text.no_name = refl
spelled_count (text.next_name name ns) = ap suc (spelled_count ns)

typed : (place : List ℕ) (w : Naming) (shape : Shape) (constants fields : List (List ℕ)) (env : Environment) → constant_count shape ≡ length constants
    → Agrees place w env → Agrees place (naming.with_type constants w) (with_type shape fields env)
typed place w shape constants fields env e h = record {
  of_blocks = h.of_blocks;
  of_types = one_more constant_count length env.types shape w.constants constants h.of_types e;
  of_begun = h.of_begun;
  at = h.at;
}

constants_agree : (place : List ℕ) (w : Naming) (m : Bool) (of n : ℕ) (ns : text.Names) (env : Environment) → Agrees place w env
    → Gives (Agrees place w) (enum_constants m of n ns env)
constants_agree place w m of n text.no_name env h = h
constants_agree place w m of n (text.next_name name ns) env h =
    bind (Agrees place w) (Agrees place w) _ _
    (bind (Agrees place w) (Agrees place w) _ _ (declare_agrees place w m name _ env h) (λ e k.
    behind (Agrees place w) (must (nat_lt n most_constants) kind.Range name.line) (λ _. gives e) (λ _. k)))
    (λ e k. constants_agree place w m of (suc n) ns e k)

enum_agrees : (place : List ℕ) (w : Naming) (m : Bool) (name : Name) (ns : text.Names) (env : Environment) → Agrees place w env
    → Gives (Agrees place (naming.with_type (names.spellings ns) w)) (enum_decl m name ns env)
enum_agrees place w m name ns env h =
    bind (Agrees place w) (Agrees place (naming.with_type (names.spellings ns) w)) _ _
    (bind (Agrees place w) (Agrees place w) _ _ (declare_agrees place w m name _ env h) (λ e k. constants_agree place w m _ 0 ns e k))
    (λ e k. typed place w (enumeration (names_count ns)) (names.spellings ns) [] e (spelled_count ns) k)

-- a type without constants
other_agrees : (place : List ℕ) (w : Naming) (m : Bool) (name : Name) (shape : Shape) (fields : List (List ℕ)) (env : Environment)
    → constant_count shape ≡ 0 → Agrees place w env → Gives (Agrees place (naming.with_type [] w)) (declare_type m name shape fields env)
other_agrees place w m name shape fields env e h =
    ruled (Agrees place (naming.with_type [] w)) (nat_le (shape_size (size env.types) shape) greatest_size) kind.Range name.line _ (λ _.
    bind (Agrees place w) (Agrees place (naming.with_type [] w)) _ _ (declare_agrees place w m name _ env h) (λ env k. typed place w shape [] fields env e k))

array_agrees : (place : List ℕ) (w : Naming) (m : Bool) (name : Name) (lower upper : Constant) (element : Name) (env : Environment) → Agrees place w env
    → Gives (Agrees place (naming.with_type [] w)) (array_decl m name lower upper element env)
array_agrees place w m name lower upper element env h =
    let Q = Agrees place (naming.with_type [] w) in
    behind Q (constant env lower) _ (λ lo.
    behind Q (constant env upper) _ (λ hi.
    behind Q (type_named env element) _ (λ e.
    ruled Q (lo.of == hi.of) _ _ _ (λ _.
    ruled Q (int_le lo.ordinal hi.ordinal) _ _ _ (λ _. other_agrees place w m name (array_of lo.of lo.ordinal hi.ordinal e) [] env refl h)))))

set_agrees : (place : List ℕ) (w : Naming) (m : Bool) (name base : Name) (env : Environment) → Agrees place w env
    → Gives (Agrees place (naming.with_type [] w)) (set_decl m name base env)
set_agrees place w m name base env h =
    let Q = Agrees place (naming.with_type [] w) in
    behind Q (type_named env base) _ (λ b. ruled Q (is_elementary env.types b) _ _ _ (λ _. other_agrees place w m name (set_of b) [] env refl h))

pub type_agrees : (place : List ℕ) (w : Naming) (m : Bool) (t : text.TypeDecl) (env : Environment) → Agrees place w env
    → Gives (Agrees place (naming.with_type (names.constant_names t) w)) (type_decl m t env)
type_agrees place w m (text.enum_decl name first more) env h = enum_agrees place w m name (text.next_name first more) env h
type_agrees place w m (text.record_decl name first more) env h =
    behind (Agrees place (naming.with_type [] w)) (fields_of_groups env (text.next_group first more) no_fields) _
    (λ fields. other_agrees place w m name (record_of fields.types) fields.names env refl h)
type_agrees place w m (text.array_decl name line lower upper element) env h = array_agrees place w m name lower upper element env h
type_agrees place w m (text.set_decl name base) env h = set_agrees place w m name base env h

-- ---- variables

-- the innermost of these blocks
abbrev pub home : List ℕ → ℕ
home place = get_or place 0 0

-- no more variables, and variables behind others
none_more : (n : ℕ) (w : Naming) → map variable_count (with_variables n [] w).blocks ≡ map variable_count w.blocks
none_more n w = names_raised w.blocks n [] ∙ raised_none n (map variable_count w.blocks)

both_more : (n : ℕ) (xs ys : List (List ℕ)) (w : Naming)
    → map variable_count (with_variables n ys (with_variables n xs w)).blocks ≡ map variable_count (with_variables n (xs ++ ys) w).blocks
both_more n xs ys w =
    names_raised (with_variables n xs w).blocks n ys
    ∙ (ap (raised n (length ys)) (names_raised w.blocks n xs)
    ∙ (raised_twice n (length xs) (length ys) (map variable_count w.blocks)
    ∙ (ap (λ k. raised n k (map variable_count w.blocks)) (sym (length-append xs ys)) ∙ sym (names_raised w.blocks n (xs ++ ys)))))

recounted : (place : List ℕ) (v w : Naming) (env : Environment) → map variable_count v.blocks ≡ map variable_count w.blocks → v.constants ≡ w.constants
    → v.begun ≡ w.begun → Agrees place v env → Agrees place w env
recounted place v w env blocks constants begun h = record {
  of_blocks = h.of_blocks ∙ blocks;
  of_types = h.of_types ∙ ap (map length) constants;
  of_begun = h.of_begun ∙ begun;
  at = h.at;
}

joined : (place : List ℕ) (xs ys : List (List ℕ)) (w : Naming) (env : Environment)
    → Agrees place (with_variables (home place) ys (with_variables (home place) xs w)) env → Agrees place (with_variables (home place) (xs ++ ys) w) env
joined place xs ys w env h =
    recounted place (with_variables (home place) ys (with_variables (home place) xs w)) (with_variables (home place) (xs ++ ys) w) env
    (both_more (home place) xs ys w) refl refl h

variable_agrees : (place : List ℕ) (w : Naming) (m : Bool) (of : ℕ) (name : Name) (env : Environment) → Agrees place w env
    → Gives (Agrees place (with_variables (home place) (name.text ∷ []) w)) (variable_decl m of name env)
variable_agrees place w m of name env h =
    bind (Agrees place w) (Agrees place (with_variables (home place) (name.text ∷ []) w)) _ _ (declare_agrees place w m name _ env h) (λ e k. record {
      of_blocks =
          variable_raised e.blocks (here e) of
          ∙ (ap (λ a. raised (home a) 1 (map slot_count e.blocks)) k.at
          ∙ (ap (raised (home place) 1) k.of_blocks ∙ sym (names_raised w.blocks (home place) (name.text ∷ []))));
      of_types = k.of_types;
      of_begun = k.of_begun;
      at = k.at;
    })

variables_agree : (place : List ℕ) (w : Naming) (m : Bool) (of : ℕ) (ns : text.Names) (env : Environment) → Agrees place w env
    → Gives (Agrees place (with_variables (home place) (names.spellings ns) w)) (variables_named m of ns env)
variables_agree place w m of text.no_name env h =
    recounted place w (with_variables (home place) [] w) env (sym (none_more (home place) w)) refl refl h
variables_agree place w m of (text.next_name name ns) env h =
    let next = with_variables (home place) (name.text ∷ []) w in
    bind (Agrees place next) (Agrees place (with_variables (home place) (name.text ∷ names.spellings ns) w)) _ _ (variable_agrees place w m of name env h)
    (λ e k.
    weaker (Agrees place (with_variables (home place) (names.spellings ns) next)) (Agrees place (with_variables (home place) (name.text ∷ names.spellings ns) w))
    (variables_named m of ns e) (λ f j. joined place (name.text ∷ []) (names.spellings ns) w f j) (variables_agree place next m of ns e k))

group_agrees : (place : List ℕ) (w : Naming) (m : Bool) (g : text.Group) (env : Environment) → Agrees place w env
    → Gives (Agrees place (with_variables (home place) (names.group_names g) w)) (variables_of_group m g env)
group_agrees place w m (text.group first ns of) env h =
    behind (Agrees place (with_variables (home place) (first.text ∷ names.spellings ns) w)) (type_named env of) _
    (λ t. variables_agree place w m t (text.next_name first ns) env h)

groups_agree : (place : List ℕ) (w : Naming) (m : Bool) (gs : text.Groups) (env : Environment) → Agrees place w env
    → Gives (Agrees place (with_variables (home place) (names.groups_names gs) w)) (variables_of_groups m gs env)
groups_agree place w m text.no_group env h = recounted place w (with_variables (home place) [] w) env (sym (none_more (home place) w)) refl refl h
groups_agree place w m (text.next_group g gs) env h =
    let next = with_variables (home place) (names.group_names g) w in
    bind (Agrees place next) (Agrees place (with_variables (home place) (names.group_names g ++ names.groups_names gs) w)) _ _ (group_agrees place w m g env h)
    (λ e k.
    weaker (Agrees place (with_variables (home place) (names.groups_names gs) next))
    (Agrees place (with_variables (home place) (names.group_names g ++ names.groups_names gs) w))
    (variables_of_groups m gs e) (λ f j. joined place (names.group_names g) (names.groups_names gs) w f j) (groups_agree place next m gs e k))

pub var_agrees : (place : List ℕ) (w : Naming) (m : Bool) (vs : text.VarList) (env : Environment) → Agrees place w env
    → Gives (Agrees place (with_variables (home place) (names.declared_names vs) w)) (var_list m vs env)
var_agrees place w m (text.var_list first more) env h = groups_agree place w m (text.next_group first more) env h
