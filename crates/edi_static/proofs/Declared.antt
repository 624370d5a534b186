-- What constants, types, variables and headings keep of the types and blocks that are known: whatever is kept by a block that
-- changes but for its body and its need is kept by each of them but types, and a type adds a shape; of a record it has one part
-- at the least.
use Rattle.std.proofs.Common.{◌≡◌, ℕ, suc, ◌≤◌, ℤ, Bool, true, false, List, [], ◌∷◌, ◌++◌, length, Option, nat_lt, nat_le, is_some, ◌||◌, ◌&&◌, ◌==◌, refl}
use Rattle.std.proofs.Common.{arith, All, subst, sym}
use Rattle.std.specs.Prelude.{int_le, not, slice_set}
use Rattle.std.specs.List.{list_any}
use Rattle.std.specs.Str.{bytes_eq}
use Rattle.std.proofs.lemmas.List.{length-append, get_or_past}
use Rattle.std.proofs.lemmas.List.Elements.{All-get_or}
use Rattle.edi_scope.specs.declared.entity.Entity.{Entity}
use Rattle.edi_scope.specs.Scope.{declared, outside}
use Rattle.edi_tree.specs.declared.names.Name.{Name}
use Rattle.edi_tree.specs.declared.constants.Constant.{Constant}
use Rattle.edi_tree.specs.declared.constants.ConstDecl.{ConstDecl}
use Rattle.edi_tree.specs.Tree as text
use Rattle.edi_unit.specs.Types.{Shape, enumeration, record_of, array_of, set_of, is_elementary, shape_size, size, greatest_size}
use Rattle.edi_unit.specs.Tree.{Block}
use Rattle.edi_unit.specs.Need.{no_block, block_at}
use Rattle.edi_unit.specs.Headings.{heading, Formals}
use Rattle.edi_static.specs.declared.faults.StaticKind.TheVariants as kind
use Rattle.edi_static.specs.Judged.{gives, must}
use Rattle.edi_static.specs.Environment.{Environment, type_named, declare, give_outside, here, with_variable}
use Rattle.edi_static.specs.Types.{constant, const_decl, const_decls, const_list, most_constants, names_count, enum_constants, enum_decl, Fields, field_named}
use Rattle.edi_static.specs.Types.{fields_named, fields_of_group, fields_of_groups, no_fields, declare_type, array_decl, set_decl, type_decl, variable_decl}
use Rattle.edi_static.specs.Types.{variables_named, variables_of_groups, var_list}
use Rattle.edi_static.specs.Headings.{Listed, Headed, leave, round, own_name, params_named, param_group, procedure_named, result_named, with_result}
use Rattle.edi_static.specs.Headings.{heading_parts, parameters, more_parameters, parameter}
use Rattle.edi_static.specs.Programs.{global_decl, global_decls}
use Rattle.edi_static.proofs.Judging.{Gives, bind, behind, choose, ruled, weaker}

-- ---- records

abbrev Filled : ℕ → Fields → Type 0
Filled n fields = n ≤ length fields.types

field_filled : (of : ℕ) (name : Name) (f : Fields) (n : ℕ) → Filled n f → Gives (Filled (suc n)) (field_named of name f)
field_filled of name f n h = ruled (Filled (suc n)) (not (list_any (bytes_eq name.text) f.names)) kind.Ambiguous name.line _
    (λ e. omega (arith, h, length-append f.types (of ∷ [])))

named_filled : (of : ℕ) (ns : text.Names) (f : Fields) (n : ℕ) → Filled n f → Gives (Filled n) (fields_named of ns f)
named_filled of text.no_name f n h = h
named_filled of (text.next_name name ns) f n h =
    bind (Filled (suc n)) (Filled n) (field_named of name f) _ (field_filled of name f n h) (λ g k. named_filled of ns g n (omega (arith, k)))

group_filled : (env : Environment) (g : text.Group) (f : Fields) (n : ℕ) → Filled n f → Gives (Filled (suc n)) (fields_of_group env g f)
group_filled env (text.group first names of) f n h =
    behind (Filled (suc n)) (type_named env of) _ (λ t.
    bind (Filled (suc n)) (Filled (suc n)) (field_named t first f) _ (field_filled t first f n h) (λ g k. named_filled t names g (suc n) k))

groups_filled : (env : Environment) (gs : text.Groups) (f : Fields) (n : ℕ) → Filled n f → Gives (Filled n) (fields_of_groups env gs f)
groups_filled env text.no_group f n h = h
groups_filled env (text.next_group g gs) f n h =
    bind (Filled (suc n)) (Filled n) (fields_of_group env g f) _ (group_filled env g f n h) (λ e k. groups_filled env gs e n (omega (arith, k)))

record_filled : (env : Environment) (first : text.Group) (more : text.Groups) → Gives (Filled 1) (fields_of_groups env (text.next_group first more) no_fields)
record_filled env first more =
    bind (Filled 1) (Filled 1) (fields_of_group env first no_fields) _ (group_filled env first no_fields 0 (omega arith)) (λ e k. groups_filled env more e 1 k)

-- ---- whatever is kept

-- Something that is said of the types and blocks that are known, what it becomes after one more type, and of which shapes that is so.
pub record Keeping : Type 1 where
  pub Is : List Shape → List Block → Type 0
  pub Becomes : List Shape → List Block → Type 0
  pub Fine : Shape → Type 0
  pub enumerated : (n : ℕ) → Fine (enumeration n)
  pub filled : (parts : List ℕ) → 1 ≤ length parts → Fine (record_of parts)
  pub arrayed : (of : ℕ) (lower upper : ℤ) (element : ℕ) → Fine (array_of of lower upper element)
  pub set : (of : ℕ) → Fine (set_of of)
  pub typed : (types : List Shape) (blocks : List Block) (shape : Shape) → Fine shape → Is types blocks → Becomes (types ++ shape ∷ []) blocks
  pub varied : (types : List Shape) (blocks : List Block) (n : ℕ) (block : Block) → block.body ≡ (block_at blocks n).body
      → block.need ≡ (block_at blocks n).need → Is types blocks → Is types (slice_set blocks n block)

-- something that is said of the blocks alone
abbrev pub of_blocks : (P : List Block → Type 0) → ((blocks : List Block) (n : ℕ) (block : Block) → block.body ≡ (block_at blocks n).body →
    block.need ≡ (block_at blocks n).need → P blocks → P (slice_set blocks n block)) → Keeping
of_blocks P varied = record {
  Is = λ types blocks. P blocks;
  Becomes = λ types blocks. P blocks;
  Fine = λ shape. Unit {0};
  enumerated = λ n. tt;
  filled = λ parts some. tt;
  arrayed = λ of lower upper element. tt;
  set = λ of. tt;
  typed = λ types blocks shape fine h. h;
  varied = λ types. varied;
}

-- of the block at a number, where it holds of each block and of none
pub block_or : (P : Block → Type 0) (bs : List Block) (n : ℕ) (inside : Bool) → nat_lt n (length bs) ≡ inside → P no_block → All P bs → P (block_at bs n)
block_or P bs n true e none h = All-get_or P bs n no_block (grind (arith, e)) h
block_or P bs n false e none h = subst P (sym (get_or_past bs n no_block (grind (arith, e)))) none

module _ (keep : Keeping) where
  abbrev pub Kept : Environment → Type 0
  Kept env = keep.Is env.types env.blocks

  -- after one more type
  abbrev pub Grown : Environment → Type 0
  Grown env = keep.Becomes env.types env.blocks

  abbrev pub KeptListed : Listed → Type 0
  KeptListed listed = Kept listed.env

  abbrev pub KeptHeaded : Headed → Type 0
  KeptHeaded headed = Kept headed.env

  -- ---- names

  pub declare_kept : (m : Bool) (name : Name) (means : Entity) (env : Environment) → Kept env → Gives Kept (declare m name means env)
  declare_kept m name means env h =
      choose Kept (is_some (declared env.scopes name.text) || (m && is_some (declared (outside env.scopes) name.text))) _ _ tt h

  outside_kept : (name : Name) (means : Entity) (env : Environment) → Kept env → Gives Kept (give_outside name means env)
  outside_kept name means env h = choose Kept (is_some (declared (outside env.scopes) name.text)) _ _ tt h

  -- ---- constants, types and variables

  const_kept : (m : Bool) (d : ConstDecl) (env : Environment) → Kept env → Gives Kept (const_decl m d env)
  const_kept m d env h = behind Kept _ _ (λ c. declare_kept m d.name _ env h)

  consts_kept : (m : Bool) (ds : text.ConstDecls) (env : Environment) → Kept env → Gives Kept (const_decls m ds env)
  consts_kept m text.no_const_decl env h = h
  consts_kept m (text.next_const_decl d ds) env h = bind Kept Kept _ _ (const_kept m d env h) (λ e k. consts_kept m ds e k)

  pub const_list_kept : (m : Bool) (cs : text.ConstList) (env : Environment) → Kept env → Gives Kept (const_list m cs env)
  const_list_kept m (text.const_list d ds) env h = bind Kept Kept _ _ (const_kept m d env h) (λ e k. consts_kept m ds e k)

  enum_kept : (m : Bool) (of n : ℕ) (ns : text.Names) (env : Environment) → Kept env → Gives Kept (enum_constants m of n ns env)
  enum_kept m of n text.no_name env h = h
  enum_kept m of n (text.next_name name ns) env h =
      bind Kept Kept _ _
      (bind Kept Kept _ _ (declare_kept m name _ env h) (λ e k.
      behind Kept (must (nat_lt n most_constants) kind.Range name.line) (λ _. gives e) (λ _. k)))
      (λ e k. enum_kept m of (suc n) ns e k)

  type_kept : (m : Bool) (name : Name) (shape : Shape) (fields : List (List ℕ)) (env : Environment) → keep.Fine shape → Kept env
      → Gives Grown (declare_type m name shape fields env)
  type_kept m name shape fields env part h =
      ruled Grown (nat_le (shape_size (size env.types) shape) greatest_size) kind.Range name.line _ (λ _.
      bind Kept Grown _ _ (declare_kept m name _ env h) (λ e k. keep.typed e.types e.blocks shape part k))

  enum_decl_kept : (m : Bool) (name : Name) (ns : text.Names) (env : Environment) → Kept env → Gives Grown (enum_decl m name ns env)
  enum_decl_kept m name ns env h =
      bind Kept Grown _ _
      (bind Kept Kept _ _ (declare_kept m name _ env h) (λ e k. enum_kept m _ 0 ns e k))
      (λ e k. keep.typed e.types e.blocks (enumeration (names_count ns)) (keep.enumerated (names_count ns)) k)

  array_kept : (m : Bool) (name : Name) (lower upper : Constant) (element : Name) (env : Environment) → Kept env
      → Gives Grown (array_decl m name lower upper element env)
  array_kept m name lower upper element env h =
      behind Grown (constant env lower) _ (λ lo.
      behind Grown (constant env upper) _ (λ hi.
      behind Grown (type_named env element) _ (λ e.
      ruled Grown (lo.of == hi.of) _ _ _ (λ _.
      ruled Grown (int_le lo.ordinal hi.ordinal) _ _ _ (λ _. type_kept m name (array_of lo.of lo.ordinal hi.ordinal e) [] env (keep.arrayed lo.of lo.ordinal hi.ordinal e) h)))))

  set_decl_kept : (m : Bool) (name base : Name) (env : Environment) → Kept env → Gives Grown (set_decl m name base env)
  set_decl_kept m name base env h =
      behind Grown (type_named env base) _ (λ b. ruled Grown (is_elementary env.types b) _ _ _ (λ _. type_kept m name (set_of b) [] env (keep.set b) h))

  pub type_decl_kept : (m : Bool) (t : text.TypeDecl) (env : Environment) → Kept env → Gives Grown (type_decl m t env)
  type_decl_kept m (text.enum_decl name first more) env h = enum_decl_kept m name (text.next_name first more) env h
  type_decl_kept m (text.record_decl name first more) env h =
      bind (Filled 1) Grown (fields_of_groups env (text.next_group first more) no_fields) _ (record_filled env first more)
      (λ fields k. type_kept m name (record_of fields.types) fields.names env (keep.filled fields.types k) h)
  type_decl_kept m (text.array_decl name line lower upper element) env h = array_kept m name lower upper element env h
  type_decl_kept m (text.set_decl name base) env h = set_decl_kept m name base env h

  variable_kept : (m : Bool) (of : ℕ) (name : Name) (env : Environment) → Kept env → Gives Kept (variable_decl m of name env)
  variable_kept m of name env h =
      bind Kept Kept _ _ (declare_kept m name _ env h) (λ e k. keep.varied e.types e.blocks (here e) (with_variable of (block_at e.blocks (here e))) refl refl k)

  named_kept : (m : Bool) (of : ℕ) (ns : text.Names) (env : Environment) → Kept env → Gives Kept (variables_named m of ns env)
  named_kept m of text.no_name env h = h
  named_kept m of (text.next_name name ns) env h = bind Kept Kept _ _ (variable_kept m of name env h) (λ e k. named_kept m of ns e k)

  groups_kept : (m : Bool) (gs : text.Groups) (env : Environment) → Kept env → Gives Kept (variables_of_groups m gs env)
  groups_kept m text.no_group env h = h
  groups_kept m (text.next_group (text.group first names of) gs) env h =
      bind Kept Kept _ _
      (behind Kept (type_named env of) _ (λ t. named_kept m t (text.next_name first names) env h))
      (λ e k. groups_kept m gs e k)

  pub var_kept : (m : Bool) (vs : text.VarList) (env : Environment) → Kept env → Gives Kept (var_list m vs env)
  var_kept m (text.var_list first more) env h = groups_kept m (text.next_group first more) env h

  -- ---- headings

  params_kept : (block before of : ℕ) (one : Formals) (ns : text.Names) (l : Listed) → KeptListed l → Gives KeptListed (params_named block before of one ns l)
  params_kept block before of one text.no_name l h = h
  params_kept block before of one (text.next_name name ns) l h =
      bind KeptListed KeptListed _ _
      (bind Kept KeptListed _ _ (declare_kept false name _ l.env h) (λ e k. k))
      (λ m k. params_kept block before of one ns m k)

  group_kept : (block before : ℕ) (v : Bool) (g : text.Group) (l : Listed) → KeptListed l → Gives KeptListed (param_group block before v g l)
  group_kept block before v (text.group first names of) l h = behind KeptListed (type_named l.env of) _
      (λ t. params_kept block before t _ (text.next_name first names) l h)

  procedure_named_kept : (block before : ℕ) (name : Name) (fs : Formals) (inner : Headed) → KeptHeaded inner
      → Gives KeptListed (procedure_named block before name fs inner)
  procedure_named_kept block before name fs inner h = bind Kept KeptListed _ _ (declare_kept false name _ (leave inner.env) h) (λ e k. k)

  result_kept : (r : Option Name) (l : Listed) → KeptListed l → Gives KeptHeaded (with_result r l)
  result_kept r l h =
      behind KeptHeaded (result_named r l.env) (λ t. gives (record { env = l.env; asks = heading l.formals t })) (λ t. h)

  mutual
    pub heading_kept : (block : ℕ) (h : text.Heading) (env : Environment) → Kept env → Gives KeptHeaded (heading_parts block h env)
    heading_kept block (text.heading name ps r) env h =
        bind KeptListed KeptHeaded _ _ (parameters_kept block _ ps _ h) (λ l k. result_kept r l k)

    parameters_kept : (block before : ℕ) (ps : text.Params) (l : Listed) → KeptListed l → Gives KeptListed (parameters block before ps l)
    parameters_kept block before text.no_params l h = h
    parameters_kept block before (text.params p ps) l h =
        bind KeptListed KeptListed _ _ (parameter_kept block before p l h) (λ m k. more_kept block before ps m k)

    more_kept : (block before : ℕ) (ps : text.MoreParams) (l : Listed) → KeptListed l → Gives KeptListed (more_parameters block before ps l)
    more_kept block before text.no_param l h = h
    more_kept block before (text.next_param p ps) l h =
        bind KeptListed KeptListed _ _ (parameter_kept block before p l h) (λ m k. more_kept block before ps m k)

    parameter_kept : (block before : ℕ) (p : text.Param) (l : Listed) → KeptListed l → Gives KeptListed (parameter block before p l)
    parameter_kept block before (text.value_param g) l h = group_kept block before false g l h
    parameter_kept block before (text.var_param g) l h = group_kept block before true g l h
    parameter_kept block before (text.procedure_param inner) l h =
        bind KeptHeaded KeptListed _ _ (heading_kept block inner l.env h) (λ i k. procedure_named_kept block before (own_name inner) l.formals i k)

  -- a name is declared in the scope round the innermost, or given to it
  pub round_kept : (m : Bool) (name : Name) (means : Entity) (env : Environment) → Kept env → Gives Kept (round (declare m name means) env)
  round_kept m name means env h = bind Kept Kept (declare m name means (leave env)) _ (declare_kept m name means (leave env) h) (λ e s. s)

  pub outside_round_kept : (name : Name) (means : Entity) (env : Environment) → Kept env → Gives Kept (round (give_outside name means) env)
  outside_round_kept name means env h = bind Kept Kept (give_outside name means (leave env)) _ (outside_kept name means (leave env) h) (λ e s. s)

  -- ---- globals

  global_kept : ((types : List Shape) (blocks : List Block) → keep.Becomes types blocks → keep.Is types blocks) → (g : text.Global) (env : Environment)
      → Kept env → Gives Kept (global_decl g env)
  global_kept settled (text.const_global cs) env h = const_list_kept false cs env h
  global_kept settled (text.type_global t) env h =
      weaker Grown Kept (type_decl false t env) (λ e k. settled e.types e.blocks k) (type_decl_kept false t env h)

  -- where it is kept by one more type too
  pub globals_kept : ((types : List Shape) (blocks : List Block) → keep.Becomes types blocks → keep.Is types blocks) → (gs : text.Globals)
      (env : Environment) → Kept env → Gives Kept (global_decls gs env)
  globals_kept settled text.no_global env h = h
  globals_kept settled (text.next_global g gs) env h = bind Kept Kept _ _ (global_kept settled g env h) (λ e k. globals_kept settled gs e k)
