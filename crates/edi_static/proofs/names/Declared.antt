-- Declarations of constants, types and variables, and headings: the names that they use are visible, and these are the
-- names that they add.
use Rattle.std.proofs.Common.{◌≡◌, ℕ, suc, Bool, true, false, is_some, ◌||◌, ◌&&◌, ◌==◌, nat_lt, List, [], ◌∷◌, ◌++◌, Option, Some, None, int_le, refl}
use Rattle.edi_scope.specs.declared.entity.Entity.{Entity}
use Rattle.edi_scope.specs.Scope.{declared, outside, entered}
use Rattle.edi_tree.specs.declared.names.Name.{Name}
use Rattle.edi_tree.specs.declared.constants.ConstDecl.{ConstDecl}
use Rattle.edi_tree.specs.Tree as text
use Rattle.edi_unit.specs.Types.{Shape, record_of, array_of, set_of, is_elementary}
use Rattle.edi_unit.specs.Headings.{Formals}
use Rattle.edi_static.specs.declared.faults.StaticKind.TheVariants as kind
use Rattle.edi_static.specs.Judged.{gives, must}
use Rattle.edi_static.specs.Environment.{Environment, declare}
use Rattle.edi_static.specs.Types.{Fields, const_decl, const_decls, const_list, most_constants, enum_constants, enum_decl, fields_of_group, fields_of_groups}
use Rattle.edi_static.specs.Types.{no_fields, declare_type, type_decl, variables_named, variables_of_group, variables_of_groups, var_list}
use Rattle.edi_static.specs.Headings as headings
use Rattle.edi_static.specs.Headings.{Listed, Headed, own_name}
use Rattle.edi_static.proofs.Judging.{Gives, bind, choose, ruled}
use Rattle.edi_static.specs.names.Uses.{NameKnown, ConstantKnown}
use Rattle.edi_static.specs.names.Visible.{names_in, group_names, groups_names, consts_names, const_list_names, type_names, var_list_names, param_names}
use Rattle.edi_static.specs.names.Visible.{more_params_names, params_names, parameter_names, GroupKnown, FieldsKnown, VariablesKnown, ConstsKnown, ConstListKnown}
use Rattle.edi_static.specs.names.Visible.{TypeKnown, VarListKnown, ResultKnown, HeadingKnown, ParamsKnown, MoreParamsKnown, ParamKnown}
use Rattle.edi_static.proofs.names.Shows.{Shows, first, two}
use Rattle.edi_static.proofs.names.UsesExpressions.{Within, type_known, constant_known}
use Rattle.edi_static.proofs.names.Scoping.{Adds, exports, none, with_adds, sees_behind}
use Rattle.edi_static.proofs.names.Growing.{in_env, in_listed, in_headed, Grows, chain, outer, keep, end, chain_export, shown, pass, so}

-- nothing is declared
nothing : (m : Bool) (env : Environment) → Grows in_env (Unit {0}) [] (exports m []) env.scopes (gives env)
nothing m env = record { grows = (tt, none m env.scopes) }

pub declare_grows : (m : Bool) (name : Name) (means : Entity) (env : Environment) → Grows in_env (Unit {0}) (name.text ∷ []) (exports m (name.text ∷ []))
    env.scopes (declare m name means env)
declare_grows m name means env = record {
  grows =
      choose (λ e. Unit {0} × Adds (name.text ∷ []) (exports m (name.text ∷ [])) env.scopes e.scopes)
      (is_some (declared env.scopes name.text) || (m && is_some (declared (outside env.scopes) name.text))) _ _ tt (tt, with_adds m name.text means env.scopes);
}

-- ---- constants

const_grows : (m : Bool) (d : ConstDecl) (env : Environment) (names : List (List ℕ)) → Within names env → Grows in_env (ConstantKnown names d.constant)
    (d.name.text ∷ []) (exports m (d.name.text ∷ [])) env.scopes (const_decl m d env)
const_grows m d env names w = so (shown in_env (constant_known env names w d.constant) (λ c. declare_grows m d.name _ env)) (λ p. p.0)

consts_grow : (m : Bool) (ds : text.ConstDecls) (env : Environment) (names : List (List ℕ)) → Within names env → Grows in_env (ConstsKnown names ds)
    (consts_names ds) (exports m (consts_names ds)) env.scopes (const_decls m ds env)
consts_grow m text.no_const_decl env names w = nothing m env
consts_grow m (text.next_const_decl d ds) env names w =
    chain_export m (const_grows m d env names w) (λ e k. consts_grow m ds e (d.name.text ∷ names) (sees_behind names w k))

pub const_list_grows : (m : Bool) (cs : text.ConstList) (env : Environment) (names : List (List ℕ)) → Within names env
    → Grows in_env (ConstListKnown names cs) (const_list_names cs) (exports m (const_list_names cs)) env.scopes (const_list m cs env)
const_list_grows m (text.const_list d ds) env names w =
    chain_export m (const_grows m d env names w) (λ e k. consts_grow m ds e (d.name.text ∷ names) (sees_behind names w k))

-- ---- types

enum_constants_grow : (m : Bool) (of n : ℕ) (ns : text.Names) (env : Environment) → Grows in_env (Unit {0}) (names_in ns) (exports m (names_in ns)) env.scopes
    (enum_constants m of n ns env)
enum_constants_grow m of n text.no_name env = nothing m env
enum_constants_grow m of n (text.next_name name ns) env =
    so (chain_export m (keep in_env in_env _ (declare_grows m name _ env)
    (λ e. ruled (λ b. b.scopes ≡ e.scopes) (nat_lt n most_constants) kind.Range name.line _ (λ _. refl)))
    (λ e k. enum_constants_grow m of (suc n) ns e)) (λ p. tt)

declare_type_grows : (m : Bool) (name : Name) (shape : Shape) (fields : List (List ℕ)) (env : Environment) → Grows in_env (Unit {0}) (name.text ∷ [])
    (exports m (name.text ∷ [])) env.scopes (declare_type m name shape fields env)
declare_type_grows m name shape fields env = pass in_env _ (λ _. keep in_env in_env _ (declare_grows m name _ env) (λ e. refl))

enum_grows : (m : Bool) (name : Name) (ns : text.Names) (env : Environment) → Grows in_env (Unit {0}) (name.text ∷ names_in ns)
    (exports m (name.text ∷ names_in ns)) env.scopes (enum_decl m name ns env)
enum_grows m name ns env =
    so (keep in_env in_env _ (chain_export m (declare_grows m name _ env) (λ e k. enum_constants_grow m _ 0 ns e)) (λ e. refl)) (λ p. tt)

group_known : (g : text.Group) (fields : Fields) (env : Environment) (names : List (List ℕ)) → Within names env
    → Shows (GroupKnown names g) (fields_of_group env g fields)
group_known (text.group name ns of) fields env names w = first _ (type_known env names w of)

fields_known : (gs : text.Groups) (fields : Fields) (env : Environment) (names : List (List ℕ)) → Within names env → Shows (FieldsKnown names gs)
    (fields_of_groups env gs fields)
fields_known text.no_group fields env names w = record { shown = tt }
fields_known (text.next_group g gs) fields env names w = two (group_known g fields env names w) (λ f. fields_known gs f env names w)

pub type_grows : (m : Bool) (t : text.TypeDecl) (env : Environment) (names : List (List ℕ)) → Within names env → Grows in_env (TypeKnown names t)
    (type_names t) (exports m (type_names t)) env.scopes (type_decl m t env)
type_grows m (text.enum_decl name one more) env names w = enum_grows m name (text.next_name one more) env
type_grows m (text.record_decl name one more) env names w =
    let gs : text.Groups = text.next_group one more in
    let all : Grows in_env (FieldsKnown names gs × Unit {0}) (name.text ∷ []) (exports m (name.text ∷ [])) env.scopes
    (type_decl m (text.record_decl name one more) env) =
    shown in_env (fields_known gs no_fields env names w) (λ fields. declare_type_grows m name (record_of fields.types) fields.names env) in
    so all (λ p. p.0)
type_grows m (text.array_decl name line lower upper element) env names w =
    let all : Grows in_env (ConstantKnown names lower × (ConstantKnown names upper × (NameKnown names element × Unit {0}))) (name.text ∷ [])
    (exports m (name.text ∷ [])) env.scopes
    (type_decl m (text.array_decl name line lower upper element) env) =
    shown in_env (constant_known env names w lower)
    (λ lo. shown in_env (constant_known env names w upper) (λ hi. shown in_env (type_known env names w element) (λ e.
    pass in_env (must (lo.of == hi.of) kind.Types name.line) (λ _. pass in_env (must (int_le lo.ordinal hi.ordinal) kind.Range name.line) (λ _.
    declare_type_grows m name (array_of lo.of lo.ordinal hi.ordinal e) [] env))))) in
    so all (λ p. (p.0, p.1.0, p.1.1.0))
type_grows m (text.set_decl name base) env names w =
    let all : Grows in_env (NameKnown names base × Unit {0}) (name.text ∷ []) (exports m (name.text ∷ [])) env.scopes
    (type_decl m (text.set_decl name base) env) =
    shown in_env (type_known env names w base) (λ b. pass in_env (must (is_elementary env.types b) kind.Types base.line) (λ _.
    declare_type_grows m name (set_of b) [] env)) in
    so all (λ p. p.0)

-- ---- variables

variables_grow : (m : Bool) (of : ℕ) (ns : text.Names) (env : Environment) → Grows in_env (Unit {0}) (names_in ns) (exports m (names_in ns)) env.scopes
    (variables_named m of ns env)
variables_grow m of text.no_name env = nothing m env
variables_grow m of (text.next_name name ns) env =
    so (chain_export m (keep in_env in_env _ (declare_grows m name _ env) (λ e. refl)) (λ e k. variables_grow m of ns e)) (λ p. tt)

group_grows : (m : Bool) (g : text.Group) (env : Environment) (names : List (List ℕ)) → Within names env → Grows in_env (GroupKnown names g) (group_names g)
    (exports m (group_names g)) env.scopes (variables_of_group m g env)
group_grows m (text.group name ns of) env names w =
    so (shown in_env (type_known env names w of) (λ t. variables_grow m t (text.next_name name ns) env)) (λ p. p.0)

groups_grow : (m : Bool) (gs : text.Groups) (env : Environment) (names : List (List ℕ)) → Within names env → Grows in_env (VariablesKnown names gs)
    (groups_names gs) (exports m (groups_names gs)) env.scopes (variables_of_groups m gs env)
groups_grow m text.no_group env names w = nothing m env
groups_grow m (text.next_group g gs) env names w =
    chain_export m (group_grows m g env names w) (λ e k. groups_grow m gs e (group_names g ++ names) (sees_behind names w k))

pub var_list_grows : (m : Bool) (vs : text.VarList) (env : Environment) (names : List (List ℕ)) → Within names env → Grows in_env (VarListKnown names vs)
    (var_list_names vs) (exports m (var_list_names vs)) env.scopes (var_list m vs env)
var_list_grows m (text.var_list one more) env names w = groups_grow m (text.next_group one more) env names w

-- ---- headings

result_ends : (r : Option Name) (l : Listed) (names : List (List ℕ)) → Within names l.env → Gives (λ h. ResultKnown names r × (h.env.scopes ≡ l.env.scopes))
    (headings.with_result r l)
result_ends None l names w = (tt, refl)
result_ends (Some name) l names w =
    bind (λ t. NameKnown names name) (λ h. NameKnown names name × (h.env.scopes ≡ l.env.scopes)) (headings.result_named (Some name) l.env) _
    (first _ (type_known l.env names w name)).shown (λ r k. (k, refl))

module _ (block before : ℕ) where
  params_grow : (of : ℕ) (one : Formals) (ns : text.Names) (l : Listed) → Grows in_listed (Unit {0}) (names_in ns) [] l.env.scopes
      (headings.params_named block before of one ns l)
  params_grow of one text.no_name l = record { grows = (tt, none false l.env.scopes) }
  params_grow of one (text.next_name name ns) l =
      so (chain in_listed in_listed (keep in_env in_listed _ (declare_grows false name _ l.env) (λ e. refl)) (λ e k. params_grow of one ns e)) (λ p. tt)

  param_group_grows : (v : Bool) (g : text.Group) (l : Listed) (names : List (List ℕ)) → Within names l.env → Grows in_listed (GroupKnown names g)
      (group_names g) [] l.env.scopes (headings.param_group block before v g l)
  param_group_grows v (text.group name ns of) l names w =
      so (shown in_listed (type_known l.env names w of) (λ t. params_grow t _ (text.next_name name ns) l)) (λ p. p.0)

mutual
  pub heading_grows : (block : ℕ) (h : text.Heading) (env : Environment) (names : List (List ℕ)) → Within names env → Grows in_headed (HeadingKnown names h)
      (parameter_names h) [] (entered false env.scopes) (headings.heading_parts block h env)
  heading_grows block (text.heading name ps r) env names w =
      end in_listed in_headed _ (parameters_grow block (headings.before_parameters r) ps _ names w)
      (λ l k. result_ends r l (params_names ps ++ names) (sees_behind names w k))

  parameters_grow : (block before : ℕ) (ps : text.Params) (l : Listed) (names : List (List ℕ)) → Within names l.env → Grows in_listed (ParamsKnown names ps)
      (params_names ps) [] l.env.scopes (headings.parameters block before ps l)
  parameters_grow block before text.no_params l names w = record { grows = (tt, none false l.env.scopes) }
  parameters_grow block before (text.params p ps) l names w =
      chain in_listed in_listed (parameter_grows block before p l names w)
      (λ e k. more_parameters_grow block before ps e (param_names p ++ names) (sees_behind names w k))

  more_parameters_grow : (block before : ℕ) (ps : text.MoreParams) (l : Listed) (names : List (List ℕ)) → Within names l.env
      → Grows in_listed (MoreParamsKnown names ps) (more_params_names ps) [] l.env.scopes (headings.more_parameters block before ps l)
  more_parameters_grow block before text.no_param l names w = record { grows = (tt, none false l.env.scopes) }
  more_parameters_grow block before (text.next_param p ps) l names w =
      chain in_listed in_listed (parameter_grows block before p l names w)
      (λ e k. more_parameters_grow block before ps e (param_names p ++ names) (sees_behind names w k))

  parameter_grows : (block before : ℕ) (p : text.Param) (l : Listed) (names : List (List ℕ)) → Within names l.env → Grows in_listed (ParamKnown names p)
      (param_names p) [] l.env.scopes (headings.parameter block before p l)
  parameter_grows block before (text.value_param g) l names w = param_group_grows block before false g l names w
  parameter_grows block before (text.var_param g) l names w = param_group_grows block before true g l names w
  parameter_grows block before (text.procedure_param h) l names w =
      so (outer in_headed in_listed (heading_grows block h l.env names w)
      (λ e. keep in_env in_listed _ (declare_grows false (own_name h) _ (headings.leave e.env)) (λ o. refl))) (λ p. p.0)
