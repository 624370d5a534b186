-- What declarations of constants, types and variables, and the parts of headings, leave as it was.
use Rattle.std.proofs.Common.{◌≡◌, ℕ, suc, Bool, true, false, List, [], ◌∷◌, drop, Option, nat_lt, is_some, ◌||◌, ◌&&◌, ◌==◌, int_le, refl, ap, ◌∙◌}
use Rattle.edi_scope.specs.declared.entity.Entity.{Entity}
use Rattle.edi_scope.specs.Scope.{Scope, declared, outside, with_name, exported}
use Rattle.edi_tree.specs.declared.names.Name.{Name}
use Rattle.edi_tree.specs.declared.constants.Constant.{Constant}
use Rattle.edi_tree.specs.declared.constants.ConstDecl.{ConstDecl}
use Rattle.edi_tree.specs.Tree as text
use Rattle.edi_unit.specs.Types.{Shape, record_of, array_of, set_of, is_elementary}
use Rattle.edi_unit.specs.Headings.{heading, Formals}
use Rattle.edi_static.specs.declared.faults.StaticKind.TheVariants as kind
use Rattle.edi_static.specs.Judged.{gives, must}
use Rattle.edi_static.specs.Environment.{Environment, type_named, declare}
use Rattle.edi_static.specs.Types.{constant, const_decl, const_decls, const_list, most_constants, enum_constants, enum_decl, fields_of_groups, no_fields}
use Rattle.edi_static.specs.Types.{declare_type, array_decl, set_decl, type_decl, variable_decl, variables_named, variables_of_group, variables_of_groups}
use Rattle.edi_static.specs.Types.{var_list}
use Rattle.edi_static.specs.Headings.{Listed, Headed, leave, own_name, param_named, params_named, param_group, procedure_named, result_named, with_result}
use Rattle.edi_static.specs.Headings.{heading_parts, parameters, more_parameters, parameter}
use Rattle.edi_static.proofs.Judging.{Gives, bind, behind, choose, ruled}
use Rattle.edi_sema.specs.Frames.{kinds, DeclarationFrame, frame}

-- ---- scopes

pub named_kinds : (name : List ℕ) (means : Entity) (scopes : List Scope) → kinds (with_name name means scopes) ≡ kinds scopes
named_kinds name means [] = refl
named_kinds name means (s ∷ scopes) = refl

pub exported_kinds : (name : List ℕ) (means : Entity) (scopes : List Scope) → kinds (exported name means scopes) ≡ kinds scopes
exported_kinds name means [] = refl
exported_kinds name means (s ∷ scopes) = ap (λ ks. s.is_module ∷ ks) (named_kinds name means scopes)

abbrev Framed : DeclarationFrame → Environment → Type 0
Framed f env = frame env ≡ f

abbrev FramedListed : DeclarationFrame → Listed → Type 0
FramedListed f listed = frame listed.env ≡ f

-- ---- names

with_scopes : (f : DeclarationFrame) (scopes : List Scope) (env : Environment) → kinds scopes ≡ kinds env.scopes → Framed f env
    → Framed f (record env { scopes = scopes })
with_scopes f scopes env e h = ap (λ ks. record { kinds_of = ks; blocks_round = env.around; begun_here = env.begun; headings_known = env.headings }) e ∙ h

pub declare_framed : (m : Bool) (name : Name) (means : Entity) (f : DeclarationFrame) (env : Environment) → Framed f env
    → Gives (Framed f) (declare m name means env)
declare_framed false name means f env h =
    choose (Framed f) (is_some (declared env.scopes name.text) || (false && is_some (declared (outside env.scopes) name.text))) _ _ tt
    (with_scopes f _ env (named_kinds name.text means env.scopes) h)
declare_framed true name means f env h =
    choose (Framed f) (is_some (declared env.scopes name.text) || (true && is_some (declared (outside env.scopes) name.text))) _ _ tt
    (with_scopes f _ env (exported_kinds name.text means (with_name name.text means env.scopes) ∙ named_kinds name.text means env.scopes) h)

-- ---- constants, types and variables

const_framed : (m : Bool) (d : ConstDecl) (f : DeclarationFrame) (env : Environment) → Framed f env → Gives (Framed f) (const_decl m d env)
const_framed m d f env h = behind (Framed f) _ _ (λ c. declare_framed m d.name _ f env h)

consts_framed : (m : Bool) (ds : text.ConstDecls) (f : DeclarationFrame) (env : Environment) → Framed f env → Gives (Framed f) (const_decls m ds env)
consts_framed m text.no_const_decl f env h = h
consts_framed m (text.next_const_decl d ds) f env h = bind (Framed f) (Framed f) _ _ (const_framed m d f env h) (λ e k. consts_framed m ds f e k)

pub const_list_framed : (m : Bool) (cs : text.ConstList) (f : DeclarationFrame) (env : Environment) → Framed f env → Gives (Framed f) (const_list m cs env)
const_list_framed m (text.const_list d ds) f env h = bind (Framed f) (Framed f) _ _ (const_framed m d f env h) (λ e k. consts_framed m ds f e k)

enum_framed : (m : Bool) (of n : ℕ) (ns : text.Names) (f : DeclarationFrame) (env : Environment) → Framed f env
    → Gives (Framed f) (enum_constants m of n ns env)
enum_framed m of n text.no_name f env h = h
enum_framed m of n (text.next_name name ns) f env h =
    bind (Framed f) (Framed f) _ _
    (bind (Framed f) (Framed f) _ _ (declare_framed m name _ f env h) (λ e k.
    behind (Framed f) (must (nat_lt n most_constants) kind.Range name.line) (λ _. gives e) (λ _. k)))
    (λ e k. enum_framed m of (suc n) ns f e k)

type_framed : (m : Bool) (name : Name) (shape : Shape) (fields : List (List ℕ)) (f : DeclarationFrame) (env : Environment) → Framed f env
    → Gives (Framed f) (declare_type m name shape fields env)
type_framed m name shape fields f env h = behind (Framed f) _ _ (λ _. bind (Framed f) (Framed f) _ _ (declare_framed m name _ f env h) (λ e k. k))

enum_decl_framed : (m : Bool) (name : Name) (ns : text.Names) (f : DeclarationFrame) (env : Environment) → Framed f env
    → Gives (Framed f) (enum_decl m name ns env)
enum_decl_framed m name ns f env h =
    bind (Framed f) (Framed f) _ _
    (bind (Framed f) (Framed f) _ _ (declare_framed m name _ f env h) (λ e k. enum_framed m _ 0 ns f e k))
    (λ e k. k)

array_framed : (m : Bool) (name : Name) (lower upper : Constant) (element : Name) (f : DeclarationFrame) (env : Environment) → Framed f env
    → Gives (Framed f) (array_decl m name lower upper element env)
array_framed m name lower upper element f env h =
    behind (Framed f) (constant env lower) _ (λ lo.
    behind (Framed f) (constant env upper) _ (λ hi.
    behind (Framed f) (type_named env element) _ (λ e.
    ruled (Framed f) (lo.of == hi.of) _ _ _ (λ _.
    ruled (Framed f) (int_le lo.ordinal hi.ordinal) _ _ _ (λ _. type_framed m name (array_of lo.of lo.ordinal hi.ordinal e) [] f env h)))))

set_framed : (m : Bool) (name base : Name) (f : DeclarationFrame) (env : Environment) → Framed f env → Gives (Framed f) (set_decl m name base env)
set_framed m name base f env h =
    behind (Framed f) (type_named env base) _ (λ b. ruled (Framed f) (is_elementary env.types b) _ _ _ (λ _. type_framed m name (set_of b) [] f env h))

pub type_decl_framed : (m : Bool) (t : text.TypeDecl) (f : DeclarationFrame) (env : Environment) → Framed f env → Gives (Framed f) (type_decl m t env)
type_decl_framed m (text.enum_decl name first more) f env h = enum_decl_framed m name (text.next_name first more) f env h
type_decl_framed m (text.record_decl name first more) f env h =
    behind (Framed f) (fields_of_groups env (text.next_group first more) no_fields) _
    (λ fields. type_framed m name (record_of fields.types) fields.names f env h)
type_decl_framed m (text.array_decl name line lower upper element) f env h = array_framed m name lower upper element f env h
type_decl_framed m (text.set_decl name base) f env h = set_framed m name base f env h

variable_framed : (m : Bool) (of : ℕ) (name : Name) (f : DeclarationFrame) (env : Environment) → Framed f env → Gives (Framed f) (variable_decl m of name env)
variable_framed m of name f env h = bind (Framed f) (Framed f) _ _ (declare_framed m name _ f env h) (λ e k. k)

variables_framed : (m : Bool) (of : ℕ) (ns : text.Names) (f : DeclarationFrame) (env : Environment) → Framed f env
    → Gives (Framed f) (variables_named m of ns env)
variables_framed m of text.no_name f env h = h
variables_framed m of (text.next_name name ns) f env h = bind (Framed f) (Framed f) _ _ (variable_framed m of name f env h)
    (λ e k. variables_framed m of ns f e k)

group_variables_framed : (m : Bool) (g : text.Group) (f : DeclarationFrame) (env : Environment) → Framed f env → Gives (Framed f) (variables_of_group m g env)
group_variables_framed m (text.group first names of) f env h =
    behind (Framed f) (type_named env of) _ (λ t. variables_framed m t (text.next_name first names) f env h)

groups_framed : (m : Bool) (gs : text.Groups) (f : DeclarationFrame) (env : Environment) → Framed f env → Gives (Framed f) (variables_of_groups m gs env)
groups_framed m text.no_group f env h = h
groups_framed m (text.next_group g gs) f env h = bind (Framed f) (Framed f) _ _ (group_variables_framed m g f env h) (λ e k. groups_framed m gs f e k)

pub var_list_framed : (m : Bool) (vs : text.VarList) (f : DeclarationFrame) (env : Environment) → Framed f env → Gives (Framed f) (var_list m vs env)
var_list_framed m (text.var_list first more) f env h = groups_framed m (text.next_group first more) f env h

-- ---- headings

param_framed : (block before of : ℕ) (one : Formals) (name : Name) (f : DeclarationFrame) (l : Listed) → FramedListed f l
    → Gives (FramedListed f) (param_named block before of one name l)
param_framed block before of one name f l h = bind (Framed f) (FramedListed f) _ _ (declare_framed false name _ f l.env h) (λ e k. k)

params_framed : (block before of : ℕ) (one : Formals) (ns : text.Names) (f : DeclarationFrame) (l : Listed) → FramedListed f l
    → Gives (FramedListed f) (params_named block before of one ns l)
params_framed block before of one text.no_name f l h = h
params_framed block before of one (text.next_name name ns) f l h =
    bind (FramedListed f) (FramedListed f) _ _ (param_framed block before of one name f l h) (λ l k. params_framed block before of one ns f l k)

group_framed : (block before : ℕ) (v : Bool) (g : text.Group) (f : DeclarationFrame) (l : Listed) → FramedListed f l
    → Gives (FramedListed f) (param_group block before v g l)
group_framed block before v (text.group first names of) f l h =
    behind (FramedListed f) (type_named l.env of) _ (λ t. params_framed block before t _ (text.next_name first names) f l h)

-- inside the scope of a heading
abbrev inside : DeclarationFrame → DeclarationFrame
inside f = record f { kinds_of = false ∷ f.kinds_of }

abbrev pub FramedHeaded : DeclarationFrame → Headed → Type 0
FramedHeaded f headed = frame headed.env ≡ record f { kinds_of = false ∷ f.kinds_of }

tail_kinds : (k : Bool) (ks : List Bool) (scopes : List Scope) → kinds scopes ≡ k ∷ ks → kinds (outside scopes) ≡ ks
tail_kinds k ks [] e = absurd (cc)
tail_kinds k ks (s ∷ scopes) e = ap (drop 1) e

left : (f : DeclarationFrame) (env : Environment) → Framed (inside f) env → Framed f (leave env)
left f env h =
    ap (λ ks. record { kinds_of = ks; blocks_round = env.around; begun_here = env.begun; headings_known = env.headings })
    (tail_kinds false f.kinds_of env.scopes (ap (λ g. g.kinds_of) h))
    ∙ ap (λ g. record { kinds_of = f.kinds_of; blocks_round = g.blocks_round; begun_here = g.begun_here; headings_known = g.headings_known }) h

procedure_framed : (block before : ℕ) (name : Name) (fs : Formals) (f : DeclarationFrame) (headed : Headed) → FramedHeaded f headed
    → Gives (FramedListed f) (procedure_named block before name fs headed)
procedure_framed block before name fs f headed h =
    bind (Framed f) (FramedListed f) _ _ (declare_framed false name _ f (leave headed.env) (left f headed.env h)) (λ e k. k)

result_framed : (result : Option Name) (f : DeclarationFrame) (l : Listed) → FramedListed (inside f) l → Gives (FramedHeaded f) (with_result result l)
result_framed result f l h = behind (FramedHeaded f) (result_named result l.env) (λ r. gives (record { env = l.env; asks = heading l.formals r })) (λ r. h)

mutual
  pub heading_framed : (block : ℕ) (t : text.Heading) (f : DeclarationFrame) (env : Environment) → Framed f env
      → Gives (FramedHeaded f) (heading_parts block t env)
  heading_framed block (text.heading name ps result) f env h =
      bind (FramedListed (inside f)) (FramedHeaded f) _ _
      (parameters_framed block _ ps (inside f) _ (ap inside h))
      (λ l k. result_framed result f l k)

  parameters_framed : (block before : ℕ) (ps : text.Params) (f : DeclarationFrame) (l : Listed) → FramedListed f l
      → Gives (FramedListed f) (parameters block before ps l)
  parameters_framed block before text.no_params f l h = h
  parameters_framed block before (text.params p ps) f l h =
      bind (FramedListed f) (FramedListed f) _ _ (parameter_framed block before p f l h) (λ l k. more_framed block before ps f l k)

  more_framed : (block before : ℕ) (ps : text.MoreParams) (f : DeclarationFrame) (l : Listed) → FramedListed f l
      → Gives (FramedListed f) (more_parameters block before ps l)
  more_framed block before text.no_param f l h = h
  more_framed block before (text.next_param p ps) f l h =
      bind (FramedListed f) (FramedListed f) _ _ (parameter_framed block before p f l h) (λ l k. more_framed block before ps f l k)

  parameter_framed : (block before : ℕ) (p : text.Param) (f : DeclarationFrame) (l : Listed) → FramedListed f l
      → Gives (FramedListed f) (parameter block before p l)
  parameter_framed block before (text.value_param g) f l h = group_framed block before false g f l h
  parameter_framed block before (text.var_param g) f l h = group_framed block before true g f l h
  parameter_framed block before (text.procedure_param inner) f l h =
      bind (FramedHeaded f) (FramedListed f) (heading_parts block inner l.env) _
      (heading_framed block inner f l.env h)
      (λ headed k. procedure_framed block before (own_name inner) l.formals f headed k)
