-- What a heading leaves of the scopes round it, and the names of its parameters.
use Rattle.std.proofs.Common.{◌≡◌, ℕ, Bool, true, false, ◌&&◌, ◌||◌, if◌then◌else◌, cond, List, [], ◌∷◌, length, Option, Some, None, is_some, refl, sym, ap}
use Rattle.std.proofs.Common.{subst, ◌∙◌}
use Rattle.std.proofs.lemmas.Bool.{or_parts}
use Rattle.std.specs.Str.{bytes_eq}
use Rattle.edi_scope.specs.declared.entity.Entity.{Entity}
use Rattle.edi_scope.specs.declared.entity.Entity.TheVariants as entity
use Rattle.edi_scope.specs.Scope.{Scope, meaning, declared, outside, with_name}
use Rattle.edi_tree.specs.declared.names.Name.{Name}
use Rattle.edi_tree.specs.Tree as text
use Rattle.edi_unit.specs.Headings.{Heading, heading, Formals, no_formal, value_then, variable_then, procedure_then}
use Rattle.edi_static.specs.declared.faults.StaticKind.{StaticKind}
use Rattle.edi_static.specs.declared.faults.StaticKind.TheVariants as kind
use Rattle.edi_static.specs.Judged.{Judged, gives, faults}
use Rattle.edi_static.specs.Environment.{Environment, type_named, declare, enter, formals_append}
use Rattle.edi_static.specs.Headings.{Listed, Headed, leave, own_name, next_parameter, result_named, with_result, params_named, param_group, procedure_named}
use Rattle.edi_static.specs.Headings.{heading_parts, parameters, more_parameters, parameter}
use Rattle.edi_static.proofs.Judging.{Gives, bind, behind, choose}
use Rattle.edi_static.proofs.FitnessOperators.{never}

-- ---- what follows from what is given

pub also : {A : Type 0} (P Q : A → Type 0) (m : Judged A) → Gives P m → ((a : A) → P a → Q a) → Gives Q m
also P Q (gives a) h k = k a h
also P Q (faults why line) h k = tt

pub always : {A : Type 0} (P : A → Type 0) (m : Judged A) → ((a : A) → P a) → Gives P m
always P (gives a) h = h a
always P (faults why line) h = tt

-- ---- the scopes round a heading

-- there is a scope, and round it stand these
abbrev pub Round : List Scope → List Scope → Type 0
Round outer [] = ⊥
Round outer (scope ∷ scopes) = scopes ≡ outer

abbrev Keeps : List Scope → Environment → Type 0
Keeps outer env = Round outer env.scopes

abbrev KeepsListed : List Scope → Listed → Type 0
KeepsListed outer listed = Keeps outer listed.env

abbrev KeepsHeaded : List Scope → Headed → Type 0
KeepsHeaded outer headed = Keeps outer headed.env

name_keeps : (outer : List Scope) (name : List ℕ) (means : Entity) (scopes : List Scope) → Round outer scopes → Round outer (with_name name means scopes)
name_keeps outer name means [] h = h
name_keeps outer name means (scope ∷ scopes) h = h

declare_keeps : (outer : List Scope) (name : Name) (means : Entity) (env : Environment) → Keeps outer env → Gives (Keeps outer) (declare false name means env)
declare_keeps outer name means env h =
    choose (Keeps outer) (is_some (declared env.scopes name.text) || (false && is_some (declared (outside env.scopes) name.text))) _ _ tt
    (name_keeps outer name.text means env.scopes h)

-- what stands round the innermost scope
outside_is : (outer scopes : List Scope) → Round outer scopes → outside scopes ≡ outer
outside_is outer [] h = absurd h
outside_is outer (scope ∷ scopes) h = h

params_keep : (outer : List Scope) (block before of : ℕ) (one : Formals) (ns : text.Names) (l : Listed) → KeepsListed outer l
    → Gives (KeepsListed outer) (params_named block before of one ns l)
params_keep outer block before of one text.no_name l h = h
params_keep outer block before of one (text.next_name name ns) l h =
    bind (KeepsListed outer) (KeepsListed outer) _ _
    (bind (Keeps outer) (KeepsListed outer) _ _ (declare_keeps outer name _ l.env h) (λ e k. k))
    (λ m k. params_keep outer block before of one ns m k)

group_keeps : (outer : List Scope) (block before : ℕ) (v : Bool) (g : text.Group) (l : Listed) → KeepsListed outer l
    → Gives (KeepsListed outer) (param_group block before v g l)
group_keeps outer block before v (text.group first names of) l h =
    behind (KeepsListed outer) (type_named l.env of) _ (λ t. params_keep outer block before t _ (text.next_name first names) l h)

procedure_keeps : (outer : List Scope) (block before : ℕ) (name : Name) (fs : Formals) (inner : Headed) → Keeps outer (leave inner.env)
    → Gives (KeepsListed outer) (procedure_named block before name fs inner)
procedure_keeps outer block before name fs inner h =
    bind (Keeps outer) (KeepsListed outer) _ _ (declare_keeps outer name _ (leave inner.env) h) (λ e k. k)

result_keeps : (outer : List Scope) (r : Option Name) (l : Listed) → KeepsListed outer l → Gives (KeepsHeaded outer) (with_result r l)
result_keeps outer r l h =
    behind (KeepsHeaded outer) (result_named r l.env) (λ t. gives (record { env = l.env; asks = heading l.formals t })) (λ t. h)

mutual
  heading_keeps : (block : ℕ) (h : text.Heading) (env : Environment) → Gives (KeepsHeaded env.scopes) (heading_parts block h env)
  heading_keeps block (text.heading name ps r) env =
      bind (KeepsListed env.scopes) (KeepsHeaded env.scopes) _ _ (parameters_keep env.scopes block _ ps _ refl) (λ l k. result_keeps env.scopes r l k)

  parameters_keep : (outer : List Scope) (block before : ℕ) (ps : text.Params) (l : Listed) → KeepsListed outer l
      → Gives (KeepsListed outer) (parameters block before ps l)
  parameters_keep outer block before text.no_params l h = h
  parameters_keep outer block before (text.params p ps) l h =
      bind (KeepsListed outer) (KeepsListed outer) _ _ (parameter_keeps outer block before p l h) (λ m k. more_keep outer block before ps m k)

  more_keep : (outer : List Scope) (block before : ℕ) (ps : text.MoreParams) (l : Listed) → KeepsListed outer l
      → Gives (KeepsListed outer) (more_parameters block before ps l)
  more_keep outer block before text.no_param l h = h
  more_keep outer block before (text.next_param p ps) l h =
      bind (KeepsListed outer) (KeepsListed outer) _ _ (parameter_keeps outer block before p l h) (λ m k. more_keep outer block before ps m k)

  parameter_keeps : (outer : List Scope) (block before : ℕ) (p : text.Param) (l : Listed) → KeepsListed outer l
      → Gives (KeepsListed outer) (parameter block before p l)
  parameter_keeps outer block before (text.value_param g) l h = group_keeps outer block before false g l h
  parameter_keeps outer block before (text.var_param g) l h = group_keeps outer block before true g l h
  parameter_keeps outer block before (text.procedure_param inner) l h =
      bind (KeepsHeaded l.env.scopes) (KeepsListed outer) _ _ (heading_keeps block inner l.env) (λ i k.
      procedure_keeps outer block before (own_name inner) l.formals i
      (subst (λ scopes. Round outer scopes) (sym (outside_is l.env.scopes i.env.scopes k)) h))

-- ---- parameters with names of their own

abbrev pub with_known : List ℕ → (List ℕ → Bool) → List ℕ → Bool
with_known name known other = bytes_eq other name || known other

-- parameters that are procedures, with these headings, in this order, and with names that are new and all different
abbrev pub Follows : (List ℕ → Bool) → text.MoreParams → Formals → Type 0
Follows known text.no_param fs = fs ≡ no_formal
Follows known (text.next_param (text.procedure_param h) ps) fs =
    (asks : Heading) × (rest : Formals) × (fs ≡ procedure_then asks rest) × (known (own_name h).text ≡ false) × Follows (with_known (own_name h).text known)
    ps rest
Follows known (text.next_param (text.value_param g) ps) fs = Unit {0}
Follows known (text.next_param (text.var_param g) ps) fs = Unit {0}

-- every parameter is a procedure
abbrev pub only_procedures : text.MoreParams → Bool
only_procedures text.no_param = true
only_procedures (text.next_param (text.procedure_param h) ps) = only_procedures ps
only_procedures (text.next_param (text.value_param g) ps) = false
only_procedures (text.next_param (text.var_param g) ps) = false

-- the innermost scope has the names that are known
abbrev Knows : (List ℕ → Bool) → List Scope → Type 0
Knows known [] = ⊥
Knows known (scope ∷ scopes) = (name : List ℕ) → known name ≡ true → is_some (meaning scope.names name) ≡ true

knows : (known : List ℕ → Bool) (scopes : List Scope) → Knows known scopes → (name : List ℕ) → known name ≡ true → is_some (declared scopes name) ≡ true
knows known [] h = absurd h
knows known (scope ∷ scopes) h = h

means_more : (same known : Bool) (means : Entity) (o : Option Entity) → (same || known) ≡ true → (known ≡ true → is_some o ≡ true)
    → is_some (cond same (Some means) o) ≡ true
means_more true known means o e h = refl
means_more false known means o e h = h e

knows_more : (known : List ℕ → Bool) (name : List ℕ) (means : Entity) (scopes : List Scope) → Knows known scopes → Knows (with_known name known)
    (with_name name means scopes)
knows_more known name means [] h = h
knows_more known name means (scope ∷ scopes) h =
    λ other e. means_more (bytes_eq other name) (known other) means (meaning scope.names other) e (h other)

not_known : (b c : Bool) → (b ≡ true → c ≡ true) → c ≡ false → b ≡ false
not_known false c h e = refl
not_known true c h e = never (sym e ∙ h refl)

chosen : {A : Type 0} (P : A → Type 0) (b : Bool) (why : StaticKind) (line : ℕ) (a : A) → (b ≡ false → P a) → Gives P (if b then faults why line else gives a)
chosen P true why line a h = tt
chosen P false why line a h = h refl

-- after the name of a procedure parameter
abbrev NewlyKnown : (List ℕ → Bool) → List ℕ → Environment → Type 0
NewlyKnown known name env = (known name ≡ false) × Knows (with_known name known) env.scopes

declare_new : (known : List ℕ → Bool) (name : Name) (means : Entity) (env : Environment) → Knows known env.scopes → Gives (NewlyKnown known name.text)
    (declare false name means env)
declare_new known name means env h =
    chosen (NewlyKnown known name.text) (is_some (declared env.scopes name.text) || (false && is_some (declared (outside env.scopes) name.text)))
    kind.Ambiguous name.line
    (record env { scopes = with_name name.text means env.scopes }) (λ e.
    let p = or_parts (is_some (declared env.scopes name.text)) (false && is_some (declared (outside env.scopes) name.text)) e in (
      not_known (known name.text) (is_some (declared env.scopes name.text)) (knows known env.scopes h name.text) p.0,
      knows_more known name.text means env.scopes h,
    ))

abbrev Step : (List ℕ → Bool) → List ℕ → Formals → Listed → Type 0
Step known name old listed =
    (asks : Heading) × (listed.formals ≡ formals_append old (procedure_then asks no_formal)) × (known name ≡ false) × Knows (with_known name known)
    listed.env.scopes

step_new : (known : List ℕ → Bool) (block before : ℕ) (h : text.Heading) (l : Listed) → Knows known l.env.scopes
    → Gives (Step known (own_name h).text l.formals) (parameter block before (text.procedure_param h) l)
step_new known block before h l k =
    bind (KeepsHeaded l.env.scopes) (Step known (own_name h).text l.formals) (heading_parts block h l.env) _ (heading_keeps block h l.env) (λ inner i.
    bind (NewlyKnown known (own_name h).text) (Step known (own_name h).text l.formals) _ _
    (declare_new known (own_name h) (entity.Formal block (next_parameter block before l.formals) (length inner.env.shapes)) (leave inner.env)
    (subst (λ scopes. Knows known scopes) (sym (outside_is l.env.scopes inner.env.scopes i)) k))
    (λ e j. (inner.asks, refl, j.0, j.1)))

append_none : (fs : Formals) → fs ≡ formals_append fs no_formal
append_none no_formal = refl
append_none (value_then t fs) = ap (value_then t) (append_none fs)
append_none (variable_then t fs) = ap (variable_then t) (append_none fs)
append_none (procedure_then g fs) = ap (procedure_then g) (append_none fs)

append_then : (fs : Formals) (asks : Heading) (more : Formals) → formals_append (formals_append fs (procedure_then asks no_formal)) more ≡ formals_append fs
    (procedure_then asks more)
append_then no_formal asks more = refl
append_then (value_then t fs) asks more = ap (value_then t) (append_then fs asks more)
append_then (variable_then t fs) asks more = ap (variable_then t) (append_then fs asks more)
append_then (procedure_then g fs) asks more = ap (procedure_then g) (append_then fs asks more)

-- the parameters behind these formals
abbrev pub Behind : (List ℕ → Bool) → text.MoreParams → Formals → Listed → Type 0
Behind known ps old listed = (new : Formals) × (listed.formals ≡ formals_append old new) × Follows known ps new

pub more_new : (known : List ℕ → Bool) (block before : ℕ) (ps : text.MoreParams) (l : Listed) → only_procedures ps ≡ true → Knows known l.env.scopes
    → Gives (Behind known ps l.formals) (more_parameters block before ps l)
more_new known block before text.no_param l o k = (no_formal, append_none l.formals, refl)
more_new known block before (text.next_param (text.procedure_param h) ps) l o k =
    bind (Step known (own_name h).text l.formals) (Behind known (text.next_param (text.procedure_param h) ps) l.formals)
    (parameter block before (text.procedure_param h) l) _
    (step_new known block before h l k) (λ m s.
    also (Behind (with_known (own_name h).text known) ps m.formals) (Behind known (text.next_param (text.procedure_param h) ps) l.formals)
    (more_parameters block before ps m)
    (more_new (with_known (own_name h).text known) block before ps m o s.3)
    (λ last b. (
      procedure_then s.0 b.0,
      b.1 ∙ (ap (λ fs. formals_append fs b.0) s.1 ∙ append_then l.formals s.0 b.0),
      (s.0, b.0, refl, s.2, b.2),
    )))
more_new known block before (text.next_param (text.value_param g) ps) l o k = never o
more_new known block before (text.next_param (text.var_param g) ps) l o k = never o
