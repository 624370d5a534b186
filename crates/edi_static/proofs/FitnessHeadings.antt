-- A heading opens one scope, in which its parameters are; nothing else changes but the headings of procedure parameters.
use Rattle.std.proofs.Common.{◌≡◌, ℕ, zero, suc, ◌+◌, ◌<◌, Bool, true, false, List, [], ◌∷◌, ◌++◌, length, get_or, map, All, Option, Some, None, IsTrue}
use Rattle.std.proofs.Common.{IsSome, IfSome, is_some, refl, sym, ap, ◌∙◌, subst, arith, append_assoc, length-append}
use Rattle.std.specs.Prelude.{slice_get, option_to_list}
use Rattle.std.proofs.lemmas.Bool.{false≢true}
use Rattle.std.proofs.lemmas.List.{append-nil}
use Rattle.std.proofs.lemmas.List.Elements.{All-append}
use Rattle.std.proofs.Math.ListN.{get_or-append}
use Rattle.std.proofs.Math.Seq.{get_or-append_seam}
use Rattle.edi_scope.specs.declared.entity.Entity.{Entity}
use Rattle.edi_scope.specs.declared.entity.Entity.TheVariants as entity
use Rattle.edi_scope.specs.Scope.{Scope, declared, outside, visible, with_one, with_name}
use Rattle.edi_tree.specs.declared.names.Name.{Name}
use Rattle.edi_tree.specs.Tree as text
use Rattle.edi_unit.specs.declared.units.Parameter.TheVariants as slot
use Rattle.edi_unit.specs.Types.{Shape}
use Rattle.edi_unit.specs.Need.{slot_type, slot_result}
use Rattle.edi_unit.specs.Headings.{Heading, heading, heading_result, heading_formals, Formals, no_formal, value_then, variable_then, procedure_then}
use Rattle.edi_unit.specs.Fits.{first_parameter, is_variable, is_procedure, SlotIsKnown}
use Rattle.edi_static.specs.Judged.{Judged, gives, ◌>>=◌}
use Rattle.edi_static.specs.Environment.{Environment, found, look_up, as_type, type_named, declare, no_heading, heading_at, with_shape, formals_append}
use Rattle.edi_static.specs.Environment.{formals_count, parameters_of}
use Rattle.edi_static.specs.Headings.{Listed, Headed, before_parameters, formal_one, param_named, params_named, param_group, procedure_named, result_named}
use Rattle.edi_static.specs.Headings.{with_result, own_name, heading_parts, parameters, more_parameters, parameter}
use Rattle.edi_static.specs.Proper.{NamesFit, ScopesFit}
use Rattle.edi_static.proofs.Judging.{Gives, bind}
use Rattle.edi_static.proofs.Proper.{names_fit, visible_fits}
use Rattle.edi_static.proofs.Fitness.{asked_at}
use Rattle.edi_static.proofs.FitnessGrowth.{get_more, some_variable, some_procedure}
use Rattle.edi_static.proofs.FitnessOnward.{new_gives}

-- ---- lists of parameters

parameters_append : (fs gs : Formals) → parameters_of (formals_append fs gs) ≡ parameters_of fs ++ parameters_of gs
parameters_append no_formal gs = refl
parameters_append (value_then t fs) gs = ap (λ ps. slot.Value t ∷ ps) (parameters_append fs gs)
parameters_append (variable_then t fs) gs = ap (λ ps. slot.Var t ∷ ps) (parameters_append fs gs)
parameters_append (procedure_then h fs) gs = ap (λ ps. slot.Formal (heading_result h) ∷ ps) (parameters_append fs gs)

asked_append : (fs gs : Formals) (n : ℕ) → IsTrue (is_procedure (slice_get (parameters_of fs) n)) → asked_at (formals_append fs gs) n ≡ asked_at fs n
asked_append no_formal gs n h = absurd (false≢true h)
asked_append (value_then t fs) gs zero h = absurd (false≢true h)
asked_append (value_then t fs) gs (suc n) h = asked_append fs gs n h
asked_append (variable_then t fs) gs zero h = absurd (false≢true h)
asked_append (variable_then t fs) gs (suc n) h = asked_append fs gs n h
asked_append (procedure_then a fs) gs zero h = refl
asked_append (procedure_then a fs) gs (suc n) h = asked_append fs gs n h

-- what stands behind others
at_end : (fs one : Formals) → slice_get (parameters_of (formals_append fs one)) (formals_count fs) ≡ slice_get (parameters_of one) 0
at_end no_formal one = refl
at_end (value_then t fs) one = at_end fs one
at_end (variable_then t fs) one = at_end fs one
at_end (procedure_then h fs) one = at_end fs one

asked_end : (fs one : Formals) → asked_at (formals_append fs one) (formals_count fs) ≡ asked_at one 0
asked_end no_formal one = refl
asked_end (value_then t fs) one = asked_end fs one
asked_end (variable_then t fs) one = asked_end fs one
asked_end (procedure_then h fs) one = asked_end fs one

-- ---- names of parameters

-- a name of a heading with these formals so far means one of them, which have the numbers from `before` on
pub record IsValue (block before : ℕ) (fs : Formals) (b v of : ℕ) : Type 0 where
  pub same : b ≡ block
  pub index : ℕ
  pub at : v ≡ before + index
  pub variable : IsTrue (is_variable (slice_get (parameters_of fs) index))
  pub type : slot_type (slice_get (parameters_of fs) index) ≡ of

pub record IsAsked (block before : ℕ) (fs : Formals) (shapes : List Heading) (b v shape : ℕ) : Type 0 where
  pub same : b ≡ block
  pub index : ℕ
  pub at : v ≡ before + index
  pub procedure : IsTrue (is_procedure (slice_get (parameters_of fs) index))
  pub result : slot_result (slice_get (parameters_of fs) index) ≡ heading_result (heading_at shapes shape)
  pub there : shape < length shapes
  pub asks : asked_at fs index ≡ heading_at shapes shape

abbrev pub Given : (block before : ℕ) → Formals → List Heading → Entity → Type 0
Given block before fs shapes (entity.Variable b v of) = IsValue block before fs b v of
Given block before fs shapes (entity.Formal b v shape) = IsAsked block before fs shapes b v shape
Given block before fs shapes (entity.Constant of n) = ⊥
Given block before fs shapes (entity.Types t) = ⊥
Given block before fs shapes (entity.Procedure b) = ⊥
Given block before fs shapes entity.Halt = ⊥

given_formals : (block before : ℕ) (fs gs : Formals) (shapes : List Heading) (e : Entity) → Given block before fs shapes e
    → Given block before (formals_append fs gs) shapes e
given_formals block before fs gs shapes (entity.Variable b v of) h =
    let same : slice_get (parameters_of (formals_append fs gs)) h.index ≡ slice_get (parameters_of fs) h.index =
    ap (λ ps. slice_get ps h.index) (parameters_append fs gs) ∙ get_more (parameters_of fs) (parameters_of gs) h.index (some_variable _ h.variable) in
    record { same = h.same; index = h.index; at = h.at; variable = ap is_variable same ∙ h.variable; type = ap slot_type same ∙ h.type }
given_formals block before fs gs shapes (entity.Formal b v shape) h =
    let same : slice_get (parameters_of (formals_append fs gs)) h.index ≡ slice_get (parameters_of fs) h.index =
    ap (λ ps. slice_get ps h.index) (parameters_append fs gs) ∙ get_more (parameters_of fs) (parameters_of gs) h.index (some_procedure _ h.procedure) in
    record {
      same = h.same;
      index = h.index;
      at = h.at;
      procedure = ap is_procedure same ∙ h.procedure;
      result = ap slot_result same ∙ h.result;
      there = h.there;
      asks = asked_append fs gs h.index h.procedure ∙ h.asks;
    }
given_formals block before fs gs shapes (entity.Constant of n) h = h
given_formals block before fs gs shapes (entity.Types t) h = h
given_formals block before fs gs shapes (entity.Procedure b) h = h
given_formals block before fs gs shapes entity.Halt h = h

given_shapes : (block before : ℕ) (fs : Formals) (shapes more : List Heading) (e : Entity) → Given block before fs shapes e
    → Given block before fs (shapes ++ more) e
given_shapes block before fs shapes more (entity.Variable b v of) h = h
given_shapes block before fs shapes more (entity.Formal b v shape) h =
    let same : heading_at (shapes ++ more) shape ≡ heading_at shapes shape = get_or-append shapes more no_heading shape h.there in
    let there = h.there in
    record {
      same = h.same;
      index = h.index;
      at = h.at;
      procedure = h.procedure;
      result = h.result ∙ ap heading_result (sym same);
      there = omega (arith, there, length-append shapes more);
      asks = h.asks ∙ sym same;
    }
given_shapes block before fs shapes more (entity.Constant of n) h = h
given_shapes block before fs shapes more (entity.Types t) h = h
given_shapes block before fs shapes more (entity.Procedure b) h = h
given_shapes block before fs shapes more entity.Halt h = h

-- ---- names of types

abbrev pub TypeKnown : List Shape → Entity → Type 0
TypeKnown types (entity.Types t) = t < length types
TypeKnown types (entity.Constant of n) = Unit {0}
TypeKnown types (entity.Variable b v of) = Unit {0}
TypeKnown types (entity.Procedure b) = Unit {0}
TypeKnown types (entity.Formal b v shape) = Unit {0}
TypeKnown types entity.Halt = Unit {0}

given_type : (types : List Shape) (block before : ℕ) (fs : Formals) (shapes : List Heading) (e : Entity) → Given block before fs shapes e → TypeKnown types e
given_type types block before fs shapes (entity.Types t) h = absurd h
given_type types block before fs shapes e h = tt

as_type_known : (types : List Shape) (line : ℕ) (e : Entity) → TypeKnown types e → Gives (λ t. t < length types) (as_type line e)
as_type_known types line (entity.Types t) h = h
as_type_known types line e h = tt

found_known : (P : Entity → Type 0) (o : Option Entity) (name : Name) → IfSome o P → Gives P (found o name)
found_known P None name h = tt
found_known P (Some e) name h = h

abbrev pub TypesKnown : Environment → Type 0
TypesKnown env = ScopesFit (TypeKnown env.types) env.scopes

type_known : (env : Environment) → TypesKnown env → (name : Name) → Gives (λ t. t < length env.types) (type_named env name)
type_known env h name =
    bind (TypeKnown env.types) (λ t. t < length env.types) (look_up env name) _
    (found_known (TypeKnown env.types) (visible env.scopes name.text) name (visible_fits (TypeKnown env.types) env.scopes name.text h))
    (as_type_known env.types name.line)

-- ---- inside a heading

-- a scope with names of parameters is the innermost
abbrev pub headed_env : Environment → Scope → (more : List Heading) → Environment
headed_env env scope more = record env { scopes = scope ∷ env.scopes; shapes = env.shapes ++ more }

abbrev pub FormalsKnown : List Shape → Formals → Type 0
FormalsKnown types fs = All (SlotIsKnown types) (parameters_of fs)

-- after parameters of a heading that began in an environment
pub record Lists (env : Environment) (block before : ℕ) (l : Listed) : Type 0 where
  pub scope : Scope
  pub more : List Heading
  pub is : l ≡ record { env = headed_env env scope more; formals = l.formals }
  pub names : NamesFit (Given block before l.formals (env.shapes ++ more)) scope.names
  pub known : FormalsKnown env.types l.formals

-- after its result
pub record Heads (env : Environment) (block : ℕ) (h : Headed) : Type 0 where
  pub scope : Scope
  pub more : List Heading
  pub is : h ≡ record { env = headed_env env scope more; asks = h.asks }
  pub names : NamesFit (Given block (first_parameter (heading_result h.asks)) (heading_formals h.asks) (env.shapes ++ more)) scope.names
  pub known : All (SlotIsKnown env.types) (map slot.Value (option_to_list (heading_result h.asks)) ++ parameters_of (heading_formals h.asks))

pub headed_known : (env : Environment) (block before : ℕ) (fs : Formals) (scope : Scope) (more : List Heading) → TypesKnown env
    → NamesFit (Given block before fs (env.shapes ++ more)) scope.names →
    TypesKnown (headed_env env scope more)
headed_known env block before fs scope more known names = (
  names_fit (Given block before fs (env.shapes ++ more)) (TypeKnown env.types) (given_type env.types block before fs (env.shapes ++ more)) scope.names
      names,
  known,
)

pub declare_is : (name : Name) (means : Entity) (env : Environment) → Gives (λ e. e ≡ record env { scopes = with_name name.text means env.scopes })
    (declare false name means env)
declare_is name means env =
    new_gives (λ e. e ≡ record env { scopes = with_name name.text means env.scopes }) (is_some (declared env.scopes name.text)) false
    (is_some (declared (outside env.scopes) name.text)) _ _ _
    (λ fresh outer. refl)

-- a value or a `var` parameter
IsOne : List Shape → Formals → ℕ → Type 0
IsOne types one of = IsTrue (is_variable (slice_get (parameters_of one) 0)) × (slot_type (slice_get (parameters_of one) 0) ≡ of) × FormalsKnown types one

param_lists : (env : Environment) (block before of : ℕ) (one : Formals) (name : Name) (scope : Scope) (more : List Heading) (fs : Formals) →
    NamesFit (Given block before fs (env.shapes ++ more)) scope.names → FormalsKnown env.types fs → IsOne env.types one of →
    Gives (Lists env block before) (param_named block before of one name (record { env = headed_env env scope more; formals = fs }))
unfolding IsOne
param_lists env block before of one name scope more fs names known is_one =
    let means : Entity = entity.Variable block (before + formals_count fs) of in
    bind (λ e. e ≡ headed_env env (with_one name.text means scope) more) (Lists env block before) (declare false name means (headed_env env scope more)) _
    (declare_is name means (headed_env env scope more))
    (λ e is.
    let end : slice_get (parameters_of (formals_append fs one)) (formals_count fs) ≡ slice_get (parameters_of one) 0 = at_end fs one in
    let new : IsValue block before (formals_append fs one) block (before + formals_count fs) of = record {
      same = refl;
      index = formals_count fs;
      at = refl;
      variable = ap is_variable end ∙ is_one.0;
      type = ap slot_type end ∙ is_one.1;
    } in
    record {
      scope = with_one name.text means scope;
      more = more;
      is = ap (λ e. record { env = e; formals = formals_append fs one }) is;
      names = (
        new,
        names_fit (Given block before fs (env.shapes ++ more)) (Given block before (formals_append fs one) (env.shapes ++ more))
            (given_formals block before fs one (env.shapes ++ more)) scope.names names,
      );
      known = subst (All (SlotIsKnown env.types)) (sym (parameters_append fs one))
          (All-append (SlotIsKnown env.types) (parameters_of fs) (parameters_of one) known is_one.2);
    })

-- a step from a list that is told by its parts
pub from : (env : Environment) (block before : ℕ) {A : Type 0} (Q : A → Type 0) (f : Listed → Judged A) (l : Listed) → Lists env block before l →
    ((scope : Scope) (more : List Heading) (fs : Formals) → NamesFit (Given block before fs (env.shapes ++ more)) scope.names → FormalsKnown env.types fs
    → Gives Q (f (record { env = headed_env env scope more; formals = fs }))) →
    Gives Q (f l)
from env block before Q f l h k = subst (λ x. Gives Q (f x)) (sym h.is) (k h.scope h.more l.formals h.names h.known)

params_lists : (env : Environment) (block before of : ℕ) (one : Formals) (ns : text.Names) (l : Listed) → IsOne env.types one of → Lists env block before l
    → Gives (Lists env block before) (params_named block before of one ns l)
params_lists env block before of one text.no_name l is_one h = h
params_lists env block before of one (text.next_name name ns) l is_one h =
    bind (Lists env block before) (Lists env block before) _ _
    (from env block before (Lists env block before) (param_named block before of one name) l h
    (λ scope more fs names known. param_lists env block before of one name scope more fs names known is_one))
    (λ m k. params_lists env block before of one ns m is_one k)

one_known : (v : Bool) (types : List Shape) (t : ℕ) → t < length types → IsOne types (formal_one v t) t
unfolding IsOne
one_known false types t h = (refl, refl, one)
  where
    one : FormalsKnown types (formal_one false t)
    one zero d i = h
    one (suc k) d i = absurd (omega (arith, i))
one_known true types t h = (refl, refl, one)
  where
    one : FormalsKnown types (formal_one true t)
    one zero d i = h
    one (suc k) d i = absurd (omega (arith, i))

group_lists : (env : Environment) (block before : ℕ) (v : Bool) (g : text.Group) (l : Listed) → TypesKnown env → Lists env block before l
    → Gives (Lists env block before) (param_group block before v g l)
group_lists env block before v (text.group first names of) l types h =
    bind (λ t. t < length env.types) (Lists env block before) (type_named l.env of) _
    (from env block before (λ t. t < length env.types) (λ l. type_named l.env of) l h
    (λ scope more fs ns known. type_known (headed_env env scope more) (headed_known env block before fs scope more types ns) of))
    (λ t known. params_lists env block before t (formal_one v t) (text.next_name first names) l (one_known v env.types t known) h)

-- ---- a procedure parameter

heading_known : (types : List Shape) (h : Heading)
    → All (SlotIsKnown types) (map slot.Value (option_to_list (heading_result h)) ++ parameters_of (heading_formals h))
    → FormalsKnown types (procedure_then h no_formal)
heading_known types (heading fs None) all zero d i = tt
heading_known types (heading fs (Some t)) all zero d i = all 0 (slot.Value t) (omega arith)
heading_known types h all (suc k) d i = absurd (omega (arith, i))

-- behind the inner heading, which is told by its parts
named_lists : (env : Environment) (block before : ℕ) (name : Name) (scope inner : Scope) (more next : List Heading) (fs : Formals) (asks : Heading) →
    NamesFit (Given block before fs (env.shapes ++ more)) scope.names → FormalsKnown env.types fs → FormalsKnown env.types (procedure_then asks no_formal) →
    Gives (Lists env block before) (procedure_named block before name fs (record { env = headed_env (headed_env env scope more) inner next; asks = asks }))
named_lists env block before name scope inner more next fs asks names known inner_known =
    let one : Formals = procedure_then asks no_formal in
    let shapes : List Heading = env.shapes ++ more ++ next in
    let left : Environment = record env { scopes = scope ∷ env.scopes; shapes = shapes } in
    let means : Entity = entity.Formal block (before + formals_count fs) (length shapes) in
    bind (λ e. e ≡ record left { scopes = with_one name.text means scope ∷ env.scopes }) (Lists env block before) (declare false name means left) _
    (declare_is name means left)
    (λ e is.
    let all : List Heading = more ++ (next ++ asks ∷ []) in
    let joined : shapes ++ asks ∷ [] ≡ env.shapes ++ all =
    append_assoc (env.shapes ++ more) next (asks ∷ []) ∙ append_assoc env.shapes more (next ++ asks ∷ []) in
    let kept : heading_at (shapes ++ asks ∷ []) (length shapes) ≡ asks = get_or-append_seam shapes asks [] no_heading in
    let end : slice_get (parameters_of (formals_append fs one)) (formals_count fs) ≡ Some (slot.Formal (heading_result asks)) = at_end fs one in
    let new : IsAsked block before (formals_append fs one) (shapes ++ asks ∷ []) block (before + formals_count fs) (length shapes) = record {
      same = refl;
      index = formals_count fs;
      at = refl;
      procedure = ap is_procedure end;
      result = ap slot_result end ∙ ap heading_result (sym kept);
      there = omega (arith, length-append shapes (asks ∷ []));
      asks = asked_end fs one ∙ sym kept;
    } in
    let grown : (e : Entity) → Given block before fs (env.shapes ++ more) e → Given block before (formals_append fs one) (shapes ++ asks ∷ []) e =
    λ e g. given_formals block before fs one (shapes ++ asks ∷ []) e
    (given_shapes block before fs shapes (asks ∷ []) e (given_shapes block before fs (env.shapes ++ more) next e g)) in
    record {
      scope = with_one name.text means scope;
      more = all;
      is =
          ap (λ e. record { env = with_shape asks e; formals = formals_append fs one }) is
          ∙ ap (λ ss. record { env = record env { scopes = with_one name.text means scope ∷ env.scopes; shapes = ss }; formals = formals_append fs one })
          joined;
      names =
          subst (λ ss. NamesFit (Given block before (formals_append fs one) ss) (with_one name.text means scope).names) joined (
            new,
            names_fit (Given block before fs (env.shapes ++ more)) (Given block before (formals_append fs one) (shapes ++ asks ∷ [])) grown scope.names
                names,
          );
      known = subst (All (SlotIsKnown env.types)) (sym (parameters_append fs one))
          (All-append (SlotIsKnown env.types) (parameters_of fs) (parameters_of one) known inner_known);
    })

-- ---- the result

-- a result's type is known
abbrev ResultKnown : List Shape → Option ℕ → Type 0
ResultKnown types None = Unit {0}
ResultKnown types (Some t) = t < length types

-- as many variables before the parameters as the result asks for
abbrev IsResultOf : Option Name → Option ℕ → Type 0
IsResultOf None r = r ≡ None
IsResultOf (Some name) r = IsSome r

abbrev ResultFits : List Shape → Option Name → Option ℕ → Type 0
ResultFits types result r = ResultKnown types r × IsResultOf result r

before_is : (result : Option Name) (r : Option ℕ) → IsResultOf result r → before_parameters result ≡ first_parameter r
before_is None None h = refl
before_is None (Some t) h = absurd (false≢true (sym (ap is_some h)))
before_is (Some name) None h = absurd (false≢true h)
before_is (Some name) (Some t) h = refl

with_function : (types : List Shape) (fs : Formals) (r : Option ℕ) → ResultKnown types r → FormalsKnown types fs
    → All (SlotIsKnown types) (map slot.Value (option_to_list r) ++ parameters_of fs)
with_function types fs None h known = known
with_function types fs (Some t) h known = one
  where
    one : All (SlotIsKnown types) (slot.Value t ∷ parameters_of fs)
    one zero d i = h
    one (suc k) d i = known k d (omega (arith, i))

result_fits : (env : Environment) (block : ℕ) (result : Option Name) (l : Listed) → TypesKnown env → Lists env block (before_parameters result) l
    → Gives (ResultFits env.types result) (result_named result l.env)
result_fits env block None l types h = (tt, refl)
result_fits env block (Some name) l types h =
    bind (λ t. t < length env.types) (ResultFits env.types (Some name)) (type_named l.env name) _
    (from env block 1 (λ t. t < length env.types) (λ l. type_named l.env name) l h
    (λ scope more fs ns known. type_known (headed_env env scope more) (headed_known env block 1 fs scope more types ns) name))
    (λ t known. (known, refl))

result_heads : (env : Environment) (block : ℕ) (result : Option Name) (l : Listed) → TypesKnown env → Lists env block (before_parameters result) l
    → Gives (Heads env block) (with_result result l)
result_heads env block result l types h =
    bind (ResultFits env.types result) (Heads env block) (result_named result l.env) (λ r. gives (record { env = l.env; asks = heading l.formals r }))
    (result_fits env block result l types h)
    (λ r k. record {
      scope = h.scope;
      more = h.more;
      is = ap (λ l. record { env = l.env; asks = heading l.formals r }) h.is;
      names = subst (λ n. NamesFit (Given block n l.formals (env.shapes ++ h.more)) h.scope.names) (before_is result r k.1) h.names;
      known = with_function env.types l.formals r k.0 h.known;
    })

list_on : (env : Environment) (block before : ℕ) (m : Judged Listed) (f : Listed → Judged Listed) → Gives (Lists env block before) m
    → ((l : Listed) → Lists env block before l → Gives (Lists env block before) (f l)) → Gives (Lists env block before) (m >>= f)
list_on env block before m f h k = bind (Lists env block before) (Lists env block before) m f h k

mutual
  pub heading_heads : (block : ℕ) (h : text.Heading) (env : Environment) → TypesKnown env → Gives (Heads env block) (heading_parts block h env)
  heading_heads block (text.heading name ps r) env types =
      bind (Lists env block (before_parameters r)) (Heads env block) _ _
      (parameters_lists env block (before_parameters r) ps _ types (record {
        scope = record { is_module = false; names = [] };
        more = [];
        is = ap (λ ss. record { env = record env { scopes = record { is_module = false; names = [] } ∷ env.scopes; shapes = ss }; formals = no_formal })
            (sym (append-nil env.shapes));
        names = tt;
        known = λ k d i. absurd (omega (arith, i));
      }))
      (λ l k. result_heads env block r l types k)

  parameters_lists : (env : Environment) (block before : ℕ) (ps : text.Params) (l : Listed) → TypesKnown env → Lists env block before l
      → Gives (Lists env block before) (parameters block before ps l)
  parameters_lists env block before text.no_params l types h = h
  parameters_lists env block before (text.params p ps) l types h =
      list_on env block before _ _ (parameter_lists env block before p l types h) (λ m k. more_lists env block before ps m types k)

  more_lists : (env : Environment) (block before : ℕ) (ps : text.MoreParams) (l : Listed) → TypesKnown env → Lists env block before l
      → Gives (Lists env block before) (more_parameters block before ps l)
  more_lists env block before text.no_param l types h = h
  more_lists env block before (text.next_param p ps) l types h =
      list_on env block before _ _ (parameter_lists env block before p l types h) (λ m k. more_lists env block before ps m types k)

  pub parameter_lists : (env : Environment) (block before : ℕ) (p : text.Param) (l : Listed) → TypesKnown env → Lists env block before l
      → Gives (Lists env block before) (parameter block before p l)
  parameter_lists env block before (text.value_param g) l types h = group_lists env block before false g l types h
  parameter_lists env block before (text.var_param g) l types h = group_lists env block before true g l types h
  parameter_lists env block before (text.procedure_param inner) l types h =
      from env block before (Lists env block before) (λ l. heading_parts block inner l.env >>= procedure_named block before (own_name inner) l.formals) l h
      (λ scope more fs names known.
      let outer : Environment = headed_env env scope more in
      bind (Heads outer block) (Lists env block before) (heading_parts block inner outer) (procedure_named block before (own_name inner) fs)
      (heading_heads block inner outer (headed_known env block before fs scope more types names))
      (λ i k.
      subst (λ x. Gives (Lists env block before) (procedure_named block before (own_name inner) fs x)) (sym k.is)
      (named_lists env block before (own_name inner) scope k.scope more k.more fs i.asks names known (heading_known env.types i.asks k.known))))
