-- What a declaration gives is the same, whether a type, a block or a heading comes before the name or behind it.
use Rattle.std.proofs.Common.{◌≡◌, ℕ, suc, Bool, true, false, if◌then◌else◌, ◌||◌, ◌&&◌, nat_lt, List, [], ◌∷◌, length, is_some, refl, sym, ap, ◌∙◌}
use Rattle.edi_scope.specs.declared.entity.Entity.{Entity}
use Rattle.edi_scope.specs.declared.entity.Entity.TheVariants as entity
use Rattle.edi_scope.specs.Scope.{declared, outside}
use Rattle.edi_tree.specs.declared.names.Name.{Name}
use Rattle.edi_tree.specs.Tree as text
use Rattle.edi_tree.specs.View.{names}
use Rattle.edi_unit.specs.Types.{Shape, enumeration}
use Rattle.edi_unit.specs.Headings.{Heading, Formals, no_formal, procedure_then}
use Rattle.edi_static.specs.declared.faults.StaticKind.{StaticKind}
use Rattle.edi_static.specs.declared.faults.StaticKind.TheVariants as kind
use Rattle.edi_static.specs.Judged.{Judged, gives, faults, ◌>>=◌, must}
use Rattle.edi_static.specs.Environment.{Environment, declare, with_type, with_shape, formals_append}
use Rattle.edi_static.specs.Headings.{Listed, Headed, leave, next_parameter, procedure_named}
use Rattle.edi_static.specs.Types.{enum_constant, enum_constants, enum_decl, most_constants, names_count}

-- a change of the environment that stands before a construct can as well stand behind it
pub chosen : (b : Bool) (why : StaticKind) (line : ℕ) (f : Environment → Environment) (x : Environment) → (if b then faults why line else gives (f x))
    ≡ ((if b then faults why line else gives x) >>= λ e. gives (f e))
chosen true why line f x = refl
chosen false why line f x = refl

through : (j : Judged Environment) (f : Environment → Environment) (g : Environment → Judged Environment)
    → ((e : Environment) → g (f e) ≡ (g e >>= λ e. gives (f e))) → ((j >>= λ e. gives (f e)) >>= g) ≡ ((j >>= g) >>= λ e. gives (f e))
through (gives a) f g h = h a
through (faults why line) f g h = refl

ruled_through : (j : Judged Environment) (b : Bool) (why : StaticKind) (line : ℕ) (f : Environment → Environment) →
    ((j >>= λ e. gives (f e)) >>= λ e. must b why line >>= λ _. gives e) ≡ ((j >>= λ e. must b why line >>= λ _. gives e) >>= λ e. gives (f e))
ruled_through (gives a) true why line f = refl
ruled_through (gives a) false why line f = refl
ruled_through (faults k l) b why line f = refl

pub typed_declare : (m : Bool) (name : Name) (means : Entity) (shape : Shape) (fields : List (List ℕ)) (env : Environment)
    → declare m name means (with_type shape fields env) ≡ (declare m name means env >>= λ e. gives (with_type shape fields e))
typed_declare m name means shape fields env =
    chosen (is_some (declared env.scopes name.text) || (m && is_some (declared (outside env.scopes) name.text))) kind.Ambiguous name.line
    (with_type shape fields) _

-- a heading that is kept before the name of its parameter is declared
pub shaped_declare : (m : Bool) (name : Name) (means : Entity) (asks : Heading) (env : Environment) → declare m name means (with_shape asks env)
    ≡ (declare m name means env >>= λ e. gives (with_shape asks e))
shaped_declare m name means asks env =
    chosen (is_some (declared env.scopes name.text) || (m && is_some (declared (outside env.scopes) name.text))) kind.Ambiguous name.line (with_shape asks) _

typed_constant : (m : Bool) (of n : ℕ) (name : Name) (shape : Shape) (fields : List (List ℕ)) (env : Environment)
    → enum_constant m of n name (with_type shape fields env) ≡ (enum_constant m of n name env >>= λ e. gives (with_type shape fields e))
typed_constant m of n name shape fields env =
    ap (λ j. j >>= λ e. must (nat_lt n most_constants) kind.Range name.line >>= λ _. gives e) (typed_declare m name _ shape fields env)
    ∙ ruled_through (declare m name _ env) (nat_lt n most_constants) kind.Range name.line (with_type shape fields)

typed_constants : (m : Bool) (of n : ℕ) (ns : text.Names) (shape : Shape) (fields : List (List ℕ)) (env : Environment)
    → enum_constants m of n ns (with_type shape fields env) ≡ (enum_constants m of n ns env >>= λ e. gives (with_type shape fields e))
typed_constants m of n text.no_name shape fields env = refl
typed_constants m of n (text.next_name name ns) shape fields env =
    ap (λ j. j >>= enum_constants m of (suc n) ns) (typed_constant m of n name shape fields env)
    ∙ through (enum_constant m of n name env) (with_type shape fields) (enum_constants m of (suc n) ns) (λ e. typed_constants m of (suc n) ns shape fields e)

-- the type of an enumeration can as well be put behind the others before its name and its constants are declared
pub typed_enum : (m : Bool) (name : Name) (ns : text.Names) (env : Environment) →
    enum_decl m name ns env ≡ (declare m name (entity.Types (length env.types)) (with_type (enumeration (names_count ns)) [] env) >>= enum_constants m
    (length env.types) 0 ns)
typed_enum m name ns env =
    sym
    (ap (λ j. j >>= enum_constants m (length env.types) 0 ns) (typed_declare m name _ (enumeration (names_count ns)) [] env)
    ∙ through (declare m name _ env) (with_type (enumeration (names_count ns)) []) (enum_constants m (length env.types) 0 ns)
    (λ e. typed_constants m (length env.types) 0 ns (enumeration (names_count ns)) [] e))

pub count : (ns : List Name) → names_count (names ns) ≡ length ns
count [] = refl
count (n ∷ ns) = ap suc (count ns)

again : {B : Type 0} (j : Judged Environment) (f : Environment → Environment) (g : Environment → Judged B) → ((j >>= λ e. gives (f e)) >>= g)
    ≡ (j >>= λ e. g (f e))
again (gives a) f g = refl
again (faults why line) f g = refl

-- the name of a procedure parameter
pub shaped_named : (block before : ℕ) (name : Name) (fs : Formals) (inner : Headed) →
    procedure_named block before name fs inner ≡
    (declare false name (entity.Formal block (next_parameter block before fs) (length inner.env.shapes)) (with_shape inner.asks (leave inner.env)) >>= λ env.
    gives (record { env = env; formals = formals_append fs (procedure_then inner.asks no_formal) }))
shaped_named block before name fs inner =
    let g : Environment → Judged Listed = λ env. gives (record { env = env; formals = formals_append fs (procedure_then inner.asks no_formal) }) in
    sym
    (ap (λ j. j >>= g) (shaped_declare false name _ inner.asks (leave inner.env))
    ∙ again (declare false name _ (leave inner.env)) (with_shape inner.asks) g)
