-- Constructs that the code does in another order than they are stated: what is put behind the others comes first there.
use Rattle.std.proofs.Common.{◌≡◌, ℕ, Bool, false, List, [], length, sym, ap, ◌∙◌}
use Rattle.edi_scope.specs.declared.entity.Entity.TheVariants as entity
use Rattle.edi_tree.specs.declared.names.Name.{Name}
use Rattle.edi_tree.specs.Tree as text
use Rattle.edi_unit.specs.Types.{enumeration}
use Rattle.edi_unit.specs.Headings.{Formals, no_formal, procedure_then}
use Rattle.edi_static.specs.Judged.{Judged, gives, faults, ◌>>=◌}
use Rattle.edi_static.specs.Environment.{Environment, declare, with_type, with_shape, formals_append}
use Rattle.edi_static.specs.Headings.{Listed, Headed, leave, next_parameter, param_named, procedure_named}
use Rattle.edi_static.specs.Types.{enum_constants, enum_decl, names_count}
use Rattle.edi_static.proofs.Steps.{typed_enum, shaped_named}

abbrev given_or : {A : Type 0} → A → Judged A → A
given_or d (gives a) = a
given_or d (faults why line) = d

pub given : {A : Type 0} {a b : A} → gives a ≡ gives b → a ≡ b
given {A} {a} {b} e = ap (given_or a) e

-- an enumeration whose type stands behind the others already
pub enum_behind : (m : Bool) (name : Name) (ns : text.Names) (env next : Environment) (fields : List (List ℕ)) (n of : ℕ) → n ≡ names_count ns
    → of ≡ length env.types →
    fields ≡ [] → gives (with_type (enumeration n) fields env) ≡ gives next →
    enum_decl m name ns env ≡ (declare m name (entity.Types of) next >>= enum_constants m of 0 ns)
enum_behind m name ns env next fields n of count is none behind =
    typed_enum m name ns env
    ∙ ap (λ t. declare m name (entity.Types t) (with_type (enumeration (names_count ns)) [] env) >>= enum_constants m t 0 ns) (sym is)
    ∙ ap (λ k. declare m name (entity.Types of) (with_type (enumeration k) [] env) >>= enum_constants m of 0 ns) (sym count)
    ∙ ap (λ fs. declare m name (entity.Types of) (with_type (enumeration n) fs env) >>= enum_constants m of 0 ns) (sym none)
    ∙ ap (λ e. declare m name (entity.Types of) e >>= enum_constants m of 0 ns) (given behind)

-- a value or a `var` parameter
pub param_given : (block before of : ℕ) (one : Formals) (name : Name) (env last : Environment) (fs more : Formals) (variable : ℕ) →
    gives (next_parameter block before fs) ≡ gives variable → declare false name (entity.Variable block variable of) env ≡ gives last
    → more ≡ formals_append fs one →
    param_named block before of one name (record { env = env; formals = fs }) ≡ gives (record { env = last; formals = more })
param_given block before of one name env last fs more variable numbered declared is =
    let g : Environment → Judged Listed = λ env. gives (record { env = env; formals = formals_append fs one }) in
    ap (λ v. declare false name (entity.Variable block v of) env >>= g) (given numbered)
    ∙ ap (λ j. j >>= g) declared
    ∙ ap (λ fs. gives (record { env = last; formals = fs })) (sym is)

-- a procedure parameter whose heading is kept before its name is declared
abbrev named_behind : Formals → Headed → Environment → Judged Listed
named_behind fs inner env = gives (record { env = env; formals = formals_append fs (procedure_then inner.asks no_formal) })

procedure_is : (block before : ℕ) (name : Name) (fs : Formals) (inner : Headed) (left next : Environment) (variable shape : ℕ) →
    gives (next_parameter block before fs) ≡ gives variable → gives (length inner.env.shapes) ≡ gives shape →
    left ≡ leave inner.env → gives (with_shape inner.asks left) ≡ gives next →
    procedure_named block before name fs inner ≡ (declare false name (entity.Formal block variable shape) next >>= named_behind fs inner)
procedure_is block before name fs inner left next variable shape numbered kept out behind =
    let g : Environment → Judged Listed = named_behind fs inner in
    shaped_named block before name fs inner
    ∙ ap (λ v. declare false name (entity.Formal block v (length inner.env.shapes)) (with_shape inner.asks (leave inner.env)) >>= g) (given numbered)
    ∙ ap (λ s. declare false name (entity.Formal block variable s) (with_shape inner.asks (leave inner.env)) >>= g) (given kept)
    ∙ ap (λ e. declare false name (entity.Formal block variable shape) (with_shape inner.asks e) >>= g) (sym out)
    ∙ ap (λ e. declare false name (entity.Formal block variable shape) e >>= g) (given behind)

pub procedure_behind : (block before : ℕ) (name : Name) (fs more : Formals) (inner : Headed) (left next last : Environment) (variable shape : ℕ) →
    gives (next_parameter block before fs) ≡ gives variable → gives (length inner.env.shapes) ≡ gives shape →
    left ≡ leave inner.env → gives (with_shape inner.asks left) ≡ gives next →
    declare false name (entity.Formal block variable shape) next ≡ gives last → more ≡ formals_append fs (procedure_then inner.asks no_formal) →
    procedure_named block before name fs inner ≡ gives (record { env = last; formals = more })
procedure_behind block before name fs more inner left next last variable shape numbered kept out behind declared is =
    procedure_is block before name fs inner left next variable shape numbered kept out behind
    ∙ ap (λ j. j >>= named_behind fs inner) declared
    ∙ ap (λ fs. gives (record { env = last; formals = fs })) (sym is)
