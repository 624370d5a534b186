-- Constants, types and variables keep what holds of an environment.
use Rattle.std.proofs.Common.{◌≡◌, ℕ, zero, suc, ◌+◌, ◌<◌, ◌≤◌, ℤ, pos, int_le, Bool, true, false, not, ◌&&◌, ◌==◌, nat_lt, nat_le, List, [], ◌∷◌, length}
use Rattle.std.proofs.Common.{get_or, All, Some, None, IsTrue, refl, sym, ap, ◌∙◌, subst, arith, length-append}
use Rattle.std.specs.List.{list_any}
use Rattle.std.specs.Str.{bytes_eq}
use Rattle.std.proofs.lemmas.Bool.{false≢true, eqb-true}
use Rattle.std.proofs.lemmas.List.Elements.{All-push}
use Rattle.std.proofs.Math.ListN.{get_or-append}
use Rattle.std.proofs.Math.Seq.{get_or-append_seam}
use Rattle.edi_scope.specs.declared.entity.Entity.{Entity}
use Rattle.edi_scope.specs.declared.entity.Entity.TheVariants as entity
use Rattle.edi_tree.specs.declared.names.Name.{Name}
use Rattle.edi_tree.specs.declared.constants.Constant.{Constant}
use Rattle.edi_tree.specs.declared.constants.Constant.TheVariants as code
use Rattle.edi_tree.specs.declared.constants.ConstDecl.{ConstDecl}
use Rattle.edi_tree.specs.Tree as text
use Rattle.edi_unit.specs.Types.{Shape, int, char, bool, enumeration, record_of, array_of, set_of, shape_at, is_ordinal_of, is_elementary}
use Rattle.edi_unit.specs.Types.{is_elementary_shape, standard_types, shape_size, size, greatest_size}
use Rattle.edi_unit.specs.TypeTables.{named_types, ordinal_types, HasOrderedBounds}
use Rattle.edi_unit.specs.Types.{fields_of, int_type, char_type}
use Rattle.edi_unit.specs.TypeTables.{IsDeclarable}
use Rattle.edi_unit.specs.Fits.{ShapeFits}
use Rattle.edi_static.specs.declared.faults.StaticKind.TheVariants as kind
use Rattle.edi_static.specs.Judged.{Judged, gives, faults, ◌>>=◌, must}
use Rattle.edi_static.specs.Environment.{Environment, look_up, as_type, type_named, declare, with_type}
use Rattle.edi_static.specs.Types.{Ordinal, constant, as_constant, as_character, const_decl, const_decls, const_list, most_constants, names_count}
use Rattle.edi_static.specs.Types.{enum_constants, enum_decl, Fields, no_fields, field_named, fields_named, fields_of_groups, declare_type, array_decl}
use Rattle.edi_static.specs.Types.{set_decl, type_decl}
use Rattle.edi_static.specs.InRange.{ConstantInRange, ConstDeclsInRange, ConstListInRange, TypeDeclInRange}
use Rattle.edi_static.proofs.Judging.{Gives, bind, behind, ruled, weaker}
use Rattle.edi_static.proofs.Steps.{typed_declare, typed_enum}
use Rattle.edi_static.proofs.Fitness.{EntitySits, Sits}
use Rattle.edi_static.proofs.FitnessNames.{look_up_sits}
use Rattle.edi_static.proofs.FitnessMade.{standard_shape}
use Rattle.edi_static.proofs.FitnessOnward.{Onward, onward_then, onward_same, declare_onward, type_onward}

-- one construct behind another
pub go_on : (export : Bool) (env : Environment) (j : Judged Environment) (f : Environment → Judged Environment) → Gives (Onward export env) j →
    ((e : Environment) → Onward export env e → Gives (Onward export e) (f e)) → Gives (Onward export env) (j >>= f)
go_on export env j f h k =
    bind (Onward export env) (Onward export env) j f h
    (λ e o. weaker (Onward export e) (Onward export env) (f e) (λ c g. onward_then export env e c o g) (k e o))

both : {a b : Bool} → a ≡ true → b ≡ true → (a && b) ≡ true
both {a} {b} h k = ap (λ x. x && b) h ∙ k

-- ---- constants

abbrev pub OrdinalSits : Environment → Ordinal → Type 0
OrdinalSits env k = EntitySits env (entity.Constant k.of k.ordinal)

as_constant_sits : (env : Environment) (line : ℕ) (e : Entity) → EntitySits env e → Gives (OrdinalSits env) (as_constant line e)
as_constant_sits env line (entity.Constant of n) h = h
as_constant_sits env line (entity.Types t) h = tt
as_constant_sits env line (entity.Variable b v of) h = tt
as_constant_sits env line (entity.Procedure b) h = tt
as_constant_sits env line (entity.Formal b v shape) h = tt
as_constant_sits env line entity.Halt h = tt

standard_sits : (env : Environment) → Sits env → (t : ℕ) → t < 3 → (n : ℤ) → is_ordinal_of (shape_at standard_types t) n ≡ true
    → EntitySits env (entity.Constant t n)
standard_sits env s t lt n h =
    let three = s.types.table.three in
    (omega (arith, lt, three), subst (λ x. IsTrue (is_ordinal_of x n)) (sym (standard_shape env.types s.types.table t lt)) h)

as_character_sits : (env : Environment) → Sits env → (line : ℕ) (n : ℤ) (e : Entity) → int_le (pos 0) n ≡ true → Gives (OrdinalSits env) (as_character line n e)
as_character_sits env s line n (entity.Types t) low =
    ruled (OrdinalSits env) (t == char_type) kind.Kind line _ (λ is.
    ruled (OrdinalSits env) (int_le n (pos 127)) kind.Range line _ (λ high. standard_sits env s char_type (omega arith) n (both low high)))
as_character_sits env s line n (entity.Constant of m) low = tt
as_character_sits env s line n (entity.Variable b v of) low = tt
as_character_sits env s line n (entity.Procedure b) low = tt
as_character_sits env s line n (entity.Formal b v shape) low = tt
as_character_sits env s line n entity.Halt low = tt

pub constant_sits : (env : Environment) → Sits env → (c : Constant) → ConstantInRange c → Gives (OrdinalSits env) (constant env c)
constant_sits env s (code.Numeral n) h = standard_sits env s int_type (omega arith) n h
constant_sits env s (code.Char c) h = standard_sits env s char_type (omega arith) (pos c.character) h
constant_sits env s (code.Name name None) h = bind (EntitySits env) (OrdinalSits env) _ _ (look_up_sits env s name) (as_constant_sits env name.line)
constant_sits env s (code.Name name (Some n)) h = behind (OrdinalSits env) (look_up env name) _ (λ e. as_character_sits env s name.line n e h)

const_onward : (m : Bool) (d : ConstDecl) (env : Environment) → Sits env → ConstantInRange d.constant → Gives (Onward m env) (const_decl m d env)
const_onward m d env s h = bind (OrdinalSits env) (Onward m env) _ _ (constant_sits env s d.constant h) (λ k i. declare_onward m d.name _ env s i)

consts_onward : (m : Bool) (ds : text.ConstDecls) (env : Environment) → Sits env → ConstDeclsInRange ds → Gives (Onward m env) (const_decls m ds env)
consts_onward m text.no_const_decl env s h = onward_same m env s
consts_onward m (text.next_const_decl d ds) env s h = go_on m env _ _ (const_onward m d env s h.0) (λ e o. consts_onward m ds e o.sits h.1)

pub const_list_onward : (m : Bool) (cs : text.ConstList) (env : Environment) → Sits env → ConstListInRange cs → Gives (Onward m env) (const_list m cs env)
const_list_onward m (text.const_list d ds) env s h = go_on m env _ _ (const_onward m d env s h.0) (λ e o. consts_onward m ds e o.sits h.1)

-- ---- types

as_type_sits : (env : Environment) (line : ℕ) (e : Entity) → EntitySits env e → Gives (λ t. t < length env.types) (as_type line e)
as_type_sits env line (entity.Types t) h = h
as_type_sits env line e h = tt

pub type_sits_named : (env : Environment) → Sits env → (name : Name) → Gives (λ t. t < length env.types) (type_named env name)
type_sits_named env s name = bind (EntitySits env) (λ t. t < length env.types) _ _ (look_up_sits env s name) (as_type_sits env name.line)

-- ---- enumerations

-- a rule on its constants is a fact about the type
given_first : {A : Type 0} (C : Type 0) (Q : A → Type 0) (j : Judged A) → Gives (λ a. C) j → (C → Gives Q j) → Gives Q j
given_first C Q (gives a) h k = k h
given_first C Q (faults why line) h k = tt

few : (m : Bool) (of n : ℕ) (ns : text.Names) (env : Environment) → n ≤ most_constants → Gives (λ e. n + names_count ns ≤ most_constants)
    (enum_constants m of n ns env)
few m of n text.no_name env h = omega (arith, h)
few m of n (text.next_name name ns) env h =
    bind (λ e. n < most_constants) (λ e. n + suc (names_count ns) ≤ most_constants) _ _
    (behind (λ e. n < most_constants) (declare m name (entity.Constant of (pos n)) env) _ (λ e.
    ruled (λ e. n < most_constants) (nat_lt n most_constants) kind.Range name.line _ (λ t. grind (arith, t))))
    (λ e lt.
    weaker (λ e. suc n + names_count ns ≤ most_constants) (λ e. n + suc (names_count ns) ≤ most_constants) _ (λ a k. omega (arith, k))
    (few m of (suc n) ns e (omega (arith, lt))))

in_enumeration : (n k : ℕ) → n < k → is_ordinal_of (enumeration k) (pos n) ≡ true
in_enumeration n k h = grind (arith, h)

-- the constants of an enumeration that stands in the table
enum_onward : (m : Bool) (of n k : ℕ) (ns : text.Names) (env : Environment) → Sits env → of < length env.types → shape_at env.types of ≡ enumeration k
    → n + names_count ns ≡ k →
    Gives (Onward m env) (enum_constants m of n ns env)
enum_onward m of n k text.no_name env s known is count = onward_same m env s
enum_onward m of n k (text.next_name name ns) env s known is count =
    go_on m env _ _
    (bind (Onward m env) (Onward m env) _ _
    (declare_onward m name (entity.Constant of (pos n)) env s
    (known, subst (λ x. IsTrue (is_ordinal_of x (pos n))) (sym is) (in_enumeration n k (omega (arith, count)))))
    (λ e o. behind (Onward m env) (must (nat_lt n most_constants) kind.Range name.line) (λ _. gives e) (λ _. o)))
    (λ e o.
    let l = o.later in
    let types = l.types in
    enum_onward m of (suc n) k ns e o.sits
    (subst (λ ts. of < length ts) (sym types) (omega (arith, known, length-append env.types l.more)))
    (ap (λ ts. shape_at ts of) types ∙ get_or-append env.types l.more int of known ∙ is)
    (omega (arith, count)))

none_named : (P : ℕ → Type 0) → All P []
none_named P k d h = absurd (omega (arith, h))

one_named : (P : ℕ → Type 0) (a : ℕ) → P a → All P (a ∷ [])
one_named P a p zero d h = p
one_named P a p (suc k) d h = absurd (omega (arith, h))

two_named : (P : ℕ → Type 0) (a b : ℕ) → P a → P b → All P (a ∷ b ∷ [])
two_named P a b p q zero d h = p
two_named P a b p q (suc zero) d h = q
two_named P a b p q (suc (suc k)) d h = absurd (omega (arith, h))

enumeration_declarable : (types : List Shape) (n : ℕ) → IsDeclarable types (enumeration n)
enumeration_declarable types n = record {
  known = none_named (λ t. t < length types);
  elementary = none_named (λ t. IsTrue (is_elementary types t));
  ordered = tt;
  small = omega arith;
}

enum_decl_onward : (m : Bool) (name first : Name) (more : text.Names) (env : Environment) → Sits env
    → Gives (Onward m env) (enum_decl m name (text.next_name first more) env)
enum_decl_onward m name first more env s =
    let ns : text.Names = text.next_name first more in
    let k : ℕ = names_count ns in
    let of : ℕ = length env.types in
    let next : Environment = with_type (enumeration k) [] env in
    subst (Gives (Onward m env)) (sym (typed_enum m name ns env))
    (given_first (0 + k ≤ most_constants) (Onward m env) (declare m name (entity.Types of) next >>= enum_constants m of 0 ns)
    (behind (λ e. 0 + k ≤ most_constants) (declare m name (entity.Types of) next) (enum_constants m of 0 ns) (λ e. few m of 0 ns e (omega arith)))
    (λ few_enough. put m name ns env s (omega arith) (omega (arith, few_enough))))
  where
    put : (m : Bool) (name : Name) (ns : text.Names) (env : Environment) → Sits env → 0 < names_count ns → names_count ns ≤ most_constants →
        Gives (Onward m env) (declare m name (entity.Types (length env.types)) (with_type (enumeration (names_count ns)) [] env) >>= enum_constants m
        (length env.types) 0 ns)
    put m name ns env s some few_enough =
        let k : ℕ = names_count ns in
        let of : ℕ = length env.types in
        let next : Environment = with_type (enumeration k) [] env in
        let o : Onward m env next = type_onward m (enumeration k) [] env s (enumeration_declarable env.types k) (some, few_enough) (omega arith) in
        let at : of < length next.types = omega (arith, length-append env.types (enumeration k ∷ [])) in
        weaker (Onward m next) (Onward m env) (declare m name (entity.Types of) next >>= enum_constants m of 0 ns) (λ e g. onward_then m env next e o g)
        (go_on m next (declare m name (entity.Types of) next) (enum_constants m of 0 ns) (declare_onward m name (entity.Types of) next o.sits at)
        (λ e g.
        let l = g.later in
        let types = l.types in
        enum_onward m of 0 k ns e g.sits
        (subst (λ ts. of < length ts) (sym types) (omega (arith, at, length-append next.types l.more)))
        (ap (λ ts. shape_at ts of) types ∙ get_or-append next.types l.more int of at ∙ get_or-append_seam env.types (enumeration k) [] int)
        (omega arith)))

-- ---- other types

declare_type_onward : (m : Bool) (name : Name) (shape : Shape) (fields : List (List ℕ)) (env : Environment) → Sits env →
    All (λ t. t < length env.types) (named_types shape) → All (λ t. IsTrue (is_elementary env.types t)) (ordinal_types shape) → HasOrderedBounds shape →
    ShapeFits env.types shape → length fields ≤ length (fields_of shape) → Gives (Onward m env) (declare_type m name shape fields env)
declare_type_onward m name shape fields env s known elementary ordered fits named =
    ruled (Onward m env) (nat_le (shape_size (size env.types) shape) greatest_size) kind.Range name.line _ (λ small.
    let next : Environment = with_type shape fields env in
    let new : IsDeclarable env.types shape = record { known = known; elementary = elementary; ordered = ordered; small = grind (arith, small) } in
    let o : Onward m env next = type_onward m shape fields env s new fits named in
    subst (Gives (Onward m env)) (typed_declare m name (entity.Types (length env.types)) shape fields env)
    (weaker (Onward m next) (Onward m env) (declare m name (entity.Types (length env.types)) next) (λ e g. onward_then m env next e o g)
    (declare_onward m name (entity.Types (length env.types)) next o.sits (omega (arith, length-append env.types (shape ∷ []))))))

ordinal_elementary : (s : Shape) (n : ℤ) → is_ordinal_of s n ≡ true → is_elementary_shape s ≡ true
ordinal_elementary int n h = refl
ordinal_elementary char n h = refl
ordinal_elementary bool n h = refl
ordinal_elementary (enumeration k) n h = refl
ordinal_elementary (record_of fs) n h = absurd (false≢true h)
ordinal_elementary (array_of i lo hi e) n h = absurd (false≢true h)
ordinal_elementary (set_of t) n h = absurd (false≢true h)

array_onward : (m : Bool) (name : Name) (lower upper : Constant) (element : Name) (env : Environment) → Sits env → ConstantInRange lower
    → ConstantInRange upper →
    Gives (Onward m env) (array_decl m name lower upper element env)
array_onward m name lower upper element env s low high =
    bind (OrdinalSits env) (Onward m env) (constant env lower) _ (constant_sits env s lower low) (λ lo i.
    bind (OrdinalSits env) (Onward m env) (constant env upper) _ (constant_sits env s upper high) (λ hi j.
    bind (λ t. t < length env.types) (Onward m env) (type_named env element) _ (type_sits_named env s element) (λ e known.
    ruled (Onward m env) (lo.of == hi.of) _ _ _ (λ same.
    ruled (Onward m env) (int_le lo.ordinal hi.ordinal) _ _ _ (λ ordered.
    declare_type_onward m name (array_of lo.of lo.ordinal hi.ordinal e) [] env s
    (two_named (λ t. t < length env.types) lo.of e i.0 known)
    (one_named (λ t. IsTrue (is_elementary env.types t)) lo.of (ordinal_elementary (shape_at env.types lo.of) lo.ordinal i.1))
    (grind (arith, ordered))
    (i.1, subst (λ t. IsTrue (is_ordinal_of (shape_at env.types t) hi.ordinal)) (sym (eqb-true lo.of hi.of same)) j.1)
    (omega arith))))))

set_decl_onward : (m : Bool) (name base : Name) (env : Environment) → Sits env → Gives (Onward m env) (set_decl m name base env)
set_decl_onward m name base env s =
    bind (λ t. t < length env.types) (Onward m env) (type_named env base) _ (type_sits_named env s base) (λ b known.
    ruled (Onward m env) (is_elementary env.types b) _ _ _ (λ elementary.
    declare_type_onward m name (set_of b) [] env s
    (one_named (λ t. t < length env.types) b known)
    (one_named (λ t. IsTrue (is_elementary env.types t)) b elementary)
    tt tt (omega arith)))

-- ---- records

-- the types of the fields are known, and there are as many names
record FieldsSit (types : List Shape) (fields : Fields) : Type 0 where
  known : All (λ t. t < length types) fields.types
  as_many : length fields.names ≡ length fields.types

field_sits : (types : List Shape) (of : ℕ) (name : Name) (fields : Fields) → of < length types → FieldsSit types fields
    → Gives (FieldsSit types) (field_named of name fields)
field_sits types of name fields known h =
    ruled (FieldsSit types) (not (list_any (bytes_eq name.text) fields.names)) kind.Ambiguous name.line _ (λ _. record {
      known = All-push (λ t. t < length types) fields.types of h.known known;
      as_many = length-append fields.names (name.text ∷ []) ∙ ap (λ n. n + 1) h.as_many ∙ sym (length-append fields.types (of ∷ []));
    })

fields_sit : (types : List Shape) (of : ℕ) (ns : text.Names) (fields : Fields) → of < length types → FieldsSit types fields
    → Gives (FieldsSit types) (fields_named of ns fields)
fields_sit types of text.no_name fields known h = h
fields_sit types of (text.next_name name ns) fields known h =
    bind (FieldsSit types) (FieldsSit types) _ _ (field_sits types of name fields known h) (λ f k. fields_sit types of ns f known k)

groups_sit : (env : Environment) → Sits env → (gs : text.Groups) (fields : Fields) → FieldsSit env.types fields
    → Gives (FieldsSit env.types) (fields_of_groups env gs fields)
groups_sit env s text.no_group fields h = h
groups_sit env s (text.next_group (text.group first names of) gs) fields h =
    bind (FieldsSit env.types) (FieldsSit env.types) _ _
    (bind (λ t. t < length env.types) (FieldsSit env.types) (type_named env of) _ (type_sits_named env s of) (λ t known.
    fields_sit env.types t (text.next_name first names) fields known h))
    (λ f k. groups_sit env s gs f k)

pub type_decl_onward : (m : Bool) (t : text.TypeDecl) (env : Environment) → Sits env → TypeDeclInRange t → Gives (Onward m env) (type_decl m t env)
type_decl_onward m (text.enum_decl name first more) env s h = enum_decl_onward m name first more env s
type_decl_onward m (text.record_decl name first more) env s h =
    bind (FieldsSit env.types) (Onward m env) (fields_of_groups env (text.next_group first more) no_fields) _
    (groups_sit env s (text.next_group first more) no_fields (record { known = none_named (λ t. t < length env.types); as_many = refl }))
    (λ fields k.
    let many = k.as_many in
    declare_type_onward m name (record_of fields.types) fields.names env s k.known (none_named (λ t. IsTrue (is_elementary env.types t))) tt tt
    (omega (arith, many)))
type_decl_onward m (text.array_decl name line lower upper element) env s h = array_onward m name lower upper element env s h.0 h.1
type_decl_onward m (text.set_decl name base) env s h = set_decl_onward m name base env s
