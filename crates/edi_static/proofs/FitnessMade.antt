-- What the rules on constants and constructors give fits.
use Rattle.std.proofs.Common.{◌≡◌, ℕ, ℤ, pos, ◌<◌, Bool, true, false, ◌==◌, List, [], ◌∷◌, ◌++◌, length, map, replicate, Option, Some, None, IsTrue, refl}
use Rattle.std.proofs.Common.{sym, ap, subst, ◌∙◌, arith}
use Rattle.std.proofs.lemmas.Bool.{eqb-true, and_parts}
use Rattle.std.proofs.lemmas.List.{get_or-take}
use Rattle.std.specs.List.{list_all}
use Rattle.std.specs.Prelude.{IfSome}
use Rattle.edi_tree.specs.Tree as text
use Rattle.edi_unit.specs.Types.{Shape, int, char, bool, enumeration, record_of, array_of, set_of, int_type, shape_at, standard_types, is_elementary}
use Rattle.edi_unit.specs.Types.{is_elementary_shape, is_set_shape, is_ordinal_of, element_count}
use Rattle.edi_unit.specs.Tree as unit
use Rattle.edi_unit.specs.Fits.{HaveTypes, AllHaveType, MakesValue, ExpressionsFit}
use Rattle.edi_static.specs.Leaves.{ExprHolds, FactorHolds}
use Rattle.edi_static.specs.InRange.{AreCharacters, in_range}
use Rattle.edi_static.specs.declared.faults.StaticKind.TheVariants as kind
use Rattle.edi_static.specs.Judged.{Judged}
use Rattle.edi_static.specs.Environment.{Environment, here}
use Rattle.edi_static.specs.Operators.{Typed}
use Rattle.edi_static.specs.Fitting.{only_factor, string_of_factor, string_alone, character, single, empty_set, same_types, is_one_ordinal, takes_parts}
use Rattle.edi_static.specs.Fitting.{expressions_of, made, constructed}
use Rattle.edi_static.specs.Expressions.{taken, element}
use Rattle.edi_static.proofs.Judging.{Gives, bind, ruled}
use Rattle.edi_static.proofs.Fitness.{headings_of, IsTable, TypedFits}
use Rattle.edi_static.proofs.FitnessOperators.{never}

-- ---- constants of the standard types

pub standard_shape : (types : List Shape) → IsTable types → (t : ℕ) → t < 3 → shape_at types t ≡ shape_at standard_types t
standard_shape types table t lt = sym (get_or-take 3 types t int lt) ∙ ap (λ ts. shape_at ts t) table.standard

pub numeral_fits : (env : Environment) → IsTable env.types → (n : ℤ) → IsTrue (is_ordinal_of int n)
    → TypedFits env (record { what = unit.constant int_type n; of = int_type })
numeral_fits env table n h = record {
  has_type = refl;
  fits =
      (omega (arith, table.three), subst (λ shape. IsTrue (is_ordinal_of shape n)) (sym (standard_shape env.types table 0 (omega arith))) h);
}

pub character_fits : (env : Environment) → IsTable env.types → (c : ℕ) → IsTrue (is_ordinal_of char (pos c)) → TypedFits env (character c)
character_fits env table c h = record {
  has_type = refl;
  fits =
      (omega (arith, table.three), subst (λ shape. IsTrue (is_ordinal_of shape (pos c))) (sym (standard_shape env.types table 1 (omega arith))) h);
}

pub single_fits : (env : Environment) → IsTable env.types → (line : ℕ) (cs : List ℕ) → AreCharacters cs → Gives (TypedFits env) (single line cs)
single_fits env table line [] h = tt
single_fits env table line (c ∷ []) h = character_fits env table c h.0
single_fits env table line (c ∷ d ∷ cs) h = tt

-- ---- the parts of a constructor

abbrev pub TypedsFit : Environment → List Typed → Type 0
TypedsFit env [] = Unit {0}
TypedsFit env (v ∷ vs) = TypedFits env v × TypedsFit env vs

pub both_fit : (env : Environment) (vs ws : List Typed) → TypedsFit env vs → TypedsFit env ws → TypedsFit env (vs ++ ws)
both_fit env [] ws h k = k
both_fit env (v ∷ vs) ws h k = (h.0, both_fit env vs ws h.1 k)

characters_fit : (env : Environment) → IsTable env.types → (cs : List ℕ) → AreCharacters cs → TypedsFit env (map character cs)
characters_fit env table [] h = tt
characters_fit env table (c ∷ cs) h = (character_fits env table c h.0, characters_fit env table cs h.1)

-- a string alone
only_in_range : (e : text.Expr) → ExprHolds in_range e → IfSome (only_factor e) (FactorHolds in_range)
only_in_range (text.expr (text.simple None (text.term f text.no_multiplier) text.no_addend) text.no_comparison) h = h.0.0.0
only_in_range (text.expr (text.simple None (text.term f text.no_multiplier) text.no_addend) (text.compared r line s)) h = tt
only_in_range (text.expr (text.simple None (text.term f text.no_multiplier) (text.next_addend a more)) c) h = tt
only_in_range (text.expr (text.simple None (text.term f (text.next_multiplier m ms)) more) c) h = tt
only_in_range (text.expr (text.simple (Some sign) t more) c) h = tt

string_in_range : (o : Option text.Factor) → IfSome o (FactorHolds in_range) → IfSome (string_of_factor o) AreCharacters
string_in_range None h = tt
string_in_range (Some (text.string s)) h = h
string_in_range (Some (text.numeral n)) h = tt
string_in_range (Some (text.not_factor line f)) h = tt
string_in_range (Some (text.parenthesized e)) h = tt
string_in_range (Some (text.call_factor name xs)) h = tt
string_in_range (Some (text.variable_factor v)) h = tt

taken_fits : (env : Environment) → IsTable env.types → (strings : Bool) (o : Option (List ℕ)) (judged : Judged Typed) → IfSome o AreCharacters
    → Gives (TypedFits env) judged → Gives (TypedsFit env) (taken env strings o judged)
taken_fits env table true (Some cs) judged h k = characters_fit env table cs h
taken_fits env table true None judged h k = bind (TypedFits env) (TypedsFit env) judged _ k (λ v j. (j, tt))
taken_fits env table false o judged h k = bind (TypedFits env) (TypedsFit env) judged _ k (λ v j. (j, tt))

pub element_fits : (env : Environment) → IsTable env.types → (strings : Bool) (e : text.Expr) (judged : Judged Typed) → ExprHolds in_range e
    → Gives (TypedFits env) judged → Gives (TypedsFit env) (element env strings e judged)
element_fits env table strings e judged h k =
    taken_fits env table strings (string_alone e) judged (string_in_range (only_factor e) (only_in_range e h)) k

-- ---- constructors

expressions_fit : (env : Environment) (vs : List Typed) → TypedsFit env vs → ExpressionsFit env.types env.blocks (headings_of env.headings) (here env)
    (expressions_of vs)
expressions_fit env [] h = tt
expressions_fit env (v ∷ vs) h = (h.0.fits, expressions_fit env vs h.1)

have_types : (env : Environment) (vs : List Typed) (ts : List ℕ) → TypedsFit env vs → same_types (map (λ v. v.of) vs) ts ≡ true
    → HaveTypes env.types env.blocks (headings_of env.headings) (here env) (expressions_of vs) ts
have_types env [] [] h e = tt
have_types env [] (t ∷ ts) h e = never e
have_types env (v ∷ vs) [] h e = never e
have_types env (v ∷ vs) (t ∷ ts) h e =
    let p = and_parts (v.of == t) (same_types (map (λ v. v.of) vs) ts) e in
    (h.0.has_type ∙ eqb-true v.of t p.0, have_types env vs ts h.1 p.1)

all_have : (env : Environment) (t : ℕ) (vs : List Typed) → TypedsFit env vs → list_all (λ s. s == t) (map (λ v. v.of) vs) ≡ true
    → AllHaveType env.types env.blocks (headings_of env.headings) (here env) t (expressions_of vs)
all_have env t [] h e = tt
all_have env t (v ∷ vs) h e =
    let p = and_parts (v.of == t) (list_all (λ s. s == t) (map (λ v. v.of) vs)) e in
    (h.0.has_type ∙ eqb-true v.of t p.0, all_have env t vs h.1 p.1)

many_have : (env : Environment) (t : ℕ) (vs : List Typed) → TypedsFit env vs → list_all (λ s. s == t) (map (λ v. v.of) vs) ≡ true
    → HaveTypes env.types env.blocks (headings_of env.headings) (here env) (expressions_of vs) (replicate (length (map (λ v. v.of) vs)) t)
many_have env t [] h e = tt
many_have env t (v ∷ vs) h e =
    let p = and_parts (v.of == t) (list_all (λ s. s == t) (map (λ v. v.of) vs)) e in
    (h.0.has_type ∙ eqb-true v.of t p.0, many_have env t vs h.1 p.1)

-- a record, an array or a set
composed : (env : Environment) (of : ℕ) (vs : List Typed) (line : ℕ) → of < length env.types → TypedsFit env vs
    → MakesValue env.types env.blocks (headings_of env.headings) (here env) (shape_at env.types of) (expressions_of vs)
    → TypedFits env (record { what = unit.make of (expressions_of vs) line; of = of })
composed env of vs line lt h m = record { has_type = refl; fits = (lt, m, expressions_fit env vs h) }

-- a value of an elementary type
converted : (env : Environment) (of : ℕ) (vs : List Typed) (line : ℕ) → of < length env.types → IsTrue (is_elementary env.types of) → TypedsFit env vs
    → is_one_ordinal env.types (map (λ v. v.of) vs) ≡ true
    → TypedFits env (record { what = made true of vs line; of = of })
converted env of [] line lt one h e = never e
converted env of (v ∷ []) line lt one h e = record {
  has_type = refl;
  fits = (lt, one, subst (λ t. IsTrue (is_elementary env.types t)) (sym h.0.has_type) e, h.0.fits);
}
converted env of (v ∷ w ∷ vs) line lt one h e = never e

made_fits : (env : Environment) (of : ℕ) (vs : List Typed) (line : ℕ) (shape : Shape) → shape_at env.types of ≡ shape → of < length env.types → TypedsFit env vs
    → takes_parts env.types shape (map (λ v. v.of) vs) ≡ true
    → TypedFits env (record { what = made (is_elementary_shape shape) of vs line; of = of })
made_fits env of vs line int is lt h e = converted env of vs line lt (ap is_elementary_shape is) h e
made_fits env of vs line char is lt h e = converted env of vs line lt (ap is_elementary_shape is) h e
made_fits env of vs line bool is lt h e = converted env of vs line lt (ap is_elementary_shape is) h e
made_fits env of vs line (enumeration n) is lt h e = converted env of vs line lt (ap is_elementary_shape is) h e
made_fits env of vs line (record_of fs) is lt h e =
    composed env of vs line lt h
    (subst (λ shape. MakesValue env.types env.blocks (headings_of env.headings) (here env) shape (expressions_of vs)) (sym is) (have_types env vs fs h e))
made_fits env of vs line (array_of i lo hi x) is lt h e =
    let p = and_parts (length (map (λ v. v.of) vs) == element_count lo hi) (list_all (λ t. t == x) (map (λ v. v.of) vs)) e in
    composed env of vs line lt h
    (subst (λ shape. MakesValue env.types env.blocks (headings_of env.headings) (here env) shape (expressions_of vs)) (sym is)
    (subst (λ n. HaveTypes env.types env.blocks (headings_of env.headings) (here env) (expressions_of vs) (replicate n x))
    (eqb-true (length (map (λ v. v.of) vs)) (element_count lo hi) p.0)
    (many_have env x vs h p.1)))
made_fits env of vs line (set_of b) is lt h e =
    composed env of vs line lt h
    (subst (λ shape. MakesValue env.types env.blocks (headings_of env.headings) (here env) shape (expressions_of vs)) (sym is) (all_have env b vs h e))

pub constructed_fits : (env : Environment) (line of : ℕ) (vs : List Typed) → of < length env.types → TypedsFit env vs
    → Gives (TypedFits env) (constructed env line of vs)
constructed_fits env line of vs lt h =
    ruled (TypedFits env) (takes_parts env.types (shape_at env.types of) (map (λ v. v.of) vs)) kind.Constructor line _
    (λ e. made_fits env of vs line (shape_at env.types of) refl lt h e)

none_made : (env : Environment) (shape : Shape) → is_set_shape shape ≡ true → MakesValue env.types env.blocks (headings_of env.headings) (here env) shape
    unit.no_expression
none_made env (set_of b) e = tt
none_made env other e = never e

pub empty_fits : (env : Environment) (line of : ℕ) → of < length env.types → Gives (TypedFits env) (empty_set env line of)
empty_fits env line of lt =
    ruled (TypedFits env) (is_set_shape (shape_at env.types of)) kind.Constructor line _
    (λ e. record { has_type = refl; fits = (lt, none_made env (shape_at env.types of) e, tt) })
