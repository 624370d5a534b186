-- How deep the parts of an expression nest that the rules give without looking further into the text.
use Rattle.std.proofs.Common.{ℕ, suc, ◌≤◌, Bool, true, false, ◌==◌, List, [], ◌∷◌, ◌++◌, map, Option, Some, None, arith}
use Rattle.std.specs.Prelude.{slice_index_or}
use Rattle.edi_scope.specs.declared.entity.Entity.{Entity}
use Rattle.edi_scope.specs.declared.entity.Entity.TheVariants as entity
use Rattle.edi_tree.specs.declared.names.Name.{Name}
use Rattle.edi_tree.specs.declared.expressions.Sign.{Sign}
use Rattle.edi_tree.specs.declared.expressions.Sign.TheVariants as sign
use Rattle.edi_tree.specs.Tree as text
use Rattle.edi_unit.specs.declared.expressions.Operator.{Operator}
use Rattle.edi_unit.specs.Types.{Shape, shape_at, is_elementary, is_set_shape, int_type}
use Rattle.edi_unit.specs.Tree as unit
use Rattle.edi_unit.specs.Headings.{Heading, Formals, no_formal, value_then, variable_then, procedure_then}
use Rattle.edi_static.specs.declared.faults.StaticKind.TheVariants as kind
use Rattle.edi_static.specs.Judged.{Judged}
use Rattle.edi_static.specs.Environment.{Environment, look_up, same_heading}
use Rattle.edi_static.specs.Operators.{Typed, signed, Linked, Chained, operated, takes, chain_of}
use Rattle.edi_static.specs.Fitting.{Use, constructs, calls, halts, neither, use_of, variable_argument, passed, name_alone, is_variable_alone, string_alone}
use Rattle.edi_static.specs.Fitting.{character, single, function_called, expressions_of, made, takes_parts, constructed, is_record, index_of_name}
use Rattle.edi_static.specs.Expressions.{Parted, field_at, field_of, used_alone, alone, taken, element, procedure_argument, argument}
use Rattle.edi_static.proofs.Judging.{Gives, bind, behind, ruled}
use Rattle.edi_static.specs.nesting.Nesting.{expression_nesting, expressions_nesting, link_nesting, links_nesting, part_nesting, argument_nesting}

abbrev pub Within : ℕ → Typed → Type 0
Within most v = expression_nesting v.what ≤ most

abbrev pub LinkWithin : ℕ → Linked → Type 0
LinkWithin most l = link_nesting l.what ≤ most

abbrev pub LinksWithin : ℕ → Chained → Type 0
LinksWithin most c = links_nesting c.links ≤ most

abbrev pub PartWithin : ℕ → Parted → Type 0
PartWithin most p = part_nesting p.what ≤ most

abbrev pub ListWithin : ℕ → List Typed → Type 0
ListWithin most vs = expressions_nesting (expressions_of vs) ≤ most

abbrev pub ArgumentWithin : ℕ → unit.Argument → Type 0
ArgumentWithin most x = argument_nesting x ≤ most

-- ---- operators

pub chained_within : (e : unit.Expression) (ls : unit.Links) (most : ℕ) → suc (expression_nesting e) ≤ most → suc (links_nesting ls) ≤ most
    → expression_nesting (chain_of e ls) ≤ most
chained_within e unit.no_link most h k = omega (arith, h)
chained_within e (unit.link_then l ls) most h k = omega (arith, h, k)

pub operated_within : (types : List Shape) (o : Operator) (line left : ℕ) (v : Typed) (most : ℕ) → Within most v
    → Gives (LinkWithin most) (operated types o line left v)
operated_within types o line left v most h = ruled (LinkWithin most) (takes types o left v.of) kind.Types line _ (λ e. h)

pub signed_within : (s : Option Sign) (v : Typed) (most : ℕ) → suc (expression_nesting v.what) ≤ most → Gives (Within most) (signed s v)
signed_within None v most h = omega (arith, h)
signed_within (Some (sign.Plus line)) v most h = ruled (Within most) (v.of == int_type) kind.Types line _ (λ e. omega (arith, h))
signed_within (Some (sign.Minus line)) v most h = ruled (Within most) (v.of == int_type) kind.Types line _ (λ e. h)

-- ---- names and strings alone

pub single_within : (line : ℕ) (cs : List ℕ) → Gives (Within 1) (single line cs)
single_within line [] = tt
single_within line (c ∷ []) = omega arith
single_within line (c ∷ d ∷ cs) = tt

used_within : (env : Environment) (line : ℕ) (u : Use) (means : Entity) → Gives (Within 1) (used_alone env line u means)
used_within env line (constructs of) means = ruled (Within 1) (is_set_shape (shape_at env.types of)) kind.Constructor line _ (λ e. omega arith)
used_within env line (calls c) means = behind (Within 1) (function_called line c 0) _ (λ r. omega arith)
used_within env line halts means = tt
used_within env line neither (entity.Constant of n) = omega arith
used_within env line neither (entity.Variable b v of) = omega arith
used_within env line neither (entity.Types t) = tt
used_within env line neither (entity.Procedure b) = tt
used_within env line neither (entity.Formal b v shape) = tt
used_within env line neither entity.Halt = tt

pub alone_within : (env : Environment) (name : Name) → Gives (Within 1) (alone env name)
alone_within env name = behind (Within 1) (look_up env name) _ (λ means. used_within env name.line (use_of env means) means)

-- ---- constructors

characters_within : (cs : List ℕ) → ListWithin 1 (map character cs)
characters_within [] = omega arith
characters_within (c ∷ cs) = let rest = characters_within cs in omega (arith, rest)

taken_within : (env : Environment) (strings : Bool) (o : Option (List ℕ)) (judged : Judged Typed) (most : ℕ) → 1 ≤ most → Gives (Within most) judged
    → Gives (ListWithin most) (taken env strings o judged)
taken_within env true (Some cs) judged most one h = let all = characters_within cs in omega (arith, one, all)
taken_within env true None judged most one h = bind (Within most) (ListWithin most) judged _ h (λ v k. omega (arith, k))
taken_within env false o judged most one h = bind (Within most) (ListWithin most) judged _ h (λ v k. omega (arith, k))

pub element_within : (env : Environment) (strings : Bool) (e : text.Expr) (judged : Judged Typed) (most : ℕ) → 1 ≤ most → Gives (Within most) judged
    → Gives (ListWithin most) (element env strings e judged)
element_within env strings e judged most one h = taken_within env strings (string_alone e) judged most one h

pub both_within : (vs ws : List Typed) (most : ℕ) → ListWithin most vs → ListWithin most ws → ListWithin most (vs ++ ws)
both_within [] ws most h k = k
both_within (v ∷ vs) ws most h k = let rest = both_within vs ws most (omega (arith, h)) k in omega (arith, h, rest)

made_within : (elementary : Bool) (of : ℕ) (vs : List Typed) (line most : ℕ) → suc (expressions_nesting (expressions_of vs)) ≤ most
    → expression_nesting (made elementary of vs line) ≤ most
made_within true of [] line most h = omega (arith, h)
made_within true of (v ∷ []) line most h = omega (arith, h)
made_within true of (v ∷ w ∷ vs) line most h = omega (arith, h)
made_within false of vs line most h = omega (arith, h)

pub constructed_within : (env : Environment) (line of : ℕ) (vs : List Typed) (most : ℕ) → suc (expressions_nesting (expressions_of vs)) ≤ most
    → Gives (Within most) (constructed env line of vs)
constructed_within env line of vs most h = ruled (Within most) (takes_parts env.types (shape_at env.types of) (map (λ v. v.of) vs)) kind.Constructor line _
    (λ e. made_within (is_elementary env.types of) of vs line most h)

-- ---- arguments

variable_within : (line of : ℕ) (is_alone : Bool) (x : unit.Expression) (has most : ℕ) → expression_nesting x ≤ most
    → Gives (ArgumentWithin most) (variable_argument line of is_alone x has)
variable_within line of true (unit.load p) has most h = ruled (ArgumentWithin most) (has == of) kind.Call line _ (λ e. omega (arith, h))
variable_within line of true (unit.constant u n) has most h = tt
variable_within line of true (unit.not_of x) has most h = tt
variable_within line of true (unit.sign_of x l) has most h = tt
variable_within line of true (unit.chain x ls) has most h = tt
variable_within line of true (unit.make u es l) has most h = tt
variable_within line of true (unit.convert u x l) has most h = tt
variable_within line of true (unit.apply_of c xs l) has most h = tt
variable_within line of false x has most h = tt

passed_within : (line : ℕ) (asked : Heading) (u : Use) (most : ℕ) → Gives (ArgumentWithin most) (passed line asked u)
passed_within line asked (calls c) most = ruled (ArgumentWithin most) (same_heading c.asks asked) kind.Call line _ (λ e. omega arith)
passed_within line asked (constructs of) most = tt
passed_within line asked halts most = tt
passed_within line asked neither most = tt

procedure_within : (env : Environment) (line : ℕ) (asked : Heading) (o : Option Name) (judged : Judged Typed) (most : ℕ)
    → Gives (ArgumentWithin most) (procedure_argument env line asked o judged)
procedure_within env line asked (Some name) judged most = behind (ArgumentWithin most) (look_up env name) _
    (λ means. passed_within line asked (use_of env means) most)
procedure_within env line asked None judged most = behind (ArgumentWithin most) judged _ (λ v. tt)

pub argument_within : (env : Environment) (line : ℕ) (e : text.Expr) (judged : Judged Typed) (fs : Formals) (most : ℕ) → Gives (Within most) judged
    → Gives (ArgumentWithin most) (argument env line e judged fs)
argument_within env line e judged no_formal most h = tt
argument_within env line e judged (value_then of fs) most h =
    bind (Within most) (ArgumentWithin most) judged _ h (λ v k. ruled (ArgumentWithin most) (v.of == of) kind.Call line _ (λ r. k))
argument_within env line e judged (variable_then of fs) most h =
    bind (Within most) (ArgumentWithin most) judged _ h (λ v k. variable_within line of (is_variable_alone e) v.what v.of most k)
argument_within env line e judged (procedure_then asked fs) most h = procedure_within env line asked (name_alone e) judged most

-- ---- fields

field_at_within : (env : Environment) (of : ℕ) (name : Name) (o : Option ℕ) → Gives (PartWithin 0) (field_at env of name o)
field_at_within env of name None = tt
field_at_within env of name (Some n) = omega arith

pub field_within : (env : Environment) (line of : ℕ) (name : Name) → Gives (PartWithin 0) (field_of env line of name)
field_within env line of name = ruled (PartWithin 0) (is_record (shape_at env.types of)) kind.Types line _
    (λ e. field_at_within env of name (index_of_name (slice_index_or env.fields of []) name.text))
