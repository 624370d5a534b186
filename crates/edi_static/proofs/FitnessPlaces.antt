-- What the rules on variables and their parts give fits.
use Rattle.std.proofs.Common.{◌≡◌, ℕ, suc, ◌<◌, ◌≤◌, Bool, true, false, if◌then◌else◌, List, [], ◌∷◌, ◌++◌, length, map, Option, Some, None, IsTrue, IfSome}
use Rattle.std.proofs.Common.{is_some, slice_get, refl, sym, ap, subst, ◌∙◌, arith}
use Rattle.std.proofs.lemmas.Bool.{eqb-true}
use Rattle.std.proofs.lemmas.Option.{slice_get-get_or}
use Rattle.std.specs.Prelude.{slice_index_or, option_map, option_to_list}
use Rattle.std.specs.Option.{IsSome}
use Rattle.std.specs.Str.{bytes_eq}
use Rattle.edi_scope.specs.declared.entity.Entity.{Entity}
use Rattle.edi_scope.specs.declared.entity.Entity.TheVariants as entity
use Rattle.edi_tree.specs.declared.names.Name.{Name}
use Rattle.edi_tree.specs.declared.expressions.Root.{Root}
use Rattle.edi_tree.specs.declared.expressions.Root.TheVariants as root
use Rattle.edi_unit.specs.declared.units.Parameter.TheVariants as slot
use Rattle.edi_unit.specs.Types.{Shape, array_of, shape_at, fields_of}
use Rattle.edi_unit.specs.Tree as unit
use Rattle.edi_unit.specs.Tree.{Block}
use Rattle.edi_unit.specs.Need.{block_at, outer, slots, slot_at, slot_type, part_type, parts_type}
use Rattle.edi_unit.specs.Fits.{is_variable, greatest_levels, IsIndexedBy, PartFits, PartsFit}
use Rattle.edi_static.specs.declared.faults.StaticKind.TheVariants as kind
use Rattle.edi_static.specs.Environment.{Environment, here, steps_to, look_up}
use Rattle.edi_static.specs.Operators.{Typed}
use Rattle.edi_static.specs.Fitting.{Rooted, as_variable, function_variable, as_function, rooted_value, is_record, index_of_name, is_indexed_by}
use Rattle.edi_static.specs.Expressions.{Parted, Reached, Located, located, loaded, field_at, field_of, element_of, rooted}
use Rattle.edi_static.proofs.Judging.{Gives, bind, ruled}
use Rattle.edi_static.proofs.Fitness.{headings_of, is_round, slot_of, EntitySits, Sits, TypedFits, LocatedFits}
use Rattle.edi_static.proofs.FitnessNames.{look_up_sits, outer_round, steps_near}
use Rattle.edi_static.proofs.FitnessOperators.{never}

-- ---- blocks round the place

pub at_round : (env : Environment) → Sits env → (b : ℕ) → IsTrue (is_round b env.around) → outer env.blocks (here env) (steps_to b env.around) ≡ b
at_round env s b inside = outer_round env.blocks env.around b s.nested.chain inside

pub near_round : (env : Environment) → Sits env → (b : ℕ) → IsTrue (is_round b env.around) → steps_to b env.around ≤ greatest_levels
near_round env s b inside = omega (arith, steps_near env.around b inside, s.nested.near)

-- ---- variables

-- a variable of a block that is so many steps out
pub record RootedFits (env : Environment) (r : Rooted) : Type 0 where
  pub near : r.levels ≤ greatest_levels
  pub there : IsTrue (is_variable (slot_at env.blocks (here env) r.levels r.variable))
  pub has_type : slot_type (slot_at env.blocks (here env) r.levels r.variable) ≡ r.of

-- that of a block round the place
round_fits : (env : Environment) → Sits env → (b v of : ℕ) → IsTrue (is_round b env.around) → IsTrue (is_variable (slot_of env.blocks b v))
    → slot_type (slot_of env.blocks b v) ≡ of
    → RootedFits env (record { levels = steps_to b env.around; variable = v; of = of })
round_fits env s b v of inside there has = record {
  near = near_round env s b inside;
  there = subst (λ n. IsTrue (is_variable (slot_of env.blocks n v))) (sym (at_round env s b inside)) there;
  has_type = ap (λ n. slot_type (slot_of env.blocks n v)) (at_round env s b inside) ∙ has;
}

pub as_variable_fits : (env : Environment) → Sits env → (line : ℕ) (means : Entity) → EntitySits env means → Gives (RootedFits env) (as_variable env line means)
as_variable_fits env s line (entity.Variable b v of) h = round_fits env s b v of h.0 h.1 h.2
as_variable_fits env s line (entity.Constant of n) h = tt
as_variable_fits env s line (entity.Types t) h = tt
as_variable_fits env s line (entity.Procedure b) h = tt
as_variable_fits env s line (entity.Formal b v shape) h = tt
as_variable_fits env s line entity.Halt h = tt

function_slot : (block : Block) (of : ℕ) → block.result ≡ Some of → slice_get (slots block) 0 ≡ Some (slot.Value of)
function_slot block of e = ap (λ r. slice_get (map slot.Value (option_to_list r) ++ (block.parameters ++ map slot.Value block.variables)) 0) e

function_fits : (env : Environment) → Sits env → (line b : ℕ) (inside : Bool) (result : Option ℕ) → is_round b env.around ≡ inside
    → (block_at env.blocks b).result ≡ result
    → Gives (RootedFits env) (function_variable env line b inside result)
function_fits env s line b true (Some of) i e =
    let at : slot_of env.blocks b 0 ≡ Some (slot.Value of) = function_slot (block_at env.blocks b) of e in
    round_fits env s b 0 of i (ap is_variable at) (ap slot_type at)
function_fits env s line b true None i e = tt
function_fits env s line b false result i e = tt

as_function_fits : (env : Environment) → Sits env → (line : ℕ) (means : Entity) → Gives (RootedFits env) (as_function env line means)
as_function_fits env s line (entity.Procedure b) = function_fits env s line b (is_round b env.around) (block_at env.blocks b).result refl refl
as_function_fits env s line (entity.Variable b v of) = tt
as_function_fits env s line (entity.Constant of n) = tt
as_function_fits env s line (entity.Types t) = tt
as_function_fits env s line (entity.Formal b v shape) = tt
as_function_fits env s line entity.Halt = tt

pub rooted_fits : (env : Environment) → Sits env → (r : Root) → Gives (RootedFits env) (rooted env r)
rooted_fits env s (root.Name name) =
    bind (EntitySits env) (RootedFits env) (look_up env name) _ (look_up_sits env s name) (λ means h. as_variable_fits env s name.line means h)
rooted_fits env s (root.Val name) =
    bind (EntitySits env) (RootedFits env) (look_up env name) _ (look_up_sits env s name) (λ means h. as_function_fits env s name.line means)

pub rooted_value_fits : (env : Environment) (r : Rooted) → RootedFits env r → TypedFits env (rooted_value r)
rooted_value_fits env r h = record { has_type = h.has_type; fits = (h.near, h.there, tt) }

-- ---- parts

pub record PartedFits (env : Environment) (t : ℕ) (p : Parted) : Type 0 where
  pub has_type : part_type env.types t p.what ≡ p.of
  pub fits : PartFits env.types env.blocks (headings_of env.headings) (here env) t p.what

pub record ReachedFits (env : Environment) (t : ℕ) (r : Reached) : Type 0 where
  pub has_type : parts_type env.types t r.parts ≡ r.of
  pub fits : PartsFit env.types env.blocks (headings_of env.headings) (here env) t r.parts

-- the index of a field is one of the record's
later : (b : Bool) (o : Option ℕ) (k : ℕ) → IfSome o (λ n. n < k) → IfSome (if b then Some 0 else option_map (λ n. suc n) o) (λ n. n < suc k)
later true o k h = omega arith
later false (Some n) k h = omega (arith, h)
later false None k h = tt

index_within : (fields : List (List ℕ)) (name : List ℕ) → IfSome (index_of_name fields name) (λ n. n < length fields)
index_within [] name = tt
index_within (field ∷ fields) name = later (bytes_eq field name) (index_of_name fields name) (length fields) (index_within fields name)

field_known : (fields : List ℕ) (n : ℕ) → n < length fields → IsSome (slice_get fields n)
field_known fields n lt = ap is_some (slice_get-get_or fields n 0 lt)

field_at_fits : (env : Environment) → Sits env → (of : ℕ) (name : Name) (o : Option ℕ) → IfSome o (λ n. n < length (slice_index_or env.fields of []))
    → Gives (PartedFits env of) (field_at env of name o)
field_at_fits env s of name None h = tt
field_at_fits env s of name (Some n) h = record {
  has_type = refl;
  fits = field_known (fields_of (shape_at env.types of)) n (omega (arith, h, s.types.fields of));
}

pub field_fits : (env : Environment) → Sits env → (line of : ℕ) (name : Name) → Gives (PartedFits env of) (field_of env line of name)
field_fits env s line of name =
    ruled (PartedFits env of) (is_record (shape_at env.types of)) kind.Types line _
    (λ _. field_at_fits env s of name (index_of_name (slice_index_or env.fields of []) name.text) (index_within (slice_index_or env.fields of []) name.text))

indexed : (shape : Shape) (t : ℕ) → is_indexed_by shape t ≡ true → IsIndexedBy shape t
indexed (array_of i lo hi x) t e = eqb-true t i e
indexed other t e = never e

pub element_of_fits : (env : Environment) (line of : ℕ) (i : Typed) → TypedFits env i → Gives (PartedFits env of) (element_of env line of i)
element_of_fits env line of i h =
    ruled (PartedFits env of) (is_indexed_by (shape_at env.types of) i.of) kind.Types line _ (λ e. record {
      has_type = refl;
      fits = (subst (IsIndexedBy (shape_at env.types of)) (sym h.has_type) (indexed (shape_at env.types of) i.of e), h.fits);
    })

pub parts_then : (env : Environment) (t : ℕ) (p : Parted) (steps : Reached) → PartedFits env t p → ReachedFits env p.of steps
    → ReachedFits env t (record { parts = unit.part_then p.what steps.parts; of = steps.of })
parts_then env t p steps h k = record {
  has_type = ap (λ u. parts_type env.types u steps.parts) h.has_type ∙ k.has_type;
  fits =
      (h.fits, subst (λ u. PartsFit env.types env.blocks (headings_of env.headings) (here env) u steps.parts) (sym h.has_type) k.fits);
}

-- ---- places

pub located_fits : (env : Environment) (r : Rooted) (steps : Reached) → RootedFits env r → ReachedFits env r.of steps → LocatedFits env (located r steps)
located_fits env r steps h k = record {
  has_type = ap (λ t. parts_type env.types t steps.parts) h.has_type ∙ k.has_type;
  fits =
      (h.near, h.there, subst (λ t. PartsFit env.types env.blocks (headings_of env.headings) (here env) t steps.parts) (sym h.has_type) k.fits);
}

pub loaded_fits : (env : Environment) (l : Located) → LocatedFits env l → TypedFits env (loaded l)
loaded_fits env l h = record { has_type = h.has_type; fits = h.fits }
