-- What names mean at a place, and the blocks round it.
use Rattle.std.proofs.Common.{◌≡◌, ℕ, suc, ◌+◌, ◌<◌, Bool, true, false, ◌||◌, ◌==◌, if◌then◌else◌, List, [], ◌∷◌, length, Option, Some, None, IsTrue, IfSome}
use Rattle.std.proofs.Common.{refl, ap, ◌∙◌, arith}
use Rattle.std.proofs.lemmas.Bool.{eqb-true, false≢true}
use Rattle.std.specs.Prelude.{slice_index_or}
use Rattle.edi_scope.specs.declared.entity.Entity.{Entity}
use Rattle.edi_scope.specs.Scope.{visible}
use Rattle.edi_tree.specs.declared.names.Name.{Name}
use Rattle.edi_unit.specs.Tree.{Block}
use Rattle.edi_unit.specs.Need.{block_at, outer}
use Rattle.edi_unit.specs.Headings.{Heading, heading, Formals, no_formal, value_then, variable_then, procedure_then, heading_result, heading_formals}
use Rattle.edi_unit.specs.Fits.{formals_from, first_parameter, block_heading}
use Rattle.edi_static.specs.Environment.{Environment, found, look_up, steps_to, heading_at, parameters_of}
use Rattle.edi_static.proofs.Judging.{Gives}
use Rattle.edi_static.proofs.Proper.{visible_fits}
use Rattle.edi_static.proofs.Fitness.{asked_at, variable_heading, headings_of, is_round, EntitySits, StandsIn, IsChain, Sits}

-- ---- used names

found_sits : (P : Entity → Type 0) (o : Option Entity) (name : Name) → IfSome o P → Gives P (found o name)
found_sits P None name h = tt
found_sits P (Some e) name h = h

pub look_up_sits : (env : Environment) → Sits env → (name : Name) → Gives (EntitySits env) (look_up env name)
look_up_sits env s name =
    found_sits (EntitySits env) (visible env.scopes name.text) name (visible_fits (EntitySits env) env.scopes name.text s.names)

-- ---- blocks round the place

-- so many steps out from the innermost of these blocks stands one of them
step_out : (blocks : List Block) (a b : ℕ) (around : List ℕ) (same : Bool) → (a == b) ≡ same → StandsIn blocks a around → (same || is_round b around) ≡ true
    → (is_round b around ≡ true → outer blocks (slice_index_or around 0 0) (steps_to b around) ≡ b)
    → outer blocks a (if same then 0 else suc (steps_to b around)) ≡ b
step_out blocks a b around true e stands inside rest = eqb-true a b e
step_out blocks a b [] false e stands inside rest = absurd (false≢true inside)
step_out blocks a b (c ∷ around) false e stands inside rest = ap (λ n. outer blocks n (steps_to b (c ∷ around))) stands ∙ rest inside

pub outer_round : (blocks : List Block) (around : List ℕ) (b : ℕ) → IsChain blocks around → IsTrue (is_round b around)
    → outer blocks (slice_index_or around 0 0) (steps_to b around) ≡ b
outer_round blocks [] b chain inside = absurd (false≢true inside)
outer_round blocks (a ∷ around) b chain inside = step_out blocks a b around (a == b) refl chain.1 inside (outer_round blocks around b chain.2)

nearer : (same inside : Bool) (k n : ℕ) → (same || inside) ≡ true → (inside ≡ true → k < n) → (if same then 0 else suc k) < suc n
nearer true inside k n e h = omega arith
nearer false inside k n e h = omega (arith, h e)

pub steps_near : (around : List ℕ) (b : ℕ) → IsTrue (is_round b around) → steps_to b around < length around
steps_near [] b inside = absurd (false≢true inside)
steps_near (a ∷ around) b inside = nearer (a == b) (is_round b around) (steps_to b around) (length around) inside (steps_near around b)

-- ---- headings of blocks

-- the heading of a variable, where the parameters are numbered from so many on
pub further : (of asked : ℕ → Heading) (n : ℕ) → ((v : ℕ) → of (v + n) ≡ asked v) → (v : ℕ) → of (v + suc n) ≡ asked (suc v)
further of asked n h v = let e : v + suc n ≡ suc v + n = omega arith in ap of e ∙ h (suc v)

pub numbered : (h : Heading) (v : ℕ) → variable_heading h (v + first_parameter (heading_result h)) ≡ asked_at (heading_formals h) v
numbered (heading fs None) v = let e : v + 0 ≡ v = omega arith in ap (asked_at fs) e
numbered (heading fs (Some t)) v = let e : v + 1 ≡ suc v = omega arith in ap (variable_heading (heading fs (Some t))) e

-- the formals of a block are those of its heading
formals_are : (of : ℕ → Heading) (n : ℕ) (fs : Formals) → ((v : ℕ) → of (v + n) ≡ asked_at fs v) → formals_from of n (parameters_of fs) ≡ fs
formals_are of n no_formal h = refl
formals_are of n (value_then t fs) h = ap (value_then t) (formals_are of (suc n) fs (further of (asked_at (value_then t fs)) n h))
formals_are of n (variable_then t fs) h = ap (variable_then t) (formals_are of (suc n) fs (further of (asked_at (variable_then t fs)) n h))
formals_are of n (procedure_then g fs) h =
    let e : n ≡ 0 + n = omega arith in
    ap (λ asks. procedure_then asks (formals_from of (suc n) (parameters_of fs))) (ap of e ∙ h 0)
    ∙ ap (procedure_then g) (formals_are of (suc n) fs (further of (asked_at (procedure_then g fs)) n h))

heading_again : (h : Heading) → heading (formals_from (variable_heading h) (first_parameter (heading_result h)) (parameters_of (heading_formals h)))
    (heading_result h) ≡ h
heading_again (heading fs r) =
    ap (λ gs. heading gs r) (formals_are (variable_heading (heading fs r)) (first_parameter r) fs (numbered (heading fs r)))

pub heading_is : (env : Environment) → Sits env → (n : ℕ) → n < length env.blocks → block_heading (headings_of env.headings) env.blocks n ≡ heading_at
    env.headings n
heading_is env s n lt =
    let stands = s.stand n lt in
    ap (λ r. heading (formals_from (headings_of env.headings n) (first_parameter r) (block_at env.blocks n).parameters) r) stands.result
    ∙ ap (λ ps. heading (formals_from (headings_of env.headings n) (first_parameter (heading_result (heading_at env.headings n))) ps)
    (heading_result (heading_at env.headings n))) stands.parameters
    ∙ heading_again (heading_at env.headings n)
