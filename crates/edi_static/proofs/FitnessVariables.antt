-- Declared variables keep what holds of an environment.
use Rattle.std.proofs.Common.{◌≡◌, ℕ, zero, suc, ◌+◌, ◌<◌, Bool, true, false, ◌||◌, ◌&&◌, ◌==◌, if◌then◌else◌, List, [], ◌∷◌, ◌++◌, length, get_or, set, map}
use Rattle.std.proofs.Common.{All, Option, Some, None, IsTrue, is_some, refl, sym, ap, ◌∙◌, subst, arith, length-append}
use Rattle.std.specs.Prelude.{slice_get}
use Rattle.std.proofs.lemmas.Bool.{false≢true}
use Rattle.std.proofs.lemmas.Bool.Decides.{Decides-eqb}
use Rattle.std.proofs.lemmas.List.{get_or-set_same}
use Rattle.std.proofs.lemmas.List.Elements.{All-push}
use Rattle.edi_scope.specs.declared.entity.Entity.TheVariants as entity
use Rattle.edi_scope.specs.Scope.{declared, outside}
use Rattle.edi_tree.specs.declared.names.Name.{Name}
use Rattle.edi_tree.specs.Tree as text
use Rattle.edi_unit.specs.declared.units.Parameter.{Parameter}
use Rattle.edi_unit.specs.declared.units.Parameter.TheVariants as slot
use Rattle.edi_unit.specs.declared.units.BlockKind.{BlockKind}
use Rattle.edi_unit.specs.declared.units.BlockKind.TheVariants as block_kind
use Rattle.edi_unit.specs.Tree.{Block}
use Rattle.edi_unit.specs.Need.{no_block, block_at, slots, slot_type}
use Rattle.edi_unit.specs.Fits.{is_variable, is_called, KindFits, SlotIsKnown}
use Rattle.edi_static.specs.declared.faults.StaticKind.{StaticKind}
use Rattle.edi_static.specs.declared.faults.StaticKind.TheVariants as kind
use Rattle.edi_static.specs.Judged.{Judged, gives, faults, ◌>>=◌}
use Rattle.edi_static.specs.Environment.{Environment, here, next_variable, with_variable, set_block, declare, type_named}
use Rattle.edi_static.specs.Types.{variable_decl, variables_named, variables_of_group, variables_of_groups, var_list}
use Rattle.edi_static.proofs.Judging.{Gives, bind, weaker}
use Rattle.edi_static.proofs.Fitness.{is_round, slot_of, IsChain, EntitySits, Sits}
use Rattle.edi_static.proofs.FitnessGrowth.{BlockGrows, slots_grow}
use Rattle.edi_static.proofs.FitnessOnward.{Onward, onward_then, onward_same, declare_onward, set_onward}
use Rattle.edi_static.proofs.FitnessTypes.{go_on, type_sits_named}

-- a place where variables can be declared: it is inside a block, which is no branch
pub record Ready (env : Environment) : Type 0 where
  pub inside : 0 < length env.around
  pub called : IsTrue (is_called (block_at env.blocks (here env)).kind)
  pub scoped : 0 < length env.scopes

in_chain : (blocks : List Block) (around : List ℕ) → 0 < length around → IsChain blocks around → get_or around 0 0 < length blocks
in_chain blocks [] h c = absurd (omega (arith, h))
in_chain blocks (b ∷ around) h c = c.0

pub here_inside : (env : Environment) → Sits env → 0 < length env.around → here env < length env.blocks
here_inside env s h = in_chain env.blocks env.around h s.nested.chain

pub here_round : (around : List ℕ) → 0 < length around → is_round (get_or around 0 0) around ≡ true
here_round [] h = absurd (omega (arith, h))
here_round (b ∷ around) h = ap (λ e. e || is_round b around) ((Decides-eqb b b).1 refl)

pub ready_later : (m : Bool) (env next : Environment) → Sits env → Onward m env next → Ready env → Ready next
ready_later m env next s o r =
    let l = o.later in
    record {
      inside = subst (λ a. 0 < length a) (sym o.around) r.inside;
      called =
          ap (λ a. is_called (block_at next.blocks (get_or a 0 0)).kind) o.around
          ∙ ap is_called (l.each (here env) (here_inside env s r.inside)).kind ∙ r.called;
      scoped = subst (λ n. 0 < n) (sym o.scopes) r.scoped;
    }

-- ---- a variable

-- the block may be changed before the name is declared
changed : (b : Bool) (why : StaticKind) (line : ℕ) (f : Environment → Environment) (x y : Environment) → f x ≡ y
    → ((if b then faults why line else gives x) >>= λ e. gives (f e)) ≡ (if b then faults why line else gives y)
changed true why line f x y e = refl
changed false why line f x y e = ap gives e

abbrev one_variable : ℕ → Environment → Environment
one_variable of env = set_block (here env) (with_variable of (block_at env.blocks (here env))) env

variable_steps : (m : Bool) (of : ℕ) (name : Name) (env : Environment) →
    variable_decl m of name env ≡ declare m name (entity.Variable (here env) (next_variable env) of) (one_variable of env)
variable_steps m of name env =
    changed (is_some (declared env.scopes name.text) || (m && is_some (declared (outside env.scopes) name.text))) kind.Ambiguous name.line (one_variable of) _
    _ refl

last_slot : {X : Type 0} (xs : List X) (x : X) → slice_get (xs ++ x ∷ []) (length xs) ≡ Some x
last_slot [] x = refl
last_slot (y ∷ xs) x = last_slot xs x

abbrev grows : (of : ℕ) (b : Block) → BlockGrows b (with_variable of b)
grows of b = record { kind = refl; up = refl; result = refl; parameters = refl; more = of ∷ []; variables = refl }

kind_fits : (k : BlockKind) (n of : ℕ) (b : Block) → IsTrue (is_called k) → KindFits k n b → KindFits k n (with_variable of b)
kind_fits block_kind.Program n of b c h = h
kind_fits block_kind.Procedure n of b c h = h
kind_fits block_kind.Function n of b c h = h
kind_fits block_kind.Branch n of b c h = absurd (false≢true c)

variable_onward : (m : Bool) (of : ℕ) (name : Name) (env : Environment) → Sits env → Ready env → of < length env.types
    → Gives (Onward m env) (variable_decl m of name env)
variable_onward m of name env s r known =
    let at : ℕ = here env in
    let b : Block = block_at env.blocks at in
    let next : Environment = one_variable of env in
    let inside : at < length env.blocks = here_inside env s r.inside in
    let stands = s.stand at inside in
    let round : is_round at env.around ≡ true = here_round env.around r.inside in
    let slots_are : slots (with_variable of b) ≡ slots b ++ slot.Value of ∷ [] = slots_grow b (with_variable of b) (grows of b) in
    let o : Onward m env next =
    set_onward m at (with_variable of b) env s inside round (grows of b) (kind_fits b.kind at of b r.called stands.fits_kind)
    (subst (All (SlotIsKnown env.types)) (sym slots_are) (All-push (SlotIsKnown env.types) (slots b) (slot.Value of) stands.known known))
    stands.statements in
    let new : slot_of next.blocks at (length (slots b)) ≡ Some (slot.Value of) =
    ap (λ x. slice_get (slots x) (length (slots b))) (get_or-set_same env.blocks at (with_variable of b) no_block inside)
    ∙ ap (λ ps. slice_get ps (length (slots b))) slots_are ∙ last_slot (slots b) (slot.Value of) in
    subst (Gives (Onward m env)) (sym (variable_steps m of name env))
    (weaker (Onward m next) (Onward m env) (declare m name (entity.Variable at (next_variable env) of) next) (λ e g. onward_then m env next e o g)
    (declare_onward m name (entity.Variable at (next_variable env) of) next o.sits (round, ap is_variable new, ap slot_type new)))

named_onward : (m : Bool) (of : ℕ) (ns : text.Names) (env : Environment) → Sits env → Ready env → of < length env.types
    → Gives (Onward m env) (variables_named m of ns env)
named_onward m of text.no_name env s r known = onward_same m env s
named_onward m of (text.next_name name ns) env s r known =
    go_on m env _ _ (variable_onward m of name env s r known) (λ e o.
    let l = o.later in
    named_onward m of ns e o.sits (ready_later m env e s o r)
    (subst (λ ts. of < length ts) (sym l.types) (omega (arith, known, length-append env.types l.more))))

group_onward : (m : Bool) (g : text.Group) (env : Environment) → Sits env → Ready env → Gives (Onward m env) (variables_of_group m g env)
group_onward m (text.group first names of) env s r =
    bind (λ t. t < length env.types) (Onward m env) (type_named env of) _ (type_sits_named env s of) (λ t known.
    named_onward m t (text.next_name first names) env s r known)

groups_onward : (m : Bool) (gs : text.Groups) (env : Environment) → Sits env → Ready env → Gives (Onward m env) (variables_of_groups m gs env)
groups_onward m text.no_group env s r = onward_same m env s
groups_onward m (text.next_group g gs) env s r =
    go_on m env _ _ (group_onward m g env s r) (λ e o. groups_onward m gs e o.sits (ready_later m env e s o r))

pub var_onward : (m : Bool) (vs : text.VarList) (env : Environment) → Sits env → Ready env → Gives (Onward m env) (var_list m vs env)
var_onward m (text.var_list first more) env s r = groups_onward m (text.next_group first more) env s r
