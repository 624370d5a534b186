-- What a name means at a `when`, if that is a variable of an elementary type, is a variable there, and stays one.
use Rattle.std.proofs.Common.{◌≡◌, ◌⊎◌, ℕ, ◌<◌, Bool, true, false, if◌then◌else◌, List, ◌++◌, length, map, All, Option, Some, None, IsTrue, IsSome, IfSome}
use Rattle.std.proofs.Common.{refl, sym, ap, ◌∙◌, subst, inl, inr, arith, slice_get, length-append}
use Rattle.std.proofs.lemmas.Bool.{false≢true}
use Rattle.std.proofs.lemmas.Option.{get_or_from_slice_get, slice_get_within}
use Rattle.std.proofs.Math.ListN.{get_or-append}
use Rattle.edi_scope.specs.declared.entity.Entity.{Entity}
use Rattle.edi_scope.specs.declared.entity.Entity.TheVariants as entity
use Rattle.edi_scope.specs.Scope.{visible}
use Rattle.edi_unit.specs.declared.units.Parameter.{Parameter}
use Rattle.edi_unit.specs.declared.units.Parameter.TheVariants as slot
use Rattle.edi_unit.specs.Types.{Shape, int, is_elementary, is_elementary_shape}
use Rattle.edi_unit.specs.Need.{block_at, outer, slots, slot_at, slot_type}
use Rattle.edi_unit.specs.Fits.{is_variable, SlotIsKnown}
use Rattle.edi_static.specs.Environment.{Environment, here, steps_to}
use Rattle.edi_static.proofs.Proper.{visible_fits}
use Rattle.edi_static.proofs.Fitness.{headings_of, slot_of, EntitySits, Sits}
use Rattle.edi_static.proofs.FitnessGrowth.{BlockGrows, Steady, get_more, slots_grow, outer_inside, outer_same}
use Rattle.edi_static.proofs.FitnessLater.{Later, chain_inside, steady}
use Rattle.edi_static.proofs.FitnessPlaces.{at_round}
use Rattle.edi_static.proofs.FitnessVariables.{here_inside}
use Rattle.edi_sights.specs.declared.awaits.Await.{Await}
use Rattle.edi_sights.specs.declared.answer.Sighted.{Sighted}
use Rattle.edi_sights.specs.Awaits.{sighted, await_at}
use Rattle.edi_sights.specs.Fits.{IsElementary, IsElementaryIfAny}
use Rattle.edi_sights.proofs.told.Told.{AwaitSits}

-- ---- a variable

typed : (o : Option Parameter) (of : ℕ) → IsTrue (is_variable o) → slot_type o ≡ of → (o ≡ Some (slot.Value of)) ⊎ (o ≡ Some (slot.Var of))
typed None of h e = absurd (false≢true h)
typed (Some (slot.Value t)) of h e = inl (ap (λ u. Some (slot.Value u)) e)
typed (Some (slot.Var t)) of h e = inr (ap (λ u. Some (slot.Var u)) e)
typed (Some (slot.Formal r)) of h e = absurd (false≢true h)

member : {X : Type 0} (P : X → Type 0) (xs : List X) (v : ℕ) (x : X) → All P xs → slice_get xs v ≡ Some x → P x
member P xs v x all e = subst P (get_or_from_slice_get xs v x x e) (all v x (slice_get_within xs v x e))

known_type : (types : List Shape) (ps : List Parameter) (v of : ℕ) → All (SlotIsKnown types) ps →
    ((slice_get ps v ≡ Some (slot.Value of)) ⊎ (slice_get ps v ≡ Some (slot.Var of))) → of < length types
known_type types ps v of all (inl e) = member (SlotIsKnown types) ps v (slot.Value of) all e
known_type types ps v of all (inr e) = member (SlotIsKnown types) ps v (slot.Var of) all e

module _ (env : Environment) (s : Sits env) where
  variable_sits : (b v of : ℕ) → EntitySits env (entity.Variable b v of) → is_elementary env.types of ≡ true →
      IsElementary env.types env.blocks (here env) (record { levels = steps_to b env.around; variable = v })
  variable_sits b v of h e =
      let inside : b < length env.blocks = chain_inside env.blocks env.around b s.nested.chain h.0 in
      let holds : (slot_of env.blocks b v ≡ Some (slot.Value of)) ⊎ (slot_of env.blocks b v ≡ Some (slot.Var of)) = typed (slot_of env.blocks b v) of h.1 h.2 in
      record {
        of = of;
        holds =
            subst (λ n. (slice_get (slots (block_at env.blocks n)) v ≡ Some (slot.Value of)) ⊎ (slice_get (slots (block_at env.blocks n)) v ≡ Some (slot.Var of)))
            (sym (at_round env s b h.0)) holds;
        known = known_type env.types (slots (block_at env.blocks b)) v of (s.stand b inside).known holds;
        elementary = e;
      }

  sighted_sits : (o : Option Entity) → IfSome o (EntitySits env) → IsElementaryIfAny env.types env.blocks (here env) (sighted env o)
  sighted_sits None h = tt
  sighted_sits (Some (entity.Variable b v of)) h = go (is_elementary env.types of) refl
    where
      go : (t : Bool) → is_elementary env.types of ≡ t →
          IsElementaryIfAny env.types env.blocks (here env) (if t then Some (record { levels = steps_to b env.around; variable = v }) else None)
      go true e = variable_sits b v of h e
      go false e = tt
  sighted_sits (Some (entity.Constant of n)) h = tt
  sighted_sits (Some (entity.Types t)) h = tt
  sighted_sits (Some (entity.Procedure b)) h = tt
  sighted_sits (Some (entity.Formal b v shape)) h = tt
  sighted_sits (Some entity.Halt) h = tt

  -- a `when` that is met
  pub met_sits : 0 < length env.around → (name : List ℕ) (line : ℕ) → AwaitSits env.types env.blocks (await_at name line env)
  met_sits inside name line = record {
    there = here_inside env s inside;
    slot_sits = sighted_sits (visible env.scopes name) (visible_fits (EntitySits env) env.scopes name s.names);
  }

-- ---- later

module _ (env next : Environment) (s : Sits env) (l : Later env next) where
  slot_later : (b levels v : ℕ) → b < length env.blocks → (p : Parameter) → slot_at env.blocks b levels v ≡ Some p → slot_at next.blocks b levels v ≡ Some p
  slot_later b levels v h p e =
      let g : Steady env.types l.more env.blocks next.blocks (headings_of env.headings) (headings_of next.headings) b = steady env next s l b h in
      let n : ℕ = outer env.blocks b levels in
      let grows : BlockGrows (block_at env.blocks n) (block_at next.blocks n) =
      l.each n (outer_inside env.types l.more env.blocks next.blocks (headings_of env.headings) (headings_of next.headings) b g levels b h) in
      ap (λ k. slice_get (slots (block_at next.blocks k)) v)
      (outer_same env.types l.more env.blocks next.blocks (headings_of env.headings) (headings_of next.headings) b g levels b h)
      ∙ ap (λ ps. slice_get ps v) (slots_grow (block_at env.blocks n) (block_at next.blocks n) grows)
      ∙ get_more (slots (block_at env.blocks n)) (map slot.Value grows.more) v (subst IsSome (sym e) refl) ∙ e

  elementary_later : (b : ℕ) (o : Option Sighted) → b < length env.blocks → IsElementaryIfAny env.types env.blocks b o → IsElementaryIfAny next.types next.blocks b o
  elementary_later b None h e = tt
  elementary_later b (Some v) h e = record {
    of = e.of;
    holds = either e.holds;
    known = subst (λ ts. e.of < length ts) (sym l.types) (longer env.types l.more e.of e.known);
    elementary = ap (λ ts. is_elementary ts e.of) l.types ∙ ap is_elementary_shape (get_or-append env.types l.more int e.of e.known) ∙ e.elementary;
  }
    where
      longer : (xs ys : List Shape) (n : ℕ) → n < length xs → n < length (xs ++ ys)
      longer xs ys n i = omega (arith, i, length-append xs ys)

      either : ((slot_at env.blocks b v.levels v.variable ≡ Some (slot.Value e.of)) ⊎ (slot_at env.blocks b v.levels v.variable ≡ Some (slot.Var e.of))) →
          ((slot_at next.blocks b v.levels v.variable ≡ Some (slot.Value e.of)) ⊎ (slot_at next.blocks b v.levels v.variable ≡ Some (slot.Var e.of)))
      either (inl i) = inl (slot_later b v.levels v.variable h (slot.Value e.of) i)
      either (inr i) = inr (slot_later b v.levels v.variable h (slot.Var e.of) i)

  pub sits_later : (a : Await) → AwaitSits env.types env.blocks a → AwaitSits next.types next.blocks a
  sits_later a h =
      let there = h.there in
      let wider = l.longer in
      record { there = omega (arith, there, wider); slot_sits = elementary_later a.block a.slot h.there h.slot_sits }

  pub all_later : (awaits : List Await) → All (AwaitSits env.types env.blocks) awaits → All (AwaitSits next.types next.blocks) awaits
  all_later awaits all i d h = sits_later _ (all i d h)
