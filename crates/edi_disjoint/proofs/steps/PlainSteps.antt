-- A step with a plain text keeps to itself, where it goes on.
use Rattle.std.proofs.Common.{◌≡◌, ◌⊎◌, inl, inr, ℕ, Bool, true, false, if◌then◌else◌, List, [], ◌∷◌, ◌++◌, Option, Some, refl, sym, ap}
use Rattle.std.proofs.Common.{subst, ◌∙◌}
use Rattle.std.specs.Prelude.{⊤, nat_lt, slice_index_or}
use Rattle.edi_calls.specs.declared.kinds.Cause.TheVariants as cause
use Rattle.edi_calls.specs.Names.{Name, same, find}
use Rattle.edi_calls.specs.Outcome.{Ending}
use Rattle.edi_calls.specs.Ready.{Next, stays}
use Rattle.edi_calls.specs.State.{Traced}
use Rattle.edi_calls.proofs.Tables.{same-refl, same-or-other}
use Rattle.edi_unit.specs.declared.expressions.Callee.TheVariants as callee
use Rattle.edi_unit.specs.Need.{block_at}
use Rattle.edi_unit.specs.Values.{Value}
use Rattle.edi_unit.specs.Tree.{Expression, Place, Arguments, Act, Acts, Clauses, skip, assign, call, halt, if_act, while_act, when_act, cobegin, ProgramUnit}
use Rattle.edi_meaning.specs.Parts.{with_part}
use Rattle.edi_meaning.specs.Store.{Spot, Location, block_procedure, Cell, value, Instance, Frame, instances, shape, cells_in, with_cell_in, no_cell, value_in, put}
use Rattle.edi_meaning.specs.Store.{reached, now, room, grown}
use Rattle.edi_meaning.specs.Evaluation.{World, Evaluation, gives, ends, ◌>>=◌, fails, turn}
use Rattle.edi_meaning.specs.Whole.{Designated, instance_of, designated, expression, arguments, below}
use Rattle.edi_meaning.specs.Step.{Position, ready, Work, doing, loop_end, procedure_end, branch_end, program_entry, program_end, Asks, goes, body_of, with_chosen}
use Rattle.edi_meaning.specs.Step.{chosen, called, Process, Processes, went, ended, kernel, local_step, statement_step, work_step, step_of, step}
use Rattle.edi_meaning.specs.Permitted.{is_running}
use Rattle.edi_meaning.proofs.Dangling.{permitted_coherent}
use Rattle.edi_meaning.proofs.Own.{Owned, owns_self, instances-same, instances-other}
use Rattle.edi_disjoint.specs.Leaves.{assigns, ExpressionMay, PlaceMay, ArgumentsMay}
use Rattle.edi_disjoint.specs.steps.Own.{FindsSame, KeepsToItself}
use Rattle.edi_disjoint.specs.steps.Plain.{plain, ConditionsMay, IsPlainAct, IsPlain, PlainStepsKeep}
use Rattle.edi_disjoint.proofs.steps.Leading.{finds_itself}
use Rattle.edi_disjoint.proofs.steps.Plain.{Alike, Pairs, same_here, chosen_pairs, designated_pairs, expression_pairs, arguments_pairs}
use Rattle.edi_disjoint.proofs.steps.Textless.{as_before, at_once, in_a_turn}

abbrev IsEnd : {A : Type 0} → Evaluation A → Type 0
IsEnd (gives a w) = ⊥
IsEnd (ends e system turns) = ⊤

module _ (unit : ProgramUnit) (s : Processes) (p : Name) (q : Process) (found : find s.live p ≡ Some q) (standing : q.standing ≡ ready) (owned : Owned s.world.store)
    (after : Processes) (n : Next) (quiet : Bool) (step_goes : step unit s p ≡ went after n quiet) where
  -- ---- what two evaluations give

  module _ {A : Type 0} (V : A → Type 0) where
    -- what the first gives, which does not end the program
    gave : (f : FindsSame p s s) (r : Evaluation A) → Pairs unit p q.size s.world s.world owned f.own f.frames f.references V r r → (IsEnd r → ⊥) → (a : A) × (r ≡ gives a s.world) × V a
    gave f (gives a v) h lasts = (a, ap (gives a) h.is.1, h.is.3)
    gave f (ends e system turns) h lasts = absurd (lasts tt)

    -- the second gives the same
    gives_too : (t : Processes) (f : FindsSame p s t) (r r' : Evaluation A) → Pairs unit p q.size s.world t.world owned f.own f.frames f.references V r r' → (a : A) →
        r ≡ gives a s.world → r' ≡ gives a t.world
    gives_too t f r r' h a e = go r' (subst (λ x. Alike unit p q.size s.world t.world owned f.own f.frames f.references V x r') e h.is)
      where
        go : (x : Evaluation A) → Alike unit p q.size s.world t.world owned f.own f.frames f.references V (gives a s.world) x → x ≡ gives a t.world
        go (gives b z) k = ap (λ c. gives c z) (sym k.0) ∙ ap (gives a) k.2
        go (ends e system turns) k = absurd k

    -- the step goes on, so what it begins with does not end the program
    not_ended : (f : Evaluation A → Evaluation Asks) → ((e : Ending) (system : Traced) (turns : ℕ) → f (ends e system turns) ≡ ends e system turns) →
        (r : Evaluation A) → kernel unit s p q (f r) ≡ went after n quiet → IsEnd r → ⊥
    not_ended f h (gives a w) e i = i
    not_ended f h (ends ending system turns) e i = impossible (sym (ap (kernel unit s p q) (h ending system turns)) ∙ e)
      where
        impossible : ended ending system turns ≡ went after n quiet → ⊥
        impossible g = cc

  myself : FindsSame p s s
  myself = finds_itself p s

  runs : is_running q.standing ≡ true
  runs = ap is_running standing

  -- the step is that of its first piece of work
  module _ (a : Act) (position : Position) (work : List Work) (is : q.work ≡ (doing a position ∷ work)) where
    local_is : (w : World) → local_step unit p q.size q.standing q.work w ≡ statement_step unit p q.size a position work w
    local_is w = ap (λ x. local_step unit p q.size x q.work w) standing ∙ ap (λ x. work_step unit p q.size x w) is

    goes_on : kernel unit s p q (statement_step unit p q.size a position work s.world) ≡ went after n quiet
    goes_on = sym (ap (step_of unit s p) found ∙ ap (kernel unit s p q) (local_is s.world)) ∙ step_goes

  -- ---- an assignment

  module _ (l : Location) (x : Value) (mine : l.spot.0 ≡ p) where
    abbrev written : List Instance → List Instance
    written is = with_cell_in is l.spot.1 l.variable (value (with_part (value_in (slice_index_or (cells_in is l.spot.1) l.variable no_cell)) l.path x))

    put_alone : (t : Processes) → FindsSame p s t → (m : ℕ) (r : Name) →
        instances (put t.world.store l x) r ≡ (if same r p then written (instances s.world.store p) else instances t.world.store r)
    put_alone t f m r = go (same-or-other r p)
      where
        go : (r ≡ p) ⊎ (same r p ≡ false) →
            instances (put t.world.store l x) r ≡ (if same r p then written (instances s.world.store p) else instances t.world.store r)
        go (inl e) =
            ap (instances (put t.world.store l x)) (e ∙ sym mine) ∙ instances-same t.world.store l.spot.0 (written (instances t.world.store l.spot.0))
            ∙ ap written (ap (instances t.world.store) mine ∙ f.own)
            ∙ sym (ap (λ b. if b then written (instances s.world.store p) else instances t.world.store r) (ap (λ z. same z p) e ∙ same-refl p))
        go (inr m) =
            instances-other t.world.store l.spot.0 r (written (instances t.world.store l.spot.0)) (ap (same r) mine ∙ m)
            ∙ sym (ap (λ b. if b then written (instances s.world.store p) else instances t.world.store r) m)

  assign_keeps : (v : Place) (e : Expression) (position : Position) (work : List Work) → q.work ≡ (doing (assign v e) position ∷ work) →
      PlaceMay (plain s.world.store p) assigns v → ExpressionMay (plain s.world.store p) e → KeepsToItself unit s p
  assign_keeps v e position work is place may = go d x
    where
      of_place : (World → Evaluation Value) → Evaluation Designated → Evaluation Asks
      of_place later m =
          m >>= (λ d w. later w >>= λ x w. gives (tt {0}) (record w { store = put w.store d.at x })) >>= λ _ w. gives (goes work) w

      of_value : Designated → Evaluation Value → Evaluation Asks
      of_value d m = m >>= (λ x w. gives (tt {0}) (record w { store = put w.store d.at x })) >>= λ _ w. gives (goes work) w

      place_in : (t : Processes) → Evaluation Designated
      place_in t = designated unit p q.size (below unit p q.size t.world) v t.world

      value_in_state : (t : Processes) → Evaluation Value
      value_in_state t = expression unit p q.size (below unit p q.size t.world) e t.world

      on : kernel unit s p q (of_place (λ w. expression unit p q.size (below unit p q.size s.world) e w) (place_in s)) ≡ went after n quiet
      on = goes_on (assign v e) position work is

      d : (d : Designated) × (place_in s ≡ gives d s.world) × (d.at.spot.0 ≡ p)
      d = gave (λ d. d.at.spot.0 ≡ p) myself (place_in s)
          (designated_pairs unit p q.size s.world s.world owned myself.own myself.frames myself.references (below unit p q.size s.world) (below unit p q.size s.world) assigns v place)
          (not_ended (λ d. d.at.spot.0 ≡ p) (of_place (λ w. expression unit p q.size (below unit p q.size s.world) e w)) (λ e system turns. refl) (place_in s) on)

      x : (x : Value) × (value_in_state s ≡ gives x s.world) × ⊤
      x = gave (λ x. ⊤) myself (value_in_state s)
          (expression_pairs unit p q.size s.world s.world owned myself.own myself.frames myself.references (below unit p q.size s.world) (below unit p q.size s.world) e may)
          (not_ended (λ x. ⊤) (of_value d.0) (λ e system turns. refl) (value_in_state s)
          (sym (ap (λ m. kernel unit s p q (of_place (λ w. expression unit p q.size (below unit p q.size s.world) e w) m)) d.1) ∙ on))

      go : (d : Designated) × (place_in s ≡ gives d s.world) × (d.at.spot.0 ≡ p) → (x : Value) × (value_in_state s ≡ gives x s.world) × ⊤ → KeepsToItself unit s p
      go d x =
          at_once unit s p q (record q { work = work; standing = ready }) found (written d.0.at x.0 d.2 (instances s.world.store p)) stays
          (λ w. record w { store = put w.store d.0.at x.0 }) (λ w. refl) (λ w. refl) (put_alone d.0.at x.0 d.2) (goes work) (λ t w. refl) runs
          (λ t f. local_is (assign v e) position work is t.world
          ∙ ap (of_place (λ w. expression unit p q.size (below unit p q.size t.world) e w))
          (gives_too (λ d. d.at.spot.0 ≡ p) t f (place_in s) (place_in t)
          (designated_pairs unit p q.size s.world t.world owned f.own f.frames f.references (below unit p q.size s.world) (below unit p q.size t.world) assigns v place) d.0 d.1)
          ∙ ap (of_value d.0)
          (gives_too (λ x. ⊤) t f (value_in_state s) (value_in_state t)
          (expression_pairs unit p q.size s.world t.world owned f.own f.frames f.references (below unit p q.size s.world) (below unit p q.size t.world) e may) x.0 x.1))

  -- ---- a choice

  choice_keeps : (a : Act) (cs : Clauses) (position : Position) (work : List Work) (then_work : Option (Acts × ℕ) → List Work) → q.work ≡ (doing a position ∷ work) →
      ((w : World) → statement_step unit p q.size a position work w ≡ (chosen unit p q.size cs 0 w >>= λ c w. gives (goes (then_work c)) w)) →
      ConditionsMay (plain s.world.store p) cs → KeepsToItself unit s p
  choice_keeps a cs position work then_work is same_step may = go c
    where
      of_choice : Evaluation (Option (Acts × ℕ)) → Evaluation Asks
      of_choice m = m >>= λ c w. gives (goes (then_work c)) w

      c : (c : Option (Acts × ℕ)) × (chosen unit p q.size cs 0 s.world ≡ gives c s.world) × ⊤
      c = gave (λ c. ⊤) myself (chosen unit p q.size cs 0 s.world) (chosen_pairs unit p q.size s.world s.world owned myself.own myself.frames myself.references cs 0 may)
          (not_ended (λ c. ⊤) of_choice (λ e system turns. refl) (chosen unit p q.size cs 0 s.world)
          (sym (ap (kernel unit s p q) (same_step s.world)) ∙ goes_on a position work is))

      go : (c : Option (Acts × ℕ)) × (chosen unit p q.size cs 0 s.world ≡ gives c s.world) × ⊤ → KeepsToItself unit s p
      go c =
          at_once unit s p q (record q { work = then_work c.0; standing = ready }) found (instances s.world.store p) stays (λ w. w) (λ w. refl) (λ w. refl)
          (as_before unit s p q found) (goes (then_work c.0)) (λ t w. refl) runs
          (λ t f. local_is a position work is t.world ∙ same_step t.world
          ∙ ap of_choice
          (gives_too (λ c. ⊤) t f (chosen unit p q.size cs 0 s.world) (chosen unit p q.size cs 0 t.world)
          (chosen_pairs unit p q.size s.world t.world owned f.own f.frames f.references cs 0 may) c.0 c.1))

  -- ---- a call of a procedure by its name

  module _ (number : ℕ) (parent : Spot) (cells : List Cell) where
    grown_alone : (t : Processes) → FindsSame p s t → (m : ℕ) (r : Name) →
        instances (grown p (instance_of unit p q.size number parent cells) t.world.store) r
        ≡ (if same r p then instances s.world.store p ++ instance_of unit p q.size number parent cells ∷ [] else instances t.world.store r)
    grown_alone t f m r = go (same-or-other r p)
      where
        longer : List Instance → List Instance
        longer is = is ++ instance_of unit p q.size number parent cells ∷ []

        go : (r ≡ p) ⊎ (same r p ≡ false) →
            instances (grown p (instance_of unit p q.size number parent cells) t.world.store) r
            ≡ (if same r p then longer (instances s.world.store p) else instances t.world.store r)
        go (inl e) =
            ap (instances (grown p (instance_of unit p q.size number parent cells) t.world.store)) e
            ∙ instances-same t.world.store p (longer (instances t.world.store p)) ∙ ap longer f.own
            ∙ sym (ap (λ b. if b then longer (instances s.world.store p) else instances t.world.store r) (ap (λ z. same z p) e ∙ same-refl p))
        go (inr m) =
            instances-other t.world.store p r (longer (instances t.world.store p)) m
            ∙ sym (ap (λ b. if b then longer (instances s.world.store p) else instances t.world.store r) m)

  call_keeps : (levels number : ℕ) (es : Arguments) (line : ℕ) (position : Position) (work : List Work) →
      q.work ≡ (doing (call (callee.Block levels number) es line) position ∷ work) → ArgumentsMay (plain s.world.store p) es → KeepsToItself unit s p
  call_keeps levels number es line position work is may = go cells (nat_lt (room q.size (shape s.world.store p)) (block_at unit.blocks number).need) refl
    where
      parent : World → Spot
      parent w = reached (shape w.store) levels (now (shape w.store) p)

      -- what is left of the step where the arguments are there
      later : List Cell → World → Evaluation Asks
      later cells w = called unit p q.size (block_procedure number (parent w)) cells line work w

      of_cells : Evaluation (List Cell) → Evaluation Asks
      of_cells m = m >>= later

      cells_in_state : (t : Processes) → Evaluation (List Cell)
      cells_in_state t = arguments unit p q.size (below unit p q.size t.world) es t.world

      on : kernel unit s p q (of_cells (cells_in_state s)) ≡ went after n quiet
      on = goes_on (call (callee.Block levels number) es line) position work is

      cells : (cells : List Cell) × (cells_in_state s ≡ gives cells s.world) × ⊤
      cells = gave (λ c. ⊤) myself (cells_in_state s)
          (arguments_pairs unit p q.size s.world s.world owned myself.own myself.frames myself.references (below unit p q.size s.world) (below unit p q.size s.world) es may)
          (not_ended (λ c. ⊤) of_cells (λ e system turns. refl) (cells_in_state s) on)

      -- the call, where there is room or not
      entered_if : Bool → Spot → List Cell → World → Evaluation Asks
      entered_if b above cells w =
          if b then fails cause.VariableLimit line w
          else turn w (λ w. gives (goes (body_of unit number (procedure_end line ∷ work)))
          (record w { store = grown p (instance_of unit p q.size number above cells) w.store }))

      go : (c : (cells : List Cell) × (cells_in_state s ≡ gives cells s.world) × ⊤) → (b : Bool) →
          nat_lt (room q.size (shape s.world.store p)) (block_at unit.blocks number).need ≡ b → KeepsToItself unit s p
      go c true full = absurd (impossible (ap (λ b. kernel unit s p q (entered_if b (parent s.world) c.0 s.world)) (sym full)
          ∙ sym (ap (λ m. kernel unit s p q (of_cells m)) c.1) ∙ on))
        where
          impossible : kernel unit s p q (entered_if true (parent s.world) c.0 s.world) ≡ went after n quiet → ⊥
          impossible g = cc
      go c false some =
          in_a_turn unit s p q (record q { work = body_of unit number (procedure_end line ∷ work); standing = ready }) found
          (instances s.world.store p ++ instance_of unit p q.size number (parent s.world) c.0 ∷ []) stays
          (λ w. record w { store = grown p (instance_of unit p q.size number (parent s.world) c.0) w.store }) (λ w. refl) (λ w. refl)
          (grown_alone number (parent s.world) c.0) (goes (body_of unit number (procedure_end line ∷ work))) (λ t w. refl) runs
          (λ t f. local_is (call (callee.Block levels number) es line) position work is t.world
          ∙ ap of_cells
          (gives_too (λ c. ⊤) t f (cells_in_state s) (cells_in_state t)
          (arguments_pairs unit p q.size s.world t.world owned f.own f.frames f.references (below unit p q.size s.world) (below unit p q.size t.world) es may) c.0 c.1)
          ∙ ap (λ (z : Spot). entered_if (nat_lt (room q.size (shape t.world.store p)) (block_at unit.blocks number).need) z c.0 t.world)
          (same_here unit p q.size s.world t.world owned f.own f.frames f.references levels)
          ∙ ap (λ (b : Bool). entered_if b (parent s.world) c.0 t.world)
          (ap (λ (fs : List Frame). nat_lt (room q.size fs) (block_at unit.blocks number).need) (f.frames p (owns_self p)) ∙ some))

  -- ---- each

  act_keeps : (a : Act) (position : Position) (work : List Work) → q.work ≡ (doing a position ∷ work) → IsPlainAct (plain s.world.store p) a → KeepsToItself unit s p
  act_keeps skip position work is h = absurd h
  act_keeps (assign v e) position work is h = assign_keeps v e position work is h.0 h.1
  act_keeps (call (callee.Block levels number) es line) position work is h = call_keeps levels number es line position work is h.1
  act_keeps (call (callee.Formal levels variable) es line) position work is h = absurd h.0
  act_keeps (halt line) position work is h = absurd h
  act_keeps (if_act cs) position work is h =
      choice_keeps (if_act cs) cs position work (λ c. with_chosen position c [] work) is (λ w. refl) h
  act_keeps (while_act cs) position work is h =
      choice_keeps (while_act cs) cs position work (λ c. with_chosen position c (loop_end cs position ∷ []) work) is (λ w. refl) h
  act_keeps (when_act cs line) position work is h = absurd h
  act_keeps (cobegin bs line) position work is h = absurd h

  work_keeps : (work : List Work) → q.work ≡ work → IsPlain (plain s.world.store p) work → KeepsToItself unit s p
  work_keeps [] is h = absurd h
  work_keeps (doing a position ∷ work) is h = act_keeps a position work is h
  work_keeps (loop_end cs position ∷ work) is h = absurd h
  work_keeps (procedure_end line ∷ work) is h = absurd h
  work_keeps (branch_end ∷ work) is h = absurd h
  work_keeps (program_entry ∷ work) is h = absurd h
  work_keeps (program_end ∷ work) is h = absurd h

pub plain_steps_keep : PlainStepsKeep
plain_steps_keep unit system bound order s p q after n quiet comes found standing may e =
    work_keeps unit s p q found standing (permitted_coherent unit system bound order s comes).family.proper.owned after n quiet e q.work refl may
