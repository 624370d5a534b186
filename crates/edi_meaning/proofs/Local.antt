-- A fact that evaluation keeps, and that entering and leaving a block keep, is kept by every local step of a process.
use Rattle.std.proofs.Common.{ℕ, suc, List, [], ◌∷◌, map, refl}
use Rattle.std.specs.Prelude.{nat_lt}
use Rattle.edi_calls.specs.Names.{Name, with_at}
use Rattle.edi_calls.specs.Outcome as outcome
use Rattle.edi_unit.specs.Need.{block_at}
use Rattle.edi_unit.specs.Tree as tree
use Rattle.edi_unit.specs.Tree.{Act, Acts, Clauses, ProgramUnit}
use Rattle.edi_meaning.specs.Store.{Spot, Closure, system_procedure, block_procedure, Cell, procedure, shape, room, grown, shrunk}
use Rattle.edi_meaning.specs.Evaluation.{World, Evaluation, gives, turn}
use Rattle.edi_meaning.specs.Whole.{meant, instance_of}
use Rattle.edi_meaning.specs.Step.{Position, Work, doing, loop_end, procedure_end, branch_end, program_entry, program_end, Standing, ready, at_when, waiting}
use Rattle.edi_meaning.specs.Step.{Asks, chosen, called, statement_step, work_step, attempt, local_step}
use Rattle.edi_meaning.proofs.Lasting.{Every, Any, Lasting, Keeps, At, give, stop, bind, turn_keeps, if_keeps, system_keeps, whole_arguments_keep}
use Rattle.edi_meaning.proofs.Lasting.{whole_assignment_keeps, whole_condition_keeps, whole_first_keeps}

-- T comes of a fact, also where a block is entered, left, or the first one of the program
pub record Moving {unit : ProgramUnit} {p : Name} {size : ℕ} (s : Lasting unit p size) (x : s.Level) (T : World → Type 0) : Type 0 where
  pub stays : (w : World) → s.Holds x w → T w
  pub grows : (number : ℕ) (parent : Spot) (cells : List Cell) (w : World) → s.Fits x (procedure (block_procedure number parent)) → Every (s.Fits x) cells
      → s.Holds x w →
      T (record w { store = grown p (instance_of unit p size number parent cells) w.store })
  pub shrinks : (w : World) → s.Holds x w → T (record w { store = shrunk p w.store })
  pub begins : (w : World) → s.Holds x w →
      T (record w { store = with_at w.store p (instance_of unit p size unit.program ([], 0) (map (λ n. procedure (system_procedure n)) unit.calls) ∷ []) })

-- a standing with work of which no process steps: it waits, or has nothing left to do
abbrev pub IsIdle : Standing → List Work → Type 0
IsIdle ready [] = Unit {0}
IsIdle ready (x ∷ work) = ⊥
IsIdle (at_when cs position) work = ⊥
IsIdle (waiting n) work = Unit {0}

module _ {unit : ProgramUnit} {p : Name} {size : ℕ} (s : Lasting unit p size) (x : s.Level) (T : World → Type 0) (m : Moving s x T) where
  -- how the program ends where such a one would step
  abbrev EndsIdle : Standing → List Work → Type 0
  EndsIdle standing work = IsIdle standing work → (w : World) → s.Holds x w → s.Ends outcome.turns w.system w.turns

  abbrev Leads : Evaluation Asks → Type 0
  Leads r = Keeps s (λ a w. T w) r

  on : (a : Asks) (w : World) → s.Holds x w → Leads (gives a w)
  on a w h = give s _ a w (m.stays w h)

  turn_on : (a : Asks) (w : World) → s.Holds x w → Leads (turn w (gives a))
  turn_on a w h = turn_keeps s x _ w.turns w _ refl h (λ w h. on a w h)

  chosen_keeps : (cs : Clauses) (n : ℕ) (w : World) → s.Holds x w → Keeps s (At s x Any) (chosen unit p size cs n w)
  chosen_keeps tree.no_clause n w h = give s _ _ w (tt, h)
  chosen_keeps (tree.clause_then (tree.clause e as') cs) n w h =
      bind s x Any _ _ _ (whole_condition_keeps s x e w h) (λ holds w _ h. if_keeps s _ holds _ _ (give s _ _ w (tt, h)) (chosen_keeps cs (suc n) w h))

  called_keeps : (c : Closure) (cells : List Cell) (line : ℕ) (work : List Work) (w : World) → s.Fits x (procedure c) → Every (s.Fits x) cells → s.Holds x w
      → Leads (called unit p size c cells line work w)
  called_keeps (system_procedure number) cells line work w c f h = bind s x Any _ _ _ (system_keeps s x number cells line w f h) (λ _ w _ h. on _ w h)
  called_keeps (block_procedure number parent) cells line work w c f h =
      if_keeps s _ (nat_lt (room size (shape w.store p)) (block_at unit.blocks number).need) _ _ (stop s x _ _ w tt h)
      (turn_keeps s x _ w.turns w _ refl h (λ w h. give s _ _ _ (m.grows number parent cells w c f h)))

  statement_keeps : (a : Act) (position : Position) (work : List Work) (w : World) → s.Holds x w → Leads (statement_step unit p size a position work w)
  statement_keeps tree.skip position work w h = on _ w h
  statement_keeps (tree.assign v e) position work w h = bind s x Any _ _ _ (whole_assignment_keeps s x v e w h) (λ _ w _ h. on _ w h)
  statement_keeps (tree.call c es line) position work w h =
      bind s x (Every (s.Fits x)) _ _ _ (whole_arguments_keep s x es w h)
      (λ cells w f h. called_keeps (meant unit p size c w) cells line work w (s.by_procedure x c w h) f h)
  statement_keeps (tree.halt line) position work w h = stop s x _ (outcome.halted line) w tt h
  statement_keeps (tree.if_act cs) position work w h = bind s x Any _ _ _ (chosen_keeps cs 0 w h) (λ c w _ h. on _ w h)
  statement_keeps (tree.while_act cs) position work w h = bind s x Any _ _ _ (chosen_keeps cs 0 w h) (λ c w _ h. on _ w h)
  statement_keeps (tree.when_act cs line) position work w h = turn_on _ w h
  statement_keeps (tree.cobegin bs line) position work w h = on _ w h

  work_keeps : (work : List Work) (w : World) → EndsIdle ready work → s.Holds x w → Leads (work_step unit p size work w)
  work_keeps [] w idle h = record { is = idle tt w h }
  work_keeps (doing a position ∷ work) w idle h = statement_keeps a position work w h
  work_keeps (loop_end cs position ∷ work) w idle h = turn_on _ w h
  work_keeps (procedure_end line ∷ work) w idle h = turn_keeps s x _ w.turns w _ refl h (λ w h. give s _ _ _ (m.shrinks w h))
  work_keeps (branch_end ∷ work) w idle h = turn_on _ w h
  work_keeps (program_entry ∷ work) w idle h = turn_keeps s x _ w.turns w _ refl h (λ w h. give s _ _ _ (m.begins w h))
  work_keeps (program_end ∷ work) w idle h = turn_keeps s x _ w.turns w _ refl h (λ w h. stop s x _ outcome.done w tt h)

  attempt_keeps : (cs : Clauses) (position : Position) (work : List Work) (w : World) → s.Holds x w → Leads (attempt unit p size cs position work w)
  attempt_keeps cs position work w h =
      bind s x Any _ _ _ (whole_first_keeps s x cs w h) (λ ran w _ h. if_keeps s _ ran _ _ (on _ w h) (turn_on _ w h))

  pub local_keeps : (standing : Standing) (work : List Work) (w : World) → EndsIdle standing work → s.Holds x w → Leads (local_step unit p size standing work w)
  local_keeps ready work w idle h = work_keeps work w idle h
  local_keeps (at_when cs position) work w idle h = attempt_keeps cs position work w h
  local_keeps (waiting n) work w idle h = record { is = idle tt w h }
