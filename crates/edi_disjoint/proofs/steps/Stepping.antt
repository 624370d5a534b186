-- Two local steps of one process with the same work, in two worlds: the second asks for what the first asks for, or ends the program as it does.
use Rattle.std.proofs.Common.{ℕ, suc, List, [], ◌∷◌, map, subst, if◌then◌else◌}
use Rattle.std.specs.Prelude.{⊤, nat_lt}
use Rattle.edi_calls.specs.Names.{Name, with_at}
use Rattle.edi_calls.specs.declared.kinds.Cause.TheVariants as cause
use Rattle.edi_calls.specs.Outcome as outcome
use Rattle.edi_unit.specs.Need.{block_at}
use Rattle.edi_unit.specs.Tree as tree
use Rattle.edi_unit.specs.Tree.{Act, Arguments, Clauses, ProgramUnit}
use Rattle.edi_meaning.specs.Store.{Spot, Closure, system_procedure, block_procedure, Cell, procedure, Instance, shape, room, grown, shrunk}
use Rattle.edi_meaning.specs.Evaluation.{World, Evaluation, gives, turn, fails}
use Rattle.edi_meaning.specs.Whole.{meant, instance_of}
use Rattle.edi_meaning.specs.Step.{Position, Work, doing, loop_end, procedure_end, branch_end, program_entry, program_end, Standing, ready, at_when, waiting}
use Rattle.edi_meaning.specs.Step.{Asks, goes, body_of, chosen, called, statement_step, work_step, attempt, local_step}
use Rattle.edi_meaning.proofs.Lasting.{Any}
use Rattle.edi_disjoint.specs.Open.{open_act, open_clauses}
use Rattle.edi_disjoint.specs.Leaves.{Leaves, ActMay, ClausesMay, Each}
use Rattle.edi_disjoint.proofs.steps.Following.{Following, Pairs, At, give, stop, spent, bind, turn_pairs, if_pairs, system_pairs}
use Rattle.edi_disjoint.proofs.steps.Following.{whole_arguments_pair, whole_assignment_pairs, whole_condition_pairs, whole_first_pairs}

-- the instance of the program
abbrev pub first_instance : ProgramUnit → Name → (size : ℕ) → Instance
first_instance unit p size = instance_of unit p size unit.program ([], 0) (map (λ n. procedure (system_procedure n)) unit.calls)

-- T comes of the relation, also where a block is entered or left; and where the program is entered, if it may be
pub record Moving {unit : ProgramUnit} {p : Name} {size : ℕ} (s : Following unit p size) (x : s.Level) (T : World → World → Type 0) (First : Type 0) : Type 0 where
  pub stays : (w u : World) → s.Holds x w u → T w u
  pub grows : (es : Arguments) (number : ℕ) (parent : Spot) (cells : List Cell) (w u : World) → s.Enters x es (block_procedure number parent) →
      Each (s.Fits x) es cells → s.Holds x w u →
      T (record w { store = grown p (instance_of unit p size number parent cells) w.store }) (record u { store = grown p (instance_of unit p size number parent cells) u.store })
  pub shrinks : (w u : World) → s.Holds x w u → T (record w { store = shrunk p w.store }) (record u { store = shrunk p u.store })
  pub begins : First → (w u : World) → s.Holds x w u → T (record w { store = with_at w.store p (first_instance unit p size ∷ []) }) (record u { store = with_at u.store p (first_instance unit p size ∷ []) })

-- what may stand first in the work of a process; the entry of the program, where this holds
abbrev pub WorkMay : (First : Type 0) → Leaves → List Work → Type 0
WorkMay First t [] = ⊤
WorkMay First t (doing a position ∷ work) = ActMay t (open_act a)
WorkMay First t (loop_end cs position ∷ work) = ⊤
WorkMay First t (procedure_end line ∷ work) = ⊤
WorkMay First t (branch_end ∷ work) = ⊤
WorkMay First t (program_entry ∷ work) = First
WorkMay First t (program_end ∷ work) = ⊤

abbrev pub StandingMay : (First : Type 0) → Leaves → Standing → List Work → Type 0
StandingMay First t ready work = WorkMay First t work
StandingMay First t (at_when cs position) work = ClausesMay t (open_clauses cs)
StandingMay First t (waiting n) work = ⊤

module _ {unit : ProgramUnit} {p : Name} {size : ℕ} (s : Following unit p size) (x : s.Level) (T : World → World → Type 0) (First : Type 0) (m : Moving s x T First) where
  abbrev Leads : Evaluation Asks → Evaluation Asks → Type 0
  Leads r t = Pairs s (λ a w u. T w u) r t

  on : (a : Asks) (w u : World) → s.Holds x w u → Leads (gives a w) (gives a u)
  on a w u h = give s _ a w u (m.stays w u h)

  turn_on : (a : Asks) (w u : World) → s.Holds x w u → Leads (turn w (gives a)) (turn u (gives a))
  turn_on a w u h = turn_pairs s x _ w u _ _ h (λ w u h. on a w u h)

  chosen_pairs : (cs : Clauses) (n : ℕ) (w u : World) → ClausesMay (s.text x) (open_clauses cs) → s.Holds x w u → Pairs s (At s x Any) (chosen unit p size cs n w) (chosen unit p size cs n u)
  chosen_pairs tree.no_clause n w u may h = give s _ _ w u (tt, h)
  chosen_pairs (tree.clause_then (tree.clause e as') cs) n w u may h =
      bind s x Any _ _ _ _ _ (whole_condition_pairs s x e w u may.0.0 h)
      (λ holds w u _ h. if_pairs s _ holds _ _ _ _ (give s _ _ w u (tt, h)) (chosen_pairs cs (suc n) w u may.1 h))

  called_pairs : (es : Arguments) (c : Closure) (cells : List Cell) (line : ℕ) (work : List Work) (w u : World) → s.Enters x es c → Each (s.Fits x) es cells →
      s.Holds x w u → Leads (called unit p size c cells line work w) (called unit p size c cells line work u)
  called_pairs es (system_procedure number) cells line work w u c f h =
      bind s x Any _ _ _ _ _ (system_pairs s x es number cells line w u c f h) (λ _ w u _ h. on _ w u h)
  called_pairs es (block_procedure number parent) cells line work w u c f h =
      subst (λ fs. Leads (called unit p size (block_procedure number parent) cells line work w)
      (if nat_lt (room size fs) (block_at unit.blocks number).need then fails cause.VariableLimit line u
      else turn u (λ u. gives (goes (body_of unit number (procedure_end line ∷ work))) (record u { store = grown p (instance_of unit p size number parent cells) u.store }))))
      (s.space x w u h)
      (if_pairs s _ (nat_lt (room size (shape w.store p)) (block_at unit.blocks number).need) _ _ _ _
      (stop s _ x (outcome.failed cause.VariableLimit line) w u h)
      (turn_pairs s x _ w u _ _ h (λ v z h. give s _ _ _ _ (m.grows es number parent cells v z c f h))))

  statement_pairs : (a : Act) (position : Position) (work : List Work) (w u : World) → ActMay (s.text x) (open_act a) → s.Holds x w u →
      Leads (statement_step unit p size a position work w) (statement_step unit p size a position work u)
  statement_pairs tree.skip position work w u may h = on _ w u h
  statement_pairs (tree.assign v e) position work w u may h =
      bind s x Any _ _ _ _ _ (whole_assignment_pairs s x v e w u may.0 may.1 h) (λ _ w u _ h. on _ w u h)
  statement_pairs (tree.call c es line) position work w u may h =
      bind s x (Each (s.Fits x) es) _ _ _ _ _ (whole_arguments_pair s x es w u may.1 h)
      (λ cells w u f h. subst (λ d. Leads (called unit p size (meant unit p size c w) cells line work w) (called unit p size d cells line work u))
      (s.to_call x c es w u may.0 h).0
      (called_pairs es (meant unit p size c w) cells line work w u (s.to_call x c es w u may.0 h).1 f h))
  statement_pairs (tree.halt line) position work w u may h = stop s _ x (outcome.halted line) w u h
  statement_pairs (tree.if_act cs) position work w u may h = bind s x Any _ _ _ _ _ (chosen_pairs cs 0 w u may h) (λ c w u _ h. on _ w u h)
  statement_pairs (tree.while_act cs) position work w u may h = bind s x Any _ _ _ _ _ (chosen_pairs cs 0 w u may h) (λ c w u _ h. on _ w u h)
  statement_pairs (tree.when_act cs line) position work w u may h = turn_on _ w u h
  statement_pairs (tree.cobegin bs line) position work w u may h = on _ w u h

  work_pairs : (work : List Work) (w u : World) → WorkMay First (s.text x) work → s.Holds x w u → Leads (work_step unit p size work w) (work_step unit p size work u)
  work_pairs [] w u may h = spent s _ w.system w.turns _
  work_pairs (doing a position ∷ work) w u may h = statement_pairs a position work w u may h
  work_pairs (loop_end cs position ∷ work) w u may h = turn_on _ w u h
  work_pairs (procedure_end line ∷ work) w u may h = turn_pairs s x _ w u _ _ h (λ w u h. give s _ _ _ _ (m.shrinks w u h))
  work_pairs (branch_end ∷ work) w u may h = turn_on _ w u h
  work_pairs (program_entry ∷ work) w u may h = turn_pairs s x _ w u _ _ h (λ w u h. give s _ _ _ _ (m.begins may w u h))
  work_pairs (program_end ∷ work) w u may h = turn_pairs s x _ w u _ _ h (λ w u h. stop s _ x outcome.done w u h)

  attempt_pairs : (cs : Clauses) (position : Position) (work : List Work) (w u : World) → ClausesMay (s.text x) (open_clauses cs) → s.Holds x w u →
      Leads (attempt unit p size cs position work w) (attempt unit p size cs position work u)
  attempt_pairs cs position work w u may h =
      bind s x Any _ _ _ _ _ (whole_first_pairs s x cs w u may h) (λ ran w u _ h. if_pairs s _ ran _ _ _ _ (on _ w u h) (turn_on _ w u h))

  pub local_pairs : (standing : Standing) (work : List Work) (w u : World) → StandingMay First (s.text x) standing work → s.Holds x w u →
      Leads (local_step unit p size standing work w) (local_step unit p size standing work u)
  local_pairs ready work w u may h = work_pairs work w u may h
  local_pairs (at_when cs position) work w u may h = attempt_pairs cs position work w u may h
  local_pairs (waiting n) work w u may h = spent s _ w.system w.turns _
