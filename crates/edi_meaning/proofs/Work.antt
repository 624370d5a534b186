-- A step without a turn leaves its process less to do, so every selection ends.
use Rattle.std.proofs.Common.{◌≡◌, ℕ, zero, suc, ◌+◌, ◌-◌, ◌<◌, ◌≤◌, ◌⊎◌, inl, inr, false, List, [], ◌∷◌, ◌++◌, length, Option, Some, None, refl, subst, ap}
use Rattle.std.proofs.Common.{arith}
use Rattle.std.specs.Prelude.{⊤, nat_lt}
use Rattle.edi_calls.specs.Names.{Name, find}
use Rattle.edi_calls.specs.Outcome as outcome
use Rattle.edi_calls.specs.Ready.{child, parent_of, stays, joins, freed}
use Rattle.edi_unit.specs.Need.{block_at}
use Rattle.edi_unit.specs.Tree as tree
use Rattle.edi_unit.specs.Tree.{Expression, Act, Acts, Clause, Clauses, ProgramUnit}
use Rattle.edi_meaning.specs.Store.{Spot, Closure, system_procedure, block_procedure, Cell, shape, now, room}
use Rattle.edi_meaning.specs.Evaluation.{World, Evaluation, gives, ends, turn_from, turn}
use Rattle.edi_meaning.specs.Whole.{meant}
use Rattle.edi_meaning.specs.Step.{Position, inside, Work, doing, loop_end, procedure_end, branch_end, program_entry, program_end, doing_all, Standing}
use Rattle.edi_meaning.specs.Step.{ready, at_when, waiting, Asks, goes, arrives, again, forks, leaves, chosen, with_chosen, called, statement_step}
use Rattle.edi_meaning.specs.Step.{work_step, attempt, local_step, Process, Processes, Stepped, went, ended, back, with_child, with_children, awaits}
use Rattle.edi_meaning.specs.Step.{step}
use Rattle.edi_calls.proofs.Tables.{find-with_at-same}
use Rattle.edi_meaning.proofs.Lasting.{IsOwn, own_over, Every, Any, Lasting, Keeps, At, give, stop, bind, if_keeps, system_keeps, whole_arguments_keep}
use Rattle.edi_meaning.proofs.Lasting.{whole_assignment_keeps, whole_condition_keeps, whole_first_keeps}
use Rattle.edi_meaning.proofs.Turns.{turning}
use Rattle.edi_meaning.proofs.Kernel.{rest_of, Handles, kernel_handles, of_process}

-- ---- amounts of work

abbrev mutual
  pub act_size : Act → ℕ
  act_size tree.skip = 1
  act_size (tree.assign v e) = 1
  act_size (tree.call c es line) = 1
  act_size (tree.halt line) = 1
  act_size (tree.if_act cs) = 1 + clauses_size cs
  act_size (tree.while_act cs) = 2 + clauses_size cs
  act_size (tree.when_act cs line) = 1
  act_size (tree.cobegin bs line) = 1

  pub acts_size : Acts → ℕ
  acts_size tree.no_act = 0
  acts_size (tree.act_then a as') = act_size a + acts_size as'

  pub clause_size : Clause → ℕ
  clause_size (tree.clause e s) = acts_size s

  pub clauses_size : Clauses → ℕ
  clauses_size tree.no_clause = 0
  clauses_size (tree.clause_then c cs) = clause_size c + clauses_size cs

abbrev pub work_size : List Work → ℕ
work_size [] = 0
work_size (doing a position ∷ work) = act_size a + work_size work
work_size (loop_end cs position ∷ work) = 1 + work_size work
work_size (procedure_end line ∷ work) = 1 + work_size work
work_size (branch_end ∷ work) = 1 + work_size work
work_size (program_entry ∷ work) = 1 + work_size work
work_size (program_end ∷ work) = 1 + work_size work

-- an attempt is a piece of work too
abbrev pub standing_size : Standing → ℕ
standing_size ready = 0
standing_size (at_when cs position) = 1
standing_size (waiting n) = 0

size_of_all : (s : Acts) (position : Position) (n : ℕ) (work : List Work) → work_size (doing_all s position n work) ≡ acts_size s + work_size work
size_of_all tree.no_act position n work = omega arith
size_of_all (tree.act_then a as') position n work = omega (arith, size_of_all as' position (suc n) work)

-- ---- a step of one process takes a turn, asks the kernel for what takes one, or leaves less work

abbrev pub Less : ℕ → ℕ → Asks → World → Type 0
Less m t (goes work) w = (w.turns < t) ⊎ ((w.turns ≤ t) × (work_size work < m))
Less m t (arrives cs position work) w = w.turns < t
Less m t (again cs position quiet work) w = w.turns < t
Less m t (forks bs line work) w = w.turns ≤ t
Less m t leaves w = w.turns < t

-- what is chosen is a part
abbrev IsPart : Clauses → Option (Acts × ℕ) → Type 0
IsPart cs None = ⊤
IsPart cs (Some c) = acts_size c.0 ≤ clauses_size cs

part_of_more : (e : Expression) (s : Acts) (cs : Clauses) (c : Option (Acts × ℕ)) → IsPart cs c → IsPart (tree.clause_then (tree.clause e s) cs) c
part_of_more e s cs None h = tt
part_of_more e s cs (Some c) h = omega (arith, h)

module _ (unit : ProgramUnit) (p : Name) (size t : ℕ) where
  abbrev few : Lasting unit p size
  few = turning unit p size t

  abbrev Falling : ℕ → Evaluation Asks → Type 0
  Falling m r = Keeps few (Less m t) r

  goes_falling : (m : ℕ) (work : List Work) (w : World) → w.turns ≤ t → work_size work < m → Falling m (gives (goes work) w)
  goes_falling m work w h k = give few _ _ w (inr (h, k))

  -- behind a turn everything is less
  turn_falling : (m : ℕ) (n : ℕ) (w : World) (go : World → Evaluation Asks) → w.turns ≡ n → w.turns ≤ t → ((w : World) → w.turns < t → Falling m (go w))
      → Falling m (turn_from n w go)
  turn_falling m zero w go e h k = stop few tt _ outcome.turns w e h
  turn_falling m (suc n) w go e h k = k (record w { turns = n }) (omega arith)

  goes_after_turn : (m : ℕ) (work : List Work) (w : World) → w.turns ≤ t → Falling m (turn w (gives (goes work)))
  goes_after_turn m work w h = turn_falling m w.turns w _ refl h (λ w l. give few _ _ w (inl l))

  chosen_part : (cs : Clauses) (n : ℕ) (w : World) → w.turns ≤ t → Keeps few (At few tt (IsPart cs)) (chosen unit p size cs n w)
  chosen_part tree.no_clause n w h = give few _ _ w (tt, h)
  chosen_part (tree.clause_then (tree.clause e as') cs) n w h =
      bind few tt Any _ _ _ (whole_condition_keeps few tt e w h)
      (λ holds w _ h. if_keeps few _ holds _ _ (give few _ _ w (omega arith, h)) (more (chosen unit p size cs (suc n) w) (chosen_part cs (suc n) w h)))
    where
      more : (r : Evaluation (Option (Acts × ℕ))) → Keeps few (At few tt (IsPart cs)) r
          → Keeps few (At few tt (IsPart (tree.clause_then (tree.clause e as') cs))) r
      more (gives c w) h = give few _ c w (part_of_more e as' cs c h.is.0, h.is.1)
      more (ends x system turns) h = record { is = h.is }

  chosen_falling : (m : ℕ) (cs : Clauses) (position : Position) (after work : List Work) (c : Option (Acts × ℕ)) (w : World) → IsPart cs c → w.turns ≤ t →
      clauses_size cs + work_size (after ++ work) < m → work_size work < m → Falling m (gives (goes (with_chosen position c after work)) w)
  chosen_falling m cs position after work None w i h k l = goes_falling m work w h l
  chosen_falling m cs position after work (Some c) w i h k l = goes_falling m _ w h (omega (arith, i, size_of_all c.0 (inside position c.1) 0 (after ++ work)))

  called_falling : (m : ℕ) (c : Closure) (cells : List Cell) (line : ℕ) (work : List Work) (w : World) → Every Any cells → w.turns ≤ t → work_size work < m
      → Falling m (called unit p size c cells line work w)
  called_falling m (system_procedure number) cells line work w f h k = bind few tt Any _ _ _ (system_keeps few tt number cells line w f h)
      (λ _ w _ h. goes_falling m work w h k)
  called_falling m (block_procedure number parent) cells line work w f h k =
      if_keeps few _ (nat_lt (room size (shape w.store p)) (block_at unit.blocks number).need) _ _ (stop few tt _ _ w tt h)
      (turn_falling m w.turns w _ refl h (λ w l. give few _ _ _ (inl l)))

  statement_falling : (a : Act) (position : Position) (work : List Work) (w : World) → w.turns ≤ t → Falling (act_size a + work_size work)
      (statement_step unit p size a position work w)
  statement_falling tree.skip position work w h = goes_falling _ work w h (omega arith)
  statement_falling (tree.assign v e) position work w h = bind few tt Any _ _ _ (whole_assignment_keeps few tt v e w h)
      (λ _ w _ h. goes_falling _ work w h (omega arith))
  statement_falling (tree.call c es line) position work w h =
      bind few tt (Every Any) _ _ _ (whole_arguments_keep few tt es w h)
      (λ cells w f h. called_falling _ (meant unit p size c w) cells line work w f h (omega arith))
  statement_falling (tree.halt line) position work w h = stop few tt _ (outcome.halted line) w tt h
  statement_falling (tree.if_act cs) position work w h =
      bind few tt (IsPart cs) _ _ _ (chosen_part cs 0 w h)
      (λ c w i h. chosen_falling (1 + clauses_size cs + work_size work) cs position [] work c w i h (omega arith) (omega arith))
  statement_falling (tree.while_act cs) position work w h =
      bind few tt (IsPart cs) _ _ _ (chosen_part cs 0 w h)
      (λ c w i h. chosen_falling (2 + clauses_size cs + work_size work) cs position (loop_end cs position ∷ []) work c w i h (omega arith) (omega arith))
  statement_falling (tree.when_act cs line) position work w h = turn_falling _ w.turns w _ refl h (λ w l. give few _ _ w l)
  statement_falling (tree.cobegin bs line) position work w h = give few _ _ w h

  work_falling : (work : List Work) (w : World) → w.turns ≤ t → Falling (work_size work) (work_step unit p size work w)
  work_falling [] w h = record { is = (h, tt) }
  work_falling (doing a position ∷ work) w h = statement_falling a position work w h
  work_falling (loop_end cs position ∷ work) w h = goes_after_turn _ _ w h
  work_falling (procedure_end line ∷ work) w h = turn_falling _ w.turns w _ refl h (λ w l. give few _ _ _ (inl l))
  work_falling (branch_end ∷ work) w h = turn_falling _ w.turns w _ refl h (λ w l. give few _ _ w l)
  work_falling (program_entry ∷ work) w h = turn_falling _ w.turns w _ refl h (λ w l. give few _ _ _ (inl l))
  work_falling (program_end ∷ work) w h = turn_falling _ w.turns w _ refl h (λ w l. stop few tt _ outcome.done w tt (omega arith))

  attempt_falling : (cs : Clauses) (position : Position) (work : List Work) (w : World) → w.turns ≤ t → Falling (1 + work_size work)
      (attempt unit p size cs position work w)
  attempt_falling cs position work w h =
      bind few tt Any _ _ _ (whole_first_keeps few tt cs w h)
      (λ ran w _ h. if_keeps few _ ran _ _ (goes_falling _ work w h (omega arith)) (turn_falling _ w.turns w _ refl h (λ w l. give few _ _ w l)))

  pub local_falling : (standing : Standing) (work : List Work) (w : World) → w.turns ≤ t → Falling (standing_size standing + work_size work)
      (local_step unit p size standing work w)
  local_falling ready work w h = subst (λ n. Falling n (work_step unit p size work w)) (omega arith) (work_falling work w h)
  local_falling (at_when cs position) work w h = attempt_falling cs position work w h
  local_falling (waiting n) work w h = record { is = (h, tt) }

-- ---- the same of all processes

-- a turn was taken; or the process goes on, and has less to do
abbrev pub Falls : ℕ → ℕ → Name → Stepped → Type 0
Falls size t p (ended ending system turns) = IsOwn ending
Falls size t p (went s stays quiet) =
    (s.world.turns < t) ⊎ ((s.world.turns ≤ t) × ((q : Process) × (find s.live p ≡ Some q) × (standing_size q.standing + work_size q.work < size)))
Falls size t p (went s (joins ps) quiet) = s.world.turns < t

-- children change nothing of the world but variables
pub world_of_children : (unit : ProgramUnit) (p : Name) (f i share : ℕ) (parent : Spot) (bs : List ℕ) (s : Processes) →
    (with_children unit p f i share parent bs s).world ≡ record (s.world) { store = (with_children unit p f i share parent bs s).world.store }
world_of_children unit p f i share parent [] s = refl
world_of_children unit p f i share parent (b ∷ bs) s = world_of_children unit p f (suc i) share parent bs (with_child unit (child p f i) share parent b s)

freed_falls : (m n t : ℕ) (p r : Name) (s : Processes) → s.world.turns < t → Falls m t p (went s (freed n r) false)
freed_falls m zero t p r s h = h
freed_falls m (suc n) t p r s h = h

pub falling : (unit : ProgramUnit) (s : Processes) (p : Name) (q : Process) (m t : ℕ) → Handles unit s p q (Less m t)
    (λ ending system turns. (turns ≤ t) × IsOwn ending) (Falls m t p)
falling unit s p q m t = record {
  of_end = λ ending system turns h. h.1;
  of_goes = λ work w h. go work w h;
  of_arrives = λ cs position work w h. h;
  of_again = λ cs position quiet work w h. h;
  of_no_fork = λ bs line work w ending o h. own_over ending w.turns o;
  of_fork = λ bs line work w n share e h.
      omega (
        arith,
        e,
        h,
        ap (λ v. v.turns) (world_of_children unit p (suc q.forks) 0 share (now (shape w.store) p) bs
            (back s p (record q { forks = suc q.forks; work = work; standing = waiting (length bs) }) (record w { turns = n }))),
      );
  of_leaves = λ w k h. h;
  of_awaited = λ w y n e g h. freed_falls m (n - 1) t p (parent_of p)
      (back (rest_of s p w) (parent_of p) (record y { standing = awaits (n - 1) }) (rest_of s p w).world) h;
}
  where
    go : (work : List Work) (w : World) → Less m t (goes work) w → Falls m t p (went (back s p (record q { work = work; standing = ready }) w) stays false)
    go work w (inl h) = inl h
    go work w (inr h) = inr (h.0, (record q { work = work; standing = ready }, find-with_at-same s.live p _, omega (arith, h.1)))

pub step_falls : (unit : ProgramUnit) (s : Processes) (p : Name) (q : Process) → find s.live p ≡ Some q → Falls (standing_size q.standing + work_size q.work)
    s.world.turns p (step unit s p)
step_falls unit s p q e =
    let m = standing_size q.standing + work_size q.work in
    of_process unit s p q (Falls m s.world.turns p) e
    (kernel_handles unit s p q _ _ (Falls m s.world.turns p) (falling unit s p q m s.world.turns) (local_step unit p q.size q.standing q.work s.world)
    (local_falling unit p q.size s.world.turns q.standing q.work s.world (omega arith)).is)
