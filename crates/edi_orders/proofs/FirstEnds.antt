-- Only the first process ends the program by `done`.
use Rattle.std.proofs.Common.{◌≡◌, ℕ, zero, suc, ◌+◌, ◌-◌, ◌⊎◌, inl, inr, Bool, true, false, if◌then◌else◌, List, [], ◌∷◌, ◌++◌, length, Option, Some, None}
use Rattle.std.proofs.Common.{refl, sym, subst, ap, ◌∙◌}
use Rattle.std.specs.Prelude.{⊤, nat_lt}
use Rattle.std.specs.List.{list_any}
use Rattle.edi_calls.specs.Forks.{most_processes, equal_share}
use Rattle.edi_calls.specs.declared.kinds.Cause.TheVariants as cause
use Rattle.edi_calls.specs.Names.{Name, Table, same, find, with_at, without}
use Rattle.edi_calls.specs.Outcome as outcome
use Rattle.edi_calls.specs.Outcome.{Ending}
use Rattle.edi_calls.specs.Ready.{child, parent_of, joins}
use Rattle.edi_calls.specs.State.{State, Traced}
use Rattle.edi_calls.proofs.Names.{some_is}
use Rattle.edi_calls.proofs.Tables.{same-or-other, find-with_at-same, find-with_at-other}
use Rattle.edi_unit.specs.Need.{block_at}
use Rattle.edi_unit.specs.Tree as tree
use Rattle.edi_unit.specs.Tree.{Act, Acts, Clauses, ProgramUnit}
use Rattle.edi_meaning.specs.Store.{Spot, Closure, system_procedure, block_procedure, Cell, shape, now, room}
use Rattle.edi_meaning.specs.Evaluation.{World, Evaluation, gives, ends, ◌>>=◌, turn_from}
use Rattle.edi_meaning.specs.Whole.{meant, system_call, whole_arguments, whole_assignment, whole_condition, whole_first}
use Rattle.edi_meaning.specs.Step.{Position, inside, Work, doing, loop_end, procedure_end, branch_end, program_entry, program_end, doing_all}
use Rattle.edi_meaning.specs.Step.{Standing, ready, at_when, waiting, Asks, goes, arrives, again, forks, leaves, with_chosen, chosen, called}
use Rattle.edi_meaning.specs.Step.{statement_step, work_step, attempt, local_step, Process, Processes, went, ended, back, child_process, with_child}
use Rattle.edi_meaning.specs.Step.{with_children, exceeds, fork_taken, awaits, exited, kernel, step_of, step, start}
use Rattle.edi_meaning.proofs.Lasting.{Gives}
use Rattle.edi_meaning.proofs.Kernel.{After, Handles, kernel_handles, permitted_keep}
use Rattle.edi_meaning.proofs.Family.{kept_without}
use Rattle.edi_orders.proofs.Reaching.{Reached}
use Rattle.edi_orders.proofs.Running.{not_ended}
use Rattle.edi_orders.proofs.Taking.{exited_goes, ended_is}
use Rattle.edi_orders.proofs.Undone.{Undone, give, bind, either, system_undone, whole_arguments_undone, whole_assignment_undone}
use Rattle.edi_orders.proofs.Undone.{whole_condition_undone, whole_first_undone}

-- ---- the work of a process

-- the entry and the end of the program are in the work of the first process alone
abbrev pub WorkFirst : Name → List Work → Type 0
WorkFirst p [] = ⊤
WorkFirst p (doing a position ∷ work) = WorkFirst p work
WorkFirst p (loop_end cs position ∷ work) = WorkFirst p work
WorkFirst p (procedure_end line ∷ work) = WorkFirst p work
WorkFirst p (branch_end ∷ work) = WorkFirst p work
WorkFirst p (program_entry ∷ work) = (p ≡ []) × WorkFirst p work
WorkFirst p (program_end ∷ work) = (p ≡ []) × WorkFirst p work

abbrev AsksFirst : Name → Asks → Type 0
AsksFirst p (goes work) = WorkFirst p work
AsksFirst p (arrives cs position work) = WorkFirst p work
AsksFirst p (again cs position quiet work) = WorkFirst p work
AsksFirst p (forks bs line work) = WorkFirst p work
AsksFirst p leaves = ⊤

abbrev Done : Name → Ending → Type 0
Done p e = e ≡ outcome.done → p ≡ []

record First (p : Name) (r : Evaluation Asks) : Type 0 where
  is : Gives (λ a w. AsksFirst p a) (λ e system turns. Done p e) r

asked : (p : Name) (a : Asks) (w : World) → AsksFirst p a → First p (gives a w)
asked p a w h = record { is = h }

behind : {A : Type 0} (p : Name) (r : Evaluation A) (f : A → World → Evaluation Asks) → Undone r → ((a : A) (w : World) → First p (f a w)) → First p (r >>= f)
behind p (gives a w) f h k = k a w
behind p (ends e system turns) f h k = record { is = λ d. absurd (h.is d) }

-- an evaluation that is not done
first_of : (p : Name) (n : ℕ) (w : World) (go : World → Evaluation Asks) → ((w : World) → First p (go w)) → First p (turn_from n w go)
first_of p zero w go h = record { is = λ e. absurd (cc) }
first_of p (suc n) w go h = h (record w { turns = n })

all_first : (p : Name) (s : Acts) (position : Position) (n : ℕ) (work : List Work) → WorkFirst p work → WorkFirst p (doing_all s position n work)
all_first p tree.no_act position n work h = h
all_first p (tree.act_then a s) position n work h = all_first p s position (suc n) work h

chosen_first : (p : Name) (position : Position) (c : Option (Acts × ℕ)) (after work : List Work) → WorkFirst p work → WorkFirst p (after ++ work) →
    WorkFirst p (with_chosen position c after work)
chosen_first p position None after work h k = h
chosen_first p position (Some c) after work h k = all_first p c.0 (inside position c.1) 0 (after ++ work) k

module _ (unit : ProgramUnit) (p : Name) (size : ℕ) where
  chosen_undone : (cs : Clauses) (n : ℕ) (w : World) → Undone (chosen unit p size cs n w)
  chosen_undone tree.no_clause n w = give _ w
  chosen_undone (tree.clause_then (tree.clause e s) cs) n w =
      bind (whole_condition unit p size e w) _ (whole_condition_undone unit p size e w)
      (λ holds w. either holds _ _ (give _ w) (chosen_undone cs (suc n) w))

  either_first : (b : Bool) (r t : Evaluation Asks) → First p r → First p t → First p (if b then r else t)
  either_first true r t h k = h
  either_first false r t h k = k

  called_first : (c : Closure) (cells : List Cell) (line : ℕ) (work : List Work) (w : World) → WorkFirst p work → First p (called unit p size c cells line work w)
  called_first (system_procedure number) cells line work w h = behind p (system_call number cells line w) _ (system_undone number cells line w) (λ _ w. asked p _ w h)
  called_first (block_procedure number parent) cells line work w h =
      either_first (nat_lt (room size (shape w.store p)) (block_at unit.blocks number).need) _ _ (record { is = λ e. absurd (cc) })
      (first_of p w.turns w _ (λ w. asked p _ _ (all_first p (block_at unit.blocks number).body _ 0 (procedure_end line ∷ work) h)))

  statement_first : (a : Act) (position : Position) (work : List Work) (w : World) → WorkFirst p work → First p (statement_step unit p size a position work w)
  statement_first tree.skip position work w h = asked p _ w h
  statement_first (tree.assign v e) position work w h =
      behind p (whole_assignment unit p size v e w) _ (whole_assignment_undone unit p size v e w) (λ _ w. asked p _ w h)
  statement_first (tree.call c es line) position work w h =
      behind p (whole_arguments unit p size es w) _ (whole_arguments_undone unit p size es w) (λ cells w. called_first (meant unit p size c w) cells line work w h)
  statement_first (tree.halt line) position work w h = record { is = λ e. absurd (cc) }
  statement_first (tree.if_act cs) position work w h =
      behind p (chosen unit p size cs 0 w) _ (chosen_undone cs 0 w) (λ c w. asked p _ w (chosen_first p position c [] work h h))
  statement_first (tree.while_act cs) position work w h =
      behind p (chosen unit p size cs 0 w) _ (chosen_undone cs 0 w) (λ c w. asked p _ w (chosen_first p position c (loop_end cs position ∷ []) work h h))
  statement_first (tree.when_act cs line) position work w h = first_of p w.turns w _ (λ w. asked p _ w h)
  statement_first (tree.cobegin bs line) position work w h = asked p _ w h

  work_first : (work : List Work) (w : World) → WorkFirst p work → First p (work_step unit p size work w)
  work_first [] w h = record { is = λ e. absurd (cc) }
  work_first (doing a position ∷ work) w h = statement_first a position work w h
  work_first (loop_end cs position ∷ work) w h = first_of p w.turns w _ (λ w. asked p _ w h)
  work_first (procedure_end line ∷ work) w h = first_of p w.turns w _ (λ w. asked p _ _ h)
  work_first (branch_end ∷ work) w h = first_of p w.turns w _ (λ w. asked p _ w tt)
  work_first (program_entry ∷ work) w h = first_of p w.turns w _ (λ w. asked p _ _ (all_first p (block_at unit.blocks unit.program).body _ 0 work h.1))
  work_first (program_end ∷ work) w h = first_of p w.turns w _ (λ w. record { is = λ e. h.0 })

  attempt_first : (cs : Clauses) (position : Position) (work : List Work) (w : World) → WorkFirst p work → First p (attempt unit p size cs position work w)
  attempt_first cs position work w h =
      behind p (whole_first unit p size cs w) _ (whole_first_undone unit p size cs w)
      (λ ran w. either_first ran _ _ (asked p _ w h) (first_of p w.turns w _ (λ w. asked p _ w h)))

  local_first : (standing : Standing) (work : List Work) (w : World) → WorkFirst p work → First p (local_step unit p size standing work w)
  local_first ready work w h = work_first work w h
  local_first (at_when cs position) work w h = attempt_first cs position work w h
  local_first (waiting n) work w h = record { is = λ e. absurd (cc) }

-- ---- all processes

record LiveFirst (s : Processes) : Type 0 where
  each : (r : Name) (q : Process) → find s.live r ≡ Some q → WorkFirst r q.work

with_first : (live : Table Process) (p : Name) (q : Process) → ((r : Name) (x : Process) → find live r ≡ Some x → WorkFirst r x.work) → WorkFirst p q.work →
    (r : Name) (x : Process) → find (with_at live p q) r ≡ Some x → WorkFirst r x.work
with_first live p q h k r x e = go (same-or-other r p)
  where
    go : (r ≡ p) ⊎ (same r p ≡ false) → WorkFirst r x.work
    go (inl i) =
        let is : q ≡ x = some_is (sym (find-with_at-same live p q) ∙ sym (ap (find (with_at live p q)) i) ∙ e) in
        subst (λ y. WorkFirst y x.work) (sym i) (subst (λ (z : Process). WorkFirst p z.work) is k)
    go (inr n) = h r x (sym (find-with_at-other live p r q n) ∙ e)

module _ (unit : ProgramUnit) where
  children_first : (p : Name) (f share : ℕ) (parent : Spot) (bs : List ℕ) (i : ℕ) (s : Processes) → LiveFirst s → LiveFirst (with_children unit p f i share parent bs s)
  children_first p f share parent [] i s h = h
  children_first p f share parent (b ∷ bs) i s h =
      children_first p f share parent bs (suc i) (with_child unit (child p f i) share parent b s)
      (record {
        each = with_first s.live (child p f i) (child_process unit share b) h.each
            (all_first (child p f i) (block_at unit.blocks b).body _ 0 (branch_end ∷ []) tt);
      })

  handles : (s : Processes) (p : Name) (q : Process) → LiveFirst s → Handles unit s p q (λ a w. AsksFirst p a) (λ e system turns. Done p e) (After LiveFirst)
  handles s p q h = record {
    of_end = λ ending system turns d. tt;
    of_goes = λ work w d. record { each = with_first s.live p (record q { work = work; standing = ready }) h.each d };
    of_arrives = λ cs position work w d. record { each = with_first s.live p (record q { work = work; standing = at_when cs position }) h.each d };
    of_again = λ cs position quiet work w d. record { each = with_first s.live p (record q { work = work; standing = at_when cs position }) h.each d };
    of_no_fork = λ bs line work w ending o d. tt;
    of_fork = λ bs line work w n share e d.
        let q' : Process = record q { forks = suc q.forks; work = work; standing = waiting (length bs) } in
        children_first p (suc q.forks) share (now (shape w.store) p) bs 0 (back s p q' (record w { turns = n })) (record { each = with_first s.live p q' h.each d });
    of_leaves = λ w k d. record { each = λ r x e. h.each r x (kept_without s.live p r x e) };
    of_awaited = λ w y n e g d. record {
      each = with_first (without s.live p) (parent_of p) (record y { standing = awaits (n - 1) }) (λ r x i. h.each r x (kept_without s.live p r x i))
          (h.each (parent_of p) y (kept_without s.live p (parent_of p) y e));
    };
  }

  step_first : (s : Processes) (p : Name) → LiveFirst s → After LiveFirst (step unit s p)
  step_first s p h = go (find s.live p) refl
    where
      go : (x : Option Process) → find s.live p ≡ x → After LiveFirst (step_of unit s p x)
      go None e = tt
      go (Some q) e =
          kernel_handles unit s p q _ _ (After LiveFirst) (handles s p q h) (local_step unit p q.size q.standing q.work s.world)
          (local_first unit p q.size q.standing q.work s.world (h.each p q e)).is

  start_first : (system : State) (bound : ℕ) → LiveFirst (start unit system bound)
  start_first system bound = record { each = each }
    where
      each : (r : Name) (q : Process) → find (start unit system bound).live r ≡ Some q → WorkFirst r q.work
      each [] q e = subst (λ (z : Process). WorkFirst [] z.work) (some_is e) (refl, (refl, tt))
      each (y ∷ ys) q e = absurd (cc)

  -- no fork is an end by `done`
  fork_undone : (s : Processes) (p : Name) (x : Process) (bs : List ℕ) (line : ℕ) (work : List Work) (w : World) (share : ℕ) (many large : Bool) (n : ℕ) (end : Traced) (turns : ℕ) →
      (if many then ended (outcome.failed cause.ProcessLimit line) w.system w.turns
      else if large then ended (outcome.failed cause.VariableLimit line) w.system w.turns
      else fork_taken unit s p x bs work w n share) ≡ ended outcome.done end turns → ⊥
  fork_undone s p x bs line work w share true large n end turns g = absurd (cc)
  fork_undone s p x bs line work w share false true n end turns g = absurd (cc)
  fork_undone s p x bs line work w share false false zero end turns g = absurd (cc)
  fork_undone s p x bs line work w share false false (suc n) end turns g = absurd (cc)

  kernel_first : (s : Processes) (p : Name) (x : Process) (r : Evaluation Asks) (end : Traced) (turns : ℕ) → First p r → kernel unit s p x r ≡ ended outcome.done end turns → p ≡ []
  kernel_first s p x (ends e system left) end turns h g = h.is (ended_is e outcome.done system end left turns g)
  kernel_first s p x (gives (goes work) w) end turns h g = absurd (cc)
  kernel_first s p x (gives (arrives cs position work) w) end turns h g = absurd (cc)
  kernel_first s p x (gives (again cs position quiet work) w) end turns h g = absurd (cc)
  kernel_first s p x (gives (forks bs line work) w) end turns h g =
      absurd (fork_undone s p x bs line work w (equal_share (room x.size (shape w.store p)) (length bs)) (nat_lt most_processes (length s.live + length bs))
      (list_any (exceeds unit (equal_share (room x.size (shape w.store p)) (length bs))) bs) w.turns end turns g)
  kernel_first s p x (gives leaves w) end turns h g =
      let y : (t : Processes) × (ps : List Name) × (exited s p w ≡ went t (joins ps) false) = exited_goes s p w in
      absurd (not_ended y.0 (joins y.1) false outcome.done end turns (sym y.2 ∙ g))

  pub done_is_first : (system : State) (s : Processes) (p : Name) (end : Traced) (turns : ℕ) → Reached unit system s → step unit s p ≡ ended outcome.done end turns → p ≡ []
  done_is_first system s p end turns r g = go (find s.live p) refl g
    where
      live : LiveFirst s
      live = permitted_keep unit LiveFirst (λ t q h. step_first t q h) r.order (start unit system r.bound) s (start_first system r.bound) r.comes

      go : (o : Option Process) → find s.live p ≡ o → step_of unit s p o ≡ ended outcome.done end turns → p ≡ []
      go None e k = absurd (cc)
      go (Some x) e k =
          kernel_first s p x (local_step unit p x.size x.standing x.work s.world) end turns
          (local_first unit p x.size x.standing x.work s.world (live.each p x e)) k
