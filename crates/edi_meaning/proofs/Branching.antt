-- Whoever waits waits for somebody, and the first process lives, as long as each `cobegin` has a branch.
use Rattle.std.proofs.Common.{◌≡◌, ℕ, zero, suc, ◌-◌, ◌<◌, ◌⊎◌, inl, inr, Bool, true, false, if◌then◌else◌, List, [], ◌∷◌, ◌++◌, length, length-append}
use Rattle.std.proofs.Common.{Option, Some, None, refl, sym, subst, ap, ◌∙◌, arith}
use Rattle.std.specs.Prelude.{⊤, nat_lt}
use Rattle.std.proofs.lemmas.Bool.{cases_lt}
use Rattle.edi_calls.specs.Names.{Name, Table, same, find, with_at, without}
use Rattle.edi_calls.specs.Ready.{child, parent_of}
use Rattle.edi_calls.specs.State.{State}
use Rattle.edi_calls.proofs.Tables.{same-or-other, find-with_at-same, find-with_at-other}
use Rattle.edi_unit.specs.Fits as fits
use Rattle.edi_unit.specs.Headings as headings_words
use Rattle.edi_unit.specs.Need.{no_block, block_at}
use Rattle.edi_unit.specs.Tree as tree
use Rattle.edi_unit.specs.Tree.{Act, Acts, Clause, Clauses, Block, ProgramUnit}
use Rattle.edi_meaning.specs.Store.{Spot, Closure, system_procedure, block_procedure, Cell, shape, now, room}
use Rattle.edi_meaning.specs.Evaluation.{World, Evaluation, gives, ends, ◌>>=◌, turn_from}
use Rattle.edi_meaning.specs.Whole.{meant, system_call, whole_arguments, whole_assignment, whole_condition, whole_first}
use Rattle.edi_meaning.specs.Step.{Position, inside, Work, doing, loop_end, procedure_end, branch_end, program_entry, program_end, doing_all, body_of}
use Rattle.edi_meaning.specs.Step.{Standing, ready, at_when, waiting, Asks, goes, arrives, again, forks, leaves, is_quiet, chosen, with_chosen, called}
use Rattle.edi_meaning.specs.Step.{statement_step, work_step, local_step, Process, Processes, back, child_process, with_child, with_children, awaits}
use Rattle.edi_meaning.specs.Step.{step_of, step, start}
use Rattle.edi_meaning.specs.Someone.{ActHasBranches, ActsHaveBranches, ClauseHasBranches, ClausesHaveBranches, ForksHaveBranches, FittingForksHaveBranches}
use Rattle.edi_meaning.proofs.Lasting.{Gives}
use Rattle.edi_meaning.proofs.Kernel.{if_either, Handles, kernel_handles, After}
use Rattle.edi_calls.proofs.Names.{some_is}
use Rattle.edi_meaning.proofs.Family.{kept_without}

-- ---- units that fit

module _ (unit : ProgramUnit) (headings : ℕ → ℕ → headings_words.Heading) (n : ℕ) where
  mutual
    act_has : (a : Act) → fits.ActFits unit.types unit.blocks headings n a → ActHasBranches a
    act_has tree.skip h = tt
    act_has (tree.assign v e) h = tt
    act_has (tree.call c es line) h = tt
    act_has (tree.halt line) h = tt
    act_has (tree.if_act cs) h = clauses_have cs h
    act_has (tree.while_act cs) h = clauses_have cs h
    act_has (tree.when_act cs line) h = tt
    act_has (tree.cobegin bs line) h = h.0

    acts_have : (s : Acts) → fits.ActsFit unit.types unit.blocks headings n s → ActsHaveBranches s
    acts_have tree.no_act h = tt
    acts_have (tree.act_then a s) h = (act_has a h.0, acts_have s h.1)

    clause_has : (c : Clause) → fits.ClauseFits unit.types unit.blocks headings n c → ClauseHasBranches c
    clause_has (tree.clause e s) h = acts_have s h.2

    clauses_have : (cs : Clauses) → fits.ClausesFit unit.types unit.blocks headings n cs → ClausesHaveBranches cs
    clauses_have tree.no_clause h = tt
    clauses_have (tree.clause_then c cs) h = (clause_has c h.0, clauses_have cs h.1)

-- behind the last block there is none with a statement
behind_all : (blocks : List Block) (n : ℕ) → length blocks < suc n → block_at blocks n ≡ no_block
behind_all [] n h = refl
behind_all (b ∷ blocks) zero h = absurd (omega (arith, h))
behind_all (b ∷ blocks) (suc n) h = behind_all blocks n (omega (arith, h))

pub fitting_forks_have_branches : FittingForksHaveBranches
fitting_forks_have_branches unit f n = elim (cases_lt n (length unit.blocks)) [
  | inl l ↦ acts_have unit f.headings n (block_at unit.blocks n).body (f.fits_blocks n l).statements
  | inr l ↦ subst (λ (b : Block). ActsHaveBranches b.body) (sym (behind_all unit.blocks n (omega (arith, l)))) tt
]

-- ---- the work of a process

-- the statements have branches, and the first process does not end as a branch
abbrev WorkGood : Name → List Work → Type 0
WorkGood p [] = ⊤
WorkGood p (doing a position ∷ work) = ActHasBranches a × WorkGood p work
WorkGood p (loop_end cs position ∷ work) = ClausesHaveBranches cs × WorkGood p work
WorkGood p (procedure_end line ∷ work) = WorkGood p work
WorkGood p (branch_end ∷ work) = (0 < length p) × WorkGood p work
WorkGood p (program_entry ∷ work) = WorkGood p work
WorkGood p (program_end ∷ work) = WorkGood p work

abbrev AsksGood : Name → Asks → Type 0
AsksGood p (goes work) = WorkGood p work
AsksGood p (arrives cs position work) = WorkGood p work
AsksGood p (again cs position quiet work) = WorkGood p work
AsksGood p (forks bs line work) = (0 < length bs) × WorkGood p work
AsksGood p leaves = 0 < length p

abbrev Good : Name → Evaluation Asks → Type 0
Good p r = Gives (λ a w. AsksGood p a) (λ ending system turns. ⊤) r

goes_good : {A : Type 0} (p : Name) (r : Evaluation A) (work : A → List Work) → ((a : A) → WorkGood p (work a)) → Good p (r >>= λ a w. gives (goes (work a)) w)
goes_good p (gives a w) work h = h a
goes_good p (ends e system turns) work h = tt

turn_good : (p : Name) (n : ℕ) (w : World) (go : World → Evaluation Asks) → ((w : World) → Good p (go w)) → Good p (turn_from n w go)
turn_good p zero w go h = tt
turn_good p (suc n) w go h = h (record w { turns = n })

all_good : (p : Name) (s : Acts) (position : Position) (n : ℕ) (work : List Work) → ActsHaveBranches s → WorkGood p work
    → WorkGood p (doing_all s position n work)
all_good p tree.no_act position n work h k = k
all_good p (tree.act_then a s) position n work h k = (h.0, all_good p s position (suc n) work h.1 k)

-- what was chosen
abbrev ChosenHas : Option (Acts × ℕ) → Type 0
ChosenHas None = ⊤
ChosenHas (Some c) = ActsHaveBranches c.0

chosen_then : (p : Name) (r : Evaluation (Option (Acts × ℕ))) (position : Position) (after work : List Work)
    → Gives (λ c w. ChosenHas c) (λ ending system turns. ⊤) r → WorkGood p work → WorkGood p (after ++ work) →
    Good p (r >>= λ c w. gives (goes (with_chosen position c after work)) w)
chosen_then p (gives None w) position after work h k l = k
chosen_then p (gives (Some c) w) position after work h k l = all_good p c.0 (inside position c.1) 0 (after ++ work) h l
chosen_then p (ends e system turns) position after work h k l = tt

module _ (unit : ProgramUnit) (have : ForksHaveBranches unit) (p : Name) (size : ℕ) where
  body_good : (number : ℕ) (work : List Work) → WorkGood p work → WorkGood p (body_of unit number work)
  body_good number work h = all_good p (block_at unit.blocks number).body _ 0 work (have number) h

  chosen_has : (cs : Clauses) (n : ℕ) (w : World) → ClausesHaveBranches cs → Gives (λ c w. ChosenHas c) (λ ending system turns. ⊤) (chosen unit p size cs n w)
  chosen_has tree.no_clause n w h = tt
  chosen_has (tree.clause_then (tree.clause e s) cs) n w h = go (λ v. chosen_has cs (suc n) v h.1) (whole_condition unit p size e w)
    where
      go : ((v : World) → Gives (λ c w. ChosenHas c) (λ ending system turns. ⊤) (chosen unit p size cs (suc n) v)) → (r : Evaluation Bool) →
          Gives (λ c w. ChosenHas c) (λ ending system turns. ⊤) (r >>= λ holds w. if holds then gives (Some (s, n)) w else chosen unit p size cs (suc n) w)
      go rest (gives true v) = h.0
      go rest (gives false v) = rest v
      go rest (ends e system turns) = tt

  called_good : (c : Closure) (cells : List Cell) (line : ℕ) (work : List Work) (w : World) → WorkGood p work → Good p (called unit p size c cells line work w)
  called_good (system_procedure number) cells line work w h = goes_good p (system_call number cells line w) (λ _. work) (λ _. h)
  called_good (block_procedure number parent) cells line work w h =
      if_either (Good p) (nat_lt (room size (shape w.store p)) (block_at unit.blocks number).need) _ _ tt
      (turn_good p w.turns w _ (λ w. body_good number (procedure_end line ∷ work) h))

  arguments_good : (c : World → Closure) (line : ℕ) (work : List Work) (r : Evaluation (List Cell)) → WorkGood p work
      → Good p (r >>= λ cells w. called unit p size (c w) cells line work w)
  arguments_good c line work (gives cells w) h = called_good (c w) cells line work w h
  arguments_good c line work (ends e system turns) h = tt

  statement_good : (a : Act) (position : Position) (work : List Work) (w : World) → ActHasBranches a → WorkGood p work
      → Good p (statement_step unit p size a position work w)
  statement_good tree.skip position work w a h = h
  statement_good (tree.assign v e) position work w a h = goes_good p (whole_assignment unit p size v e w) (λ _. work) (λ _. h)
  statement_good (tree.call c es line) position work w a h = arguments_good (meant unit p size c) line work (whole_arguments unit p size es w) h
  statement_good (tree.halt line) position work w a h = tt
  statement_good (tree.if_act cs) position work w a h = chosen_then p (chosen unit p size cs 0 w) position [] work (chosen_has cs 0 w a) h h
  statement_good (tree.while_act cs) position work w a h = chosen_then p (chosen unit p size cs 0 w) position (loop_end cs position ∷ []) work
      (chosen_has cs 0 w a) h (a, h)
  statement_good (tree.when_act cs line) position work w a h = turn_good p w.turns w _ (λ w. h)
  statement_good (tree.cobegin bs line) position work w a h = (a, h)

  work_good : (work : List Work) (w : World) → WorkGood p work → Good p (work_step unit p size work w)
  work_good [] w h = tt
  work_good (doing a position ∷ work) w h = statement_good a position work w h.0 h.1
  work_good (loop_end cs position ∷ work) w h = turn_good p w.turns w _ (λ w. h)
  work_good (procedure_end line ∷ work) w h = turn_good p w.turns w _ (λ w. h)
  work_good (branch_end ∷ work) w h = turn_good p w.turns w _ (λ w. h.0)
  work_good (program_entry ∷ work) w h = turn_good p w.turns w _ (λ w. body_good unit.program work h)
  work_good (program_end ∷ work) w h = turn_good p w.turns w _ (λ w. tt)

  attempt_good : (cs : Clauses) (position : Position) (work : List Work) (r : Evaluation Bool) → WorkGood p work →
      Good p (r >>= λ ran w. if ran then gives (goes work) w else turn_from w.turns w (gives (again cs position (is_quiet cs) work)))
  attempt_good cs position work (gives true w) h = h
  attempt_good cs position work (gives false w) h = turn_good p w.turns w _ (λ w. h)
  attempt_good cs position work (ends e system turns) h = tt

  local_good : (standing : Standing) (work : List Work) (w : World) → WorkGood p work → Good p (local_step unit p size standing work w)
  local_good ready work w h = work_good work w h
  local_good (at_when cs position) work w h = attempt_good cs position work (whole_first unit p size cs w) h
  local_good (waiting n) work w h = tt

-- ---- all processes

pub record ProcessGood (r : Name) (q : Process) : Type 0 where
  pub work : WorkGood r q.work
  pub waits : (n : ℕ) → q.standing ≡ waiting n → 0 < n

pub record LiveGood (live : Table Process) : Type 0 where
  pub each : (r : Name) (q : Process) → find live r ≡ Some q → ProcessGood r q
  pub first : (q : Process) × (find live [] ≡ Some q)

abbrev pub StateGood : Processes → Type 0
StateGood s = LiveGood s.live

with_good : (live : Table Process) (p : Name) (q : Process) → LiveGood live → ProcessGood p q → LiveGood (with_at live p q)
with_good live p q h k = record {
  each = λ r x e. of_each r x e (same-or-other r p);
  first = of_first (same-or-other [] p);
}
  where
    of_each : (r : Name) (x : Process) → find (with_at live p q) r ≡ Some x → (r ≡ p) ⊎ (same r p ≡ false) → ProcessGood r x
    of_each r x e (inl i) =
        let is : q ≡ x = some_is (sym (find-with_at-same live p q) ∙ sym (ap (find (with_at live p q)) i) ∙ e) in
        subst (λ y. ProcessGood y x) (sym i) (subst (ProcessGood p) is k)
    of_each r x e (inr n) = h.each r x (sym (find-with_at-other live p r q n) ∙ e)

    of_first : ([] ≡ p) ⊎ (same [] p ≡ false) → (x : Process) × (find (with_at live p q) [] ≡ Some x)
    of_first (inl i) = (q, ap (find (with_at live p q)) i ∙ find-with_at-same live p q)
    of_first (inr n) = (h.first.0, find-with_at-other live p [] q n ∙ h.first.1)

without_good : (live : Table Process) (p : Name) → 0 < length p → LiveGood live → LiveGood (without live p)
without_good live [] some h = absurd (omega (arith, some))
without_good live (n ∷ p) some h = record {
  each = λ r x e. h.each r x (kept_without live (n ∷ p) r x e);
  first = (h.first.0, stays live h.first.1);
}
  where
    stays : (live : Table Process) → find live [] ≡ Some h.first.0 → find (without live (n ∷ p)) [] ≡ Some h.first.0
    stays [] e = e
    stays (([], q) ∷ live) e = e
    stays ((m ∷ ms, q) ∷ live) e = go (same (n ∷ p) (m ∷ ms)) (stays live e)
      where
        go : (b : Bool) → find (without live (n ∷ p)) [] ≡ Some h.first.0 → find (if b then without live (n ∷ p) else (m ∷ ms, q) ∷ without live (n ∷ p)) []
            ≡ Some h.first.0
        go true f = f
        go false f = f

waiting_is : (m n : ℕ) → waiting m ≡ waiting n → m ≡ n
waiting_is m n e = cc

awaits_some : (k n : ℕ) → awaits k ≡ waiting n → 0 < n
awaits_some zero n e = absurd (cc)
awaits_some (suc k) n e = let is : suc k ≡ n = waiting_is (suc k) n e in omega (arith, is)

module _ (unit : ProgramUnit) (have : ForksHaveBranches unit) where
  child_some : (p : Name) (f i : ℕ) → 0 < length (child p f i)
  child_some p f i = omega (arith, length-append p (f ∷ i ∷ []))

  children_good : (p : Name) (f share : ℕ) (parent : Spot) (bs : List ℕ) (i : ℕ) (s : Processes) → StateGood s
      → StateGood (with_children unit p f i share parent bs s)
  children_good p f share parent [] i s h = h
  children_good p f share parent (b ∷ bs) i s h =
      children_good p f share parent bs (suc i) (with_child unit (child p f i) share parent b s)
      (with_good s.live (child p f i) (child_process unit share b) h
      (record {
        work = all_good (child p f i) (block_at unit.blocks b).body _ 0 (branch_end ∷ []) (have b) (child_some p f i, tt);
        waits = λ n e. absurd (cc);
      }))

  handles : (s : Processes) (p : Name) (q : Process) → StateGood s → Handles unit s p q (λ a w. AsksGood p a) (λ ending system turns. ⊤) (After StateGood)
  handles s p q h = record {
    of_end = λ ending system turns d. tt;
    of_goes = λ work w d. with_good s.live p (record q { work = work; standing = ready }) h (record { work = d; waits = λ n e. absurd (cc) });
    of_arrives = λ cs position work w d. with_good s.live p (record q { work = work; standing = at_when cs position }) h
        (record { work = d; waits = λ n e. absurd (cc) });
    of_again = λ cs position quiet work w d. with_good s.live p (record q { work = work; standing = at_when cs position }) h
        (record { work = d; waits = λ n e. absurd (cc) });
    of_no_fork = λ bs line work w ending o d. tt;
    of_fork = λ bs line work w n share e d.
        let q' : Process = record q { forks = suc q.forks; work = work; standing = waiting (length bs) } in
        children_good p (suc q.forks) share (now (shape w.store) p) bs 0 (back s p q' (record w { turns = n }))
        (with_good s.live p q' h (record { work = d.1; waits = λ m f. (let is : length bs ≡ m = waiting_is (length bs) m f in omega (arith, is, d.0)) }));
    of_leaves = λ w k d. without_good s.live p d h;
    of_awaited = λ w y n e g d.
        let rest : LiveGood (without s.live p) = without_good s.live p d h in
        with_good (without s.live p) (parent_of p) (record y { standing = awaits (n - 1) }) rest
        (record { work = (rest.each (parent_of p) y e).work; waits = λ m f. awaits_some (n - 1) m f });
  }

  pub step_good : (s : Processes) (p : Name) → StateGood s → After StateGood (step unit s p)
  step_good s p h = go (find s.live p) refl
    where
      go : (x : Option Process) → find s.live p ≡ x → After StateGood (step_of unit s p x)
      go None e = tt
      go (Some q) e =
          kernel_handles unit s p q _ _ (After StateGood) (handles s p q h) (local_step unit p q.size q.standing q.work s.world)
          (local_good unit have p q.size q.standing q.work s.world (h.each p q e).work)

  pub start_good : (system : State) (bound : ℕ) → StateGood (start unit system bound)
  start_good system bound = record { each = each; first = (_, refl) }
    where
      each : (r : Name) (q : Process) → find (start unit system bound).live r ≡ Some q → ProcessGood r q
      each [] q e = subst (ProcessGood []) (some_is e) (record { work = tt; waits = λ n f. absurd (cc) })
      each (y ∷ ys) q e = absurd (cc)
