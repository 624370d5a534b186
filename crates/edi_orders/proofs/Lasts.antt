-- What a ready process asks for: to go on, or what its next piece of work is, which is then the last of its stint.
use Rattle.std.proofs.Common.{◌≡◌, ℕ, zero, suc, ◌⊎◌, inl, inr, List, [], ◌∷◌, refl, sym, ap, subst, ◌∙◌}
use Rattle.std.specs.Prelude.{⊤, nat_lt}
use Rattle.edi_calls.specs.Names.{Name}
use Rattle.edi_calls.specs.Outcome as outcome
use Rattle.edi_calls.specs.Outcome.{Ending}
use Rattle.edi_calls.specs.State.{Traced}
use Rattle.edi_unit.specs.Need.{block_at}
use Rattle.edi_unit.specs.Tree as tree
use Rattle.edi_unit.specs.Tree.{Act, ProgramUnit}
use Rattle.edi_meaning.specs.Store.{Closure, system_procedure, block_procedure, Cell, shape, room}
use Rattle.edi_meaning.specs.Evaluation.{World, Evaluation, gives, ends, ◌>>=◌, turn_from}
use Rattle.edi_meaning.specs.Whole.{meant, system_call, whole_arguments, whole_assignment}
use Rattle.edi_meaning.specs.Step.{Position, Work, doing, loop_end, procedure_end, branch_end, program_entry, program_end}
use Rattle.edi_meaning.specs.Step.{Asks, goes, arrives, again, forks, leaves, chosen, with_chosen, called, statement_step, work_step}
use Rattle.edi_meaning.proofs.Lasting.{Gives}
use Rattle.edi_meaning.proofs.Kernel.{if_either}

abbrev pub IsLastAct : Act → Position → List Work → Asks → Type 0
IsLastAct tree.skip position work c = ⊥
IsLastAct (tree.assign v e) position work c = ⊥
IsLastAct (tree.call f es line) position work c = ⊥
IsLastAct (tree.halt line) position work c = ⊥
IsLastAct (tree.if_act cs) position work c = ⊥
IsLastAct (tree.while_act cs) position work c = ⊥
IsLastAct (tree.when_act cs line) position work c = c ≡ arrives cs position work
IsLastAct (tree.cobegin bs line) position work c = c ≡ forks bs line work

-- the next piece of work is an arrival, a fork, or the end of a branch, and this is what is asked for
abbrev pub IsLast : List Work → Asks → Type 0
IsLast [] c = ⊥
IsLast (doing a position ∷ work) c = IsLastAct a position work c
IsLast (loop_end cs position ∷ work) c = ⊥
IsLast (procedure_end line ∷ work) c = ⊥
IsLast (branch_end ∷ work) c = c ≡ leaves
IsLast (program_entry ∷ work) c = ⊥
IsLast (program_end ∷ work) c = ⊥

abbrev pub IsOnward : Asks → Type 0
IsOnward (goes work) = ⊤
IsOnward (arrives cs position work) = ⊥
IsOnward (again cs position quiet work) = ⊥
IsOnward (forks bs line work) = ⊥
IsOnward leaves = ⊥

-- the last step of a stint does not go on
pub last_plain : (work : List Work) (c : Asks) → IsLast work c → IsOnward c → ⊥
last_plain [] c h o = h
last_plain (doing tree.skip position ∷ work) c h o = h
last_plain (doing (tree.assign x y) position ∷ work) c h o = h
last_plain (doing (tree.call f es line) position ∷ work) c h o = h
last_plain (doing (tree.halt line) position ∷ work) c h o = h
last_plain (doing (tree.if_act cs) position ∷ work) c h o = h
last_plain (doing (tree.while_act cs) position ∷ work) c h o = h
last_plain (doing (tree.when_act cs line) position ∷ work) c h o = subst IsOnward h o
last_plain (doing (tree.cobegin bs line) position ∷ work) c h o = subst IsOnward h o
last_plain (loop_end cs position ∷ work) c h o = h
last_plain (procedure_end line ∷ work) c h o = h
last_plain (branch_end ∷ work) c h o = subst IsOnward h o
last_plain (program_entry ∷ work) c h o = h
last_plain (program_end ∷ work) c h o = h

-- it goes on; or this is its last step, and no variable changes
abbrev pub AsksSo : List Work → World → Asks → World → Type 0
AsksSo work w c v = IsOnward c ⊎ (IsLast work c × (v.store ≡ w.store) × (v.system ≡ w.system))

abbrev So : List Work → World → Evaluation Asks → Type 0
So work w r = Gives (AsksSo work w) (λ ending system turns. ⊤) r

module _ (now : List Work) (start : World) where
  onward : {A : Type 0} (r : Evaluation A) (work : A → List Work) → So now start (r >>= λ a w. gives (goes (work a)) w)
  onward (gives a w) work = inl tt
  onward (ends e system turns) work = tt

  turned : (n : ℕ) (w : World) (go : World → Evaluation Asks) → ((m : ℕ) → So now start (go (record w { turns = m }))) → So now start (turn_from n w go)
  turned zero w go h = tt
  turned (suc n) w go h = h n

  module _ (unit : ProgramUnit) (p : Name) (size : ℕ) where
    called_so : (c : Closure) (cells : List Cell) (line : ℕ) (work : List Work) (w : World) → So now start (called unit p size c cells line work w)
    called_so (system_procedure number) cells line work w = onward (system_call number cells line w) (λ _. work)
    called_so (block_procedure number parent) cells line work w =
        if_either (So now start) (nat_lt (room size (shape w.store p)) (block_at unit.blocks number).need) _ _ tt (turned w.turns w _ (λ m. inl tt))

    arguments_so : (c : World → Closure) (line : ℕ) (work : List Work) (r : Evaluation (List Cell)) → So now start (r >>= λ cells w. called unit p size (c w) cells line work w)
    arguments_so c line work (gives cells w) = called_so (c w) cells line work w
    arguments_so c line work (ends e system turns) = tt

module _ (unit : ProgramUnit) (p : Name) (size : ℕ) where
  statement_so : (a : Act) (position : Position) (work : List Work) (w : World) → So (doing a position ∷ work) w (statement_step unit p size a position work w)
  statement_so tree.skip position work w = inl tt
  statement_so (tree.assign v e) position work w = onward (doing (tree.assign v e) position ∷ work) w (whole_assignment unit p size v e w) (λ _. work)
  statement_so (tree.call c es line) position work w =
      arguments_so (doing (tree.call c es line) position ∷ work) w unit p size (meant unit p size c) line work (whole_arguments unit p size es w)
  statement_so (tree.halt line) position work w = tt
  statement_so (tree.if_act cs) position work w = onward (doing (tree.if_act cs) position ∷ work) w (chosen unit p size cs 0 w) (λ c. with_chosen position c [] work)
  statement_so (tree.while_act cs) position work w =
      onward (doing (tree.while_act cs) position ∷ work) w (chosen unit p size cs 0 w) (λ c. with_chosen position c (loop_end cs position ∷ []) work)
  statement_so (tree.when_act cs line) position work w =
      turned (doing (tree.when_act cs line) position ∷ work) w w.turns w _ (λ m. inr (refl, refl, refl))
  statement_so (tree.cobegin bs line) position work w = inr (refl, refl, refl)

  work_so : (work : List Work) (w : World) → So work w (work_step unit p size work w)
  work_so [] w = tt
  work_so (doing a position ∷ work) w = statement_so a position work w
  work_so (loop_end cs position ∷ work) w = turned (loop_end cs position ∷ work) w w.turns w _ (λ m. inl tt)
  work_so (procedure_end line ∷ work) w = turned (procedure_end line ∷ work) w w.turns w _ (λ m. inl tt)
  work_so (branch_end ∷ work) w = turned (branch_end ∷ work) w w.turns w _ (λ m. inr (refl, refl, refl))
  work_so (program_entry ∷ work) w = turned (program_entry ∷ work) w w.turns w _ (λ m. inl tt)
  work_so (program_end ∷ work) w = turned (program_end ∷ work) w w.turns w _ (λ m. tt)

  -- WHAT A READY PROCESS ASKS FOR
  pub asks_so : (work : List Work) (w : World) (c : Asks) (v : World) → work_step unit p size work w ≡ gives c v → AsksSo work w c v
  asks_so work w c v e = go (work_step unit p size work w) e (work_so work w)
    where
      asked : (d : Asks) (u : World) → gives d u ≡ gives c v → d ≡ c
      asked d u f = cc

      left : (d : Asks) (u : World) → gives d u ≡ gives c v → u ≡ v
      left d u f = cc

      go : (r : Evaluation Asks) → r ≡ gives c v → So work w r → AsksSo work w c v
      go (gives d u) f h = subst (λ (z : Asks). AsksSo work w z v) (asked d u f) (subst (λ (z : World). AsksSo work w d z) (left d u f) h)
      go (ends ending system turns) f h = absurd (cc)

  -- the last step asks for what it is, or turns have run out
  asked_is : (c d : Asks) (w v : World) → gives c w ≡ gives d v → d ≡ c
  asked_is c d w v e = cc

  turned_is : (n : ℕ) (w : World) (c d : Asks) (v : World) → turn_from n w (gives c) ≡ gives d v → d ≡ c
  turned_is zero w c d v e = absurd (cc)
  turned_is (suc n) w c d v e = asked_is c d (record w { turns = n }) v e

  pub last_asks : (work : List Work) (c : Asks) → IsLast work c → (w : World) (d : Asks) (v : World) → work_step unit p size work w ≡ gives d v → d ≡ c
  last_asks [] c h w d v e = absurd h
  last_asks (doing tree.skip position ∷ work) c h w d v e = absurd h
  last_asks (doing (tree.assign x y) position ∷ work) c h w d v e = absurd h
  last_asks (doing (tree.call f es line) position ∷ work) c h w d v e = absurd h
  last_asks (doing (tree.halt line) position ∷ work) c h w d v e = absurd h
  last_asks (doing (tree.if_act cs) position ∷ work) c h w d v e = absurd h
  last_asks (doing (tree.while_act cs) position ∷ work) c h w d v e = absurd h
  last_asks (doing (tree.when_act cs line) position ∷ work) c h w d v e = turned_is w.turns w (arrives cs position work) d v e ∙ sym h
  last_asks (doing (tree.cobegin bs line) position ∷ work) c h w d v e = asked_is (forks bs line work) d w v e ∙ sym h
  last_asks (loop_end cs position ∷ work) c h w d v e = absurd h
  last_asks (procedure_end line ∷ work) c h w d v e = absurd h
  last_asks (branch_end ∷ work) c h w d v e = turned_is w.turns w leaves d v e ∙ sym h
  last_asks (program_entry ∷ work) c h w d v e = absurd h
  last_asks (program_end ∷ work) c h w d v e = absurd h

  -- how an evaluation ends
  abbrev end_of : Evaluation Asks → Ending
  end_of (gives c w) = outcome.turns
  end_of (ends e system turns) = e

  turned_ends : (n : ℕ) (w : World) (c : Asks) (e : Ending) (system : Traced) (turns : ℕ) → turn_from n w (gives c) ≡ ends e system turns → e ≡ outcome.turns
  turned_ends zero w c e system turns g = sym (ap end_of g)
  turned_ends (suc n) w c e system turns g = absurd (cc)

  pub last_ends : (work : List Work) (c : Asks) → IsLast work c → (w : World) (e : Ending) (system : Traced) (turns : ℕ) →
      work_step unit p size work w ≡ ends e system turns → e ≡ outcome.turns
  last_ends [] c h w e system turns g = absurd h
  last_ends (doing tree.skip position ∷ work) c h w e system turns g = absurd h
  last_ends (doing (tree.assign x y) position ∷ work) c h w e system turns g = absurd h
  last_ends (doing (tree.call f es line) position ∷ work) c h w e system turns g = absurd h
  last_ends (doing (tree.halt line) position ∷ work) c h w e system turns g = absurd h
  last_ends (doing (tree.if_act cs) position ∷ work) c h w e system turns g = absurd h
  last_ends (doing (tree.while_act cs) position ∷ work) c h w e system turns g = absurd h
  last_ends (doing (tree.when_act cs line) position ∷ work) c h w e system turns g = turned_ends w.turns w (arrives cs position work) e system turns g
  last_ends (doing (tree.cobegin bs line) position ∷ work) c h w e system turns g = absurd (cc)
  last_ends (loop_end cs position ∷ work) c h w e system turns g = absurd h
  last_ends (procedure_end line ∷ work) c h w e system turns g = absurd h
  last_ends (branch_end ∷ work) c h w e system turns g = turned_ends w.turns w leaves e system turns g
  last_ends (program_entry ∷ work) c h w e system turns g = absurd h
  last_ends (program_end ∷ work) c h w e system turns g = absurd h
