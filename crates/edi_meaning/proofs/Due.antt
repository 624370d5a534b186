-- A process has as many instances as its work has yet to leave.
use Rattle.std.proofs.Common.{◌≡◌, ℕ, zero, suc, ◌-◌, ◌<◌, ◌⊎◌, inl, inr, List, [], ◌∷◌, ◌++◌, map, take, length, length-append, Option, Some, None, refl}
use Rattle.std.proofs.Common.{sym, subst, ap, ◌∙◌, arith}
use Rattle.std.specs.Prelude.{⊤, nat_lt}
use Rattle.std.proofs.lemmas.List.{length-take}
use Rattle.edi_calls.specs.Names.{Name, with_at}
use Rattle.edi_calls.specs.Outcome as outcome
use Rattle.edi_unit.specs.Need.{block_at}
use Rattle.edi_unit.specs.Tree as tree
use Rattle.edi_unit.specs.Tree.{Act, Acts, Clauses, ProgramUnit}
use Rattle.edi_meaning.specs.Store.{Closure, system_procedure, block_procedure, Cell, procedure, Instance, Store, Shape, instances, frames, shape, room}
use Rattle.edi_meaning.specs.Store.{grown, shrunk}
use Rattle.edi_meaning.specs.Evaluation.{World, Evaluation, gives}
use Rattle.edi_meaning.specs.Whole.{meant, instance_of}
use Rattle.edi_meaning.specs.Step.{Position, inside, Work, doing, loop_end, procedure_end, branch_end, program_entry, program_end, doing_all, body_of}
use Rattle.edi_meaning.specs.Step.{Standing, ready, at_when, waiting, Asks, goes, arrives, again, forks, leaves, chosen, with_chosen, called, statement_step}
use Rattle.edi_meaning.specs.Step.{work_step, attempt, local_step, awaits}
use Rattle.edi_meaning.proofs.Lasting.{Every, Any, Lasting, Keeps, At, give, stop, bind, turn_keeps, if_keeps, system_keeps, whole_arguments_keep}
use Rattle.edi_meaning.proofs.Lasting.{whole_assignment_keeps, whole_condition_keeps, whole_first_keeps}
use Rattle.edi_meaning.proofs.Own.{instances-same}
use Rattle.edi_meaning.proofs.Frames.{HasShape, own_shape, framing, length-frames, shape-grown}

-- with this work p has d instances: at its end, a branch's or the program's, it has one; the program's entry is for the first
-- process, which then has none; and some work is always left
abbrev pub Due : Name → List Work → ℕ → Type 0
Due p [] d = ⊥
Due p (doing a position ∷ work) d = (0 < d) × Due p work d
Due p (loop_end cs position ∷ work) d = (0 < d) × Due p work d
Due p (procedure_end line ∷ work) d = (1 < d) × Due p work (d - 1)
Due p (branch_end ∷ work) d = 0 < d
Due p (program_entry ∷ work) d = (p ≡ []) × (d ≡ 0) × Due p work 1
Due p (program_end ∷ work) d = 0 < d

-- the same of a process with its standing
abbrev pub DueAs : Name → Standing → List Work → ℕ → Type 0
DueAs p ready work d = Due p work d
DueAs p (at_when cs position) work d = (0 < d) × Due p work d
DueAs p (waiting n) work d = (0 < d) × Due p work d

-- a process has an instance, or is the first at its entry
pub due_some : (p : Name) (work : List Work) (d : ℕ) → Due p work d → (0 < d) ⊎ ((rest : List Work) × (work ≡ program_entry ∷ rest) × (p ≡ []) × (d ≡ 0))
due_some p [] d h = absurd h
due_some p (doing a position ∷ work) d h = inl h.0
due_some p (loop_end cs position ∷ work) d h = inl h.0
due_some p (procedure_end line ∷ work) d h = inl (omega (arith, h.0))
due_some p (branch_end ∷ work) d h = inl h
due_some p (program_entry ∷ work) d h = inr (work, refl, h.0, h.1)
due_some p (program_end ∷ work) d h = inl h

pub due_all : (p : Name) (s : Acts) (position : Position) (n : ℕ) (work : List Work) (d : ℕ) → 0 < d → Due p work d → Due p (doing_all s position n work) d
due_all p tree.no_act position n work d h k = k
due_all p (tree.act_then a as') position n work d h k = (h, due_all p as' position (suc n) work d h k)

-- a parent that waits for one child less
pub due_awaits : (p : Name) (work : List Work) (d n : ℕ) → (0 < d) × Due p work d → DueAs p (awaits n) work d
due_awaits p work d zero h = h.1
due_awaits p work d (suc n) h = h

-- what a local step asks for, with the instances that it leaves
abbrev pub DueAsks : Name → Asks → World → Type 0
DueAsks p (goes work) w = Due p work (length (shape w.store p))
DueAsks p (arrives cs position work) w = (0 < length (shape w.store p)) × Due p work (length (shape w.store p))
DueAsks p (again cs position quiet work) w = (0 < length (shape w.store p)) × Due p work (length (shape w.store p))
DueAsks p (forks bs line work) w = (0 < length (shape w.store p)) × Due p work (length (shape w.store p))
DueAsks p leaves w = ⊤

length-grown : (p : Name) (i : Instance) (store : Store) → length (shape (grown p i store) p) ≡ suc (length (shape store p))
length-grown p i store = ap length (shape-grown p i store) ∙ (omega (arith, length-append (shape store p) (i.frame ∷ [])))

length-shrunk : (p : Name) (store : Store) → length (shape (shrunk p store) p) ≡ length (shape store p) - 1
length-shrunk p store =
    omega (
      arith,
      length-frames (instances (shrunk p store) p),
      ap length (instances-same store p (take (length (instances store p) - 1) (instances store p))),
      length-take (length (instances store p) - 1) (instances store p),
      length-frames (instances store p),
    )

module _ (unit : ProgramUnit) (p : Name) (size : ℕ) (F : Shape) where
  abbrev s : Lasting unit p size
  s = framing unit p size

  abbrev Rests : Evaluation Asks → Type 0
  Rests r = Keeps s (DueAsks p) r

  number : (w : World) → HasShape F w.store → length (F p) ≡ length (shape w.store p)
  number w h = ap length (sym (h.each p))

  on : (work : List Work) (w : World) → HasShape F w.store → Due p work (length (F p)) → Rests (gives (goes work) w)
  on work w h d = give s _ _ w (subst (Due p work) (number w h) d)

  both : (work : List Work) (w : World) → HasShape F w.store → (0 < length (F p)) × Due p work (length (F p)) → (0 < length (shape w.store p))
      × Due p work (length (shape w.store p))
  both work w h d = subst (λ n. (0 < n) × Due p work n) (number w h) d

  chosen_rests : (cs : Clauses) (n : ℕ) (w : World) → HasShape F w.store → Keeps s (At s F Any) (chosen unit p size cs n w)
  chosen_rests tree.no_clause n w h = give s _ _ w (tt, h)
  chosen_rests (tree.clause_then (tree.clause e as') cs) n w h =
      bind s F Any _ _ _ (whole_condition_keeps s F e w h) (λ holds w _ h. if_keeps s _ holds _ _ (give s _ _ w (tt, h)) (chosen_rests cs (suc n) w h))

  due_chosen : (position : Position) (c : Option (Acts × ℕ)) (after work : List Work) (d : ℕ) → 0 < d → Due p work d → Due p (after ++ work) d
      → Due p (with_chosen position c after work) d
  due_chosen position None after work d l h k = h
  due_chosen position (Some c) after work d l h k = due_all p c.0 (inside position c.1) 0 (after ++ work) d l k

  called_rests : (c : Closure) (cells : List Cell) (line : ℕ) (work : List Work) (w : World) → HasShape F w.store → (0 < length (F p))
      × Due p work (length (F p)) → Rests (called unit p size c cells line work w)
  called_rests (system_procedure n) cells line work w h d = bind s F Any _ _ _ (system_keeps s F n cells line w (every_cell cells) h)
      (λ _ w _ h. on work w h d.1)
    where
      every_cell : (cells : List Cell) → Every Any cells
      every_cell [] = tt
      every_cell (c ∷ cs) = (tt, every_cell cs)
  called_rests (block_procedure n parent) cells line work w h d =
      if_keeps s _ (nat_lt (room size (shape w.store p)) (block_at unit.blocks n).need) _ _ (stop s F _ _ w tt h)
      (turn_keeps s F _ w.turns w _ refl h (λ w h.
      let i : Instance = instance_of unit p size n parent cells in
      let more : suc (length (F p)) ≡ length (shape (grown p i w.store) p) = ap suc (number w h) ∙ sym (length-grown p i w.store) in
      let same : length (F p) ≡ suc (length (F p)) - 1 = omega arith in
      give s _ _ _ (subst (Due p (body_of unit n (procedure_end line ∷ work))) more
      (due_all p (block_at unit.blocks n).body _ 0 (procedure_end line ∷ work) (suc (length (F p))) (omega arith)
      (omega (arith, d.0), subst (Due p work) same d.1)))))

  statement_rests : (a : Act) (position : Position) (work : List Work) (w : World) → HasShape F w.store → (0 < length (F p)) × Due p work (length (F p))
      → Rests (statement_step unit p size a position work w)
  statement_rests tree.skip position work w h d = on work w h d.1
  statement_rests (tree.assign v e) position work w h d = bind s F Any _ _ _ (whole_assignment_keeps s F v e w h) (λ _ w _ h. on work w h d.1)
  statement_rests (tree.call c es line) position work w h d =
      bind s F (Every Any) _ _ _ (whole_arguments_keep s F es w h) (λ cells w f h. called_rests (meant unit p size c w) cells line work w h d)
  statement_rests (tree.halt line) position work w h d = stop s F _ (outcome.halted line) w tt h
  statement_rests (tree.if_act cs) position work w h d =
      bind s F Any _ _ _ (chosen_rests cs 0 w h) (λ c w _ h. on _ w h (due_chosen position c [] work (length (F p)) d.0 d.1 d.1))
  statement_rests (tree.while_act cs) position work w h d =
      bind s F Any _ _ _ (chosen_rests cs 0 w h) (λ c w _ h. on _ w h (due_chosen position c (loop_end cs position ∷ []) work (length (F p)) d.0 d.1 d))
  statement_rests (tree.when_act cs line) position work w h d = turn_keeps s F _ w.turns w _ refl h (λ w h. give s _ _ w (both work w h d))
  statement_rests (tree.cobegin bs line) position work w h d = give s _ _ w (both work w h d)

  work_rests : (work : List Work) (w : World) → HasShape F w.store → Due p work (length (F p)) → Rests (work_step unit p size work w)
  work_rests [] w h d = absurd d
  work_rests (doing a position ∷ work) w h d = statement_rests a position work w h d
  work_rests (loop_end cs position ∷ work) w h d = turn_keeps s F _ w.turns w _ refl h (λ w h. on (doing (tree.while_act cs) position ∷ work) w h d)
  work_rests (procedure_end line ∷ work) w h d =
      turn_keeps s F _ w.turns w _ refl h (λ w h.
      let l : length (F p) ≡ length (shape w.store p) = number w h in
      let less : length (F p) - 1 ≡ length (shape (shrunk p w.store) p) = omega (arith, l, length-shrunk p w.store) in
      give s _ _ _ (subst (Due p work) less d.1))
  work_rests (branch_end ∷ work) w h d = turn_keeps s F _ w.turns w _ refl h (λ w h. give s _ _ w tt)
  work_rests (program_entry ∷ work) w h d =
      turn_keeps s F _ w.turns w _ refl h (λ w h.
      let i : Instance = instance_of unit p size unit.program ([], 0) (map (λ n. procedure (system_procedure n)) unit.calls) in
      let one : 1 ≡ length (shape (with_at w.store p (i ∷ [])) p) = sym (ap (λ is. length (frames is)) (instances-same w.store p (i ∷ []))) in
      give s _ _ _ (subst (Due p (body_of unit unit.program work)) one (due_all p (block_at unit.blocks unit.program).body _ 0 work 1 (omega arith) d.2)))
  work_rests (program_end ∷ work) w h d = turn_keeps s F _ w.turns w _ refl h (λ w h. stop s F _ outcome.done w tt h)

  attempt_rests : (cs : Clauses) (position : Position) (work : List Work) (w : World) → HasShape F w.store → (0 < length (F p)) × Due p work (length (F p))
      → Rests (attempt unit p size cs position work w)
  attempt_rests cs position work w h d =
      bind s F Any _ _ _ (whole_first_keeps s F cs w h)
      (λ ran w _ h. if_keeps s _ ran _ _ (on work w h d.1) (turn_keeps s F _ w.turns w _ refl h (λ w h. give s _ _ w (both work w h d))))

  local_rests : (standing : Standing) (work : List Work) (w : World) → HasShape F w.store → DueAs p standing work (length (F p))
      → Rests (local_step unit p size standing work w)
  local_rests ready work w h d = work_rests work w h d
  local_rests (at_when cs position) work w h d = attempt_rests cs position work w h d
  local_rests (waiting n) work w h d = record { is = tt }

-- a local step leaves as many instances as its work has yet to leave
pub local_due : (unit : ProgramUnit) (p : Name) (size : ℕ) (standing : Standing) (work : List Work) (w : World)
    → DueAs p standing work (length (shape w.store p)) → Keeps (framing unit p size) (DueAsks p) (local_step unit p size standing work w)
local_due unit p size standing work w d = local_rests unit p size (shape w.store) standing work w (own_shape w.store) d
