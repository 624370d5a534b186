-- Steps end the program by its turns only where none is left.
use Rattle.std.proofs.Common.{◌≡◌, ℕ, Bool, true, false, if◌then◌else◌, List, [], ◌∷◌, length, Option, Some, None, refl, sym, ap, ◌∙◌}
use Rattle.std.specs.Prelude.{⊤}
use Rattle.edi_calls.specs.Names.{Name, find}
use Rattle.edi_calls.specs.Outcome as outcome
use Rattle.edi_calls.specs.State.{Traced}
use Rattle.edi_unit.specs.Tree.{ProgramUnit}
use Rattle.edi_meaning.specs.Store.{shape}
use Rattle.edi_meaning.specs.Step.{Work, Standing, ready, at_when, waiting, Process, Processes, Stepped, went, ended, local_step, step, start}
use Rattle.edi_meaning.specs.Permitted.{is_running}
use Rattle.edi_meaning.specs.Permitted.{is_running_process, may_step, over, nowhere, onward, permitted}
use Rattle.edi_meaning.specs.Spent.{PermittedEndsSpent, SelectionEndsSpent}
use Rattle.edi_meaning.proofs.Lasting.{spent_over, Lasting}
use Rattle.edi_meaning.proofs.Worlds.{lasting}
use Rattle.edi_meaning.proofs.Local.{Moving, IsIdle, local_keeps}
use Rattle.edi_meaning.proofs.Kernel.{After, Handles, kernel_handles, of_process}
use Rattle.edi_meaning.proofs.Due.{DueAs}
use Rattle.edi_meaning.proofs.Dangling.{Coherent, step_coherent, start_coherent}
use Rattle.edi_meaning.proofs.Permitted.{select_is_permitted}

-- an end by turns leaves none
abbrev spending : (unit : ProgramUnit) (p : Name) (size : ℕ) → Lasting unit p size
spending unit p size = lasting (record {
  Level = Unit {0};
  Holds = λ x w. ⊤;
  Ends = λ e system turns. e ≡ outcome.turns → turns ≡ 0;
  over = λ x e w o h. spent_over e w.turns o;
  turned = λ x n w e h. tt;
  stored = λ x l v w h. tt;
  replied = λ x number asked words system w e h. tt;
  called = λ x number parent cells w h. (tt, tt, λ v k. tt);
})

abbrev moves : (unit : ProgramUnit) (p : Name) (size : ℕ) → Moving (spending unit p size) tt (λ w. ⊤)
moves unit p size = record {
  stays = λ w h. tt;
  grows = λ number parent cells w c f h. tt;
  shrinks = λ w h. tt;
  begins = λ w h. tt;
}

abbrev StepSpent : Stepped → Type 0
StepSpent (went t next quiet) = ⊤
StepSpent (ended ending system turns) = ending ≡ outcome.turns → turns ≡ 0

handles : (unit : ProgramUnit) (s : Processes) (p : Name) (q : Process) → Handles unit s p q (λ a w. ⊤)
    (λ ending system turns. ending ≡ outcome.turns → turns ≡ 0) StepSpent
handles unit s p q = record {
  of_end = λ ending system turns h. h;
  of_goes = λ work w h. tt;
  of_arrives = λ cs position work w h. tt;
  of_again = λ cs position quiet work w h. tt;
  of_no_fork = λ bs line work w ending o h. spent_over ending w.turns o;
  of_fork = λ bs line work w n share e h. tt;
  of_leaves = λ w k h. tt;
  of_awaited = λ w y n e g h. tt;
}

-- who may step and has work is not idle
never_idle : (p : Name) (standing : Standing) (work : List Work) (d : ℕ) → is_running standing ≡ true → DueAs p standing work d → IsIdle standing work → ⊥
never_idle p ready [] d may due idle = due
never_idle p ready (x ∷ work) d may due idle = idle
never_idle p (at_when cs position) work d may due idle = idle
never_idle p (waiting n) work d may due idle = absurd (cc)

step_spent : (unit : ProgramUnit) (s : Processes) (p : Name) (q : Process) → find s.live p ≡ Some q → is_running q.standing ≡ true → Coherent s
    → StepSpent (step unit s p)
step_spent unit s p q found may coherent =
    of_process unit s p q StepSpent found
    (kernel_handles unit s p q _ _ StepSpent (handles unit s p q) (local_step unit p q.size q.standing q.work s.world)
    (local_keeps (spending unit p q.size) tt (λ w. ⊤) (moves unit p q.size) q.standing q.work s.world
    (λ idle v h. absurd (never_idle p q.standing q.work (length (shape s.world.store p)) may (coherent.due p q found) idle)) tt).is)

-- ---- along permitted steps

module _ (unit : ProgramUnit) (end : Traced) (t : ℕ) where
  onward_spent : (x : Stepped) (names : List Name) → StepSpent x → After Coherent x
      → ((u : Processes) → Coherent u → permitted unit names u ≡ over outcome.turns end t → t ≡ 0) →
      onward x names (permitted unit names) ≡ over outcome.turns end t → t ≡ 0
  onward_spent (went u next quiet) names h c k e = k u c e
  onward_spent (ended ending system turns) [] h c k e =
      let by : ending ≡ outcome.turns = (cc) in
      let same : turns ≡ t = (cc) in
      sym same ∙ h by
  onward_spent (ended ending system turns) (r ∷ rs) h c k e = absurd (cc)

  permitted_spent : (names : List Name) (s : Processes) → Coherent s → permitted unit names s ≡ over outcome.turns end t → t ≡ 0
  permitted_spent [] s c e = absurd (cc)
  permitted_spent (p ∷ ps) s c e = tested (may_step s p) refl (λ u k f. permitted_spent ps u k f) e
    where
      tested : (b : Bool) → may_step s p ≡ b → ((u : Processes) → Coherent u → permitted unit ps u ≡ over outcome.turns end t → t ≡ 0) →
          (if b then onward (step unit s p) ps (permitted unit ps) else nowhere) ≡ over outcome.turns end t → t ≡ 0
      tested false m k e = absurd (cc)
      tested true m k e = of_found (find s.live p) refl
        where
          of_found : (x : Option Process) → find s.live p ≡ x → t ≡ 0
          of_found None f = let no : false ≡ true = sym (ap is_running_process f) ∙ m in absurd (cc)
          of_found (Some q) f =
              onward_spent (step unit s p) ps (step_spent unit s p q f (sym (ap is_running_process f) ∙ m) c) (step_coherent unit s p c) k e

pub permitted_ends_spent : PermittedEndsSpent
permitted_ends_spent unit system bound order end turns e = permitted_spent unit end turns order (start unit system bound) (start_coherent unit system bound) e

pub selection_ends_spent : SelectionEndsSpent
selection_ends_spent unit system bound choices end turns drawn order ends =
    permitted_ends_spent unit system bound order end turns (select_is_permitted unit system bound choices outcome.turns end turns drawn order ends)
