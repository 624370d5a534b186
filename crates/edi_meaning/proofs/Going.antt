-- Steps only take turns and input, and only add to what was shown and printed, and to the past of the system.
use Rattle.std.proofs.Common.{◌≡◌, ℕ, suc, List, [], ◌∷◌, ◌++◌, length, Option, Some, None, refl, sym, subst, ap, ◌∙◌, arith, append_assoc}
use Rattle.std.proofs.lemmas.List.{append-nil}
use Rattle.edi_calls.specs.Laws.{GoesOn}
use Rattle.edi_calls.specs.Names.{Name, find}
use Rattle.edi_calls.specs.State.{State, Traced, after_call, newest}
use Rattle.edi_calls.proofs.Lasting.{each_call_goes_on_all}
use Rattle.edi_unit.specs.Tree.{ProgramUnit}
use Rattle.edi_meaning.specs.Store.{shape, now}
use Rattle.edi_meaning.specs.Evaluation.{World}
use Rattle.edi_meaning.specs.Step.{waiting, Process, Processes, Stepped, went, ended, back, local_step, step_of, step}
use Rattle.edi_meaning.specs.Permitted.{may_step, Led, at, over, nowhere}
use Rattle.edi_meaning.specs.Permitted.{onward, permitted}
use Rattle.edi_meaning.specs.Laws.{Grows, GoesFrom, LedOn, StepsGoOn}
use Rattle.edi_meaning.proofs.Lasting.{Lasting}
use Rattle.edi_meaning.proofs.Worlds.{lasting}
use Rattle.edi_meaning.proofs.Local.{Moving, local_keeps}
use Rattle.edi_meaning.proofs.Work.{world_of_children}
use Rattle.edi_meaning.proofs.Kernel.{if_either, Handles, kernel_handles}

-- ---- of the system

abbrev Follows : List ℕ → List ℕ → Type 0
Follows before after = (more : List ℕ) × (after ≡ before ++ more)

follows_all : (a b c : List ℕ) → Follows a b → Follows b c → Follows a c
follows_all a b c h k = (h.0 ++ k.0, k.1 ∙ ap (λ l. l ++ k.0) h.1 ∙ append_assoc a h.0 k.0)

goes_on_same : (s : State) → GoesOn s s
goes_on_same s = record { input = ([], refl); shown = ([], sym (append-nil s.shown)); printed = ([], sym (append-nil s.printed)); slots = refl; blocks = refl }

pub goes_on_all : (s t u : State) → GoesOn s t → GoesOn t u → GoesOn s u
goes_on_all s t u h k = record {
  input = (h.input.0 ++ k.input.0, h.input.1 ∙ ap (λ l. h.input.0 ++ l) k.input.1 ∙ sym (append_assoc h.input.0 k.input.0 u.input));
  shown = follows_all s.shown t.shown u.shown h.shown k.shown;
  printed = follows_all s.printed t.printed u.printed h.printed k.printed;
  slots = k.slots ∙ h.slots;
  blocks = k.blocks ∙ h.blocks;
}

newest_again : (first : State) (news past : List State) → newest first (news ++ past) ≡ newest (newest first past) news
newest_again first [] past = refl
newest_again first (s ∷ news) past = refl

pub grows_all : (a b c : Traced) → Grows a b → Grows b c → Grows a c
grows_all a b c h k =
    (k.0 ++ h.0, k.1 ∙ ap (λ l. k.0 ++ l) h.1 ∙ sym (append_assoc k.0 h.0 a.past), newest_again a.now k.0 h.0 ∙ ap (λ s. newest s k.0) h.2 ∙ k.2)

pub goes_same : (w : World) → GoesFrom w w.system w.turns
goes_same w = (omega arith, goes_on_same w.system.now, ([], refl, refl))

pub goes_all : (w v : World) (system : Traced) (turns : ℕ) → GoesFrom w v.system v.turns → GoesFrom v system turns → GoesFrom w system turns
goes_all w v system turns h k = (omega (arith, h.0, k.0), goes_on_all w.system.now v.system.now system.now h.1 k.1, grows_all w.system v.system system h.2 k.2)

-- ---- of one process

abbrev pub going : (unit : ProgramUnit) (p : Name) (size : ℕ) (before : World) → Lasting unit p size
going unit p size before = lasting (record {
  Level = Unit {0};
  Holds = λ x w. GoesFrom before w.system w.turns;
  Ends = λ e system turns. GoesFrom before system turns;
  over = λ x e w o h. h;
  turned = λ x n w e h. (omega (arith, e, h.0), h.1, h.2);
  stored = λ x l v w h. h;
  replied = λ x number asked words system w e h. (
    h.0,
    goes_on_all before.system.now w.system.now system h.1 (each_call_goes_on_all number asked words w.system.now system e),
    grows_all before.system w.system (after_call system w.system) h.2 (system ∷ [], refl, refl),
  );
  called = λ x number parent cells w h. (tt, h, λ v k. k);
})

abbrev goes_further : (unit : ProgramUnit) (p : Name) (size : ℕ) (before : World) → Moving (going unit p size before) tt (λ w. GoesFrom before w.system w.turns)
goes_further unit p size before = record { stays = λ w h. h; grows = λ number parent cells w c f h. h; shrinks = λ w h. h; begins = λ w h. h }

-- ---- of all processes

abbrev StepGoes : World → Stepped → Type 0
StepGoes w (went t next quiet) = GoesFrom w t.world.system t.world.turns
StepGoes w (ended ending system turns) = GoesFrom w system turns

goes_by_kernel : (unit : ProgramUnit) (s : Processes) (p : Name) (q : Process) (before : World) → Handles unit s p q (λ a w. GoesFrom before w.system w.turns)
    (λ ending. GoesFrom before) (StepGoes before)
goes_by_kernel unit s p q before = record {
  of_end = λ ending system turns h. h;
  of_goes = λ work w h. h;
  of_arrives = λ cs position work w h. h;
  of_again = λ cs position quiet work w h. h;
  of_no_fork = λ bs line work w ending o h. h;
  of_fork = λ bs line work w n share e h.
      let same = world_of_children unit p (suc q.forks) 0 share (now (shape w.store) p) bs
      (back s p (record q { forks = suc q.forks; work = work; standing = waiting (length bs) }) (record w { turns = n })) in
      subst (λ v. GoesFrom before v.system v.turns) (sym same) (omega (arith, e, h.0), h.1, h.2);
  of_leaves = λ w k h. h;
  of_awaited = λ w y n e g h. h;
}

pub step_goes : (unit : ProgramUnit) (s : Processes) (p : Name) → StepGoes s.world (step unit s p)
step_goes unit s p = go (find s.live p)
  where
    go : (x : Option Process) → StepGoes s.world (step_of unit s p x)
    go None = goes_same s.world
    go (Some q) =
        kernel_handles unit s p q _ _ (StepGoes s.world) (goes_by_kernel unit s p q s.world) (local_step unit p q.size q.standing q.work s.world)
        (local_keeps (going unit p q.size s.world) tt (λ w. GoesFrom s.world w.system w.turns) (goes_further unit p q.size s.world) q.standing q.work s.world
        (λ idle v h. h) (goes_same s.world)).is

-- ---- along permitted steps

led_all : (w v : World) (x : Led) → GoesFrom w v.system v.turns → LedOn v x → LedOn w x
led_all w v (at s) h k = goes_all w v s.world.system s.world.turns h k
led_all w v (over ending system turns) h k = goes_all w v system turns h k
led_all w v nowhere h k = tt

onward_goes : (w : World) (x : Stepped) (names : List Name) (go : Processes → Led) → StepGoes w x → ((t : Processes) → LedOn t.world (go t))
    → LedOn w (onward x names go)
onward_goes w (went t next quiet) names go h k = led_all w t.world (go t) h (k t)
onward_goes w (ended ending system turns) [] go h k = h
onward_goes w (ended ending system turns) (p ∷ ps) go h k = tt

pub steps_go_on : StepsGoOn
steps_go_on unit [] s = goes_same s.world
steps_go_on unit (p ∷ ps) s = if_either (LedOn s.world) (may_step s p) _ nowhere
    (onward_goes s.world (step unit s p) ps (permitted unit ps) (step_goes unit s p) (λ t. steps_go_on unit ps t)) tt
