-- What a step's answer tells of its effect.
use Rattle.std.proofs.Common.{◌≡◌, ℕ, ◌+◌, Bool, true, false, nat_eq, if◌then◌else◌, List, drop, Option, Some, None, refl, sym, ap, ap₂, subst, ◌∙◌, inl, inr}
use Rattle.std.specs.Prelude.{◌&&◌, ◌⊎◌, ⊤}
use Rattle.std.proofs.lemmas.Bool.{cases_eq, ne_eqb}
use Rattle.edi_calls.specs.State.{State}
use Rattle.edi_target.specs.Op.{Instruction, Branch, is_allowed}
use Rattle.edi_target.specs.Fetch.{fetch}
use Rattle.edi_target.specs.Decode.{decode, if_allowed, shaped}
use Rattle.edi_target.specs.Effect.{Local, Effect, forking, goes, released, asks, due}
use Rattle.edi_target.specs.Effect.{fails, bad}
use Rattle.edi_target.specs.Mach.{answer_at, effect_at}
use Rattle.edi_machine.specs.declared.ends.TurnKind.TheVariants as kind
use Rattle.edi_machine.specs.declared.ends.StepEnd.{StepEnd}
use Rattle.edi_machine.specs.declared.ends.StepEnd.TheVariants as end
use Rattle.edi_machine.specs.Numbers.{placed}
use Rattle.edi_machine.specs.Starts.{IsFork, branches_at}
use Rattle.edi_machine.specs.Steps.{CanFork, Forks, Takes, effect_of, ends_phase, is_released}
use Rattle.edi_machine.proofs.Laws.{Lawful, each_law}

pub never_both : (n : ℕ) → (nat_eq n 1 && nat_eq n 0) ≡ false
never_both n =
    elim (cases_eq n 1) [
      | inl one ↦ rw one refl
      | inr other ↦ ap (λ (b : Bool). b && nat_eq n 0) (ne_eqb n 1 other)
    ]

answer_held : (address : Option ℕ) (answer : List ℕ) (l : Local) → (answer_at address answer l).held ≡ l.held
answer_held None answer l = refl
answer_held (Some address) answer l = refl

-- held went from one number to another
pub went : (before after : ℕ) → after ≡ before → (nat_eq before 1 && nat_eq after 0) ≡ false
went before after same = ap (λ (n : ℕ). nat_eq before 1 && nat_eq n 0) same ∙ never_both before

pub ended : (before after : ℕ) → before ≡ 1 → after ≡ 0 → (nat_eq before 1 && nat_eq after 0) ≡ true
ended before after one none = ap₂ (λ (m n : ℕ). nat_eq m 1 && nat_eq n 0) one none

-- an activity that goes on with held gone from 1 to 0 has ended a phase, and no other has
pub phase_told : (words : List ℕ) (at : ℕ) (answer : StepEnd) (e : Effect) (before after : Local) (old new : Option State) → Takes e answer before after old
    new → Lawful words at before.held e → ends_phase answer before after ≡ is_released e
phase_told words at end.On (goes l) before after old new takes law = went before.held after.held (ap (λ (m : Local). m.held) takes ∙ law)
phase_told words at end.On (released l) before after old new takes law = ended before.held after.held law.0 (ap (λ (m : Local). m.held) takes ∙ law.1)
phase_told words at end.On (asks number arguments address line l) before after old new takes law = went before.held after.held
    (ap (λ (m : Local). m.held) takes.2 ∙ answer_held address takes.0 l ∙ law)
phase_told words at end.On (due turn l) before after old new takes law = absurd takes
phase_told words at end.On (fails c line) before after old new takes law = absurd takes
phase_told words at end.On bad before after old new takes law = absurd takes
phase_told words at answer (released l) before after old new takes law = absurd takes
phase_told words at answer e before after old new takes law = refl

-- an activity that goes on has as many phases and calls as before, or has ended its phase
abbrev pub StaysHeld : StepEnd → (before after : ℕ) → Type 0
StaysHeld end.On before after = (after ≡ before) ⊎ ((before ≡ 1) × (after ≡ 0))
StaysHeld answer before after = ⊤

stays_held : (words : List ℕ) (at : ℕ) (answer : StepEnd) (e : Effect) (before after : Local) (old new : Option State) → Takes e answer before after old new
    → Lawful words at before.held e → StaysHeld answer before.held after.held
stays_held words at end.On (goes l) before after old new takes law = inl (ap (λ (m : Local). m.held) takes ∙ law)
stays_held words at end.On (released l) before after old new takes law = inr (law.0, ap (λ (m : Local). m.held) takes ∙ law.1)
stays_held words at end.On (asks number arguments address line l) before after old new takes law =
    inl (ap (λ (m : Local). m.held) takes.2 ∙ answer_held address takes.0 l ∙ law)
stays_held words at end.On (due turn l) before after old new takes law = absurd takes
stays_held words at end.On (fails c line) before after old new takes law = absurd takes
stays_held words at end.On bad before after old new takes law = absurd takes
stays_held words at (end.Turn k) e before after old new takes law = tt
stays_held words at (end.Fail c line) e before after old new takes law = tt
stays_held words at (end.Bad pc) e before after old new takes law = tt
stays_held words at end.Fault e before after old new takes law = tt

-- a fork is that of the COBEGIN here
pub forks_here : (words : List ℕ) (at held : ℕ) (e : Effect) → Lawful words at held e → Forks e words at
forks_here words at held (due (forking branches) l) law = law
forks_here words at held e law = tt

fork_stands : (words : List ℕ) (at pc : ℕ) (branches : List Branch) (l after : Local) → at ≡ pc → after ≡ l → IsFork words pc branches l
    → IsFork words at (branches_at words at) after
fork_stands words at pc branches l after same is fork =
    let P : ℕ → List Branch → Local → Type 0 = λ n bs m. IsFork words n bs m in
    subst (λ (n : ℕ). P n (branches_at words n) after) (sym same)
    (subst (λ (bs : List Branch). P pc bs after) (sym fork.here) (subst (λ (m : Local). P pc branches m) (sym is) fork))

-- what a fork's turn leaves can fork
pub can_fork : (words : List ℕ) (answer : StepEnd) (e : Effect) (before after : Local) (old new : Option State) → Takes e answer before after old new
    → Forks e words before.pc → CanFork answer words after
can_fork words (end.Turn (kind.Fork at)) (goes l) before after old new takes fork = absurd takes
can_fork words (end.Turn (kind.Fork at)) (released l) before after old new takes fork = absurd takes
can_fork words (end.Turn (kind.Fork at)) (asks number arguments address line l) before after old new takes fork = absurd takes
can_fork words (end.Turn (kind.Fork at)) (due (forking branches) l) before after old new takes fork =
    let same : kind.Fork at ≡ kind.Fork before.pc = takes.0 in
    fork_stands words at before.pc branches l after (cc) takes.1 fork
can_fork words (end.Turn (kind.Fork at)) (due turn l) before after old new takes fork = let other = takes.0 in absurd (cc)
can_fork words (end.Turn (kind.Fork at)) (fails cause line) before after old new takes fork = absurd takes
can_fork words (end.Turn (kind.Fork at)) bad before after old new takes fork = absurd takes
can_fork words (end.Turn k) e before after old new takes fork = tt
can_fork words answer e before after old new takes fork = tt

-- ---- the effect of what stands at the program counter

some_is : (x y : Instruction × ℕ) → Some x ≡ Some y → x ≡ y
some_is x y e = cc

allowed_of : (x : Option (Instruction × ℕ)) (at : ℕ) (found : Instruction × ℕ) → placed at (if_allowed x) ≡ Some found → is_allowed found.0 ≡ true
allowed_of None at found e = absurd (cc)
allowed_of (Some y) at found e = by_test (is_allowed y.0) refl e
  where
    by_test : (b : Bool) → is_allowed y.0 ≡ b → placed at (if◌then◌else◌ {A = Option (Instruction × ℕ)} b (Some y) None) ≡ Some found
        → is_allowed found.0 ≡ true
    by_test true t e = subst (λ (z : Instruction × ℕ). is_allowed z.0 ≡ true) (some_is (y.0, at + y.1) found e) t
    by_test false t e = absurd (cc)

allowed_there : (words : List ℕ) (at : ℕ) (found : Instruction × ℕ) → fetch words at ≡ Some found → is_allowed found.0 ≡ true
unfolding decode
allowed_there words at found here = allowed_of (shaped (drop at words)) at found here

-- each effect is lawful
module _ (code words : List ℕ) (live : ℕ) (is_first : Bool) (l : Local) (same : words ≡ code) where
  law_of : (x : Option (Instruction × ℕ)) → fetch words l.pc ≡ x → Lawful words l.pc l.held (effect_at (fetch words) x live is_first l)
  law_of None here = tt
  law_of (Some (i, next)) here = (each_law words l.pc live is_first i next l here (allowed_there words l.pc (i, next) here)).law

  law : Lawful words l.pc l.held (effect_of words live is_first l)
  law = law_of (fetch words l.pc) refl

  pub phase_of_step : (answer : StepEnd) (after : Local) (old new : Option State) → Takes (effect_of words live is_first l) answer l after old new
      → ends_phase answer l after ≡ is_released (effect_of code live is_first l)
  phase_of_step answer after old new takes =
      phase_told words l.pc answer (effect_of words live is_first l) l after old new takes law
      ∙ ap (λ (ws : List ℕ). is_released (effect_of ws live is_first l)) same

  pub held_of_step : (answer : StepEnd) (after : Local) (old new : Option State) → Takes (effect_of words live is_first l) answer l after old new
      → StaysHeld answer l.held after.held
  held_of_step answer after old new takes = stays_held words l.pc answer (effect_of words live is_first l) l after old new takes law

  pub branches_of_step : (answer : StepEnd) (after : Local) (old new : Option State) → Takes (effect_of words live is_first l) answer l after old new
      → CanFork answer code after
  branches_of_step answer after old new takes =
      subst (λ (ws : List ℕ). CanFork answer ws after) same
      (can_fork words answer (effect_of words live is_first l) l after old new takes (forks_here words l.pc l.held (effect_of words live is_first l) law))

  pub fork_of_step : Forks (effect_of code live is_first l) code l.pc
  fork_of_step =
      subst (λ (ws : List ℕ). Forks (effect_of ws live is_first l) ws l.pc) same
      (forks_here words l.pc l.held (effect_of words live is_first l) law)
