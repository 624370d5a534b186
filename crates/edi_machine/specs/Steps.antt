-- Words of contracts. What a step answers and leaves, where the definition of the machine gives its instruction this effect.
use Rattle.std.specs.Prelude.{◌≡◌, ◌<◌, ◌≤◌, ℕ, Bool, true, false, ◌&&◌, nat_eq, List, length, Option, Some, None, ⊤}
use Rattle.std.specs.List.{All}
use Rattle.edi_told.specs.Faults.{CountRose}
use Rattle.edi_told.specs.Told.{WhereTold}
use Rattle.edi_calls.specs.declared.ends.Outside.{Outside}
use Rattle.edi_calls.specs.declared.kinds.Cause.TheVariants as cause
use Rattle.edi_calls.specs.State.{State}
use Rattle.edi_calls.specs.Calls.{CallResult, answered, no_file, file_limit, answer_words, call}
use Rattle.edi_calls.specs.Ends.{IsTorn, IsUsed, answer_values, uses_file}
use Rattle.edi_store.specs.Memory.{written}
use Rattle.edi_target.specs.Fetch.{fetch}
use Rattle.edi_target.specs.Effect.{Local, Turn, entering, leaving, looping, arriving, again, forking, exiting, finishing, Effect, goes, released, asks, due}
use Rattle.edi_target.specs.Effect.{fails, bad}
use Rattle.edi_target.specs.Mach.{effect_at, answer_at}
use Rattle.edi_machine.specs.declared.ends.TurnKind.{TurnKind}
use Rattle.edi_machine.specs.declared.ends.TurnKind.TheVariants as kind
use Rattle.edi_machine.specs.declared.ends.StepEnd.{StepEnd}
use Rattle.edi_machine.specs.declared.ends.StepEnd.TheVariants as end
use Rattle.edi_machine.specs.Starts.{IsFork, branches_at}

-- the effect of the instruction at the program counter, in the code of these words
abbrev pub effect_of : (words : List ℕ) → (live : ℕ) → (is_first : Bool) → Local → Effect
effect_of words live is_first l = effect_at (fetch words) (fetch words l.pc) live is_first l

-- the kind of a turn of the instruction at this address
abbrev pub kind_of : (at : ℕ) → Turn → TurnKind
kind_of at entering = kind.Enter
kind_of at leaving = kind.End
kind_of at looping = kind.Loop
kind_of at arriving = kind.Arrive
kind_of at (again marks) = kind.Again marks
kind_of at (forking branches) = kind.Fork at
kind_of at exiting = kind.Exit
kind_of at finishing = kind.ProgramEnd

-- the activity goes on, or a turn of the same kind is due, with the words and the activity of the effect; or the
-- instruction fails or is refused, and nothing has changed
abbrev pub Gives : Effect → StepEnd → (before after : Local) → Type 0
Gives (goes l) end.On before after = after ≡ l
Gives (released l) end.On before after = after ≡ l
Gives (due turn l) (end.Turn kind) before after = (kind ≡ kind_of before.pc turn) × (after ≡ l)
Gives (fails cause line) (end.Fail c at) before after = (c ≡ cause) × (at ≡ line) × (after ≡ before)
Gives bad (end.Bad at) before after = (at ≡ before.pc) × (after ≡ before)
Gives _ _ before after = ⊥

-- ---- system calls

-- a call that was to be answered was torn by an object outside
abbrev pub Tears : CallResult → (before after : State) → Type 0
Tears (answered words next) before after = IsTorn before next after
Tears _ before after = ⊥

-- The call of this number was made with these words. Where it was answered the activity goes on with the answer at the
-- address. Where it was refused the program fails, and neither the activity nor the system has changed. Where an object
-- outside failed the activity has not changed. Whether or not the state is told, the answer words are characters or truth
-- values as the number says, and only a call of a number that may be refused so is refused.
abbrev pub Calls : (number : ℕ) → (arguments : List ℕ) → (address : Option ℕ) → (line : ℕ) → Local → StepEnd → (before after : Local)
    → (old new : Option State) → Type 0
Calls number arguments address line l end.On before after old new =
    (answer : List ℕ) × (length answer ≡ answer_words number) × (after ≡ answer_at address answer l)
    × WhereTold old new (λ s t. call number arguments s ≡ answered answer t) × All (λ word. word < answer_values number) answer
Calls number arguments address line l (end.Fail cause.NoFile at) before after old new =
    (at ≡ line) × (after ≡ before) × WhereTold old new (λ s t. (call number arguments s ≡ no_file) × (t ≡ s)) × (uses_file number ≡ true)
Calls number arguments address line l (end.Fail cause.FileLimit at) before after old new =
    (at ≡ line) × (after ≡ before) × WhereTold old new (λ s t. (call number arguments s ≡ file_limit) × (t ≡ s)) × (number ≡ 8)
Calls number arguments address line l end.Fault before after old new =
    (after ≡ before) × WhereTold old new (λ s t. Tears (call number arguments s) s t)
Calls _ _ _ _ _ _ before after old new = ⊥

-- an address for an answer is there where the call of this number has one
abbrev pub HasAnswer : Option ℕ → (number : ℕ) → Type 0
HasAnswer None number = answer_words number ≡ 0
HasAnswer (Some address) number = answer_words number ≡ 1

-- the memory with the answer at the address for it
abbrev pub answered_at : Option ℕ → (memory words : List ℕ) → List ℕ
answered_at None memory words = memory
answered_at (Some address) memory words = written memory address words

-- ---- a step

-- what a step with this effect answers, and leaves of the activity and of the system
abbrev pub Takes : Effect → StepEnd → (before after : Local) → (old new : Option State) → Type 0
Takes (asks number arguments address line l) answer before after old new =
    Calls number arguments address line l answer before after old new
Takes effect answer before after old new = Gives effect answer before after

-- only a system call changes the object that has the system
abbrev pub Keeps : {X : Type 0} → Effect → X → X → Type 0
Keeps (asks number arguments address line l) old new = ⊤
Keeps effect old new = new ≡ old

-- an object outside has failed exactly at a fault, and its count of faults rose in this step
abbrev pub Blames : StepEnd → (failed : Option Outside → Type 0) → (old new : Outside → ℕ) → Type 0
Blames end.Fault failed old new = (outside : Outside) × failed (Some outside) × CountRose (old outside) (new outside)
Blames _ failed old new = failed None

-- what has failed is an object that the call uses, where the instruction makes one
abbrev pub UsesFailed : Effect → (failed : Option Outside → Type 0) → Type 0
UsesFailed (asks number arguments address line l) failed = IsUsed number failed
UsesFailed effect failed = ⊤

-- All that a step tells of the activity and of the object that has the system, where its instruction has this effect: the words of
-- the object's trait come first.
pub record Stepped {X : Type 0} (state : X → Option State) (failed : X → Option Outside → Type 0) (faults : X → Outside → ℕ)
    (references_of : X → List ℕ) (leads_to : X → X → Type 0) (effect : Effect) (answer : StepEnd) (before after : Local) (old new : X) : Type 0 where
  pub exact : Takes effect answer before after (state old) (state new)
  pub keeps : Keeps effect old new
  pub later : (outside : Outside) → faults old outside ≤ faults new outside
  pub blame : Blames answer (failed new) (faults old) (faults new)
  pub used : UsesFailed effect (failed new)
  pub references : references_of new ≡ references_of old
  pub leads : (start : X) → leads_to start old → leads_to start new

-- the effect ends a critical phase
abbrev pub is_released : Effect → Bool
is_released (released l) = true
is_released _ = false

-- a critical phase ended: the activity goes on, and held went from 1 to 0
abbrev pub ends_phase : StepEnd → (before after : Local) → Bool
ends_phase end.On before after = nat_eq before.held 1 && nat_eq after.held 0
ends_phase _ before after = false

-- the branches of a fork are those of the COBEGIN at this address
abbrev pub Forks : Effect → (words : List ℕ) → (at : ℕ) → Type 0
Forks (due (forking branches) l) words at = IsFork words at branches l
Forks _ words at = ⊤

-- after the turn of a fork the branches of the COBEGIN there can begin
abbrev pub CanFork : StepEnd → (words : List ℕ) → Local → Type 0
CanFork (end.Turn (kind.Fork at)) words parent = IsFork words at (branches_at words at) parent
CanFork _ words parent = ⊤
