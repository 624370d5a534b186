-- A machine that reads fewer instructions does the same as long as it reads any: where its run stands still, the other run stands still in the same machine.
use Rattle.std.proofs.Common.{◌≡◌, ℕ, zero, suc, ◌⊎◌, inl, inr, Bool, true, false, if◌then◌else◌, List, [], ◌++◌, length, Option, Some, None, refl, sym, ap, ◌∙◌}
use Rattle.std.specs.Prelude.{nat_eq, nat_le, ◌+◌, ◌^◌}
use Rattle.edi_calls.specs.Choice.{Choices}
use Rattle.edi_calls.specs.Names.{Name, find}
use Rattle.edi_calls.specs.Outcome as outcome
use Rattle.edi_calls.specs.Ready.{stays, joins, Taking, nobody, taking, take_next}
use Rattle.edi_calls.specs.State.{State}
use Rattle.edi_target.specs.Op as op
use Rattle.edi_target.specs.Op.{Instruction, address_of_words}
use Rattle.edi_target.specs.Memory.{word, level}
use Rattle.edi_target.specs.Effect.{Local, Effect, bad, enter}
use Rattle.edi_target.specs.Perform.{perform, call_described, system_call}
use Rattle.edi_target.specs.Mach.{Activity, Machine, MachineRun, Stepped, ended, finished, went, after_step, effect_at, entered, go_on, is_first, kernel, run, running_of}
use Rattle.edi_target.specs.Mach.{run_from_start, settled, step, step_of}

module _ (few all : ℕ → Option (Instruction × ℕ)) (less : (at : ℕ) (found : Instruction × ℕ) → few at ≡ Some found → all at ≡ Some found) where
  -- the one of the fewer is refused, or both are the same
  abbrev Alike : Effect → Effect → Type 0
  Alike x y = (x ≡ bad) ⊎ (x ≡ y)

  tested : (b : Bool) {x y : Effect} → Alike x y → Alike (if b then x else bad) (if b then y else bad)
  tested true h = h
  tested false h = inr refl

  chosen : (b : Bool) (z : Effect) {x y : Effect} → Alike x y → Alike (if b then z else x) (if b then z else y)
  chosen true z h = inr refl
  chosen false z h = h

  enters : (at link back line : ℕ) (l : Local) → Alike (enter (few at) link back line l) (enter (all at) link back line l)
  enters at link back line l = go (few at) refl
    where
      go : (o : Option (Instruction × ℕ)) → few at ≡ o → Alike (enter (few at) link back line l) (enter (all at) link back line l)
      go None e = inl (ap (λ x. enter x link back line l) e)
      go (Some found) e = inr (ap (λ x. enter x link back line l) (e ∙ sym (less at found e)))

  module _ (live : ℕ) (first : Bool) where
    described : (one two three line next : ℕ) (l : Local)
        → Alike (call_described few live first one two three line next l) (call_described all live first one two three line next l)
    described one two three line next l = chosen (nat_eq one 65535) (system_call two line next l) (enters (address_of_words one two) three next line l)

    performs : (i : Instruction) (next : ℕ) (l : Local) → Alike (perform few live first i next l) (perform all live first i next l)
    performs (op.call k target line) next l = enters target (level l.memory k l.base) next line l
    performs (op.call_p k offset line) next l =
        let at : ℕ = level l.memory k l.base + offset in
        tested (nat_le (at + 3) (2 ^ 16)) (described (word l.memory at) (word l.memory (at + 1)) (word l.memory (at + 2)) line next l)
    performs i next l = inr refl

    effects : (at : ℕ) (l : Local) → Alike (effect_at few (few at) live first l) (effect_at all (all at) live first l)
    effects at l = go (few at) refl
      where
        go : (o : Option (Instruction × ℕ)) → few at ≡ o → Alike (effect_at few (few at) live first l) (effect_at all (all at) live first l)
        go None e = inl (ap (λ x. effect_at few x live first l) e)
        go (Some found) e = elim (performs found.0 found.1 l) [
          | inl h ↦ inl (ap (λ x. effect_at few x live first l) e ∙ h)
          | inr h ↦ inr (ap (λ x. effect_at few x live first l) e ∙ (h ∙ ap (λ x. effect_at all x live first l) (sym (less at found e))))
        ]

  -- the one of the fewer ends as bad, or both are the same
  abbrev SameStep : Stepped → Stepped → Type 0
  SameStep x y = ((at : ℕ) × (m : Machine) × (x ≡ ended (outcome.bad at) m)) ⊎ (x ≡ y)

  steps : (m : Machine) (p : Name) (others : List Name) → SameStep (step few m p others) (step all m p others)
  steps m p others = go (find m.activities p)
    where
      go : (a : Option Activity) → SameStep (step_of few m p others a) (step_of all m p others a)
      go None = inr refl
      go (Some a) = elim (effects (length m.activities) (is_first p) a.pc (running_of m a).local) [
        | inl h ↦ inl (a.pc, _, ap (λ e. kernel m p others a (settled e (running_of m a))) h)
        | inr h ↦ inr (ap (λ e. kernel m p others a (settled e (running_of m a))) h)
      ]

  module _ (choices : Choices) (end : Machine) (d : ℕ) where
    abbrev Stands : MachineRun → Type 0
    Stands r = r ≡ finished outcome.standstill end d

    abbrev More : Type 0
    More = Machine → Name → List Name → ℕ → MachineRun

    on : (t : Taking) (one other : Name → List Name → ℕ → MachineRun) (m : Machine) (drawn : ℕ)
        → ((p : Name) (others : List Name) (c : ℕ) → Stands (one p others c) → Stands (other p others c)) → Stands (go_on t one m drawn)
        → Stands (go_on t other m drawn)
    on nobody one other m drawn h e = e
    on (taking p others c) one other m drawn h e = h p others c e

    after : (s : Stepped) (one other : More) (p : Name) (others : List Name) (drawn : ℕ)
        → ((m : Machine) (p : Name) (others : List Name) (c : ℕ) → Stands (one m p others c) → Stands (other m p others c))
        → Stands (after_step choices one p others drawn s) → Stands (after_step choices other p others drawn s)
    after (ended ending m) one other p others drawn h e = e
    after (went m stays) one other p others drawn h e = h m p others drawn e
    after (went m (joins ps)) one other p others drawn h e = on (take_next choices drawn (others ++ ps)) (one m) (other m) m drawn (h m) e

    -- from two steps of which the one of the fewer stands still
    stepped : (x y : Stepped) (one other : More) (p : Name) (others : List Name) (drawn : ℕ) → SameStep x y
        → ((m : Machine) (p : Name) (others : List Name) (c : ℕ) → Stands (one m p others c) → Stands (other m p others c))
        → Stands (after_step choices one p others drawn x) → Stands (after_step choices other p others drawn y)
    stepped x y one other p others drawn (inl b) h e =
        let no : finished (outcome.bad b.0) b.1 drawn ≡ finished outcome.standstill end d =
        sym (ap (after_step choices one p others drawn) b.2) ∙ e in absurd (cc)
    stepped x y one other p others drawn (inr same) h e =
        after y one other p others drawn h (sym (ap (after_step choices one p others drawn) same) ∙ e)

    runs : (n : ℕ) (m : Machine) (p : Name) (others : List Name) (drawn : ℕ) → Stands (run few choices n m p others drawn)
        → Stands (run all choices n m p others drawn)
    runs zero m p others drawn e = e
    runs (suc n) m p others drawn e =
        stepped (step few m p others) (step all m p others) (run few choices n) (run all choices n) p others drawn (steps m p others) (runs n) e

    pub runs_from_start : (at : ℕ) (calls : List ℕ) (system : State) (bound n : ℕ) → Stands (run_from_start few at calls system bound choices n)
        → Stands (run_from_start all at calls system bound choices n)
    runs_from_start at calls system bound n e =
        stepped (entered (few at) at calls bound system) (entered (all at) at calls bound system) (run few choices n) (run all choices n) [] [] 0
        (go (few at) refl) (runs n) e
      where
        go : (o : Option (Instruction × ℕ)) → few at ≡ o → SameStep (entered (few at) at calls bound system) (entered (all at) at calls bound system)
        go None h = inl (at, _, ap (λ x. entered x at calls bound system) h)
        go (Some found) h = inr (ap (λ x. entered x at calls bound system) (h ∙ sym (less at found h)))
