-- Plain instructions.
use Rattle.std.proofs.Common.{◌≡◌, ℕ, zero, suc, ◌+◌, ◌-◌, ◌<◌, ◌≤◌, Bool, true, false, List, [], ◌∷◌, length, get_or, take, drop, Option}
use Rattle.std.proofs.Common.{Some, None, refl, sym, ap, subst, ◌∙◌, arith, length-drop, get_or-drop}
use Rattle.std.specs.Prelude.{MatchOption, slice_index, ⊤}
use Rattle.std.proofs.Math.Seq.{take-length}
use Rattle.edi_target.specs.Effect.{Effect, Local}
use Rattle.edi_machine.specs.declared.activity.Activity.{Activity}
use Rattle.edi_machine.specs.declared.ends.TurnKind.TheVariants as kind
use Rattle.edi_machine.specs.declared.ends.StepEnd.{StepEnd}
use Rattle.edi_machine.specs.declared.ends.StepEnd.TheVariants as end
use Rattle.edi_machine.specs.Numbers.{effect_by, is_plain_number}
use Rattle.edi_machine.specs.Plain.{Looped, Plainly, is_looped, is_plain}
use Rattle.edi_machine.specs.Steps.{Gives, effect_of}
use Rattle.edi_machine.proofs.Commonly.{effect_there}

plain_more : (m n : ℕ) (answer : StepEnd) → m ≤ n → is_plain m answer ≡ true → is_plain n answer ≡ true
plain_more zero n (end.Turn k) le e = absurd (cc)
plain_more (suc m) zero (end.Turn k) le e = absurd (omega (arith, le))
plain_more (suc m) (suc n) (end.Turn kind.Loop) le e = refl
plain_more (suc m) (suc n) (end.Turn kind.Arrive) le e = refl
plain_more (suc m) (suc n) (end.Turn k) le e = e
plain_more m n end.On le e = refl
plain_more m n (end.Fail cause line) le e = refl
plain_more m n (end.Bad at) le e = refl
plain_more m n end.Fault le e = absurd (cc)

-- with more turns left more may be done
pub plainly_more : (m n : ℕ) (answer : StepEnd) (old new : Activity) → Plainly m answer old new → m ≤ n → Plainly n answer old new
plainly_more m n answer old new h le = record {
  plain = plain_more m n answer le h.plain;
  same_base = h.same_base;
  same_end = h.same_end;
  same_segment = h.same_segment;
}

looped_plain : (n : ℕ) (answer : StepEnd) → is_plain n answer ≡ true → is_looped n answer ≡ true
looped_plain zero (end.Turn k) e = e
looped_plain (suc n) (end.Turn kind.Enter) e = refl
looped_plain (suc n) (end.Turn kind.End) e = refl
looped_plain (suc n) (end.Turn k) e = e
looped_plain n answer e = e

-- an instruction that stays in its frame is one of the loop
pub plainly_looped : (n : ℕ) (answer : StepEnd) (old new : Activity) → Plainly n answer old new → Looped n answer old new
plainly_looped n answer old new h = record { looped = looped_plain n answer h.plain; same_segment = h.same_segment }

-- where a turn is left, one is enough
pub looped_left : (n : ℕ) (answer : StepEnd) (old new : Activity) → Looped 1 answer old new → 0 < n → Looped n answer old new
looped_left zero answer old new h some = absurd (omega (arith, some))
looped_left (suc n) answer old new h some = record { looped = same answer h.looped; same_segment = h.same_segment }
  where
    same : (a : StepEnd) → is_looped 1 a ≡ true → is_looped (suc n) a ≡ true
    same (end.Turn kind.Enter) e = refl
    same (end.Turn kind.End) e = refl
    same (end.Turn kind.Loop) e = refl
    same (end.Turn kind.Arrive) e = refl
    same (end.Turn k) e = e
    same a e = e

module _ (words : List ℕ) (before after : Local) (Nothing : Type 0) where
  -- what the instruction gives that has these effects
  abbrev Given : (effect : (live : ℕ) → (is_first : Bool) → Effect) → Option StepEnd → Type 0
  Given effect result = MatchOption result Nothing (λ answer. (live : ℕ) (is_first : Bool) → Gives (effect live is_first) answer before after)

  -- by the words at the front, one by one
  pub given_by : (result : Option StepEnd) (front : List ℕ) → 1 ≤ length front
      → Given (λ live is_first. effect_by words live is_first (get_or front 0 0 ∷ take (length front - 1) (drop 1 front)) before) result
      → Given (λ live is_first. effect_by words live is_first front before) result
  given_by result [] some h = absurd (omega (arith, some))
  given_by result (a ∷ rest) some h =
      let long : length (a ∷ rest) - 1 ≡ length rest = omega arith in
      subst (λ (ws : List ℕ). Given (λ live is_first. effect_by words live is_first (a ∷ ws) before) result)
      (ap (λ (i : ℕ). take i rest) long ∙ take-length rest) h

  -- by the words at the program counter
  pub given_here : (result : Option StepEnd) (front : List ℕ) → drop before.pc words ≡ front
      → Given (λ live is_first. effect_by words live is_first front before) result → Given (λ live is_first. effect_of words live is_first before) result
  given_here None front here h = h
  given_here (Some answer) front here h = λ live is_first. subst (λ (e : Effect). Gives e answer before after)
      (sym (effect_there words live is_first before front here)) (h live is_first)

-- where nothing was done although two words stand behind, the number there is that of no plain instruction
pub none_plain : (words front : List ℕ) (at : ℕ) → drop at words ≡ front → at + 3 ≤ length words
    → (0 < length front → is_plain_number (slice_index front 0) ≡ false) → is_plain_number (slice_index words at) ≡ false
none_plain words front at here room other =
    let long : length front ≡ length words - at = sym (ap length here) ∙ length-drop at words in
    let place : at + 0 ≡ at = omega arith in
    let same : slice_index front 0 ≡ slice_index words at =
    ap (λ (ws : List ℕ). slice_index ws 0) (sym here) ∙ get_or-drop at words 0 0 ∙ ap (λ (i : ℕ). slice_index words i) place in
    subst (λ (n : ℕ). is_plain_number n ≡ false) same (other (omega (arith, long, room)))

-- what is said where the number at the front is that of a plain instruction, is said where that at the program counter is
pub plain_there : (words front : List ℕ) (at : ℕ) (P : Type 0) → drop at words ≡ front → (is_plain_number (slice_index front 0) ≡ true → P)
    → is_plain_number (slice_index words at) ≡ true → P
plain_there words front at P here h plain =
    let place : at + 0 ≡ at = omega arith in
    let same : slice_index front 0 ≡ slice_index words at =
    ap (λ (ws : List ℕ). slice_index ws 0) (sym here) ∙ get_or-drop at words 0 0 ∙ ap (λ (i : ℕ). slice_index words i) place in
    h (subst (λ (n : ℕ). is_plain_number n ≡ true) (sym same) plain)

-- what is done of a number that is that of no plain instruction
pub whichever : (result : Option StepEnd) (X : Type 0) → X → MatchOption result ⊤ (λ _. X)
whichever None X x = tt
whichever (Some answer) X x = x

pub not_plain : (result : Option StepEnd) (plain : Bool) (P : StepEnd → Type 0) → MatchOption result ⊤ (λ _. plain ≡ false) → plain ≡ true
    → MatchOption result ⊤ P
not_plain None plain P h e = tt
not_plain (Some answer) plain P h e = let a : false ≡ true = sym h ∙ e in absurd (cc)
