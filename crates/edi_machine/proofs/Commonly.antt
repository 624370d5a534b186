-- The effect of an instruction by the words at the program counter, and what a step that asks nothing of the system keeps.
use Rattle.std.proofs.Common.{◌≡◌, ℕ, ◌+◌, ◌-◌, ◌*◌, Bool, ◌&&◌, List, take, drop, get_or, Option, None, sym, ap, subst, refl, ◌∙◌, arith, length-drop}
use Rattle.std.specs.Prelude.{◌<◌, ◌≤◌, ◌⊎◌, [], ◌∷◌, Some, true, if◌then◌else◌, length}
use Rattle.std.specs.List.{slice_range}
use Rattle.std.proofs.Math.Seq.{take-length}
use Rattle.std.proofs.lemmas.Bool.{le-ltb}
use Rattle.edi_calls.specs.declared.ends.Outside.{Outside}
use Rattle.edi_calls.specs.State.{State}
use Rattle.edi_target.specs.Decode.{branches_of, decode, if_allowed}
use Rattle.edi_target.specs.Op as op
use Rattle.edi_target.specs.Op.{Instruction, is_allowed}
use Rattle.edi_target.specs.Fetch.{fetch}
use Rattle.edi_target.specs.Effect.{Local, Effect, goes, released, asks, due, fails, bad}
use Rattle.edi_target.specs.Mach.{effect_at}
use Rattle.edi_target.specs.Perform.{perform}
use Rattle.edi_machine.specs.declared.ends.StepEnd.{StepEnd}
use Rattle.edi_machine.specs.declared.ends.StepEnd.TheVariants as end
use Rattle.edi_machine.specs.Numbers.{effect_by, placed}
use Rattle.edi_target.proofs.Reading.{both_true, no_row, past_end}
use Rattle.edi_machine.specs.Steps.{Blames, Gives, Keeps, Stepped, Takes, UsesFailed, effect_of}

-- the words that were found from the program counter on are those there
pub effect_there : (words : List ℕ) (live : ℕ) (is_first : Bool) (l : Local) (front : List ℕ) → drop l.pc words ≡ front
    → effect_of words live is_first l ≡ effect_by words live is_first front l
unfolding decode
effect_there words live is_first l front here = ap (λ ws. effect_at (fetch words) (placed l.pc (decode ws)) live is_first l) here

-- ---- a step that asks nothing of the system

pub gives_takes : (x : Effect) (e : StepEnd) (before after : Local) (s : Option State) → Gives x e before after → Takes x e before after s s
gives_takes (goes l) e before after s h = h
gives_takes (released l) e before after s h = h
gives_takes (asks number arguments address line l) e before after s h = absurd h
gives_takes (due turn l) e before after s h = h
gives_takes (fails cause line) e before after s h = h
gives_takes bad e before after s h = h

pub keeps_itself : {X : Type 0} (e : Effect) (x : X) → Keeps e x x
keeps_itself (goes l) x = refl
keeps_itself (released l) x = refl
keeps_itself (asks number arguments address line l) x = tt
keeps_itself (due turn l) x = refl
keeps_itself (fails cause line) x = refl
keeps_itself bad x = refl

pub gives_blame : (x : Effect) (e : StepEnd) (before after : Local) (failed : Option Outside → Type 0) (old new : Outside → ℕ) → Gives x e before after
    → failed None → Blames e failed old new
gives_blame x end.On before after failed old new h none = none
gives_blame x (end.Turn kind) before after failed old new h none = none
gives_blame x (end.Fail cause line) before after failed old new h none = none
gives_blame x (end.Bad at) before after failed old new h none = none
gives_blame (goes l) end.Fault before after failed old new h none = absurd h
gives_blame (released l) end.Fault before after failed old new h none = absurd h
gives_blame (asks number arguments address line l) end.Fault before after failed old new h none = absurd h
gives_blame (due turn l) end.Fault before after failed old new h none = absurd h
gives_blame (fails cause line) end.Fault before after failed old new h none = absurd h
gives_blame bad end.Fault before after failed old new h none = absurd h

gives_used : (x : Effect) (e : StepEnd) (before after : Local) (failed : Option Outside → Type 0) → Gives x e before after → UsesFailed x failed
gives_used (goes l) e before after failed h = tt
gives_used (released l) e before after failed h = tt
gives_used (asks number arguments address line l) e before after failed h = absurd h
gives_used (due turn l) e before after failed h = tt
gives_used (fails cause line) e before after failed h = tt
gives_used bad e before after failed h = tt

-- ---- all that a step tells

module _ {X : Type 0} (state : X → Option State) (failed : X → Option Outside → Type 0) (faults : X → Outside → ℕ) (references : X → List ℕ)
    (leads : X → X → Type 0) where
  pub asks_nothing : (x : Effect) (e : StepEnd) (before after : Local) (calls : X) → Gives x e before after → failed calls None
      → Stepped state failed faults references leads x e before after calls calls
  asks_nothing x e before after calls h none = record {
    exact = gives_takes x e before after (state calls) h;
    keeps = keeps_itself x calls;
    later = λ outside. omega arith;
    blame = gives_blame x e before after (failed calls) (faults calls) (faults calls) h none;
    used = gives_used x e before after (failed calls) h;
    references = refl;
    leads = λ start led. led;
  }

  pub stepped_here : (words : List ℕ) (live : ℕ) (is_first : Bool) (l : Local) (front : List ℕ) → drop l.pc words ≡ front → (e : StepEnd) (after : Local)
      (old new : X) → Stepped state failed faults references leads (effect_by words live is_first front l) e l after old new
      → Stepped state failed faults references leads (effect_of words live is_first l) e l after old new
  stepped_here words live is_first l front here e after old new h =
      subst (λ x. Stepped state failed faults references leads x e l after old new) (sym (effect_there words live is_first l front here)) h

  -- nothing stands behind the code
  pub stepped_past : (words : List ℕ) (live : ℕ) (is_first : Bool) (l : Local) (calls : X) → (length words < l.pc) ⊎ (length words < length words)
      → failed calls None → Stepped state failed faults references leads (effect_of words live is_first l) (end.Bad l.pc) l l calls calls
  stepped_past words live is_first l calls past none =
      let nothing : effect_of words live is_first l ≡ bad = ap (λ x. effect_at (fetch words) (placed l.pc x) live is_first l) (past_end words l.pc past) in
      subst (λ x. Stepped state failed faults references leads x (end.Bad l.pc) l l calls calls) (sym nothing)
      (asks_nothing bad (end.Bad l.pc) l l calls (refl, refl) none)

  -- by the words at the program counter the instruction there has this effect, which asks nothing
  pub stepped_as : (words : List ℕ) (live : ℕ) (is_first : Bool) (front : List ℕ) (l : Local) (x : Effect) → effect_by words live is_first front l ≡ x
      → (e : StepEnd) (after : Local) (calls : X) → Gives x e l after → failed calls None
      → Stepped state failed faults references leads (effect_by words live is_first front l) e l after calls calls
  stepped_as words live is_first front l x is e after calls h none =
      subst (λ y. Stepped state failed faults references leads y e l after calls calls) (sym is) (asks_nothing x e l after calls h none)

module _ (words : List ℕ) (live : ℕ) (is_first : Bool) (l : Local) where
  -- no instruction has a number behind the last
  pub nowhere_refused : (number : ℕ) (operands : List ℕ) → 45 ≤ number → effect_by words live is_first (number ∷ operands) l ≡ bad
  nowhere_refused number operands far =
      ap (λ x. effect_at (fetch words) (placed l.pc (if_allowed x)) live is_first l) (sym (no_row number operands far))

  -- a COBEGIN with allowed operands is executed with the branches that its count gives
  pub cobegin_there : (count line : ℕ) (rest branches : List ℕ) → 3 * count ≤ length rest → take (3 * count) rest ≡ branches
      → is_allowed (op.cobegin line (branches_of branches)) ≡ true → effect_by words live is_first (42 ∷ count ∷ line ∷ rest) l ≡ perform (fetch words)
      live is_first (op.cobegin line (branches_of branches)) (l.pc + (3 * count + 3)) l
  cobegin_there count line rest branches all these allowed =
      ap (λ (t : Bool). effect_at (fetch words) (placed l.pc (if_allowed (if◌then◌else◌ {A = Option (Instruction × ℕ)} t None
      (Some (op.cobegin line (branches_of (take (3 * count) rest)), 3 * count + 3))))) live is_first l) (le-ltb (length rest) (3 * count) all)
      ∙ ap (λ (ws : List ℕ). effect_at (fetch words) (placed l.pc (if_allowed (Some (op.cobegin line (branches_of ws), 3 * count + 3)))) live is_first l) these
      ∙ ap (λ (t : Bool). effect_at (fetch words) (placed l.pc (if◌then◌else◌ {A = Option (Instruction × ℕ)} t
      (Some (op.cobegin line (branches_of branches), 3 * count + 3)) None)) live is_first l) allowed

  -- the same by operands that were read one by one
  pub cobegin_found : (operands branches : List ℕ) (count n : ℕ) → 2 ≤ length operands → count ≡ get_or operands 0 0 → n ≡ get_or operands 0 0
      → 3 * count ≤ length (take (length operands - 2) (drop 2 operands))
      → branches ≡ slice_range (take (length operands - 2) (drop 2 operands)) 0 (3 * count)
      → (t : Bool) → (t && is_allowed (op.cobegin (get_or operands 1 0) (branches_of branches))) ≡ true → effect_by words live is_first (42 ∷ operands) l
      ≡ perform (fetch words) live is_first (op.cobegin (get_or operands 1 0) (branches_of branches)) (l.pc + (3 * n + 3)) l
  cobegin_found [] branches count n two same also all these t allowed = absurd (omega arith)
  cobegin_found (a ∷ []) branches count n two same also all these t allowed = absurd (omega arith)
  cobegin_found (a ∷ line ∷ rest) branches count n two same also all these t allowed =
      let long : length (a ∷ line ∷ rest) - 2 ≡ length rest = omega arith in
      let whole : take (length (a ∷ line ∷ rest) - 2) rest ≡ rest = ap (λ (i : ℕ). take i rest) long ∙ take-length rest in
      let room : 3 * count ≤ length rest = subst (λ (ws : List ℕ). 3 * count ≤ length ws) whole all in
      let reach : 3 * count - 0 ≡ 3 * a = omega arith in
      let taken : take (3 * a) rest ≡ branches = sym (these ∙ ap (λ (ws : List ℕ). slice_range ws 0 (3 * count)) whole
      ∙ ap (λ (i : ℕ). take i rest) reach) in
      cobegin_there a line rest branches (omega arith) taken
      (both_true t (is_allowed (op.cobegin line (branches_of branches))) allowed).1
      ∙ ap (λ (i : ℕ). perform (fetch words) live is_first (op.cobegin line (branches_of branches)) (l.pc + (3 * i + 3)) l) (sym also)

-- ---- the first operands by a slice of them

-- where there are fewer words behind an address, there are fewer operands
pub none_there : (words operands : List ℕ) (at n : ℕ) → operands ≡ drop at words → 1 ≤ n → (at + n < at) ⊎ (length words < at + n) → length operands < n
none_there words operands at n e some few = omega (arith, ap length e, length-drop at words, some, few)

pub one_there : (operands front : List ℕ) → front ≡ take 1 operands → 1 ≤ length operands → operands ≡ get_or front 0 0 ∷ drop 1 operands
one_there [] front e l = absurd (omega (arith, l))
one_there (a ∷ rest) front e l = ap (λ (ws : List ℕ). get_or ws 0 0 ∷ rest) (sym e)

pub two_there : (operands front : List ℕ) → front ≡ take 2 operands → 2 ≤ length operands
    → operands ≡ get_or front 0 0 ∷ get_or front 1 0 ∷ drop 2 operands
two_there [] front e l = absurd (omega (arith, l))
two_there (a ∷ []) front e l = absurd (omega (arith, l))
two_there (a ∷ b ∷ rest) front e l = ap (λ (ws : List ℕ). get_or ws 0 0 ∷ get_or ws 1 0 ∷ rest) (sym e)

pub three_there : (operands front : List ℕ) → front ≡ take 3 operands → 3 ≤ length operands
    → operands ≡ get_or front 0 0 ∷ get_or front 1 0 ∷ get_or front 2 0 ∷ drop 3 operands
three_there [] front e l = absurd (omega (arith, l))
three_there (a ∷ []) front e l = absurd (omega (arith, l))
three_there (a ∷ b ∷ []) front e l = absurd (omega (arith, l))
three_there (a ∷ b ∷ c ∷ rest) front e l = ap (λ (ws : List ℕ). get_or ws 0 0 ∷ get_or ws 1 0 ∷ get_or ws 2 0 ∷ rest) (sym e)

pub four_there : (operands front : List ℕ) → front ≡ take 4 operands → 4 ≤ length operands
    → operands ≡ get_or front 0 0 ∷ get_or front 1 0 ∷ get_or front 2 0 ∷ get_or front 3 0 ∷ drop 4 operands
four_there [] front e l = absurd (omega (arith, l))
four_there (a ∷ []) front e l = absurd (omega (arith, l))
four_there (a ∷ b ∷ []) front e l = absurd (omega (arith, l))
four_there (a ∷ b ∷ c ∷ []) front e l = absurd (omega (arith, l))
four_there (a ∷ b ∷ c ∷ d ∷ rest) front e l =
    ap (λ (ws : List ℕ). get_or ws 0 0 ∷ get_or ws 1 0 ∷ get_or ws 2 0 ∷ get_or ws 3 0 ∷ rest) (sym e)
