-- What is looked at in the memory, and what lines it gives.
use Rattle.std.proofs.Common.{◌≡◌, ◌⊎◌, inl, inr, ℕ, ℤ, zero, suc, ◌+◌, ◌-◌, ◌<◌, ◌≤◌, Bool, true, false, if◌then◌else◌, List, [], ◌∷◌, ◌++◌, length, drop, get_or, map, All}
use Rattle.std.proofs.Common.{Some, None, slice_get, refl, sym, ap, ◌∙◌, arith}
use Rattle.std.specs.Prelude.{nat_lt, slice_index}
use Rattle.std.proofs.Math.Seq.{drop-cons}
use Rattle.std.proofs.lemmas.List.{get_or_past}
use Rattle.std.proofs.lemmas.Option.{slice_get_within}
use Rattle.edi_word.specs.Words.{signed}
use Rattle.edi_unit.specs.declared.units.Parameter.{Parameter}
use Rattle.edi_unit.specs.declared.units.Parameter.TheVariants as slot
use Rattle.edi_unit.specs.Tree.{ProgramUnit}
use Rattle.edi_unit.specs.Need.{no_block, block_at, outer, slots, slot_at}
use Rattle.edi_target.specs.Memory.{level}
use Rattle.edi_scheme.specs.Pieces.{is_address}
use Rattle.edi_scheme.specs.Awaits.{await_address, variable_offset}
use Rattle.edi_target.specs.Arrivals.{Arrived}
use Rattle.edi_sights.specs.declared.answer.Sight.{Sight}
use Rattle.edi_sights.specs.declared.answer.Sighted.{Sighted}
use Rattle.edi_debug.specs.stops.Kept.{Kept, after_line, after_lines}
use Rattle.edi_debug.specs.stops.Stops.{Watched, line_of, each_in}
use Rattle.edi_debug.specs.stops.Seen.{IsElementaryVariable}
use Rattle.edi_debug.specs.stops.Watching.{is_address_here, meant_word, ordinal_in, slot_lines, sight_lines}
use Rattle.edi_debug.proofs.stops.Meant.{after_append}

-- ---- a variable

-- of a block that is there
pub home_is_there : (unit : ProgramUnit) (b : ℕ) (s : Sighted) → IsElementaryVariable unit b s →
    (outer unit.blocks b s.levels < length unit.blocks) × (s.variable < length (slots (block_at unit.blocks (outer unit.blocks b s.levels))))
home_is_there unit b s h = either h.holds
  where
    home : ℕ
    home = outer unit.blocks b s.levels

    there : (p : Parameter) → slice_get (slots (block_at unit.blocks home)) s.variable ≡ Some p → (t : Bool) → nat_lt home (length unit.blocks) ≡ t →
        (home < length unit.blocks) × (s.variable < length (slots (block_at unit.blocks home)))
    there p e true f = (grind (arith, f), slice_get_within (slots (block_at unit.blocks home)) s.variable p e)
    there p e false f =
        let past : block_at unit.blocks home ≡ no_block = get_or_past unit.blocks home no_block (grind (arith, f)) in
        let clash : None ≡ Some p = sym (ap (λ x. slice_get (slots x) s.variable) past) ∙ e in absurd (cc)

    either : (slot_at unit.blocks b s.levels s.variable ≡ Some (slot.Value h.of)) ⊎ (slot_at unit.blocks b s.levels s.variable ≡ Some (slot.Var h.of)) →
        (home < length unit.blocks) × (s.variable < length (slots (block_at unit.blocks home)))
    either (inl e) = there (slot.Value h.of) e (nat_lt home (length unit.blocks)) refl
    either (inr e) = there (slot.Var h.of) e (nat_lt home (length unit.blocks)) refl

module _ (unit : ProgramUnit) (bound : ℕ) (memory : List ℕ) (base b : ℕ) (s : Sighted) (home frame offset found : ℕ)
    (is_home : home ≡ outer unit.blocks b s.levels) (is_frame : frame ≡ level memory s.levels base) (is_offset : offset ≡ variable_offset unit home s.variable)
    (is_found : found ≡ slice_index memory (frame + offset)) where
  looked : (t : Bool) → t ≡ is_address (slice_get (slots (block_at unit.blocks home)) s.variable) →
      signed (meant_word unit bound t memory (frame + offset)) ≡ ordinal_in unit bound memory base b s
  looked t e =
      let place : t ≡ is_address (slot_at unit.blocks b s.levels s.variable) =
      e ∙ ap (λ n. is_address (slice_get (slots (block_at unit.blocks n)) s.variable)) is_home in
      let away : offset ≡ variable_offset unit (outer unit.blocks b s.levels) s.variable =
      is_offset ∙ ap (λ n. variable_offset unit n s.variable) is_home in
      (λ i. signed (meant_word unit bound (place i) memory (is_frame i + away i)))

  pub looked_through : (value : ℕ) → value ≡ slice_index memory found → true ≡ is_address (slice_get (slots (block_at unit.blocks home)) s.variable) →
      signed value ≡ ordinal_in unit bound memory base b s
  looked_through value e f = ap signed (e ∙ ap (slice_index memory) is_found) ∙ looked true f

  pub looked_at : false ≡ is_address (slice_get (slots (block_at unit.blocks home)) s.variable) → signed found ≡ ordinal_in unit bound memory base b s
  looked_at f = ap signed is_found ∙ looked false f

-- ---- lines of a list, one of its items after another

pub one_item : {A : Type 0} (f : A → List (List ℕ)) (xs : List A) (i : ℕ) (x d : A) (before after first : Kept) → i < length xs → x ≡ get_or xs i d →
    after ≡ after_lines (f x) before → after_lines (each_in f (drop i xs)) before ≡ first → after_lines (each_in f (drop (i + 1) xs)) after ≡ first
one_item f xs i x d before after first h e g so =
    let next : suc i ≡ i + 1 = omega arith in
    let cut : drop i xs ≡ x ∷ drop (i + 1) xs = drop-cons xs i d h ∙ ap (λ k. get_or xs i d ∷ drop k xs) next ∙ ap (λ y. y ∷ drop (i + 1) xs) (sym e) in
    ap (after_lines (each_in f (drop (i + 1) xs))) g ∙ sym (after_append (f x) (each_in f (drop (i + 1) xs)) before)
    ∙ ap (λ l. after_lines (each_in f l) before) (sym cut) ∙ so

pub each_map : {A B : Type 0} (f : B → List (List ℕ)) (g : A → B) (xs : List A) → each_in f (map g xs) ≡ each_in (λ x. f (g x)) xs
each_map f g [] = refl
each_map f g (x ∷ xs) = ap (λ l. f (g x) ++ l) (each_map f g xs)

pub all_done : {A : Type 0} (f : A → List (List ℕ)) (xs : List A) (i : ℕ) (log first : Kept) → length xs ≤ i →
    after_lines (each_in f (drop i xs)) log ≡ first → log ≡ first
all_done f xs i log first past e = ap (λ l. after_lines (each_in f l) log) (sym (drop-all xs i past)) ∙ e
  where
    drop-all : {A : Type 0} (xs : List A) (i : ℕ) → length xs ≤ i → drop i xs ≡ []
    drop-all [] zero h = refl
    drop-all [] (suc i) h = refl
    drop-all (x ∷ xs) zero h = absurd (omega (arith, h))
    drop-all (x ∷ xs) (suc i) h = drop-all xs i (omega (arith, h))

pub all_mapped : {A B : Type 0} (P : B → Type 0) (g : A → B) (xs : List A) (i : ℕ) (d : A) → All P (map g xs) → i < length xs → P (g (get_or xs i d))
all_mapped P g [] i d h l = absurd (omega (arith, l))
all_mapped P g (x ∷ xs) zero d h l = h zero (g x) (omega arith)
all_mapped P g (x ∷ xs) (suc i) d h l = all_mapped P g xs i d (λ k z m. h (suc k) z (omega (arith, m))) (omega (arith, l))

-- ---- one sight

pub sight_logged : (unit : ProgramUnit) (bound : ℕ) (y : Arrived) (p : Watched) (s : Sight) (slot : Sighted) (turns : ℕ) (line : List ℕ) (value : ℤ)
    (log new : Kept) → s.slot ≡ Some slot → true ≡ is_address_here (await_address unit s.block s.index) y.activity.pc → bound - y.turns ≡ turns →
    line ≡ line_of turns p.line p.name value → value ≡ ordinal_in unit bound y.memory y.activity.base s.block slot → new ≡ after_line line log →
    new ≡ after_lines (sight_lines unit bound y p s) log
sight_logged unit bound y p s slot turns line value log new has here used is what so =
    so ∙ ap (λ l. after_lines (l ∷ []) log)
    (is ∙ ap (λ n. line_of n p.line p.name value) (sym used)
    ∙ ap (line_of (bound - y.turns) p.line p.name) what)
    ∙ ap (λ o. after_lines (slot_lines unit bound y p s.block o) log) (sym has)
    ∙ ap (λ (b : Bool). after_lines (if b then slot_lines unit bound y p s.block s.slot else []) log) here
