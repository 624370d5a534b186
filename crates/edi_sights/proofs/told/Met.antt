-- The `when`s that are met, with their numbers: each is that of its block, on its line, and none of the line is left out.
use Rattle.std.proofs.Common.{◌≡◌, ℕ, zero, suc, ◌+◌, Bool, true, false, ◌&&◌, ◌||◌, ◌==◌, if◌then◌else◌, List, [], ◌∷◌, ◌++◌, length, filter, All, Some}
use Rattle.std.proofs.Common.{slice_get, refl, sym, ap, ◌∙◌, subst, arith, append_assoc, append-nil, length-append}
use Rattle.std.specs.List.{list_any}
use Rattle.std.proofs.lemmas.Bool.{eqb-true, eq-eqb}
use Rattle.std.proofs.lemmas.Bool.Decides.{Decides-eqb}
use Rattle.std.proofs.lemmas.List.Folds.{list_any-append}
use Rattle.edi_unit.specs.Tree.{ProgramUnit}
use Rattle.edi_static.proofs.Judging.{Gives}
use Rattle.edi_sema.proofs.Ranges.{bounded_in_range}
use Rattle.edi_sights.specs.declared.awaits.Await.{Await}
use Rattle.edi_sights.specs.declared.answer.Sight.{Sight}
use Rattle.edi_sights.specs.Awaits.{awaits_of}
use Rattle.edi_sights.specs.Sights.{count_in, sight_behind, sights_on}
use Rattle.edi_sights.specs.Whens.{block_lines}
use Rattle.edi_sights.specs.Fits.{IsWhen, is_of, AllAreSeen, SightsAreWhens}
use Rattle.edi_sights.proofs.told.Told.{lines_in, AwaitSits, Told, none_coming}
use Rattle.edi_sights.proofs.told.Blocks.{lines_append}
use Rattle.edi_sights.proofs.told.Programs.{program_told}

-- ---- numbers

itself : (n : ℕ) → (n == n) ≡ true
itself n = (Decides-eqb n n).1 refl

counted : (b : ℕ) (awaits : List Await) → count_in b awaits ≡ length (lines_in b awaits)
counted b [] = refl
counted b (a ∷ awaits) = go (a.block == b) (counted b awaits)
  where
    go : (t : Bool) → count_in b awaits ≡ length (lines_in b awaits) →
        length (if t then a ∷ filter (λ x. x.block == b) awaits else filter (λ x. x.block == b) awaits)
        ≡ length (if t then a.line ∷ lines_in b awaits else lines_in b awaits)
    go true e = ap suc e
    go false e = e

counted_more : (b : ℕ) (before : List Await) (a : Await) → count_in b (before ++ a ∷ []) ≡ length (lines_in b before ++ lines_in b (a ∷ []))
counted_more b before a = counted b (before ++ a ∷ []) ∙ ap length (lines_append b before (a ∷ []))

seam : (xs : List ℕ) (y : ℕ) (ys : List ℕ) → slice_get (xs ++ y ∷ ys) (length xs) ≡ Some y
seam [] y ys = refl
seam (x ∷ xs) y ys = seam xs y ys

first_of : (a : Await) (awaits : List Await) → lines_in a.block (a ∷ awaits) ≡ a.line ∷ lines_in a.block awaits
first_of a awaits = ap (λ (t : Bool). if t then a.line ∷ lines_in a.block awaits else lines_in a.block awaits) (itself a.block)

-- one of them
line_at : (before : List Await) (a : Await) (awaits : List Await)
    → slice_get (lines_in a.block (before ++ a ∷ awaits)) (count_in a.block before) ≡ Some a.line
line_at before a awaits =
    ap (slice_get (lines_in a.block (before ++ a ∷ awaits))) (counted a.block before)
    ∙ ap (λ l. slice_get l (length (lines_in a.block before)))
    (lines_append a.block before (a ∷ awaits) ∙ ap (λ l. lines_in a.block before ++ l) (first_of a awaits))
    ∙ seam (lines_in a.block before) a.line (lines_in a.block awaits)

-- ---- those of a line

put_before : {A : Type 0} (P : A → Type 0) (xs ys : List A) → All P xs → All P ys → All P (xs ++ ys)
put_before P [] ys h k = k
put_before P (x ∷ xs) ys h k = more (put_before P xs ys (λ i d l. h (suc i) d (omega (arith, l))) k)
  where
    more : All P (xs ++ ys) → All P (x ∷ (xs ++ ys))
    more rest zero d l = h zero d (omega arith)
    more rest (suc i) d l = rest i d (omega (arith, l))

module _ (unit : ProgramUnit) (line : ℕ) (whole : List Await) (t : Told unit.types unit.blocks whole none_coming) where
  each_fits : (before awaits : List Await) → before ++ awaits ≡ whole → All (AwaitSits unit.types unit.blocks) awaits
      → All (IsWhen unit line) (sights_on line before awaits)
  each_fits before [] e sit = no_sight
    where
      no_sight : All (IsWhen unit line) []
      no_sight i d l = absurd (omega (arith, l))
  each_fits before (a ∷ awaits) e sit =
      put_before (IsWhen unit line) (if a.line == line then sight_behind before a ∷ [] else []) (sights_on line (before ++ a ∷ []) awaits)
      (go (a.line == line) refl)
      (each_fits (before ++ a ∷ []) awaits (append_assoc before (a ∷ []) awaits ∙ e) (λ i d l. sit (suc i) d (omega (arith, l))))
    where
      here : AwaitSits unit.types unit.blocks a
      here = sit zero a (omega arith)

      at : slice_get (block_lines unit.blocks a.block) (count_in a.block before) ≡ Some a.line
      at =
          ap (λ l. slice_get l (count_in a.block before))
          (sym (append-nil (block_lines unit.blocks a.block)) ∙ sym (t.lines a.block) ∙ ap (lines_in a.block) (sym e))
          ∙ line_at before a awaits

      go : (b : Bool) → (a.line == line) ≡ b → All (IsWhen unit line) (if b then sight_behind before a ∷ [] else [])
      go false f i d l = absurd (omega (arith, l))
      go true f zero d l =
          record { there = here.there; on_line = at ∙ ap (λ n. Some n) (eqb-true a.line line f); slot_fits = here.slot_sits }
      go true f (suc i) d l = absurd (omega (arith, l))

  -- none is left out
  or_true : (x y : Bool) → y ≡ true → (x || y) ≡ true
  or_true true y e = refl
  or_true false y e = e

  each_seen : (b i n : ℕ) (before awaits : List Await) → n ≡ length (lines_in b before) + i → slice_get (lines_in b awaits) i ≡ Some line
      → list_any (is_of unit line b n) (sights_on line before awaits) ≡ true
  each_seen b i n before [] e f = absurd (cc)
  each_seen b i n before (a ∷ awaits) e f =
      list_any-append (is_of unit line b n) (if a.line == line then sight_behind before a ∷ [] else []) (sights_on line (before ++ a ∷ []) awaits)
      ∙ go (a.block == b) refl i e f
      (λ j g h. each_seen b j n (before ++ a ∷ []) awaits g h)
    where
      first : List Sight
      first = if a.line == line then sight_behind before a ∷ [] else []

      others : Bool
      others = list_any (is_of unit line b n) (sights_on line (before ++ a ∷ []) awaits)

      longer : (c : Bool) → (a.block == b) ≡ c → length (lines_in b (before ++ a ∷ [])) ≡ length (lines_in b before) + length (if c then a.line ∷ [] else [])
      longer c g =
          ap length (lines_append b before (a ∷ [])) ∙ length-append (lines_in b before) (lines_in b (a ∷ []))
          ∙ ap (λ (d : Bool). length (lines_in b before) + length (if d then a.line ∷ [] else [])) g

      seen_here : (a.block == b) ≡ true → n ≡ length (lines_in b before) → a.line ≡ line → list_any (is_of unit line b n) first ≡ true
      seen_here g m l =
          ap (λ (d : Bool). list_any (is_of unit line b n) (if d then sight_behind before a ∷ [] else [])) (eq-eqb a.line line l)
          ∙ ap (λ (d : Bool). (d && (count_in a.block before == n)) || false) g
          ∙ ap (λ (d : Bool). d || false)
          (eq-eqb (count_in a.block before) n (ap (λ k. count_in k before) (eqb-true a.block b g) ∙ counted b before ∙ sym m))

      or_left : (x y : Bool) → x ≡ true → (x || y) ≡ true
      or_left true y k = refl
      or_left false y k = absurd (cc)

      go : (c : Bool) → (a.block == b) ≡ c → (i : ℕ) → n ≡ length (lines_in b before) + i →
          slice_get (if c then a.line ∷ lines_in b awaits else lines_in b awaits) i ≡ Some line →
          ((j : ℕ) → n ≡ length (lines_in b (before ++ a ∷ [])) + j → slice_get (lines_in b awaits) j ≡ Some line → others ≡ true) →
          (list_any (is_of unit line b n) first || others) ≡ true
      go true g zero m l k = or_left (list_any (is_of unit line b n) first) others (seen_here g (omega (arith, m)) (cc))
      go true g (suc j) m l k = or_true (list_any (is_of unit line b n) first) others (k j (omega (arith, m, longer true g)) l)
      go false g i m l k = or_true (list_any (is_of unit line b n) first) others (k i (omega (arith, m, longer false g)) l)

  pub met_fit : All (IsWhen unit line) (sights_on line [] whole)
  met_fit = each_fits [] whole refl t.sit

  pub met_seen : AllAreSeen unit line (sights_on line [] whole)
  met_seen b i e = each_seen b i i [] whole (omega arith) (ap (λ l. slice_get l i) (t.lines b ∙ append-nil (block_lines unit.blocks b)) ∙ e)

-- ---- the law

pub sights_are_whens : SightsAreWhens
sights_are_whens tree unit sound resolved line name =
    let told : Told unit.types unit.blocks (awaits_of name tree) none_coming =
    subst (Gives (λ (u : ProgramUnit). Told u.types u.blocks (awaits_of name tree) none_coming)) resolved
    (program_told name tree sound.shallow (bounded_in_range tree sound.is_bounded)) in
    (met_fit unit line (awaits_of name tree) told, met_seen unit line (awaits_of name tree) told)
