-- The effects of instructions, by what stands among the operands.
use Rattle.std.proofs.Common.{◌≡◌, ℕ, zero, suc, ◌+◌, ◌-◌, ◌<◌, ◌≤◌, ◌^◌, Bool, ◌&&◌, if◌then◌else◌, List, [], ◌∷◌, length, get_or, refl, sym, ap, ◌∙◌, arith}
use Rattle.std.specs.Prelude.{not, nat_eq, nat_lt}
use Rattle.std.proofs.lemmas.Bool.{le-leb, lt-ltb}
use Rattle.std.proofs.lemmas.Grind.{same_number_lists}
use Rattle.edi_calls.specs.declared.kinds.Cause.TheVariants as cause
use Rattle.edi_store.specs.Memory.{words_at}
use Rattle.edi_store.proofs.MemoryLaws.{length-words_at, get_or-words_at}
use Rattle.edi_word.specs.Words.{signed}
use Rattle.edi_word.specs.Sets.{word_has}
use Rattle.edi_meaning.specs.Store.{Shape, now}
use Rattle.edi_target.specs.Op as op
use Rattle.edi_target.specs.Memory.{word}
use Rattle.edi_target.specs.Effect.{arriving, goes, due, fails, bad, push, pop, pop_word, look, needs, to, in_range, truth}
use Rattle.edi_target.specs.Perform.{push_address, element, joined, fork, short_cut}
use Rattle.edi_follows.proofs.values.Reading.{words_at-append}
use Rattle.edi_follows.specs.places.Coded.{Coded}
use Rattle.edi_follows.specs.places.Spots.{address}
use Rattle.edi_follows.specs.places.Scene.{Scene, local_at}
use Rattle.edi_follows.specs.places.Instructions.{WordIs, OneWord, RowSplits, effect, Pops, PopsWord, Looks, DoesArithmetic, DoesComparison, DoesEquality}
use Rattle.edi_follows.specs.places.Instructions.{DoesOnSets, DoesIn, DoesMember, DoesIndex, PushesAddress, DoesField, FailsHeld, Jumps, DoesFalse, DoesDecide}

-- ---- words in a row

pub word_at : (m ws : List ℕ) (t n k : ℕ) → k < n → words_at m t n ≡ ws → word m (t + k) ≡ get_or ws k 0
word_at m ws t n k less e = sym (get_or-words_at m t n k less) ∙ ap (λ l. get_or l k 0) e

pub word_is : WordIs
word_is m xs x t zero e = absurd (cc)
word_is m xs x t (suc n) e = let same : t + 0 ≡ t = omega arith in ap (word m) (sym same) ∙ word_at m (x ∷ xs) t (suc n) 0 (omega arith) e

pub one_word : OneWord
one_word m x t less e =
    let room : t + 1 ≤ length m = omega (arith, less) in
    let long : length (words_at m t 1) ≡ 1 = length-words_at m t 1 room in
    let same : t + 0 ≡ t = omega arith in
    same_number_lists (words_at m t 1) (x ∷ []) long (λ i below. first i (omega (arith, long, below)) same)
  where
    first : (i : ℕ) → i < 1 → t + 0 ≡ t → get_or (words_at m t 1) i 0 ≡ get_or (x ∷ []) i 0
    first zero h same = get_or-words_at m t 1 0 (omega arith) ∙ ap (word m) same ∙ e
    first (suc i) h same = absurd (omega (arith, h))

pub row_splits : RowSplits
row_splits m t n k = words_at-append m t n k

-- ---- pops

module _ (g : Coded) (s : Scene) where
  pub pops : Pops g s
  pops F m ws pc t n top held go low e is =
      let room : address s.first F (now F s.name) + 5 + n ≤ top = omega (arith, low, e) in
      let less : top - n ≡ t = omega (arith, e) in
      ap (λ b. if b then go (words_at m (top - n) n) (local_at s F m pc (top - n) held) else bad) (le-leb (address s.first F (now F s.name) + 5 + n) top room)
      ∙ ap (λ z. go (words_at m z n) (local_at s F m pc z held)) less ∙ ap (λ l. go l (local_at s F m pc t held)) is

  pub pops_word : PopsWord g s
  pops_word F m x pc t top held go low e is =
      let room : address s.first F (now F s.name) + 6 ≤ top = omega (arith, low, e) in
      let less : top - 1 ≡ t = omega (arith, e) in
      ap (λ b. if b then go (word m (top - 1)) (local_at s F m pc (top - 1) held) else bad) (le-leb (address s.first F (now F s.name) + 6) top room)
      ∙ ap (λ z. go (word m z) (local_at s F m pc z held)) less ∙ ap (λ y. go y (local_at s F m pc t held)) is

  pub looks : Looks g s
  looks F m x pc t top held go low e is =
      let room : address s.first F (now F s.name) + 6 ≤ top = omega (arith, low, e) in
      let less : top - 1 ≡ t = omega (arith, e) in
      ap (λ b. if b then go (word m (top - 1)) else bad) (le-leb (address s.first F (now F s.name) + 6) top room)
      ∙ ap (λ z. go (word m z)) less ∙ ap go is

  -- ---- groups

  pub arithmetic_is : DoesArithmetic g s
  arithmetic_is F m f line next x y pc t top held low e one other =
      pops_word F m y pc (t + 1) top held (λ b l. pop_word l (λ a l. in_range line (f a b) (λ z. push (z ∷ []) l (to next)))) (omega (arith, low))
      (omega (arith, e)) other
      ∙ pops_word F m x pc t (t + 1) held (λ a l. in_range line (f a y) (λ z. push (z ∷ []) l (to next))) low refl one

  pub comparison_is : DoesComparison g s
  comparison_is F m f next x y pc t top held low e one other =
      pops_word F m y pc (t + 1) top held (λ b l. pop_word l (λ a l. push (truth (f (signed a) (signed b)) ∷ []) l (to next))) (omega (arith, low))
      (omega (arith, e)) other
      ∙ pops_word F m x pc t (t + 1) held (λ a l. push (truth (f (signed a) (signed y)) ∷ []) l (to next)) low refl one

  pub equality_is : DoesEquality g s
  equality_is F m xs ys f n next pc t top held low e one other =
      pops F m ys pc (t + n) n top held (λ b l. pop n l (λ a l. push (truth (f a b) ∷ []) l (to next))) (omega (arith, low)) e other
      ∙ pops F m xs pc t n (t + n) held (λ a l. push (truth (f a ys) ∷ []) l (to next)) low refl one

  pub on_sets_is : DoesOnSets g s
  on_sets_is F m xs ys f next pc t top held low e one other =
      pops F m ys pc (t + 8) 8 top held (λ b l. pop 8 l (λ a l. push (f a b) l (to next))) (omega (arith, low)) (omega (arith, e)) other
      ∙ pops F m xs pc t 8 (t + 8) held (λ a l. push (f a ys) l (to next)) low refl one

  pub in_is : DoesIn g s
  in_is F m set next x pc t top held low e one other =
      pops F m set pc (t + 1) 8 top held (λ b l. pop_word l (λ a l. push (truth (nat_lt a 128 && word_has b a) ∷ []) l (to next))) (omega (arith, low))
      (omega (arith, e)) other
      ∙ pops_word F m x pc t (t + 1) held (λ a l. push (truth (nat_lt a 128 && word_has set a) ∷ []) l (to next)) low refl one

  pub member_is : DoesMember g s
  member_is F m set line next x pc t top held low e one other =
      pops_word F m x pc (t + 8) top held (λ b l. pop 8 l (λ a l. joined line next b a l)) (omega (arith, low)) (omega (arith, e)) other
      ∙ pops F m set pc t 8 (t + 8) held (λ a l. joined line next x a l) low refl one

  pub index_is : DoesIndex g s
  index_is F m lo hi size line next x i pc t top held low e one other =
      pops_word F m i pc (t + 1) top held (λ b l. pop_word l (λ a l. element lo hi size line next a (signed b) l)) (omega (arith, low)) (omega (arith, e)) other
      ∙ pops_word F m x pc t (t + 1) held (λ a l. element lo hi size line next a (signed i) l) low refl one

  -- ---- addresses

  pub pushes_address : PushesAddress g s
  pushes_address a next l less = ap (λ b. needs b (push (a ∷ []) l (to next))) (lt-ltb a (2 ^ 16) less)

  pub field_is : DoesField g s
  field_is F m offset next x pc t top held low e one less =
      pops_word F m x pc t top held (λ a l. push_address (a + offset) next l) low e one ∙ pushes_address (x + offset) next (local_at s F m pc t held) less

  -- ---- jumps

  pub is_held : FailsHeld g s
  is_held F m line next pc top held some = (
    ap (λ b. if b then fails cause.Held line else due arriving (local_at s F m next top held)) (lt-ltb 0 held some),
    λ branches. ap (λ b. if b then fails cause.Held line else fork s.count line next branches (local_at s F m pc top held)) (lt-ltb 0 held some),
  )

  pub jumps : Jumps g s
  jumps F m target next pc top held less = ap (λ b. needs b (goes (local_at s F m target top held))) (lt-ltb pc target less)

  pub false_is : DoesFalse g s
  false_is F m target next x pc t top held less low e one =
      ap (λ b. needs b (pop_word (local_at s F m pc top held) (λ a l. to (if nat_eq a 0 then target else next) l))) (lt-ltb pc target less)
      ∙ pops_word F m x pc t top held (λ a l. to (if nat_eq a 0 then target else next) l) low e one

  decide : (i : op.Instruction) (target : ℕ) (test : ℕ → Bool) →
      ((F : Shape) (m : List ℕ) (next pc top held : ℕ) → effect g s i next (local_at s F m pc top held) ≡ needs (nat_lt pc target)
      (look (local_at s F m pc top held) (λ x. short_cut (test x) target next (local_at s F m pc top held)))) →
      DoesDecide g s i target test
  decide i target test is F m next x pc t top held less low e one =
      let looked : effect g s i next (local_at s F m pc top held) ≡ short_cut (test x) target next (local_at s F m pc top held) =
      is F m next pc top held
      ∙ ap (λ b. needs b (look (local_at s F m pc top held) (λ x. short_cut (test x) target next (local_at s F m pc top held)))) (lt-ltb pc target less)
      ∙ looks F m x pc t top held (λ x. short_cut (test x) target next (local_at s F m pc top held)) low e one in
      let fewer : top - 1 ≡ t = omega (arith, e) in (
        λ true_is. looked ∙ ap (λ b. short_cut b target next (local_at s F m pc top held)) true_is,
        λ false_is. looked ∙ ap (λ b. short_cut b target next (local_at s F m pc top held)) false_is ∙ ap (λ z. goes (local_at s F m next z held)) fewer,
      )

  pub and_is : (target : ℕ) → DoesDecide g s (op.and target) target (λ x. nat_eq x 0)
  and_is target = decide (op.and target) target (λ x. nat_eq x 0) (λ F m next pc top held. refl)

  pub or_is : (target : ℕ) → DoesDecide g s (op.or target) target (λ x. not (nat_eq x 0))
  or_is target = decide (op.or target) target (λ x. not (nat_eq x 0)) (λ F m next pc top held. refl)
