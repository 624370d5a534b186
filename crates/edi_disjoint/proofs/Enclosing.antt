-- What the code answers of blocks round a block, and of the program's name, decides it.
use Rattle.std.proofs.Common.{◌≡◌, ℕ, zero, suc, ◌<◌, ◌⊎◌, inl, inr, Bool, true, false, ◌&&◌, ◌==◌, List, [], ◌∷◌, map, length, refl, sym, subst, ap, ◌∙◌, arith}
use Rattle.std.specs.Prelude.{Contains, not}
use Rattle.std.specs.Bool.{Decides}
use Rattle.std.specs.Global.{Vec}
use Rattle.std.proofs.lemmas.Bool.{eqb-true, eq-eqb}
use Rattle.edi_unit.specs.declared.expressions.Callee.TheVariants as callee
use Rattle.edi_unit.specs.Need.{block_at, outer}
use Rattle.edi_unit.specs.Fits.{Fits}
use Rattle.edi_unit.specs.Tree.{Block, ProgramUnit}
use Rattle.edi_disjoint.specs.declared.mentions.Mention.{Mention}
use Rattle.edi_disjoint.specs.declared.mentions.Mention.TheVariants as mention
use Rattle.edi_disjoint.specs.Mentions.{in_acts}
use Rattle.edi_disjoint.specs.Footprints.{Encloses, NamesProgram, calls, passes}
use Rattle.edi_disjoint.specs.Found.{AreTexts}
use Rattle.edi_disjoint.specs.Apart.{encloses_by, is_block, is_naming, names_in, any_names}
use Rattle.edi_disjoint.proofs.Contained.{contains_either, contains_first, contains_later, contains_none}
use Rattle.edi_disjoint.proofs.Deciding.{or_true, and_true, both_true, left_true, right_true}

-- ---- blocks round a block

-- each block but the program stands in one of a lower number, and the program in itself
pub record GoInwards (blocks : List Block) : Type 0 where
  pub outermost : (block_at blocks 0).up ≡ 0
  pub inner : (n : ℕ) → 0 < n → n < length blocks → (block_at blocks n).up < n

pub go_inwards : (unit : ProgramUnit) → Fits unit → GoInwards unit.blocks
go_inwards unit ok = record { outermost = (ok.fits_blocks 0 ok.some).outermost refl; inner = λ n some l. (ok.fits_blocks n l).inner some }

encloses_then : {A : Type 0} (blocks : List Block) (home here : ℕ) (xs : List A) → encloses_by blocks home here xs ≡ true → Encloses blocks home here
encloses_then blocks home here [] e = absurd (cc)
encloses_then blocks home here (x ∷ xs) e =
    go (or_true ((block_at blocks here).up == home) _ e) (encloses_then blocks home (block_at blocks here).up xs)
  where
    go : (((block_at blocks here).up == home) ≡ true) ⊎ ((not ((block_at blocks here).up == here) && encloses_by blocks home (block_at blocks here).up xs) ≡ true) →
        (encloses_by blocks home (block_at blocks here).up xs ≡ true → Encloses blocks home (block_at blocks here).up) → Encloses blocks home here
    go (inl h) more = record { levels = 0; is = eqb-true (block_at blocks here).up home h }
    go (inr h) more =
        let k : Encloses blocks home (block_at blocks here).up =
        more (and_true (not ((block_at blocks here).up == here)) (encloses_by blocks home (block_at blocks here).up xs) h).1 in
        record { levels = suc k.levels; is = k.is }

-- a number below another is not the same
not_at : (m n : ℕ) → m < n → not (m == n) ≡ true
not_at m n l = go (m == n) refl
  where
    go : (b : Bool) → (m == n) ≡ b → not b ≡ true
    go true e = let same : m ≡ n = eqb-true m n e in absurd (omega (arith, l, same))
    go false e = refl

-- the program stands in itself, however far out
outer_program : (blocks : List Block) → (block_at blocks 0).up ≡ 0 → (levels : ℕ) → outer blocks 0 levels ≡ 0
outer_program blocks h zero = refl
outer_program blocks h (suc levels) = ap (λ n. outer blocks n levels) h ∙ outer_program blocks h levels

then_encloses : {A : Type 0} (blocks : List Block) → GoInwards blocks → (home here : ℕ) (xs : List A) → here < length xs → here < length blocks → (levels : ℕ) →
    outer blocks here (suc levels) ≡ home → encloses_by blocks home here xs ≡ true
then_encloses blocks g home here [] l m levels e = absurd (omega arith)
then_encloses blocks g home zero (x ∷ xs) l m levels e =
    left_true ((block_at blocks 0).up == home) _ (eq-eqb (block_at blocks 0).up home (g.outermost ∙ sym (outer_program blocks g.outermost (suc levels)) ∙ e))
then_encloses blocks g home (suc n) (x ∷ xs) l m zero e = left_true ((block_at blocks (suc n)).up == home) _ (eq-eqb (block_at blocks (suc n)).up home e)
then_encloses blocks g home (suc n) (x ∷ xs) l m (suc levels) e =
    let low : (block_at blocks (suc n)).up < suc n = g.inner (suc n) (omega arith) m in
    right_true ((block_at blocks (suc n)).up == home) _
    (both_true (not ((block_at blocks (suc n)).up == suc n)) _ (not_at (block_at blocks (suc n)).up (suc n) low)
    (then_encloses blocks g home (block_at blocks (suc n)).up xs (omega (arith, low, l)) (omega (arith, low, m)) levels e))

pub encloses_decides : {A : Type 0} (blocks : List Block) → GoInwards blocks → (home here : ℕ) (xs : List A) → length xs ≡ length blocks → here < length blocks →
    Decides (encloses_by blocks home here xs) (Encloses blocks home here)
encloses_decides blocks g home here xs long l =
    (encloses_then blocks home here xs, λ k. then_encloses blocks g home here xs (omega (arith, long, l)) l k.levels k.is)

-- ---- the program's name

data IsNaming (program : ℕ) (ms : List Mention) : Type 0 where
  called : (levels : ℕ) → Contains ms (mention.Calls (callee.Block levels program)) → IsNaming program ms
  passed : (levels : ℕ) → Contains ms (mention.Passes (callee.Block levels program)) → IsNaming program ms

one_naming : (program : ℕ) (m : Mention) (ms : List Mention) → is_naming program m ≡ true → IsNaming program (m ∷ ms)
one_naming program (mention.Reads levels v) ms e = absurd (cc)
one_naming program (mention.Assigns levels v) ms e = absurd (cc)
one_naming program (mention.Lends levels v) ms e = absurd (cc)
one_naming program (mention.Calls (callee.Block levels b)) ms e =
    called levels (subst (λ x. Contains (mention.Calls (callee.Block levels b) ∷ ms) (mention.Calls (callee.Block levels x))) (eqb-true b program e) (contains_first _ ms))
one_naming program (mention.Calls (callee.Formal levels v)) ms e = absurd (cc)
one_naming program (mention.Passes (callee.Block levels b)) ms e =
    passed levels (subst (λ x. Contains (mention.Passes (callee.Block levels b) ∷ ms) (mention.Passes (callee.Block levels x))) (eqb-true b program e) (contains_first _ ms))
one_naming program (mention.Passes (callee.Formal levels v)) ms e = absurd (cc)

later_naming : (program : ℕ) (m : Mention) (ms : List Mention) → IsNaming program ms → IsNaming program (m ∷ ms)
later_naming program m ms (called levels h) = called levels (contains_later m _ ms h)
later_naming program m ms (passed levels h) = passed levels (contains_later m _ ms h)

names_then : (program : ℕ) (ms : List Mention) → names_in program ms ≡ true → IsNaming program ms
names_then program [] e = absurd (cc)
names_then program (m ∷ ms) e = go (or_true (is_naming program m) (names_in program ms) e) (names_then program ms)
  where
    go : (is_naming program m ≡ true) ⊎ (names_in program ms ≡ true) → (names_in program ms ≡ true → IsNaming program ms) → IsNaming program (m ∷ ms)
    go (inl h) more = one_naming program m ms h
    go (inr h) more = later_naming program m ms (more h)

contained_names : (program : ℕ) (m : Mention) (ms : List Mention) → is_naming program m ≡ true → Contains ms m → names_in program ms ≡ true
contained_names program m [] e h = absurd (contains_none m h)
contained_names program m (x ∷ ms) e h = go (contains_either x m ms h) (contained_names program m ms e)
  where
    go : (x ≡ m) ⊎ Contains ms m → (Contains ms m → names_in program ms ≡ true) → names_in program (x ∷ ms) ≡ true
    go (inl k) more = left_true (is_naming program x) (names_in program ms) (ap (is_naming program) k ∙ e)
    go (inr k) more = right_true (is_naming program x) (names_in program ms) (more k)

block_names : (program levels : ℕ) → is_block program (callee.Block levels program) ≡ true
block_names program levels = eq-eqb program program refl

-- some text of these names it
data Names (program : ℕ) (blocks : List Block) : Type 0 where
  at_block : (n : ℕ) → names_in program (in_acts (block_at blocks n).body) ≡ true → Names program blocks

any_then : (program : ℕ) (ts : List (Vec Mention)) (bs : List Block) → map (λ t. t.items) ts ≡ map (λ b. in_acts b.body) bs → any_names program ts ≡ true → Names program bs
any_then program [] bs h e = absurd (cc)
any_then program (t ∷ ts) [] h e = absurd (no_more h)
  where
    no_more : (t.items ∷ map (λ t. t.items) ts) ≡ [] → ⊥
    no_more h = cc
any_then program (t ∷ ts) (b ∷ bs) h e = go (or_true (names_in program t.items) (any_names program ts) e) (any_then program ts bs (rest h))
  where
    rest : (t.items ∷ map (λ t. t.items) ts) ≡ (in_acts b.body ∷ map (λ b. in_acts b.body) bs) → map (λ t. t.items) ts ≡ map (λ b. in_acts b.body) bs
    rest h = cc

    head : (t.items ∷ map (λ t. t.items) ts) ≡ (in_acts b.body ∷ map (λ b. in_acts b.body) bs) → t.items ≡ in_acts b.body
    head h = cc

    later : Names program bs → Names program (b ∷ bs)
    later (at_block n k) = at_block (suc n) k

    go : (names_in program t.items ≡ true) ⊎ (any_names program ts ≡ true) → (any_names program ts ≡ true → Names program bs) → Names program (b ∷ bs)
    go (inl k) more = at_block 0 (ap (names_in program) (sym (head h)) ∙ k)
    go (inr k) more = later (more k)

then_any : (program : ℕ) (ts : List (Vec Mention)) (bs : List Block) → map (λ t. t.items) ts ≡ map (λ b. in_acts b.body) bs → (n : ℕ) →
    names_in program (in_acts (block_at bs n).body) ≡ true → any_names program ts ≡ true
then_any program ts [] h n e = absurd (cc)
then_any program [] (b ∷ bs) h n e = absurd (no_more h)
  where
    no_more : [] ≡ (in_acts b.body ∷ map (λ b. in_acts b.body) bs) → ⊥
    no_more h = cc
then_any program (t ∷ ts) (b ∷ bs) h zero e = left_true (names_in program t.items) (any_names program ts) (ap (names_in program) (head h) ∙ e)
  where
    head : (t.items ∷ map (λ t. t.items) ts) ≡ (in_acts b.body ∷ map (λ b. in_acts b.body) bs) → t.items ≡ in_acts b.body
    head h = cc
then_any program (t ∷ ts) (b ∷ bs) h (suc n) e = right_true (names_in program t.items) (any_names program ts) (then_any program ts bs (rest h) n e)
  where
    rest : (t.items ∷ map (λ t. t.items) ts) ≡ (in_acts b.body ∷ map (λ b. in_acts b.body) bs) → map (λ t. t.items) ts ≡ map (λ b. in_acts b.body) bs
    rest h = cc

pub naming_decides : (unit : ProgramUnit) (texts : List (Vec Mention)) → AreTexts unit texts → Decides (any_names unit.program texts) (NamesProgram unit)
naming_decides unit texts h = (λ e. there (any_then unit.program texts unit.blocks h e), λ n. found n)
  where
    in_block : (n : ℕ) → IsNaming unit.program (in_acts (block_at unit.blocks n).body) → NamesProgram unit
    in_block n (called levels m) = calls n levels m
    in_block n (passed levels m) = passes n levels m

    there : Names unit.program unit.blocks → NamesProgram unit
    there (at_block n e) = in_block n (names_then unit.program (in_acts (block_at unit.blocks n).body) e)

    found : NamesProgram unit → any_names unit.program texts ≡ true
    found (calls n levels m) = then_any unit.program texts unit.blocks h n (contained_names unit.program _ _ (block_names unit.program levels) m)
    found (passes n levels m) = then_any unit.program texts unit.blocks h n (contained_names unit.program _ _ (block_names unit.program levels) m)
