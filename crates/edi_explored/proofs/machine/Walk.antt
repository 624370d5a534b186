-- The walk over the frames of a process, from the newest down: by the words of its links it comes through each of them, and two memories with the
-- same words on the way have the same links and variables in each.
use Rattle.std.proofs.Common.{◌≡◌, ◌⊎◌, inl, inr, ℕ, zero, suc, ◌+◌, ◌-◌, ◌<◌, ◌≤◌, ◌^◌, Bool, true, false, ◌&&◌, if◌then◌else◌, List, [], ◌∷◌, ◌++◌, length, refl, sym, ap, subst, ◌∙◌, arith}
use Rattle.std.specs.Prelude.{nat_le}
use Rattle.std.proofs.lemmas.Bool.{le-leb}
use Rattle.edi_store.specs.Memory.{words_at}
use Rattle.edi_store.proofs.MemoryLaws.{length-words_at, get_or-words_at}
use Rattle.edi_meaning.specs.Store.{Frame}
use Rattle.edi_meaning.specs.Step.{Work, doing, loop_end, procedure_end, branch_end, program_entry, program_end, Standing, ready, at_when, waiting}
use Rattle.edi_target.specs.Memory.{word}
use Rattle.edi_kernel.specs.Kept.{leads_down, kept_words}
use Rattle.edi_follows.specs.places.Coded.{Coded, kept}
use Rattle.edi_follows.specs.places.Spots.{frame_start}
use Rattle.edi_follows.specs.places.Located.{frame_of, Links, Matches, IsAt}

-- ---- the links of a process that stands between two steps

module _ (g : Coded) (lead : Bool) (from : ℕ) (fs : List Frame) (m : List ℕ) where
  -- each frame but the lowest, up to this depth, has its links
  abbrev pub AreLinked : ℕ → Type 0
  AreLinked d = (e : ℕ) → e < d → (back : ℕ) × Links g from fs m e back

  none_below : (d : ℕ) → d ≡ 0 → AreLinked d
  none_below d z e l = absurd (omega (arith, z, l))

  one_more : (d back : ℕ) → Links g from fs m d back → AreLinked d → AreLinked (suc d)
  one_more d back k below e l = go (split e l)
    where
      split : (e : ℕ) → e < suc d → (e < d) ⊎ (e ≡ d)
      split e l = grind (arith, l)

      go : (e < d) ⊎ (e ≡ d) → (back : ℕ) × Links g from fs m e back
      go (inl less) = below e less
      go (inr same) = subst (λ n. (back : ℕ) × Links g from fs m n back) (sym same) (back, k)

  matches_linked : (ws : List Work) (pc d : ℕ) → Matches g lead from fs m ws pc d → AreLinked d
  matches_linked [] pc d h = absurd h
  matches_linked (doing a position ∷ ws) pc d h = matches_linked ws h.3.0 d h.3.5
  matches_linked (loop_end cs position ∷ ws) pc d h = matches_linked ws h.3.2 d h.3.8
  matches_linked (procedure_end line ∷ ws) pc zero h = absurd h.3
  matches_linked (procedure_end line ∷ ws) pc (suc e) h = one_more e h.3.1 h.3.3 (matches_linked ws h.3.1 e h.3.5)
  matches_linked (branch_end ∷ ws) pc d h = none_below d h.3.2
  matches_linked (program_entry ∷ ws) pc d h = absurd h.3
  matches_linked (program_end ∷ ws) pc d h = none_below d h.3.2

  pub at_linked : (standing : Standing) (ws : List Work) (pc d : ℕ) → IsAt g lead from fs m standing ws pc d → AreLinked d
  at_linked ready ws pc d h = matches_linked ws pc d h
  at_linked (waiting n) ws pc d h = matches_linked ws pc d h
  at_linked (at_when cs position) ws pc d h = matches_linked ws h.1 d h.7

-- ---- lists

split_equal : (a b c d : List ℕ) → length a ≡ length c → a ++ b ≡ c ++ d → (a ≡ c) × (b ≡ d)
split_equal [] b [] d l e = (refl, e)
split_equal [] b (y ∷ c) d l e = absurd (omega (arith, l))
split_equal (x ∷ a) b [] d l e = absurd (omega (arith, l))
split_equal (x ∷ a) b (y ∷ c) d l e =
    let h : x ≡ y = cc in
    let t : a ++ b ≡ c ++ d = cc in
    let r = split_equal a b c d (omega (arith, l)) t in
    (λ i. h i ∷ r.0 i, r.1)

true_test : (a b c : Bool) → a ≡ true → b ≡ true → c ≡ true → (a && b && c) ≡ true
true_test true true true x y z = refl
true_test true true false x y z = z
true_test true false c x y z = y
true_test false b c x y z = x

-- ---- the walk

module _ (g : Coded) (from : ℕ) (fs : List Frame) (m m' : List ℕ) where
  abbrev pub base : ℕ → ℕ
  base e = from + frame_start fs e

  abbrev pub keeps : ℕ → ℕ
  keeps e = kept g (frame_of fs e).block

  abbrev pub top : ℕ → ℕ
  top e = base e + keeps e

  -- the frames lie in the memory one above the other
  pub record AreFrames : Type 0 where
    pub long : length m ≡ 2 ^ 16
    pub long' : length m' ≡ 2 ^ 16
    pub within : (e : ℕ) → e < length fs → top e ≤ 2 ^ 16
    pub above : (e : ℕ) → suc e < length fs → top e ≤ base (suc e)
    pub links : (e : ℕ) → suc e < length fs → (back : ℕ) × Links g from fs m e back

  -- what is below the frame at this base, by its words 1 and 4
  abbrev below : ℕ → List ℕ → ℕ → (x t : ℕ) → List ℕ
  below n mem at x t = if leads_down from at x t then kept_words n mem from x t else []

  module _ (f : AreFrames) where
    leads : (e : ℕ) → suc e < length fs → leads_down from (base (suc e)) (base e) (top e) ≡ true
    leads e l =
        true_test (nat_le from (base e)) (nat_le (base e + 5) (top e)) (nat_le (top e) (base (suc e))) (le-leb _ _ (omega arith)) (le-leb _ _ (omega arith))
        (le-leb _ _ (f.above e l))

    abbrev Same : ℕ → Type 0
    Same e = words_at m' (base e) (keeps e) ≡ words_at m (base e) (keeps e)

    pub same_word : (e j : ℕ) → e < length fs → j < keeps e → Same e → word m' (base e + j) ≡ word m (base e + j)
    same_word e j l b s =
        sym (get_or-words_at m' (base e) (keeps e) j b) ∙ ap (λ ws. Rattle.std.specs.Prelude.slice_index ws j) s ∙ get_or-words_at m (base e) (keeps e) j b

    size : (e : ℕ) → top e - base e ≡ keeps e
    size e = omega arith

    last : (d k : ℕ) → d ≤ suc k → (d ≤ k) ⊎ (d ≡ suc k)
    last d k low = grind (arith, low)

    -- the words of this frame, and then those below it
    abbrev Parted : ℕ → ℕ → Type 0
    Parted n e =
        Same e × (below n m' (base e) (word m' (base e + 1)) (word m' (base e + 4)) ≡ below n m (base e) (word m (base e + 1)) (word m (base e + 4)))

    parts : (n e : ℕ) → e < length fs → kept_words (suc n) m' from (base e) (top e) ≡ kept_words (suc n) m from (base e) (top e) → Parted n e
    parts n e l h =
        let r = split_equal (words_at m' (base e) (top e - base e)) _ (words_at m (base e) (top e - base e)) _
        (length-words_at m' (base e) (top e - base e) (omega (arith, f.within e l, f.long'))
        ∙ sym (length-words_at m (base e) (top e - base e) (omega (arith, f.within e l, f.long)))) h in
        (ap (words_at m' (base e)) (sym (size e)) ∙ r.0 ∙ ap (words_at m (base e)) (size e), r.1)

    next : (n k : ℕ) → suc k < length fs → Parted n (suc k) → kept_words n m' from (base k) (top k) ≡ kept_words n m from (base k) (top k)
    next n k l p =
        let links = f.links k l in
        let x : word m (base (suc k) + 1) ≡ base k = links.1.base in
        let t : word m (base (suc k) + 4) ≡ top k = links.1.top in
        let x' : word m' (base (suc k) + 1) ≡ base k = same_word (suc k) 1 l (omega arith) p.0 ∙ x in
        let t' : word m' (base (suc k) + 4) ≡ top k = same_word (suc k) 4 l (omega arith) p.0 ∙ t in
        let down : (mem : List ℕ) → below n mem (base (suc k)) (base k) (top k) ≡ kept_words n mem from (base k) (top k) =
        λ mem. ap (λ b. if b then kept_words n mem from (base k) (top k) else []) (leads k l) in
        sym (down m') ∙ (λ i. below n m' (base (suc k)) (sym x' i) (sym t' i)) ∙ p.1 ∙ (λ i. below n m (base (suc k)) (x i) (t i)) ∙ down m

    -- FROM THE FRAME at depth e down, all are the same
    pub walk : (n e : ℕ) → e < length fs → top e - from ≤ n → kept_words n m' from (base e) (top e) ≡ kept_words n m from (base e) (top e) →
        (d : ℕ) → d ≤ e → Same d
    walk zero e l room h d low = absurd (omega (arith, room))
    walk (suc n) zero l room h d low = subst Same (omega (arith, low)) (parts n zero l h).0
    walk (suc n) (suc k) l room h d low = elim (last d k low) [
      | inl less ↦ walk n k (omega (arith, l)) (omega (arith, room, f.above k l)) (next n k l (parts n (suc k) l h)) d less
      | inr same ↦ subst Same (sym same) (parts n (suc k) l h).0
    ]
