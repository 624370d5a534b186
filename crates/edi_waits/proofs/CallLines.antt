-- The frames of a process, and the lines of the calls that lead to one, by the frame below it.
use Rattle.std.proofs.Common.{◌≡◌, ℕ, zero, suc, ◌+◌, Bool, true, false, if◌then◌else◌, List, [], ◌∷◌, Some, None, refl, ap}
use Rattle.edi_target.specs.Op.{address_of_words}
use Rattle.edi_target.specs.Memory.{word}
use Rattle.edi_kernel.specs.declared.frames.Below.{Below}
use Rattle.edi_kernel.specs.Kept.{below_of, leads_down}
use Rattle.edi_waits.specs.Ends.{frames_of}
use Rattle.edi_waits.specs.Left.{frames_after, frames_below}
use Rattle.edi_waits.specs.Places.{call_lines, line_before}

-- the newest frame, and those below it
module _ (memory : List ℕ) (first : ℕ) where
  abbrev to : ℕ → ℕ
  to base = word memory (base + 1)

  abbrev up_to : ℕ → ℕ
  up_to base = word memory (base + 4)

  abbrev from : ℕ → ℕ
  from base = address_of_words (word memory (base + 2)) (word memory (base + 3))

  abbrev frame : (base top back : ℕ) → Below
  frame base top back = record { base = base; top = top; back = back }

  pub frames_same : (n base top back : ℕ) → frames_of (suc n) memory first base top back ≡ frame base top back ∷ frames_below n memory first base
  frames_same zero base top back = go (leads_down first base (to base) (up_to base))
    where
      go : (t : Bool) → frame base top back ∷ (if t then frames_of 0 memory first (to base) (up_to base) (from base) else []) ≡ frame base top back ∷ []
      go true = refl
      go false = refl
  frames_same (suc n) base top back = go (leads_down first base (to base) (up_to base)) (frames_same n (to base) (up_to base) (from base))
    where
      go : (t : Bool) → frames_of (suc n) memory first (to base) (up_to base) (from base)
          ≡ frame (to base) (up_to base) (from base) ∷ frames_below n memory first (to base) →
          frame base top back ∷ (if t then frames_of (suc n) memory first (to base) (up_to base) (from base) else [])
          ≡ frame base top back
          ∷ frames_after (frames_below n memory first) (if t then Some (frame (to base) (up_to base) (from base)) else None)
      go true e = ap (λ (xs : List Below). frame base top back ∷ xs) e
      go false e = refl

module _ (words memory : List ℕ) (first base : ℕ) where
  abbrev here : Below
  here = record {
    base = word memory (base + 1);
    top = word memory (base + 4);
    back = address_of_words (word memory (base + 2)) (word memory (base + 3));
  }

  -- nothing leads to the lowest frame
  pub lines_none : (n : ℕ) → below_of memory first base ≡ None → call_lines words (suc n) memory first base ≡ []
  lines_none n h = go (leads_down first base (word memory (base + 1)) (word memory (base + 4))) h
    where
      go : (b : Bool) → (if b then Some here else None) ≡ None →
          (if b then line_before words here.back ∷ call_lines words n memory first here.base else []) ≡ []
      go true e = absurd (cc)
      go false e = refl

  -- to another one a call does
  pub lines_some : (n : ℕ) (b : Below) → below_of memory first base ≡ Some b →
      call_lines words (suc n) memory first base ≡ line_before words b.back ∷ call_lines words n memory first b.base
  lines_some n b h = go (leads_down first base (word memory (base + 1)) (word memory (base + 4))) h
    where
      some : Some here ≡ Some b → here ≡ b
      some e = cc

      go : (t : Bool) → (if t then Some here else None) ≡ Some b →
          (if t then line_before words here.back ∷ call_lines words n memory first here.base else [])
          ≡ line_before words b.back ∷ call_lines words n memory first b.base
      go true e = ap (λ (x : Below). line_before words x.back ∷ call_lines words n memory first x.base) (some e)
      go false e = absurd (cc)
