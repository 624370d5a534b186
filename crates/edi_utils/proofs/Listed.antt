-- A line for each instruction start.
use Rattle.std.proofs.Common.{◌≡◌, ◌∙◌, ℕ, ◌-◌, ◌<◌, ◌≤◌, Bool, true, false, List, [], ◌++◌, length, take, drop, append_assoc, append-nil, None, refl, ap}
use Rattle.std.proofs.Common.{sym, arith}
use Rattle.std.specs.Prelude.{nat_lt}
use Rattle.std.proofs.Math.Seq.{take-append_seam}
use Rattle.std.proofs.lemmas.Bool.{ltb-true, ltb-false}
use Rattle.edi_target.specs.Op.{Instruction, words_of}
use Rattle.edi_target.specs.Decode.{decode}
use Rattle.edi_target.specs.Check.{starts_from}
use Rattle.edi_target.specs.View.{Found}
use Rattle.edi_target.proofs.Places.{starts_broken, starts_end, starts_step}
use Rattle.edi_utils.specs.Listing.{line_at, listing_of, start_lines}

-- the lines so far, and those from an address on, are all
abbrev pub IsListedTo : (bytes words : List ℕ) → (at : ℕ) → Type 0
IsListedTo bytes words at = bytes ++ start_lines (starts_from (drop at words) at 0) ≡ listing_of words

-- the words from one address to the next are those of the instruction
pub own_words : (words : List ℕ) (at next : ℕ) (op : Instruction) → Found words at op next → take (next - at) (drop at words) ≡ words_of op
own_words words at next op found =
    let size : next - at ≡ length (words_of op) = omega (arith, found.reads.follows) in
    ap (λ n. take n (drop at words)) size
    ∙ ap (take (length (words_of op))) found.reads.stands
    ∙ take-append_seam (words_of op) (drop next words)

pub listed_next : (words bytes more : List ℕ) (at next : ℕ) (op : Instruction) (own : List ℕ) → Found words at op next → at < next → next ≤ length words
    → own ≡ take (next - at) (drop at words) → IsListedTo bytes words at → more ≡ bytes ++ line_at at own → IsListedTo more words next
listed_next words bytes more at next op own found on within is so_far put =
    let rest = start_lines (starts_from (drop next words) next 0) in
    ap (λ x. x ++ rest) put
    ∙ append_assoc bytes (line_at at own) rest
    ∙ ap (λ x. bytes ++ (line_at at x ++ rest)) (is ∙ own_words words at next op found)
    ∙ ap (λ s. bytes ++ start_lines s) (sym (starts_step words at next op found.decoded on within))
    ∙ so_far

-- where no instruction is read there are no lines
pub no_lines : (words : List ℕ) (at : ℕ) → decode (drop at words) ≡ None → start_lines (starts_from (drop at words) at 0) ≡ []
no_lines words at none = by_test (nat_lt at (length words)) refl where
  by_test : (b : Bool) → nat_lt at (length words) ≡ b → start_lines (starts_from (drop at words) at 0) ≡ []
  by_test true e = ap start_lines (starts_broken words at none (ltb-true at (length words) e))
  by_test false e = ap start_lines (starts_end words at (ltb-false at (length words) e))

pub all_listed : (words bytes : List ℕ) (at : ℕ) → decode (drop at words) ≡ None → IsListedTo bytes words at → bytes ≡ listing_of words
all_listed words bytes at none so_far = sym (append-nil bytes) ∙ ap (λ x. bytes ++ x) (sym (no_lines words at none)) ∙ so_far
