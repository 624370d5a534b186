-- Zeros in memory, and the program's block: what its start rests on.
use Rattle.std.proofs.Common.{◌≡◌, ℕ, zero, suc, ◌+◌, ◌-◌, ◌<◌, ◌≤◌, ◌^◌, inl, inr, false, List, [], ◌∷◌, ◌++◌, length, get_or, append_assoc, length-append}
use Rattle.std.proofs.Common.{None, refl, sym, ap, ◌∙◌, arith}
use Rattle.std.specs.Prelude.{replicate, All}
use Rattle.std.proofs.lemmas.Bool.{cases_lt}
use Rattle.std.proofs.lemmas.Grind.{same_number_lists}
use Rattle.std.proofs.lemmas.List.{get_or_append_left, get_or-append_right}
use Rattle.edi_calls.specs.Names.{Name}
use Rattle.edi_store.specs.Memory.{words_at, written, zero_memory}
use Rattle.edi_store.proofs.MemoryLaws.{length-zero_words, get_or-zero_words, length-words_at, get_or-words_at, length-written, get_or-written_here}
use Rattle.edi_store.proofs.MemoryLaws.{get_or-written_after}
use Rattle.edi_unit.specs.declared.units.Parameter.{Parameter}
use Rattle.edi_unit.specs.declared.units.BlockKind.{BlockKind}
use Rattle.edi_unit.specs.declared.units.BlockKind.TheVariants as kind
use Rattle.edi_unit.specs.Types as types
use Rattle.edi_unit.specs.Types.{size}
use Rattle.edi_unit.specs.Tree.{Block}
use Rattle.edi_unit.specs.Fits.{KindFits, SlotIsKnown}
use Rattle.edi_meaning.specs.Store.{Cell, Shape}
use Rattle.edi_scheme.specs.Pieces.{is_branch}
use Rattle.edi_follows.specs.places.Coded.{Coded}
use Rattle.edi_follows.specs.places.Spots.{cell_words, cells_words}

-- ---- zeros

abbrev pub Zeros : List ℕ → Type 0
Zeros [] = Unit {0}
Zeros (x ∷ xs) = (x ≡ 0) × Zeros xs

pub zeros_append : (xs ys : List ℕ) → Zeros xs → Zeros ys → Zeros (xs ++ ys)
zeros_append [] ys h k = k
zeros_append (x ∷ xs) ys h k = (h.0, zeros_append xs ys h.1 k)

pub zeros_replicate : (n : ℕ) → Zeros (replicate n 0)
zeros_replicate zero = tt
zeros_replicate (suc n) = (refl, zeros_replicate n)

zeros_at : (xs : List ℕ) (i : ℕ) → Zeros xs → get_or xs i 0 ≡ 0
zeros_at [] i h = refl
zeros_at (x ∷ xs) zero h = h.0
zeros_at (x ∷ xs) (suc i) h = zeros_at xs i h.1

-- what is written into zeros, with zeros behind it
pub zeros_behind : (ws zs : List ℕ) (at : ℕ) → Zeros zs → at + length (ws ++ zs) ≤ 2 ^ 16 → words_at (written zero_memory at ws) at (length (ws ++ zs)) ≡ ws
    ++ zs
zeros_behind ws zs at z room =
    let both : length (ws ++ zs) ≡ length ws + length zs = length-append ws zs in
    let fit : at + length ws ≤ length zero_memory = omega (arith, both, room, length-zero_words (2 ^ 16)) in
    let long : length (written zero_memory at ws) ≡ length zero_memory = length-written zero_memory at ws fit in
    let count : length (words_at (written zero_memory at ws) at (length (ws ++ zs))) ≡ length (ws ++ zs) =
    length-words_at (written zero_memory at ws) at (length (ws ++ zs)) (omega (arith, long, room, length-zero_words (2 ^ 16))) in
    same_number_lists (words_at (written zero_memory at ws) at (length (ws ++ zs))) (ws ++ zs) count (λ i below.
    let less : i < length (ws ++ zs) = omega (arith, count, below) in
    get_or-words_at (written zero_memory at ws) at (length (ws ++ zs)) i less
    ∙ elim (cases_lt i (length ws)) [
      | inl h ↦ get_or-written_here zero_memory at ws i fit h ∙ sym (get_or_append_left ws zs 0 i h)
      | inr h ↦
          get_or-written_after zero_memory at ws (at + i) fit (omega (arith, h))
          ∙ get_or-zero_words (2 ^ 16) (at + i) (omega (arith, less, room))
          ∙ sym (get_or-append_right ws zs (length ws) i 0 refl h ∙ zeros_at zs (i - length ws) z)
    ])

-- ---- the program's block

pub of_program : (k : BlockKind) (n : ℕ) (b : Block) → n ≡ 0 → KindFits k n b → (is_branch k ≡ false) × (b.result ≡ None)
of_program kind.Program n b e h = (refl, h.1)
of_program kind.Procedure n b e h = absurd (omega (arith, e, h.0))
of_program kind.Function n b e h = absurd (omega (arith, e, h.0))
of_program kind.Branch n b e h = absurd (omega (arith, e, h.0))

pub known_right : (types : List types.Shape) (ps qs : List Parameter) → All (SlotIsKnown types) (ps ++ qs) → All (SlotIsKnown types) qs
known_right types [] qs h = h
known_right types (p ∷ ps) qs h = known_right types ps qs (λ k d l. h (suc k) d (omega (arith, l)))

pub cells_append : (g : Coded) (first : Name → ℕ) (F : Shape) (cs ds : List Cell) → cells_words g first F
    (cs ++ ds) ≡ cells_words g first F cs ++ cells_words g first F ds
cells_append g first F [] ds = refl
cells_append g first F (c ∷ cs) ds = ap (λ l. cell_words g first F c ++ l) (cells_append g first F cs ds)
    ∙ sym (append_assoc (cell_words g first F c) (cells_words g first F cs) (cells_words g first F ds))
