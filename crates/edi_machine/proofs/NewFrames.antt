-- The words of a new frame.
use Rattle.std.proofs.Common.{◌≡◌, ℕ, ◌+◌, ◌^◌, ◌≤◌, List, ◌++◌, length, sym, ap, ap₂, ◌∙◌, inl, arith, append_assoc, length-append}
use Rattle.std.specs.Prelude.{replicate}
use Rattle.std.proofs.lemmas.List.{length-replicate}
use Rattle.edi_store.specs.Memory.{words_at, written}
use Rattle.edi_store.specs.Copied.{IsMemory, copied, cleared}
use Rattle.edi_store.proofs.MemoryLaws.{length-words_at, words_at-written_apart}
use Rattle.edi_machine.proofs.Frames.{written_append}

-- words that are written part by part: the first five, zeros, words from before them, and zeros
pub frame_written : (memory : List ℕ) (at : ℕ) (first : List ℕ) (r from p k : ℕ) → IsMemory memory → length first ≡ 5 → from + p ≤ at
    → at + (5 + r + p + k) ≤ 2 ^ 16 → cleared (copied (cleared (written memory at first) (at + 5) r) from (at + 5 + r) p) (at + 5 + r + p) k ≡ written memory at
    (first ++ ((replicate r 0 ++ words_at memory from p) ++ replicate k 0))
frame_written memory at first r from p k is five before within =
    let zeros : List ℕ = replicate r 0 in
    let words : List ℕ = words_at memory from p in
    let rest : List ℕ = replicate k 0 in
    let n : length zeros ≡ r = length-replicate r 0 in
    let m : length rest ≡ k = length-replicate k 0 in
    let o : length words ≡ p = length-words_at memory from p (omega (arith, is.long)) in
    let long : length (first ++ zeros) ≡ 5 + r = omega (arith, length-append first zeros) in
    let longer : length ((first ++ zeros) ++ words) ≡ 5 + r + p = omega (arith, length-append (first ++ zeros) words) in
    let one : cleared (written memory at first) (at + 5) r ≡ written memory at (first ++ zeros) =
    ap (λ a. written (written memory at first) (at + a) zeros) (sym five) ∙ written_append memory at first zeros (omega (arith, is.long)) in
    let same : words_at (written memory at (first ++ zeros)) from p ≡ words =
    words_at-written_apart memory at (first ++ zeros) from p (omega (arith, is.long)) (omega (arith, is.long)) (inl before) in
    let two : copied (written memory at (first ++ zeros)) from (at + 5 + r) p ≡ written memory at ((first ++ zeros) ++ words) =
    ap₂ (λ a (ws : List ℕ). written (written memory at (first ++ zeros)) a ws) (omega (arith, long)) same
    ∙ written_append memory at (first ++ zeros) words (omega (arith, is.long)) in
    let three : cleared (written memory at ((first ++ zeros) ++ words)) (at + 5 + r + p) k ≡ written memory at (((first ++ zeros) ++ words) ++ rest) =
    ap (λ a. written (written memory at ((first ++ zeros) ++ words)) a rest) (omega (arith, longer))
    ∙ written_append memory at ((first ++ zeros) ++ words) rest (omega (arith, is.long)) in
    let parts : ((first ++ zeros) ++ words) ++ rest ≡ first ++ ((zeros ++ words) ++ rest) = simp append_assoc in
    ap (λ (l : List ℕ). cleared (copied l from (at + 5 + r) p) (at + 5 + r + p) k) one
    ∙ ap (λ (l : List ℕ). cleared l (at + 5 + r + p) k) two
    ∙ three
    ∙ ap (written memory at) parts
