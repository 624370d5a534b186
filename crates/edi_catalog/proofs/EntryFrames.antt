-- An image in which the entry of one slot is written.
use Rattle.std.proofs.Common.{◌≡◌, ℕ, zero, suc, ◌+◌, ◌-◌, ◌*◌, ◌/◌, ◌%◌, ◌<◌, ◌≤◌, ◌⊎◌, inl, inr, List, [], ◌∷◌, ◌++◌, length, take, drop, refl, ap, sym}
use Rattle.std.proofs.Common.{◌∙◌, arith, length-append, length-drop, append_assoc}
use Rattle.std.proofs.Math.Seq.{take-append_seam, drop-append_seam, drop-append-add}
use Rattle.std.proofs.lemmas.List.{take-append-drop, take-append-le, drop-append-le, drop-drop, length-take-le, get_or-set_same, get_or-set_other, length-set}
use Rattle.std.proofs.lemmas.Bool.{cases_order, cases_eq}
use Rattle.edi_image.specs.Entries.{block_at, entry_says}
use Rattle.edi_image.specs.Image.{entry_at, said_at, entries_from}
use Rattle.edi_catalog.specs.Writing.{patched, with_entry, IsWritten}

-- ---- in a block

-- a block as it is put together
pub over_made : (at : ℕ) (block entry front placed back rest : List ℕ) → front ≡ take at block → placed ≡ entry → rest ≡ drop at block
    → back ≡ drop 64 rest → length entry ≡ 64 → front ++ (placed ++ back) ≡ patched at entry block
over_made at block entry front placed back rest f p r b size =
    ap (λ bs. front ++ (placed ++ bs)) (b ∙ ap (drop 64) r ∙ drop-drop 64 at block ∙ ap (λ n. drop (at + n) block) (sym size))
    ∙ ap (λ bs. front ++ (bs ++ drop (at + length entry) block)) p
    ∙ ap (λ bs. bs ++ (entry ++ drop (at + length entry) block)) f

patch_here : (at : ℕ) (entry block : List ℕ) → at + 64 ≤ length block → length entry ≡ 64 → take 64 (drop at (patched at entry block)) ≡ entry
patch_here at entry block h size =
    ap (λ n. take 64 (drop n (patched at entry block))) (sym (length-take-le at block (omega arith)))
    ∙ ap (take 64) (drop-append_seam (take at block) (entry ++ drop (at + length entry) block))
    ∙ ap (λ n. take n (entry ++ drop (at + length entry) block)) (sym size)
    ∙ take-append_seam entry (drop (at + length entry) block)

-- the entries in the front, whatever stands behind it
front_only : (front back : List ℕ) (n : ℕ) → n + 64 ≤ length front → take 64 (drop n (front ++ back)) ≡ take 64 (drop n front)
front_only front back n h =
    ap (take 64) (drop-append-le n front back (omega arith))
    ∙ take-append-le 64 (drop n front) back (omega (arith, length-drop n front))

-- what stands behind the front, whatever that is
back_only : (front back : List ℕ) (m n : ℕ) → length front ≡ m → m ≤ n → drop n (front ++ back) ≡ drop (n - m) back
back_only front back m n size h =
    ap (λ k. drop k (front ++ back)) (let index : n ≡ length front + (n - m) = omega (arith, size) in index)
    ∙ drop-append-add front back (n - m)

patch_other : (i j : ℕ) (entry block : List ℕ) → i < 8 → j < 8 → length block ≡ 512 → length entry ≡ 64 → (j ≡ i → ⊥)
    → take 64 (drop (64 * j) (patched (64 * i) entry block)) ≡ take 64 (drop (64 * j) block)
patch_other i j entry block hi hj size long other = go (cases_order j i) where
  start : length (take (64 * i) block) ≡ 64 * i
  start = length-take-le (64 * i) block (omega arith)

  go : (j ≡ i) ⊎ ((j < i) ⊎ (i < j)) → take 64 (drop (64 * j) (patched (64 * i) entry block)) ≡ take 64 (drop (64 * j) block)
  go (inl e) = absurd (other e)
  go (inr (inl h)) =
      front_only (take (64 * i) block) (entry ++ drop (64 * i + length entry) block) (64 * j) (omega (arith, start))
      ∙ sym (front_only (take (64 * i) block) (drop (64 * i) block) (64 * j) (omega (arith, start)))
      ∙ ap (λ b. take 64 (drop (64 * j) b)) (take-append-drop (64 * i) block)
  go (inr (inr h)) =
      let front : length (take (64 * i) block ++ entry) ≡ 64 * i + length entry =
      length-append (take (64 * i) block) entry ∙ ap (λ n. n + length entry) start in
      let same : length (take (64 * i + length entry) block) ≡ 64 * i + length entry =
      length-take-le (64 * i + length entry) block (omega arith) in
      ap (λ b. take 64 (drop (64 * j) b)) (sym (append_assoc (take (64 * i) block) entry (drop (64 * i + length entry) block)))
      ∙ ap (take 64) (back_only (take (64 * i) block ++ entry) (drop (64 * i + length entry) block) (64 * i + length entry) (64 * j) front (omega arith))
      ∙ ap (take 64) (sym (back_only (take (64 * i + length entry) block) (drop (64 * i + length entry) block) (64 * i + length entry) (64 * j) same
      (omega arith)))
      ∙ ap (λ b. take 64 (drop (64 * j) b)) (take-append-drop (64 * i + length entry) block)

-- ---- in the image

-- the blocks but that of the entry are as they were
pub block_kept : (blocks : List (List ℕ)) (slot : ℕ) (entry : List ℕ) (n : ℕ) → (n ≡ 1 + slot / 8 → ⊥)
    → block_at (with_entry blocks slot entry) n ≡ block_at blocks n
block_kept blocks slot entry n other = get_or-set_other blocks (1 + slot / 8) n _ [] other

pub entry_here : (blocks : List (List ℕ)) (slot : ℕ) (entry : List ℕ) → length (block_at blocks (1 + slot / 8)) ≡ 512 → length entry ≡ 64
    → 1 + slot / 8 < length blocks → entry_at (with_entry blocks slot entry) slot ≡ entry
entry_here blocks slot entry whole long h =
    ap (λ b. take 64 (drop (64 * (slot % 8)) b)) (get_or-set_same blocks (1 + slot / 8) (patched (64 * (slot % 8)) entry (block_at blocks (1 + slot / 8))) [] h)
    ∙ patch_here (64 * (slot % 8)) entry (block_at blocks (1 + slot / 8)) (omega arith) long

pub entry_other : (blocks : List (List ℕ)) (slot other : ℕ) (entry : List ℕ) → length (block_at blocks (1 + slot / 8)) ≡ 512 → length entry ≡ 64
    → 1 + slot / 8 < length blocks → (other ≡ slot → ⊥) → entry_at (with_entry blocks slot entry) other ≡ entry_at blocks other
entry_other blocks slot other entry whole long h apart = go (cases_eq (other / 8) (slot / 8)) where
  go : (other / 8 ≡ slot / 8) ⊎ (other / 8 ≡ slot / 8 → ⊥) → entry_at (with_entry blocks slot entry) other ≡ entry_at blocks other
  go (inr differ) =
      ap (λ b. take 64 (drop (64 * (other % 8)) b))
      (block_kept blocks slot entry (1 + other / 8) (λ e. differ (let same : other / 8 ≡ slot / 8 = omega (arith, e) in same)))
  go (inl e) =
      let index : 1 + other / 8 ≡ 1 + slot / 8 = omega (arith, e) in
      ap (λ n. take 64 (drop (64 * (other % 8)) (block_at (with_entry blocks slot entry) n))) index
      ∙ ap (λ b. take 64 (drop (64 * (other % 8)) b))
      (get_or-set_same blocks (1 + slot / 8) (patched (64 * (slot % 8)) entry (block_at blocks (1 + slot / 8))) [] h)
      ∙ patch_other (slot % 8) (other % 8) entry (block_at blocks (1 + slot / 8)) (omega arith) (omega arith) whole long
      (λ same. apart (let eq : other ≡ slot = omega (arith, e, same) in eq))
      ∙ ap (λ n. take 64 (drop (64 * (other % 8)) (block_at blocks n))) (sym index)

pub said_here : (blocks : List (List ℕ)) (slot : ℕ) (entry : List ℕ) → length (block_at blocks (1 + slot / 8)) ≡ 512 → length entry ≡ 64
    → 1 + slot / 8 < length blocks → said_at (with_entry blocks slot entry) slot ≡ entry_says (length blocks) entry
said_here blocks slot entry whole long h =
    ap (λ n. entry_says n (entry_at (with_entry blocks slot entry) slot)) (length-set blocks (1 + slot / 8) _)
    ∙ ap (entry_says (length blocks)) (entry_here blocks slot entry whole long h)

pub said_other : (blocks : List (List ℕ)) (slot other : ℕ) (entry : List ℕ) → length (block_at blocks (1 + slot / 8)) ≡ 512 → length entry ≡ 64
    → 1 + slot / 8 < length blocks → (other ≡ slot → ⊥) → said_at (with_entry blocks slot entry) other ≡ said_at blocks other
said_other blocks slot other entry whole long h apart =
    ap (λ n. entry_says n (entry_at (with_entry blocks slot entry) other)) (length-set blocks (1 + slot / 8) _)
    ∙ ap (entry_says (length blocks)) (entry_other blocks slot other entry whole long h apart)

-- ---- the list of entries

pub entries_same : (one two : List (List ℕ)) (first n : ℕ) → ((slot : ℕ) → first ≤ slot → slot < first + n → said_at one slot ≡ said_at two slot)
    → entries_from one first n ≡ entries_from two first n
entries_same one two first zero same = refl
entries_same one two first (suc n) same =
    ap (λ s. s ∷ entries_from one (first + 1) n) (same first (omega arith) (omega arith))
    ∙ ap (λ es. said_at two first ∷ es) (entries_same one two (first + 1) n (λ slot low high. same slot (omega arith) (omega arith)))

pub entries_split : (blocks : List (List ℕ)) (first a b : ℕ)
    → entries_from blocks first (a + suc b)
    ≡ entries_from blocks first a ++ said_at blocks (first + a) ∷ entries_from blocks (first + a + 1) b
entries_split blocks first zero b =
    let same : first ≡ first + 0 = omega arith in
    let all : 0 + suc b ≡ suc b = omega arith in
    ap (entries_from blocks first) all ∙ ap (λ n. said_at blocks n ∷ entries_from blocks (n + 1) b) same
entries_split blocks first (suc a) b =
    let same : first + 1 + a ≡ first + suc a = omega arith in
    let all : suc a + suc b ≡ suc (a + suc b) = omega arith in
    ap (entries_from blocks first) all
    ∙ ap (λ es. said_at blocks first ∷ es)
    (entries_split blocks (first + 1) a b
    ∙ ap (λ n. entries_from blocks (first + 1) a ++ said_at blocks n ∷ entries_from blocks (n + 1) b) same)

pub length-entries_from : (blocks : List (List ℕ)) (first n : ℕ) → length (entries_from blocks first n) ≡ n
length-entries_from blocks first zero = refl
length-entries_from blocks first (suc n) = ap suc (length-entries_from blocks (first + 1) n)

-- the entries before a slot, that of the slot, and those behind it
pub entries_around : (blocks : List (List ℕ)) (slot : ℕ) → slot < 256
    → entries_from blocks 0 256 ≡ entries_from blocks 0 slot ++ said_at blocks slot ∷ entries_from blocks (slot + 1) (255 - slot)
entries_around blocks slot h =
    let whole : 256 ≡ slot + suc (255 - slot) = omega arith in
    let same : 0 + slot ≡ slot = omega arith in
    ap (entries_from blocks 0) whole ∙ entries_split blocks 0 slot (255 - slot)
    ∙ ap (λ n. entries_from blocks 0 slot ++ said_at blocks n ∷ entries_from blocks (n + 1) (255 - slot)) same

-- with the entry written
pub entries_written : (old new : List (List ℕ)) (slot : ℕ) (entry : List ℕ) → slot < 256 → length entry ≡ 64 → 1 + slot / 8 < length old
    → IsWritten slot entry old new
    → entries_from new 0 256
    ≡ entries_from old 0 slot ++ entry_says (length old) entry ∷ entries_from old (slot + 1) (255 - slot)
entries_written old new slot entry h long inside written =
    ap (λ bs. entries_from bs 0 256) written.now
    ∙ entries_around (with_entry old slot entry) slot h
    ∙ ap (λ es. es ++ said_at (with_entry old slot entry) slot ∷ entries_from (with_entry old slot entry) (slot + 1) (255 - slot))
    (entries_same (with_entry old slot entry) old 0 slot
    (λ other low high. said_other old slot other entry written.whole long inside (λ e. absurd (let no : suc other ≤ other = omega (arith, e, high) in
    omega (arith, no)))))
    ∙ ap (λ s. entries_from old 0 slot ++ s ∷ entries_from (with_entry old slot entry) (slot + 1) (255 - slot))
    (said_here old slot entry written.whole long inside)
    ∙ ap (λ es. entries_from old 0 slot ++ entry_says (length old) entry ∷ es)
    (entries_same (with_entry old slot entry) old (slot + 1) (255 - slot)
    (λ other low high. said_other old slot other entry written.whole long inside (λ e. absurd (let no : suc other ≤ other = omega (arith, e, low) in
    omega (arith, no)))))
