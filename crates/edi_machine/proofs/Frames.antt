-- What is pushed and popped.
use Rattle.std.proofs.Common.{◌≡◌, ℕ, ◌+◌, ◌-◌, ◌^◌, ◌<◌, ◌≤◌, true, List, [], ◌∷◌, ◌++◌, length, get_or, set, take, drop, refl}
use Rattle.std.proofs.Common.{sym, ap, ap₂, ◌∙◌, arith, append_assoc, length-append, length-take}
use Rattle.std.specs.Prelude.{nat_le}
use Rattle.std.proofs.lemmas.Bool.{le-leb, lt-leb}
use Rattle.std.proofs.lemmas.List.{take_more, take_at, drop_at, drop-drop, drop_more}
use Rattle.edi_store.specs.Memory.{words_at, written}
use Rattle.edi_store.specs.Copied.{IsMemory}
use Rattle.edi_store.proofs.MemoryLaws.{written-one, length-written, length-words_at}
use Rattle.edi_target.specs.Effect.{Local, Effect, bad, goes, pop, pop_word, push, to, within}
use Rattle.edi_machine.specs.declared.ends.StepEnd.{StepEnd}
use Rattle.edi_machine.specs.declared.ends.StepEnd.TheVariants as end
use Rattle.edi_machine.specs.Steps.{Gives}

-- ---- words written behind others

-- one word written is a word put
pub put_one : (memory : List ℕ) (at w : ℕ) → IsMemory memory → at < 2 ^ 16 → set memory at w ≡ written memory at (w ∷ [])
put_one memory at w is small = sym (written-one memory at w (omega (arith, is.long)))

pub written_append : (memory : List ℕ) (at : ℕ) (xs ys : List ℕ) → at + (length xs + length ys) ≤ length memory → written (written memory at xs)
    (at + length xs) ys ≡ written memory at (xs ++ ys)
written_append memory at xs ys within =
    let front : List ℕ = take at memory ++ xs in
    let rest : List ℕ = drop (at + length xs) memory in
    let parts : written memory at xs ≡ front ++ rest = sym (append_assoc (take at memory) xs rest) in
    let long : length front ≡ at + length xs = omega (arith, length-append (take at memory) xs, length-take at memory) in
    let before : take (at + length xs) (written memory at xs) ≡ front = ap (take (at + length xs)) parts ∙ take_at front rest (at + length xs) long in
    let behind : drop (at + length xs) (written memory at xs) ≡ rest = ap (drop (at + length xs)) parts ∙ drop_at front rest (at + length xs) long in
    let after : drop (at + length xs + length ys) (written memory at xs) ≡ drop (at + length xs + length ys) memory =
    sym (drop-drop (length ys) (at + length xs) (written memory at xs)) ∙ ap (drop (length ys)) behind ∙ drop-drop (length ys) (at + length xs) memory in
    let count : at + length xs + length ys ≡ at + length (xs ++ ys) = omega (arith, length-append xs ys) in
    ap₂ (λ (a b : List ℕ). a ++ (ys ++ b)) before (after ∙ ap (λ n. drop n memory) count)
    ∙ append_assoc (take at memory) xs (ys ++ drop (at + length (xs ++ ys)) memory)
    ∙ ap (λ l. take at memory ++ l) (sym (append_assoc xs ys (drop (at + length (xs ++ ys)) memory)))

pub written_more : (memory : List ℕ) (at : ℕ) (words : List ℕ) (i : ℕ) → i < length words → at + length words ≤ length memory
    → set (written memory at (take i words)) (at + i) (get_or words i 0) ≡ written memory at (take (i + 1) words)
written_more memory at words i here within =
    let count : length (take i words) ≡ i = omega (arith, length-take i words) in
    let w : ℕ = get_or words i 0 in
    let long : length (written memory at (take i words)) ≡ length memory = length-written memory at (take i words) (omega (arith, count)) in
    sym (written-one (written memory at (take i words)) (at + i) w (omega (arith, long)))
    ∙ ap (λ n. written (written memory at (take i words)) n (w ∷ [])) (ap (λ k. at + k) (sym count))
    ∙ written_append memory at (take i words) (w ∷ []) (omega (arith, count))
    ∙ ap (written memory at) (sym (take_more words i 0 here))

pub words_at_length : (memory : List ℕ) (at n : ℕ) → IsMemory memory → at + n ≤ 2 ^ 16 → length (words_at memory at n) ≡ n
words_at_length memory at n is within = length-words_at memory at n (omega (arith, is.long))

pub words_at_one : (memory : List ℕ) (at : ℕ) → at < length memory → words_at memory at 1 ≡ get_or memory at 0 ∷ []
words_at_one memory at within = ap (take 1) (drop_more memory at 0 within)

-- ---- pushes

-- a push where the frame has room, and where it has none
pub push_goes : (words : List ℕ) (l : Local) (go : Local → Effect) → l.top + length words ≤ l.end
    → push words l go ≡ go (record l { memory = written l.memory l.top words; top = l.top + length words })
push_goes words l go room = rw (le-leb (l.top + length words) l.end room) refl

pub push_bad : (words : List ℕ) (l : Local) (go : Local → Effect) → l.end < l.top + length words → push words l go ≡ bad
push_bad words l go full = rw (lt-leb (l.top + length words) l.end full) refl

pub pushed : (words : List ℕ) (l : Local) (next : ℕ) (before after : Local) → l.top + length words ≤ l.end
    → after ≡ record l { memory = written l.memory l.top words; top = l.top + length words; pc = next } → Gives (push words l (to next)) end.On before after
pushed words l next before after room same = rw (push_goes words l (to next) room) same

-- one word that is loaded is a word pushed
pub loaded_one : (memory : List ℕ) (x : ℕ) (l : Local) (next : ℕ) (result : StepEnd) (before after : Local) → IsMemory memory → x < 2 ^ 16
    → Gives (push (get_or memory x 0 ∷ []) l (to next)) result before after
    → Gives (within x 1 (push (words_at memory x 1) l (to next))) result before after
loaded_one memory x l next result before after is small h =
    rw (le-leb (x + 1) (2 ^ 16) (omega (arith, small)), words_at_one memory x (omega (arith, is.long))) h

-- ---- stores

-- one word that is kept
pub kept_one : (l : Local) (x w next : ℕ) (new : List ℕ) → IsMemory l.memory → l.base + 7 ≤ l.top → l.top ≤ 2 ^ 16 → x ≡ get_or l.memory (l.top - 1 - 1) 0
    → w ≡ get_or l.memory (l.top - 1) 0 → x < 2 ^ 16 → new ≡ set l.memory x w
    → Gives (pop 1 l (λ words l. pop_word l (λ x l. within x 1 (goes (record l { memory = written l.memory x words; pc = next }))))) end.On l
    (record l { memory = new; top = l.top - 1 - 1; pc = next })
kept_one l x w next new is two top at value small put =
    let word : w ∷ [] ≡ words_at l.memory (l.top - 1) 1 = ap (λ y. y ∷ []) value ∙ sym (words_at_one l.memory (l.top - 1) (omega (arith, is.long, two, top))) in
    let with_memory : List ℕ → Local = λ m. record l { memory = m; top = l.top - 1 - 1; pc = next } in
    let same : with_memory new ≡ with_memory (written l.memory x (words_at l.memory (l.top - 1) 1)) =
    ap with_memory (put ∙ put_one l.memory x w is small ∙ ap (written l.memory x) word) in
    let inside : nat_le (x + 1) (2 ^ 16) ≡ true = le-leb (x + 1) (2 ^ 16) (omega (arith, small)) in
    rw (le-leb (l.base + 5 + 1) l.top (omega (arith, two)), le-leb (l.base + 6) (l.top - 1) (omega (arith, two)), sym at, inside) same
