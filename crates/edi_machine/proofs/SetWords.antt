-- The words of sets, and what is done to their members.
use Rattle.std.proofs.Common.{◌≡◌, ℕ, ◌+◌, ◌<◌, ◌≤◌, ◌^◌, ◌&&◌, List, length, get_or, sym, ap, ◌∙◌, arith}
use Rattle.std.specs.Prelude.{nat_lt}
use Rattle.std.proofs.lemmas.Grind.{same_number_lists}
use Rattle.edi_word.specs.Words.{signed}
use Rattle.edi_word.specs.Sets.{set_union, set_minus, set_meet, set_has_int, with_member, word_has, words_union}
use Rattle.edi_word.specs.SetWords.{AreSetWords, members_of, words_of_members}
use Rattle.edi_word.specs.Sets.{words_minus, words_meet, words_with}
use Rattle.edi_word.specs.SetViews.{words_of_members-members_of}
use Rattle.edi_word.proofs.SetLaws.{members_of-words_union, members_of-words_minus, members_of-words_meet, members_of-words_with, AreSetWords-words_union}
use Rattle.edi_word.proofs.SetLaws.{AreSetWords-words_minus, AreSetWords-words_meet, AreSetWords-words_with, has_agrees}
use Rattle.edi_store.specs.Memory.{words_at}
use Rattle.edi_store.specs.Copied.{IsMemory}
use Rattle.edi_store.proofs.MemoryLaws.{length-words_at, get_or-words_at}

pub union_words : (one other : List ℕ) → AreSetWords one → AreSetWords other → words_of_members (set_union (members_of one) (members_of other)) ≡ words_union
    one other
union_words one other are both =
    ap words_of_members (sym (members_of-words_union one other are both))
    ∙ words_of_members-members_of (words_union one other) (AreSetWords-words_union one other are both)

pub minus_words : (one other : List ℕ) → AreSetWords one → AreSetWords other → words_of_members (set_minus (members_of one) (members_of other)) ≡ words_minus
    one other
minus_words one other are both =
    ap words_of_members (sym (members_of-words_minus one other are both))
    ∙ words_of_members-members_of (words_minus one other) (AreSetWords-words_minus one other are both)

pub meet_words : (one other : List ℕ) → AreSetWords one → AreSetWords other → words_of_members (set_meet (members_of one) (members_of other)) ≡ words_meet one
    other
meet_words one other are both =
    ap words_of_members (sym (members_of-words_meet one other are both))
    ∙ words_of_members-members_of (words_meet one other) (AreSetWords-words_meet one other are both)

pub with_words : (words : List ℕ) (n : ℕ) → AreSetWords words → n < 128 → words_of_members (with_member (members_of words) n) ≡ words_with words n
with_words words n are ordinal =
    ap words_of_members (sym (members_of-words_with words n are ordinal))
    ∙ words_of_members-members_of (words_with words n) (AreSetWords-words_with words n are ordinal)

pub has_word : (words : List ℕ) (x : ℕ) → AreSetWords words → x < 2 ^ 16 → set_has_int (members_of words) (signed x) ≡ (nat_lt x 128 && word_has words x)
has_word words x are small = sym (has_agrees words x are small)

-- eight words that were read one by one
pub read_eight : (memory : List ℕ) (at : ℕ) (words : List ℕ) → IsMemory memory → at + 8 ≤ 2 ^ 16 → length words ≡ 8
    → ((k : ℕ) → k < 8 → get_or words k 0 ≡ get_or memory (at + k) 0) → words ≡ words_at memory at 8
read_eight memory at words is within eight each =
    same_number_lists words (words_at memory at 8) (eight ∙ sym (length-words_at memory at 8 (omega (arith, is.long)))) (λ k below.
    each k (omega (arith, eight)) ∙ sym (get_or-words_at memory at 8 k (omega (arith, eight))))
