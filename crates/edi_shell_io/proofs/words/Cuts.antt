-- Words cut off the front of a line.
use Rattle.std.proofs.Common.{◌≡◌, ℕ, suc, ◌+◌, Bool, true, false, cond, List, [], ◌∷◌, length, take, drop, refl, sym, ap, ◌∙◌, arith}
use Rattle.std.specs.Prelude.{not, ◌||◌, ◌==◌, filter}
use Rattle.std.specs.List.{slice_split, onto_first, prefix_len, list_any}
use Rattle.std.proofs.lemmas.Bool.{eqb-true}
use Rattle.edi_calls.specs.State.{before, without_blanks}
use Rattle.edi_image.specs.Titles.{title_from}
use Rattle.edi_image.proofs.Spelled.{before_kept}
use Rattle.edi_session.specs.Words.{is_gap, is_word, words_in}
use Rattle.edi_shell_io.specs.words.Operands.{begun, behind_word, first_word, is_plain, title_in}

drop_one : (n : ℕ) (b : ℕ) (bs : List ℕ) → drop (1 + n) (b ∷ bs) ≡ drop n bs
drop_one n b bs = let e : 1 + n ≡ suc n = omega arith in rw e refl

take_one : (n : ℕ) (b : ℕ) (bs : List ℕ) → take (1 + n) (b ∷ bs) ≡ b ∷ take n bs
take_one n b bs = let e : 1 + n ≡ suc n = omega arith in rw e refl

abbrev parts : List ℕ → List (List ℕ)
parts = slice_split is_gap

-- separators in front make no word
begun_more : (b : ℕ) (line : List ℕ) (t : Bool) → is_gap b ≡ t → words_in line ≡ words_in (begun line)
    → words_in (b ∷ line) ≡ words_in (drop (cond t (1 + prefix_len is_gap line) 0) (b ∷ line))
begun_more b line true e rest =
    ap (λ t. filter is_word (cond t ([] ∷ parts line) (onto_first b (parts line)))) e
    ∙ rest ∙ ap words_in (sym (drop_one (prefix_len is_gap line) b line))
begun_more b line false e rest = refl

pub same_words : (line : List ℕ) → words_in line ≡ words_in (begun line)
same_words [] = refl
same_words (b ∷ line) = begun_more b line (is_gap b) refl (same_words line)

-- the parts of a line are its first word and others, which are the words behind it
pub record IsCut (line : List ℕ) : Type 0 where
  pub others : List (List ℕ)
  pub first : parts line ≡ first_word line ∷ others
  pub behind : words_in (behind_word line) ≡ filter is_word others

cut_more : (b : ℕ) (line : List ℕ) (t : Bool) → is_gap b ≡ t → IsCut line → IsCut (b ∷ line)
cut_more b line true e rest = record {
  others = parts line;
  first = ap (λ t. cond t ([] ∷ parts line) (onto_first b (parts line))) e
      ∙ ap (λ t. take (cond (not t) (1 + prefix_len is_plain line) 0) (b ∷ line) ∷ parts line) (sym e);
  behind = ap (λ t. words_in (drop (cond (not t) (1 + prefix_len is_plain line) 0) (b ∷ line))) e
      ∙ ap (λ t. filter is_word (cond t ([] ∷ parts line) (onto_first b (parts line)))) e;
}
cut_more b line false e rest = record {
  others = rest.others;
  first = ap (λ t. cond t ([] ∷ parts line) (onto_first b (parts line))) e ∙ ap (onto_first b) rest.first
      ∙ ap (λ w. w ∷ rest.others) (sym (take_one (prefix_len is_plain line) b line))
      ∙ ap (λ t. take (cond (not t) (1 + prefix_len is_plain line) 0) (b ∷ line) ∷ rest.others) (sym e);
  behind = ap (λ t. words_in (drop (cond (not t) (1 + prefix_len is_plain line) 0) (b ∷ line))) e
      ∙ ap words_in (drop_one (prefix_len is_plain line) b line) ∙ rest.behind;
}

pub is_cut : (line : List ℕ) → IsCut line
is_cut [] = record { others = []; first = refl; behind = refl }
is_cut (b ∷ line) = cut_more b line (is_gap b) refl (is_cut line)

-- no separator is in a word
whole_more : (b : ℕ) (line : List ℕ) (t : Bool) → is_gap b ≡ t → list_any is_gap (first_word line) ≡ false
    → list_any is_gap (take (cond (not t) (1 + prefix_len is_plain line) 0) (b ∷ line)) ≡ false
whole_more b line true e rest = refl
whole_more b line false e rest =
    ap (list_any is_gap) (take_one (prefix_len is_plain line) b line)
    ∙ ap (λ t. t || list_any is_gap (first_word line)) e ∙ rest

pub is_whole : (line : List ℕ) → list_any is_gap (first_word line) ≡ false
is_whole [] = refl
is_whole (b ∷ line) = whole_more b line (is_gap b) refl (is_whole line)

-- behind the first separators a word begins, or nothing is left
word_more : (b : ℕ) (line : List ℕ) (t : Bool) → is_gap b ≡ t
    → is_word (first_word (begun line)) ≡ is_word (begun line)
    → is_word (first_word (drop (cond t (1 + prefix_len is_gap line) 0) (b ∷ line)))
    ≡ is_word (drop (cond t (1 + prefix_len is_gap line) 0) (b ∷ line))
word_more b line true e rest =
    let same = drop_one (prefix_len is_gap line) b line in
    ap (λ l. is_word (first_word l)) same ∙ rest ∙ ap is_word (sym same)
word_more b line false e rest =
    ap (λ t. is_word (take (cond (not t) (1 + prefix_len is_plain line) 0) (b ∷ line))) e
    ∙ ap is_word (take_one (prefix_len is_plain line) b line)

pub word_begins : (line : List ℕ) → is_word (first_word (begun line)) ≡ is_word (begun line)
word_begins [] = refl
word_begins (b ∷ line) = word_more b line (is_gap b) refl (word_begins line)

no_word : (line : List ℕ) → is_word line ≡ false → line ≡ []
no_word [] h = refl
no_word (b ∷ line) h = absurd (cc)

empty_word : (word : List ℕ) → (length word == 0) ≡ true → is_word word ≡ false
empty_word [] h = refl
empty_word (b ∷ word) h = absurd (let none : suc (length word) ≡ 0 = eqb-true _ 0 h in omega arith)

some_word : (word : List ℕ) → (length word == 0) ≡ false → is_word word ≡ true
some_word [] h = absurd (cc)
some_word (b ∷ word) h = refl

-- WHERE THE FIRST WORD IS EMPTY, there is none; else it is the first, and the others stand behind it
pub has_no_word : (line : List ℕ) → (length (first_word (begun line)) == 0) ≡ true → words_in line ≡ []
has_no_word line h =
    same_words line ∙ ap words_in (no_word (begun line) (sym (word_begins line) ∙ empty_word (first_word (begun line)) h))

pub has_word : (line : List ℕ) → (length (first_word (begun line)) == 0) ≡ false
    → words_in line ≡ first_word (begun line) ∷ words_in (behind_word (begun line))
has_word line h =
    let cut = is_cut (begun line) in
    same_words line ∙ ap (filter is_word) cut.first
    ∙ ap (λ t. cond t (first_word (begun line) ∷ filter is_word cut.others) (filter is_word cut.others)) (some_word (first_word (begun line)) h)
    ∙ ap (λ ws. first_word (begun line) ∷ ws) (sym cut.behind)

-- a word has no blanks at its end
no_blank : (b : ℕ) (s : Bool) → is_gap b ≡ false → (b == 32) ≡ s → s ≡ false
no_blank b false h e = refl
no_blank b true h e = absurd (let so : true ≡ false = sym (ap (λ t. t || b == 9 || b == 13) e) ∙ h in cc)

first_false : (a b : Bool) → (a || b) ≡ false → a ≡ false
first_false false b h = refl
first_false true b h = h

second_false : (a b : Bool) → (a || b) ≡ false → b ≡ false
second_false false b h = h
second_false true b h = absurd (cc)

kept_whole : (word : List ℕ) → list_any is_gap word ≡ false → without_blanks word ≡ word
kept_whole [] h = refl
kept_whole (b ∷ word) h =
    ap (before b) (kept_whole word (second_false (is_gap b) (list_any is_gap word) h))
    ∙ before_kept b word (no_blank b (b == 32) (first_false (is_gap b) (list_any is_gap word) h) refl)

pub title_same : (word : List ℕ) → list_any is_gap word ≡ false → title_from word ≡ title_in word
title_same word h = ap title_in (kept_whole word h)
