-- What the marks keep when one more is added.
use Rattle.std.proofs.Common.{◌≡◌, ℕ, ◌+◌, ◌≤◌, Bool, true, false, ◌&&◌, cond, eqb, leb, List, [], ◌∷◌, ◌++◌, Option, None, Some, refl, ◌∙◌, arith}
use Rattle.std.specs.Prelude.{unwrap_or}
use Rattle.std.specs.Str.{bytes_eq}
use Rattle.std.specs.List.{list_all}
use Rattle.std.proofs.lemmas.Bool.Decides.{nat_tests}
use Rattle.std.proofs.lemmas.List.Folds.{list_all-append}
use Rattle.std.proofs.lemmas.List.Sums.{sum_by-append}
use Rattle.edi_lex.specs.Words.{symbol_beside, word_symbols, word_of}
use Rattle.edi_lex.specs.Specials.{special_of, special_pair}
use Rattle.edi_lex.specs.Spelling.{word_or_name}
use Rattle.edi_lex.specs.Spelled.{is_name, is_spelled, are_spelled}
use Rattle.edi_lex.specs.Order.{is_orderly, size_of, extent}
use Rattle.edi_lex.specs.declared.symbol.Symbol.{Symbol}
use Rattle.edi_lex.specs.declared.symbol.Symbol.TheVariants as is
use Rattle.edi_lex.specs.declared.symbol.Mark.{Mark}
use Rattle.edi_lex.proofs.Runs.{both}

both_so : (a b : Bool) → a ≡ true → b ≡ true → (a && b) ≡ true
both_so a b p q = rw (p, q) refl

-- the last line may grow
pub is_orderly-grows : (line : ℕ) (marks : List Mark) (last next : ℕ) → is_orderly line marks last ≡ true → last ≤ next → is_orderly line marks next ≡ true
is_orderly-grows line [] last next h up = grind (arith, nat_tests)
is_orderly-grows line (m ∷ marks) last next h up =
    let parts = both (leb line m.line) (is_orderly m.line marks last) h in both_so _ _ parts.0 (is_orderly-grows m.line marks last next parts.1 up)

-- one mark more, on the last line
pub is_orderly-push : (line : ℕ) (marks : List Mark) (m : Mark) → is_orderly line marks m.line ≡ true → is_orderly line (marks ++ m ∷ []) m.line ≡ true
is_orderly-push line [] m h = both_so _ _ h (grind (arith, nat_tests))
is_orderly-push line (n ∷ marks) m h =
    let parts = both (leb line n.line) (is_orderly n.line marks m.line) h in both_so _ _ parts.0 (is_orderly-push n.line marks m parts.1)

pub are_spelled-push : (marks : List Mark) (m : Mark) → are_spelled marks ≡ true → is_spelled m.symbol ≡ true → are_spelled (marks ++ m ∷ []) ≡ true
are_spelled-push marks m h one = list_all-append (λ n. is_spelled n.symbol) marks (m ∷ []) ∙ both_so _ _ h (both_so _ _ one refl)

pub extent-push : (marks : List Mark) (m : Mark) → extent (marks ++ m ∷ []) ≡ extent marks + size_of m.symbol
extent-push marks m = omega (arith, sum_by-append (λ n. size_of n.symbol) marks (m ∷ []))

-- a symbol that is spelled in one way and counts one, if there is one
abbrev pub is_fixed : Option Symbol → Bool
is_fixed None = true
is_fixed (Some s) = is_spelled s && eqb (size_of s) 1

fixed_or : (t : Bool) (s : Symbol) (o : Option Symbol) → is_fixed (Some s) ≡ true → is_fixed o ≡ true → is_fixed (cond t (Some s) o) ≡ true
fixed_or true s o h k = h
fixed_or false s o h k = k

fixed_beside : (rows : List (List ℕ × Symbol)) (name : List ℕ) → list_all (λ row. is_fixed (Some row.1)) rows ≡ true → is_fixed (symbol_beside rows name) ≡ true
fixed_beside [] name h = refl
fixed_beside (row ∷ rows) name h =
    let parts = both (is_fixed (Some row.1)) (list_all (λ row. is_fixed (Some row.1)) rows) h in
    fixed_or (bytes_eq name row.0) row.1 (symbol_beside rows name) parts.0 (fixed_beside rows name parts.1)

word_fixed : (name : List ℕ) → is_fixed (word_of name) ≡ true
word_fixed name = fixed_beside word_symbols name refl

fixed_word : (name : List ℕ) (o : Option Symbol) → is_name name ≡ true → word_of name ≡ o → is_fixed o ≡ true → is_fixed (Some (unwrap_or o (is.Name name)))
    ≡ true
fixed_word name None h stated k = both_so _ _ (both_so _ _ h (rw stated refl)) refl
fixed_word name (Some s) h stated k = k

-- what a name or a word symbol is
pub word_or_name_fixed : (name : List ℕ) → is_name name ≡ true → is_fixed (Some (word_or_name name)) ≡ true
word_or_name_fixed name h = fixed_word name (word_of name) h refl (word_fixed name)

pub special_fixed : (b : ℕ) → is_fixed (special_of b) ≡ true
special_fixed b =
    fixed_or (eqb b 40) _ _ refl (fixed_or (eqb b 41) _ _ refl (fixed_or (eqb b 42) _ _ refl (fixed_or (eqb b 43) _ _ refl (
    fixed_or (eqb b 44) _ _ refl (fixed_or (eqb b 45) _ _ refl (fixed_or (eqb b 46) _ _ refl (
    fixed_or (eqb b 58) _ _ refl (fixed_or (eqb b 59) _ _ refl (fixed_or (eqb b 60) _ _ refl (fixed_or (eqb b 61) _ _ refl (
    fixed_or (eqb b 62) _ _ refl (fixed_or (eqb b 91) _ _ refl (fixed_or (eqb b 93) _ _ refl refl)))))))))))))

fixed_both : (t : Bool) (o p : Option Symbol) → is_fixed o ≡ true → is_fixed p ≡ true → is_fixed (cond t o p) ≡ true
fixed_both true o p h k = h
fixed_both false o p h k = k

pub pair_fixed : (b c : ℕ) → is_fixed (special_pair b c) ≡ true
pair_fixed b c =
    fixed_both (eqb c 61) _ _ (fixed_or (eqb b 60) _ _ refl (fixed_or (eqb b 62) _ _ refl (fixed_or (eqb b 58) _ _ refl refl)))
    (fixed_both (eqb c 62) _ _ (fixed_or (eqb b 60) _ _ refl refl) refl)
