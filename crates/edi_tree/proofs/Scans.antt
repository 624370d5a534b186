-- The printed text of a tree scans to marks that the tree spells.
use Rattle.std.proofs.Common.{◌≡◌, ℕ, zero, suc, ◌+◌, ◌-◌, ◌≤◌, ◌<◌, max, Bool, true, false, ◌||◌, ◌&&◌, cond, eqb, leb, ltb, List, [], ◌∷◌, ◌++◌, replicate}
use Rattle.std.proofs.Common.{Option, Some, None, Ok, Err, pos, negsuc, refl, sym, ap, ◌∙◌, subst, arith, append_assoc, decimal}
use Rattle.std.specs.Prelude.{codes, is_none, unwrap_or}
use Rattle.std.specs.List.{list_all}
use Rattle.std.proofs.Math.Bool.{Bool-set}
use Rattle.std.proofs.Math.Logic.{∥∥₁_elim}
use Rattle.std.proofs.lemmas.Bool.Decides.{nat_tests}
use Rattle.edi_lex.specs.Bytes.{is_digit, is_name_byte, is_string_byte}
use Rattle.edi_lex.specs.Specials.{special_with}
use Rattle.edi_lex.specs.Words.{word_of}
use Rattle.edi_lex.specs.Spelled.{is_name, is_string, is_spelled, are_spelled}
use Rattle.edi_lex.specs.Order.{is_orderly}
use Rattle.edi_lex.specs.Symbols.{piece_of, symbols_from, is_too_long, symbols_of}
use Rattle.edi_lex.specs.declared.symbol.Symbol.{Symbol}
use Rattle.edi_lex.specs.declared.symbol.Symbol.TheVariants as is
use Rattle.edi_lex.specs.declared.symbol.Mark.{Mark}
use Rattle.edi_lex.specs.declared.fault.LexFault.TheVariants.{TooLong}
use Rattle.edi_lex.proofs.Runs.{marked, both, same_byte, stops, name_first, numeral_first, string_first, apostrophe_first, special_first, pair_first}
use Rattle.edi_lex.proofs.Runs.{space_first}
use Rattle.edi_tree.specs.Tree.{Program}
use Rattle.edi_tree.specs.Stands.{Spelled, StandAsMarks, IsOn}
use Rattle.edi_tree.specs.Spelled.{spelled}
use Rattle.edi_tree.proofs.Marks.{parts_stand, parts_spell}
use Rattle.edi_tree.specs.Spells.{IsBounded}
use Rattle.edi_tree.specs.Printed.{text_of, separator, gap, line_at, printed_from, printed}
use Rattle.edi_tree.specs.Scanned.{ScansTo}
use Rattle.edi_tree.proofs.Decimals.{decimal_is_numeral, decimal_number}

-- ---- one symbol

-- what may stand behind a symbol: nothing, a blank or a line feed
data Behind : List ℕ → Type 0 where
  ends : Behind []
  blank : (rest : List ℕ) → Behind (32 ∷ rest)
  feed : (rest : List ℕ) → Behind (10 ∷ rest)

ends_name : (rest : List ℕ) → Behind rest → stops is_name_byte rest ≡ true
ends_name _ ends = refl
ends_name _ (blank rest) = refl
ends_name _ (feed rest) = refl

ends_numeral : (rest : List ℕ) → Behind rest → stops is_digit rest ≡ true
ends_numeral _ ends = refl
ends_numeral _ (blank rest) = refl
ends_numeral _ (feed rest) = refl

ends_special : (b : ℕ) (rest : List ℕ) → Behind rest → special_with b rest ≡ None
ends_special b _ ends = refl
ends_special b _ (blank rest) = refl
ends_special b _ (feed rest) = refl

no_word : (word : Option Symbol) (name : List ℕ) → is_none word ≡ true → unwrap_or word (is.Name name) ≡ is.Name name
no_word None name h = refl
no_word (Some word) name h = absurd (cc)

either_string : (b : ℕ) (rest : List ℕ) (line : ℕ) (t : Bool) → is_string_byte b ≡ t → (t || eqb b 39) ≡ true
    → symbols_from (39 ∷ b ∷ 39 ∷ rest) 0 line ≡ marked (is.Chars (b ∷ [])) line (symbols_from rest 0 line)
either_string b rest line true h e = string_first b [] rest line (rw h refl)
either_string b rest line false h e =
    subst (λ x. symbols_from (39 ∷ x ∷ 39 ∷ rest) 0 line ≡ marked (is.Chars (x ∷ [])) line (symbols_from rest 0 line)) (sym (same_byte b 39 e))
    (apostrophe_first rest line)

string_scans : (text rest : List ℕ) (line : ℕ) → is_string text ≡ true → symbols_from (39 ∷ (text ++ 39 ∷ rest)) 0 line ≡ marked (is.Chars text) line
    (symbols_from rest 0 line)
string_scans [] rest line h = absurd (cc)
string_scans (b ∷ []) rest line h = either_string b rest line (is_string_byte b) refl h
string_scans (b ∷ c ∷ more) rest line h = string_first b (c ∷ more) rest line h

-- a symbol that is written in front of such a rest is scanned, and the rest behind it
symbol_scans : (s : Symbol) (rest : List ℕ) (line : ℕ) → is_spelled s ≡ true → Behind rest → symbols_from (text_of s ++ rest) 0 line ≡ marked s line
    (symbols_from rest 0 line)
symbol_scans (is.Name text) rest line h e =
    let parts = both (is_name text) (is_none (word_of text)) h in
    name_first text rest line parts.0 (ends_name rest e) ∙ ap (λ s. marked s line (symbols_from rest 0 line)) (no_word (word_of text) text parts.1)
symbol_scans (is.Numeral (pos n)) rest line h e =
    let small : n ≤ 32767 = grind (arith, nat_tests, h) in
    numeral_first (decimal n) rest line (pos n) (decimal_is_numeral n small) (ends_numeral rest e) (decimal_number n small)
symbol_scans (is.Numeral (negsuc n)) rest line h e = absurd (cc)
symbol_scans (is.Chars text) rest line h e =
    ap (λ t. symbols_from (39 ∷ t) 0 line) (append_assoc text (39 ∷ []) rest) ∙ string_scans text rest line h
symbol_scans is.Also rest line h e = name_first (codes "also") rest line refl (ends_name rest e)
symbol_scans is.And rest line h e = name_first (codes "and") rest line refl (ends_name rest e)
symbol_scans is.Array rest line h e = name_first (codes "array") rest line refl (ends_name rest e)
symbol_scans is.Begin rest line h e = name_first (codes "begin") rest line refl (ends_name rest e)
symbol_scans is.Cobegin rest line h e = name_first (codes "cobegin") rest line refl (ends_name rest e)
symbol_scans is.Const rest line h e = name_first (codes "const") rest line refl (ends_name rest e)
symbol_scans is.Div rest line h e = name_first (codes "div") rest line refl (ends_name rest e)
symbol_scans is.Do rest line h e = name_first (codes "do") rest line refl (ends_name rest e)
symbol_scans is.Else rest line h e = name_first (codes "else") rest line refl (ends_name rest e)
symbol_scans is.End rest line h e = name_first (codes "end") rest line refl (ends_name rest e)
symbol_scans is.Enum rest line h e = name_first (codes "enum") rest line refl (ends_name rest e)
symbol_scans is.If rest line h e = name_first (codes "if") rest line refl (ends_name rest e)
symbol_scans is.In rest line h e = name_first (codes "in") rest line refl (ends_name rest e)
symbol_scans is.Lib rest line h e = name_first (codes "lib") rest line refl (ends_name rest e)
symbol_scans is.Mod rest line h e = name_first (codes "mod") rest line refl (ends_name rest e)
symbol_scans is.Module rest line h e = name_first (codes "module") rest line refl (ends_name rest e)
symbol_scans is.Not rest line h e = name_first (codes "not") rest line refl (ends_name rest e)
symbol_scans is.Or rest line h e = name_first (codes "or") rest line refl (ends_name rest e)
symbol_scans is.Post rest line h e = name_first (codes "post") rest line refl (ends_name rest e)
symbol_scans is.Pre rest line h e = name_first (codes "pre") rest line refl (ends_name rest e)
symbol_scans is.Proc rest line h e = name_first (codes "proc") rest line refl (ends_name rest e)
symbol_scans is.Record rest line h e = name_first (codes "record") rest line refl (ends_name rest e)
symbol_scans is.Set rest line h e = name_first (codes "set") rest line refl (ends_name rest e)
symbol_scans is.Skip rest line h e = name_first (codes "skip") rest line refl (ends_name rest e)
symbol_scans is.Val rest line h e = name_first (codes "val") rest line refl (ends_name rest e)
symbol_scans is.Var rest line h e = name_first (codes "var") rest line refl (ends_name rest e)
symbol_scans is.When rest line h e = name_first (codes "when") rest line refl (ends_name rest e)
symbol_scans is.While rest line h e = name_first (codes "while") rest line refl (ends_name rest e)
symbol_scans is.Equal rest line h e = special_first 61 rest line is.Equal refl refl (ends_special 61 rest e)
symbol_scans is.Less rest line h e = special_first 60 rest line is.Less refl refl (ends_special 60 rest e)
symbol_scans is.Greater rest line h e = special_first 62 rest line is.Greater refl refl (ends_special 62 rest e)
symbol_scans is.Plus rest line h e = special_first 43 rest line is.Plus refl refl (ends_special 43 rest e)
symbol_scans is.Minus rest line h e = special_first 45 rest line is.Minus refl refl (ends_special 45 rest e)
symbol_scans is.Star rest line h e = special_first 42 rest line is.Star refl refl (ends_special 42 rest e)
symbol_scans is.Colon rest line h e = special_first 58 rest line is.Colon refl refl (ends_special 58 rest e)
symbol_scans is.Comma rest line h e = special_first 44 rest line is.Comma refl refl (ends_special 44 rest e)
symbol_scans is.Semicolon rest line h e = special_first 59 rest line is.Semicolon refl refl (ends_special 59 rest e)
symbol_scans is.Period rest line h e = special_first 46 rest line is.Period refl refl (ends_special 46 rest e)
symbol_scans is.Open rest line h e = special_first 40 rest line is.Open refl refl (ends_special 40 rest e)
symbol_scans is.Close rest line h e = special_first 41 rest line is.Close refl refl (ends_special 41 rest e)
symbol_scans is.OpenBracket rest line h e = special_first 91 rest line is.OpenBracket refl refl (ends_special 91 rest e)
symbol_scans is.CloseBracket rest line h e = special_first 93 rest line is.CloseBracket refl refl (ends_special 93 rest e)
symbol_scans is.NotEqual rest line h e = pair_first 60 62 rest line is.NotEqual refl refl
symbol_scans is.AtMost rest line h e = pair_first 60 61 rest line is.AtMost refl refl
symbol_scans is.AtLeast rest line h e = pair_first 62 61 rest line is.AtLeast refl refl
symbol_scans is.Becomes rest line h e = pair_first 58 61 rest line is.Becomes refl refl

-- ---- what stands between symbols

feed_first : (rest : List ℕ) (line : ℕ) → symbols_from (10 ∷ rest) 0 line ≡ symbols_from rest 0 (line + 1)
unfolding piece_of
feed_first rest line = space_first 10 rest line refl

blank_first : (rest : List ℕ) (line : ℕ) → symbols_from (32 ∷ rest) 0 line ≡ symbols_from rest 0 line
unfolding piece_of
blank_first rest line = let same : line + 0 ≡ line = omega arith in space_first 32 rest line refl ∙ ap (symbols_from rest 0) same

feeds_first : (n : ℕ) (rest : List ℕ) (line : ℕ) → symbols_from (replicate n 10 ++ rest) 0 line ≡ symbols_from rest 0 (line + n)
feeds_first zero rest line = let same : line ≡ line + 0 = omega arith in ap (symbols_from rest 0) same
feeds_first (suc n) rest line =
    let same : line + 1 + n ≡ line + suc n = omega arith in
    feed_first (replicate n 10 ++ rest) line ∙ feeds_first n rest (line + 1) ∙ ap (symbols_from rest 0) same

separator_first : (begun : Bool) (rest : List ℕ) (line : ℕ) → symbols_from (separator begun ++ rest) 0 line ≡ symbols_from rest 0 line
separator_first true rest line = blank_first rest line
separator_first false rest line = refl

lines_first : (begun : Bool) (rest : List ℕ) (line kept : ℕ) (t : Bool) → ltb line kept ≡ t
    → symbols_from (cond t (replicate (kept - line) 10) (separator begun) ++ rest) 0 line ≡ symbols_from rest 0 (max line kept)
lines_first begun rest line kept true h =
    let same : line + (kept - line) ≡ max line kept = grind (arith, nat_tests) in
    feeds_first (kept - line) rest line ∙ ap (symbols_from rest 0) same
lines_first begun rest line kept false h =
    let same : line ≡ max line kept = grind (arith, nat_tests) in
    separator_first begun rest line ∙ ap (symbols_from rest 0) same

gap_first : (begun : Bool) (rest : List ℕ) (line : ℕ) (kept : Option ℕ) → symbols_from (gap begun line kept ++ rest) 0 line ≡ symbols_from rest 0
    (line_at line kept)
gap_first begun rest line None = separator_first begun rest line
gap_first begun rest line (Some kept) = lines_first begun rest line kept (ltb line kept) refl

-- behind a symbol stands nothing, a blank or a line feed
behind_lines : (n : ℕ) (rest : List ℕ) → 0 < n → Behind (replicate n 10 ++ rest)
behind_lines zero rest h = absurd (omega (arith, h))
behind_lines (suc n) rest h = feed (replicate n 10 ++ rest)

behind_gap : (rest : List ℕ) (line kept : ℕ) (t : Bool) → ltb line kept ≡ t → Behind (cond t (replicate (kept - line) 10) (32 ∷ []) ++ rest)
behind_gap rest line kept true h = behind_lines (kept - line) rest (grind (arith, nat_tests))
behind_gap rest line kept false h = blank rest

behind_here : (rest : List ℕ) (line : ℕ) (kept : Option ℕ) → Behind (gap true line kept ++ rest)
behind_here rest line None = blank rest
behind_here rest line (Some kept) = behind_gap rest line kept (ltb line kept) refl

behind : (ss : List Spelled) (line : ℕ) → Behind (printed_from true line ss)
behind [] line = ends
behind (s ∷ ss) line = behind_here (text_of s.symbol ++ printed_from true (line_at line s.line) ss) line s.line

-- ---- all symbols

-- the marks of the printed text, and the line of its end
placed : ℕ → List Spelled → List Mark
placed line [] = []
placed line (s ∷ ss) = record { symbol = s.symbol; line = line_at line s.line } ∷ placed (line_at line s.line) ss

last_line : ℕ → List Spelled → ℕ
last_line line [] = line
last_line line (s ∷ ss) = last_line (line_at line s.line) ss

abbrev all_spelled : List Spelled → Bool
all_spelled ss = list_all (λ s. is_spelled s.symbol) ss

printed_scans : (ss : List Spelled) (begun : Bool) (line : ℕ) → all_spelled ss ≡ true → symbols_from (printed_from begun line ss) 0 line ≡ Ok
    (placed line ss, last_line line ss)
unfolding symbols_from placed last_line
printed_scans [] begun line h = refl
printed_scans (s ∷ ss) begun line h =
    let parts = both (is_spelled s.symbol) (all_spelled ss) h in
    let here = line_at line s.line in
    let rest = printed_from true here ss in
    gap_first begun (text_of s.symbol ++ rest) line s.line
    ∙ symbol_scans s.symbol rest here parts.0 (behind ss here)
    ∙ ap (marked s.symbol here) (printed_scans ss true here parts.1)

-- lines that are kept never fall below this one, nor below one another
abbrev is_rising : ℕ → Option ℕ → Bool
is_rising line None = true
is_rising line (Some kept) = leb line kept

abbrev are_rising : ℕ → List Spelled → Bool
are_rising line [] = true
are_rising line (s ∷ ss) = is_rising line s.line && are_rising (line_at line s.line) ss

on_line : (line : ℕ) (kept : Option ℕ) → is_rising line kept ≡ true → IsOn kept (line_at line kept)
on_line line None h = tt {0}
on_line line (Some kept) h = grind (arith, nat_tests)

placed_stand : (ss : List Spelled) (line : ℕ) → are_rising line ss ≡ true → StandAsMarks ss (placed line ss)
unfolding placed
placed_stand [] line h = tt {0}
placed_stand (s ∷ ss) line h =
    let parts = both (is_rising line s.line) (are_rising (line_at line s.line) ss) h in
    ((refl, on_line line s.line parts.0), placed_stand ss (line_at line s.line) parts.1)

-- ---- what a program keeps

pub all_are_spelled : (ss : List Spelled) (marks : List Mark) → StandAsMarks ss marks → are_spelled marks ≡ true → all_spelled ss ≡ true
all_are_spelled [] marks h e = refl
all_are_spelled (s ∷ ss) [] h e = absurd h
all_are_spelled (s ∷ ss) (m ∷ marks) h e =
    let parts = both (is_spelled m.symbol) (are_spelled marks) e in
    let here : is_spelled s.symbol ≡ true = subst (λ x. is_spelled x ≡ true) h.0.0 parts.0 in
    rw (here, all_are_spelled ss marks h.1 parts.1) refl

rises : (line at : ℕ) (kept : Option ℕ) → IsOn kept at → line ≤ at → is_rising line kept ≡ true
rises line at None h e = refl
rises line at (Some kept) h e = grind (arith, nat_tests)

below : (line at : ℕ) (kept : Option ℕ) → IsOn kept at → line ≤ at → line_at line kept ≤ at
below line at None h e = e
below line at (Some kept) h e = omega (arith, h, e)

all_are_rising : (ss : List Spelled) (marks : List Mark) (line from last : ℕ) → StandAsMarks ss marks → is_orderly from marks last ≡ true → line ≤ from
    → are_rising line ss ≡ true
all_are_rising [] marks line from last h e low = refl
all_are_rising (s ∷ ss) [] line from last h e low = absurd h
all_are_rising (s ∷ ss) (m ∷ marks) line from last h e low =
    let parts = both (leb from m.line) (is_orderly m.line marks last) e in
    let up : line ≤ m.line = grind (arith, nat_tests) in
    rw (rises line m.line s.line h.0.1 up, all_are_rising ss marks (line_at line s.line) m.line last h.1 parts.1 (below line m.line s.line h.0.1 up)) refl

program_spelled : (tree : Program) → IsBounded tree → all_spelled (spelled tree) ≡ true
program_spelled tree h = all_are_spelled (spelled tree) h.marks (parts_stand tree h.marks h.spells) h.is_bounded.spelled

program_rising : (tree : Program) → IsBounded tree → are_rising 1 (spelled tree) ≡ true
program_rising tree h = all_are_rising (spelled tree) h.marks 1 1 h.last (parts_stand tree h.marks h.spells) h.is_bounded.orderly (omega arith)

-- the symbols of the printed text are marks that the tree spells
pub program_scans : (tree : Program) → ∥ IsBounded tree ∥₁ → is_too_long (printed tree) ≡ false → ScansTo tree (symbols_of (printed tree))
program_scans tree is_bounded short =
    let letters : all_spelled (spelled tree) ≡ true = ∥∥₁_elim is_bounded (Bool-set _ _) (program_spelled tree) in
    let lines : are_rising 1 (spelled tree) ≡ true = ∥∥₁_elim is_bounded (Bool-set _ _) (program_rising tree) in
    let found = ap (λ t. cond t (Err TooLong) (symbols_from (printed tree) 0 1)) short ∙ printed_scans (spelled tree) false 1 letters in
    subst (ScansTo tree) (sym found) (parts_spell tree _ (placed_stand (spelled tree) 1 lines))
