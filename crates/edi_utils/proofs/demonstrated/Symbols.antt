-- The text of the demonstration is cut into these symbols.
use Rattle.std.proofs.Common.{◌≡◌, ℕ, zero, suc, ◌+◌, ◌-◌, ◌*◌, ◌≤◌, true, false, List, [], ◌∷◌, ◌++◌, length, Ok, None, refl, sym, ap}
use Rattle.std.proofs.Common.{◌∙◌, arith, append_assoc, decimal, length-append, eqb, ltb, pos, ◌||◌}
use Rattle.std.specs.Prelude.{codes, unwrap_or}
use Rattle.std.specs.List.{list_all}
use Rattle.std.proofs.lemmas.Bool.Decides.{nat_tests}
use Rattle.std.proofs.lemmas.Fmt.{decimal_digit, length-decimal-le}
use Rattle.std.proofs.Math.Nat.{mul-suc}
use native.Mathlib.Numerals.{unary_clauses}
use Rattle.edi_lex.specs.Bytes.{is_digit, is_name_byte, line_feeds}
use Rattle.edi_lex.specs.Words.{word_of}
use Rattle.edi_lex.specs.Spelled.{is_name, is_numeral}
use Rattle.edi_lex.specs.Symbols.{piece_of, symbols_from, symbols_of, is_too_long, with_front}
use Rattle.edi_lex.specs.declared.symbol.Symbol.TheVariants as is
use Rattle.edi_lex.specs.declared.symbol.Mark.{Mark}
use Rattle.edi_lex.proofs.Runs.{Answer, name_first, both, stops, no_feeds, line_feeds-append}
use Rattle.edi_tree.proofs.Decimals.{decimal_is_numeral}
use Rattle.edi_utils.specs.Demo.{numbered, demo_procedure, next_call, demo_calls, demo_text}
use Rattle.edi_utils.specs.demonstrated.Symbols.{at, procedure_name, front_marks, body_marks, procedure_marks, procedures_marks, next_calls_marks, calls_marks}
use Rattle.edi_utils.specs.demonstrated.Symbols.{branches_marks, demo_marks}

-- marks in front of an answer, one by one
abbrev pub front : List Mark → Answer → Answer
front [] answer = answer
front (m ∷ marks) answer = with_front (m ∷ []) (front marks answer)

front-append : (marks more : List Mark) (answer : Answer) → front (marks ++ more) answer ≡ front marks (front more answer)
front-append [] more answer = refl
front-append (m ∷ marks) more answer = ap (with_front (m ∷ [])) (front-append marks more answer)

front_all : (marks rest : List Mark) (line : ℕ) → front marks (Ok (rest, line)) ≡ Ok (marks ++ rest, line)
front_all [] rest line = refl
front_all (m ∷ marks) rest line = ap (with_front (m ∷ [])) (front_all marks rest line)

-- ---- names

digit_is_name_byte : (d : ℕ) → is_digit d ≡ true → is_name_byte d ≡ true
digit_is_name_byte d h = grind (arith, nat_tests)

digits_are_name_bytes : (ds : List ℕ) → list_all is_digit ds ≡ true → list_all is_name_byte ds ≡ true
digits_are_name_bytes [] h = refl
digits_are_name_bytes (d ∷ ds) h =
    let parts = both (is_digit d) (list_all is_digit ds) h in rw (digit_is_name_byte d parts.0) (digits_are_name_bytes ds parts.1)

numeral_is_digits : (ds : List ℕ) → is_numeral ds ≡ true → list_all is_digit ds ≡ true
numeral_is_digits [] h = absurd (cc)
numeral_is_digits (d ∷ ds) h = h

pub decimal_digits : (i : ℕ) → i ≤ 1000 → list_all is_digit (decimal i) ≡ true
decimal_digits i few = numeral_is_digits (decimal i) (decimal_is_numeral i (omega (arith, few)))

no_digit : (d : ℕ) → is_digit d ≡ true → (eqb d 111 ≡ false) × (eqb d 114 ≡ false)
no_digit d h = (grind (arith, nat_tests), grind (arith, nat_tests))

-- `p` and digits are no word symbol
no_word : (ds : List ℕ) → is_numeral ds ≡ true → word_of (112 ∷ ds) ≡ None
no_word [] h = absurd (cc)
no_word (d ∷ ds) h = let other = no_digit d (both (is_digit d) (list_all is_digit ds) h).0 in rw (other.0, other.1) refl

pub is_a_name : (i : ℕ) → i ≤ 1000 → is_name (procedure_name i) ≡ true
is_a_name i few = digits_are_name_bytes (decimal i) (decimal_digits i few)

name_scans : (i : ℕ) (rest : List ℕ) (line : ℕ) → i ≤ 1000 → stops is_name_byte rest ≡ true
    → symbols_from (procedure_name i ++ rest) 0 line ≡ front (at (is.Name (procedure_name i)) line ∷ []) (symbols_from rest 0 line)
name_scans i rest line few e =
    name_first (procedure_name i) rest line (is_a_name i few) e
    ∙ ap (λ word. front (at (unwrap_or word (is.Name (procedure_name i))) line ∷ []) (symbols_from rest 0 line))
    (no_word (decimal i) (decimal_is_numeral i (omega (arith, few))))

-- ---- the fixed parts

front_scans : (rest : List ℕ) → symbols_from (codes "proc main\nvar x: int\n" ++ rest) 0 1 ≡ front front_marks (symbols_from rest 0 3)
unfolding symbols_from piece_of
front_scans rest = refl

proc_scans : (rest : List ℕ) (line : ℕ) → symbols_from (codes "proc " ++ rest) 0 line ≡ front (at is.Proc line ∷ []) (symbols_from rest 0 line)
unfolding symbols_from piece_of
proc_scans rest line = simp unary_clauses refl

body_scans : (rest : List ℕ) (line : ℕ) → symbols_from (codes "\nbegin when x < 32767 do x := x + 1 end end\n" ++ rest) 0 line
    ≡ front (body_marks (line + 1)) (symbols_from rest 0 (line + 2))
unfolding symbols_from piece_of
body_scans rest line = simp unary_clauses refl

next_scans : (rest : List ℕ) (line : ℕ) → symbols_from (codes "; " ++ rest) 0 line ≡ front (at is.Semicolon line ∷ []) (symbols_from rest 0 line)
unfolding symbols_from piece_of
next_scans rest line = simp unary_clauses refl

begin_scans : (rest : List ℕ) (line : ℕ) → symbols_from (codes "begin cobegin\n1 do " ++ rest) 0 line
    ≡ front (at is.Begin line ∷ at is.Cobegin line ∷ at (is.Numeral (pos 1)) (line + 1) ∷ at is.Do (line + 1) ∷ []) (symbols_from rest 0 (line + 1))
unfolding symbols_from piece_of
begin_scans rest line = simp unary_clauses refl

also_scans : (rest : List ℕ) (line : ℕ) → symbols_from (codes "\nalso 2 do " ++ rest) 0 line
    ≡ front (at is.Also (line + 1) ∷ at (is.Numeral (pos 2)) (line + 1) ∷ at is.Do (line + 1) ∷ []) (symbols_from rest 0 (line + 1))
unfolding symbols_from piece_of
also_scans rest line = simp unary_clauses refl

end_scans : (line : ℕ) → symbols_from (codes "\nend end\n") 0 line ≡ front (at is.End (line + 1) ∷ at is.End (line + 1) ∷ []) (Ok ([], line + 2))
unfolding symbols_from piece_of
end_scans line = simp unary_clauses refl

-- ---- procedures

procedure_scans : (i : ℕ) (rest : List ℕ) (line : ℕ) → i ≤ 1000
    → symbols_from (demo_procedure i ++ rest) 0 line ≡ front (procedure_marks i line) (symbols_from rest 0 (line + 2))
procedure_scans i rest line few =
    let body : List ℕ = codes "\nbegin when x < 32767 do x := x + 1 end end\n" in
    ap (λ t. symbols_from (codes "proc p" ++ t) 0 line) (append_assoc (decimal i) body rest)
    ∙ proc_scans (procedure_name i ++ (body ++ rest)) line
    ∙ ap (front (at is.Proc line ∷ [])) (name_scans i (body ++ rest) line few refl
    ∙ ap (front (at (is.Name (procedure_name i)) line ∷ [])) (body_scans rest line))

procedures_scan : (i n : ℕ) (rest : List ℕ) (line : ℕ) → i + n ≤ 1001
    → symbols_from (numbered demo_procedure i n ++ rest) 0 line ≡ front (procedures_marks i n line) (symbols_from rest 0 (line + 2 * n))
procedures_scan i zero rest line few = ap (symbols_from rest 0) (omega arith)
procedures_scan i (suc n) rest line few =
    let more : List ℕ = numbered demo_procedure (suc i) n in
    let behind : line + 2 + 2 * n ≡ line + 2 * suc n = omega arith in
    ap (λ t. symbols_from t 0 line) (append_assoc (demo_procedure i) more rest)
    ∙ procedure_scans i (more ++ rest) line (omega (arith, few))
    ∙ ap (front (procedure_marks i line)) (procedures_scan (suc i) n rest (line + 2) (omega (arith, few)) ∙ ap (λ l. front (procedures_marks (suc i) n
    (line + 2)) (symbols_from rest 0 l)) behind)
    ∙ sym (front-append (procedure_marks i line) (procedures_marks (suc i) n (line + 2)) (symbols_from rest 0 (line + 2 * suc n)))

-- ---- calls

calls_stop : (i n : ℕ) (rest : List ℕ) → stops is_name_byte rest ≡ true → stops is_name_byte (numbered next_call i n ++ rest) ≡ true
calls_stop i zero rest e = e
calls_stop i (suc n) rest e = refl

next_calls_scan : (i n : ℕ) (rest : List ℕ) (line : ℕ) → i + n ≤ 1001 → stops is_name_byte rest ≡ true
    → symbols_from (numbered next_call i n ++ rest) 0 line ≡ front (next_calls_marks i n line) (symbols_from rest 0 line)
next_calls_scan i zero rest line few e = refl
next_calls_scan i (suc n) rest line few e =
    let more : List ℕ = numbered next_call (suc i) n in
    ap (λ t. symbols_from t 0 line) (append_assoc (next_call i) more rest)
    ∙ next_scans (procedure_name i ++ (more ++ rest)) line
    ∙ ap (front (at is.Semicolon line ∷ [])) (name_scans i (more ++ rest) line (omega (arith, few)) (calls_stop (suc i) n rest e)
    ∙ ap (front (at (is.Name (procedure_name i)) line ∷ [])) (next_calls_scan (suc i) n rest line (omega (arith, few)) e))

first_name : codes "p1" ≡ procedure_name 1
first_name = ap (λ ds. 112 ∷ ds) (sym (decimal_digit 1 (omega arith)))

calls_scan : (n : ℕ) (rest : List ℕ) (line : ℕ) → 1 ≤ n → n ≤ 1000 → stops is_name_byte rest ≡ true
    → symbols_from (demo_calls n ++ rest) 0 line ≡ front (calls_marks n line) (symbols_from rest 0 line)
calls_scan n rest line some few e =
    let more : List ℕ = numbered next_call 2 (n - 1) in
    ap (λ name. symbols_from (name ++ (more ++ rest)) 0 line) first_name
    ∙ name_scans 1 (more ++ rest) line (omega arith) (calls_stop 2 (n - 1) rest e)
    ∙ ap (front (at (is.Name (procedure_name 1)) line ∷ [])) (next_calls_scan 2 (n - 1) rest line (omega (arith, some, few)) e)

-- ---- the whole text

put : (marks rest : List Mark) (line : ℕ) (answer : Answer) → answer ≡ Ok (rest, line) → front marks answer ≡ Ok (marks ++ rest, line)
put marks rest line answer is = ap (front marks) is ∙ front_all marks rest line

branches_scan : (n line : ℕ) → 1 ≤ n → n ≤ 1000
    → symbols_from (codes "begin cobegin\n1 do " ++ (demo_calls n ++ (codes "\nalso 2 do " ++ (demo_calls n ++ codes "\nend end\n")))) 0 line
    ≡ Ok (branches_marks n line, line + 4)
branches_scan n line some few =
    let end : List ℕ = codes "\nend end\n" in
    let second : List ℕ = demo_calls n ++ end in
    let two : line + 1 + 1 ≡ line + 2 = omega arith in
    let three : line + 2 + 1 ≡ line + 3 = omega arith in
    let four : line + 2 + 2 ≡ line + 4 = omega arith in
    let ended = end_scans (line + 2) ∙ ap (λ l. front (at is.End l ∷ at is.End l ∷ []) (Ok ([], line + 2 + 2))) three
    ∙ ap (λ l. Ok (at is.End (line + 3) ∷ at is.End (line + 3) ∷ [], l)) four in
    let called = calls_scan n end (line + 2) some few refl ∙ put (calls_marks n (line + 2)) _ _ _ ended in
    let also = also_scans second (line + 1) ∙ ap (λ l. front (at is.Also l ∷ at (is.Numeral (pos 2)) l ∷ at is.Do l ∷ []) (symbols_from second 0 l)) two
    ∙ put (at is.Also (line + 2) ∷ at (is.Numeral (pos 2)) (line + 2) ∷ at is.Do (line + 2) ∷ []) _ _ _ called in
    let first = calls_scan n (codes "\nalso 2 do " ++ second) (line + 1) some few refl ∙ put (calls_marks n (line + 1)) _ _ _ also in
    begin_scans (demo_calls n ++ (codes "\nalso 2 do " ++ second)) line
    ∙ put (at is.Begin line ∷ at is.Cobegin line ∷ at (is.Numeral (pos 1)) (line + 1) ∷ at is.Do (line + 1) ∷ []) _ _ _ first

text_scans : (n : ℕ) → 1 ≤ n → n ≤ 1000 → symbols_from (demo_text n) 0 1 ≡ Ok (demo_marks n, 3 + 2 * n + 4)
text_scans n some few =
    front_scans _ ∙ put front_marks _ _ _ (procedures_scan 1 n _ 3 (omega (arith, few))
    ∙ put (procedures_marks 1 n 3) _ _ _ (branches_scan n (3 + 2 * n) some few))

-- ---- its length and its lines

-- a sum over the bytes of a text: its parts add up
module _ (f : List ℕ → ℕ) (append : (xs ys : List ℕ) → f (xs ++ ys) ≡ f xs + f ys) (empty : f [] ≡ 0) where
  procedure_sum : (i : ℕ)
      → f (demo_procedure i) ≡ f (codes "proc p") + (f (decimal i) + f (codes "\nbegin when x < 32767 do x := x + 1 end end\n"))
  procedure_sum i =
      let body : List ℕ = codes "\nbegin when x < 32767 do x := x + 1 end end\n" in
      append (codes "proc p") (decimal i ++ body) ∙ ap (λ k. f (codes "proc p") + k) (append (decimal i) body)

  -- of n numbered parts, each of which comes to so much at the most
  numbered_most : (text : ℕ → List ℕ) (each : ℕ) → ((i : ℕ) → i ≤ 1000 → f (text i) ≤ each) → (i n : ℕ) → i + n ≤ 1001 → f (numbered text i n) ≤ each * n
  numbered_most text each most i zero few = omega (arith, empty)
  numbered_most text each most i (suc n) few =
      let more = mul-suc each n in
      omega (
        arith,
        append (text i) (numbered text (suc i) n),
        most i (omega (arith, few)),
        numbered_most text each most (suc i) n (omega (arith, few)),
        more,
      )

  calls_sum : (n : ℕ) → f (demo_calls n) ≡ f (codes "p1") + f (numbered next_call 2 (n - 1))
  calls_sum n = append (codes "p1") (numbered next_call 2 (n - 1))

  text_sum : (n : ℕ) → f (demo_text n) ≡ f (codes "proc main\nvar x: int\n") + f (numbered demo_procedure 1 n) + f (codes "begin cobegin\n1 do ")
      + f (demo_calls n) + f (codes "\nalso 2 do ") + f (demo_calls n) + f (codes "\nend end\n")
  text_sum n =
      let end : List ℕ = codes "\nend end\n" in
      let second : List ℕ = demo_calls n ++ end in
      let first : List ℕ = demo_calls n ++ (codes "\nalso 2 do " ++ second) in
      let statement : List ℕ = codes "begin cobegin\n1 do " ++ first in
      omega (
        arith,
        append (codes "proc main\nvar x: int\n") (numbered demo_procedure 1 n ++ statement),
        append (numbered demo_procedure 1 n) statement,
        append (codes "begin cobegin\n1 do ") first,
        append (demo_calls n) (codes "\nalso 2 do " ++ second),
        append (codes "\nalso 2 do ") second,
        append (demo_calls n) end,
      )

decimal_short : (i : ℕ) → i ≤ 1000 → length (decimal i) ≤ 4
decimal_short i few = length-decimal-le 4 i (omega arith) (omega (arith, few)) (omega (arith, few))

decimal_feeds : (i : ℕ) → i ≤ 1000 → line_feeds (decimal i) ≡ 0
decimal_feeds i few = no_feeds is_digit refl (decimal i) (decimal_digits i few)

lengths_add : (xs ys : List ℕ) → length (xs ++ ys) ≡ length xs + length ys
lengths_add xs ys = length-append xs ys

text_short : (n : ℕ) → 1 ≤ n → n ≤ 1000 → length (demo_text n) ≤ 100 * n + 100
text_short n some few =
    omega (
      arith,
      text_sum length lengths_add refl n,
      numbered_most length lengths_add refl demo_procedure 60 (λ i l. omega (arith, procedure_sum length lengths_add refl i, decimal_short i l)) 1 n
          (omega (arith, few)),
      calls_sum length lengths_add refl n,
      numbered_most length lengths_add refl next_call 7 (λ i l. omega (arith, lengths_add (codes "; p") (decimal i), decimal_short i l)) 2 (n - 1)
          (omega (arith, some, few)),
    )

text_feeds : (n : ℕ) → 1 ≤ n → n ≤ 1000 → line_feeds (demo_text n) ≤ 2 * n + 6
text_feeds n some few =
    omega (
      arith,
      text_sum line_feeds line_feeds-append refl n,
      numbered_most line_feeds line_feeds-append refl demo_procedure 2
          (λ i l. omega (arith, procedure_sum line_feeds line_feeds-append refl i, decimal_feeds i l)) 1 n (omega (arith, few)),
      calls_sum line_feeds line_feeds-append refl n,
      numbered_most line_feeds line_feeds-append refl next_call 0 (λ i l. omega (arith, line_feeds-append (codes "; p") (decimal i), decimal_feeds i l)) 2
          (n - 1) (omega (arith, some, few)),
    )

pub text_symbols : (n : ℕ) → 1 ≤ n → n ≤ 1000 → symbols_of (demo_text n) ≡ Ok (demo_marks n, 3 + 2 * n + 4)
text_symbols n some few =
    let short : is_too_long (demo_text n) ≡ false = fits (length (demo_text n)) (line_feeds (demo_text n)) (omega (arith, text_short n some few, few))
    (omega (arith, text_feeds n some few, few)) in
    rw short (text_scans n some few) where
      fits : (bytes feeds : ℕ) → bytes ≤ 262144 → feeds ≤ 65534 → (ltb 262144 bytes || ltb 65534 feeds) ≡ false
      fits bytes feeds b f = grind (arith, nat_tests)

-- ---- how many symbols it has

procedures_count : (i n line : ℕ) → length (procedures_marks i n line) ≡ 15 * n
procedures_count i zero line = omega arith
procedures_count i (suc n) line = omega (
  arith,
  length-append (procedure_marks i line) (procedures_marks (suc i) n (line + 2)),
  procedures_count (suc i) n (line + 2),
)

next_calls_count : (i n line : ℕ) → length (next_calls_marks i n line) ≡ 2 * n
next_calls_count i zero line = omega arith
next_calls_count i (suc n) line = omega (arith, next_calls_count (suc i) n line)

pub marks_count : (n : ℕ) → 1 ≤ n → length (demo_marks n) ≡ 19 * n + 13
marks_count n some =
    let line : ℕ = 3 + 2 * n in
    let end : List Mark = at is.End (line + 3) ∷ at is.End (line + 3) ∷ [] in
    let also : List Mark = at is.Also (line + 2) ∷ at (is.Numeral (pos 2)) (line + 2) ∷ at is.Do (line + 2) ∷ (calls_marks n (line + 2) ++ end) in
    omega (
      arith,
      some,
      length-append (procedures_marks 1 n 3) (branches_marks n line),
      procedures_count 1 n 3,
      length-append (calls_marks n (line + 1)) also,
      length-append (calls_marks n (line + 2)) end,
      next_calls_count 2 (n - 1) (line + 1),
      next_calls_count 2 (n - 1) (line + 2),
    )
