-- Computed rows. What is shown at places of small texts.
use Rattle.std.specs.Prelude.{◌≡◌, ℕ, ◌==◌, Bool, false, List, [], ◌∷◌, ◌++◌, codes, map, refl, replicate, pos, Some, None}
use Rattle.std.specs.Fmt.{decimal}
use Rattle.std.specs.List.{list_any}
use Rattle.edi_grammar.specs.Kinds as kind
use Rattle.edi_lex.specs.Symbols.{piece_of}
use Rattle.edi_lex.specs.declared.symbol.Mark.{Mark}
use Rattle.edi_lex.specs.declared.symbol.Symbol.{Symbol}
use Rattle.edi_lex.specs.declared.symbol.Symbol.TheVariants as is
use Rattle.edi_explain.specs.told.Groups.{group_line, may_lines}
use Rattle.edi_explain.specs.told.Words.{here_text, name_text}
use Rattle.edi_explain.specs.told.Source.{pointed_line, under_byte, whole_line}
use Rattle.edi_explain.specs.told.Stray.{stray_from, stray_of}
use Rattle.edi_explain.specs.told.Names.{declared_after, declared_from, marked_name}
use Rattle.edi_explain.specs.told.Notes.{Seen, lost_note, note_of, word_note}

abbrev on : (line : ℕ) → Symbol → Mark
on line symbol = record { symbol = symbol; line = line }

abbrev mark : Symbol → Mark
mark symbol = on 1 symbol

-- just these kinds may stand
abbrev just : List ℕ → ℕ → Bool
just kinds k = list_any (λ other. other == k) kinds

-- ---- lines and carets

-- the number of a line does not compute, and what stands below it is as long
abbrev pointed : ℕ → (shown under : List ℕ) → List ℕ
pointed line shown under = (decimal line ++ shown) ++ (map under_byte (decimal line) ++ under)

pub row_caret : pointed_line (codes "proc main\n  x = 5;\nend") 2 14 ≡ pointed 2 (codes ":   x = 5;\n") (codes "      ^\n")
row_caret = refl

-- a tab stays a tab, below it too; a carriage return is a blank, and a byte of no character a period
pub row_tab : pointed_line (9 ∷ 200 ∷ 98 ∷ 13 ∷ []) 1 2 ≡ pointed 1 (58 ∷ 32 ∷ 9 ∷ 46 ∷ 98 ∷ 32 ∷ 10 ∷ []) (32 ∷ 32 ∷ 9 ∷ 32 ∷ 94 ∷ 10 ∷ [])
row_tab = refl

-- at the end of a line, and on an empty one
pub row_line_end : pointed_line (codes "ab\n\nc") 1 2 ≡ pointed 1 (codes ": ab\n") (codes "    ^\n")
row_line_end = refl

pub row_empty_line : whole_line (codes "ab\n\nc") 2 ≡ decimal 2 ++ codes ": \n"
row_empty_line = refl

pub row_past_the_end : whole_line (codes "ab") 9 ≡ decimal 9 ++ codes ": \n"
row_past_the_end = refl

-- 200 columns of a line that is longer, from 100 before the caret on, with the sign of what is not shown before them and after them
pub row_long_end : pointed_line (replicate 300 97) 1 250
    ≡ pointed 1 (codes ": .. " ++ (replicate 150 97 ++ codes "\n")) (codes "     " ++ (replicate 100 32 ++ codes "^\n"))
row_long_end = refl

pub row_long : pointed_line (replicate 400 97) 1 110
    ≡ pointed 1 (codes ": .. " ++ (replicate 200 97 ++ codes " ..\n")) (codes "     " ++ (replicate 100 32 ++ codes "^\n"))
row_long = refl

pub row_long_front : whole_line (replicate 201 97) 1 ≡ decimal 1 ++ (codes ": " ++ (replicate 200 97 ++ codes " ..\n"))
row_long_front = refl

pub row_just_all : whole_line (replicate 200 97) 1 ≡ decimal 1 ++ (codes ": " ++ (replicate 200 97 ++ codes "\n"))
row_just_all = refl

-- ---- what stands there, and what may

pub row_name : here_text (Some (mark (is.Name (codes "then")))) ≡ codes "the name 'then'"
unfolding name_text
row_name = refl

pub row_character : here_text (Some (mark (is.Chars (codes "a")))) ≡ codes "a character"
row_character = refl

pub row_string : here_text (Some (mark (is.Chars (codes "ab")))) ≡ codes "a string"
row_string = refl

pub row_end_of_text : here_text None ≡ codes "the end of the text"
row_end_of_text = refl

-- proc main(proc display(value: char)) var x: int begin x
pub row_after_a_name : may_lines (just (14 ∷ 43 ∷ 45 ∷ 46 ∷ 47 ∷ 49 ∷ [])) ≡ codes "  'end', ':=', ';', '.', '(', '['\n"
unfolding group_line may_lines
row_after_a_name = refl

-- proc main begin display('a'); display('b');
pub row_after_a_semicolon : may_lines (just (1 ∷ 9 ∷ 16 ∷ 28 ∷ 29 ∷ 31 ∷ 32 ∷ []))
    ≡ codes "  a statement: a name, 'cobegin', 'if', 'skip', 'val', 'when', 'while'\n"
unfolding group_line may_lines
row_after_a_semicolon = refl

-- proc main begin if x > 0 and x
pub row_after_an_operand : may_lines (just (6 ∷ 11 ∷ 12 ∷ 19 ∷ 22 ∷ 39 ∷ 40 ∷ 41 ∷ 46 ∷ 47 ∷ 49 ∷ []))
    ≡ codes "  an operator: '*', 'div', 'mod', 'and', '+', '-', 'or'\n  'do', '.', '(', '['\n"
unfolding group_line may_lines
row_after_an_operand = refl

-- one of a group is missing, so its kinds are named alone
pub row_part_of_a_group : may_lines (just (1 ∷ 25 ∷ 30 ∷ [])) ≡ codes "  a name, 'proc', 'var'\n"
unfolding group_line may_lines
row_part_of_a_group = refl

pub row_nothing : may_lines (just []) ≡ []
unfolding group_line may_lines
row_nothing = refl

-- ---- places at which no piece stands

pub row_stray : stray_of (codes "x := 1 # 2") ≡ 7
unfolding stray_from piece_of
row_stray = refl

pub row_open_string : stray_of (codes "x 'ab") ≡ 2
unfolding stray_from piece_of
row_open_string = refl

pub row_open_comment : stray_of (97 ∷ 34 ∷ 98 ∷ []) ≡ 1
unfolding stray_from piece_of
row_open_comment = refl

-- a number above 32767 is no piece
pub row_great_numeral : stray_of (codes "a 32767 32768") ≡ 8
unfolding stray_from piece_of
row_great_numeral = refl

pub row_no_stray : stray_of (codes "x := 1") ≡ 6
unfolding stray_from piece_of
row_no_stray = refl

-- ---- notes, by what stands there, what stands before it, what is open and what may stand there

abbrev seen : (found last inside : ℕ) → (may : List ℕ) → Seen
seen found last inside may = record { found = found; last = last; inside = inside; may = just may; quoted = false }

-- x = 5
pub row_assigned : note_of [] (Some (mark is.Equal)) None (seen kind.Equal kind.Name kind.Begin (14 ∷ 43 ∷ 45 ∷ 46 ∷ 47 ∷ 49 ∷ []))
    ≡ codes "'=' compares two values; ':=' assigns one."
row_assigned = refl

-- if x = 0 then
pub row_then : note_of [] (Some (mark (is.Name (codes "then")))) None (seen kind.Name kind.Numeral kind.If (6 ∷ 11 ∷ 12 ∷ 19 ∷ 22 ∷ 39 ∷ 40 ∷ 41 ∷ []))
    ≡ codes "'then' is no word of the language: after a condition comes 'do'."
row_then = refl

-- a; end
pub row_semicolon : note_of [] (Some (mark is.End)) (Some (mark is.Semicolon)) (seen kind.End kind.Semicolon kind.Begin (1 ∷ 9 ∷ 16 ∷ 28 ∷ 29 ∷ 31 ∷ 32 ∷ []))
    ≡ codes "one semicolon stands between two statements; none stands before 'end', 'else' or 'also'."
row_semicolon = refl

-- int i; among statements: after any other name a semicolon is missing, or a parenthesis
pub row_type_before : note_of [] (Some (mark (is.Name (codes "i")))) (Some (mark (is.Name (codes "int")))) (seen kind.Name kind.Name kind.Begin (14 ∷ 43 ∷ 45 ∷ 46 ∷ 47 ∷ 49 ∷ []))
    ≡ codes "variables are declared as var x: int, before 'begin', without a semicolon after the last."
row_type_before = refl

pub row_name_before : note_of [] (Some (mark (is.Name (codes "i")))) (Some (mark (is.Name (codes "p")))) (seen kind.Name kind.Name kind.Begin (14 ∷ 43 ∷ 45 ∷ 46 ∷ 47 ∷ 49 ∷ []))
    ≡ codes "a semicolon stands between two statements, and the arguments of a call stand in parentheses."
row_name_before = refl

-- cobegin p also
pub row_branch : note_of [] (Some (mark is.Also)) (Some (mark (is.Name (codes "p")))) (seen kind.Also kind.Name kind.Cobegin (12 ∷ 47 ∷ []))
    ≡ codes "each branch begins with a constant and 'do', as in cobegin 1 do p also 2 do q end."
row_branch = refl

-- when do
pub row_condition : note_of [] (Some (mark is.Do)) (Some (mark is.When)) (seen kind.Do kind.When kind.When (1 ∷ 2 ∷ 3 ∷ 4 ∷ 21 ∷ 29 ∷ 39 ∷ 40 ∷ 47 ∷ []))
    ≡ codes "a condition stands before 'do', as in when x > 0 do ... end; 'when true do' waits for nothing."
row_condition = refl

-- while true do skip begin
pub row_missing_end : note_of [] (Some (mark is.Begin)) (Some (mark is.Skip)) (seen kind.Begin kind.Skip kind.While (13 ∷ 14 ∷ 45 ∷ []))
    ≡ codes "an 'end' is missing before this 'begin', or it is a 'begin' too many: only a procedure and a module have one."
row_missing_end = refl

-- proc p begin skip end end, in another procedure
pub row_end_too_many : note_of [] (Some (mark is.End)) (Some (mark is.End)) (seen kind.End kind.End 0 (7 ∷ 8 ∷ 10 ∷ 15 ∷ 20 ∷ 23 ∷ 24 ∷ 25 ∷ 26 ∷ 27 ∷ 30 ∷ []))
    ≡ codes "here come declarations or a 'begin': an 'end' too many stands here or before, or a 'begin' is missing."
row_end_too_many = refl

-- wait x := 1, in a text that has no procedure of this name, and in one that has
pub row_foreign : word_note (mark (is.Name (codes "wait")) ∷ mark (is.Name (codes "x")) ∷ []) (codes "wait")
    ≡ Some (codes "'wait' is no word of the language: a process waits at when x > 0 do ... end until its condition is true.")
row_foreign = refl

pub row_own : word_note (mark is.Proc ∷ mark (is.Name (codes "wait")) ∷ []) (codes "wait") ≡ None
row_own = refl

pub row_call : lost_note (codes "print")
    ≡ codes "print(c) puts the character c on the printer, where the heading names it: proc main(proc print(c: char))."
row_call = refl

pub row_no_note : lost_note (codes "sum") ≡ []
row_no_note = refl

-- ---- where a procedure is declared further down

-- proc c(proc b) begin end proc b: the parameter is no declaration
pub row_further : declared_from (codes "b") 0 0 (mark is.Proc ∷ mark (is.Name (codes "c")) ∷ mark is.Open ∷ mark is.Proc ∷ mark (is.Name (codes "b"))
    ∷ mark is.Close ∷ mark is.Begin ∷ mark is.End ∷ mark is.Proc ∷ record { symbol = is.Name (codes "b"); line = 7 } ∷ []) ≡ Some 7
row_further = refl

-- proc q(x: foo; proc foo): where the name stands a parenthesis is open, so the parameter is no declaration here either
pub row_further_parameter : declared_after (codes "foo") (mark is.Proc ∷ mark (is.Name (codes "q")) ∷ mark is.Open ∷ mark (is.Name (codes "x"))
    ∷ mark is.Colon ∷ mark (is.Name (codes "foo")) ∷ mark is.Semicolon ∷ mark is.Proc ∷ mark (is.Name (codes "foo")) ∷ mark is.Close ∷ []) 5 ≡ None
row_further_parameter = refl

-- foo(1) proc foo: the arguments of a call are closed again
pub row_further_call : declared_after (codes "foo") (mark (is.Name (codes "foo")) ∷ mark is.Open ∷ mark (is.Numeral (pos 1)) ∷ mark is.Close
    ∷ mark is.Proc ∷ on 3 (is.Name (codes "foo")) ∷ []) 0 ≡ Some 3
row_further_call = refl

-- ---- the undeclared name

-- y := 1
pub row_one_name : marked_name (mark (is.Name (codes "y")) ∷ mark is.Becomes ∷ mark (is.Numeral (pos 1)) ∷ []) 1 ≡ Some (0, codes "y")
row_one_name = refl

-- var y: int begin y := y: the text declares it, so the first can mean something, as in begin y := 1 end begin y := 2 end
abbrev var_y : List Mark
var_y = on 1 is.Var ∷ on 1 (is.Name (codes "y")) ∷ on 1 is.Colon ∷ on 1 (is.Name (codes "int")) ∷ on 1 is.Begin ∷ []

pub row_twice : marked_name (var_y ++ (on 2 (is.Name (codes "y")) ∷ on 2 is.Becomes ∷ on 2 (is.Name (codes "y")) ∷ [])) 2 ≡ None
row_twice = refl

-- x := y and y := x: either can be it, and x is declared nowhere
pub row_lost_first : marked_name (var_y ++ (on 2 (is.Name (codes "x")) ∷ on 2 is.Becomes ∷ on 2 (is.Name (codes "y")) ∷ [])) 2 ≡ Some (5, codes "x")
row_lost_first = refl

pub row_lost_second : marked_name (var_y ++ (on 2 (is.Name (codes "y")) ∷ on 2 is.Becomes ∷ on 2 (is.Name (codes "x")) ∷ [])) 2 ≡ Some (7, codes "x")
row_lost_second = refl

-- var x: integer; z: real: the names after `:` are no declarations, and the first of the two is marked
pub row_two_types : marked_name (mark is.Var ∷ mark (is.Name (codes "x")) ∷ mark is.Colon ∷ mark (is.Name (codes "integer")) ∷ mark is.Semicolon
    ∷ mark (is.Name (codes "z")) ∷ mark is.Colon ∷ mark (is.Name (codes "real")) ∷ []) 1 ≡ Some (3, codes "integer")
row_two_types = refl

-- 16 names that are declared, and then one that is not
pub row_late : marked_name (var_y ++ (replicate 16 (on 2 (is.Name (codes "y"))) ++ on 2 (is.Name (codes "x")) ∷ [])) 2 ≡ None
row_late = refl

pub row_in_time : marked_name (var_y ++ (replicate 15 (on 2 (is.Name (codes "y"))) ++ on 2 (is.Name (codes "x")) ∷ [])) 2 ≡ Some (20, codes "x")
row_in_time = refl

-- var x: integer
pub row_type : marked_name (mark is.Var ∷ mark (is.Name (codes "x")) ∷ mark is.Colon ∷ mark (is.Name (codes "integer")) ∷ []) 1 ≡ Some (3, codes "integer")
row_type = refl

-- proc p(proc d) d(y): the heading names d
pub row_heading : marked_name (mark is.Proc ∷ mark (is.Name (codes "p")) ∷ mark is.Open ∷ mark is.Proc ∷ mark (is.Name (codes "d")) ∷ mark is.Close
    ∷ mark (is.Name (codes "d")) ∷ mark is.Open ∷ mark (is.Name (codes "y")) ∷ mark is.Close ∷ []) 1 ≡ Some (8, codes "y")
row_heading = refl

-- const a = d proc p(proc d) d: before the heading it can be d
pub row_before_heading : marked_name (mark is.Const ∷ mark (is.Name (codes "a")) ∷ mark is.Equal ∷ mark (is.Name (codes "d")) ∷ mark is.Proc
    ∷ mark (is.Name (codes "p")) ∷ mark is.Open ∷ mark is.Proc ∷ mark (is.Name (codes "d")) ∷ mark is.Close ∷ mark (is.Name (codes "d")) ∷ []) 1
    ≡ Some (3, codes "d")
row_before_heading = refl

-- y.int: the field can be it, whatever else its name means
pub row_field : marked_name (var_y ++ (on 2 (is.Name (codes "y")) ∷ on 2 is.Period ∷ on 2 (is.Name (codes "int")) ∷ [])) 2 ≡ Some (7, codes "int")
row_field = refl

-- proc main(proc d(c: d)): in its own heading d is not declared yet
pub row_own_heading : marked_name (mark is.Proc ∷ mark (is.Name (codes "main")) ∷ mark is.Open ∷ mark is.Proc ∷ mark (is.Name (codes "d")) ∷ mark is.Open
    ∷ mark (is.Name (codes "c")) ∷ mark is.Colon ∷ mark (is.Name (codes "d")) ∷ mark is.Close ∷ mark is.Close ∷ []) 1 ≡ Some (8, codes "d")
row_own_heading = refl

-- proc p(proc d(c: t): d; proc e): its type comes within its heading too, though the parenthesis of its own parameters is closed
pub row_own_type : marked_name (on 1 is.Proc ∷ on 1 (is.Name (codes "p")) ∷ on 1 is.Open ∷ on 1 is.Proc ∷ on 1 (is.Name (codes "d")) ∷ on 1 is.Open
    ∷ on 1 (is.Name (codes "c")) ∷ on 1 is.Colon ∷ on 1 (is.Name (codes "t")) ∷ on 1 is.Close ∷ on 2 is.Colon ∷ on 2 (is.Name (codes "d")) ∷ on 2 is.Semicolon
    ∷ on 2 is.Proc ∷ on 2 (is.Name (codes "e")) ∷ on 2 is.Close ∷ []) 2 ≡ Some (11, codes "d")
row_own_type = refl

-- proc p(proc d; proc e(x: d)): behind the semicolon d is declared, so e alone can be it
pub row_next_heading : marked_name (on 1 is.Proc ∷ on 1 (is.Name (codes "p")) ∷ on 1 is.Open ∷ on 1 is.Proc ∷ on 1 (is.Name (codes "d")) ∷ on 1 is.Semicolon
    ∷ on 1 is.Proc ∷ on 1 (is.Name (codes "e")) ∷ on 1 is.Open ∷ on 1 (is.Name (codes "x")) ∷ on 1 is.Colon ∷ on 2 (is.Name (codes "d")) ∷ on 2 is.Semicolon
    ∷ on 2 (is.Name (codes "y")) ∷ on 2 is.Colon ∷ on 2 (is.Name (codes "e")) ∷ on 2 is.Close ∷ on 2 is.Close ∷ []) 2 ≡ Some (15, codes "e")
row_next_heading = refl

-- const n = 3
abbrev const_n : List Mark
const_n = on 1 is.Const ∷ on 1 (is.Name (codes "n")) ∷ on 1 is.Equal ∷ on 1 (is.Numeral (pos 3)) ∷ []

-- array t [1:n] (chr): the type of the elements is used, and not declared
pub row_elements : marked_name (const_n ++ (on 2 is.Array ∷ on 2 (is.Name (codes "t")) ∷ on 2 is.OpenBracket ∷ on 2 (is.Numeral (pos 1)) ∷ on 2 is.Colon
    ∷ on 2 (is.Name (codes "n")) ∷ on 2 is.CloseBracket ∷ on 2 is.Open ∷ on 2 (is.Name (codes "chr")) ∷ on 2 is.Close ∷ [])) 2 ≡ Some (12, codes "chr")
row_elements = refl

-- array t [low:n] (char): so is the lower bound
pub row_bound : marked_name (const_n ++ (on 2 is.Array ∷ on 2 (is.Name (codes "t")) ∷ on 2 is.OpenBracket ∷ on 2 (is.Name (codes "low")) ∷ on 2 is.Colon
    ∷ on 2 (is.Name (codes "n")) ∷ on 2 is.CloseBracket ∷ on 2 is.Open ∷ on 2 (is.Name (codes "char")) ∷ on 2 is.Close ∷ [])) 2 ≡ Some (7, codes "low")
row_bound = refl

-- enum e (a, b) set s (chr): the parenthesis of an enumeration declares names, that of a set uses one
pub row_members : marked_name (mark is.Enum ∷ mark (is.Name (codes "e")) ∷ mark is.Open ∷ mark (is.Name (codes "a")) ∷ mark is.Comma
    ∷ mark (is.Name (codes "b")) ∷ mark is.Close ∷ mark is.Set ∷ mark (is.Name (codes "s")) ∷ mark is.Open ∷ mark (is.Name (codes "chr")) ∷ mark is.Close ∷ []) 1
    ≡ Some (10, codes "chr")
row_members = refl
