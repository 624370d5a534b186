-- Definition. The kinds of symbols, numbered. A string of one character is a kind of its own, and so is the end of the text.
use Rattle.std.specs.Prelude.{ℕ}

abbrev pub End_of_text : ℕ
End_of_text = 0

abbrev pub Name : ℕ
Name = 1

abbrev pub Numeral : ℕ
Numeral = 2

abbrev pub Char : ℕ
Char = 3

abbrev pub Text : ℕ
Text = 4

abbrev pub Also : ℕ
Also = 5

abbrev pub And : ℕ
And = 6

abbrev pub Array : ℕ
Array = 7

abbrev pub Begin : ℕ
Begin = 8

abbrev pub Cobegin : ℕ
Cobegin = 9

abbrev pub Const : ℕ
Const = 10

abbrev pub Div : ℕ
Div = 11

abbrev pub Do : ℕ
Do = 12

abbrev pub Else : ℕ
Else = 13

abbrev pub End : ℕ
End = 14

abbrev pub Enum : ℕ
Enum = 15

abbrev pub If : ℕ
If = 16

abbrev pub In : ℕ
In = 17

abbrev pub Lib : ℕ
Lib = 18

abbrev pub Mod : ℕ
Mod = 19

abbrev pub Module : ℕ
Module = 20

abbrev pub Not : ℕ
Not = 21

abbrev pub Or : ℕ
Or = 22

abbrev pub Post : ℕ
Post = 23

abbrev pub Pre : ℕ
Pre = 24

abbrev pub Proc : ℕ
Proc = 25

abbrev pub Record : ℕ
Record = 26

abbrev pub Set : ℕ
Set = 27

abbrev pub Skip : ℕ
Skip = 28

abbrev pub Val : ℕ
Val = 29

abbrev pub Var : ℕ
Var = 30

abbrev pub When : ℕ
When = 31

abbrev pub While : ℕ
While = 32

abbrev pub Equal : ℕ
Equal = 33

abbrev pub NotEqual : ℕ
NotEqual = 34

abbrev pub Less : ℕ
Less = 35

abbrev pub AtMost : ℕ
AtMost = 36

abbrev pub Greater : ℕ
Greater = 37

abbrev pub AtLeast : ℕ
AtLeast = 38

abbrev pub Plus : ℕ
Plus = 39

abbrev pub Minus : ℕ
Minus = 40

abbrev pub Star : ℕ
Star = 41

abbrev pub Colon : ℕ
Colon = 42

abbrev pub Becomes : ℕ
Becomes = 43

abbrev pub Comma : ℕ
Comma = 44

abbrev pub Semicolon : ℕ
Semicolon = 45

abbrev pub Period : ℕ
Period = 46

abbrev pub Open : ℕ
Open = 47

abbrev pub Close : ℕ
Close = 48

abbrev pub OpenBracket : ℕ
OpenBracket = 49

abbrev pub CloseBracket : ℕ
CloseBracket = 50
