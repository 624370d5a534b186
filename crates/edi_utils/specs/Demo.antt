-- Definition. The text of the demonstration with n procedures, and the line that tells its size.
use Rattle.std.specs.Prelude.{ℕ, zero, suc, ◌-◌, List, [], ◌++◌, codes}
use Rattle.std.specs.Fmt.{decimal}

-- the texts of n numbers, from i on
abbrev pub numbered : (ℕ → List ℕ) → (i n : ℕ) → List ℕ
numbered text i zero = []
numbered text i (suc n) = text i ++ numbered text (suc i) n

-- the declaration of procedure i
abbrev pub demo_procedure : (i : ℕ) → List ℕ
demo_procedure i = codes "proc p" ++ (decimal i ++ codes "\nbegin when x < 32767 do x := x + 1 end end\n")

-- the call of procedure i behind another
abbrev pub next_call : (i : ℕ) → List ℕ
next_call i = codes "; p" ++ decimal i

-- the calls of n procedures, at least one
abbrev pub demo_calls : (n : ℕ) → List ℕ
demo_calls n = codes "p1" ++ numbered next_call 2 (n - 1)

-- THE TEXT: two processes, each of which calls all n procedures, and each procedure counts one variable up
abbrev pub demo_text : (n : ℕ) → List ℕ
demo_text n =
    codes "proc main\nvar x: int\n" ++ (numbered demo_procedure 1 n ++ (codes "begin cobegin\n1 do " ++ (demo_calls n
    ++ (codes "\nalso 2 do " ++ (demo_calls n ++ codes "\nend end\n")))))

-- the line of a demonstration that came to its end
abbrev pub demo_line : (n symbols turns : ℕ) → List ℕ
demo_line n symbols turns =
    codes "demo " ++ (decimal n ++ (codes " symbols " ++ (decimal symbols ++ (codes " turns " ++ (decimal turns ++ codes "\n")))))
