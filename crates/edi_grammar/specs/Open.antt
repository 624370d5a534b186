-- Helper. How many levels are open behind items.
use Rattle.std.specs.Prelude.{ℕ, ◌+◌, ◌-◌, List, [], ◌∷◌}
use Rattle.edi_grammar.specs.Grammar.{Item, mark, closing, Grammar, opened}

-- where so many are open before them
abbrev pub open_behind : {N S : Type 0} → Grammar N S → ℕ → List (Item S) → ℕ
open_behind g n [] = n
open_behind g n (mark s ∷ items) = open_behind g (n + opened g (g.kind s)) items
open_behind g n (closing ∷ items) = open_behind g (n - 1) items
