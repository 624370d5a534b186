-- Words of contracts. When one symbol in hand decides: the conditions on a grammar, as a test of each part.
use Rattle.std.specs.Prelude.{ℕ, zero, suc, List, [], ◌∷◌, Bool, true, false, Option, Some, None, nat_eq, nat_lt, if◌then◌else◌}
use Rattle.edi_grammar.specs.Grammar.{Part, token, level_end, part, Grammar, rule_no}
use Rattle.edi_grammar.specs.Parser.{has, null_of, firsts, selects, pick}

abbrev pub both : Bool → Bool → Bool
both a b = if a then b else false

abbrev pub each : (ℕ → Bool) → List ℕ → Bool
each test [] = true
each test (a ∷ more) = both (test a) (each test more)

abbrev pub subset : List ℕ → List ℕ → Bool
subset xs ys = each (λ a. has a ys) xs

-- what may stand behind a part of a rule is in the set that may follow the part; each kind has a sample
abbrev pub links : {N S : Type 0} → Grammar N S → N → List (Part N) → Bool
links g k [] = true
links g k (token a ∷ x) = both (nat_eq (g.kind (g.sample a)) a) (links g k x)
links g k (level_end ∷ x) = links g k x
links g k (part j ∷ x) = both (subset (firsts g x) (g.follow j)) (both (if null_of g x then subset (g.follow k) (g.follow j) else true) (links g k x))

-- each part of the rule is of a lower rank
abbrev pub below : {N S : Type 0} → Grammar N S → ℕ → List (Part N) → Bool
below g r [] = true
below g r (token a ∷ x) = both (nat_eq (g.kind (g.sample a)) a) (below g r x)
below g r (level_end ∷ x) = below g r x
below g r (part j ∷ x) = both (nat_lt (g.rank j) r) (below g r x)

-- the levels that end in a rule and are not opened in it, if each that is opened in it ends in it
abbrev pub lower : Bool → Option ℕ → Option ℕ
lower false n = n
lower true None = None
lower true (Some zero) = None
lower true (Some (suc n)) = Some n

abbrev pub raise : Option ℕ → Option ℕ
raise None = None
raise (Some n) = Some (suc n)

abbrev pub balance : {N S : Type 0} → Grammar N S → List (Part N) → Option ℕ
balance g [] = Some 0
balance g (token a ∷ x) = lower (g.opens a) (balance g x)
balance g (level_end ∷ x) = raise (balance g x)
balance g (part k ∷ x) = balance g x

abbrev pub is_even : Option ℕ → Bool
is_even None = false
is_even (Some n) = nat_eq n 0

-- the rule of number i: it is empty only if the part may be, it begins as the part may begin, what may follow agrees, its
-- levels are even, and before each symbol that may begin it, it is the rule that is taken
abbrev pub rule_is_fair : {N S : Type 0} → Grammar N S → N → ℕ → List (Part N) → Bool
rule_is_fair g k i rule =
    both (if null_of g rule then g.null k else true)
    (both (subset (firsts g rule) (g.first k))
    (both (links g k rule)
    (both (is_even (balance g rule))
    (each (λ a. nat_eq (pick g k a (g.rules k)) i) (selects g k rule)))))

abbrev pub rules_are_fair : {N S : Type 0} → Grammar N S → N → ℕ → List (List (Part N)) → Bool
rules_are_fair g k i [] = true
rules_are_fair g k i (rule ∷ more) = both (rule_is_fair g k i rule) (rules_are_fair g k (suc i) more)

abbrev pub is_short : {N S : Type 0} → Grammar N S → N → Option (List (Part N)) → Bool
is_short g k None = false
is_short g k (Some rule) = below g (g.rank k) rule

-- the conditions on one part
abbrev pub part_is_fair : {N S : Type 0} → Grammar N S → N → Bool
part_is_fair g k = both (rules_are_fair g k 0 (g.rules k)) (is_short g k (rule_no (g.rules k) (g.short k)))
