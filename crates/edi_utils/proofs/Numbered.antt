-- The texts of numbers, one after another.
use Rattle.std.proofs.Common.{◌≡◌, ◌∙◌, ℕ, suc, ◌+◌, ◌-◌, ◌<◌, List, ◌++◌, append_assoc, ap, sym, arith}
use Rattle.edi_utils.specs.Demo.{numbered}

-- one text more, of those up to n
pub numbered_next : (text : ℕ → List ℕ) (before n : ℕ) (old new all : List ℕ) → before < n
    → old ++ numbered text (before + 1) (n - before) ≡ all → new ≡ old ++ text (before + 1)
    → new ++ numbered text (before + 1 + 1) (n - (before + 1)) ≡ all
numbered_next text before n old new all more so_far put =
    let left : n - before ≡ suc (n - (before + 1)) = omega arith in
    let next : before + 1 + 1 ≡ suc (before + 1) = omega arith in
    let rest = numbered text (before + 1 + 1) (n - (before + 1)) in
    ap (λ x. x ++ rest) put
    ∙ append_assoc old (text (before + 1)) rest
    ∙ ap (λ i. old ++ (text (before + 1) ++ numbered text i (n - (before + 1)))) next
    ∙ ap (λ k. old ++ numbered text (before + 1) k) (sym left)
    ∙ so_far
