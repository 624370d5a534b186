-- Blanks, one after another.
use Rattle.std.proofs.Common.{◌≡◌, ◌∙◌, ℕ, suc, ◌+◌, ◌-◌, ◌<◌, List, [], ◌∷◌, ◌++◌, replicate, append_assoc, ap, sym, arith}

pub place_next : (places i : ℕ) (old new all : List ℕ) → i < places → old ++ replicate (places - i) 32 ≡ all → new ≡ old ++ (32 ∷ [])
    → new ++ replicate (places - (i + 1)) 32 ≡ all
place_next places i old new all more so_far put =
    let left : places - i ≡ suc (places - (i + 1)) = omega arith in
    let rest = replicate (places - (i + 1)) 32 in
    ap (λ x. x ++ rest) put ∙ append_assoc old (32 ∷ []) rest ∙ ap (λ k. old ++ replicate k 32) (sym left) ∙ so_far
