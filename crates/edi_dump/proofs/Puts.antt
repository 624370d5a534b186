-- Texts that are put one after another.
use Rattle.std.proofs.Common.{◌≡◌, ℕ, List, ◌++◌, ap, ◌∙◌, append_assoc}

pub two_put : (out one two a b text : List ℕ) → one ≡ out ++ a → two ≡ one ++ b → two ++ text ≡ out ++ (a ++ (b ++ text))
two_put out one two a b text g h =
    ap (λ xs. xs ++ text) (h ∙ ap (λ xs. xs ++ b) g) ∙ (append_assoc (out ++ a) b text ∙ append_assoc out a (b ++ text))

pub three_put : (out one two three a b c text : List ℕ) → one ≡ out ++ a → two ≡ one ++ b → three ≡ two ++ c
    → three ++ text ≡ out ++ (a ++ (b ++ (c ++ text)))
three_put out one two three a b c text g h k =
    ap (λ xs. xs ++ text) k ∙ (append_assoc two c text ∙ two_put out one two a b (c ++ text) g h)
