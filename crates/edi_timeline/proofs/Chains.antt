-- What is put behind bytes, one part after another.
use Rattle.std.proofs.Common.{◌≡◌, ℕ, List, ◌++◌, ap, ◌∙◌, append_assoc}

abbrev Bytes : Type 0
Bytes = List ℕ

pub two : (o0 o1 o2 x y : Bytes) → o1 ≡ o0 ++ x → o2 ≡ o1 ++ y → o2 ≡ o0 ++ (x ++ y)
two o0 o1 o2 x y f g = g ∙ ap (λ o. o ++ y) f ∙ append_assoc o0 x y

pub three : (o0 o1 o2 o3 a b c : Bytes) → o1 ≡ o0 ++ a → o2 ≡ o1 ++ b → o3 ≡ o2 ++ c → o3 ≡ o0 ++ (a ++ (b ++ c))
three o0 o1 o2 o3 a b c f g h = two o0 o1 o3 a (b ++ c) f (two o1 o2 o3 b c g h)

pub four : (o0 o1 o2 o3 o4 a b c d : Bytes) → o1 ≡ o0 ++ a → o2 ≡ o1 ++ b → o3 ≡ o2 ++ c → o4 ≡ o3 ++ d → o4 ≡ o0 ++ (a ++ (b ++ (c ++ d)))
four o0 o1 o2 o3 o4 a b c d f g h i = two o0 o1 o4 a (b ++ (c ++ d)) f (three o1 o2 o3 o4 b c d g h i)

pub five : (o0 o1 o2 o3 o4 o5 a b c d e : Bytes) → o1 ≡ o0 ++ a → o2 ≡ o1 ++ b → o3 ≡ o2 ++ c → o4 ≡ o3 ++ d → o5 ≡ o4 ++ e →
    o5 ≡ o0 ++ (a ++ (b ++ (c ++ (d ++ e))))
five o0 o1 o2 o3 o4 o5 a b c d e f g h i j = two o0 o1 o5 a (b ++ (c ++ (d ++ e))) f (four o1 o2 o3 o4 o5 b c d e g h i j)

-- four parts before all that is behind them
pub parts : (a b c d rest : Bytes) → (a ++ (b ++ (c ++ d))) ++ rest ≡ a ++ (b ++ (c ++ (d ++ rest)))
parts a b c d rest =
    append_assoc a (b ++ (c ++ d)) rest
    ∙ ap (λ l. a ++ l) (append_assoc b (c ++ d) rest ∙ ap (λ l. b ++ l) (append_assoc c d rest))
