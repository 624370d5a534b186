-- Instructions whose operands may be any.
use Rattle.std.proofs.Common.{◌≡◌, ℕ, ℤ, true, ◌&&◌, List, Bor, refl}
use Rattle.edi_target.specs.Op.{is_allowed, has_integers}
use Rattle.edi_target.specs.View.{instruction_of, is_whole}
use Rattle.edi_target.specs.declared.op.Op.{Op}
use Rattle.edi_target.specs.declared.op.Op.TheVariants as code

pub plain : (op : Op)
    → ((w : Bor (List ℕ)) → op ≡ code.Text w → ⊥)
    → ((x : ℕ) → op ≡ code.Zeros x → ⊥)
    → ((x : ℕ) (y : ℕ) → op ≡ code.Address x y → ⊥)
    → ((x : ℤ) (y : ℤ) (z : ℕ) (w : ℕ) → op ≡ code.Index x y z w → ⊥)
    → ((x : ℕ) → op ≡ code.Load x → ⊥)
    → ((x : ℕ) → op ≡ code.Store x → ⊥)
    → ((x : ℕ) → op ≡ code.Eq x → ⊥)
    → ((x : ℕ) → op ≡ code.Ne x → ⊥)
    → ((x : ℕ) (y : ℕ) (z : ℕ) (w : ℕ) (v : ℕ) → op ≡ code.Entry x y z w v → ⊥)
    → ((x : ℕ) (y : ℕ) (z : ℕ) → op ≡ code.Call x y z → ⊥)
    → ((x : ℕ) (y : ℕ) (z : ℕ) → op ≡ code.CallP x y z → ⊥)
    → ((x : ℕ) (y : ℕ) → op ≡ code.Proc x y → ⊥)
    → ((x : ℕ) (y : ℕ) → op ≡ code.Return x y → ⊥)
    → ((x : ℕ) (w : Bor (List ℕ)) → op ≡ code.Cobegin x w → ⊥)
    → true ≡ (is_whole op && is_allowed (instruction_of op))
plain (code.Text w) n _ _ _ _ _ _ _ _ _ _ _ _ _ = absurd (n w refl)
plain (code.Zeros x) _ n _ _ _ _ _ _ _ _ _ _ _ _ = absurd (n x refl)
plain (code.Address x y) _ _ n _ _ _ _ _ _ _ _ _ _ _ = absurd (n x y refl)
plain (code.Index x y z w) _ _ _ n _ _ _ _ _ _ _ _ _ _ = absurd (n x y z w refl)
plain (code.Load x) _ _ _ _ n _ _ _ _ _ _ _ _ _ = absurd (n x refl)
plain (code.Store x) _ _ _ _ _ n _ _ _ _ _ _ _ _ = absurd (n x refl)
plain (code.Eq x) _ _ _ _ _ _ n _ _ _ _ _ _ _ = absurd (n x refl)
plain (code.Ne x) _ _ _ _ _ _ _ n _ _ _ _ _ _ = absurd (n x refl)
plain (code.Entry x y z w v) _ _ _ _ _ _ _ _ n _ _ _ _ _ = absurd (n x y z w v refl)
plain (code.Call x y z) _ _ _ _ _ _ _ _ _ n _ _ _ _ = absurd (n x y z refl)
plain (code.CallP x y z) _ _ _ _ _ _ _ _ _ _ n _ _ _ = absurd (n x y z refl)
plain (code.Proc x y) _ _ _ _ _ _ _ _ _ _ _ n _ _ = absurd (n x y refl)
plain (code.Return x y) _ _ _ _ _ _ _ _ _ _ _ _ n _ = absurd (n x y refl)
plain (code.Cobegin x w) _ _ _ _ _ _ _ _ _ _ _ _ _ n = absurd (n x w refl)
plain _ _ _ _ _ _ _ _ _ _ _ _ _ _ _ = refl

-- only an INDEX and a CHECK have integers
pub no_integers : (op : Op)
    → ((x : ℤ) (y : ℤ) (z : ℕ) (w : ℕ) → op ≡ code.Index x y z w → ⊥)
    → ((x : ℤ) (y : ℤ) (z : ℕ) → op ≡ code.Check x y z → ⊥)
    → has_integers (instruction_of op) ≡ true
no_integers (code.Index x y z w) n _ = absurd (n x y z w refl)
no_integers (code.Check x y z) _ n = absurd (n x y z refl)
no_integers _ _ _ = refl
