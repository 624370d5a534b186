-- Sets that keep their order, and what stands in them while they grow.
use Rattle.std.proofs.Common.{◌≡◌, ℕ, zero, suc, Bool, true, false, if◌then◌else◌, List, [], ◌∷◌, ◌++◌, slice_get, Some, refl, sym, ap, ◌∙◌}
use Rattle.std.proofs.Common.{subst}
use Rattle.std.specs.Prelude.{Result, Ok, Err, OnOk, IfOk}
use Rattle.std.specs.List.{list_any}
use Rattle.std.proofs.lemmas.List.{append-nil, append_assoc}
use Rattle.indexmap.specs.IndexSet.{insert_key}
use Rattle.edi_explore.specs.States.{Follows}

pub follows_insert : {X : Type 0} (eq : X → X → Bool) (ks : List X) (k : X) → Follows ks (insert_key eq ks k)
follows_insert eq ks k = by (list_any (eq k) ks)
  where
    by : (b : Bool) → Follows ks (if b then ks else ks ++ k ∷ [])
    by true = ([], sym (append-nil ks))
    by false = (k ∷ [], refl)

pub follows_same : {X : Type 0} (ks : List X) → Follows ks ks
follows_same ks = ([], sym (append-nil ks))

pub follows_on : {X : Type 0} (a b c : List X) → Follows a b → Follows b c → Follows a c
follows_on a b c f g = (f.0 ++ g.0, g.1 ∙ ap (λ l. l ++ g.0) f.1 ∙ append_assoc a f.0 g.0)

-- what stood at an index stands there
pub stays_at : {X : Type 0} (xs ys : List X) (i : ℕ) (x : X) → Follows xs ys → slice_get xs i ≡ Some x → slice_get ys i ≡ Some x
stays_at xs ys i x f e = ap (λ l. slice_get l i) f.1 ∙ front xs f.0 i x e
  where
    front : {X : Type 0} (xs more : List X) (i : ℕ) (x : X) → slice_get xs i ≡ Some x → slice_get (xs ++ more) i ≡ Some x
    front [] more i x e = absurd (cc)
    front (y ∷ xs) more zero x e = e
    front (y ∷ xs) more (suc i) x e = front xs more i x e

-- ---- answers

pub for_ok : {T E : Type 0} {P : Type 0} (r : Result T E) → P → OnOk r P
for_ok (Ok x) p = p
for_ok (Err e) p = tt

pub same_ok : {E : Type 0} (P : ℕ → Type 0) (r : Result ℕ E) (n : ℕ) → IfOk r (λ x. x ≡ n) → P n → IfOk r P
same_ok P (Ok x) n e p = subst P (sym e) p
same_ok P (Err x) n e p = tt
