-- What four objects tell together, over one call.
use Rattle.std.proofs.Common.{◌≡◌, Option, Some, None, sym, ap, ◌∙◌}
use Rattle.std.specs.Prelude.{IfSome}
use Rattle.edi_told.specs.Told.{WhereTold}
use Rattle.edi_system.specs.State.{all_told}

-- nothing has happened to what is told
pub told_same : {A : Type 0} (a b : Option A) → b ≡ a → WhereTold a b (λ old new. new ≡ old)
told_same a None e = tt
told_same None (Some y) e = absurd (let f : Some y ≡ None = e in cc)
told_same (Some x) (Some y) e = (let f : Some y ≡ Some x = e in cc)

pub told_map : {A : Type 0} (P Q : A → A → Type 0) (a b : Option A) → ((x y : A) → P x y → Q x y) → WhereTold a b P → WhereTold a b Q
told_map P Q a None so p = tt
told_map P Q None (Some y) so p = absurd p
told_map P Q (Some x) (Some y) so p = so x y p

-- and what is so of the end
pub told_with : {A : Type 0} (P : A → A → Type 0) (Q : A → Type 0) (a b : Option A) → IfSome b Q → WhereTold a b P → WhereTold a b (λ x y. P x y × Q y)
told_with P Q a None so p = tt
told_with P Q None (Some y) so p = absurd p
told_with P Q (Some x) (Some y) so p = (p, so)

-- what is told of four objects is told of all together
pub told_together : {A B C E X : Type 0} (make make' : A → B → C → E → X) (a a' : Option A) (b b' : Option B) (c c' : Option C) (e e' : Option E)
    (P : A → A → Type 0) (Q : B → B → Type 0) (R : C → C → Type 0) (S : E → E → Type 0) (W : X → X → Type 0)
    → WhereTold a a' P → WhereTold b b' Q → WhereTold c c' R → WhereTold e e' S
    → ((x x' : A) (y y' : B) (z z' : C) (w w' : E) → P x x' → Q y y' → R z z' → S w w' → W (make x y z w) (make' x' y' z' w'))
    → WhereTold (all_told make a b c e) (all_told make' a' b' c' e') W
told_together make make' a None b b' c c' e e' P Q R S W p q r s so = tt
told_together make make' None (Some x') b b' c c' e e' P Q R S W p q r s so = absurd p
told_together make make' (Some x) (Some x') b None c c' e e' P Q R S W p q r s so = tt
told_together make make' (Some x) (Some x') None (Some y') c c' e e' P Q R S W p q r s so = absurd q
told_together make make' (Some x) (Some x') (Some y) (Some y') c None e e' P Q R S W p q r s so = tt
told_together make make' (Some x) (Some x') (Some y) (Some y') None (Some z') e e' P Q R S W p q r s so = absurd r
told_together make make' (Some x) (Some x') (Some y) (Some y') (Some z) (Some z') e None P Q R S W p q r s so = tt
told_together make make' (Some x) (Some x') (Some y) (Some y') (Some z) (Some z') None (Some w') P Q R S W p q r s so = absurd s
told_together make make' (Some x) (Some x') (Some y) (Some y') (Some z) (Some z') (Some w) (Some w') P Q R S W p q r s so =
    so x x' y y' z z' w w' p q r s

-- what is told in the end was told at the start
pub told_back : {A : Type 0} (a b : Option A) → WhereTold a b (λ old new. new ≡ old) → (x : A) → b ≡ Some x → a ≡ Some x
told_back a None told x e = absurd (let f : None ≡ Some x = e in cc)
told_back None (Some y) told x e = absurd told
told_back (Some o) (Some y) told x e = ap Some (sym told) ∙ e
