-- What holds of whatever a judged construct gives.
use Rattle.std.proofs.Common.{◌≡◌, ℕ, Bool, true, false, if◌then◌else◌, refl}
use Rattle.std.specs.Prelude.{⊤}
use Rattle.edi_static.specs.declared.faults.StaticKind.{StaticKind}
use Rattle.edi_static.specs.Judged.{Judged, gives, faults, ◌>>=◌, must}

abbrev pub Gives : {A : Type 0} → (A → Type 0) → Judged A → Type 0
Gives P (gives a) = P a
Gives P (faults why line) = ⊤

-- of one construct behind another
pub bind : {A B : Type 0} (P : A → Type 0) (Q : B → Type 0) (m : Judged A) (f : A → Judged B) → Gives P m → ((a : A) → P a → Gives Q (f a)) → Gives Q (m >>= f)
bind P Q (gives a) f h k = k a h
bind P Q (faults why line) f h k = tt

-- of one construct behind another of which nothing is known
pub behind : {A B : Type 0} (Q : B → Type 0) (m : Judged A) (f : A → Judged B) → ((a : A) → Gives Q (f a)) → Gives Q (m >>= f)
behind Q (gives a) f k = k a
behind Q (faults why line) f k = tt

pub choose : {A : Type 0} (P : A → Type 0) (b : Bool) (m n : Judged A) → Gives P m → Gives P n → Gives P (if b then m else n)
choose P true m n h k = h
choose P false m n h k = k

-- of one construct behind a rule, which holds there
pub ruled : {B : Type 0} (Q : B → Type 0) (b : Bool) (why : StaticKind) (line : ℕ) (f : Unit {0} → Judged B) → (b ≡ true → Gives Q (f tt))
    → Gives Q (must b why line >>= f)
ruled Q true why line f k = k refl
ruled Q false why line f k = tt

pub weaker : {A : Type 0} (P Q : A → Type 0) (m : Judged A) → ((a : A) → P a → Q a) → Gives P m → Gives Q m
weaker P Q (gives a) f h = f a h
weaker P Q (faults why line) f h = tt

pub also : {A : Type 0} (P Q : A → Type 0) (m : Judged A) → Gives P m → Gives Q m → Gives (λ a. P a × Q a) m
also P Q (gives a) h k = (h, k)
also P Q (faults why line) h k = tt
