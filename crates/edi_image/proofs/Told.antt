-- What two calls, one after the other, leave of what an object tells.
use Rattle.std.specs.Prelude.{Option, Some, None}
use Rattle.edi_told.specs.Told.{WhereTold}

pub told_then : {A : Type 0} (a b c : Option A) (P Q R : A → A → Type 0)
    → ((x y z : A) → P x y → Q y z → R x z) → WhereTold a b P → WhereTold b c Q → WhereTold a c R
told_then a b None P Q R both p q = tt
told_then a None (Some z) P Q R both p q = absurd q
told_then None (Some y) (Some z) P Q R both p q = absurd p
told_then (Some x) (Some y) (Some z) P Q R both p q = both x y z p q

pub told_map : {A : Type 0} (a b : Option A) (P Q : A → A → Type 0)
    → ((x y : A) → P x y → Q x y) → WhereTold a b P → WhereTold a b Q
told_map a None P Q so p = tt
told_map None (Some y) P Q so p = absurd p
told_map (Some x) (Some y) P Q so p = so x y p

-- nothing has happened
pub told_same : {A : Type 0} (a : Option A) (P : A → A → Type 0) → ((x : A) → P x x) → WhereTold a a P
told_same None P same = tt
told_same (Some x) P same = same x
