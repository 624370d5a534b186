-- What is told over one call and over two.
use Rattle.std.proofs.Common.{Option, Some, None}
use Rattle.edi_told.specs.Told.{WhereTold}

-- a relation that follows from the one that holds
pub WhereTold-map : {A : Type 0} (P Q : A → A → Type 0) (before now : Option A) → ((x y : A) → P x y → Q x y) → WhereTold before now P → WhereTold before now Q
WhereTold-map P Q before None follows told = tt
WhereTold-map P Q None (Some y) follows told = told
WhereTold-map P Q (Some x) (Some y) follows told = follows x y told

-- two calls after one another
pub WhereTold-then : {A : Type 0} (P Q R : A → A → Type 0) (before between now : Option A) → ((x y z : A) → P x y → Q y z → R x z)
    → WhereTold before between P → WhereTold between now Q → WhereTold before now R
WhereTold-then P Q R before between None follows first second = tt
WhereTold-then P Q R before None (Some z) follows first second = absurd second
WhereTold-then P Q R None (Some y) (Some z) follows first second = first
WhereTold-then P Q R (Some x) (Some y) (Some z) follows first second = follows x y z first second
