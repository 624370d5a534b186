-- What is told before calls and behind them.
use Rattle.std.proofs.Common.{◌≡◌, ◌∙◌, ℕ, List, [], ◌++◌, append-nil, Option, Some, None, IfSome, refl, sym, ap, subst}
use Rattle.std.specs.Prelude.{⊤}
use Rattle.edi_told.specs.Told.{WhereTold}
use Rattle.edi_host.specs.Contents.{Contents}
use Rattle.edi_statuses.specs.Outside.{still_told, without_names}

-- ---- two moments

pub itself : {A : Type 0} (o : Option A) → WhereTold o o (λ old new. new ≡ old)
itself None = tt
itself (Some a) = refl

pub still : {A : Type 0} (P : A → A → Type 0) (old new : Option A) → WhereTold old new P → WhereTold (still_told old new) new P
still P old None h = tt
still P old (Some now) h = h

pub same_told : {A : Type 0} (old new : Option A) → new ≡ old → WhereTold (still_told old new) new (λ old new. new ≡ old)
same_told old new same = still _ old new (subst (λ o. WhereTold old o (λ old new. new ≡ old)) (sym same) (itself old))

pub told_so : {A : Type 0} (P Q : A → A → Type 0) (old new : Option A) → ((x y : A) → P x y → Q x y) → WhereTold old new P → WhereTold old new Q
told_so P Q old None so h = tt
told_so P Q None (Some now) so h = absurd h
told_so P Q (Some x) (Some y) so h = so x y h

-- what is told of the one before
pub first_told : {A : Type 0} (P : A → A → Type 0) (Q : A → Type 0) (old new : Option A) → ((x y : A) → P x y → Q x) → WhereTold old new P
    → IfSome (still_told old new) Q
first_told P Q old None so h = tt
first_told P Q None (Some now) so h = absurd h
first_told P Q (Some x) (Some y) so h = so x y h

pub shows_nothing : (old new : Option (List ℕ)) → new ≡ old → WhereTold old new (λ old new. new ≡ old ++ [])
shows_nothing old new same =
    told_so (λ x y. y ≡ x) (λ x y. y ≡ x ++ []) old new (λ x y is. is ∙ sym (append-nil x))
    (subst (λ o. WhereTold old o (λ x y. y ≡ x)) (sym same) (itself old))

pub same_but : (names : List (List ℕ)) (old new : Option Contents) → WhereTold old new (λ x y. y ≡ x)
    → WhereTold old new (λ x y. without_names names y ≡ without_names names x)
same_but names old new = told_so _ _ old new (λ x y same. ap (without_names names) same)

-- ---- three moments

-- told at the end, it was told at the start
pub just_told : {A : Type 0} (P : A → A → Type 0) (old new : Option A) → WhereTold old new P → WhereTold old new (λ a b. ⊤)
just_told P old new = told_so P _ old new (λ x y h. tt)

pub still_same : {A : Type 0} (old mid new : Option A) → WhereTold old mid (λ a b. b ≡ a) → WhereTold mid new (λ a b. ⊤)
    → still_told mid new ≡ still_told old new
still_same old mid None h k = refl
still_same None None (Some now) h k = refl
still_same (Some a) None (Some now) h k = absurd k
still_same None (Some b) (Some now) h k = absurd h
still_same (Some a) (Some b) (Some now) h k = ap Some h

-- what is known of it as it was told till the second is known as it was told till the last
pub till_the_last : {A : Type 0} (P : A → Type 0) (old mid new : Option A) → WhereTold mid new (λ a b. ⊤) → IfSome (still_told old mid) P
    → IfSome (still_told old new) P
till_the_last P old mid None k h = tt
till_the_last P old None (Some now) k h = absurd k
till_the_last P old (Some b) (Some now) k h = h

-- one call after another
pub in_turn : {A : Type 0} (old mid new : Option A) → WhereTold old mid (λ a b. b ≡ a) → WhereTold mid new (λ a b. b ≡ a)
    → WhereTold old new (λ a b. b ≡ a)
in_turn old mid None h k = tt
in_turn old None (Some now) h k = absurd k
in_turn None (Some b) (Some now) h k = absurd h
in_turn (Some a) (Some b) (Some now) h k = k ∙ h
