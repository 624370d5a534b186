-- What is told before and after a call, where the one or the other is told.
use Rattle.std.proofs.Common.{◌≡◌, true, false, Option, Some, None}
use Rattle.std.proofs.Common.{refl, sym, subst}
use Rattle.std.specs.Prelude.{IsSome}
use Rattle.edi_told.specs.Told.{WhereTold}
use Rattle.edi_calls.specs.State.{State, fresh}
use Rattle.edi_shell_io.specs.calls.OnSystem.{HasState}

-- ---- options

-- what is told before and after, where the end is told and the beginning has the contents of a state
pub record Both (R : State → State → Type 0) (old new : Option State) (state : State) : Type 0 where
  pub before : State
  pub after : State
  pub was : old ≡ Some before
  pub is : new ≡ Some after
  pub alike : fresh before ≡ fresh state
  pub so : R before after

pub both : (R : State → State → Type 0) (old new : Option State) (state : State) → HasState old state → IsSome new → WhereTold old new R → Both R old new state
both R (Some x) (Some y) state has tells so = record { before = x; after = y; was = refl; is = refl; alike = has; so = so }
both R None (Some y) state has tells so = absurd so
both R old None state has tells so = absurd (let wrong : false ≡ true = tells in cc)

pub has_state : (told : Option State) (y state : State) → told ≡ Some y → fresh y ≡ fresh state → HasState told state
has_state told y state is alike = subst (λ o. HasState o state) (sym is) alike

-- what is told now
pub record One (told : Option State) (state : State) : Type 0 where
  pub now : State
  pub is : told ≡ Some now
  pub alike : fresh now ≡ fresh state

pub one : (told : Option State) (state : State) → HasState told state → IsSome told → One told state
one (Some x) state has tells = record { now = x; is = refl; alike = has }
one None state has tells = absurd (let wrong : false ≡ true = tells in cc)
