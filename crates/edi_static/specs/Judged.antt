-- Definition. What it is to judge a construct: it gives what the construct becomes in the resolved program, or it faults, by the
-- kind and the line of the first rule that is broken in it.
use Rattle.std.specs.Prelude.{ℕ, Bool, true, false}
use Rattle.edi_static.specs.declared.faults.StaticKind.{StaticKind}

pub data Judged (A : Type 0) : Type 0 where
  gives : A → Judged A
  faults : StaticKind → (line : ℕ) → Judged A

-- Parts are judged before the whole and from left to right: what stands behind is judged only where what stands before it
-- has no fault.
infixl 10 ◌>>=◌
abbrev pub ◌>>=◌ : {A B : Type 0} → Judged A → (A → Judged B) → Judged B
(gives a) >>= f = f a
(faults why line) >>= f = faults why line

-- a rule: where it does not hold, there is a fault of this kind at this line
abbrev pub must : Bool → StaticKind → (line : ℕ) → Judged (Unit {0})
must true why line = gives tt
must false why line = faults why line
