-- The first procedure that is begun.
use Rattle.std.proofs.Common.{◌≡◌, ℕ, List, [], ◌∷◌, Some, None, refl, sym, ap, unwrap_or}
use Rattle.std.specs.Option.{option_map}
use Rattle.edi_static.specs.declared.faults.StaticKind.TheVariants as kind
use Rattle.edi_static.specs.Judged.{gives, faults}
use Rattle.edi_static.specs.Environment.{Begun}
use Rattle.edi_static.specs.Declarations.{all_completed}
use Rattle.edi_static.specs.Waiting.{first_of}

-- its line is that of the fault
pub first_waits : (bs : List Begun) (line : ℕ) → Some line ≡ option_map (λ b. b.name.line) (first_of bs) → all_completed bs ≡ faults kind.Split line
first_waits [] line e = absurd (cc)
first_waits (b ∷ bs) line e = ap (λ o. faults kind.Split (unwrap_or o 0)) (sym e)

pub none_waits : (bs : List Begun) → None ≡ option_map (λ b. b.name.line) (first_of bs) → all_completed bs ≡ gives tt
none_waits [] e = refl
none_waits (b ∷ bs) e = absurd (cc)
