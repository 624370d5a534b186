-- What a code without fault is.
use Rattle.std.proofs.Common.{◌≡◌, ℕ, ◌<◌, ◌≤◌, ◌^◌, ◌/◌, Bool, true, false, ◌&&◌, List, [], Option, Some, None, length, refl}
use Rattle.std.specs.Prelude.{nat_le, nat_lt}
use Rattle.std.proofs.lemmas.Bool.{leb-true, ltb-true}
use Rattle.edi_target.specs.Check.{CodeParts, IsFault, IsSound, fields_fault, numbers_fault, or_else, parts_fault, unless}
use Rattle.edi_target.specs.declared.code_fault.CodeFault.{CodeFault}
use Rattle.edi_target.specs.declared.code_fault.CodeFault.TheVariants as fault
use Rattle.edi_target.proofs.Reading.{both_true}

pub none_of : (a b : Option CodeFault) → or_else a b ≡ None → (a ≡ None) × (b ≡ None)
none_of None b e = (refl, e)
none_of (Some f) b e = (e, cc)

pub kept_by : (b : Bool) (f : CodeFault) → unless b f ≡ None → b ≡ true
kept_by true f e = refl
kept_by false f e = cc

-- the fields of a header without fault
pub record AreFields (count start parameters : ℕ) : Type 0 where
  pub words : 1 ≤ count
  pub limit : count ≤ 4194304
  pub inside : start < count
  pub number : parameters ≤ 10

pub fields_hold : (count start parameters : ℕ) (numbers : List ℕ) → fields_fault count start parameters numbers ≡ None → AreFields count start parameters
fields_hold count start parameters numbers e =
    let first = none_of (unless (nat_le 1 count && nat_le count 4194304) (fault.Header 4 (count / 2 ^ 24))) _ e in
    let second = none_of (unless (nat_lt start count) (fault.Header 8 (start / 2 ^ 24))) _ first.1 in
    let third = none_of (unless (nat_le parameters 10) (fault.Header 12 parameters)) (numbers_fault [] 13 numbers) second.1 in
    let size = both_true (nat_le 1 count) (nat_le count 4194304) (kept_by (nat_le 1 count && nat_le count 4194304) _ first.0) in
    record {
      words = leb-true 1 count size.0;
      limit = leb-true count 4194304 size.1;
      inside = ltb-true start count (kept_by (nat_lt start count) _ second.0);
      number = leb-true parameters 10 (kept_by (nat_le parameters 10) _ third.0);
    }

pub sound_fields : (c : CodeParts) → IsSound c → AreFields (length c.words) c.entry (length c.calls)
unfolding parts_fault
sound_fields c e = fields_hold (length c.words) c.entry (length c.calls) c.calls
    (none_of (fields_fault (length c.words) c.entry (length c.calls) c.calls) _ e).0

pub is_fault : (f : CodeFault) (x : Option CodeFault) → x ≡ Some f → IsFault f x
is_fault fault.NoMemory x e = tt
is_fault (fault.Short at) x e = e
is_fault (fault.Over at) x e = e
is_fault (fault.Header at found) x e = e
is_fault (fault.Operation at found) x e = e
is_fault (fault.Jump at target) x e = e
