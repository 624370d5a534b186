-- What an entry says, from what its parts say.
use Rattle.std.proofs.Common.{◌≡◌, ℕ, Bool, true, false, List, refl, ap, sym}
use Rattle.std.specs.Prelude.{◌&&◌, if◌then◌else◌, Some, None}
use Rattle.edi_image.specs.Records.{FileRecord}
use Rattle.edi_image.specs.declared.entries.Said.TheVariants as said

pub says_file : (z e : Bool) (r x : FileRecord) → z ≡ false → Some r ≡ (if e then Some x else None)
    → said.File r ≡ (if z then said.Free else (if e then said.File x else said.Wrong))
says_file true e r x hz h = absurd (let a : true ≡ false = hz in cc)
says_file false true r x hz h = ap said.File (let i : Some r ≡ Some x = h in cc)
says_file false false r x hz h = absurd (let i : Some r ≡ None = h in cc)

pub says_wrong : (z e : Bool) (x : FileRecord) → z ≡ false → None ≡ (if e then Some x else None)
    → said.Wrong ≡ (if z then said.Free else (if e then said.File x else said.Wrong))
says_wrong true e x hz h = absurd (let a : true ≡ false = hz in cc)
says_wrong false true x hz h = absurd (let i : None ≡ Some x = h in cc)
says_wrong false false x hz h = refl

pub no_title : (t f : Bool) (title : List ℕ) (x : FileRecord) → None ≡ (if t then Some title else None)
    → None ≡ (if t && f then Some x else None)
no_title true f title x h = absurd (let i : None ≡ Some title = h in cc)
no_title false f title x h = refl

pub no_fields : (t f : Bool) (x : FileRecord) → f ≡ false → None ≡ (if t && f then Some x else None)
no_fields true f x h = ap (λ b. if b then Some x else None) (sym h)
no_fields false f x h = refl
