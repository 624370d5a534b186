-- Each record that a program declares has a field.
use Rattle.std.proofs.Common.{◌≡◌, ℕ, zero, suc, ◌+◌, ◌<◌, Bool, true, false, List, [], ◌∷◌, ◌++◌, length, nat_lt, refl, arith, subst, sym}
use Rattle.std.specs.Prelude.{slice_set}
use Rattle.std.proofs.lemmas.List.{length-append, get_or_append_left, get_or_push}
use Rattle.edi_tree.specs.Depth.{depth}
use Rattle.edi_unit.specs.Types.{Shape, standard_types, shape_at, int}
use Rattle.edi_unit.specs.Tree.{Block}
use Rattle.edi_unit.specs.Need.{block_at}
use Rattle.edi_static.proofs.Judging.{Gives}
use Rattle.edi_static.proofs.Declared.{Keeping}
use Rattle.edi_static.proofs.Lasting.{Lasting, nothing_said, UnitLasts, unit_lasts}
use Rattle.edi_scheme.specs.Laws.{HasPart, HaveParts}
use Rattle.edi_compile.specs.codable.Laws.{RecordsHaveFields}

abbrev Have : List Shape → List Block → Type 0
Have types blocks = HaveParts types

at_added : (types : List Shape) (shape : Shape) (t : ℕ) (inside : Bool) → nat_lt t (length types) ≡ inside → t < length types + 1 → HasPart shape
    → HaveParts types → HasPart (shape_at (types ++ shape ∷ []) t)
at_added types shape t true e less part h =
    let here : t < length types = grind (arith, e) in
    subst HasPart (sym (get_or_append_left types (shape ∷ []) int t here)) (h t here)
at_added types shape t false e less part h =
    let here : t ≡ length types = grind (arith, e, less) in
    subst HasPart (sym (get_or_push types shape int t (sym here))) part

typed : (types : List Shape) (blocks : List Block) (shape : Shape) → HasPart shape → Have types blocks → Have (types ++ shape ∷ []) blocks
typed types blocks shape part h t less = at_added types shape t (nat_lt t (length types)) refl (omega (arith, less, length-append types (shape ∷ []))) part h

standard : HaveParts standard_types
standard zero less = tt
standard (suc zero) less = tt
standard (suc (suc zero)) less = tt
standard (suc (suc (suc t))) less = absurd (omega (arith, less))

-- what is kept of types and blocks, where each type that is added has a part if it is a record
abbrev pub with_parts : (Is Becomes : List Shape → List Block → Type 0)
    → ((types : List Shape) (blocks : List Block) (shape : Shape) → HasPart shape → Is types blocks → Becomes (types ++ shape ∷ []) blocks)
    → ((types : List Shape) (blocks : List Block) (n : ℕ) (block : Block) → block.body ≡ (block_at blocks n).body
    → block.need ≡ (block_at blocks n).need → Is types blocks → Is types (slice_set blocks n block))
    → Keeping
with_parts Is Becomes typed varied = record {
  Is = Is;
  Becomes = Becomes;
  Fine = HasPart;
  enumerated = λ n. tt;
  filled = λ parts some. some;
  arrayed = λ of lower upper element. tt;
  set = λ of. tt;
  typed = typed;
  varied = varied;
}

abbrev having : Keeping
having = with_parts Have Have typed (λ types blocks n block body need h. h)

abbrev parts_last : (levels : ℕ) → Lasting levels
parts_last levels = record {
  keep = having;
  said = nothing_said;
  settled = λ types blocks h. h;
  first = standard;
  begun = λ types blocks block body need h. h;
  added = λ types blocks n d s less k h. h;
  needed = λ types blocks n most fits h. h;
}

pub records_have_fields : RecordsHaveFields
records_have_fields tree unit e =
    let levels : ℕ = depth tree in
    subst (Gives (UnitLasts levels (parts_last levels))) e (unit_lasts levels (parts_last levels) tree (omega arith))
