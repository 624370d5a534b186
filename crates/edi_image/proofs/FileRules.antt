-- The rules on a file: of its first map, then of its second.
use Rattle.std.proofs.Common.{◌≡◌, ℕ, ◌-◌, ◌≤◌, Bool, true, false, List, [], ◌∷◌, ◌++◌, min, refl, ap, sym, ◌∙◌, subst, append_assoc, append-nil, arith}
use Rattle.std.specs.Prelude.{if◌then◌else◌, Option, Some, None}
use Rattle.edi_calls.specs.State.{pages_of}
use Rattle.edi_image.specs.declared.faults.MountFault.{MountFault}
use Rattle.edi_image.specs.declared.faults.MountFault.TheVariants as fault
use Rattle.edi_image.specs.Records.{FileRecord, maps_of}
use Rattle.edi_image.specs.Rules.{Rule, needs, uses, is_in, first_broken, used_by}
use Rattle.edi_image.specs.Image.{map_rules, maps_rules, numbers_in, numbers_of}
use Rattle.edi_image.specs.Entries.{block_at}
use Rattle.edi_image.specs.Finds.{IsFirst, Takes}

-- the first of two
abbrev pub or_else : Option MountFault → Option MountFault → Option MountFault
or_else (Some broken) later = Some broken
or_else None later = later

needs_first : (test : Bool) (broken : MountFault) (one other later : Option MountFault) → one ≡ or_else other later
    → (if test then one else Some broken) ≡ or_else (if test then other else Some broken) later
needs_first true broken one other later e = e
needs_first false broken one other later e = refl

uses_first : (again : Bool) (broken : MountFault) (one other later : Option MountFault) → one ≡ or_else other later
    → (if again then Some broken else one) ≡ or_else (if again then Some broken else other) later
uses_first true broken one other later e = refl
uses_first false broken one other later e = e

pub first_broken-append : (used : List ℕ) (xs ys : List Rule)
    → first_broken used (xs ++ ys) ≡ or_else (first_broken used xs) (first_broken (used ++ used_by xs) ys)
first_broken-append used [] ys = ap (λ us. first_broken us ys) (sym (append-nil used))
first_broken-append used (needs test broken ∷ xs) ys =
    needs_first test broken _ _ _ (first_broken-append used xs ys)
first_broken-append used (uses block ∷ xs) ys =
    uses_first (is_in block used) (fault.Shared block) _ _ _
    (first_broken-append (used ++ block ∷ []) xs ys
    ∙ ap (λ us. or_else (first_broken (used ++ block ∷ []) xs) (first_broken us ys)) (append_assoc used (block ∷ []) (used_by xs)))

pub used_by-append : (xs ys : List Rule) → used_by (xs ++ ys) ≡ used_by xs ++ used_by ys
used_by-append [] ys = refl
used_by-append (needs test broken ∷ xs) ys = used_by-append xs ys
used_by-append (uses block ∷ xs) ys = ap (λ bs. block ∷ bs) (used_by-append xs ys)

-- a rule that is broken early is the first
early : (e : MountFault) (one later : Option MountFault) → IsFirst e one → IsFirst e (or_else one later)
early fault.Short one later h = ap (λ o. or_else o later) h
early fault.Header one later h = ap (λ o. or_else o later) h
early (fault.Entry s) one later h = ap (λ o. or_else o later) h
early (fault.Page s n) one later h = ap (λ o. or_else o later) h
early (fault.Shared n) one later h = ap (λ o. or_else o later) h
early fault.Fault one later h = tt
early fault.NoMemory one later h = tt

pub breaks_early : (e : MountFault) (used : List ℕ) (xs ys : List Rule) → IsFirst e (first_broken used xs)
    → IsFirst e (first_broken used (xs ++ ys))
breaks_early e used xs ys h =
    subst (IsFirst e) (sym (first_broken-append used xs ys)) (early e (first_broken used xs) (first_broken (used ++ used_by xs) ys) h)

-- where no rule is broken early, the others go on
pub goes_on : (used after : List ℕ) (xs ys : List Rule) → first_broken used xs ≡ None → after ≡ used ++ used_by xs
    → first_broken used (xs ++ ys) ≡ first_broken after ys
goes_on used after xs ys none is =
    first_broken-append used xs ys
    ∙ ap (λ o. or_else o (first_broken (used ++ used_by xs) ys)) none
    ∙ ap (λ us. first_broken us ys) (sym is)

-- ---- the maps of a file

-- the first map, whatever follows it
pub first_map_fails : (e : MountFault) (used : List ℕ) (blocks : List (List ℕ)) (slot : ℕ) (r : FileRecord) (map : ℕ) (second : Option ℕ)
    (count first : ℕ) → maps_of map second ≡ r.maps → count ≡ pages_of r.length → first ≡ min count 255
    → IsFirst e (first_broken used (map_rules 33 blocks slot first map))
    → IsFirst e (first_broken used (maps_rules 33 blocks slot (pages_of r.length) r.maps))
first_map_fails e used blocks slot r map second count first m n f h =
    subst (λ ms. IsFirst e (first_broken used (maps_rules 33 blocks slot (pages_of r.length) ms))) m
    (go second (subst (λ k. IsFirst e (first_broken used (map_rules 33 blocks slot k map))) (f ∙ ap (λ k. min k 255) n) h)) where
      go : (second : Option ℕ) → IsFirst e (first_broken used (map_rules 33 blocks slot (min (pages_of r.length) 255) map))
          → IsFirst e (first_broken used (maps_rules 33 blocks slot (pages_of r.length) (maps_of map second)))
      go None h = breaks_early e used (map_rules 33 blocks slot (min (pages_of r.length) 255) map) [] h
      go (Some other) h = breaks_early e used (map_rules 33 blocks slot (min (pages_of r.length) 255) map) _ h

-- the rules of a file with two maps, as its pages are counted
two_maps : (blocks : List (List ℕ)) (slot : ℕ) (r : FileRecord) (map other : ℕ) (count first : ℕ)
    → maps_of map (Some other) ≡ r.maps → count ≡ pages_of r.length → count ≤ 510 → first ≡ min count 255
    → maps_rules 33 blocks slot (pages_of r.length) r.maps
    ≡ map_rules 33 blocks slot first map ++ map_rules 33 blocks slot (count - first) other
two_maps blocks slot r map other count first m n most f =
    let rest : min (count - 255) 255 ≡ count - first = omega arith in
    ap (λ ms. maps_rules 33 blocks slot (pages_of r.length) ms) (sym m)
    ∙ ap (λ k. maps_rules 33 blocks slot k (map ∷ other ∷ [])) (sym n)
    ∙ ap (λ k. map_rules 33 blocks slot k map ++ (map_rules 33 blocks slot (min (count - 255) 255) other ++ [])) (sym f)
    ∙ ap (λ rs. map_rules 33 blocks slot first map ++ rs)
    (append-nil (map_rules 33 blocks slot (min (count - 255) 255) other) ∙ ap (λ k. map_rules 33 blocks slot k other) rest)

two_numbers : (blocks : List (List ℕ)) (r : FileRecord) (map other : ℕ) (count first : ℕ)
    → maps_of map (Some other) ≡ r.maps → count ≡ pages_of r.length → count ≤ 510 → first ≡ min count 255
    → numbers_of blocks (pages_of r.length) r.maps
    ≡ numbers_in (block_at blocks map) first ++ numbers_in (block_at blocks other) (count - first)
two_numbers blocks r map other count first m n most f =
    let rest : min (count - 255) 255 ≡ count - first = omega arith in
    ap (λ ms. numbers_of blocks (pages_of r.length) ms) (sym m)
    ∙ ap (λ k. numbers_of blocks k (map ∷ other ∷ [])) (sym n)
    ∙ ap (λ k. numbers_in (block_at blocks map) k ++ (numbers_in (block_at blocks other) (min (count - 255) 255) ++ [])) (sym f)
    ∙ ap (λ ns. numbers_in (block_at blocks map) first ++ ns)
    (append-nil (numbers_in (block_at blocks other) (min (count - 255) 255)) ∙ ap (numbers_in (block_at blocks other)) rest)

pub second_map_fails : (e : MountFault) (used between : List ℕ) (blocks : List (List ℕ)) (slot : ℕ) (r : FileRecord) (map other : ℕ)
    (second : Option ℕ) (count first : ℕ) → maps_of map second ≡ r.maps → second ≡ Some other → count ≡ pages_of r.length → count ≤ 510
    → first ≡ min count 255 → first_broken used (map_rules 33 blocks slot first map) ≡ None
    → between ≡ used ++ used_by (map_rules 33 blocks slot first map)
    → IsFirst e (first_broken between (map_rules 33 blocks slot (count - first) other))
    → IsFirst e (first_broken used (maps_rules 33 blocks slot (pages_of r.length) r.maps))
second_map_fails e used between blocks slot r map other second count first m s n most f none is h =
    subst (λ rs. IsFirst e (first_broken used rs))
    (sym (two_maps blocks slot r map other count first (ap (maps_of map) (sym s) ∙ m) n most f))
    (subst (IsFirst e)
    (sym (goes_on used between (map_rules 33 blocks slot first map) (map_rules 33 blocks slot (count - first) other) none is)) h)

pub both_maps : (used between after into one two : List ℕ) (blocks : List (List ℕ)) (slot : ℕ) (r : FileRecord) (map other : ℕ)
    (second : Option ℕ) (count first : ℕ) → maps_of map second ≡ r.maps → second ≡ Some other → count ≡ pages_of r.length → count ≤ 510
    → first ≡ min count 255 → into ≡ []
    → (first_broken used (map_rules 33 blocks slot first map) ≡ None)
    × Takes used between (map_rules 33 blocks slot first map) into one (numbers_in (block_at blocks map) first)
    → (first_broken between (map_rules 33 blocks slot (count - first) other) ≡ None)
    × Takes between after (map_rules 33 blocks slot (count - first) other) one two (numbers_in (block_at blocks other) (count - first))
    → (first_broken used (maps_rules 33 blocks slot (pages_of r.length) r.maps) ≡ None)
    × Takes used after (maps_rules 33 blocks slot (pages_of r.length) r.maps) [] two (numbers_of blocks (pages_of r.length) r.maps)
both_maps used between after into one two blocks slot r map other second count first m s n most f empty a b =
    let m2 : maps_of map (Some other) ≡ r.maps = ap (maps_of map) (sym s) ∙ m in
    let rules : maps_rules 33 blocks slot (pages_of r.length) r.maps
    ≡ map_rules 33 blocks slot first map ++ map_rules 33 blocks slot (count - first) other = two_maps blocks slot r map other count first m2 n most f in (
      ap (first_broken used) rules
          ∙ goes_on used between (map_rules 33 blocks slot first map) (map_rules 33 blocks slot (count - first) other) a.0 a.1.used
          ∙ b.0,
      record {
        used =
            b.1.used ∙ ap (λ us. us ++ used_by (map_rules 33 blocks slot (count - first) other)) a.1.used
            ∙ append_assoc used (used_by (map_rules 33 blocks slot first map)) (used_by (map_rules 33 blocks slot (count - first) other))
            ∙ ap (λ us. used ++ us)
            (sym (used_by-append (map_rules 33 blocks slot first map) (map_rules 33 blocks slot (count - first) other)) ∙ ap used_by (sym rules));
        pages_ =
            b.1.pages_ ∙ ap (λ ns. ns ++ numbers_in (block_at blocks other) (count - first))
            (a.1.pages_ ∙ ap (λ ns. ns ++ numbers_in (block_at blocks map) first) empty)
            ∙ sym (two_numbers blocks r map other count first m2 n most f);
      },
    )
