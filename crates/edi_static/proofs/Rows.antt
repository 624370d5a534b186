-- The rows of procedures that are begun.
use Rattle.std.proofs.Common.{◌≡◌, ℕ, zero, suc, ◌+◌, ◌≤◌, Bool, true, false, not, ◌&&◌, List, [], ◌∷◌, ◌++◌, length, set, get_or, Option, Some, None}
use Rattle.std.proofs.Common.{refl, sym, ap, subst, ◌∙◌, arith, if◌then◌else◌, unwrap_or}
use Rattle.std.proofs.lemmas.List.{length-append, append_assoc}
use Rattle.std.specs.Cmp.Lexicographic.{bytes_decides}
use Rattle.std.specs.Prelude.{option_map, slice_get}
use Rattle.std.specs.Str.{bytes_eq}
use Rattle.edi_static.specs.declared.splits.Row.{Row}
use Rattle.edi_static.specs.declared.places.Places.{Places}
use Rattle.edi_static.specs.Environment.{Begun}
use Rattle.edi_static.specs.Declarations.{begun_named, without_begun}
use Rattle.edi_static.specs.Waiting.{ArePlaced, waiting, waits_as, places_from, listed, ended, ended_at, ended_all, block_at, procedure_of}

-- ---- a row in the midst

at_front : (front : List Row) (r : Row) (rows : List Row) → slice_get (front ++ r ∷ rows) (length front) ≡ Some r
at_front [] r rows = refl
at_front (x ∷ front) r rows = at_front front r rows

ended-front : (front : List Row) (r : Row) (rows : List Row) → ended_at (length front) (front ++ r ∷ rows) ≡ front ++ ended r ∷ rows
ended-front [] r rows = refl
ended-front (x ∷ front) r rows = ap (λ rs. x ∷ rs) (ended-front front r rows)

further : (front : List Row) (r : Row) (at : ℕ) → at ≡ length front → suc at ≡ length (front ++ r ∷ [])
further front r at l = omega (arith, l, length-append front (r ∷ []))

-- ---- the procedure of a name

abbrev named_block : List Begun → List ℕ → Option ℕ
named_block bs name = option_map (λ b. b.block) (begun_named bs name)

module _ (name : List ℕ) (r : Row) (rows : List Row) (at : ℕ) where
  abbrev places_with : (waits same : Bool) → List ℕ
  places_with waits same = if waits && same then at ∷ places_from (suc at) rows name else places_from (suc at) rows name

  abbrev waiting_with : (waits : Bool) → List Begun
  waiting_with waits = if waits then procedure_of r ∷ waiting rows else waiting rows

  passed : (same : Bool) → bytes_eq r.name.text name ≡ same → same ≡ false → named_block (waiting rows) name ≡ named_block (procedure_of r ∷ waiting rows) name
  passed same s n = ap (λ b. option_map (λ b. b.block) (if b then Some (procedure_of r) else begun_named (waiting rows) name)) (sym (s ∙ n))

  none_step : (waits same : Bool) → bytes_eq r.name.text name ≡ same → None ≡ slice_get (places_with waits same) 0 →
      (None ≡ slice_get (places_from (suc at) rows name) 0 → None ≡ named_block (waiting rows) name) → None ≡ named_block (waiting_with waits) name
  none_step true true s e inner = absurd (cc)
  none_step true false s e inner = inner e ∙ passed false s refl
  none_step false same s e inner = inner e

  found_step : (front : List Row) (place : ℕ) (waits same : Bool) → at ≡ length front → bytes_eq r.name.text name ≡ same →
      Some place ≡ slice_get (places_with waits same) 0 →
      (Some place ≡ slice_get (places_from (suc at) rows name) 0 → block_at (front ++ r ∷ rows) place ≡ named_block (waiting rows) name) →
      block_at (front ++ r ∷ rows) place ≡ named_block (waiting_with waits) name
  found_step front place true true l s e inner =
      ap (block_at (front ++ r ∷ rows)) (ap (λ o. unwrap_or o 0) e ∙ l) ∙ ap (option_map (λ r. r.block)) (at_front front r rows)
      ∙ ap (λ b. option_map (λ b. b.block) (if b then Some (procedure_of r) else begun_named (waiting rows) name)) (sym s)
  found_step front place true false l s e inner = inner e ∙ passed false s refl
  found_step front place false same l s e inner = inner e

-- no place is kept for a name that none has who waits
pub none_found : (name : List ℕ) (rows : List Row) (at : ℕ) → None ≡ slice_get (places_from at rows name) 0 → None ≡ named_block (waiting rows) name
none_found name [] at e = refl
none_found name (r ∷ rows) at e = none_step name r rows at r.waits (bytes_eq r.name.text name) refl e (none_found name rows (suc at))

-- the first place that is kept for a name is that of the first who waits
pub found : (name : List ℕ) (front rows : List Row) (at place : ℕ) → at ≡ length front → Some place ≡ slice_get (places_from at rows name) 0 →
    block_at (front ++ rows) place ≡ named_block (waiting rows) name
found name front [] at place l e = absurd (cc)
found name front (r ∷ rows) at place l e =
    found_step name r rows at front place r.waits (bytes_eq r.name.text name) l refl e
    (λ later. ap (λ all. block_at all place) (sym (append_assoc front (r ∷ []) rows))
    ∙ found name (front ++ r ∷ []) rows (suc at) place (further front r at l) later)

-- ---- one more that waits

pub waiting-put : (rows : List Row) (r : Row) → r.waits ≡ true → waiting (rows ++ r ∷ []) ≡ waiting rows ++ procedure_of r ∷ []
waiting-put [] r e = ap (λ b. if b then procedure_of r ∷ [] else []) e
waiting-put (x ∷ rows) r e =
    ap (λ bs. if x.waits then procedure_of x ∷ bs else bs) (waiting-put rows r e) ∙ by x.waits
  where
    by : (b : Bool) → (if b then procedure_of x ∷ (waiting rows ++ procedure_of r ∷ []) else waiting rows ++ procedure_of r ∷ [])
        ≡ (if b then procedure_of x ∷ waiting rows else waiting rows) ++ procedure_of r ∷ []
    by true = refl
    by false = refl

places-put : (at : ℕ) (rows : List Row) (r : Row) (name : List ℕ) → r.waits ≡ true → places_from at (rows ++ r ∷ []) name
    ≡ (if bytes_eq r.name.text name then places_from at rows name ++ (at + length rows) ∷ [] else places_from at rows name)
places-put at [] r name e =
    ap (λ b. if b && bytes_eq r.name.text name then at ∷ [] else []) e
    ∙ (let none : at ≡ at + 0 = omega arith in ap (λ n. if bytes_eq r.name.text name then n ∷ [] else []) none)
places-put at (x ∷ rows) r name e =
    ap (λ ps. if waits_as name x then at ∷ ps else ps) (places-put (suc at) rows r name e) ∙ by (waits_as name x) (bytes_eq r.name.text name) (omega arith)
  where
    by : (b same : Bool) → suc at + length rows ≡ at + suc (length rows) →
        (if b then at ∷ (if same then places_from (suc at) rows name ++ (suc at + length rows) ∷ [] else places_from (suc at) rows name)
        else (if same then places_from (suc at) rows name ++ (suc at + length rows) ∷ [] else places_from (suc at) rows name))
        ≡ (if same then (if b then at ∷ places_from (suc at) rows name else places_from (suc at) rows name) ++ (at + suc (length rows)) ∷ []
        else (if b then at ∷ places_from (suc at) rows name else places_from (suc at) rows name))
    by true true n = ap (λ n. at ∷ (places_from (suc at) rows name ++ n ∷ [])) n
    by true false n = refl
    by false true n = ap (λ n. places_from (suc at) rows name ++ n ∷ []) n
    by false false n = refl

pub placed-put : (old new : Places) (rows : List Row) (r : Row) (name : List ℕ) (place : ℕ) → ArePlaced old rows → r.waits ≡ true → r.name.text ≡ name →
    place ≡ length rows →
    ((q : List ℕ) → listed new q ≡ (if bytes_eq name q then listed old q ++ place ∷ [] else listed old q)) → ArePlaced new (rows ++ r ∷ [])
placed-put old new rows r name place kept waits same p put q =
    let counted : length rows ≡ 0 + length rows = omega arith in
    put q ∙ ap (λ ps. if bytes_eq name q then ps ++ place ∷ [] else ps) (kept q)
    ∙ ap (λ n. if bytes_eq name q then places_from 0 rows q ++ n ∷ [] else places_from 0 rows q) (p ∙ counted)
    ∙ ap (λ n. if bytes_eq n q then places_from 0 rows q ++ (0 + length rows) ∷ [] else places_from 0 rows q) (sym same)
    ∙ sym (places-put 0 rows r q waits)

-- ---- those of a name no longer wait

abbrev ended_if : Bool → Row → Row
ended_if b r = if b then ended r else r

abbrev ended_as : List ℕ → List Row → List Row
ended_as name [] = []
ended_as name (r ∷ rows) = ended_if (waits_as name r) r ∷ ended_as name rows

all-ended : (name : List ℕ) (front rows : List Row) (at : ℕ) → at ≡ length front →
    ended_all (places_from at rows name) (front ++ rows) ≡ front ++ ended_as name rows
all-ended name front [] at l = refl
all-ended name front (r ∷ rows) at l =
    by (waits_as name r) (all-ended name (front ++ ended r ∷ []) rows (suc at) (further front (ended r) at l))
    (all-ended name (front ++ r ∷ []) rows (suc at) (further front r at l))
  where
    by : (b : Bool) →
        ended_all (places_from (suc at) rows name) ((front ++ ended r ∷ []) ++ rows) ≡ (front ++ ended r ∷ []) ++ ended_as name rows →
        ended_all (places_from (suc at) rows name) ((front ++ r ∷ []) ++ rows) ≡ (front ++ r ∷ []) ++ ended_as name rows →
        ended_all (if b then at ∷ places_from (suc at) rows name else places_from (suc at) rows name) (front ++ r ∷ rows)
        ≡ front ++ ended_if b r ∷ ended_as name rows
    by true with_ended as_was =
        ap (λ n. ended_all (places_from (suc at) rows name) (ended_at n (front ++ r ∷ rows))) l
        ∙ ap (ended_all (places_from (suc at) rows name)) (ended-front front r rows ∙ sym (append_assoc front (ended r ∷ []) rows)) ∙ with_ended
        ∙ append_assoc front (ended r ∷ []) (ended_as name rows)
    by false with_ended as_was =
        ap (ended_all (places_from (suc at) rows name)) (sym (append_assoc front (r ∷ []) rows)) ∙ as_was ∙ append_assoc front (r ∷ []) (ended_as name rows)

waiting-ended : (name : List ℕ) (rows : List Row) → waiting (ended_as name rows) ≡ without_begun name (waiting rows)
waiting-ended name [] = refl
waiting-ended name (r ∷ rows) = by r.waits (bytes_eq r.name.text name) refl refl (waiting-ended name rows)
  where
    by : (waits same : Bool) → r.waits ≡ waits → bytes_eq r.name.text name ≡ same → waiting (ended_as name rows) ≡ without_begun name (waiting rows) →
        waiting (ended_if (waits && same) r ∷ ended_as name rows) ≡ without_begun name (if waits then procedure_of r ∷ waiting rows else waiting rows)
    by true true w s e =
        e ∙ ap (λ b. if not b then procedure_of r ∷ without_begun name (waiting rows) else without_begun name (waiting rows)) (sym s)
    by true false w s e =
        ap (λ b. if b then procedure_of r ∷ waiting (ended_as name rows) else waiting (ended_as name rows)) w ∙ ap (λ bs. procedure_of r ∷ bs) e
        ∙ ap (λ b. if not b then procedure_of r ∷ without_begun name (waiting rows) else without_begun name (waiting rows)) (sym s)
    by false same w s e = ap (λ b. if b then procedure_of r ∷ waiting (ended_as name rows) else waiting (ended_as name rows)) w ∙ e

none-ended : (name : List ℕ) (rows : List Row) (at : ℕ) → places_from at (ended_as name rows) name ≡ []
none-ended name [] at = refl
none-ended name (r ∷ rows) at = by (waits_as name r) refl (none-ended name rows (suc at))
  where
    by : (b : Bool) → waits_as name r ≡ b → places_from (suc at) (ended_as name rows) name ≡ [] →
        places_from at (ended_if b r ∷ ended_as name rows) name ≡ []
    by true w e = e
    by false w e = ap (λ b. if b then at ∷ places_from (suc at) (ended_as name rows) name else places_from (suc at) (ended_as name rows) name) w ∙ e

others-ended : (name q : List ℕ) (rows : List Row) (at : ℕ) → bytes_eq name q ≡ false → places_from at (ended_as name rows) q ≡ places_from at rows q
others-ended name q [] at n = refl
others-ended name q (r ∷ rows) at n = by r.waits (bytes_eq r.name.text name) refl (others-ended name q rows (suc at) n)
  where
    unlike : bytes_eq r.name.text name ≡ true → bytes_eq r.name.text q ≡ false
    unlike s = subst (λ k. bytes_eq k q ≡ false) (sym ((bytes_decides r.name.text name).0 s)) n

    by : (waits same : Bool) → bytes_eq r.name.text name ≡ same → places_from (suc at) (ended_as name rows) q ≡ places_from (suc at) rows q →
        places_from at (ended_if (waits && same) r ∷ ended_as name rows) q
        ≡ (if r.waits && bytes_eq r.name.text q then at ∷ places_from (suc at) rows q else places_from (suc at) rows q)
    by true true s e =
        e ∙ ap (λ b. if b then at ∷ places_from (suc at) rows q else places_from (suc at) rows q)
        (sym (ap (λ b. r.waits && b) (unlike s) ∙ never r.waits))
      where
        never : (b : Bool) → (b && false) ≡ false
        never true = refl
        never false = refl
    by true false s e = ap (λ ps. if waits_as q r then at ∷ ps else ps) e
    by false same s e = ap (λ ps. if waits_as q r then at ∷ ps else ps) e

-- the procedures of a name have been taken out
pub waiting-left : (old : Places) (rows changed : List Row) (name places : List ℕ) → ArePlaced old rows → places ≡ listed old name →
    changed ≡ ended_all places rows → waiting changed ≡ without_begun name (waiting rows)
waiting-left old rows changed name places kept p c =
    ap waiting (c ∙ ap (λ ps. ended_all ps rows) (p ∙ kept name) ∙ all-ended name [] rows 0 refl) ∙ waiting-ended name rows

pub placed-left : (old new : Places) (rows changed : List Row) (name places : List ℕ) → ArePlaced old rows → places ≡ listed old name →
    changed ≡ ended_all places rows → ((q : List ℕ) → listed new q ≡ (if bytes_eq name q then [] else listed old q)) → ArePlaced new changed
placed-left old new rows changed name places kept p c left q =
    left q ∙ by (bytes_eq name q) refl ∙ sym (ap (λ rs. places_from 0 rs q) (c ∙ ap (λ ps. ended_all ps rows) (p ∙ kept name) ∙ all-ended name [] rows 0 refl))
  where
    by : (b : Bool) → bytes_eq name q ≡ b → (if b then [] else listed old q) ≡ places_from 0 (ended_as name rows) q
    by true s = sym (subst (λ k. places_from 0 (ended_as name rows) k ≡ []) ((bytes_decides name q).0 s) (none-ended name rows 0))
    by false s = kept q ∙ sym (others-ended name q rows 0 s)

-- ---- one row

pub end_within : (rows : List Row) (at : ℕ) (r : Row) → suc at ≤ length rows → r ≡ get_or rows at r → set rows at (ended r) ≡ ended_at at rows
end_within [] at r l e = absurd (omega (arith, l))
end_within (x ∷ rows) zero r l e = ap (λ r. ended r ∷ rows) e
end_within (x ∷ rows) (suc at) r l e = ap (λ rs. x ∷ rs) (end_within rows at r (omega (arith, l)) e)

pub end_beyond : (rows : List Row) (at : ℕ) → length rows ≤ at → rows ≡ ended_at at rows
end_beyond [] at l = refl
end_beyond (x ∷ rows) zero l = absurd (omega (arith, l))
end_beyond (x ∷ rows) (suc at) l = ap (λ rs. x ∷ rs) (end_beyond rows at (omega (arith, l)))
