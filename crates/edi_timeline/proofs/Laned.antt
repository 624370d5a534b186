-- The lanes of rows, and what they are of the stints.
use Rattle.std.proofs.Common.{◌≡◌, ◌≤◌, ◌<◌, ℕ, zero, suc, ◌+◌, ◌-◌, ◌==◌, Bool, true, false, not, ◌||◌, if◌then◌else◌, List, [], ◌∷◌, ◌++◌, refl, ap, sym, ◌∙◌}
use Rattle.std.proofs.Common.{arith, length, map, drop}
use Rattle.std.specs.Prelude.{slice_index_or, take}
use Rattle.std.proofs.lemmas.Bool.{ne_eqb, eq-eqb}
use Rattle.std.proofs.lemmas.List.{map-append, length-map}
use Rattle.edi_calls.specs.Names.{Name, same}
use Rattle.edi_calls.specs.Ready.{has}
use Rattle.edi_kernel.specs.declared.ends.Ending.{Ending}
use Rattle.edi_timeline.specs.declared.rows.Row.{Row}
use Rattle.edi_timeline.specs.Picture.{lanes_behind, with_lane, lane_of}
use Rattle.edi_timeline.specs.Told.{process_in, row_at, no_row, stints_in}

-- what is left of a list begins with its item
pub first_left : {A : Type 0} (xs : List A) (k : ℕ) (d : A) → k < length xs → drop k xs ≡ slice_index_or xs k d ∷ drop (suc k) xs
first_left [] k d l = absurd (omega (arith, l))
first_left (x ∷ xs) zero d l = refl
first_left (x ∷ xs) (suc k) d l = first_left xs k d (omega (arith, l))

pub none_left : {A : Type 0} (xs : List A) (k : ℕ) → length xs ≤ k → drop k xs ≡ []
none_left [] zero l = refl
none_left [] (suc k) l = refl
none_left (x ∷ xs) zero l = absurd (omega (arith, l))
none_left (x ∷ xs) (suc k) l = none_left xs k (omega (arith, l))

-- ---- the lane of a process

module _ (rows : List Row) where
  abbrev Named : List Row → List Name
  Named lanes = map (process_in rows) lanes

  found_at : (lanes : List Row) (p : Name) (k : ℕ) (d : Row) → k < length lanes → same p (process_in rows (slice_index_or lanes k d)) ≡ true →
      lane_of (Named (drop k lanes)) p ≡ 0
  found_at lanes p k d l e =
      ap (λ ls. lane_of (Named ls) p) (first_left lanes k d l) ∙ ap (λ b. if b then 0 else suc (lane_of (Named (drop (suc k) lanes)) p)) e

  pub lane_found : (lanes : List Row) (p : Name) (k : ℕ) (d : Row) (lane whole : ℕ) (b : Bool) → k < length lanes →
      b ≡ same p (process_in rows (slice_index_or lanes k d)) → b ≡ true → lane + lane_of (Named (drop k lanes)) p ≡ whole → lane ≡ whole
  lane_found lanes p k d lane whole b l is e f =
      let g : lane_of (Named (drop k lanes)) p ≡ 0 = found_at lanes p k d l (sym is ∙ e) in omega (arith, f, g)

  pub lane_next : (lanes : List Row) (p : Name) (k : ℕ) (d : Row) (lane whole : ℕ) (b : Bool) → k < length lanes →
      b ≡ same p (process_in rows (slice_index_or lanes k d)) → b ≡ false → lane + lane_of (Named (drop k lanes)) p ≡ whole →
      (lane + 1) + lane_of (Named (drop (k + 1) lanes)) p ≡ whole
  lane_next lanes p k d lane whole b l is e f =
      let next : k + 1 ≡ suc k = omega arith in
      let g : lane_of (Named (drop k lanes)) p ≡ suc (lane_of (Named (drop (suc k) lanes)) p) =
      ap (λ ls. lane_of (Named ls) p) (first_left lanes k d l)
      ∙ ap (λ b. if b then 0 else suc (lane_of (Named (drop (suc k) lanes)) p)) (sym is ∙ e) in
      ap (λ j. (lane + 1) + lane_of (Named (drop j lanes)) p) next ∙ omega (arith, f, g)

  pub lane_none : (lanes : List Row) (p : Name) (k lane whole : ℕ) → length lanes ≤ k → lane + lane_of (Named (drop k lanes)) p ≡ whole → lane ≡ whole
  lane_none lanes p k lane whole l f =
      let g : lane_of (Named (drop k lanes)) p ≡ 0 = ap (λ ls. lane_of (Named ls) p) (none_left lanes k l) in omega (arith, f, g)

pub lane_most : (names : List Name) (p : Name) → lane_of names p ≤ length names
lane_most [] p = omega arith
lane_most (q ∷ names) p = go (same p q) (lane_most names p)
  where
    go : (b : Bool) → lane_of names p ≤ length names → (if b then 0 else suc (lane_of names p)) ≤ suc (length names)
    go true l = omega arith
    go false l = omega (arith, l)

-- a process has a lane where its number is below that of the lanes
pub has_lane : (names : List Name) (p : Name) → lane_of names p < length names → has names p ≡ true
has_lane [] p l = absurd (omega (arith, l))
has_lane (q ∷ names) p l = go (same p q) l (has_lane names p)
  where
    go : (b : Bool) → (if b then 0 else suc (lane_of names p)) < suc (length names) → (lane_of names p < length names → has names p ≡ true) → b || has names p ≡ true
    go true l h = refl
    go false l h = h (omega (arith, l))

pub no_lane : (names : List Name) (p : Name) → (lane_of names p < length names → ⊥) → has names p ≡ false
no_lane [] p n = refl
no_lane (q ∷ names) p n = go (same p q) n (no_lane names p)
  where
    go : (b : Bool) → ((if b then 0 else suc (lane_of names p)) < suc (length names) → ⊥) → ((lane_of names p < length names → ⊥) → has names p ≡ false) →
        b || has names p ≡ false
    go true n h = absurd (n (omega arith))
    go false n h = h (λ l. n (omega (arith, l)))

module _ (rows : List Row) (lanes : List Row) (r : Row) (lane : ℕ) (is : lane ≡ lane_of (map (process_in rows) lanes) (process_in rows r)) where
  there : lane < length lanes → lane_of (map (process_in rows) lanes) (process_in rows r) < length (map (process_in rows) lanes)
  there l = omega (arith, l, is, length-map lanes (process_in rows))

  back : lane_of (map (process_in rows) lanes) (process_in rows r) < length (map (process_in rows) lanes) → lane < length lanes
  back l = omega (arith, l, is, length-map lanes (process_in rows))

  pub lane_kept : lane < length lanes → map (process_in rows) lanes ≡ with_lane (map (process_in rows) lanes) (process_in rows r)
  lane_kept l =
      let names : List Name = map (process_in rows) lanes in
      sym (ap (λ b. if b then names else names ++ process_in rows r ∷ []) (has_lane names (process_in rows r) (there l)))

  pub lane_new : (now : List Row) → (lane < length lanes → ⊥) → now ≡ lanes ++ r ∷ [] →
      map (process_in rows) now ≡ with_lane (map (process_in rows) lanes) (process_in rows r)
  lane_new now n e =
      let names : List Name = map (process_in rows) lanes in
      ap (map (process_in rows)) e
      ∙ map-append (process_in rows) lanes (r ∷ [])
      ∙ sym (ap (λ b. if b then names else names ++ process_in rows r ∷ []) (no_lane names (process_in rows r) (λ l. n (back l))))

-- ---- the lanes of rows

module _ (rows : List Row) where
  abbrev pub lanes_over : (lanes : List Name) → List Row → List Name
  lanes_over lanes [] = lanes
  lanes_over lanes (r ∷ rs) = lanes_over (with_lane lanes (process_in rows r)) rs

  lanes_are : (e : Ending) (used : ℕ) (lanes : List Name) (rs : List Row) → lanes_over lanes rs ≡ lanes_behind lanes (stints_in e rows used rs)
  lanes_are e used lanes [] = refl
  lanes_are e used lanes (r ∷ rs) = lanes_are e r.used (with_lane lanes (process_in rows r)) rs

  pub lanes_more : (few : List Row) (k : ℕ) (d : Row) (old now whole : List Name) → k < length few →
      now ≡ with_lane old (process_in rows (slice_index_or few k d)) → lanes_over old (drop k few) ≡ whole → lanes_over now (drop (k + 1) few) ≡ whole
  lanes_more few k d old now whole l e f =
      let next : k + 1 ≡ suc k = omega arith in
      ap (λ ns. lanes_over ns (drop (k + 1) few)) e
      ∙ ap (λ j. lanes_over (with_lane old (process_in rows (slice_index_or few k d))) (drop j few)) next
      ∙ sym (ap (lanes_over old) (first_left few k d l))
      ∙ f

  pub lanes_whole : (few : List Row) (k : ℕ) (lanes : List Name) → length few ≤ k → lanes_over lanes (drop k few) ≡ lanes_over [] few →
      (e : Ending) → lanes ≡ lanes_behind [] (stints_in e rows 0 few)
  lanes_whole few k lanes l f e = ap (lanes_over lanes) (sym (none_left few k l)) ∙ f ∙ lanes_are e 0 [] few
