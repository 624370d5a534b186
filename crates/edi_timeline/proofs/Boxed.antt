-- The line to a box, and the boxes of rows one after another.
use Rattle.std.proofs.Common.{◌≡◌, ◌≤◌, ◌<◌, ℕ, zero, suc, ◌+◌, ◌-◌, Bool, true, false, if◌then◌else◌, List, [], ◌∷◌, ◌++◌, refl, ap, sym, ◌∙◌}
use Rattle.std.proofs.Common.{arith, length, map, drop, append_assoc, append-nil}
use Rattle.std.specs.Prelude.{take, slice_index_or, codes, Option}
use Rattle.edi_calls.specs.Names.{Name, same}
use Rattle.edi_calls.specs.Ready.{parent_of}
use Rattle.edi_kernel.specs.declared.ends.Ending.{Ending}
use Rattle.edi_kernel.specs.declared.ends.Ending.TheVariants as ending
use Rattle.edi_timeline.specs.declared.rows.Row.{Row}
use Rattle.edi_timeline.specs.declared.rows.Kind.{Kind}
use Rattle.edi_timeline.specs.declared.rows.Kind.TheVariants as kind
use Rattle.edi_calls.specs.Outcome as outcome
use Rattle.edi_timeline.specs.Stints.{Stint, Start, arrives}
use Rattle.edi_timeline.specs.Picture.{line_kind, line_back, line_to, line_of, line_on, lines_on, box, boxes, box_text, ink, inside, lane_of, lane_name, lane_names, lanes_of, most_boxes}
use Rattle.edi_timeline.specs.Picture.{opened, width, lane_y}
use Rattle.edi_timeline.specs.Picture.{headed, body, drawn, picture_of}
use Rattle.edi_timeline.specs.Told.{process_in, row_at, no_row, used_before, stint_in, stint_at, stints_before, stints_in, end_as}
use Rattle.edi_timeline.proofs.Laned.{first_left, none_left}
use Rattle.edi_timeline.proofs.Counting.{as_many}
use Rattle.std.proofs.lemmas.List.{length-map}

same_kind : (e : Ending) (r : Row) (k : Kind) → line_kind (end_as ending.Done no_row k) ≡ line_kind (end_as e r k)
same_kind e r kind.Arrives = refl
same_kind e r kind.Waits = refl
same_kind e r kind.Tries = refl
same_kind e r kind.Forks = refl
same_kind e r kind.Ends = refl
same_kind e r kind.Over = refl

same_back : (e : Ending) (r : Row) (k : Kind) (n : ℕ) → line_back (end_as ending.Done no_row k) n ≡ line_back (end_as e r k) n
same_back e r kind.Arrives n = refl
same_back e r kind.Waits n = refl
same_back e r kind.Tries n = refl
same_back e r kind.Forks n = refl
same_back e r kind.Ends n = refl
same_back e r kind.Over n = refl

same_ink : (e : Ending) (r : Row) (k : Kind) → ink (end_as ending.Done r k) ≡ ink (end_as e r k)
same_ink e r kind.Arrives = refl
same_ink e r kind.Waits = refl
same_ink e r kind.Tries = refl
same_ink e r kind.Forks = refl
same_ink e r kind.Ends = refl
same_ink e r kind.Over = refl

pub same_inside : (e : Ending) (r : Row) (from : Start) → inside (end_as ending.Done r r.kind) from ≡ inside (end_as e r r.kind) from
same_inside e r from =
    ap (λ i. codes "<text x=\"16\" y=\"17\" fill=\"" ++ (i ++ (codes "\">" ++ (box_text from ++ codes "</text>")))) (same_ink e r r.kind)

module _ (e : Ending) (rows few : List Row) (p : Name) where
  abbrev Back : (n : ℕ) (index : ℕ) → List ℕ
  Back n index = line_to p n (stints_before e rows few index)

  abbrev Tried : (one other : Bool) → (r : Row) → (n at : ℕ) → List ℕ
  Tried one other r n at = if one then line_back (end_as e r r.kind) n else if other then line_back (arrives []) n else Back (suc n) at

  tries : (n at : ℕ) → let r : Row = row_at few at in
      Back n (suc at) ≡ Tried (same (process_in rows r) p) (same (process_in rows r) (parent_of p)) r n at
  tries n at = refl

  -- the box that is so far back
  module _ (index back : ℕ) (within : back < index) (r : Row) (is : r ≡ row_at few (index - 1 - back)) where
    reached : Back (suc back) (index - back) ≡ Tried (same (process_in rows r) p) (same (process_in rows r) (parent_of p)) r (suc back) (index - 1 - back)
    reached =
        let one : index - back ≡ suc (index - 1 - back) = omega (arith, within) in
        ap (Back (suc back)) one
        ∙ tries (suc back) (index - 1 - back)
        ∙ ap (λ x. Tried (same (process_in rows x) p) (same (process_in rows x) (parent_of p)) x (suc back) (index - 1 - back)) (sym is)

    pub found_here : (b : Bool) → b ≡ same (process_in rows r) p → b ≡ true → Back (suc back) (index - back) ≡ Back 1 index →
        line_back (end_as ending.Done no_row r.kind) (back + 1) ≡ Back 1 index
    found_here b f g whole =
        let n : back + 1 ≡ suc back = omega arith in
        same_back e r r.kind (back + 1)
        ∙ ap (line_back (end_as e r r.kind)) n
        ∙ sym (reached ∙ ap (λ c. Tried c (same (process_in rows r) (parent_of p)) r (suc back) (index - 1 - back)) (sym f ∙ g))
        ∙ whole

    pub parent_here : (b c : Bool) → b ≡ same (process_in rows r) p → b ≡ false → c ≡ same (process_in rows r) (parent_of p) → c ≡ true →
        Back (suc back) (index - back) ≡ Back 1 index → line_back (end_as ending.Done no_row kind.Arrives) (back + 1) ≡ Back 1 index
    parent_here b c f g h i whole =
        let n : back + 1 ≡ suc back = omega arith in
        ap (line_back (arrives [])) n
        ∙ sym (reached ∙ ap (λ x. Tried x (same (process_in rows r) (parent_of p)) r (suc back) (index - 1 - back)) (sym f ∙ g)
        ∙ ap (λ x. Tried false x r (suc back) (index - 1 - back)) (sym h ∙ i))
        ∙ whole

    pub further_back : (b c : Bool) → b ≡ same (process_in rows r) p → b ≡ false → c ≡ same (process_in rows r) (parent_of p) → c ≡ false →
        Back (suc back) (index - back) ≡ Back 1 index → Back (suc (back + 1)) (index - (back + 1)) ≡ Back 1 index
    further_back b c f g h i whole =
        let n : back + 1 ≡ suc back = omega arith in
        let left : index - (back + 1) ≡ index - 1 - back = omega arith in
        ap (λ m. Back (suc m) (index - (back + 1))) n
        ∙ ap (Back (suc (suc back))) left
        ∙ sym (reached ∙ ap (λ x. Tried x (same (process_in rows r) (parent_of p)) r (suc back) (index - 1 - back)) (sym f ∙ g)
        ∙ ap (λ x. Tried false x r (suc back) (index - 1 - back)) (sym h ∙ i))
        ∙ whole

-- ---- the line from the last stint of a process

module _ (e : Ending) (rows few : List Row) (p : Name) where
  abbrev Own : (n : ℕ) (index : ℕ) → List ℕ
  Own n index = line_of p n (stints_before e rows few index)

  abbrev Owned : (one : Bool) → (r : Row) → (n at : ℕ) → List ℕ
  Owned one r n at = if one then line_back (end_as e r r.kind) n else Own (suc n) at

  owns : (n at : ℕ) → let r : Row = row_at few at in Own n (suc at) ≡ Owned (same (process_in rows r) p) r n at
  owns n at = refl

  module _ (index back : ℕ) (within : back < index) (r : Row) (is : r ≡ row_at few (index - 1 - back)) where
    own_reached : Own (suc back) (index - back) ≡ Owned (same (process_in rows r) p) r (suc back) (index - 1 - back)
    own_reached =
        let one : index - back ≡ suc (index - 1 - back) = omega (arith, within) in
        ap (Own (suc back)) one
        ∙ owns (suc back) (index - 1 - back)
        ∙ ap (λ x. Owned (same (process_in rows x) p) x (suc back) (index - 1 - back)) (sym is)

    pub own_here : (b : Bool) → b ≡ same (process_in rows r) p → b ≡ true → Own (suc back) (index - back) ≡ Own 1 index →
        line_back (end_as ending.Done no_row r.kind) (back + 1) ≡ Own 1 index
    own_here b f g whole =
        let n : back + 1 ≡ suc back = omega arith in
        same_back e r r.kind (back + 1)
        ∙ ap (line_back (end_as e r r.kind)) n
        ∙ sym (own_reached ∙ ap (λ c. Owned c r (suc back) (index - 1 - back)) (sym f ∙ g))
        ∙ whole

    pub own_further : (b : Bool) → b ≡ same (process_in rows r) p → b ≡ false → Own (suc back) (index - back) ≡ Own 1 index →
        Own (suc (back + 1)) (index - (back + 1)) ≡ Own 1 index
    own_further b f g whole =
        let n : back + 1 ≡ suc back = omega arith in
        let left : index - (back + 1) ≡ index - 1 - back = omega arith in
        ap (λ m. Own (suc m) (index - (back + 1))) n
        ∙ ap (Own (suc (suc back))) left
        ∙ sym (own_reached ∙ ap (λ c. Owned c r (suc back) (index - 1 - back)) (sym f ∙ g))
        ∙ whole

-- ---- the boxes

module _ (e : Ending) (rows few : List Row) (lanes : List Name) where
  abbrev Box : ℕ → List ℕ
  Box k =
      let x : Stint = stint_at e rows few k in
      box (suc k) (lane_of lanes x.process) (line_to x.process 1 (stints_before e rows few k)) x

  abbrev Boxes : ℕ → List ℕ
  Boxes k = boxes lanes (suc k) (stints_before e rows few k) (stints_in e rows (used_before few k) (drop k few))

  pub box_on : (k : ℕ) (out now : List ℕ) → k < length few → now ≡ out ++ Box k → now ++ Boxes (k + 1) ≡ out ++ Boxes k
  box_on k out now l f =
      let next : k + 1 ≡ suc k = omega arith in
      ap (λ j. now ++ Boxes j) next
      ∙ ap (λ o. o ++ Boxes (suc k)) f
      ∙ append_assoc out (Box k) (Boxes (suc k))
      ∙ ap (λ xs. out ++ boxes lanes (suc k) (stints_before e rows few k) (stints_in e rows (used_before few k) xs)) (sym (first_left few k no_row l))

  -- behind the last box come the lines that go on
  pub boxes_done : (k : ℕ) (out whole : List ℕ) → k ≡ length few → out ++ Boxes k ≡ whole →
      out ++ lines_on (length few) 0 lanes (stints_before e rows few (length few)) ≡ whole
  boxes_done k out whole l f =
      let n : k ≡ suc k - 1 = omega arith in
      ap (λ j. out ++ lines_on j 0 lanes (stints_before e rows few j)) (sym l)
      ∙ ap (λ j. out ++ lines_on j 0 lanes (stints_before e rows few k)) n
      ∙ ap (λ xs. out ++ boxes lanes (suc k) (stints_before e rows few k) (stints_in e rows (used_before few k) xs)) (sym (none_left few k (omega (arith, l))))
      ∙ f

-- ---- the names of the lanes

module _ (rows : List Row) where
  abbrev Names : ℕ → List Row → List ℕ
  Names k lanes = lane_names k (map (process_in rows) lanes)

  pub name_on : (lanes : List Row) (k : ℕ) (d : Row) (out now : List ℕ) → k < length lanes →
      now ≡ out ++ lane_name k (process_in rows (slice_index_or lanes k d)) →
      now ++ Names (k + 1) (drop (k + 1) lanes) ≡ out ++ Names k (drop k lanes)
  name_on lanes k d out now l f =
      let next : k + 1 ≡ suc k = omega arith in
      ap (λ j. now ++ Names j (drop j lanes)) next
      ∙ ap (λ o. o ++ Names (suc k) (drop (suc k) lanes)) f
      ∙ append_assoc out (lane_name k (process_in rows (slice_index_or lanes k d))) (Names (suc k) (drop (suc k) lanes))
      ∙ ap (λ xs. out ++ Names k xs) (sym (first_left lanes k d l))

  pub names_done : (lanes : List Row) (k : ℕ) (out whole : List ℕ) → length lanes ≤ k → out ++ Names k (drop k lanes) ≡ whole → out ≡ whole
  names_done lanes k out whole l f = sym (append-nil out) ∙ ap (λ xs. out ++ Names k xs) (sym (none_left lanes k l)) ∙ f

-- ---- the lines that go on

module _ (rows : List Row) (columns : ℕ) (before : List Stint) where
  abbrev Lines : ℕ → List Row → List ℕ
  Lines k lanes = lines_on columns k (map (process_in rows) lanes) before

  pub line_goes : (lanes : List Row) (k : ℕ) (d : Row) (out now : List ℕ) → k < length lanes →
      now ≡ out ++ line_on columns k (process_in rows (slice_index_or lanes k d)) before →
      now ++ Lines (k + 1) (drop (k + 1) lanes) ≡ out ++ Lines k (drop k lanes)
  line_goes lanes k d out now l f =
      let next : k + 1 ≡ suc k = omega arith in
      ap (λ j. now ++ Lines j (drop j lanes)) next
      ∙ ap (λ o. o ++ Lines (suc k) (drop (suc k) lanes)) f
      ∙ append_assoc out (line_on columns k (process_in rows (slice_index_or lanes k d)) before) (Lines (suc k) (drop (suc k) lanes))
      ∙ ap (λ xs. out ++ Lines k xs) (sym (first_left lanes k d l))

  pub lines_done : (lanes : List Row) (k : ℕ) (out whole : List ℕ) → length lanes ≤ k → out ++ Lines k (drop k lanes) ≡ whole → out ≡ whole
  lines_done lanes k out whole l f = sym (append-nil out) ∙ ap (λ xs. out ++ Lines k xs) (sym (none_left lanes k l)) ∙ f

-- ---- the first of all

pub taken_rows : (e : Ending) (rows : List Row) (n used : ℕ) (rs : List Row) → take n (stints_in e rows used rs) ≡ stints_in e rows used (take n rs)
taken_rows e rows zero used [] = refl
taken_rows e rows zero used (r ∷ rs) = refl
taken_rows e rows (suc n) used [] = refl
taken_rows e rows (suc n) used (r ∷ rs) = ap (λ xs. stint_in e rows (suc used) r ∷ xs) (taken_rows e rows n r.used rs)

-- ---- the whole

pub whole : (e : Ending) (how : Option outcome.Ending) (rows few lanes : List Row) (count : ℕ) (one two three : List ℕ) → few ≡ take 1000 rows →
    map (process_in rows) lanes ≡ lanes_of (stints_in e rows 0 few) → one ≡ opened (width (length few)) (lane_y (length lanes) + 156) →
    two ≡ one ++ headed count how → three ≡ two ++ body (map (process_in rows) lanes) (stints_in e rows 0 few) →
    three ≡ picture_of count how (stints_in e rows 0 rows)
whole e how rows few lanes count one two three f g h i j =
    let xs : List Stint = stints_in e rows 0 few in
    let names : List Name = map (process_in rows) lanes in
    let as_many_lanes : length lanes ≡ length (lanes_of xs) = sym (length-map lanes (process_in rows)) ∙ ap length g in
    j
    ∙ ap (λ o. o ++ body names xs) (i ∙ ap (λ o. o ++ headed count how) h)
    ∙ append_assoc (opened (width (length few)) (lane_y (length lanes) + 156)) (headed count how) (body names xs)
    ∙ (λ k. opened (width (sym (as_many e rows 0 few) k)) (lane_y (as_many_lanes k) + 156) ++ (headed count how ++ body (g k) xs))
    ∙ sym (ap (λ fs. drawn count how (lanes_of fs) fs) (taken_rows e rows most_boxes 0 rows ∙ ap (stints_in e rows 0) (sym f)))

-- ---- the first rows

pub exactly : {A : Type 0} (n : ℕ) (xs : List A) → n ≤ length xs → n ≡ length (take n xs)
exactly zero [] l = refl
exactly zero (x ∷ xs) l = refl
exactly (suc n) [] l = absurd (omega (arith, l))
exactly (suc n) (x ∷ xs) l = ap suc (exactly n xs (omega (arith, l)))

pub at_most : {A : Type 0} (n : ℕ) (xs : List A) → length (take n xs) ≤ n
at_most zero [] = omega arith
at_most zero (x ∷ xs) = omega arith
at_most (suc n) [] = omega arith
at_most (suc n) (x ∷ xs) = let l : length (take n xs) ≤ n = at_most n xs in omega (arith, l)
