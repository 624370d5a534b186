-- A file of points, read line by line.
use Rattle.std.proofs.Common.{◌≡◌, ℕ, zero, suc, ◌+◌, ◌<◌, ◌≤◌, Bool, true, false, if◌then◌else◌, List, [], ◌∷◌, ◌++◌, length, map, All, Option, Some, None, refl, sym}
use Rattle.std.proofs.Common.{ap, ◌∙◌, subst, arith, append-nil, append_assoc, length-append}
use Rattle.std.proofs.lemmas.List.{map-append, length-map}
use Rattle.std.specs.Prelude.{nat_le, ◌&&◌}
use Rattle.std.specs.List.{slice_split}
use Rattle.edi_trace.specs.Lines.{number_of}
use Rattle.edi_tree.specs.Tree as text
use Rattle.edi_unit.specs.Tree.{ProgramUnit}
use Rattle.edi_static.specs.Programs.{Resolved, Sound}
use Rattle.edi_sights.specs.Sights.{sights_of}
use Rattle.edi_debug.specs.stops.Stops.{Watched}
use Rattle.edi_debug.specs.stops.Seen.{PointFits, PointsFit}
use Rattle.edi_debug.specs.declared.answer.Point.{Point}
use Rattle.edi_debug.specs.Points.{spelled_by, is_number, is_name, all_seen, seen_at, spelled, point_of, Reading, read, bad_line, with_point, read_rest}
use Rattle.edi_debug.specs.Points.{read_parts, is_line_feed, is_blank, read_of, watched}
use Rattle.edi_debug.proofs.Addresses.{sights_fit}
use Rattle.edi_debug.proofs.Names.{Parts, split_parts, name_is_short}

-- ---- what stands of it

-- points before those of a reading
abbrev pub after_points : List Watched → Reading → Reading
after_points ps (read qs) = read (ps ++ qs)
after_points ps (bad_line n) = bad_line n

one_more : (ps : List Watched) (n : ℕ) (p : Watched) (r : Reading) → after_points ps (with_point n (Some p) r) ≡ after_points (ps ++ p ∷ []) r
one_more ps n p (read qs) = ap read (sym (append_assoc ps (p ∷ []) qs))
one_more ps n p (bad_line k) = refl

pub record PointsStand (tree : text.Program) (ps : List Watched) (rest all : List ℕ) : Type 0 where
  pub so : after_points ps (read_parts tree (length ps + 1) (slice_split is_line_feed rest)) ≡ read_of tree all

pub stands_first : (tree : text.Program) (all : List ℕ) → PointsStand tree [] all all
stands_first tree all = record { so = nothing_before (read_of tree all) }
  where
    nothing_before : (r : Reading) → after_points [] r ≡ r
    nothing_before (read ps) = refl
    nothing_before (bad_line n) = refl

module _ (tree : text.Program) (ps : List Watched) (rest line after all : List ℕ) (s : PointsStand tree ps rest all)
    (cut : slice_split is_line_feed rest ≡ line ∷ slice_split is_line_feed after) where
  abbrev behind : Reading
  behind = read_parts tree (length ps + 1 + 1) (slice_split is_line_feed after)

  a_line : read_parts tree (length ps + 1) (slice_split is_line_feed rest)
      ≡ (if nat_le (length ps + 1) 64 then with_point (length ps + 1) (point_of tree line) behind else bad_line (length ps + 1))
  a_line = ap (read_parts tree (length ps + 1)) cut ∙ go (slice_split is_line_feed after) (split_parts is_line_feed after)
    where
      go : (parts : List (List ℕ)) → Parts parts → read_parts tree (length ps + 1) (line ∷ parts)
          ≡ (if nat_le (length ps + 1) 64 then with_point (length ps + 1) (point_of tree line) (read_parts tree (length ps + 1 + 1) parts) else bad_line (length ps + 1))
      go [] h = absurd h
      go (part ∷ parts) h = refl

  few : nat_le (length ps + 1) 64 ≡ true → read_parts tree (length ps + 1) (slice_split is_line_feed rest)
      ≡ with_point (length ps + 1) (point_of tree line) behind
  few e = a_line ∙ ap (λ t. if t then with_point (length ps + 1) (point_of tree line) behind else bad_line (length ps + 1)) e

  -- a line that is no point
  pub stands_bad : length ps + 1 ≤ 64 → point_of tree line ≡ None → read_of tree all ≡ bad_line (length ps + 1)
  stands_bad le e =
      let small : nat_le (length ps + 1) 64 ≡ true = grind (arith, le) in
      sym s.so ∙ ap (after_points ps) (few small ∙ ap (λ o. with_point (length ps + 1) o behind) e)

  -- the 65th
  pub stands_many : 64 ≤ length ps → read_of tree all ≡ bad_line (length ps + 1)
  stands_many le =
      let large : nat_le (length ps + 1) 64 ≡ false = grind (arith, le) in
      sym s.so
      ∙ ap (after_points ps) (a_line ∙ ap (λ t. if t then with_point (length ps + 1) (point_of tree line) behind else bad_line (length ps + 1)) large)

  -- a point
  pub stands_more : (p : Watched) → length ps + 1 ≤ 64 → point_of tree line ≡ Some p → PointsStand tree (ps ++ p ∷ []) after all
  stands_more p le e =
      let small : nat_le (length ps + 1) 64 ≡ true = grind (arith, le) in
      record {
        so =
            ap (λ n. after_points (ps ++ p ∷ []) (read_parts tree (n + 1) (slice_split is_line_feed after))) (length-append ps (p ∷ []))
            ∙ sym (one_more ps (length ps + 1) p behind)
            ∙ ap (after_points ps) (sym (few small ∙ ap (λ o. with_point (length ps + 1) o behind) e)) ∙ s.so;
      }

-- a last line without its line feed
pub stands_uncut : (tree : text.Program) (ps : List Watched) (rest all : List ℕ) → PointsStand tree ps rest all → slice_split is_line_feed rest ≡ rest ∷ [] →
    0 < length rest → read_of tree all ≡ bad_line (length ps + 1)
stands_uncut tree ps rest all s e some = sym s.so ∙ ap (λ parts. after_points ps (read_parts tree (length ps + 1) parts)) e ∙ ap (after_points ps) (go rest some)
  where
    go : (rest : List ℕ) → 0 < length rest → read_rest (length ps + 1) rest ≡ bad_line (length ps + 1)
    go [] h = absurd (omega (arith, h))
    go (c ∷ cs) h = refl

-- nothing is left
pub stands_end : (tree : text.Program) (ps : List Watched) (rest all : List ℕ) → PointsStand tree ps rest all → length rest ≡ 0 → read_of tree all ≡ read ps
stands_end tree ps [] all s e = sym s.so ∙ ap read (append-nil ps)
stands_end tree ps (c ∷ cs) all s e = absurd (omega (arith, e))

-- ---- as the code has the points

pub told_bad : (tree : text.Program) (xs : List Point) (all : List ℕ) (n : ℕ) → n ≡ length xs → read_of tree all ≡ bad_line (length (map watched xs) + 1)
    → read_of tree all ≡ bad_line (n + 1)
told_bad tree xs all n e h = h ∙ ap (λ k. bad_line (k + 1)) (length-map xs watched ∙ sym e)

pub told_more : (tree : text.Program) (xs new : List Point) (p : Point) (rest all : List ℕ) → new ≡ xs ++ p ∷ [] →
    PointsStand tree (map watched xs ++ watched p ∷ []) rest all → PointsStand tree (map watched new) rest all
told_more tree xs new p rest all e s = subst (λ ps. PointsStand tree ps rest all) (sym (ap (map watched) e ∙ map-append watched xs (p ∷ []))) s

-- ---- what all points of a file have

all_none : {A : Type 0} (P : A → Type 0) → All P []
all_none P i d l = absurd (omega (arith, l))

all_more : {A : Type 0} (P : A → Type 0) (x : A) (xs : List A) → P x → All P xs → All P (x ∷ xs)
all_more P x xs h k zero d l = h
all_more P x xs h k (suc i) d l = k i d (omega (arith, l))

module _ (tree : text.Program) (P : Watched → Type 0) (one : (line : List ℕ) (p : Watched) → point_of tree line ≡ Some p → P p) where
  parts_have : (n : ℕ) (parts : List (List ℕ)) (ps : List Watched) → read_parts tree n parts ≡ read ps → All P ps
  parts_have n [] ps e = let none : [] ≡ ps = (cc) in subst (All P) none (all_none P)
  parts_have n (rest ∷ []) ps e = go rest e
    where
      go : (rest : List ℕ) → read_rest n rest ≡ read ps → All P ps
      go [] e = let none : [] ≡ ps = (cc) in subst (All P) none (all_none P)
      go (c ∷ cs) e = absurd (cc)
  parts_have n (line ∷ part ∷ parts) ps e =
      tested (nat_le n 64) (read_parts tree (n + 1) (part ∷ parts)) (λ qs f. parts_have (n + 1) (part ∷ parts) qs f) e
    where
      behind_it : (o : Option Watched) → ((p : Watched) → o ≡ Some p → P p) → (r : Reading) →
          ((qs : List Watched) → r ≡ read qs → All P qs) → with_point n o r ≡ read ps → All P ps
      behind_it None h r k e = absurd (cc)
      behind_it (Some p) h (bad_line m) k e = absurd (cc)
      behind_it (Some p) h (read qs) k e = let same : p ∷ qs ≡ ps = (cc) in subst (All P) same (all_more P p qs (h p refl) (k qs refl))

      tested : (b : Bool) (r : Reading) → ((qs : List Watched) → r ≡ read qs → All P qs) →
          (if b then with_point n (point_of tree line) r else bad_line n) ≡ read ps → All P ps
      tested true r k e = behind_it (point_of tree line) (one line) r k e
      tested false r k e = absurd (cc)

  points_have : (bytes : List ℕ) (ps : List Watched) → read_of tree bytes ≡ read ps → All P ps
  points_have bytes ps e = parts_have 1 (slice_split is_line_feed bytes) ps e

-- a point that is seen
seen_is : (tree : text.Program) (o : Option (ℕ × List ℕ)) (p : Watched) → seen_at tree o ≡ Some p →
    (pair : ℕ × List ℕ) × (o ≡ Some pair) × (record { line = pair.0; name = pair.1; sights = sights_of tree pair.0 pair.1 } ≡ p)
seen_is tree None p e = absurd (cc)
seen_is tree (Some pair) p e = go (all_seen (sights_of tree pair.0 pair.1)) e
  where
    here : Watched
    here = record { line = pair.0; name = pair.1; sights = sights_of tree pair.0 pair.1 }

    go : (b : Bool) → (if b then Some (record { line = pair.0; name = pair.1; sights = sights_of tree pair.0 pair.1 }) else None) ≡ Some p →
        (q : ℕ × List ℕ) × (Some pair ≡ Some q) × (record { line = q.0; name = q.1; sights = sights_of tree q.0 q.1 } ≡ p)
    go true e = let same : here ≡ p = (cc) in (pair, refl, same)
    go false e = absurd (cc)

-- its sights fit the unit
pub points_fit : (tree : text.Program) (unit : ProgramUnit) → Sound tree → Resolved tree unit → (bytes : List ℕ) (ps : List Watched) →
    read_of tree bytes ≡ read ps → PointsFit unit ps
points_fit tree unit sound resolved =
    points_have tree (PointFits unit) (λ line p e.
    let h : (pair : ℕ × List ℕ) × (spelled line ≡ Some pair) × (record { line = pair.0; name = pair.1; sights = sights_of tree pair.0 pair.1 } ≡ p) =
    seen_is tree (spelled line) p e in
    subst (PointFits unit) h.2 (sights_fit tree unit sound resolved h.0.0 h.0.1))

-- its name is short
spelled_name : (parts : List (List ℕ)) (pair : ℕ × List ℕ) → spelled_by parts ≡ Some pair → is_name pair.1 ≡ true
spelled_name [] pair e = absurd (cc)
spelled_name (digits ∷ []) pair e = absurd (cc)
spelled_name (digits ∷ name ∷ []) pair e = go (is_number digits) (is_name name) refl e
  where
    go : (a b : Bool) → is_name name ≡ b → (if a && b then Some (number_of digits, name) else None) ≡ Some pair → is_name pair.1 ≡ true
    go true true f e = let same : (number_of digits, name) ≡ pair = (cc) in ap (λ (q : ℕ × List ℕ). is_name q.1) (sym same) ∙ f
    go true false f e = absurd (cc)
    go false b f e = absurd (cc)
spelled_name (digits ∷ name ∷ x ∷ more) pair e = absurd (cc)

abbrev pub HasShortName : Watched → Type 0
HasShortName p = length p.name ≤ 250

pub names_are_short : (tree : text.Program) (bytes : List ℕ) (ps : List Watched) → read_of tree bytes ≡ read ps → All HasShortName ps
names_are_short tree =
    points_have tree HasShortName (λ line p e.
    let h : (pair : ℕ × List ℕ) × (spelled line ≡ Some pair) × (record { line = pair.0; name = pair.1; sights = sights_of tree pair.0 pair.1 } ≡ p) =
    seen_is tree (spelled line) p e in
    let short : nat_le (length h.0.1) 250 ≡ true = name_is_short h.0.1 (spelled_name (slice_split is_blank line) h.0 h.1) in
    subst HasShortName h.2 (grind (arith, short)))
