-- Cached blocks are written to the drive.
use Rattle.std.proofs.Common.{◌≡◌, ◌⊎◌, ℕ, ◌+◌, ◌<◌, ◌≤◌, inl, inr, false, List, [], ◌∷◌, ◌++◌, length, take, refl, sym, ◌∙◌, ap, subst, arith, set}
use Rattle.std.specs.Prelude.{Option, Some, None, IfSome, slice_get}
use Rattle.std.specs.Option.{option_map}
use Rattle.std.proofs.lemmas.Bool.{cases_eq, le-ltb}
use Rattle.std.proofs.lemmas.List.{length-map}
use Rattle.std.proofs.lemmas.Option.{slice_get-map}
use Rattle.edi_told.specs.Told.{WhereTold}
use Rattle.edi_told.proofs.Told.{WhereTold-then}
use Rattle.edi_host.specs.Blocks.{WriteLeaves}
use Rattle.edi_host.specs.declared.drive.DriveEnd.{DriveEnd}
use Rattle.edi_host.specs.declared.drive.DriveEnd.TheVariants as drive
use Rattle.edi_disk.specs.declared.cache.Slot.{Slot}
use Rattle.edi_disk.specs.Use.{slot_of, first_of_full}
use Rattle.edi_disk.specs.Shown.{over, numbers_of, IsBacked, shown_by}
use Rattle.edi_disk.specs.Since.{AllOn, ChangesOnly, Writes}
use Rattle.edi_disk.proofs.Gets.{get-set_same, get-set_other, take_one_more, take_no_more}
use Rattle.edi_disk.proofs.Lookup.{slot_of_at, slot_of_take, slot_of_front}
use Rattle.edi_disk.proofs.Over.{AreBelow, get-over_cached, over_written}
use Rattle.edi_disk.proofs.Since.{between_set}

-- what is told at the end, with what was told at the start
pub told : {A : Type 0} (P : A → A → Type 0) (before now : Option A) (y : A) → WhereTold before now P → now ≡ Some y → (x : A) × (before ≡ Some x) × P x y
told P before None y h e = absurd (cc)
told P None (Some z) y h e = absurd h
told P (Some x) (Some z) y h e = let same : z ≡ y = cc in (x, refl, subst (λ v. P x v) same h)

pub where_told : {A : Type 0} (P : A → A → Type 0) (before now : Option A) → ((y : A) → now ≡ Some y → (x : A) × (before ≡ Some x) × P x y)
    → WhereTold before now P
where_told P before None h = tt
where_told P None (Some y) h = let t = h y refl in let e : None ≡ Some t.0 = t.1 in absurd (cc)
where_told P (Some x) (Some y) h = let t = h y refl in let same : t.0 ≡ x = cc in subst (λ v. P v y) same t.2

pub shown_some : {D : Type 0} (contents : D → Option (List (List ℕ))) (drive : D) (ps : List Slot) (b : List (List ℕ)) → contents drive ≡ Some b
    → shown_by contents drive ps ≡ Some (over b ps)
shown_some contents drive ps b e = ap (λ (o : Option (List (List ℕ))). option_map (λ blocks. over blocks ps) o) e

pub shown_from : {D : Type 0} (contents : D → Option (List (List ℕ))) (drive : D) (ps : List Slot) (s : List (List ℕ)) → shown_by contents drive ps ≡ Some s
    → (b : List (List ℕ)) × (contents drive ≡ Some b) × (over b ps ≡ s)
shown_from contents drive ps s e = at (contents drive) refl e
  where
    at : (o : Option (List (List ℕ))) → contents drive ≡ o → option_map (λ blocks. over blocks ps) o ≡ Some s → (b : List (List ℕ))
        × (contents drive ≡ Some b) × (over b ps ≡ s)
    at None is e = let h : None ≡ Some s = e in absurd (cc)
    at (Some b) is e = let h : Some (over b ps) ≡ Some s = e in (b, is, cc)

-- a write leaves its block old or new
pub leaves_cases : (end : DriveEnd) (n : ℕ) (v : List ℕ) (old new : List (List ℕ)) → WriteLeaves end n v old new → (new ≡ old) ⊎ (new ≡ set old n v)
leaves_cases drive.Ok n v old new h = inr h
leaves_cases drive.Failed n v old new h = h

one_changed : (out : Option ℕ) (k : ℕ) (v : List ℕ) (old new : List (List ℕ)) → out ≡ Some k → (new ≡ old) ⊎ (new ≡ set old k v) → ChangesOnly out old new
one_changed out k v old new is (inl same) = λ n other. ap (λ (b : List (List ℕ)). slice_get b n) same
one_changed out k v old new is (inr wrote) = λ n other.
    ap (λ (b : List (List ℕ)). slice_get b n) wrote ∙ get-set_other old k n v (λ h. other (is ∙ ap (λ (m : ℕ). Some m) h))

module _ {D : Type 0} (contents : D → Option (List (List ℕ))) (count faults : D → ℕ)
    (counted : (drive : D) → IfSome (contents drive) (λ blocks. length blocks ≡ count drive)) where
  pub many : (drive : D) (b : List (List ℕ)) → contents drive ≡ Some b → length b ≡ count drive
  many drive b e = at (contents drive) e (counted drive)
    where
      at : (o : Option (List (List ℕ))) → o ≡ Some b → IfSome o (λ blocks. length blocks ≡ count drive) → length b ≡ count drive
      at None e h = absurd (cc)
      at (Some c) e h = let same : c ≡ b = cc in rw (← same) h

  -- the cached blocks are some of those that are told
  pub below_told : (drive : D) (ps : List Slot) (b : List (List ℕ)) → IsBacked contents count drive ps → contents drive ≡ Some b → AreBelow (length b) ps
  below_told drive ps b h e = rw (many drive b e) h.in_range

  pub writes_none : (ps : List Slot) (drive : D) → IsBacked contents count drive ps → Writes contents count faults ps drive drive
  writes_none ps drive h = record {
    backed = h;
    shows = where_told (λ old new. over new ps ≡ over old ps) (contents drive) (contents drive) (λ y e. (y, e, refl));
    since = λ base was_put k. k;
    count_stays = refl;
    later = omega arith;
  }

  pub writes_then : (ps : List Slot) (a b c : D) → Writes contents count faults ps a b → Writes contents count faults ps b c → Writes contents count faults ps
      a c
  writes_then ps a b c f s = record {
    backed = s.backed;
    shows = WhereTold-then (λ old new. over new ps ≡ over old ps) (λ old new. over new ps ≡ over old ps) (λ old new. over new ps ≡ over old ps) (contents a)
        (contents b) (contents c) (λ x y z p q. q ∙ p) f.shows s.shows;
    since = λ base was_put k. s.since base was_put (f.since base was_put k);
    count_stays = s.count_stays ∙ f.count_stays;
    later = let one = f.later in let two = s.later in omega arith;
  }

  -- a cached block is one of the drive's
  pub within : (ps : List Slot) (a : D) (i : ℕ) (p : Slot) → IsBacked contents count a ps → slice_get ps i ≡ Some p → p.number < count a
  within ps a i p backed at = backed.in_range p.number p (slot_of_at ps i p backed.different at)

  -- one cached block is written
  module _ (ps : List Slot) (a b : D) (end : DriveEnd) (i : ℕ) (p : Slot) (backed : IsBacked contents count a ps) (at : slice_get ps i ≡ Some p)
      (leaves : WhereTold (contents a) (contents b) (WriteLeaves end p.number p.bytes)) (stays : count b ≡ count a) (later : faults a ≤ faults b) where
    stands : slot_of p.number ps ≡ Some p
    stands = slot_of_at ps i p backed.different at

    write_within : p.number < count a
    write_within = within ps a i p backed at

    -- a block that the drive has as it is cached stays so
    stays_on : (old new : List (List ℕ)) (n : ℕ) (q : Slot) → length old ≡ count a → (new ≡ old) ⊎ (new ≡ set old p.number p.bytes)
        → slot_of n ps ≡ Some q → slice_get old n ≡ Some q.bytes → slice_get new n ≡ Some q.bytes
    stays_on old new n q long (inl same) e on = rw same on
    stays_on old new n q long (inr wrote) e on =
        elim (cases_eq n p.number) [
          | inl here ↦
              let both : Some q ≡ Some p = sym e ∙ rw here stands in
              let is : q ≡ p = cc in
              let lt = write_within in
              rw (wrote, here, is) (get-set_same old p.number p.bytes (omega arith))
          | inr ne ↦ rw wrote (get-set_other old p.number n p.bytes (λ h. ne (sym h)) ∙ on)
        ]

    one : (new : List (List ℕ)) → contents b ≡ Some new → (old : List (List ℕ)) × (contents a ≡ Some old) × WriteLeaves end p.number p.bytes old new
    one new e = told (WriteLeaves end p.number p.bytes) (contents a) (contents b) new leaves e

    over_one : (old new : List (List ℕ)) → contents a ≡ Some old → WriteLeaves end p.number p.bytes old new → over new ps ≡ over old ps
    over_one old new e l =
        elim (leaves_cases end p.number p.bytes old new l) [
          | inl same ↦ rw same refl
          | inr wrote ↦ rw wrote (over_written old ps p.number p p.bytes (below_told a ps old backed e) stands)
        ]

    pub writes_one : Writes contents count faults ps a b
    writes_one = record {
      backed = record {
        different = backed.different;
        in_range = rw stays backed.in_range;
        written = λ new e n q is clean.
            let t = one new e in
            stays_on t.0 new n q (many a t.0 t.1) (leaves_cases end p.number p.bytes t.0 new t.2) is (backed.written t.0 t.1 n q is clean);
      };
      shows = where_told (λ old new. over new ps ≡ over old ps) (contents a) (contents b) (λ new e. let t = one new e in (t.0, t.1, over_one t.0 new t.1 t.2));
      since = λ base was_put k. record {
        on_drive = λ new e.
            let t = one new e in
            let before = k.on_drive t.0 t.1 in
            let lt = write_within in
            let long = many a t.0 t.1 in
            elim (leaves_cases end p.number p.bytes t.0 new t.2) [
              | inl same ↦ rw same before
              | inr wrote ↦
                  rw wrote (between_set base was_put t.0 p.number p.bytes before (omega arith)
                  ((k.on_disk (over t.0 ps) (shown_some contents a ps t.0 t.1)).each p.number p.bytes
                  (get-over_cached t.0 ps p.number p (below_told a ps t.0 backed t.1) stands)))
            ];
        on_disk = λ shown e.
            let s = shown_from contents b ps shown e in
            let t = one s.0 s.1 in
            let same : over t.0 ps ≡ shown = sym (over_one t.0 s.0 t.1 t.2) ∙ s.2 in
            k.on_disk shown (shown_some contents a ps t.0 t.1 ∙ ap (λ (v : List (List ℕ)). Some v) same);
      };
      count_stays = stays;
      later = later;
    }

    pub more_one : end ≡ drive.Ok → AllOn contents a (take i ps) → AllOn contents b (take (i + 1) ps)
    more_one ok on = λ new e n q is.
        let t = one new e in
        let wrote : new ≡ set t.0 p.number p.bytes = subst (λ (v : DriveEnd). WriteLeaves v p.number p.bytes t.0 new) ok t.2 in
        let long = many a t.0 t.1 in
        let whole = slot_of_take n (i + 1) ps q is in
        elim (cases_eq n p.number) [
          | inl here ↦
              let both : Some q ≡ Some p = sym whole ∙ rw here stands in
              let is_p : q ≡ p = cc in
              let lt = write_within in
              rw (wrote, here, is_p) (get-set_same t.0 p.number p.bytes (omega arith))
          | inr ne ↦
              let behind : slot_of n (take i ps ++ p ∷ []) ≡ Some q = rw (take_one_more ps i p at) at is in
              stays_on t.0 new n q long (inr wrote) whole (on t.0 t.1 n q (slot_of_front n (take i ps) p q ne behind))
        ]

  -- one cached block is written already
  pub more_clean : (ps : List Slot) (a : D) (i : ℕ) (p : Slot) → IsBacked contents count a ps → slice_get ps i ≡ Some p → p.unwritten ≡ false
      → AllOn contents a (take i ps) → AllOn contents a (take (i + 1) ps)
  more_clean ps a i p backed at clean on = λ new e n q is.
      let stands = slot_of_at ps i p backed.different at in
      let whole = slot_of_take n (i + 1) ps q is in
      elim (cases_eq n p.number) [
        | inl here ↦
            let both : Some q ≡ Some p = sym whole ∙ rw here stands in
            let is_p : q ≡ p = cc in
            backed.written new e n q whole (rw is_p clean)
        | inr ne ↦
            let behind : slot_of n (take i ps ++ p ∷ []) ≡ Some q = rw (take_one_more ps i p at) at is in
            on new e n q (slot_of_front n (take i ps) p q ne behind)
      ]

  -- there is no such block
  pub more_none : (ps : List Slot) (a : D) (i : ℕ) → slice_get ps i ≡ None → AllOn contents a (take i ps) → AllOn contents a (take (i + 1) ps)
  more_none ps a i none on = rw (take_no_more ps i none) on

  -- nothing is written, or one block
  pub only_none : (a : D) (out : Option ℕ) → WhereTold (contents a) (contents a) (ChangesOnly out)
  only_none a out = where_told (ChangesOnly out) (contents a) (contents a) (λ y e. (y, e, λ n other. refl))

  pub only_one : (ps : List Slot) (a b : D) (end : DriveEnd) (i : ℕ) (p : Slot) → slice_get ps i ≡ Some p
      → WhereTold (contents a) (contents b) (WriteLeaves end p.number p.bytes) → WhereTold (contents a) (contents b) (ChangesOnly (slice_get (numbers_of ps) i))
  only_one ps a b end i p at leaves = where_told (ChangesOnly (slice_get (numbers_of ps) i)) (contents a) (contents b) (λ new e.
      let t = told (WriteLeaves end p.number p.bytes) (contents a) (contents b) new leaves e in
      let is : slice_get (numbers_of ps) i ≡ Some p.number = slice_get-map (λ (q : Slot). q.number) ps i
      ∙ ap (λ (o : Option Slot). option_map (λ (q : Slot). q.number) o) at in
      (t.0, t.1, one_changed (slice_get (numbers_of ps) i) p.number p.bytes t.0 new is (leaves_cases end p.number p.bytes t.0 new t.2)))

  pub only_first : (ps : List Slot) (a b : D) → 16 ≤ length ps → WhereTold (contents a) (contents b) (ChangesOnly (slice_get (numbers_of ps) 0))
      → WhereTold (contents a) (contents b) (ChangesOnly (first_of_full (numbers_of ps)))
  only_first ps a b full h = rw (le-ltb (length (numbers_of ps)) 16 (omega (arith, length-map ps (λ (q : Slot). q.number)))) h
