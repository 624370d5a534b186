-- What a page, a put and a flush leave.
use Rattle.std.proofs.Common.{◌≡◌, ℕ, ◌<◌, ◌≤◌, inl, inr, Bool, true, false, List, [], ◌∷◌, ◌++◌, length, map, take, refl, sym, ◌∙◌, ap, subst, arith, set}
use Rattle.std.proofs.Common.{eq-eqb}
use Rattle.std.specs.Prelude.{Option, Some, None, IfSome, slice_get, drop, ⊤}
use Rattle.std.specs.Option.{option_map}
use Rattle.std.proofs.lemmas.Bool.{cases_eq, cases_lt, ne_eqb, lt-ltb, le-ltb}
use Rattle.edi_told.specs.Told.{WhereTold}
use Rattle.edi_host.specs.Blocks.{ReadLeaves}
use Rattle.edi_host.specs.declared.drive.DriveEnd.{DriveEnd}
use Rattle.edi_host.specs.declared.drive.DriveEnd.TheVariants as drive
use Rattle.edi_disk.specs.declared.cache.Slot.{Slot}
use Rattle.edi_disk.specs.declared.disk.DiskEnd.TheVariants as disk
use Rattle.edi_disk.specs.Use.{slot_of, without_block, with_room, cached_slot, settled_slot, is_listed, AreDifferent, after_use, first_of_full, driven_out}
use Rattle.edi_disk.specs.Shown.{over, numbers_of, IsBacked, shown_by}
use Rattle.edi_disk.specs.Since.{KeptBy, PageGives, PutLeaves, ChangesOnly, AllOn, Writes}
use Rattle.edi_disk.proofs.Gets.{set_again}
use Rattle.edi_disk.proofs.Lookup.{slot_of_number, slot_of_after, slot_of_rest, absent_rest, without_absent, absent_listed, slot_of_settled, numbers_settled}
use Rattle.edi_disk.proofs.Numbers.{numbers_after, numbers_room, order_cached, order_absent, different_after, different_rest}
use Rattle.edi_disk.proofs.Over.{AreBelow, length-over, get-over_cached, get-over_absent, below_after, below_room, over_after, over_room, over_all}
use Rattle.edi_disk.proofs.Over.{over_settled}
use Rattle.edi_disk.proofs.Since.{between_set, kept_by_settled}
use Rattle.edi_disk.proofs.Writing.{told, where_told, shown_some, shown_from, many, below_told, writes_then}

-- a block that is cached after the first is driven out was cached before
room_slot : (ps : List Slot) (n : ℕ) (p : Slot) → AreDifferent (numbers_of ps) → slot_of n (with_room ps) ≡ Some p → slot_of n ps ≡ Some p
room_slot ps n p d e =
    elim (cases_lt (length ps) 16) [
      | inl lt ↦ rw (lt-ltb (length ps) 16 lt) at e
      | inr le ↦ rest ps d (rw (le-ltb (length ps) 16 le) at e)
    ]
  where
    rest : (ps : List Slot) → AreDifferent (numbers_of ps) → slot_of n (drop 1 ps) ≡ Some p → slot_of n ps ≡ Some p
    rest [] d e = e
    rest (q ∷ ps) d e = slot_of_rest n q ps p d.0 e

room_absent : (ps : List Slot) (n : ℕ) → slot_of n ps ≡ None → slot_of n (with_room ps) ≡ None
room_absent ps n e =
    elim (cases_lt (length ps) 16) [
      | inl lt ↦ rw (lt-ltb (length ps) 16 lt) e
      | inr le ↦ rw (le-ltb (length ps) 16 le) (rest ps e)
    ]
  where
    rest : (ps : List Slot) → slot_of n ps ≡ None → slot_of n (drop 1 ps) ≡ None
    rest [] e = e
    rest (q ∷ ps) e = absent_rest n q ps e

room_different : (ns : List ℕ) → AreDifferent ns → AreDifferent (with_room ns)
room_different ns d =
    elim (cases_lt (length ns) 16) [
      | inl lt ↦ rw (lt-ltb (length ns) 16 lt) d
      | inr le ↦ rw (le-ltb (length ns) 16 le) (different_rest ns d)
    ]

first_only : (ps : List Slot) (q : Slot) → slice_get ps 0 ≡ Some q → slot_of q.number (take 1 ps) ≡ Some q
first_only [] q e = let h : None ≡ Some q = e in absurd (cc)
first_only (p ∷ ps) q e =
    let h : Some p ≡ Some q = e in
    let same : p ≡ q = cc in
    rw (eq-eqb q.number p.number (ap (λ (x : Slot). x.number) (sym same))) h

-- What a call leaves that uses block n, from what the disk showed: the drive is backed, this is shown now, each block is as it was or was
-- put since, where this may have been put, and the block is the one used last.
pub record Uses {D : Type 0} (contents : D → Option (List (List ℕ))) (count : D → ℕ) (a b : D) (ps new : List Slot) (n : ℕ)
    (Shown : List (List ℕ) → List (List ℕ) → Type 0) (MayBePut : (ℕ → List ℕ → Bool) → Type 0) : Type 0 where
  pub works : IsBacked contents count b new
  pub shows : WhereTold (shown_by contents a ps) (shown_by contents b new) Shown
  pub since : (base : List (List ℕ)) (was_put : ℕ → List ℕ → Bool) → MayBePut was_put → KeptBy contents base was_put a ps → KeptBy contents base was_put b new
  pub order : numbers_of new ≡ after_use n (numbers_of ps)

module _ {D : Type 0} (contents : D → Option (List (List ℕ))) (count faults : D → ℕ)
    (counted : (drive : D) → IfSome (contents drive) (λ blocks. length blocks ≡ count drive)) where
  below : (a : D) (ps : List Slot) (b : List (List ℕ)) → IsBacked contents count a ps → contents a ≡ Some b → AreBelow (length b) ps
  below a ps b h e = below_told contents count faults counted a ps b h e

  -- block n stands last, with these bytes
  used_backed : (a : D) (ps : List Slot) (n : ℕ) (q : Slot) → IsBacked contents count a ps → q.number ≡ n → n < count a
      → ((b : List (List ℕ)) → contents a ≡ Some b → q.unwritten ≡ false → slice_get b n ≡ Some q.bytes)
      → IsBacked contents count a (without_block n ps ++ q ∷ [])
  used_backed a ps n q h number lt clean = record {
    different = rw (numbers_after n ps q number) (different_after n (numbers_of ps) h.different);
    in_range = below_after (count a) n ps q number lt h.in_range;
    written = λ b e k p is settled.
        elim (cases_eq k n) [
          | inl same ↦
              let here : Some q ≡ Some p = rw (slot_of_after n k ps q number, eq-eqb k n same) at is in
              let is_q : p ≡ q = cc in
              rw (same, is_q) (clean b e (rw is_q at settled))
          | inr ne ↦ h.written b e k p (rw (slot_of_after n k ps q number, ne_eqb k n ne) at is) settled
        ];
  }

  room_backed : (a : D) (ps : List Slot) → IsBacked contents count a ps → IsBacked contents count a (with_room ps)
  room_backed a ps h = record {
    different = rw (numbers_room ps) (room_different (numbers_of ps) h.different);
    in_range = below_room (count a) ps h.different h.in_range;
    written = λ b e n p is. h.written b e n p (room_slot ps n p h.different is);
  }

  -- what is shown when it is the same in each told state
  shows_same : (a : D) (ps new : List Slot) → ((b : List (List ℕ)) → contents a ≡ Some b → over b new ≡ over b ps)
      → (base : List (List ℕ)) (was_put : ℕ → List ℕ → Bool)
      → KeptBy contents base was_put a ps → KeptBy contents base was_put a new
  shows_same a ps new same base was_put k = record {
    on_drive = k.on_drive;
    on_disk = λ s e.
        let t = shown_from contents a new s e in
        let is : over t.0 ps ≡ s = sym (same t.0 t.1) ∙ t.2 in
        k.on_disk s (shown_some contents a ps t.0 t.1 ∙ ap (λ (v : List (List ℕ)). Some v) is);
  }

  -- and when a block is put
  shows_put : (a : D) (ps new : List Slot) (n : ℕ) (bytes : List ℕ) → n < count a
      → ((b : List (List ℕ)) → contents a ≡ Some b → over b new ≡ set (over b ps) n bytes)
      → (base : List (List ℕ)) (was_put : ℕ → List ℕ → Bool) → was_put n bytes ≡ true → KeptBy contents base was_put a ps → KeptBy contents base was_put a new
  shows_put a ps new n bytes lt put base was_put is_put k = record {
    on_drive = k.on_drive;
    on_disk = λ s e.
        let t = shown_from contents a new s e in
        let before = k.on_disk (over t.0 ps) (shown_some contents a ps t.0 t.1) in
        let long = length-over t.0 ps in
        let all = many contents count faults counted a t.0 t.1 in
        let is : s ≡ set (over t.0 ps) n bytes = sym t.2 ∙ put t.0 t.1 in
        rw is (between_set base was_put (over t.0 ps) n bytes before (omega arith) (inr is_put));
  }

  -- block n is cached
  module _ (a : D) (ps new : List Slot) (n : ℕ) (p : Slot) (backed : IsBacked contents count a ps) (few : length ps ≤ 16) (there : slot_of n ps ≡ Some p) where
    is_below : n < count a
    is_below = backed.in_range n p there

    page_hit_over : new ≡ without_block n ps ++ p ∷ [] → (b : List (List ℕ)) → contents a ≡ Some b → over b new ≡ over b ps
    page_hit_over is b e =
        let low = below a ps b backed e in
        let all = many contents count faults counted a b e in
        let lt = is_below in
        rw is (over_after b n ps p (slot_of_number n ps p there) (omega arith) low ∙ set_again (over b ps) n p.bytes (get-over_cached b ps n p low there))

    page_hit_works : new ≡ without_block n ps ++ p ∷ [] → IsBacked contents count a new
    page_hit_works is = rw is (used_backed a ps n p backed (slot_of_number n ps p there) is_below (λ b e clean. backed.written b e n p there clean))

    page_hit_gives : (into : List ℕ) → into ≡ p.bytes → new ≡ without_block n ps ++ p ∷ [] → WhereTold (shown_by contents a ps) (shown_by contents a new)
        (PageGives disk.Ok n into)
    page_hit_gives into is_into is = where_told (PageGives disk.Ok n into) (shown_by contents a ps) (shown_by contents a new) (λ s e.
        let t = shown_from contents a new s e in (
          over t.0 ps,
          shown_some contents a ps t.0 t.1,
          (sym t.2 ∙ page_hit_over is t.0 t.1, rw is_into (get-over_cached t.0 ps n p (below a ps t.0 backed t.1) there)),
        ))

    page_hit_since : new ≡ without_block n ps ++ p ∷ [] → (base : List (List ℕ)) (was_put : ℕ → List ℕ → Bool) → KeptBy contents base was_put a ps
        → KeptBy contents base was_put a new
    page_hit_since is = shows_same a ps new (page_hit_over is)

    pub page_hit : (into : List ℕ) → into ≡ p.bytes → new ≡ without_block n ps ++ p ∷ [] → Uses contents count a a ps new n (PageGives disk.Ok n into) (λ was_put. ⊤)
    page_hit into is_into is = record {
      works = page_hit_works is;
      shows = page_hit_gives into is_into is;
      since = λ base was_put any. page_hit_since is base was_put;
      order = rw is (order_cached n ps p p few there (slot_of_number n ps p there));
    }

    module _ (from : List ℕ) (is : new ≡ without_block n ps ++ cached_slot n from true ∷ []) where
      put_hit_over : (b : List (List ℕ)) → contents a ≡ Some b → over b new ≡ set (over b ps) n from
      put_hit_over b e =
          let all = many contents count faults counted a b e in
          let lt = is_below in
          rw is (over_after b n ps (cached_slot n from true) refl (omega arith) (below a ps b backed e))

      put_hit_works : IsBacked contents count a new
      put_hit_works = rw is (used_backed a ps n (cached_slot n from true) backed refl is_below (λ b e clean. let no' : true ≡ false = clean in absurd (cc)))

      put_hit_shows : WhereTold (shown_by contents a ps) (shown_by contents a new) (PutLeaves disk.Ok n from)
      put_hit_shows = where_told (PutLeaves disk.Ok n from) (shown_by contents a ps) (shown_by contents a new) (λ s e.
          let t = shown_from contents a new s e in (over t.0 ps, shown_some contents a ps t.0 t.1, sym t.2 ∙ put_hit_over t.0 t.1))

      put_hit_since : (base : List (List ℕ)) (was_put : ℕ → List ℕ → Bool) → was_put n from ≡ true → KeptBy contents base was_put a ps
          → KeptBy contents base was_put a new
      put_hit_since = shows_put a ps new n from is_below put_hit_over

      pub put_hit : Uses contents count a a ps new n (PutLeaves disk.Ok n from) (λ was_put. was_put n from ≡ true)
      put_hit = record {
        works = put_hit_works;
        shows = put_hit_shows;
        since = put_hit_since;
        order = rw is (order_cached n ps p (cached_slot n from true) few there refl);
      }

  -- block n is not cached: no use of the list says that it is
  pub not_listed : (ps : List Slot) (n : ℕ) {P : Type 0} → slot_of n ps ≡ None → is_listed n (numbers_of ps) ≡ true → P
  not_listed ps n none yes' = let h : true ≡ false = sym yes' ∙ absent_listed n ps none in absurd (cc)

  -- after a fault the blocks are kept
  pub still_kept : (a b : D) (ps mid : List Slot) → mid ≡ ps → Writes contents count faults mid a b → (base : List (List ℕ)) (was_put : ℕ → List ℕ → Bool)
      → KeptBy contents base was_put a ps → KeptBy contents base was_put b mid
  still_kept a b ps mid same written base was_put k = written.since base was_put (subst (λ (v : List Slot). KeptBy contents base was_put a v) (sym same) k)

  -- no block changes on the drive but the one that is driven out
  pub taken_only : (a b c : D) (ps mid : List Slot) (n : ℕ) → mid ≡ ps → slot_of n ps ≡ None → WhereTold (contents a) (contents b)
      (ChangesOnly (first_of_full (numbers_of mid)))
      → ((blocks : List (List ℕ)) → contents c ≡ Some blocks → contents b ≡ Some blocks) → WhereTold (contents a) (contents c)
      (ChangesOnly (driven_out n (numbers_of ps)))
  taken_only a b c ps mid n same none only was = where_told (ChangesOnly (driven_out n (numbers_of ps))) (contents a) (contents c) (λ new e.
      let t = told (ChangesOnly (first_of_full (numbers_of mid))) (contents a) (contents b) new only (was new e) in
      (t.0, t.1, λ m other. t.2 m (λ h. other (rw (absent_listed n ps none) (subst (λ (v : List Slot). first_of_full (numbers_of v) ≡ Some m) same h)))))

  -- block n is taken in
  module _ (a b : D) (ps mid new : List Slot) (n : ℕ) (q : Slot) (same : mid ≡ ps) (lt : n < count a) (none : slot_of n ps ≡ None)
      (written : Writes contents count faults mid a b)
      (first : 16 ≤ length mid → AllOn contents b (take 1 mid)) (number : q.number ≡ n) (is : new ≡ with_room mid ++ q ∷ []) where
    wrote : Writes contents count faults ps a b
    wrote = subst (λ (v : List Slot). Writes contents count faults v a b) same written

    new_is : new ≡ with_room ps ++ q ∷ []
    new_is = subst (λ (v : List Slot). new ≡ with_room v ++ q ∷ []) same is

    united : new ≡ without_block n (with_room ps) ++ q ∷ []
    united = new_is ∙ ap (λ v. v ++ q ∷ []) (sym (without_absent n (with_room ps) (room_absent ps n none)))

    lt_now : n < count b
    lt_now = let stays = wrote.count_stays in omega arith

    first_on : (blocks : List (List ℕ)) → contents b ≡ Some blocks → 16 ≤ length ps → (p : Slot) → slice_get ps 0 ≡ Some p → slice_get blocks p.number ≡ Some
        p.bytes
    first_on blocks e full p at =
        subst (λ (v : List Slot). 16 ≤ length v → AllOn contents b (take 1 v)) same first full blocks e p.number p (first_only ps p at)

    taken_over : (blocks : List (List ℕ)) → contents b ≡ Some blocks → over blocks new ≡ set (over blocks ps) n q.bytes
    taken_over blocks e =
        let low = below b ps blocks wrote.backed e in
        let all = many contents count faults counted b blocks e in
        let lt = lt_now in
        rw united (over_after blocks n (with_room ps) q number (omega arith) (below_room (length blocks) ps wrote.backed.different low)
        ∙ ap (λ (v : List (List ℕ)). set v n q.bytes) (over_room blocks ps wrote.backed.different low (first_on blocks e)))

    taken_backed : ((blocks : List (List ℕ)) → contents b ≡ Some blocks → q.unwritten ≡ false → slice_get blocks n ≡ Some q.bytes)
        → IsBacked contents count b new
    taken_backed clean = rw united (used_backed b (with_room ps) n q (room_backed b ps wrote.backed) number lt_now clean)

    taken_order : numbers_of new ≡ after_use n (numbers_of ps)
    taken_order = rw new_is (order_absent n ps q none number)

    -- what was shown before
    before : (blocks : List (List ℕ)) → contents b ≡ Some blocks → (old : List (List ℕ)) × (contents a ≡ Some old) × (over blocks ps ≡ over old ps)
    before blocks e = told (λ old new. over new ps ≡ over old ps) (contents a) (contents b) blocks wrote.shows e

    module _ (into : List ℕ) (bytes : q.bytes ≡ into) (on : (blocks : List (List ℕ)) → contents b ≡ Some blocks → slice_get blocks n ≡ Some into) where
      shows_on : (blocks : List (List ℕ)) → contents b ≡ Some blocks → slice_get (over blocks ps) n ≡ Some into
      shows_on blocks e = get-over_absent blocks ps n (below b ps blocks wrote.backed e) none ∙ on blocks e

      page_same : (blocks : List (List ℕ)) → contents b ≡ Some blocks → over blocks new ≡ over blocks ps
      page_same blocks e = taken_over blocks e ∙ rw bytes (set_again (over blocks ps) n into (shows_on blocks e))

      page_works : IsBacked contents count b new
      page_works = taken_backed (λ blocks e clean. on blocks e ∙ ap (λ (v : List ℕ). Some v) (sym bytes))

      page_gives : WhereTold (shown_by contents a ps) (shown_by contents b new) (PageGives disk.Ok n into)
      page_gives = where_told (PageGives disk.Ok n into) (shown_by contents a ps) (shown_by contents b new) (λ s e.
          let t = shown_from contents b new s e in
          let f = before t.0 t.1 in
          (over f.0 ps, shown_some contents a ps f.0 f.1, (sym t.2 ∙ page_same t.0 t.1 ∙ f.2, rw (← f.2) (shows_on t.0 t.1))))

      page_since : (base : List (List ℕ)) (was_put : ℕ → List ℕ → Bool) → KeptBy contents base was_put a ps → KeptBy contents base was_put b new
      page_since base was_put k = shows_same b ps new page_same base was_put (wrote.since base was_put k)

      page_in : Uses contents count a b ps new n (PageGives disk.Ok n into) (λ was_put. ⊤)
      page_in = record { works = page_works; shows = page_gives; since = λ base was_put any. page_since base was_put; order = taken_order }

    module _ (from : List ℕ) (bytes : q.bytes ≡ from) (unwritten : q.unwritten ≡ true) where
      put_over : (blocks : List (List ℕ)) → contents b ≡ Some blocks → over blocks new ≡ set (over blocks ps) n from
      put_over blocks e = rw (← bytes) (taken_over blocks e)

      put_works : IsBacked contents count b new
      put_works = taken_backed (λ blocks e clean. let no' : true ≡ false = sym unwritten ∙ clean in absurd (cc))

      put_shows : WhereTold (shown_by contents a ps) (shown_by contents b new) (PutLeaves disk.Ok n from)
      put_shows = where_told (PutLeaves disk.Ok n from) (shown_by contents a ps) (shown_by contents b new) (λ s e.
          let t = shown_from contents b new s e in
          let f = before t.0 t.1 in
          (over f.0 ps, shown_some contents a ps f.0 f.1, sym t.2 ∙ put_over t.0 t.1 ∙ ap (λ (v : List (List ℕ)). set v n from) f.2))

      put_since : (base : List (List ℕ)) (was_put : ℕ → List ℕ → Bool) → was_put n from ≡ true → KeptBy contents base was_put a ps
          → KeptBy contents base was_put b new
      put_since base was_put is_put k = shows_put b ps new n from lt_now put_over base was_put is_put (wrote.since base was_put k)

      pub put_in : Uses contents count a b ps new n (PutLeaves disk.Ok n from) (λ was_put. was_put n from ≡ true)
      put_in = record { works = put_works; shows = put_shows; since = put_since; order = taken_order }

  -- a read, whatever it answers
  module _ (b c : D) (ps : List Slot) (n : ℕ) (into : List ℕ) (end : DriveEnd) (leaves : WhereTold (contents b) (contents c) (ReadLeaves end n into))
      (stays : count c ≡ count b) (later : faults b ≤ faults c) where
    unchanged : (end : DriveEnd) (old new : List (List ℕ)) → ReadLeaves end n into old new → new ≡ old
    unchanged drive.Ok old new h = h.0
    unchanged drive.Failed old new h = h

    pub old_is : (blocks : List (List ℕ)) → contents c ≡ Some blocks → contents b ≡ Some blocks
    old_is blocks e =
        let t = told (ReadLeaves end n into) (contents b) (contents c) blocks leaves e in
        t.1 ∙ ap (λ (v : List (List ℕ)). Some v) (sym (unchanged end t.0 blocks t.2))

    pub reads : IsBacked contents count b ps → Writes contents count faults ps b c
    reads backed = record {
      backed = record {
        different = backed.different;
        in_range = rw stays backed.in_range;
        written = λ blocks e. backed.written blocks (old_is blocks e);
      };
      shows = where_told (λ old new. over new ps ≡ over old ps) (contents b) (contents c) (λ blocks e. (blocks, old_is blocks e, refl));
      since = λ base was_put k. record {
        on_drive = λ blocks e. k.on_drive blocks (old_is blocks e);
        on_disk = λ s e. let t = shown_from contents c ps s e in
            k.on_disk s (shown_some contents b ps t.0 (old_is t.0 t.1) ∙ ap (λ (v : List (List ℕ)). Some v) t.2);
      };
      count_stays = stays;
      later = later;
    }

    pub still_on : (qs : List Slot) → AllOn contents b qs → AllOn contents c qs
    still_on qs on = λ blocks e. on blocks (old_is blocks e)

    pub read_on : end ≡ drive.Ok → (blocks : List (List ℕ)) → contents c ≡ Some blocks → slice_get blocks n ≡ Some into
    read_on ok blocks e =
        let t = told (ReadLeaves end n into) (contents b) (contents c) blocks leaves e in
        let both = subst (λ (v : DriveEnd). ReadLeaves v n into t.0 blocks) ok t.2 in
        rw both.0 both.1

  -- and no block changes on the drive by it
  pub read_only : (a b c : D) (ps mid : List Slot) (n : ℕ) (into : List ℕ) (end : DriveEnd) → mid ≡ ps → slot_of n ps ≡ None
      → WhereTold (contents a) (contents b) (ChangesOnly (first_of_full (numbers_of mid))) → WhereTold (contents b) (contents c) (ReadLeaves end n into)
      → count c ≡ count b → faults b ≤ faults c → WhereTold (contents a) (contents c) (ChangesOnly (driven_out n (numbers_of ps)))
  read_only a b c ps mid n into end same none only leaves stays later =
      taken_only a b c ps mid n same none only (old_is b c mid n into end leaves stays later)

  -- a block is read where there is room for it
  module _ (a b c : D) (mid : List Slot) (n : ℕ) (into : List ℕ) (end : DriveEnd) (written : Writes contents count faults mid a b)
      (leaves : WhereTold (contents b) (contents c) (ReadLeaves end n into)) (stays : count c ≡ count b) (later : faults b ≤ faults c) where
    pub read_wrote : Writes contents count faults mid a c
    read_wrote = writes_then contents count faults counted mid a b c written (reads b c mid n into end leaves stays later written.backed)

    -- and is taken in
    module _ (ps new : List Slot) (same : mid ≡ ps) (lt : n < count a) (none : slot_of n ps ≡ None)
        (first : 16 ≤ length mid → AllOn contents b (take 1 mid)) (ok : end ≡ drive.Ok) (is : new ≡ with_room mid ++ cached_slot n into false ∷ []) where
      first_now : 16 ≤ length mid → AllOn contents c (take 1 mid)
      first_now full = still_on b c mid n into end leaves stays later (take 1 mid) (first full)

      on_now : (blocks : List (List ℕ)) → contents c ≡ Some blocks → slice_get blocks n ≡ Some into
      on_now = read_on b c mid n into end leaves stays later ok

      pub page_read : Uses contents count a c ps new n (PageGives disk.Ok n into) (λ was_put. ⊤)
      page_read = page_in a c ps mid new n (cached_slot n into false) same lt none read_wrote first_now refl is into refl on_now

  -- all are written
  module _ (a b : D) (ps new : List Slot) (written : Writes contents count faults ps a b) (all : AllOn contents b ps) (is : new ≡ map settled_slot ps) where
    flush_over : (blocks : List (List ℕ)) → over blocks new ≡ over blocks ps
    flush_over blocks = rw is (over_settled blocks ps)

    pub flush_works : IsBacked contents count b new
    flush_works = record {
      different = rw (is, numbers_settled ps) written.backed.different;
      in_range = λ n p e. let t = found n p e in written.backed.in_range n t.0 t.1;
      written = λ blocks e n p at settled. let t = found n p at in all blocks e n t.0 t.1 ∙ ap (λ (v : List ℕ). Some v) {x = t.0.bytes} t.2;
    }
      where
        found : (n : ℕ) (p : Slot) → slot_of n new ≡ Some p → (q : Slot) × (slot_of n ps ≡ Some q) × (q.bytes ≡ p.bytes)
        found n p e = at (slot_of n ps) refl (rw (is, slot_of_settled n ps) at e)
          where
            at : (o : Option Slot) → slot_of n ps ≡ o → option_map settled_slot o ≡ Some p → (q : Slot) × (slot_of n ps ≡ Some q) × (q.bytes ≡ p.bytes)
            at None was e = let h : None ≡ Some p = e in absurd (cc)
            at (Some q) was e = let h : Some (settled_slot q) ≡ Some p = e in let same : settled_slot q ≡ p = cc in (q, was, ap (λ (x : Slot). x.bytes) same)

    pub flush_shows : WhereTold (shown_by contents a ps) (shown_by contents b new) (λ old new. disk.Ok ≡ disk.Ok → new ≡ old)
    flush_shows = where_told (λ old new. disk.Ok ≡ disk.Ok → new ≡ old) (shown_by contents a ps) (shown_by contents b new) (λ s e.
        let t = shown_from contents b new s e in
        let f = told (λ old new. over new ps ≡ over old ps) (contents a) (contents b) t.0 written.shows t.1 in
        (over f.0 ps, shown_some contents a ps f.0 f.1, λ _. sym t.2 ∙ flush_over t.0 ∙ f.2))

    pub flush_settles : contents b ≡ shown_by contents b new
    flush_settles = at (contents b) refl
      where
        at : (o : Option (List (List ℕ))) → contents b ≡ o → contents b ≡ shown_by contents b new
        at None e = e ∙ sym (ap (λ (o : Option (List (List ℕ))). option_map (λ blocks. over blocks new) o) e)
        at (Some blocks) e =
            let same : over blocks new ≡ blocks = flush_over blocks ∙ over_all blocks ps (below b ps blocks written.backed e) (all blocks e) in
            e ∙ ap (λ (v : List (List ℕ)). Some v) (sym same) ∙ sym (shown_some contents b new blocks e)

    pub flush_begins : (was_put : ℕ → List ℕ → Bool) (base : List (List ℕ)) → contents b ≡ Some base → KeptBy contents base was_put b new
    flush_begins was_put base e = kept_by_settled contents base was_put b new e (sym flush_settles ∙ e)

    pub flush_since : (base : List (List ℕ)) (was_put : ℕ → List ℕ → Bool) → KeptBy contents base was_put a ps → KeptBy contents base was_put b new
    flush_since base was_put k = shows_same b ps new (λ blocks e. flush_over blocks) base was_put (written.since base was_put k)

    pub flush_order : numbers_of new ≡ numbers_of ps
    flush_order = rw is (numbers_settled ps)

  -- no block is cached
  pub attach_begins : (a : D) (ps : List Slot) → ps ≡ [] → (was_put : ℕ → List ℕ → Bool) (base : List (List ℕ)) → contents a ≡ Some base
      → KeptBy contents base was_put a ps
  attach_begins a ps none was_put base e = kept_by_settled contents base was_put a ps e
      (shown_some contents a ps base e ∙ ap (λ (v : List Slot). Some (over base v)) none)

  pub shown_counted : (a : D) (ps : List Slot) → IfSome (shown_by contents a ps) (λ blocks. length blocks ≡ count a)
  shown_counted a ps = at (contents a) (counted a)
    where
      at : (o : Option (List (List ℕ))) → IfSome o (λ blocks. length blocks ≡ count a) → IfSome (option_map (λ blocks. over blocks ps) o)
          (λ blocks. length blocks ≡ count a)
      at None h = tt
      at (Some b) h = length-over b ps ∙ h
