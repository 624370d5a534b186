-- A value is put at a location that the newest instance may mean: the memory with its words there mirrors the new store.
use Rattle.std.proofs.Common.{◌≡◌, ◌≢◌, ℕ, ◌+◌, ◌-◌, ◌<◌, ◌≤◌, ◌⊎◌, inl, inr, List, ◌++◌, take, length, get_or, length-append, Some, refl, sym, subst, ap}
use Rattle.std.proofs.Common.{◌∙◌, arith}
use Rattle.std.specs.Prelude.{IfSome, slice_index_or}
use Rattle.std.proofs.Math.Seq.{take-append_seam, drop-append_seam}
use Rattle.std.proofs.lemmas.Bool.{cases_lt, cases_eq}
use Rattle.std.proofs.lemmas.Grind.{same_number_lists}
use Rattle.std.proofs.lemmas.List.{get_or_append_left, get_or-append_right}
use Rattle.edi_calls.specs.Names.{same}
use Rattle.edi_calls.specs.State.{Traced}
use Rattle.edi_store.specs.Memory.{words_at, written}
use Rattle.edi_store.proofs.MemoryLaws.{length-words_at, get_or-words_at, length-written, get_or-written_before, get_or-written_here, get_or-written_after}
use Rattle.edi_store.proofs.MemoryLaws.{words_at-written_apart}
use Rattle.edi_unit.specs.declared.units.Parameter.TheVariants as slot
use Rattle.edi_unit.specs.Types.{size}
use Rattle.edi_unit.specs.Values.{Value, IsOf}
use Rattle.edi_unit.specs.Need.{slots, slot_type}
use Rattle.edi_unit.specs.Fits.{SlotIsKnown}
use Rattle.edi_meaning.specs.Parts.{part_at, with_part}
use Rattle.edi_meaning.specs.Store.{Spot, Location, value, Store, Shape, instances, now, cells_in, cell, put, get, value_in, no_cell, used, IsLive, Older}
use Rattle.edi_meaning.specs.Store.{within, above}
use Rattle.edi_meaning.specs.Evaluation.{World}
use Rattle.edi_meaning.proofs.Frames.{shape-put}
use Rattle.edi_meaning.proofs.References.{older_self}
use Rattle.edi_target.specs.Memory.{word}
use Rattle.edi_scheme.proofs.Known.{all_some}
use Rattle.edi_follows.specs.values.Words.{value_words, path_type, path_offset, IsTable, Splits, ValuesAreLong, PartsStand}
use Rattle.edi_follows.specs.places.Coded.{Coded, block, slot_in, slots_of, words_in, kept, heading_of}
use Rattle.edi_follows.specs.places.Spots.{address, frames_end, block_at, slot_address, location_address, cell_words, Layout, Leads, Holds, IsNoVariable}
use Rattle.edi_follows.specs.places.Scene.{Scene, Outer, Stands}
use Rattle.edi_follows.specs.places.Instructions.{IsPart, PartsAreThere, Stored, StoreDoes}
use Rattle.edi_follows.proofs.places.Places.{Differ, same_or_differ, apart, roomy, control_other, start_within}
use Rattle.edi_follows.proofs.places.Free.{slot_within, in_memory}
use Rattle.edi_follows.proofs.places.Rows.{part_stands}
use Rattle.edi_follows.proofs.places.Cells.{cells_elsewhere, cell_here, cell_beside, count_here}
use Rattle.edi_follows.proofs.places.Ancestors.{owns_ancestor}
use Rattle.edi_follows.proofs.places.Slots.{slots_apart, slot_is_in, HasValue, value_cell}
use Rattle.edi_follows.proofs.values.Paths.{path_known}

-- ---- words in a row

-- in the middle of words that stand somewhere others are written
part_written : (m b p a q : List ℕ) (at n : ℕ) → words_at m at n ≡ b ++ (p ++ a) → at + n ≤ length m → length q ≡ length p →
    words_at (written m (at + length b) q) at n ≡ b ++ (q ++ a)
part_written m b p a q at n e room same =
    let long : n ≡ length b + (length p + length a) =
    sym (length-words_at m at n room) ∙ ap length e ∙ length-append b (p ++ a) ∙ ap (λ k. length b + k) (length-append p a) in
    let fit : at + length b + length q ≤ length m = omega (arith, room, long, same) in
    let kept : length (written m (at + length b) q) ≡ length m = length-written m (at + length b) q fit in
    let one : length (words_at (written m (at + length b) q) at n) ≡ n = length-words_at (written m (at + length b) q) at n (omega (arith, room, kept)) in
    let other : length (b ++ (q ++ a)) ≡ n = length-append b (q ++ a) ∙ ap (λ k. length b + k) (length-append q a) ∙ omega (arith, long, same) in
    same_number_lists (words_at (written m (at + length b) q) at n) (b ++ (q ++ a)) (one ∙ sym other) (λ i below.
    let less : i < n = omega (arith, one, below) in
    get_or-words_at (written m (at + length b) q) at n i less ∙ go i less fit (cases_lt i (length b)) (cases_lt i (length b + length q)))
  where
    before : (i : ℕ) → i < n → get_or m (at + i) 0 ≡ get_or (b ++ (p ++ a)) i 0
    before i less = sym (get_or-words_at m at n i less) ∙ ap (λ l. get_or l i 0) e

    go : (i : ℕ) → i < n → at + length b + length q ≤ length m → (i < length b) ⊎ (length b ≤ i) → (i < length b + length q) ⊎ (length b + length q ≤ i) →
        get_or (written m (at + length b) q) (at + i) 0 ≡ get_or (b ++ (q ++ a)) i 0
    go i less fit (inl x) c =
        get_or-written_before m (at + length b) q (at + i) fit (omega (arith, x)) ∙ before i less
        ∙ get_or_append_left b (p ++ a) 0 i x ∙ sym (get_or_append_left b (q ++ a) 0 i x)
    go i less fit (inr y) (inl x) =
        let k : at + i ≡ at + length b + (i - length b) = omega (arith, y) in
        ap (λ z. get_or (written m (at + length b) q) z 0) k
        ∙ get_or-written_here m (at + length b) q (i - length b) fit (omega (arith, x, y))
        ∙ sym (get_or-append_right b (q ++ a) (length b) i 0 refl y ∙ get_or_append_left q a 0 (i - length b) (omega (arith, x, y)))
    go i less fit (inr y) (inr x) =
        get_or-written_after m (at + length b) q (at + i) fit (omega (arith, x)) ∙ before i less
        ∙ get_or-append_right b (p ++ a) (length b) i 0 refl y ∙ get_or-append_right p a (length p) (i - length b) 0 refl (omega (arith, x, y, same))
        ∙ sym (get_or-append_right b (q ++ a) (length b) i 0 refl y
        ∙ get_or-append_right q a (length p) (i - length b) 0 same (omega (arith, x, y, same)))

-- the part in the middle
middle : (b p a : List ℕ) → words_at (b ++ (p ++ a)) (length b) (length p) ≡ p
middle b p a = ap (take (length p)) (drop-append_seam b (p ++ a)) ∙ take-append_seam p a

module _ (g : Coded) (s : Scene) (long : ValuesAreLong) (parts : PartsStand) (F : Shape) (w : World) (m : List ℕ) (h : Stands g s F w m) (l : Location)
    (of : ℕ) (leads : Leads g F l of) where
  abbrev b : ℕ
  b = block_at g F l.spot

  abbrev at : ℕ
  at = slot_address g s.first F l.spot l.variable

  table : IsTable g.unit.types
  table = record { table = g.fits.table; shapes = g.fits.shapes; parts = g.parts }

  lay : Layout g s.live s.waits s.first s.size F
  lay = h.layout

  inside : l.variable < slots_of g b
  inside = slot_is_in g b l.variable (slot.Value leads.of) leads.holds

  valued : HasValue g F l.spot (heading_of g b l.variable) leads.of (cell w.store l.spot l.variable)
  valued = value_cell g F l.spot (heading_of g b l.variable) leads.of (cell w.store l.spot l.variable)
      (subst (λ o. Holds g F l.spot (heading_of g b l.variable) o (cell w.store l.spot l.variable)) leads.holds
      (h.typed.holds l.spot l.variable leads.lives inside))

  known : leads.of < length g.unit.types
  known = subst (λ o. IfSome o (SlotIsKnown g.unit.types)) leads.holds
      (all_some (SlotIsKnown g.unit.types) (slots (block g b)) l.variable (g.fits.fits_blocks b (lay.fine l.spot leads.lives).known).known)

  part_type_known : of < length g.unit.types
  part_type_known = subst (λ t. t < length g.unit.types) leads.type (path_known g.unit.types table leads.of l.path known leads.path)

  split : Splits g.unit.types valued.of leads.of l.path
  split = parts g.unit.types table valued.of leads.of l.path known valued.typed leads.path

  part_typed : IsOf g.unit.types (part_at valued.of l.path) of
  part_typed = subst (λ t. IsOf g.unit.types (part_at valued.of l.path) t) leads.type split.part

  part_length : length (value_words (part_at valued.of l.path)) ≡ size g.unit.types of
  part_length = long g.unit.types table (part_at valued.of l.path) of part_type_known part_typed

  slot_words_are : words_in g (slot_in g b l.variable) ≡ size g.unit.types leads.of
  slot_words_are = ap (words_in g) leads.holds

  address_is : location_address g s.first F l ≡ at + length split.before
  address_is = ap (λ o. at + path_offset g.unit.types (slot_type o) l.path) leads.holds ∙ ap (λ n. at + n) (sym split.long)

  value_stands : words_at m at (size g.unit.types leads.of) ≡ split.before ++ (value_words (part_at valued.of l.path) ++ split.after)
  value_stands = ap (words_at m at) (sym slot_words_are) ∙ h.mirrors.cells l.spot l.variable leads.lives inside ∙ ap (cell_words g s.first F) valued.is
      ∙ split.here

  slot_ends : at + size g.unit.types leads.of ≤ address s.first F l.spot + kept g b
  slot_ends = omega (arith, slot_within g b l.variable inside, slot_words_are)

  slot_fits : at + size g.unit.types leads.of ≤ length m
  slot_fits = omega (arith, slot_ends, in_memory g s F w m h l.spot leads.lives)

  whole_length : size g.unit.types leads.of ≡ length split.before + (size g.unit.types of + length split.after)
  whole_length =
      sym (length-words_at m at (size g.unit.types leads.of) slot_fits) ∙ ap length value_stands
      ∙ length-append split.before (value_words (part_at valued.of l.path) ++ split.after)
      ∙ ap (λ k. length split.before + k) (length-append (value_words (part_at valued.of l.path)) split.after)
      ∙ omega (arith, part_length)

  value_is : get w.store l ≡ part_at valued.of l.path
  value_is = ap (λ c. part_at (value_in c) l.path) valued.is

  -- a part is there
  pub part_is_there : IsPart g s F w m l of
  part_is_there = record {
    known = part_type_known;
    within = omega (arith, address_is, whole_length, slot_fits, h.long);
    words =
        ap (λ k. words_at m k (size g.unit.types of)) address_is
        ∙ part_stands m (split.before ++ (value_words (part_at valued.of l.path) ++ split.after)) at (size g.unit.types leads.of) (length split.before)
        (size g.unit.types of) value_stands slot_fits (omega (arith, whole_length))
        ∙ ap (words_at (split.before ++ (value_words (part_at valued.of l.path) ++ split.after)) (length split.before)) (sym part_length)
        ∙ middle split.before (value_words (part_at valued.of l.path)) split.after
        ∙ ap value_words (sym value_is);
    long = ap (λ v. length (value_words v)) value_is ∙ part_length;
    typed = subst (λ v. IsOf g.unit.types v of) (sym value_is) part_typed;
  }

  -- another value of its type takes its place
  module _ (x : Value) (typed : IsOf g.unit.types x of) where
    abbrev store : Store
    store = put w.store l x

    abbrev written_there : List ℕ
    written_there = written m (location_address g s.first F l) (value_words x)

    x_typed : IsOf g.unit.types x (path_type g.unit.types leads.of l.path)
    x_typed = subst (λ t. IsOf g.unit.types x t) (sym leads.type) typed

    x_length : length (value_words x) ≡ size g.unit.types of
    x_length = long g.unit.types table x of part_type_known typed

    fits : location_address g s.first F l + length (value_words x) ≤ length m
    fits = omega (arith, address_is, whole_length, slot_fits, x_length)

    -- what is written are words of the variable
    above_links : address s.first F l.spot + 5 ≤ location_address g s.first F l
    above_links = omega (arith, address_is)

    within_slot : location_address g s.first F l + length (value_words x) ≤ at + size g.unit.types leads.of
    within_slot = omega (arith, address_is, whole_length, x_length)

    -- a word of no variable of the instance stays
    word_stays : (a : ℕ) → IsNoVariable g s.first F l.spot a → word written_there a ≡ word m a
    word_stays a (inl y) = get_or-written_before m (location_address g s.first F l) (value_words x) a fits (omega (arith, y, above_links))
    word_stays a (inr y) = get_or-written_after m (location_address g s.first F l) (value_words x) a fits (omega (arith, y, within_slot, slot_ends))

    -- and words of another variable
    abbrev Beside : Spot → ℕ → Type 0
    Beside z v =
        (slot_address g s.first F z v + words_in g (slot_in g (block_at g F z) v) ≤ at)
        ⊎ (at + size g.unit.types leads.of ≤ slot_address g s.first F z v)

    slot_stays : (z : Spot) (v : ℕ) → IsLive F z → v < slots_of g (block_at g F z) → Beside z v →
        words_at written_there (slot_address g s.first F z v) (words_in g (slot_in g (block_at g F z) v)) ≡ words_at m (slot_address g s.first F z v)
        (words_in g (slot_in g (block_at g F z) v))
    slot_stays z v lives less beside =
        words_at-written_apart m (location_address g s.first F l) (value_words x) (slot_address g s.first F z v)
        (words_in g (slot_in g (block_at g F z) v)) fits
        (omega (arith, in_memory g s F w m h z lives, slot_within g (block_at g F z) v less))
        (elim beside [ inl y ↦ inl (omega (arith, y, address_is)) | inr y ↦ inr (omega (arith, y, within_slot)) ])

    -- a variable of another instance
    elsewhere : (z : Spot) (v : ℕ) → IsLive F z → v < slots_of g (block_at g F z) → Differ z l.spot → Beside z v
    elsewhere z v lives less d = elim (apart g s.live s.waits s.first s.size F lay z l.spot lives leads.lives d) [
      | inl a ↦ inl (omega (arith, a, slot_within g (block_at g F z) v less, roomy g F z (lay.fine z lives)))
      | inr a ↦ inr (omega (arith, a, slot_ends, roomy g F l.spot (lay.fine l.spot leads.lives)))
    ]

    -- another variable of the same instance
    next_to : (v : ℕ) → v < slots_of g b → v ≢ l.variable → Beside l.spot v
    next_to v less n = go (cases_lt v l.variable)
      where
        go : (v < l.variable) ⊎ (l.variable ≤ v) → Beside l.spot v
        go (inl y) = inl (omega (arith, slots_apart g b v l.variable y inside))
        go (inr y) = inr (omega (arith, slots_apart g b l.variable v (omega (arith, y, n)) less, slot_words_are))

    count_is : l.variable < length (cells_in (instances w.store l.spot.0) l.spot.1)
    count_is = omega (arith, h.typed.count l.spot leads.lives, inside)

    new_is : cell store l.spot l.variable ≡ value (with_part valued.of l.path x)
    new_is = cell_here w.store l x count_is ∙ ap (λ c. value (with_part (value_in c) l.path x)) valued.is

    new_words : words_at written_there at (words_in g (slot_in g b l.variable)) ≡ cell_words g s.first F (cell store l.spot l.variable)
    new_words =
        ap (words_at written_there at) slot_words_are
        ∙ ap (λ k. words_at (written m k (value_words x)) at (size g.unit.types leads.of)) address_is
        ∙ part_written m split.before (value_words (part_at valued.of l.path)) split.after (value_words x) at
        (size g.unit.types leads.of) value_stands slot_fits (omega (arith, x_length, part_length))
        ∙ sym (split.there x x_typed)
        ∙ sym (ap (cell_words g s.first F) new_is)

    new_typed : Holds g F l.spot (heading_of g b l.variable) (slot_in g b l.variable) (cell store l.spot l.variable)
    new_typed =
        subst (λ o. Holds g F l.spot (heading_of g b l.variable) o (cell store l.spot l.variable)) (sym leads.holds)
        (subst (λ c. Holds g F l.spot (heading_of g b l.variable) (Some (slot.Value leads.of)) c) (sym new_is) (split.whole x x_typed))

    -- another cell is what it was
    cell_elsewhere : (z : Spot) (v : ℕ) → Differ z l.spot → cell store z v ≡ cell w.store z v
    cell_elsewhere z v d = ap (λ cs. slice_index_or cs v no_cell) (cells_elsewhere w.store l x z d)

    abbrev Mirrored : Spot → ℕ → Type 0
    Mirrored z v = words_at written_there (slot_address g s.first F z v) (words_in g (slot_in g (block_at g F z) v)) ≡ cell_words g s.first F (cell store z v)

    abbrev CellFits : Spot → ℕ → Type 0
    CellFits z v = Holds g F z (heading_of g (block_at g F z) v) (slot_in g (block_at g F z) v) (cell store z v)

    same_cell : (z : Spot) (v : ℕ) → IsLive F z → v < slots_of g (block_at g F z) → Beside z v → cell store z v ≡ cell w.store z v → Mirrored z v × CellFits z v
    same_cell z v lives less beside e = (
      slot_stays z v lives less beside ∙ h.mirrors.cells z v lives less ∙ ap (cell_words g s.first F) (sym e),
      subst (λ c. Holds g F z (heading_of g (block_at g F z) v) (slot_in g (block_at g F z) v) c) (sym e) (h.typed.holds z v lives less),
    )

    in_frame : (v : ℕ) → v < slots_of g b → Mirrored l.spot v × CellFits l.spot v
    in_frame v less = go (cases_eq v l.variable)
      where
        go : (v ≡ l.variable) ⊎ (v ≢ l.variable) → Mirrored l.spot v × CellFits l.spot v
        go (inl e) = subst (λ k. Mirrored l.spot k × CellFits l.spot k) (sym e) (new_words, new_typed)
        go (inr n) = same_cell l.spot v leads.lives less (next_to v less n) (cell_beside w.store l x v n)

    every_cell : (z : Spot) (v : ℕ) → IsLive F z → v < slots_of g (block_at g F z) → Mirrored z v × CellFits z v
    every_cell z v lives less = go (same_or_differ z l.spot)
      where
        go : (z ≡ l.spot) ⊎ Differ z l.spot → Mirrored z v × CellFits z v
        go (inl e) = subst (λ y. Mirrored y v × CellFits y v) (sym e) (in_frame v (subst (λ y. v < slots_of g (block_at g F y)) e less))
        go (inr d) = same_cell z v lives less (elsewhere z v lives less d) (cell_elsewhere z v d)

    count_kept : (z : Spot) → IsLive F z → length (cells_in (instances store z.0) z.1) ≡ slots_of g (block_at g F z)
    count_kept z lives = go (same_or_differ z l.spot)
      where
        go : (z ≡ l.spot) ⊎ Differ z l.spot → length (cells_in (instances store z.0) z.1) ≡ slots_of g (block_at g F z)
        go (inl e) = subst (λ y. length (cells_in (instances store y.0) y.1) ≡ slots_of g (block_at g F y)) (sym e)
            (count_here w.store l x ∙ h.typed.count l.spot leads.lives)
        go (inr d) = ap length (cells_elsewhere w.store l x z d) ∙ h.typed.count z lives

    module _ (older : Older l.spot (now F s.name)) where
      -- no word outside the segment, and outside the frames of ancestors, is written
      outer_stays : (a : ℕ) → Outer s a → word written_there a ≡ word m a
      outer_stays a o = go older
        where
          frame_ends : address s.first F l.spot + kept g b ≤ frames_end s.first F l.spot.0
          frame_ends = omega (arith, roomy g F l.spot (lay.fine l.spot leads.lives), start_within (F l.spot.0) l.spot.1 leads.lives)

          by : (a < s.first l.spot.0) ⊎ (frames_end s.first F l.spot.0 ≤ a) → word written_there a ≡ word m a
          by (inl y) = word_stays a (inl (omega (arith, y)))
          by (inr y) = word_stays a (inr (omega (arith, y, frame_ends)))

          go : Older l.spot (now F s.name) → word written_there a ≡ word m a
          go (within e le) =
              let base : s.first l.spot.0 ≡ s.first s.name = ap s.first e in
              let ends : frames_end s.first F l.spot.0 ≡ frames_end s.first F s.name = ap (frames_end s.first F) e in
              by (elim o.0 [ inl y ↦ inl (omega (arith, y, base)) | inr y ↦ inr (omega (arith, y, ends, lay.segments.own s.name s.lives)) ])
          go (above n owns) =
              let ends : frames_end s.first s.around l.spot.0 ≡ frames_end s.first F l.spot.0 =
              ap (λ fs. s.first l.spot.0 + used fs) (sym (h.others l.spot.0 n)) in
              by (elim (o.1 l.spot.0 (owns_ancestor s.name l.spot.0 owns n) (lay.owner l.spot leads.lives)) [
                | inl y ↦ inl y
                | inr y ↦
                    inr (omega (arith, y, ends))
              ])

      pub stored : (t : ℕ) (system : Traced) → Stored g s F w (record { store = store; system = system; turns = w.turns }) m l x of t
      stored t system = record {
        within = omega (arith, address_is, whole_length, slot_fits, h.long);
        after = record {
          shaped = record { each = λ r. shape-put w.store l x r ∙ h.shaped.each r };
          mirrors = record {
            link = λ z lives. link z (control_other g s.live s.waits s.first s.size F lay l.spot z 0 lives (omega arith) l.spot leads.lives
                (older_self l.spot)) ∙ h.mirrors.link z lives;
            cells = λ z v lives less. (every_cell z v lives less).0;
          };
          typed = record { count = count_kept; holds = λ z v lives less. (every_cell z v lives less).1 };
          long = length-written m (location_address g s.first F l) (value_words x) fits ∙ h.long;
          untouched = λ a y o. word_stays a (o l.spot leads.lives older);
          turns = omega arith;
          clears = λ e. absurd (cc);
        };
        keeps = outer_stays;
      }
        where
          link : (z : Spot) → IsNoVariable g s.first F l.spot (address s.first F z + 0) → word written_there (address s.first F z) ≡ word m
              (address s.first F z)
          link z n = let same : address s.first F z + 0 ≡ address s.first F z = omega arith in
              word_stays (address s.first F z) (subst (IsNoVariable g s.first F l.spot) same n)

pub parts_are_there : (g : Coded) (s : Scene) → ValuesAreLong → PartsStand → PartsAreThere g s
parts_are_there g s long parts F w m l of h leads = part_is_there g s long parts F w m h l of leads

pub store_does : (g : Coded) (s : Scene) → ValuesAreLong → PartsStand → StoreDoes g s
store_does g s long parts F w m l x of t system h leads older typed = stored g s long parts F w m h l of leads x typed older t system
