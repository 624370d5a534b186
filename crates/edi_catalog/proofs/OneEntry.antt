-- An image that breaks no rule, with another entry in one slot.
use Rattle.std.proofs.Common.{◌≡◌, ℕ, ◌+◌, ◌-◌, Bool, true, false, List, [], ◌∷◌, ◌++◌, length, min, refl, ap, sym, subst, ◌∙◌}
use Rattle.std.specs.Prelude.{◌||◌, ◌==◌, not, if◌then◌else◌, Some, None, ⊤}
use Rattle.std.specs.List.{list_any}
use Rattle.std.specs.Str.{bytes_eq}
use Rattle.std.proofs.lemmas.List.Folds.{list_any-append}
use Rattle.std.proofs.lemmas.Slice.Eq.{bytes_eq-Decides}
use Rattle.edi_calls.specs.State.{pages_of}
use Rattle.edi_image.specs.declared.faults.MountFault.TheVariants as fault
use Rattle.edi_image.specs.declared.entries.Said.{Said}
use Rattle.edi_image.specs.declared.entries.Said.TheVariants as said
use Rattle.edi_image.specs.Records.{FileRecord}
use Rattle.edi_image.specs.Rules.{Rule, needs, uses, is_in, first_broken, used_by, page_rules}
use Rattle.edi_image.specs.Entries.{block_at, short_at}
use Rattle.edi_image.specs.Image.{numbers_in, numbers_of, map_rules, maps_rules, entry_rules, titles_in, slot_rules}
use Rattle.edi_image.proofs.UsedBlocks.{or_left, or_right, neither, or_true, or_first, in_left, in_right, in_neither, none_left, none_right, none_both}
use Rattle.edi_image.proofs.UsedBlocks.{need_holds, not_used, others_used, uses_of, uses_all, titles_all, used_same, slot_used, slot_cut}

-- ---- images that have the same map blocks

abbrev pub MapsSame : (one two : List (List ℕ)) → List ℕ → Type 0
MapsSame one two [] = ⊤
MapsSame one two (map ∷ maps) = (block_at two map ≡ block_at one map) × MapsSame one two maps

abbrev pub EntrySame : (one two : List (List ℕ)) → Said → Type 0
EntrySame one two said.Free = ⊤
EntrySame one two said.Wrong = ⊤
EntrySame one two (said.File r) = MapsSame one two r.maps

abbrev pub AllSame : (one two : List (List ℕ)) → List Said → Type 0
AllSame one two [] = ⊤
AllSame one two (s ∷ es) = EntrySame one two s × AllSame one two es

maps_rules_same : (one two : List (List ℕ)) (slot pages : ℕ) (maps : List ℕ) → length two ≡ length one → MapsSame one two maps
    → maps_rules 33 two slot pages maps ≡ maps_rules 33 one slot pages maps
maps_rules_same one two slot pages [] size same = refl
maps_rules_same one two slot pages (map ∷ maps) size same =
    let k : ℕ = min pages 255 in
    ap (λ b. (uses map ∷ needs (short_at b 0 == k) (fault.Entry slot) ∷ page_rules 33 (length two) slot (numbers_in b k))
    ++ maps_rules 33 two slot (pages - 255) maps) same.0
    ∙ ap (λ n. (uses map ∷ needs (short_at (block_at one map) 0 == k) (fault.Entry slot) ∷ page_rules 33 n slot (numbers_in (block_at one map) k))
    ++ maps_rules 33 two slot (pages - 255) maps) size
    ∙ ap (λ rs. map_rules 33 one slot k map ++ rs) (maps_rules_same one two slot (pages - 255) maps size same.1)

pub numbers_same : (one two : List (List ℕ)) (pages : ℕ) (maps : List ℕ) → MapsSame one two maps
    → numbers_of two pages maps ≡ numbers_of one pages maps
numbers_same one two pages [] same = refl
numbers_same one two pages (map ∷ maps) same =
    ap (λ b. numbers_in b (min pages 255) ++ numbers_of two (pages - 255) maps) same.0
    ∙ ap (λ ns. numbers_in (block_at one map) (min pages 255) ++ ns) (numbers_same one two (pages - 255) maps same.1)

entry_rules_same : (one two : List (List ℕ)) (slot : ℕ) (titles : List (List ℕ)) (s : Said) → length two ≡ length one → EntrySame one two s
    → entry_rules 33 two slot titles s ≡ entry_rules 33 one slot titles s
entry_rules_same one two slot titles said.Free size same = refl
entry_rules_same one two slot titles said.Wrong size same = refl
entry_rules_same one two slot titles (said.File r) size same =
    ap (λ rs. needs (not (list_any (bytes_eq r.title) titles)) (fault.Entry slot) ∷ rs)
    (maps_rules_same one two slot (pages_of r.length) r.maps size same)

pub slot_rules_same : (one two : List (List ℕ)) (slot : ℕ) (titles : List (List ℕ)) (es : List Said) → length two ≡ length one → AllSame one two es
    → slot_rules 33 two slot titles es ≡ slot_rules 33 one slot titles es
slot_rules_same one two slot titles [] size same = refl
slot_rules_same one two slot titles (s ∷ es) size same =
    ap (λ rs. rs ++ slot_rules 33 two (slot + 1) (titles ++ titles_in s) es) (entry_rules_same one two slot titles s size same.0)
    ∙ ap (λ rs. entry_rules 33 one slot titles s ++ rs) (slot_rules_same one two (slot + 1) (titles ++ titles_in s) es size same.1)

-- ---- titles

titles_eq : (one two : List ℕ) → bytes_eq one two ≡ true → one ≡ two
titles_eq one two h = (bytes_eq-Decides one two).0 h

title_itself : (title : List ℕ) → list_any (bytes_eq title) (title ∷ []) ≡ true
title_itself title = or_first (bytes_eq title title) false ((bytes_eq-Decides title title).1 refl)

pub any_left : (title : List ℕ) (xs ys : List (List ℕ)) → list_any (bytes_eq title) (xs ++ ys) ≡ false → list_any (bytes_eq title) xs ≡ false
any_left title xs ys h =
    or_left (list_any (bytes_eq title) xs) (list_any (bytes_eq title) ys) (sym (list_any-append (bytes_eq title) xs ys) ∙ h)

pub any_right : (title : List ℕ) (xs ys : List (List ℕ)) → list_any (bytes_eq title) (xs ++ ys) ≡ false → list_any (bytes_eq title) ys ≡ false
any_right title xs ys h =
    or_right (list_any (bytes_eq title) xs) (list_any (bytes_eq title) ys) (sym (list_any-append (bytes_eq title) xs ys) ∙ h)

any_neither : (title : List ℕ) (xs ys : List (List ℕ)) → list_any (bytes_eq title) xs ≡ false → list_any (bytes_eq title) ys ≡ false
    → list_any (bytes_eq title) (xs ++ ys) ≡ false
any_neither title xs ys a b =
    list_any-append (bytes_eq title) xs ys ∙ neither (list_any (bytes_eq title) xs) (list_any (bytes_eq title) ys) a b

not_true : (b : Bool) → not b ≡ true → b ≡ false
not_true true h = absurd (let no : false ≡ true = h in cc)
not_true false h = refl

-- a title of later entries stands nowhere before them
titles_new : (blocks : List (List ℕ)) (used : List ℕ) (slot : ℕ) (titles : List (List ℕ)) (es : List Said) (title : List ℕ)
    → first_broken used (slot_rules 33 blocks slot titles es) ≡ None → list_any (bytes_eq title) (titles_all es) ≡ true
    → list_any (bytes_eq title) titles ≡ false
titles_new blocks used slot titles [] title h i = absurd (let no : false ≡ true = i in cc)
titles_new blocks used slot titles (said.Free ∷ es) title h i =
    any_left title titles [] (titles_new blocks used (slot + 1) (titles ++ []) es title h i)
titles_new blocks used slot titles (said.Wrong ∷ es) title h i = absurd (let no : Some (fault.Entry slot) ≡ None = h in cc)
titles_new blocks used slot titles (said.File r ∷ es) title h i =
    let later : List Rule = slot_rules 33 blocks (slot + 1) (titles ++ r.title ∷ []) es in
    let own : List Rule = maps_rules 33 blocks slot (pages_of r.length) r.maps in
    let holds = need_holds (not (list_any (bytes_eq r.title) titles)) (fault.Entry slot) (first_broken used (own ++ later)) h in
    go (bytes_eq title r.title) refl (not_true (list_any (bytes_eq r.title) titles) holds.0)
    (λ j. titles_new blocks (used ++ used_by own) (slot + 1) (titles ++ r.title ∷ []) es title (none_right used own later holds.1) j) i where
      go : (same : Bool) → bytes_eq title r.title ≡ same → list_any (bytes_eq r.title) titles ≡ false
          → (list_any (bytes_eq title) (titles_all es) ≡ true → list_any (bytes_eq title) (titles ++ r.title ∷ []) ≡ false)
          → (same || list_any (bytes_eq title) (titles_all es)) ≡ true → list_any (bytes_eq title) titles ≡ false
      go true e new rest i = subst (λ t. list_any (bytes_eq t) titles ≡ false) (sym (titles_eq title r.title e)) new
      go false e new rest i = any_left title titles (r.title ∷ []) (rest i)

-- ---- entries that hold behind others

entry_holds : (blocks : List (List ℕ)) (used now : List ℕ) (slot : ℕ) (titles there : List (List ℕ)) (s : Said)
    → first_broken used (entry_rules 33 blocks slot titles s) ≡ None
    → ((b : ℕ) → is_in b (used_by (entry_rules 33 blocks slot titles s)) ≡ true → is_in b now ≡ false)
    → ((title : List ℕ) → list_any (bytes_eq title) (titles_in s) ≡ true → list_any (bytes_eq title) there ≡ false)
    → first_broken now (entry_rules 33 blocks slot there s) ≡ None
entry_holds blocks used now slot titles there said.Free h apart new = refl
entry_holds blocks used now slot titles there said.Wrong h apart new = absurd (let no : Some (fault.Entry slot) ≡ None = h in cc)
entry_holds blocks used now slot titles there (said.File r) h apart new =
    let own : List Rule = maps_rules 33 blocks slot (pages_of r.length) r.maps in
    let holds = need_holds (not (list_any (bytes_eq r.title) titles)) (fault.Entry slot) (first_broken used own) h in
    ap (λ t. if not t then first_broken now own else Some (fault.Entry slot)) (new r.title (title_itself r.title))
    ∙ others_used used now own holds.1 apart

later_hold : (blocks : List (List ℕ)) (used now : List ℕ) (slot : ℕ) (titles there : List (List ℕ)) (es : List Said)
    → first_broken used (slot_rules 33 blocks slot titles es) ≡ None
    → ((b : ℕ) → is_in b (uses_all blocks es) ≡ true → is_in b now ≡ false)
    → ((title : List ℕ) → list_any (bytes_eq title) (titles_all es) ≡ true → list_any (bytes_eq title) there ≡ false)
    → first_broken now (slot_rules 33 blocks slot there es) ≡ None
later_hold blocks used now slot titles there [] h apart new = refl
later_hold blocks used now slot titles there (s ∷ es) h apart new =
    let own : List Rule = entry_rules 33 blocks slot titles s in
    let later : List Rule = slot_rules 33 blocks (slot + 1) (titles ++ titles_in s) es in
    let rest : first_broken (used ++ used_by own) later ≡ None = none_right used own later h in
    none_both now (entry_rules 33 blocks slot there s) (slot_rules 33 blocks (slot + 1) (there ++ titles_in s) es)
    (entry_holds blocks used now slot titles there s (none_left used own later h)
    (λ b i. apart b (list_any-append (λ m. m == b) (uses_of blocks s) (uses_all blocks es)
    ∙ or_first (is_in b (uses_of blocks s)) (is_in b (uses_all blocks es)) (ap (is_in b) (sym (used_same blocks slot titles s)) ∙ i)))
    (λ title i. new title (list_any-append (bytes_eq title) (titles_in s) (titles_all es)
    ∙ or_first (list_any (bytes_eq title) (titles_in s)) (list_any (bytes_eq title) (titles_all es)) i)))
    (later_hold blocks (used ++ used_by own) (now ++ used_by (entry_rules 33 blocks slot there s)) (slot + 1) (titles ++ titles_in s)
    (there ++ titles_in s) es rest
    (λ b i. in_neither b now (used_by (entry_rules 33 blocks slot there s))
    (apart b (list_any-append (λ m. m == b) (uses_of blocks s) (uses_all blocks es)
    ∙ or_true (is_in b (uses_of blocks s)) (is_in b (uses_all blocks es)) i))
    (ap (is_in b) (used_same blocks slot there s ∙ sym (used_same blocks slot titles s))
    ∙ in_right b used (used_by own)
    (not_used (used ++ used_by own) later b rest (ap (is_in b) (slot_used blocks (slot + 1) (titles ++ titles_in s) es) ∙ i))))
    (λ title i. any_neither title there (titles_in s)
    (new title (list_any-append (bytes_eq title) (titles_in s) (titles_all es)
    ∙ or_true (list_any (bytes_eq title) (titles_in s)) (list_any (bytes_eq title) (titles_all es)) i))
    (any_right title titles (titles_in s) (titles_new blocks (used ++ used_by own) (slot + 1) (titles ++ titles_in s) es title rest i))))

-- ---- one entry

-- the entries before one, that one, and those behind it hold
pub record Around (blocks : List (List ℕ)) (front : List Said) (s : Said) (back : List Said) : Type 0 where
  pub before : first_broken [] (slot_rules 33 blocks 0 [] front) ≡ None
  pub own : first_broken (uses_all blocks front) (entry_rules 33 blocks (length front) (titles_all front) s) ≡ None
  pub behind : first_broken (uses_all blocks front ++ uses_of blocks s)
      (slot_rules 33 blocks (length front + 1) (titles_all front ++ titles_in s) back) ≡ None

pub around : (blocks : List (List ℕ)) (front : List Said) (s : Said) (back : List Said)
    → first_broken [] (slot_rules 33 blocks 0 [] (front ++ s ∷ back)) ≡ None → Around blocks front s back
around blocks front s back h =
    let first : List Rule = slot_rules 33 blocks 0 [] front in
    let own : List Rule = entry_rules 33 blocks (length front) (titles_all front) s in
    let later : List Rule = slot_rules 33 blocks (length front + 1) (titles_all front ++ titles_in s) back in
    let all : first_broken [] (first ++ (own ++ later)) ≡ None = ap (first_broken []) (sym (slot_cut blocks front (s ∷ back))) ∙ h in
    let rest : first_broken (uses_all blocks front) (own ++ later) ≡ None =
    ap (λ us. first_broken us (own ++ later)) (sym (slot_used blocks 0 [] front)) ∙ none_right [] first (own ++ later) all in
    record {
      before = none_left [] first (own ++ later) all;
      own = none_left (uses_all blocks front) own later rest;
      behind =
          ap (λ us. first_broken (uses_all blocks front ++ us) later) (sym (used_same blocks (length front) (titles_all front) s))
          ∙ none_right (uses_all blocks front) own later rest;
    }

pub one_changed : (one two : List (List ℕ)) (front back : List Said) (s t : Said) → Around one front s back → length two ≡ length one
    → AllSame one two front → AllSame one two back
    → first_broken (uses_all one front) (entry_rules 33 two (length front) (titles_all front) t) ≡ None
    → ((b : ℕ) → is_in b (uses_all one back) ≡ true → is_in b (uses_of two t) ≡ false)
    → ((title : List ℕ) → list_any (bytes_eq title) (titles_all back) ≡ true → list_any (bytes_eq title) (titles_in t) ≡ false)
    → first_broken [] (slot_rules 33 two 0 [] (front ++ t ∷ back)) ≡ None
one_changed one two front back s t old size same_front same_back own apart new =
    let used : List ℕ = uses_all one front in
    let titles : List (List ℕ) = titles_all front in
    let first : slot_rules 33 two 0 [] front ≡ slot_rules 33 one 0 [] front = slot_rules_same one two 0 [] front size same_front in
    let was : List Rule = slot_rules 33 one (length front + 1) (titles ++ titles_in s) back in
    let later : first_broken (used ++ used_by (entry_rules 33 two (length front) titles t))
    (slot_rules 33 one (length front + 1) (titles ++ titles_in t) back) ≡ None =
    later_hold one (used ++ uses_of one s) (used ++ used_by (entry_rules 33 two (length front) titles t)) (length front + 1)
    (titles ++ titles_in s) (titles ++ titles_in t) back old.behind
    (λ b i. in_neither b used (used_by (entry_rules 33 two (length front) titles t))
    (in_left b used (uses_of one s)
    (not_used (used ++ uses_of one s) was b old.behind (ap (is_in b) (slot_used one (length front + 1) (titles ++ titles_in s) back) ∙ i)))
    (ap (is_in b) (used_same two (length front) titles t) ∙ apart b i))
    (λ title i. any_neither title titles (titles_in t)
    (any_left title titles (titles_in s)
    (titles_new one (used ++ uses_of one s) (length front + 1) (titles ++ titles_in s) back title old.behind i))
    (new title i)) in
    ap (first_broken []) (slot_cut two front (t ∷ back))
    ∙ none_both [] (slot_rules 33 two 0 [] front) (slot_rules 33 two (length front) titles (t ∷ back))
    (ap (first_broken []) first ∙ old.before)
    (ap (λ us. first_broken us (slot_rules 33 two (length front) titles (t ∷ back))) (ap used_by first ∙ slot_used one 0 [] front)
    ∙ none_both used (entry_rules 33 two (length front) titles t) (slot_rules 33 two (length front + 1) (titles ++ titles_in t) back) own
    (ap (first_broken (used ++ used_by (entry_rules 33 two (length front) titles t)))
    (slot_rules_same one two (length front + 1) (titles ++ titles_in t) back size same_back)
    ∙ later))

-- a file is taken out
pub freed_holds : (one two : List (List ℕ)) (front back : List Said) (s : Said) → Around one front s back → length two ≡ length one
    → AllSame one two front → AllSame one two back → first_broken [] (slot_rules 33 two 0 [] (front ++ said.Free ∷ back)) ≡ None
freed_holds one two front back s old size same_front same_back =
    one_changed one two front back s said.Free old size same_front same_back refl (λ b i. refl) (λ title i. refl)

-- a title that stands in no other entry
abbrev pub IsApart : (front back : List Said) → List ℕ → Type 0
IsApart front back title =
    (list_any (bytes_eq title) (titles_all front) ≡ false)
    × ((other : List ℕ) → list_any (bytes_eq other) (titles_all back) ≡ true → list_any (bytes_eq other) (title ∷ []) ≡ false)

pub own_apart : (blocks : List (List ℕ)) (front back : List Said) (r : FileRecord) → Around blocks front (said.File r) back
    → IsApart front back r.title
own_apart blocks front back r old = (
  not_true (list_any (bytes_eq r.title) (titles_all front))
      (need_holds (not (list_any (bytes_eq r.title) (titles_all front))) (fault.Entry (length front))
      (first_broken (uses_all blocks front) (maps_rules 33 blocks (length front) (pages_of r.length) r.maps)) old.own).0,
  (λ other i. any_right other (titles_all front) (r.title ∷ [])
      (titles_new blocks (uses_all blocks front ++ uses_of blocks (said.File r)) (length front + 1) (titles_all front ++ r.title ∷ []) back other old.behind
      i)),
)

pub new_apart : (front back : List Said) (title : List ℕ) → list_any (bytes_eq title) (titles_all front) ≡ false
    → list_any (bytes_eq title) (titles_all back) ≡ false → IsApart front back title
new_apart front back title a b = (a, λ other i. neither (bytes_eq other title) false (go other i (bytes_eq other title) refl) refl) where
  go : (other : List ℕ) → list_any (bytes_eq other) (titles_all back) ≡ true → (same : Bool) → bytes_eq other title ≡ same
      → bytes_eq other title ≡ false
  go other i false e = e
  go other i true e = absurd (let is : other ≡ title = titles_eq other title e in
      let found : list_any (bytes_eq title) (titles_all back) ≡ true = ap (λ t. list_any (bytes_eq t) (titles_all back)) (sym is) ∙ i in
      let no : false ≡ true = sym b ∙ found in cc)

-- a file has another record, with the same blocks
pub record_holds : (one two : List (List ℕ)) (front back : List Said) (r q : FileRecord) → Around one front (said.File r) back
    → length two ≡ length one → AllSame one two front → AllSame one two back → MapsSame one two r.maps → q.maps ≡ r.maps
    → q.length ≡ r.length → IsApart front back q.title
    → first_broken [] (slot_rules 33 two 0 [] (front ++ said.File q ∷ back)) ≡ None
record_holds one two front back r q old size same_front same_back same maps long apart =
    let rules : (slot : ℕ) → maps_rules 33 two slot (pages_of q.length) q.maps ≡ maps_rules 33 one slot (pages_of r.length) r.maps =
    λ slot. ap (λ ms. maps_rules 33 two slot (pages_of q.length) ms) maps
    ∙ ap (λ n. maps_rules 33 two slot (pages_of n) r.maps) long
    ∙ maps_rules_same one two slot (pages_of r.length) r.maps size same in
    let was = need_holds (not (list_any (bytes_eq r.title) (titles_all front))) (fault.Entry (length front))
    (first_broken (uses_all one front) (maps_rules 33 one (length front) (pages_of r.length) r.maps)) old.own in
    one_changed one two front back (said.File r) (said.File q) old size same_front same_back
    (ap (λ t. if not t then first_broken (uses_all one front) (maps_rules 33 two (length front) (pages_of q.length) q.maps)
    else Some (fault.Entry (length front))) apart.0
    ∙ ap (first_broken (uses_all one front)) (rules (length front)) ∙ was.1)
    (λ b i. ap (λ rs. is_in b (used_by rs)) (rules 0)
    ∙ in_right b (uses_all one front) (uses_of one (said.File r))
    (not_used (uses_all one front ++ uses_of one (said.File r)) (slot_rules 33 one (length front + 1) (titles_all front ++ r.title ∷ []) back) b old.behind
    (ap (is_in b) (slot_used one (length front + 1) (titles_all front ++ r.title ∷ []) back) ∙ i)))
    apart.1
