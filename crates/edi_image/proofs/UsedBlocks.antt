-- Rules that hold, and the blocks that entries use.
use Rattle.std.proofs.Common.{◌≡◌, ℕ, suc, ◌+◌, ◌-◌, Bool, true, false, List, [], ◌∷◌, ◌++◌, length, min, refl, ap, sym, subst, ◌∙◌, arith, append_assoc}
use Rattle.std.proofs.Common.{append-nil}
use Rattle.std.specs.Prelude.{◌||◌, ◌==◌, if◌then◌else◌, Option, Some, None}
use Rattle.std.proofs.lemmas.Bool.{eqb-true, eq-eqb}
use Rattle.std.proofs.lemmas.List.Folds.{list_any-append}
use Rattle.edi_calls.specs.State.{pages_of}
use Rattle.edi_image.specs.declared.faults.MountFault.{MountFault}
use Rattle.edi_image.specs.declared.faults.MountFault.TheVariants as fault
use Rattle.edi_image.specs.declared.entries.Said.{Said}
use Rattle.edi_image.specs.declared.entries.Said.TheVariants as said
use Rattle.edi_image.specs.Rules.{Rule, needs, uses, is_in, first_broken, used_by}
use Rattle.edi_image.specs.Entries.{block_at}
use Rattle.edi_image.specs.Image.{numbers_in, map_rules, maps_rules, entry_rules, titles_in, slot_rules}
use Rattle.edi_image.proofs.FileRules.{or_else, first_broken-append, used_by-append, goes_on}
use Rattle.edi_image.proofs.MapRules.{used_by-page_rules}

-- ---- tests

pub or_left : (a b : Bool) → (a || b) ≡ false → a ≡ false
or_left true b h = absurd (let no : true ≡ false = h in cc)
or_left false b h = refl

pub or_right : (a b : Bool) → (a || b) ≡ false → b ≡ false
or_right true b h = absurd (let no : true ≡ false = h in cc)
or_right false b h = h

pub neither : (a b : Bool) → a ≡ false → b ≡ false → (a || b) ≡ false
neither a b ea eb = rw (ea, eb) refl

pub or_true : (a b : Bool) → b ≡ true → (a || b) ≡ true
or_true true b h = refl
or_true false b h = h

pub or_first : (a b : Bool) → a ≡ true → (a || b) ≡ true
or_first a b h = rw h refl

pub in_left : (n : ℕ) (xs ys : List ℕ) → is_in n (xs ++ ys) ≡ false → is_in n xs ≡ false
in_left n xs ys h = or_left (is_in n xs) (is_in n ys) (sym (list_any-append (λ m. m == n) xs ys) ∙ h)

pub in_right : (n : ℕ) (xs ys : List ℕ) → is_in n (xs ++ ys) ≡ false → is_in n ys ≡ false
in_right n xs ys h = or_right (is_in n xs) (is_in n ys) (sym (list_any-append (λ m. m == n) xs ys) ∙ h)

pub in_neither : (n : ℕ) (xs ys : List ℕ) → is_in n xs ≡ false → is_in n ys ≡ false → is_in n (xs ++ ys) ≡ false
in_neither n xs ys a b = list_any-append (λ m. m == n) xs ys ∙ neither (is_in n xs) (is_in n ys) a b

-- ---- rules that hold

pub or_else_left : (a b : Option MountFault) → or_else a b ≡ None → a ≡ None
or_else_left None b h = refl
or_else_left (Some e) b h = h

pub or_else_right : (a b : Option MountFault) → or_else a b ≡ None → b ≡ None
or_else_right None b h = h
or_else_right (Some e) b h = absurd (let no : Some e ≡ None = h in cc)

pub none_left : (used : List ℕ) (xs ys : List Rule) → first_broken used (xs ++ ys) ≡ None → first_broken used xs ≡ None
none_left used xs ys h =
    or_else_left (first_broken used xs) (first_broken (used ++ used_by xs) ys) (sym (first_broken-append used xs ys) ∙ h)

pub none_right : (used : List ℕ) (xs ys : List Rule) → first_broken used (xs ++ ys) ≡ None → first_broken (used ++ used_by xs) ys ≡ None
none_right used xs ys h =
    or_else_right (first_broken used xs) (first_broken (used ++ used_by xs) ys) (sym (first_broken-append used xs ys) ∙ h)

pub none_both : (used : List ℕ) (xs ys : List Rule) → first_broken used xs ≡ None → first_broken (used ++ used_by xs) ys ≡ None
    → first_broken used (xs ++ ys) ≡ None
none_both used xs ys a b = goes_on used (used ++ used_by xs) xs ys a refl ∙ b

pub need_holds : (test : Bool) (e : MountFault) (rest : Option MountFault) → (if test then rest else Some e) ≡ None → (test ≡ true) × (rest ≡ None)
need_holds true e rest h = (refl, h)
need_holds false e rest h = absurd (let no : Some e ≡ None = h in cc)

pub use_holds : (again : Bool) (e : MountFault) (rest : Option MountFault) → (if again then Some e else rest) ≡ None → (again ≡ false) × (rest ≡ None)
use_holds true e rest h = absurd (let no : Some e ≡ None = h in cc)
use_holds false e rest h = (refl, h)

-- a block that rules use was not used before them
pub not_used : (used : List ℕ) (rules : List Rule) (b : ℕ) → first_broken used rules ≡ None → is_in b (used_by rules) ≡ true → is_in b used ≡ false
not_used used [] b h i = absurd (let no : false ≡ true = i in cc)
not_used used (needs test e ∷ rules) b h i = not_used used rules b (need_holds test e (first_broken used rules) h).1 i
not_used used (uses n ∷ rules) b h i =
    let holds = use_holds (is_in n used) (fault.Shared n) (first_broken (used ++ n ∷ []) rules) h in
    go (n == b) refl holds.0 (λ j. not_used (used ++ n ∷ []) rules b holds.1 j) i where
      go : (same : Bool) → (n == b) ≡ same → is_in n used ≡ false
          → (is_in b (used_by rules) ≡ true → is_in b (used ++ n ∷ []) ≡ false)
          → (same || is_in b (used_by rules)) ≡ true → is_in b used ≡ false
      go true e new rest i = subst (λ m. is_in m used ≡ false) (eqb-true n b e) new
      go false e new rest i = in_left b used (n ∷ []) (rest i)

-- rules hold where other blocks are used already, but none of theirs
pub others_used : (used now : List ℕ) (rules : List Rule) → first_broken used rules ≡ None
    → ((b : ℕ) → is_in b (used_by rules) ≡ true → is_in b now ≡ false) → first_broken now rules ≡ None
others_used used now [] h apart = refl
others_used used now (needs test e ∷ rules) h apart =
    let holds = need_holds test e (first_broken used rules) h in
    ap (λ t. if t then first_broken now rules else Some e) holds.0 ∙ others_used used now rules holds.1 apart
others_used used now (uses n ∷ rules) h apart =
    let holds = use_holds (is_in n used) (fault.Shared n) (first_broken (used ++ n ∷ []) rules) h in
    ap (λ t. if t then Some (fault.Shared n) else first_broken (now ++ n ∷ []) rules)
    (apart n (or_first (n == n) (is_in n (used_by rules)) (eq-eqb n n refl)))
    ∙ others_used (used ++ n ∷ []) (now ++ n ∷ []) rules holds.1
    (λ b i. in_neither b now (n ∷ []) (apart b (or_true (n == b) (is_in b (used_by rules)) i))
    (in_right b used (n ∷ []) (not_used (used ++ n ∷ []) rules b holds.1 i)))

-- ---- the blocks that entries use, and their titles

abbrev pub uses_of : List (List ℕ) → Said → List ℕ
uses_of blocks s = used_by (entry_rules 33 blocks 0 [] s)

abbrev pub uses_all : List (List ℕ) → List Said → List ℕ
uses_all blocks [] = []
uses_all blocks (s ∷ es) = uses_of blocks s ++ uses_all blocks es

abbrev pub titles_all : List Said → List (List ℕ)
titles_all [] = []
titles_all (s ∷ es) = titles_in s ++ titles_all es

pub map_used : (blocks : List (List ℕ)) (slot pages map : ℕ)
    → used_by (map_rules 33 blocks slot pages map) ≡ map ∷ numbers_in (block_at blocks map) pages
map_used blocks slot pages map =
    ap (λ ns. map ∷ ns) (used_by-page_rules 33 (length blocks) slot (numbers_in (block_at blocks map) pages))

pub maps_used : (blocks : List (List ℕ)) (slot pages : ℕ) (maps : List ℕ)
    → used_by (maps_rules 33 blocks slot pages maps) ≡ used_by (maps_rules 33 blocks 0 pages maps)
maps_used blocks slot pages [] = refl
maps_used blocks slot pages (map ∷ maps) =
    used_by-append (map_rules 33 blocks slot (min pages 255) map) (maps_rules 33 blocks slot (pages - 255) maps)
    ∙ ap (λ ns. ns ++ used_by (maps_rules 33 blocks slot (pages - 255) maps))
    (map_used blocks slot (min pages 255) map ∙ sym (map_used blocks 0 (min pages 255) map))
    ∙ ap (λ ns. used_by (map_rules 33 blocks 0 (min pages 255) map) ++ ns) (maps_used blocks slot (pages - 255) maps)
    ∙ sym (used_by-append (map_rules 33 blocks 0 (min pages 255) map) (maps_rules 33 blocks 0 (pages - 255) maps))

-- whatever stands before an entry, it uses the same blocks
pub used_same : (blocks : List (List ℕ)) (slot : ℕ) (titles : List (List ℕ)) (s : Said)
    → used_by (entry_rules 33 blocks slot titles s) ≡ uses_of blocks s
used_same blocks slot titles said.Free = refl
used_same blocks slot titles said.Wrong = refl
used_same blocks slot titles (said.File r) = maps_used blocks slot (pages_of r.length) r.maps

pub slot_used : (blocks : List (List ℕ)) (slot : ℕ) (titles : List (List ℕ)) (es : List Said)
    → used_by (slot_rules 33 blocks slot titles es) ≡ uses_all blocks es
slot_used blocks slot titles [] = refl
slot_used blocks slot titles (s ∷ es) =
    used_by-append (entry_rules 33 blocks slot titles s) (slot_rules 33 blocks (slot + 1) (titles ++ titles_in s) es)
    ∙ ap (λ ns. ns ++ used_by (slot_rules 33 blocks (slot + 1) (titles ++ titles_in s) es)) (used_same blocks slot titles s)
    ∙ ap (λ ns. uses_of blocks s ++ ns) (slot_used blocks (slot + 1) (titles ++ titles_in s) es)

pub slot_append : (blocks : List (List ℕ)) (slot : ℕ) (titles : List (List ℕ)) (xs ys : List Said)
    → slot_rules 33 blocks slot titles (xs ++ ys)
    ≡ slot_rules 33 blocks slot titles xs ++ slot_rules 33 blocks (slot + length xs) (titles ++ titles_all xs) ys
slot_append blocks slot titles [] ys =
    ap (λ n. slot_rules 33 blocks n titles ys) (let same : slot ≡ slot + 0 = omega arith in same)
    ∙ ap (λ ts. slot_rules 33 blocks (slot + 0) ts ys) (sym (append-nil titles))
slot_append blocks slot titles (x ∷ xs) ys =
    ap (λ rs. entry_rules 33 blocks slot titles x ++ rs)
    (slot_append blocks (slot + 1) (titles ++ titles_in x) xs ys
    ∙ ap (λ n. slot_rules 33 blocks (slot + 1) (titles ++ titles_in x) xs
    ++ slot_rules 33 blocks n ((titles ++ titles_in x) ++ titles_all xs) ys)
    (let same : slot + 1 + length xs ≡ slot + suc (length xs) = omega arith in same)
    ∙ ap (λ ts. slot_rules 33 blocks (slot + 1) (titles ++ titles_in x) xs ++ slot_rules 33 blocks (slot + suc (length xs)) ts ys)
    (append_assoc titles (titles_in x) (titles_all xs)))
    ∙ sym (append_assoc (entry_rules 33 blocks slot titles x) (slot_rules 33 blocks (slot + 1) (titles ++ titles_in x) xs)
    (slot_rules 33 blocks (slot + suc (length xs)) (titles ++ (titles_in x ++ titles_all xs)) ys))

-- from the first slot on
pub slot_cut : (blocks : List (List ℕ)) (xs ys : List Said)
    → slot_rules 33 blocks 0 [] (xs ++ ys) ≡ slot_rules 33 blocks 0 [] xs ++ slot_rules 33 blocks (length xs) (titles_all xs) ys
slot_cut blocks xs ys =
    slot_append blocks 0 [] xs ys
    ∙ ap (λ n. slot_rules 33 blocks 0 [] xs ++ slot_rules 33 blocks n (titles_all xs) ys)
    (let same : 0 + length xs ≡ length xs = omega arith in same)
