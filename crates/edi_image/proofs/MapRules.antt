-- The rules on a map.
use Rattle.std.proofs.Common.{◌≡◌, ℕ, zero, suc, ◌+◌, ◌*◌, ◌≤◌, true, false, List, [], ◌∷◌, ◌++◌, length, drop, length-drop, length-append, arith, refl, ap}
use Rattle.std.proofs.Common.{sym, ◌∙◌, append_assoc}
use Rattle.std.specs.Prelude.{◌==◌, Some, Result, Ok, Err, OnOk}
use Rattle.std.proofs.Math.Seq.{drop-append_seam}
use Rattle.edi_image.specs.declared.faults.MountFault.{MountFault}
use Rattle.edi_image.specs.declared.faults.MountFault.TheVariants as fault
use Rattle.edi_image.specs.Rules.{is_in, first_broken, used_by, page_rules}
use Rattle.edi_image.specs.Entries.{short_at, shorts, block_at}
use Rattle.edi_image.specs.Image.{map_rules, numbers_in}
use Rattle.edi_image.specs.Finds.{Finds, Takes}
use Rattle.edi_image.proofs.First.{finds_map}

pub map_again : (used : List ℕ) (blocks : List (List ℕ)) (slot pages map : ℕ) → is_in map used ≡ true
    → first_broken used (map_rules 33 blocks slot pages map) ≡ Some (fault.Shared map)
map_again used blocks slot pages map again = rw again refl

pub map_wrong : (used : List ℕ) (blocks : List (List ℕ)) (slot pages map : ℕ) (bytes : List ℕ) → is_in map used ≡ false
    → block_at blocks map ≡ bytes → (short_at bytes 0 == pages) ≡ false
    → first_broken used (map_rules 33 blocks slot pages map) ≡ Some (fault.Entry slot)
map_wrong used blocks slot pages map bytes new is wrong = rw (new, is, wrong) refl

map_goes_on : (used : List ℕ) (blocks : List (List ℕ)) (slot pages map : ℕ) → is_in map used ≡ false
    → (short_at (block_at blocks map) 0 == pages) ≡ true
    → first_broken used (map_rules 33 blocks slot pages map)
    ≡ first_broken (used ++ map ∷ []) (page_rules 33 (length blocks) slot (numbers_in (block_at blocks map) pages))
map_goes_on used blocks slot pages map new right = rw (new, right) refl

pub used_by-page_rules : (first count slot : ℕ) (pages : List ℕ) → used_by (page_rules first count slot pages) ≡ pages
used_by-page_rules first count slot [] = refl
used_by-page_rules first count slot (page ∷ pages) = ap (λ ns. page ∷ ns) (used_by-page_rules first count slot pages)

map_takes : (used0 used1 used2 old new : List ℕ) (blocks : List (List ℕ)) (slot pages map : ℕ) (bytes numbers : List ℕ)
    → used1 ≡ used0 ++ map ∷ [] → used2 ≡ used1 ++ numbers → numbers ≡ numbers_in bytes pages → new ≡ old ++ numbers
    → block_at blocks map ≡ bytes
    → Takes used0 used2 (map_rules 33 blocks slot pages map) old new (numbers_in (block_at blocks map) pages)
map_takes used0 used1 used2 old new blocks slot pages map bytes numbers u1 u2 ns n is =
    let same : numbers ≡ numbers_in (block_at blocks map) pages = ns ∙ ap (λ b. numbers_in b pages) (sym is) in
    record {
      used =
          u2 ∙ ap (λ us. us ++ numbers) u1 ∙ append_assoc used0 (map ∷ []) numbers
          ∙ ap (λ xs. used0 ++ map ∷ xs) (same ∙ sym (used_by-page_rules 33 (length blocks) slot (numbers_in (block_at blocks map) pages)));
      pages_ = n ∙ ap (λ xs. old ++ xs) same;
    }

pub map_found : {X : Type 0} (r : Result X MountFault) (used0 used1 used2 old new : List ℕ) (blocks : List (List ℕ)) (slot pages map : ℕ)
    (bytes numbers : List ℕ) (n : ℕ) → is_in map used0 ≡ false → used1 ≡ used0 ++ map ∷ [] → (short_at bytes 0 == pages) ≡ true
    → numbers ≡ numbers_in bytes pages → new ≡ old ++ numbers
    → Finds r (first_broken used1 (page_rules 33 n slot numbers)) (λ _. used2 ≡ used1 ++ numbers)
    → block_at blocks map ≡ bytes → length blocks ≡ n
    → Finds r (first_broken used0 (map_rules 33 blocks slot pages map))
    (λ _. Takes used0 used2 (map_rules 33 blocks slot pages map) old new (numbers_in (block_at blocks map) pages))
map_found {X = X} r used0 used1 used2 old new blocks slot pages map bytes numbers n free u1 right ns nw found is size =
    finds_map r (first_broken used1 (page_rules 33 n slot numbers)) (first_broken used0 (map_rules 33 blocks slot pages map))
    (λ _. used2 ≡ used1 ++ numbers) (λ _. Takes used0 used2 (map_rules 33 blocks slot pages map) old new (numbers_in (block_at blocks map) pages))
    (ap (λ us. first_broken us (page_rules 33 n slot numbers)) u1
    ∙ ap (λ xs. first_broken (used0 ++ map ∷ []) (page_rules 33 n slot xs)) ns
    ∙ ap (λ b. first_broken (used0 ++ map ∷ []) (page_rules 33 n slot (numbers_in b pages))) (sym is)
    ∙ ap (λ m. first_broken (used0 ++ map ∷ []) (page_rules 33 m slot (numbers_in (block_at blocks map) pages))) (sym size)
    ∙ sym (map_goes_on used0 blocks slot pages map free (ap (λ b. short_at b 0 == pages) is ∙ right)))
    (λ x u2. map_takes used0 used1 used2 old new blocks slot pages map bytes numbers u1 u2 ns nw is)
    found

-- the numbers that were put behind the others
pub numbers_behind : (old new slice back numbers : List ℕ) (mid : ℕ) → mid ≡ length old → slice ≡ new → new ≡ old ++ numbers
    → back ≡ drop mid slice → back ≡ numbers
numbers_behind old new slice back numbers mid m s n b =
    b ∙ ap (drop mid) (s ∙ n) ∙ ap (λ k. drop k (old ++ numbers)) m ∙ drop-append_seam old numbers

length-shorts : (n : ℕ) (bytes : List ℕ) → 2 * n ≤ length bytes → length (shorts n bytes) ≡ n
length-shorts zero bytes h = refl
length-shorts (suc n) [] h = absurd (omega arith)
length-shorts (suc n) (b ∷ []) h = absurd (omega arith)
length-shorts (suc n) (b ∷ d ∷ bytes) h = ap suc (length-shorts n bytes (omega arith))

pub length-numbers_in : (block : List ℕ) (n : ℕ) → 2 * n + 2 ≤ length block → length (numbers_in block n) ≡ n
length-numbers_in block n h = length-shorts n (drop 2 block) (omega (arith, length-drop 2 block))

pub length_behind : (old new numbers : List ℕ) (n : ℕ) → new ≡ old ++ numbers → length numbers ≡ n → length new ≡ length old + n
length_behind old new numbers n e size = ap length e ∙ length-append old numbers ∙ ap (λ k. length old + k) size

pub on_ok : {X E : Type 0} (r : Result X E) (P : Type 0) → P → OnOk r P
on_ok (Ok x) P p = p
on_ok (Err e) P p = tt
