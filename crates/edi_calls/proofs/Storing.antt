-- Slots after one of them was changed.
use Rattle.std.proofs.Common.{◌≡◌, ℕ, zero, suc, ◌<◌, Bool, true, false, List, [], ◌∷◌, length, set, Option, Some, None, refl, sym, ap, ◌∙◌, arith}
use Rattle.std.proofs.Common.{get_or-set_same, get_or-set_other, eqb-true, false-eqb}
use Rattle.std.specs.Prelude.{if◌then◌else◌, ◌&&◌, is_none, nat_eq}
use Rattle.std.specs.Option.{option_map, option_and_then}
use Rattle.std.specs.List.{list_all}
use Rattle.std.specs.Str.{bytes_eq}
use Rattle.std.proofs.lemmas.Slice.Eq.{bytes_eq-Decides}
use Rattle.edi_calls.specs.State.{File, first_index, find_slot, find_file, first_free, slot_at, is_titled, Found}
use Rattle.edi_calls.specs.SoundState.{AreDistinct, IsFoundAs}
use Rattle.edi_calls.specs.Calls.{open_slot, slot_for, is_protected}
use Rattle.edi_calls.proofs.Indices.{first_index-found}

pub same_title : (a b : List ℕ) → bytes_eq a b ≡ true → a ≡ b
same_title a b h = (bytes_eq-Decides a b).0 h

pub other_title : (a b : List ℕ) → (a ≡ b → ⊥) → bytes_eq a b ≡ false
other_title a b h = go (bytes_eq a b) refl
  where
    go : (t : Bool) → bytes_eq a b ≡ t → bytes_eq a b ≡ false
    go true e = absurd (h (same_title a b e))
    go false e = e

pub apart : (a b : List ℕ) → bytes_eq a b ≡ false → a ≡ b → ⊥
apart a b h e = let t : bytes_eq a b ≡ true = (bytes_eq-Decides a b).1 e in absurd (cc)

-- the first place, where the slot there is changed to one that passes
pub set_here : (test : Option File → Bool) (slots : List (Option File)) (index : ℕ) (slot : Option File)
    → ((k : ℕ) → k < index → test (slot_at slots k) ≡ false) → index < length slots → test slot ≡ true
    → first_index test (set slots index slot) ≡ Some index
set_here test [] index slot before within here = absurd (omega arith)
set_here test (first ∷ slots) zero slot before within here =
    ap (λ b. if b then Some 0 else option_map suc (first_index test slots)) here
set_here test (first ∷ slots) (suc index) slot before within here =
    let fails : test first ≡ false = before 0 (omega arith) in
    let later : first_index test (set slots index slot) ≡ Some index =
    set_here test slots index slot (λ k h. before (suc k) (omega arith)) (omega arith) here in
    ap (λ b. if b then Some 0 else option_map suc (first_index test (set slots index slot))) fails ∙ ap (option_map suc) later

-- the first place, where another slot is changed to one that does not pass
pub set_elsewhere : (test : Option File → Bool) (slots : List (Option File)) (index at : ℕ) (slot : Option File)
    → test slot ≡ false → (at ≡ index → ⊥) → first_index test slots ≡ Some at
    → first_index test (set slots index slot) ≡ Some at
set_elsewhere test [] index at slot fails other h = h
set_elsewhere test (first ∷ slots) zero at slot fails other h =
    go (test first) h
  where
    go : (b : Bool) → (if b then Some 0 else option_map suc (first_index test slots)) ≡ Some at
        → (if test slot then Some 0 else option_map suc (first_index test slots)) ≡ Some at
    go true h = let zero_at : 0 ≡ at = cc in absurd (other (sym zero_at))
    go false h = ap (λ b. if b then Some 0 else option_map suc (first_index test slots)) fails ∙ h
set_elsewhere test (first ∷ slots) (suc index) at slot fails other h =
    go (test first) (first_index test slots) refl h (set_elsewhere test slots index)
  where
    go : (b : Bool) (o : Option ℕ) → first_index test slots ≡ o → (if b then Some 0 else option_map suc o) ≡ Some at
        → ((at : ℕ) (slot : Option File) → test slot ≡ false → (at ≡ index → ⊥) → first_index test slots ≡ Some at
        → first_index test (set slots index slot) ≡ Some at)
        → (if b then Some 0 else option_map suc (first_index test (set slots index slot))) ≡ Some at
    go true o e h rest = h
    go false None e h rest = absurd (cc)
    go false (Some k) e h rest =
        let next : suc k ≡ at = cc in
        let apart_from : k ≡ index → ⊥ = λ q. other (sym next ∙ ap suc q) in
        ap (option_map suc) (rest k slot fails apart_from e) ∙ ap Some next

-- no slot passes, where none is found
pub none_passes : (test : Option File → Bool) (slots : List (Option File)) → test None ≡ false → first_index test slots ≡ None
    → (k : ℕ) → test (slot_at slots k) ≡ false
none_passes test [] nothing h k = nothing
none_passes test (slot ∷ slots) nothing h k = go (test slot) refl (first_index test slots) refl h (none_passes test slots nothing) k
  where
    go : (b : Bool) → test slot ≡ b → (o : Option ℕ) → first_index test slots ≡ o → (if b then Some 0 else option_map suc o) ≡ None
        → (first_index test slots ≡ None → (k : ℕ) → test (slot_at slots k) ≡ false) → (k : ℕ) → test (slot_at (slot ∷ slots) k) ≡ false
    go true e o q h rest k = absurd (cc)
    go false e (Some n) q h rest k = absurd (cc)
    go false e None q h rest zero = e
    go false e None q h rest (suc k) = rest q k

-- a place where a file of this title may be put: no other slot has the title
pub record IsIndexFor (slots : List (Option File)) (title : List ℕ) (index : ℕ) : Type 0 where
  pub within : index < length slots
  pub others : (k : ℕ) (file : File) → slot_at slots k ≡ Some file → (k ≡ index → ⊥) → file.title ≡ title → ⊥
  pub own : (file : File) → slot_at slots index ≡ Some file → file.title ≡ title

titled_there : (slots : List (Option File)) (title : List ℕ) (index : ℕ) (file : File) → find_slot slots title ≡ Some index
    → slot_at slots index ≡ Some file → file.title ≡ title
titled_there slots title index file h there =
    same_title file.title title (ap (is_titled title) (sym there) ∙ (first_index-found (is_titled title) slots index h).passes None)

pub index_found : (slots : List (Option File)) (title : List ℕ) (index : ℕ) → AreDistinct slots → find_slot slots title ≡ Some index
    → IsIndexFor slots title index
index_found slots title index distinct h = record {
  within = (first_index-found (is_titled title) slots index h).within;
  others = λ k file there other same.
      let at : find_slot slots title ≡ Some k = ap (find_slot slots) (sym same) ∙ distinct k file there in
      let two : k ≡ index = cc in
      other two;
  own = λ file there. titled_there slots title index file h there;
}

pub index_free : (slots : List (Option File)) (title : List ℕ) (index : ℕ) → find_slot slots title ≡ None → first_free slots ≡ Some index
    → IsIndexFor slots title index
index_free slots title index new h = record {
  within = (first_index-found is_none slots index h).within;
  others = λ k file there other same.
      let not_here : bytes_eq file.title title ≡ false = ap (is_titled title) (sym there) ∙ none_passes (is_titled title) slots refl new k in
      apart file.title title not_here same;
  own = λ file there.
      let free : is_none (Some file) ≡ true = ap is_none (sym there) ∙ (first_index-found is_none slots index h).passes None in
      absurd (cc);
}

pub index_open : (slots : List (Option File)) (title : List ℕ) (index : ℕ) → AreDistinct slots → open_slot slots title ≡ Some index
    → IsIndexFor slots title index
index_open slots title index distinct h = go (find_slot slots title) refl h
  where
    go : (o : Option ℕ) → find_slot slots title ≡ o
        → option_and_then (λ at. if is_protected (slot_at slots at) then None else Some at) o ≡ Some index → IsIndexFor slots title index
    go None e h = absurd (cc)
    go (Some at) e h = chosen (is_protected (slot_at slots at)) h
      where
        chosen : (b : Bool) → (if b then None else Some at) ≡ Some index → IsIndexFor slots title index
        chosen true h = absurd (cc)
        chosen false h = index_found slots title index distinct (e ∙ h)

pub index_for : (slots : List (Option File)) (title : List ℕ) (index : ℕ) → AreDistinct slots → slot_for slots title ≡ Some index
    → IsIndexFor slots title index
index_for slots title index distinct h = go (find_slot slots title) refl h
  where
    go : (o : Option ℕ) → find_slot slots title ≡ o → (if is_none o then first_free slots else open_slot slots title) ≡ Some index
        → IsIndexFor slots title index
    go None e h = index_free slots title index e h
    go (Some at) e h = index_open slots title index distinct h

-- a slot that another file's title does not find
pub record IsFor (title : List ℕ) (slot : Option File) : Type 0 where
  pub titled : (file : File) → slot ≡ Some file → file.title ≡ title

not_titled : (slot : Option File) (title other : List ℕ) → IsFor title slot → (other ≡ title → ⊥) → is_titled other slot ≡ false
not_titled None title other is h = refl
not_titled (Some file) title other is h =
    other_title file.title other (λ e. h (sym e ∙ is.titled file refl))

clear : (slots : List (Option File)) (title : List ℕ) (index k : ℕ) (o : Option File) → IsIndexFor slots title index
    → (k ≡ index → ⊥) → slot_at slots k ≡ o → is_titled title o ≡ false
clear slots title index k None is other there = refl
clear slots title index k (Some file) is other there = other_title file.title title (is.others k file there other)

-- the slot that was changed is the one that its title finds
found_here : (slots : List (Option File)) (title : List ℕ) (index : ℕ) (file : File) → IsIndexFor slots title index
    → file.title ≡ title → find_slot (set slots index (Some file)) title ≡ Some index
found_here slots title index file is named =
    set_here (is_titled title) slots index (Some file)
    (λ k before. clear slots title index k (slot_at slots k) is (λ e. absurd (omega arith)) refl)
    is.within ((bytes_eq-Decides file.title title).1 named)

-- files stay distinct where a file of a title is put at its place, or its slot is freed
pub distinct_set : (slots : List (Option File)) (title : List ℕ) (index : ℕ) (slot : Option File) → AreDistinct slots
    → IsIndexFor slots title index → IsFor title slot → AreDistinct (set slots index slot)
distinct_set slots title index slot distinct is for k file there = go (nat_eq k index) refl
  where
    go : (b : Bool) → nat_eq k index ≡ b → find_slot (set slots index slot) file.title ≡ Some k
    go true e =
        let same : k ≡ index = eqb-true _ _ e in
        let it : slot ≡ Some file =
        sym (get_or-set_same slots index slot None is.within) ∙ ap (slot_at (set slots index slot)) (sym same) ∙ there in
        let named : file.title ≡ title = for.titled file it in
        ap (λ x. find_slot (set slots index x) file.title) it
        ∙ ap (find_slot (set slots index (Some file))) named
        ∙ found_here slots title index file is named ∙ ap Some (sym same)
    go false e =
        let other : k ≡ index → ⊥ = false-eqb _ _ (sym e) in
        let was : slot_at slots k ≡ Some file = sym (get_or-set_other slots index k slot None other) ∙ there in
        set_elsewhere (is_titled file.title) slots index k slot
        (not_titled slot title file.title for (is.others k file was other)) other (distinct k file was)

-- the found file stays where a slot of another title is changed
pub found_set : (slots : List (Option File)) (title : List ℕ) (index : ℕ) (slot : Option File) (found : Found)
    → IsIndexFor slots title index → IsFor title slot → bytes_eq found.title title ≡ false → IsFoundAs slots found
    → IsFoundAs (set slots index slot) found
found_set slots title index slot found is for differs h = record {
  file = h.file;
  there = go (find_slot slots found.title) refl h.there;
  text = h.text;
  within = h.within;
}
  where
    go : (o : Option ℕ) → find_slot slots found.title ≡ o → option_and_then (slot_at slots) o ≡ Some h.file
        → find_file (set slots index slot) found.title ≡ Some h.file
    go None e there = absurd (cc)
    go (Some k) e there =
        let named : h.file.title ≡ found.title = titled_there slots found.title k h.file e there in
        let not_it : found.title ≡ title → ⊥ = apart found.title title differs in
        let other : k ≡ index → ⊥ =
        λ same. not_it (sym named ∙ is.own h.file (ap (slot_at slots) (sym same) ∙ there)) in
        let at : find_slot (set slots index slot) found.title ≡ Some k =
        set_elsewhere (is_titled found.title) slots index k slot (not_titled slot title found.title for not_it) other e in
        ap (option_and_then (slot_at (set slots index slot))) at ∙ get_or-set_other slots index k slot None other ∙ there

-- a file that was put at its place is found by its title
pub file_here : (slots : List (Option File)) (title : List ℕ) (index : ℕ) (file : File) → IsIndexFor slots title index
    → file.title ≡ title → find_file (set slots index (Some file)) title ≡ Some file
file_here slots title index file is named =
    ap (option_and_then (slot_at (set slots index (Some file)))) (found_here slots title index file is named)
    ∙ get_or-set_same slots index (Some file) None is.within

pub and_first : (a b : Bool) → (a && b) ≡ true → a ≡ true
and_first true b h = refl
and_first false b h = h

pub and_second : (a b : Bool) → (a && b) ≡ true → b ≡ true
and_second true b h = h
and_second false b h = absurd (cc)

-- a test of all slots
pub list_all-set : (test : Option File → Bool) (slots : List (Option File)) (index : ℕ) (slot : Option File)
    → list_all test slots ≡ true → test slot ≡ true → list_all test (set slots index slot) ≡ true
list_all-set test [] index slot all one = refl
list_all-set test (first ∷ slots) zero slot all one =
    ap (λ b. b && list_all test slots) one ∙ and_second (test first) (list_all test slots) all
list_all-set test (first ∷ slots) (suc index) slot all one =
    ap (λ b. b && list_all test (set slots index slot)) (and_first (test first) (list_all test slots) all)
    ∙ list_all-set test slots index slot (and_second (test first) (list_all test slots) all) one
