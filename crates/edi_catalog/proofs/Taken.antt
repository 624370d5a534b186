-- The blocks that a check takes, and the faults that it finds, whatever the drive tells.
use Rattle.std.proofs.Common.{◌≡◌, ◌⊎◌, inl, inr, ℕ, ◌≤◌, Bool, true, false, List, [], ◌∷◌, ◌++◌, Some, None, Option, refl, ap, sym, subst, ◌∙◌, eq-eqb}
use Rattle.std.proofs.Common.{append_assoc}
use Rattle.std.proofs.lemmas.List.{append-nil}
use Rattle.std.specs.Prelude.{◌||◌, ◌==◌, if◌then◌else◌, Result, Ok, Err, OnOk, IfErr, MatchResult}
use Rattle.std.proofs.Math.Bool.{or_assoc}
use Rattle.std.proofs.lemmas.Bool.{eqb-true, or_from, or_parts, or_cases, or_right, false_from_ne_true, true≢false}
use Rattle.edi_image.specs.declared.faults.MountFault.{MountFault}
use Rattle.edi_image.specs.declared.faults.MountFault.TheVariants as fault
use Rattle.edi_image.specs.Entries.{is_data}
use Rattle.edi_image.specs.Finds.{IsFirst, Finds, is_drive_fault}
use Rattle.edi_image.specs.Records.{maps_of}
use Rattle.edi_image.specs.Rules.{first_broken, page_rules, is_in}
use Rattle.edi_image.specs.Stored.{StoredFile}
use Rattle.edi_catalog.specs.Plan.{are_different, blocks_used, used_in}
use Rattle.edi_catalog.specs.Taken.{AreTaken, TakesMap, IsUseOf}
use Rattle.edi_catalog.specs.Counted.{IsInRange, IsOfCount}
use Rattle.edi_catalog.proofs.Different.{different_join, different_first, different_rest}
use Rattle.edi_catalog.proofs.Unchanged.{in_append, in_first, in_right}

-- ---- blocks, one after another

pub taken_more : (u0 u1 u2 xs ys : List ℕ) → AreTaken u0 u1 xs → AreTaken u1 u2 ys → AreTaken u0 u2 (xs ++ ys)
taken_more u0 u1 u2 xs ys a b = record {
  different =
      different_join xs ys a.different b.different
      (λ n h. false_from_ne_true (is_in n ys) (λ there. true≢false (sym (a.used n ∙ or_right (is_in n u0) (is_in n xs) h) ∙ b.fresh n there)));
  fresh = λ n h.
      elim (or_cases (is_in n xs) (is_in n ys) (sym (in_append n xs ys) ∙ h)) [
        | inl first ↦ a.fresh n first
        | inr later ↦ (or_parts (is_in n u0) (is_in n xs) (sym (a.used n) ∙ b.fresh n later)).0
      ];
  used = λ n.
      b.used n ∙ ap (λ t. t || is_in n ys) (a.used n) ∙ or_assoc (is_in n u0) (is_in n xs) (is_in n ys)
      ∙ ap (λ t. is_in n u0 || t) (sym (in_append n xs ys));
}

pub taken_one : (u0 u1 : List ℕ) (n : ℕ) → is_in n u0 ≡ false → u1 ≡ u0 ++ n ∷ [] → AreTaken u0 u1 (n ∷ [])
taken_one u0 u1 n none is = record {
  different = refl;
  fresh = λ m h.
      elim (or_cases (n == m) (is_in m []) h) [
        | inl here ↦ subst (λ k. is_in k u0 ≡ false) (eqb-true n m here) none
        | inr never ↦ absurd (true≢false (sym never))
      ];
  used = λ m. ap (is_in m) is ∙ in_append m u0 (n ∷ []);
}

or_none : (b : Bool) → b ≡ (b || false)
or_none true = refl
or_none false = refl

taken_none : (u : List ℕ) → AreTaken u u []
taken_none u = record { different = refl; fresh = λ n h. absurd (true≢false (sym h)); used = λ n. or_none (is_in n u) }

-- the same blocks in another order
taken_like : (u0 u1 xs ys : List ℕ) → AreTaken u0 u1 xs → are_different ys ≡ true → ((n : ℕ) → is_in n ys ≡ is_in n xs) → AreTaken u0 u1 ys
taken_like u0 u1 xs ys a different same = record {
  different = different;
  fresh = λ n h. a.fresh n (sym (same n) ∙ h);
  used = λ n. a.used n ∙ ap (λ t. is_in n u0 || t) (sym (same n));
}

or_swap : (p q r : Bool) → (p || (q || r)) ≡ (q || (p || r))
or_swap true true r = refl
or_swap true false r = refl
or_swap false q r = refl

in_moved : (n m : ℕ) (xs ys : List ℕ) → is_in n (m ∷ (xs ++ ys)) ≡ is_in n (xs ++ m ∷ ys)
in_moved n m [] ys = refl
in_moved n m (x ∷ xs) ys = or_swap (m == n) (x == n) (is_in n (xs ++ ys)) ∙ ap (λ t. (x == n) || t) (in_moved n m xs ys)

different_moved : (m : ℕ) (xs ys : List ℕ) → are_different (xs ++ m ∷ ys) ≡ true → are_different (m ∷ (xs ++ ys)) ≡ true
different_moved m [] ys h = h
different_moved m (x ∷ xs) ys h =
    let parts = different_rest x (xs ++ m ∷ ys) h in
    let rest = different_rest m (xs ++ ys) (different_moved m xs ys parts.1) in
    let both = or_parts (m == x) (is_in x (xs ++ ys)) (in_moved x m xs ys ∙ parts.0) in
    let apart : (x == m) ≡ false =
    false_from_ne_true (x == m) (λ e. true≢false (sym (eq-eqb m x (sym (eqb-true x m e))) ∙ both.0)) in
    different_first m (x ∷ (xs ++ ys)) (or_from (x == m) (is_in m (xs ++ ys)) apart rest.0) (different_first x (xs ++ ys) both.1 rest.1)

-- ---- the pages of a map

pages_fresh : (u : List ℕ) (count slot : ℕ) (pages : List ℕ) → first_broken u (page_rules 33 count slot pages) ≡ None
    → (are_different pages ≡ true) × ((n : ℕ) → is_in n pages ≡ true → is_in n u ≡ false)
pages_fresh u count slot [] h = (refl, λ n there. absurd (true≢false (sym there)))
pages_fresh u count slot (page ∷ pages) h =
    go (is_data 33 count page) (is_in page u) refl h (pages_fresh (u ++ page ∷ []) count slot pages) where
      go : (t b : Bool) → is_in page u ≡ b
          → (if t then (if b then Some (fault.Shared page) else first_broken (u ++ page ∷ []) (page_rules 33 count slot pages)) else Some
          (fault.Page slot page)) ≡ None
          → (first_broken (u ++ page ∷ []) (page_rules 33 count slot pages) ≡ None
          → (are_different pages ≡ true) × ((n : ℕ) → is_in n pages ≡ true → is_in n (u ++ page ∷ []) ≡ false))
          → (are_different (page ∷ pages) ≡ true) × ((n : ℕ) → is_in n (page ∷ pages) ≡ true → is_in n u ≡ false)
      go false b e h rest = absurd (let no : Some (fault.Page slot page) ≡ None = h in cc)
      go true true e h rest = absurd (let no : Some (fault.Shared page) ≡ None = h in cc)
      go true false e h rest =
          let behind = rest h in (
            different_first page pages
                (false_from_ne_true (is_in page pages)
                (λ there. true≢false (sym (in_right page u (page ∷ []) (in_first page [])) ∙ behind.1 page there)))
                behind.0,
            λ n there.
                elim (or_cases (page == n) (is_in n pages) there) [
                  | inl here ↦ subst (λ k. is_in k u ≡ false) (eqb-true page n here) e
                  | inr later ↦ (or_parts (is_in n u) (is_in n (page ∷ [])) (sym (in_append n u (page ∷ [])) ∙ behind.1 n later)).0
                ],
          )

taken_pages : (u0 u1 : List ℕ) (count slot : ℕ) (pages : List ℕ) → first_broken u0 (page_rules 33 count slot pages) ≡ None → u1 ≡ u0 ++ pages
    → AreTaken u0 u1 pages
taken_pages u0 u1 count slot pages h is =
    let fresh = pages_fresh u0 count slot pages h in
    record { different = fresh.0; fresh = fresh.1; used = λ n. ap (is_in n) is ∙ in_append n u0 pages }

pub map_takes : {X : Type 0} (r : Result X MountFault) (map count slot : ℕ) (u0 u1 u2 before after pages : List ℕ) → is_in map u0 ≡ false
    → u1 ≡ u0 ++ map ∷ [] → after ≡ before ++ pages
    → Finds r (first_broken u1 (page_rules 33 count slot pages)) (λ _. u2 ≡ u1 ++ pages) → OnOk r (TakesMap map u0 u2 before after)
map_takes (Ok x) map count slot u0 u1 u2 before after pages none pushed behind found = record {
  pages = pages;
  behind = behind;
  taken = taken_more u0 u1 u2 (map ∷ []) pages (taken_one u0 u1 map none pushed) (taken_pages u1 u2 count slot pages found.0 found.1);
}
map_takes (Err e) map count slot u0 u1 u2 before after pages none pushed behind found = tt

-- ---- the maps of a file

pub one_taken : (first : ℕ) (second : Option ℕ) (maps u0 u1 start into : List ℕ) → maps ≡ maps_of first second → second ≡ None → start ≡ []
    → TakesMap first u0 u1 start into → AreTaken u0 u1 (maps ++ into)
one_taken first second maps u0 u1 start into are none empty one =
    let whole : maps ++ into ≡ first ∷ one.pages =
    ap (λ ms. ms ++ into) (are ∙ ap (maps_of first) none) ∙ ap (λ ps. first ∷ ps) (one.behind ∙ ap (λ s. s ++ one.pages) empty) in
    subst (AreTaken u0 u1) (sym whole) one.taken

pub two_taken : (first m : ℕ) (second : Option ℕ) (maps u0 u1 u2 start between into : List ℕ) → maps ≡ maps_of first second → second ≡ Some m
    → start ≡ [] → TakesMap first u0 u1 start between → TakesMap m u1 u2 between into → AreTaken u0 u2 (maps ++ into)
two_taken first m second maps u0 u1 u2 start between into are some empty one two =
    let all : AreTaken u0 u2 (first ∷ (one.pages ++ m ∷ two.pages)) =
    taken_more u0 u1 u2 (first ∷ one.pages) (m ∷ two.pages) one.taken two.taken in
    let pages : into ≡ one.pages ++ two.pages = two.behind ∙ ap (λ s. s ++ two.pages) (one.behind ∙ ap (λ s. s ++ one.pages) empty) in
    let whole : maps ++ into ≡ first ∷ (m ∷ (one.pages ++ two.pages)) =
    ap (λ ms. ms ++ into) (are ∙ ap (maps_of first) some) ∙ ap (λ ps. first ∷ (m ∷ ps)) pages in
    let parts = different_rest first (one.pages ++ m ∷ two.pages) all.different in
    subst (AreTaken u0 u2) (sym whole)
    (taken_like u0 u2 (first ∷ (one.pages ++ m ∷ two.pages)) (first ∷ (m ∷ (one.pages ++ two.pages))) all
    (different_first first (m ∷ (one.pages ++ two.pages)) (in_moved first m one.pages two.pages ∙ parts.0)
    (different_moved m one.pages two.pages parts.1))
    (λ n. ap (λ t. (first == n) || t) (in_moved n m one.pages two.pages)))

-- ---- the slots

used_append : (files : List (Option StoredFile)) (file : Option StoredFile) → blocks_used (files ++ file ∷ []) ≡ blocks_used files ++ used_in file
used_append [] file = append-nil (used_in file)
used_append (f ∷ files) file =
    ap (λ ns. used_in f ++ ns) (used_append files file) ∙ sym (append_assoc (used_in f) (blocks_used files) (used_in file))

pub use_begins : (used : List ℕ) (files : List (Option StoredFile)) → used ≡ [] → files ≡ [] → IsUseOf used files
use_begins used files u f = subst (λ us. IsUseOf us files) (sym u) (subst (IsUseOf []) (sym f) (record { different = refl; same = λ n. refl }))

use_more : (u0 u1 : List ℕ) (files0 files1 : List (Option StoredFile)) (file : Option StoredFile) → files1 ≡ files0 ++ file ∷ []
    → AreTaken u0 u1 (used_in file) → IsUseOf u0 files0 → IsUseOf u1 files1
use_more u0 u1 files0 files1 file is taken before =
    subst (IsUseOf u1) (sym is)
    (record {
      different =
          ap are_different (used_append files0 file)
          ∙ different_join (blocks_used files0) (used_in file) before.different taken.different
          (λ n h. false_from_ne_true (is_in n (used_in file)) (λ there. true≢false (sym (before.same n ∙ h) ∙ taken.fresh n there)));
      same = λ n.
          taken.used n ∙ ap (λ t. t || is_in n (used_in file)) (before.same n)
          ∙ sym (ap (is_in n) (used_append files0 file) ∙ in_append n (blocks_used files0) (used_in file));
    })

pub use_goes_on : {X : Type 0} (r : Result X MountFault) (Q : MountFault → Type 0) (u0 u1 : List ℕ) (files0 files1 : List (Option StoredFile))
    (file : Option StoredFile) → MatchResult r (λ _. files1 ≡ files0 ++ file ∷ []) Q → AreTaken u0 u1 (used_in file)
    → OnOk r (IsUseOf u0 files0 → IsUseOf u1 files1)
use_goes_on (Ok x) Q u0 u1 files0 files1 file is taken = use_more u0 u1 files0 files1 file is taken
use_goes_on (Err e) Q u0 u1 files0 files1 file is taken = tt

pub use_stays : {X : Type 0} (r : Result X MountFault) (Q : MountFault → Type 0) (u0 : List ℕ) (files0 files1 : List (Option StoredFile))
    → MatchResult r (λ _. files1 ≡ files0 ++ None ∷ []) Q → OnOk r (IsUseOf u0 files0 → IsUseOf u0 files1)
use_stays r Q u0 files0 files1 is = use_goes_on r Q u0 u0 files0 files1 None is (taken_none u0)

-- ---- faults

first_in_range : (count : ℕ) (e : MountFault) (o : Option MountFault) → ((x : MountFault) → o ≡ Some x → IsInRange count x) → IsFirst e o → IsInRange count e
first_in_range count fault.Short o all is = all fault.Short is
first_in_range count fault.Header o all is = all fault.Header is
first_in_range count (fault.Entry slot) o all is = tt
first_in_range count (fault.Page slot page) o all is = all (fault.Page slot page) is
first_in_range count (fault.Shared block) o all is = all (fault.Shared block) is
first_in_range count fault.Fault o all is = tt
first_in_range count fault.NoMemory o all is = tt

broken_in_range : (u : List ℕ) (count slot : ℕ) (pages : List ℕ) (x : MountFault) → first_broken u (page_rules 33 count slot pages) ≡ Some x → IsInRange count x
broken_in_range u count slot [] x h = absurd (let no : None ≡ Some x = h in cc)
broken_in_range u count slot (page ∷ pages) x h =
    go (is_data 33 count page) refl (is_in page u) h (broken_in_range (u ++ page ∷ []) count slot pages x) where
      go : (t : Bool) → is_data 33 count page ≡ t → (b : Bool)
          → (if t then (if b then Some (fault.Shared page) else first_broken (u ++ page ∷ []) (page_rules 33 count slot pages)) else Some
          (fault.Page slot page)) ≡ Some x
          → (first_broken (u ++ page ∷ []) (page_rules 33 count slot pages) ≡ Some x → IsInRange count x) → IsInRange count x
      go false e b h rest =
          let is : Some (fault.Page slot page) ≡ Some x = h in
          let same : fault.Page slot page ≡ x = cc in subst (IsInRange count) same e
      go true e true h rest =
          let is : Some (fault.Shared page) ≡ Some x = h in
          let same : fault.Shared page ≡ x = cc in subst (IsInRange count) same e
      go true e false h rest = rest h

pub pages_in_range : {X : Type 0} (r : Result X MountFault) (u : List ℕ) (count slot : ℕ) (pages : List ℕ) (P : X → Type 0)
    → Finds r (first_broken u (page_rules 33 count slot pages)) P → IfErr r (IsInRange count)
pages_in_range (Ok x) u count slot pages P found = tt
pages_in_range (Err e) u count slot pages P found = first_in_range count e _ (broken_in_range u count slot pages) found

drive_fault_is : (e : MountFault) → is_drive_fault e ≡ true → e ≡ fault.Fault
drive_fault_is fault.Short h = absurd (true≢false (sym h))
drive_fault_is fault.Header h = absurd (true≢false (sym h))
drive_fault_is (fault.Entry slot) h = absurd (true≢false (sym h))
drive_fault_is (fault.Page slot page) h = absurd (true≢false (sym h))
drive_fault_is (fault.Shared block) h = absurd (true≢false (sym h))
drive_fault_is fault.Fault h = refl
drive_fault_is fault.NoMemory h = absurd (true≢false (sym h))

pub drive_in_range : (count : ℕ) (e : MountFault) → is_drive_fault e ≡ true → IsInRange count e
drive_in_range count e h = subst (IsInRange count) (sym (drive_fault_is e h)) tt

pub memory_in_range : {X : Type 0} (r : Result X MountFault) (P : X → Type 0) (count : ℕ) → MatchResult r P (λ e. e ≡ fault.NoMemory) → IfErr r (IsInRange count)
memory_in_range (Ok x) P count m = tt
memory_in_range (Err e) P count m = subst (IsInRange count) (sym m) tt

pub drive_of_count : (count : ℕ) (e : MountFault) → 64 ≤ count → count ≤ 4096 → is_drive_fault e ≡ true → IsOfCount count e
drive_of_count count e least most h = subst (IsOfCount count) (sym (drive_fault_is e h)) (least, most)

pub memory_of_count : {X : Type 0} (r : Result X MountFault) (P : X → Type 0) (count : ℕ) → MatchResult r P (λ e. e ≡ fault.NoMemory) → IfErr r (IsOfCount count)
memory_of_count (Ok x) P count m = tt
memory_of_count (Err e) P count m = subst (IsOfCount count) (sym m) tt

slots_of_count : (count : ℕ) (e : MountFault) → 64 ≤ count → count ≤ 4096 → IsInRange count e → IsOfCount count e
slots_of_count count fault.Short least most h = absurd h
slots_of_count count fault.Header least most h = absurd h
slots_of_count count (fault.Entry slot) least most h = (least, (most, h))
slots_of_count count (fault.Page slot page) least most h = (least, (most, h))
slots_of_count count (fault.Shared block) least most h = (least, (most, h))
slots_of_count count fault.Fault least most h = (least, most)
slots_of_count count fault.NoMemory least most h = tt

pub slots_count : {X : Type 0} (r : Result X MountFault) (count : ℕ) → 64 ≤ count → count ≤ 4096 → IfErr r (IsInRange count) → IfErr r (IsOfCount count)
slots_count (Ok x) count least most h = tt
slots_count (Err e) count least most h = slots_of_count count e least most h

pub either_of_count : (count : ℕ) (e : MountFault) → 64 ≤ count → count ≤ 4096 → (e ≡ fault.Fault) ⊎ (e ≡ fault.NoMemory) → IsOfCount count e
either_of_count count e least most (inl is) = subst (IsOfCount count) (sym is) (least, most)
either_of_count count e least most (inr is) = subst (IsOfCount count) (sym is) tt
