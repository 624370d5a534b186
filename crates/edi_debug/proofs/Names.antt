-- Lines of a file of points, cut at their blank.
use Rattle.std.proofs.Common.{◌≡◌, ℕ, Bool, true, false, cond, ◌&&◌, ◌==◌, if◌then◌else◌, List, [], ◌∷◌, length, Option, Some, None, refl, sym, ap, ◌∙◌}
use Rattle.std.specs.Prelude.{nat_le, position, ⊤}
use Rattle.std.specs.List.{slice_split, list_all, onto_first}
use Rattle.std.proofs.lemmas.Bool.{false≢true, eqb-true, and_parts}
use Rattle.edi_trace.specs.Lines.{number_of}
use Rattle.edi_trace.proofs.Cuts.{cut_at, uncut}
use Rattle.edi_debug.specs.Points.{begins_with_letter, is_in_name, is_name, is_number, is_blank, spelled_by, spelled}

-- parts of a line: there is always one
abbrev pub Parts : List (List ℕ) → Type 0
Parts [] = ⊥
Parts (part ∷ parts) = ⊤

either_parts : (t : Bool) (ps qs : List (List ℕ)) → Parts ps → Parts qs → Parts (cond t ps qs)
either_parts true ps qs h k = h
either_parts false ps qs h k = k

onto_parts : (c : ℕ) (ps : List (List ℕ)) → Parts (onto_first c ps)
onto_parts c [] = tt
onto_parts c (p ∷ ps) = tt

pub split_parts : (p : ℕ → Bool) (bs : List ℕ) → Parts (slice_split p bs)
split_parts p [] = tt
split_parts p (b ∷ bs) = either_parts (p b) _ _ tt (onto_parts b (slice_split p bs))

-- a line that is one part is that part
single : (p : ℕ → Bool) (bs x : List ℕ) → slice_split p bs ≡ x ∷ [] → x ≡ bs
single p bs x e = go (position p bs) refl
  where
    many : (a : List ℕ) (more : List (List ℕ)) → Parts more → a ∷ more ≡ x ∷ [] → ⊥
    many a [] h f = h
    many a (y ∷ ys) h f = absurd (cc)

    go : (o : Option ℕ) → position p bs ≡ o → x ≡ bs
    go None f = let whole : bs ∷ [] ≡ x ∷ [] = sym (uncut p bs f) ∙ e in (cc)
    go (Some end) f =
        absurd (many _ (slice_split p _) (split_parts p _) (sym (cut_at p bs end f) ∙ e))

no_blank : (c : ℕ) → is_in_name c ≡ true → is_blank c ≡ false
no_blank c h = go (c == 32) refl
  where
    go : (t : Bool) → (c == 32) ≡ t → t ≡ false
    go false e = refl
    go true e = absurd (false≢true (ap is_in_name (sym (eqb-true c 32 e)) ∙ h))

-- a name has no blank
name_is_whole : (bs : List ℕ) → list_all is_in_name bs ≡ true → slice_split is_blank bs ≡ bs ∷ []
name_is_whole [] h = refl
name_is_whole (b ∷ bs) h =
    let p = and_parts (is_in_name b) (list_all is_in_name bs) h in
    ap (λ t. cond t ([] ∷ slice_split is_blank bs) (onto_first b (slice_split is_blank bs))) (no_blank b p.0) ∙ ap (onto_first b) (name_is_whole bs p.1)

name_parts : (bs : List ℕ) → is_name bs ≡ true → (nat_le (length bs) 250 ≡ true) × (list_all is_in_name bs ≡ true)
name_parts bs h =
    let p = and_parts (begins_with_letter bs && nat_le (length bs) 250) (list_all is_in_name bs) h in
    ((and_parts (begins_with_letter bs) (nat_le (length bs) 250) p.0).1, p.1)

pub name_is_short : (bs : List ℕ) → is_name bs ≡ true → nat_le (length bs) 250 ≡ true
name_is_short bs h = (name_parts bs h).0

-- ---- a line

pub no_cut : (line : List ℕ) → slice_split is_blank line ≡ line ∷ [] → spelled line ≡ None
no_cut line e = ap spelled_by e

pub no_number : (line digits rest : List ℕ) → slice_split is_blank line ≡ digits ∷ slice_split is_blank rest → is_number digits ≡ false
    → spelled line ≡ None
no_number line digits rest e f = ap spelled_by e ∙ go (slice_split is_blank rest)
  where
    go : (parts : List (List ℕ)) → spelled_by (digits ∷ parts) ≡ None
    go [] = refl
    go (name ∷ []) = ap (λ t. if t && is_name name then Some (number_of digits, name) else None) f
    go (name ∷ x ∷ more) = refl

pub no_name : (line digits rest : List ℕ) → slice_split is_blank line ≡ digits ∷ slice_split is_blank rest → is_name rest ≡ false
    → spelled line ≡ None
no_name line digits rest e f = ap spelled_by e ∙ go (slice_split is_blank rest) refl
  where
    neither : (t : Bool) → (t && false) ≡ false
    neither true = refl
    neither false = refl

    go : (parts : List (List ℕ)) → slice_split is_blank rest ≡ parts → spelled_by (digits ∷ parts) ≡ None
    go [] g = refl
    go (name ∷ []) g =
        ap (λ t. if is_number digits && t then Some (number_of digits, name) else None) (ap is_name (single is_blank rest name g) ∙ f)
        ∙ ap (λ t. if t then Some (number_of digits, name) else None) (neither (is_number digits))
    go (name ∷ x ∷ more) g = refl

pub is_spelled : (line digits name : List ℕ) → slice_split is_blank line ≡ digits ∷ slice_split is_blank name → is_number digits ≡ true → is_name name ≡ true
    → spelled line ≡ Some (number_of digits, name)
is_spelled line digits name e f g =
    ap spelled_by (e ∙ ap (λ parts. digits ∷ parts) (name_is_whole name (name_parts name g).1))
    ∙ ap (λ t. if t && is_name name then Some (number_of digits, name) else None) f ∙ ap (λ t. if t then Some (number_of digits, name) else None) g

-- ---- what a test gives

pub if_some : {A : Type 0} (b : Bool) (x y : A) → (if b then Some x else None) ≡ Some y → (b ≡ true) × (x ≡ y)
if_some true x y e = (refl, (cc))
if_some false x y e = absurd (cc)

pub if_none : {A : Type 0} (b : Bool) (x : A) → (if b then Some x else None) ≡ None → b ≡ false
if_none true x e = absurd (cc)
if_none false x e = refl
