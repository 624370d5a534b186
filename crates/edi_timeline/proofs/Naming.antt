-- The name to which a path leads, from the other end of the path.
use Rattle.std.proofs.Common.{◌≡◌, ◌<◌, ◌≤◌, ℕ, zero, suc, ◌+◌, ◌-◌, ◌==◌, if◌then◌else◌, List, [], ◌∷◌, ◌++◌, length, refl, ap, sym, ◌∙◌, arith, append_assoc}
use Rattle.std.specs.Prelude.{codes, take, slice_index_or}
use Rattle.std.proofs.lemmas.Bool.{ne_eqb}
use Rattle.edi_calls.specs.Names.{Name}
use Rattle.edi_timeline.specs.Text.{branch_text, branches_text, process_text}
use Rattle.edi_timeline.specs.declared.rows.Row.{Row}
use Rattle.edi_timeline.specs.Told.{name_of, path_in, numbered}

pub name_last : (path : List (ℕ × ℕ)) (b : ℕ × ℕ) → name_of (path ++ b ∷ []) ≡ b.0 ∷ b.1 ∷ name_of path
name_last [] b = refl
name_last (c ∷ path) b = ap (λ name. name ++ c.0 ∷ c.1 ∷ []) (name_last path b)

more : (f i : ℕ) (name : Name) (g h : ℕ) →
    branches_text (f ∷ i ∷ (name ++ g ∷ h ∷ [])) ≡ branch_text f i ++ (codes "/" ++ branches_text (name ++ g ∷ h ∷ []))
more f i [] g h = refl
more f i (x ∷ name) g h = refl

pub branches_last : (c : ℕ × ℕ) (path : List (ℕ × ℕ)) (b : ℕ × ℕ) →
    branches_text (b.0 ∷ b.1 ∷ name_of (c ∷ path)) ≡ branch_text b.0 b.1 ++ (codes "/" ++ branches_text (name_of (c ∷ path)))
branches_last c path b = more b.0 b.1 (name_of path) c.0 c.1

-- ---- the path of a row

pub path_ends : (rows : List Row) (n : ℕ) (r : Row) → r.born ≡ 0 → path_in rows n r ≡ []
path_ends rows zero r e = refl
path_ends rows (suc n) r e = ap (λ b. if b == 0 then [] else (r.fork, r.branch) ∷ path_in rows n (numbered rows r.born)) e

pub path_more : (rows : List Row) (n : ℕ) (r : Row) → (r.born ≡ 0 → ⊥) →
    path_in rows (suc n) r ≡ (r.fork, r.branch) ∷ path_in rows n (numbered rows r.born)
path_more rows n r h = ap (λ b. if b then [] else (r.fork, r.branch) ∷ path_in rows n (numbered rows r.born)) (ne_eqb r.born 0 h)

-- ---- the name, from the last branch of a path on

pub take_last : {A : Type 0} (xs : List A) (n : ℕ) (d : A) → n < length xs → take (suc n) xs ≡ take n xs ++ slice_index_or xs n d ∷ []
take_last [] n d l = absurd (omega (arith, l))
take_last (x ∷ xs) zero d l = refl
take_last (x ∷ xs) (suc n) d l = ap (λ ys. x ∷ ys) (take_last xs n d (omega (arith, l)))

named_more : (name : Name) (f i : ℕ) → process_text (name ++ f ∷ i ∷ []) ≡ branches_text (name ++ f ∷ i ∷ [])
named_more [] f i = refl
named_more (x ∷ name) f i = refl

pub named : (path : List (ℕ × ℕ)) → (path ≡ [] → ⊥) → process_text (name_of path) ≡ branches_text (name_of path)
named [] h = absurd (h refl)
named (b ∷ path) h = named_more (name_of path) b.0 b.1

-- the text of the first branches of a path, and of one more
pub one_more : (path : List (ℕ × ℕ)) (n : ℕ) (d : ℕ × ℕ) → suc n < length path → let b : ℕ × ℕ = slice_index_or path (suc n) d in
    branches_text (name_of (take (suc (suc n)) path)) ≡ branch_text b.0 b.1 ++ (codes "/" ++ branches_text (name_of (take (suc n) path)))
one_more [] n d l = absurd (omega (arith, l))
one_more (c ∷ path) n d l =
    let b : ℕ × ℕ = slice_index_or (c ∷ path) (suc n) d in
    ap (λ p. branches_text (name_of p)) (take_last (c ∷ path) (suc n) d l)
    ∙ ap branches_text (name_last (c ∷ take n path) b)
    ∙ branches_last c (take n path) b

pub only_one : (path : List (ℕ × ℕ)) (d : ℕ × ℕ) → 0 < length path → let b : ℕ × ℕ = slice_index_or path 0 d in
    branches_text (name_of (take 1 path)) ≡ branch_text b.0 b.1
only_one [] d l = absurd (omega (arith, l))
only_one (c ∷ path) d l = refl

-- what has been put, with a branch and a `/` more
pub put_more : (path : List (ℕ × ℕ)) (left : ℕ) (d : ℕ × ℕ) (out put now : List ℕ) → 0 < left - 1 → left ≤ length path →
    put ≡ out ++ branch_text (slice_index_or path (left - 1) d).0 (slice_index_or path (left - 1) d).1 → now ≡ put ++ codes "/" →
    now ++ branches_text (name_of (take (left - 1) path)) ≡ out ++ branches_text (name_of (take left path))
put_more path left d out put now some l e f = go (left - 2) (omega (arith, some)) (omega (arith, some))
  where
    go : (n : ℕ) → left ≡ suc (suc n) → left - 1 ≡ suc n →
        now ++ branches_text (name_of (take (left - 1) path)) ≡ out ++ branches_text (name_of (take left path))
    go n is less =
        let b : ℕ × ℕ = slice_index_or path (suc n) d in
        let rest : List ℕ = branches_text (name_of (take (suc n) path)) in
        let e1 : put ≡ out ++ branch_text b.0 b.1 =
        e ∙ ap (λ k. out ++ branch_text (slice_index_or path k d).0 (slice_index_or path k d).1) less in
        (λ i. now ++ branches_text (name_of (take (less i) path)))
        ∙ ap (λ l. l ++ rest) (f ∙ ap (λ l. l ++ codes "/") e1)
        ∙ append_assoc (out ++ branch_text b.0 b.1) (codes "/") rest
        ∙ append_assoc out (branch_text b.0 b.1) (codes "/" ++ rest)
        ∙ ap (λ l. out ++ l) (sym (one_more path n d (omega (arith, l, is))))
        ∙ (λ i. out ++ branches_text (name_of (take (sym is i) path)))

-- a path, with a branch more
pub path_goes : (rows : List Row) (most level : ℕ) (r : Row) (path now : List (ℕ × ℕ)) → level < most → (r.born ≡ 0 → ⊥) →
    now ≡ path ++ (r.fork, r.branch) ∷ [] →
    now ++ path_in rows (most - (level + 1)) (numbered rows r.born) ≡ path ++ path_in rows (most - level) r
path_goes rows most level r path now l some e =
    let n : ℕ = most - (level + 1) in
    let more : most - level ≡ suc n = omega (arith, l) in
    ap (λ p. p ++ path_in rows n (numbered rows r.born)) e
    ∙ append_assoc path ((r.fork, r.branch) ∷ []) (path_in rows n (numbered rows r.born))
    ∙ ap (λ p. path ++ p) (sym (path_more rows n r some) ∙ ap (λ k. path_in rows k r) (sym more))
