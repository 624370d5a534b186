-- The lines that are written from their end to their start.
use Rattle.std.proofs.Common.{◌≡◌, ℕ, zero, suc, List, [], ◌∷◌, ◌++◌, refl, ap, sym, ◌∙◌, arith, append_assoc, append-nil}
use Rattle.std.specs.Prelude.{codes, take}
use Rattle.edi_kernel.specs.declared.ends.Ending.{Ending}
use Rattle.edi_kernel.specs.declared.ends.Ending.TheVariants as ending
use Rattle.edi_timeline.specs.declared.rows.Row.{Row}
use Rattle.edi_timeline.specs.declared.rows.Kind.{Kind}
use Rattle.edi_timeline.specs.declared.rows.Kind.TheVariants as kind
use Rattle.edi_timeline.specs.Stints.{End}
use Rattle.edi_timeline.specs.Text.{branch_text, process_text, shown_text, stint_text}
use Rattle.edi_timeline.specs.Told.{end_as, name_of, numbered, path_in, path_of, process_in, said_of, start_in, stint_in}
use Rattle.edi_timeline.proofs.Naming.{path_ends, path_more}
use Rattle.edi_timeline.proofs.Processes.{process_first}

-- a text before another, which stands before the rest
pub joined : (a b rest x y : List ℕ) → x ≡ a ++ y → y ≡ b ++ rest → x ≡ (a ++ b) ++ rest
joined a b rest x y f g = f ∙ ap (λ l. a ++ l) g ∙ sym (append_assoc a b rest)

-- ---- the name

near_path : (rows : List Row) (r : Row) (n : ℕ) → r.born ≡ suc n → (numbered rows r.born).born ≡ 0 → path_of rows r ≡ (r.fork, r.branch) ∷ []
unfolding path_of
near_path rows r n is near =
    let some : r.born ≡ 0 → ⊥ = λ z. omega (arith, is, z) in
    ap (λ k. path_in rows k r) is
    ∙ path_more rows n r some
    ∙ ap (λ p. (r.fork, r.branch) ∷ p) (path_ends rows n (numbered rows r.born) near)

near_name : (rows : List Row) (r : Row) (n : ℕ) → r.born ≡ suc n → (numbered rows r.born).born ≡ 0 →
    process_text (process_in rows r) ≡ branch_text r.fork r.branch
near_name rows r n is near = ap (λ p. process_text (name_of p)) (near_path rows r n is near)

pub named_near : (rows : List Row) (r : Row) → (numbered rows r.born).born ≡ 0 → (x rest : List ℕ) → (r.born ≡ 0 → x ≡ codes "main" ++ rest) →
    ((r.born ≡ 0 → ⊥) → x ≡ branch_text r.fork r.branch ++ rest) → x ≡ process_text (process_in rows r) ++ rest
named_near rows r near x rest main branch = go r.born refl
  where
    go : (n : ℕ) → r.born ≡ n → x ≡ process_text (process_in rows r) ++ rest
    go zero is = main is ∙ ap (λ p. process_text p ++ rest) (sym (process_first rows r is))
    go (suc n) is = branch (λ z. omega (arith, is, z)) ∙ ap (λ t. t ++ rest) (sym (near_name rows r n is near))

-- ---- nothing was shown

none_taken : (xs : List ℕ) → take 0 xs ≡ []
none_taken [] = refl
none_taken (x ∷ xs) = refl

pub silent : (r : Row) (text : List ℕ) → r.said ≡ 0 → text ≡ text ++ shown_text (said_of r)
silent r text none =
    sym (append-nil text)
    ∙ ap (λ l. text ++ l) (sym (ap (λ n. shown_text (take n r.shown)) none ∙ ap shown_text (none_taken r.shown)))

-- ---- how the run has ended is told of none that goes on

same_end : (e : Ending) (r : Row) (k : Kind) → (k ≡ kind.Over → ⊥) → end_as ending.Done r k ≡ end_as e r k
same_end e r kind.Arrives h = refl
same_end e r kind.Waits h = refl
same_end e r kind.Tries h = refl
same_end e r kind.Forks h = refl
same_end e r kind.Ends h = refl
same_end e r kind.Over h = absurd (h refl)

pub same_line : (e : Ending) (rows : List Row) (number first : ℕ) (r : Row) → (r.kind ≡ kind.Over → ⊥) →
    stint_text number (stint_in ending.Done rows first r) ≡ stint_text number (stint_in e rows first r)
same_line e rows number first r goes =
    ap (λ (end : End). stint_text number (record {
      process = process_in rows r;
      first = first;
      last = r.used;
      from = start_in rows r;
      end = end;
      shown = said_of r;
    })) (same_end e r r.kind goes)
