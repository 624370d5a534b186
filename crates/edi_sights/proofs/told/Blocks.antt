-- The lines of `when`s in blocks that are added, changed and given statements.
use Rattle.std.proofs.Common.{◌≡◌, ◌≢◌, ℕ, zero, suc, ◌<◌, Bool, true, false, ◌==◌, if◌then◌else◌, List, [], ◌∷◌, ◌++◌, length, refl, sym, ap, ◌∙◌, subst, inl, inr}
use Rattle.std.proofs.Common.{append_assoc, append-nil}
use Rattle.std.specs.Prelude.{slice_set}
use Rattle.std.proofs.lemmas.Bool.{eqb-true, cases_eq}
use Rattle.std.proofs.lemmas.Bool.Decides.{Decides-eqb}
use Rattle.std.proofs.lemmas.List.{get_or-set_same, get_or-set_other}
use Rattle.edi_unit.specs.Tree as unit
use Rattle.edi_unit.specs.Tree.{Acts, no_act, Block}
use Rattle.edi_unit.specs.Need.{no_block, block_at}
use Rattle.edi_static.specs.Environment.{Environment}
use Rattle.edi_static.specs.Statements.{acts_append, with_statements, add_statements}
use Rattle.edi_sights.specs.declared.awaits.Await.{Await}
use Rattle.edi_sights.specs.Whens.{act_lines, acts_lines, block_lines}
use Rattle.edi_sights.proofs.told.Told.{lines_in, and_then}

-- ---- `when`s that are met

one_more : (t : Bool) (line : ℕ) (l m n : List ℕ) → l ≡ m ++ n → (if t then line ∷ l else l) ≡ (if t then line ∷ m else m) ++ n
one_more true line l m n e = ap (λ x. line ∷ x) e
one_more false line l m n e = e

pub lines_append : (b : ℕ) (xs ys : List Await) → lines_in b (xs ++ ys) ≡ lines_in b xs ++ lines_in b ys
lines_append b [] ys = refl
lines_append b (a ∷ xs) ys = one_more (a.block == b) a.line (lines_in b (xs ++ ys)) (lines_in b xs) (lines_in b ys) (lines_append b xs ys)

-- ---- statements

pub appended_lines : (s more : Acts) → acts_lines (acts_append s more) ≡ acts_lines s ++ acts_lines more
appended_lines unit.no_act more = refl
appended_lines (unit.act_then a s) more =
    ap (λ l. act_lines a ++ l) (appended_lines s more) ∙ sym (append_assoc (act_lines a) (acts_lines s) (acts_lines more))

-- ---- blocks

-- a block without statements behind the others
pub begun_lines : (blocks : List Block) (block : Block) (b : ℕ) → block.body ≡ no_act → block_lines (blocks ++ block ∷ []) b ≡ block_lines blocks b
begun_lines [] block zero e = ap acts_lines e
begun_lines [] block (suc b) e = refl
begun_lines (x ∷ blocks) block zero e = refl
begun_lines (x ∷ blocks) block (suc b) e = begun_lines blocks block b e

-- a block that changes, but not in its statements
pub changed_lines : (blocks : List Block) (n : ℕ) (block : Block) → block.body ≡ (block_at blocks n).body → (b : ℕ)
    → block_lines (slice_set blocks n block) b ≡ block_lines blocks b
changed_lines [] n block e b = refl
changed_lines (x ∷ blocks) zero block e zero = ap acts_lines e
changed_lines (x ∷ blocks) zero block e (suc b) = refl
changed_lines (x ∷ blocks) (suc n) block e zero = refl
changed_lines (x ∷ blocks) (suc n) block e (suc b) = changed_lines blocks n block e b

-- ---- lines that come into a block

pub none_else : (n : ℕ) (l : List ℕ) (coming : ℕ → List ℕ) (b : ℕ) → b ≢ n → and_then n l coming b ≡ coming b
none_else n l coming b other = go (n == b) refl
  where
    go : (t : Bool) → (n == b) ≡ t → coming b ++ (if t then l else []) ≡ coming b
    go true e = absurd (other (sym (eqb-true n b e)))
    go false e = append-nil (coming b)

two_then : (t : Bool) (c l m : List ℕ) → (c ++ (if t then l else [])) ++ (if t then m else []) ≡ c ++ (if t then l ++ m else [])
two_then true c l m = append_assoc c l m
two_then false c l m = append-nil (c ++ [])

pub then_again : (n : ℕ) (l m : List ℕ) (coming : ℕ → List ℕ) (b : ℕ) → and_then n m (and_then n l coming) b ≡ and_then n (l ++ m) coming b
then_again n l m coming b = two_then (n == b) (coming b) l m

nothing_then : (t : Bool) (c : List ℕ) → c ++ (if t then [] else []) ≡ c
nothing_then true c = append-nil c
nothing_then false c = append-nil c

pub then_nothing : (n : ℕ) (coming : ℕ → List ℕ) (b : ℕ) → and_then n [] coming b ≡ coming b
then_nothing n coming b = nothing_then (n == b) (coming b)

-- the statements of a block, of which no other lines were still to come, have come
pub come : (n : ℕ) (s : Acts) (env : Environment) (awaits : List Await) (coming : ℕ → List ℕ) → n < length env.blocks → coming n ≡ [] →
    ((b : ℕ) → lines_in b awaits ≡ block_lines env.blocks b ++ and_then n (acts_lines s) coming b) →
    (b : ℕ) → lines_in b awaits ≡ block_lines (add_statements n s env).blocks b ++ coming b
come n s env awaits coming inside none h b = elim (cases_eq b n) [
  | inl is ↦ at_it is
  | inr other ↦
      h b ∙ ap (λ l. block_lines env.blocks b ++ l) (none_else n (acts_lines s) coming b other)
      ∙ ap (λ x. acts_lines x.body ++ coming b) (sym (get_or-set_other env.blocks n b block no_block other))
]
  where
    block : Block
    block = with_statements s (block_at env.blocks n)

    at_n : lines_in n awaits ≡ block_lines (add_statements n s env).blocks n ++ coming n
    at_n =
        h n ∙ ap (λ l. block_lines env.blocks n ++ l) (ap (λ (t : Bool). coming n ++ (if t then acts_lines s else [])) ((Decides-eqb n n).1 refl)
        ∙ ap (λ c. c ++ acts_lines s) none)
        ∙ sym (appended_lines (block_at env.blocks n).body s)
        ∙ ap (λ x. acts_lines x.body) (sym (get_or-set_same env.blocks n block no_block inside))
        ∙ sym (append-nil (block_lines (add_statements n s env).blocks n)) ∙ ap (λ c. block_lines (add_statements n s env).blocks n ++ c) (sym none)

    at_it : b ≡ n → lines_in b awaits ≡ block_lines (add_statements n s env).blocks b ++ coming b
    at_it e = subst (λ k. lines_in k awaits ≡ block_lines (add_statements n s env).blocks k ++ coming k) (sym e) at_n
