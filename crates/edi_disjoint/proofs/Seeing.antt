-- What is told by parts of a variable that a branch mentions, put together.
use Rattle.std.proofs.Common.{◌≡◌, ℕ, Bool, ◌&&◌, ◌||◌, ◌==◌, List, [], ◌∷◌, map, Option, Result, Ok, Err, refl, ap, ◌∙◌}
use Rattle.std.specs.Prelude.{OnOk, not}
use Rattle.edi_unit.specs.declared.units.Block as code_block
use Rattle.edi_unit.specs.declared.units.Parameter.{Parameter}
use Rattle.edi_unit.specs.Need.{block_at, outer, slot_at}
use Rattle.edi_unit.specs.Tree.{Block}
use Rattle.edi_unit.specs.View.{block_of}
use Rattle.edi_disjoint.specs.Apart.{View, encloses_by, is_var_slot, seen_in, see_in}

pub encloses_map : {A B : Type 0} (f : A → B) (blocks : List Block) (home here : ℕ) (xs : List A) → encloses_by blocks home here xs ≡ encloses_by blocks home here (map f xs)
encloses_map f blocks home here [] = refl
encloses_map f blocks home here (x ∷ xs) =
    ap (λ b. ((block_at blocks here).up == home) || (not ((block_at blocks here).up == here) && b)) (encloses_map f blocks home (block_at blocks here).up xs)

pub see_is : {T E : Type 0} (result : Result T E) (blocks : List code_block.Block) (branch here levels number home : ℕ) (slot : Option Parameter) (var round written : Bool)
    (before after : View) → home ≡ outer (map block_of blocks) here levels → slot ≡ slot_at (map block_of blocks) here levels number → var ≡ is_var_slot slot →
    round ≡ encloses_by (map block_of blocks) home branch blocks → OnOk result (after ≡ seen_in round (record { home = home; number = number }) var written before) →
    OnOk result (after ≡ see_in (map block_of blocks) branch here levels number written before)
see_is (Err e) blocks branch here levels number home slot var round written before after a b c d h = tt
see_is (Ok x) blocks branch here levels number home slot var round written before after a b c d h =
    h
    ∙ ap (λ r. seen_in r (record { home = home; number = number }) var written before) (d ∙ encloses_map block_of (map block_of blocks) home branch blocks)
    ∙ ap (λ v. seen_in (encloses_by (map block_of blocks) home branch (map block_of blocks)) (record { home = home; number = number }) v written before) (c ∙ ap is_var_slot b)
    ∙ ap (λ n. seen_in (encloses_by (map block_of blocks) n branch (map block_of blocks)) (record { home = n; number = number })
    (is_var_slot (slot_at (map block_of blocks) here levels number)) written before) a
