-- A program without its critical phases: its blocks stand as they stood and have the variables that they had, and what is mentioned in it is
-- mentioned in the program.
use Rattle.std.proofs.Common.{◌≡◌, ℕ, zero, suc, inl, inr, Bool, true, ◌&&◌, ◌||◌, ◌==◌, if◌then◌else◌, List, [], ◌∷◌, ◌++◌, map}
use Rattle.std.proofs.Common.{refl, sym, subst, ap, ◌∙◌}
use Rattle.std.specs.Prelude.{Contains, not, slice_get}
use Rattle.std.specs.Global.{Vec}
use Rattle.edi_unit.specs.declared.expressions.Callee.TheVariants as callee
use Rattle.edi_unit.specs.Need.{block_at, outer, slots, slot_at}
use Rattle.edi_unit.specs.Tree as tree
use Rattle.edi_unit.specs.Tree.{Act, Acts, Clause, Clauses, Block, ProgramUnit}
use Rattle.edi_disjoint.specs.declared.mentions.Mention.{Mention}
use Rattle.edi_disjoint.specs.declared.mentions.Mention.TheVariants as mention
use Rattle.edi_disjoint.specs.Mentions.{in_expression, in_act, in_acts, in_clause, in_clauses}
use Rattle.edi_disjoint.specs.Footprints.{Variable, variable_at, Mentions, Reach, itself, called, Encloses, IsVarParameter, IsVar}
use Rattle.edi_disjoint.specs.Open.{open_act, open_acts, open_clause, open_clauses, open_block, open_unit, OpenMentions, OpenReach}
use Rattle.edi_disjoint.specs.Apart.{View, encloses_by, is_var_slot, seen_in, see_in, take_in, take_all_in, blocks_in, text_at}
use Rattle.edi_disjoint.proofs.Contained.{contains_append, contains_halves, contains_none, contains_right}
use Rattle.edi_disjoint.proofs.Seeing.{encloses_map}

-- ---- blocks

pub block_opened : (bs : List Block) (n : ℕ) → block_at (map open_block bs) n ≡ open_block (block_at bs n)
block_opened [] n = refl
block_opened (b ∷ bs) zero = refl
block_opened (b ∷ bs) (suc n) = block_opened bs n

module _ (bs : List Block) where
  abbrev os : List Block
  os = map open_block bs

  pub up_opened : (n : ℕ) → (block_at os n).up ≡ (block_at bs n).up
  up_opened n = ap (λ b. b.up) (block_opened bs n)

  pub slots_opened : (n : ℕ) → slots (block_at os n) ≡ slots (block_at bs n)
  slots_opened n = ap slots (block_opened bs n)

  pub outer_opened : (n levels : ℕ) → outer os n levels ≡ outer bs n levels
  outer_opened n zero = refl
  outer_opened n (suc levels) = ap (λ k. outer os k levels) (up_opened n) ∙ outer_opened (block_at bs n).up levels

  slot_opened : (n levels number : ℕ) → slot_at os n levels number ≡ slot_at bs n levels number
  slot_opened n levels number =
      ap (λ k. slice_get (slots (block_at os k)) number) (outer_opened n levels) ∙ ap (λ ps. slice_get ps number) (slots_opened (outer bs n levels))

  pub variable_opened : (n levels number : ℕ) → variable_at os n levels number ≡ variable_at bs n levels number
  variable_opened n levels number = ap (λ (k : ℕ). record { home = k; number = number }) (outer_opened n levels)

  pub encloses_opened : (h b : ℕ) → Encloses os h b → Encloses bs h b
  encloses_opened h b e = record { levels = e.levels; is = sym (outer_opened b (suc e.levels)) ∙ e.is }

  pub then_encloses_opened : (h b : ℕ) → Encloses bs h b → Encloses os h b
  then_encloses_opened h b e = record { levels = e.levels; is = outer_opened b (suc e.levels) ∙ e.is }

  -- ---- what the code finds of a branch

  encloses_by_opened : {A : Type 0} (home here : ℕ) (xs : List A) → encloses_by os home here xs ≡ encloses_by bs home here xs
  encloses_by_opened home here [] = refl
  encloses_by_opened home here (x ∷ xs) =
      ap (λ k. (k == home) || (not (k == here) && encloses_by os home k xs)) (up_opened here)
      ∙ ap (λ t. ((block_at bs here).up == home) || (not ((block_at bs here).up == here) && t)) (encloses_by_opened home (block_at bs here).up xs)

  see_opened : (branch here levels number : ℕ) (w : Bool) (view : View) → see_in os branch here levels number w view ≡ see_in bs branch here levels number w view
  see_opened branch here levels number w view =
      ap (λ k. seen_in (encloses_by os k branch os) (record { home = k; number = number }) (is_var_slot (slot_at os here levels number)) w view) (outer_opened here levels)
      ∙ ap (λ t. seen_in t (variable_at bs here levels number) (is_var_slot (slot_at os here levels number)) w view)
      (encloses_by_opened (outer bs here levels) branch os ∙ sym (encloses_map open_block bs (outer bs here levels) branch bs))
      ∙ ap (λ s. seen_in (encloses_by bs (outer bs here levels) branch bs) (variable_at bs here levels number) (is_var_slot s) w view) (slot_opened here levels number)

  take_opened : (program branch here : ℕ) (m : Mention) (view : View) → take_in os program branch here m view ≡ take_in bs program branch here m view
  take_opened program branch here (mention.Reads levels number) view = see_opened branch here levels number _ view
  take_opened program branch here (mention.Assigns levels number) view = see_opened branch here levels number _ view
  take_opened program branch here (mention.Lends levels number) view = see_opened branch here levels number _ view
  take_opened program branch here (mention.Calls (callee.Block levels c)) view = refl
  take_opened program branch here (mention.Calls (callee.Formal levels number)) view =
      ap (λ (k : ℕ). if k == program then record view { system = true } else record view { parameter = true }) (outer_opened here levels)
  take_opened program branch here (mention.Passes c) view = refl

  take_all_opened : (program branch here : ℕ) (ms : List Mention) (view : View) → take_all_in os program branch here ms view ≡ take_all_in bs program branch here ms view
  take_all_opened program branch here [] view = refl
  take_all_opened program branch here (m ∷ ms) view =
      ap (take_all_in os program branch here ms) (take_opened program branch here m view) ∙ take_all_opened program branch here ms (take_in bs program branch here m view)

  pub blocks_opened : (program branch : ℕ) (texts : List (Vec Mention)) (ns : List ℕ) (view : View) →
      blocks_in os program branch texts ns view ≡ blocks_in bs program branch texts ns view
  blocks_opened program branch texts [] view = refl
  blocks_opened program branch texts (n ∷ ns) view =
      ap (blocks_in os program branch texts ns) (take_all_opened program branch n (text_at texts n) view)
      ∙ blocks_opened program branch texts ns (take_all_in bs program branch n (text_at texts n) view)

-- ---- mentions

both_halves : (xs ys as' bs : List Mention) (m : Mention) → (Contains xs m → Contains as' m) → (Contains ys m → Contains bs m) → Contains (xs ++ ys) m → Contains (as' ++ bs) m
both_halves xs ys as' bs m f g h =
    elim (contains_halves xs ys m h) [ inl l ↦ contains_append as' bs m (f l) | inr r ↦ contains_right as' bs m (g r) ]

module _ (m : Mention) where
  mutual
    act_mentions : (a : Act) → Contains (in_act (open_act a)) m → Contains (in_act a) m
    act_mentions tree.skip h = h
    act_mentions (tree.assign v e) h = h
    act_mentions (tree.call c xs line) h = h
    act_mentions (tree.halt line) h = h
    act_mentions (tree.if_act cs) h = clauses_mention cs h
    act_mentions (tree.while_act cs) h = clauses_mention cs h
    act_mentions (tree.when_act cs line) h = absurd (contains_none m h)
    act_mentions (tree.cobegin bs line) h = h

    pub acts_mention : (as' : Acts) → Contains (in_acts (open_acts as')) m → Contains (in_acts as') m
    acts_mention tree.no_act h = h
    acts_mention (tree.act_then a as') h =
        both_halves (in_act (open_act a)) (in_acts (open_acts as')) (in_act a) (in_acts as') m (λ k. act_mentions a k) (λ k. acts_mention as' k) h

    clause_mentions : (c : Clause) → Contains (in_clause (open_clause c)) m → Contains (in_clause c) m
    clause_mentions (tree.clause e as') h =
        both_halves (in_expression e) (in_acts (open_acts as')) (in_expression e) (in_acts as') m (λ k. k) (λ k. acts_mention as' k) h

    clauses_mention : (cs : Clauses) → Contains (in_clauses (open_clauses cs)) m → Contains (in_clauses cs) m
    clauses_mention tree.no_clause h = h
    clauses_mention (tree.clause_then c cs) h =
        both_halves (in_clause (open_clause c)) (in_clauses (open_clauses cs)) (in_clause c) (in_clauses cs) m (λ k. clause_mentions c k) (λ k. clauses_mention cs k) h

module _ (unit : ProgramUnit) where
  -- what stands in a block without its phases stands in it
  pub stands_opened : (n : ℕ) (m : Mention) → OpenMentions unit n m → Mentions unit n m
  stands_opened n m h = acts_mention m (block_at unit.blocks n).body (subst (λ b. Contains (in_acts b.body) m) (block_opened unit.blocks n) h)

  pub var_opened : (v : Variable) → IsVarParameter (open_unit unit) v → IsVarParameter unit v
  var_opened v h = subst (λ ps. IsVar (slice_get ps v.number)) (slots_opened unit.blocks v.home) h

  pub then_var_opened : (v : Variable) → IsVarParameter unit v → IsVarParameter (open_unit unit) v
  then_var_opened v h = subst (λ ps. IsVar (slice_get ps v.number)) (sym (slots_opened unit.blocks v.home)) h

  -- what is reached outside the phases is reached
  pub opened_reach : (b n : ℕ) → OpenReach unit b n → Reach unit b n
  opened_reach b n itself = itself
  opened_reach b n (called c levels d r m) = called c levels d (opened_reach b c r) (stands_opened c (mention.Calls (callee.Block levels d)) m)
