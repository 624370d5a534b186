-- What the code has found of a branch when it has looked through all texts that the branch gets to is its footprint.
use Rattle.std.proofs.Common.{◌≡◌, ℕ, ◌<◌, ◌⊎◌, inl, inr, Bool, true, false, if◌then◌else◌, List, [], ◌∷◌, length, Option}
use Rattle.std.proofs.Common.{sym, subst, ap, ◌∙◌}
use Rattle.std.specs.Prelude.{Contains}
use Rattle.std.specs.Bool.{Decides}
use Rattle.std.specs.Global.{Vec}
use Rattle.edi_unit.specs.Need.{block_at}
use Rattle.edi_unit.specs.Fits.{Fits}
use Rattle.edi_unit.specs.Tree.{Block, ProgramUnit}
use Rattle.edi_disjoint.specs.declared.mentions.Mention.{Mention}
use Rattle.edi_disjoint.specs.declared.touching.Footprint.{Footprint}
use Rattle.edi_disjoint.specs.Footprints.{Variable, Mentions, Reach, IsTarget, Touches, outside, through, seen, written}
use Rattle.edi_disjoint.specs.Found.{Lists, AreTexts, IsReach, IsFootprint}
use Rattle.edi_disjoint.specs.Footprints.{IsBranch}
use Rattle.edi_disjoint.specs.Apart.{View, view_of, nothing_in, blocks_in, targets_in, target_in, text_at}
use Rattle.edi_disjoint.specs.Apart.{with_view, is_branch_kind}
use Rattle.edi_disjoint.proofs.Contained.{contains_either, contains_first, contains_later, contains_none}
use Rattle.edi_disjoint.proofs.Enclosing.{GoInwards, go_inwards}
use Rattle.edi_disjoint.proofs.Reaching.{text_is}
use Rattle.edi_disjoint.proofs.Variables.{lists_as, lists_if, decides_as}
use Rattle.edi_disjoint.proofs.Mentioned.{Outside, VarFound, Called, Holds, holds_as, nothing_holds, blocks_hold}

-- ---- with the variables that are lent, where a `var` parameter is found

module _ (unit : ProgramUnit) (b : ℕ) (V : ℕ → Mention → Type 0) where
  pub record Ends (T : Variable → Type 0) (view : View) : Type 0 where
    pub seen_all : Lists view.seen (λ x. Outside unit b seen V x ⊎ (VarFound unit b seen V × T x))
    pub written_all : Lists view.written (λ x. Outside unit b written V x ⊎ (VarFound unit b written V × T x))
    pub sees : Decides view.sees_var (VarFound unit b seen V)
    pub writes : Decides view.writes_var (VarFound unit b written V)
    pub system : Decides view.system (Called unit b V (λ n. n ≡ unit.program))
    pub parameter : Decides view.parameter (Called unit b V (λ n. n ≡ unit.program → ⊥))

  pub begin_ends : (view : View) → Holds unit b V view → Ends (λ x. ⊥) view
  begin_ends view h = record {
    seen_all = lists_as view.seen (λ x k. inl k) (λ x k. elim k [ inl o ↦ o | inr e ↦ absurd e.1 ]) h.seen_all;
    written_all = lists_as view.written (λ x k. inl k) (λ x k. elim k [ inl o ↦ o | inr e ↦ absurd e.1 ]) h.written_all;
    sees = h.sees;
    writes = h.writes;
    system = h.system;
    parameter = h.parameter;
  }

  one_target : (of : List Block → ℕ → Mention → Option Variable) (T : Variable → Type 0) (v : Variable) (xs : List Variable) (x : Bool) → Decides x (VarFound unit b of V) →
      Lists xs (λ x. Outside unit b of V x ⊎ (VarFound unit b of V × T x)) → Lists (if x then with_view xs v else xs) (λ x. Outside unit b of V x ⊎ (VarFound unit b of V × (T x ⊎ (v ≡ x))))
  one_target of T v xs x d l =
      lists_as (if x then with_view xs v else xs)
      (λ y k. elim k [
        | inl o ↦ elim o [ inl i ↦ inl i | inr e ↦ inr (e.0, inl e.1) ]
        | inr e ↦ inr (e.0, inr e.1)
      ])
      (λ y k. elim k [
        | inl i ↦ inl (inl i)
        | inr e ↦ elim e.1 [ inl o ↦ inl (inr (e.0, o)) | inr q ↦ inr (e.0, q) ]
      ])
      (lists_if xs v (λ x. Outside unit b of V x ⊎ (VarFound unit b of V × T x)) x (VarFound unit b of V) d l)

  target_ends : (T : Variable → Type 0) (v : Variable) (view : View) → Ends T view → Ends (λ x. T x ⊎ (v ≡ x)) (target_in v view)
  target_ends T v view h = record {
    seen_all = one_target seen T v view.seen view.sees_var h.sees h.seen_all;
    written_all = one_target written T v view.written view.writes_var h.writes h.written_all;
    sees = h.sees;
    writes = h.writes;
    system = h.system;
    parameter = h.parameter;
  }

  ends_as : (T U : Variable → Type 0) (view : View) → ((x : Variable) → T x → U x) → ((x : Variable) → U x → T x) → Ends T view → Ends U view
  ends_as T U view f g h = record {
    seen_all = lists_as view.seen (λ x k. elim k [ inl o ↦ inl o | inr e ↦ inr (e.0, f x e.1) ]) (λ x k. elim k [ inl o ↦ inl o | inr e ↦ inr (e.0, g x e.1) ]) h.seen_all;
    written_all = lists_as view.written (λ x k. elim k [ inl o ↦ inl o | inr e ↦ inr (e.0, f x e.1) ]) (λ x k. elim k [ inl o ↦ inl o | inr e ↦ inr (e.0, g x e.1) ]) h.written_all;
    sees = h.sees;
    writes = h.writes;
    system = h.system;
    parameter = h.parameter;
  }

  pub targets_end : (T : Variable → Type 0) (vs : List Variable) (view : View) → Ends T view → Ends (λ x. T x ⊎ Contains vs x) (targets_in vs view)
  targets_end T [] view h = ends_as T _ view (λ x k. inl k) (λ x k. elim k [ inl o ↦ o | inr e ↦ absurd (contains_none x e) ]) h
  targets_end T (v ∷ vs) view h =
      ends_as (λ x. (T x ⊎ (v ≡ x)) ⊎ Contains vs x) (λ x. T x ⊎ Contains (v ∷ vs) x) (targets_in vs (target_in v view))
      (λ x k. elim k [
        | inl o ↦ elim o [ inl i ↦ inl i | inr q ↦ inr (subst (Contains (v ∷ vs)) q (contains_first v vs)) ]
        | inr e ↦ inr (contains_later v x vs e)
      ])
      (λ x k. elim k [
        | inl i ↦ inl (inl i)
        | inr e ↦ elim (contains_either v x vs e) [ inl q ↦ inl (inr q) | inr c ↦ inr c ]
      ])
      (targets_end (λ x. T x ⊎ (v ≡ x)) vs (target_in v view) (target_ends T v view h))

-- ---- all that the branch gets to

module _ (unit : ProgramUnit) (inwards : GoInwards unit.blocks) (b : ℕ) (low : b < length unit.blocks) where
  abbrev pub All : ℕ → Mention → Type 0
  All k l = Reach unit b k × Mentions unit k l

  pub all_hold : (texts : List (Vec Mention)) → AreTexts unit texts → (ns : List ℕ) → IsReach unit b ns → Holds unit b All (blocks_in unit.blocks unit.program b texts ns nothing_in)
  all_hold texts t ns r =
      holds_as unit b (λ k l. ⊥ ⊎ (Contains ns k × Contains (text_at texts k) l)) All _
      (λ k l v. elim v [ inl x ↦ absurd x | inr e ↦ (r.0 k e.0, subst (λ ms. Contains ms l) (text_is unit texts t k) e.1) ])
      (λ k l v. inr (r.1 k v.0, subst (λ ms. Contains ms l) (sym (text_is unit texts t k)) v.1))
      (blocks_hold unit b inwards low texts (λ n m. ⊥) ns nothing_in (nothing_holds unit b))

  -- in the words of the definition
  touches : (of : List Block → ℕ → Mention → Option Variable) (targets : List Variable) → Lists targets (IsTarget unit) → (x : Variable) →
      Outside unit b of All x ⊎ (VarFound unit b of All × (⊥ ⊎ Contains targets x)) → Touches of unit b x
  touches of targets l x (inl k) = outside (record { block = k.0.block; reach = k.0.there.0; mention = k.0.mention; stands = k.0.there.1; is = k.0.is }) k.1
  touches of targets l x (inr k) =
      through k.0.variable
      (record { block = k.0.found.block; reach = k.0.found.there.0; mention = k.0.found.mention; stands = k.0.found.there.1; is = k.0.found.is }) k.0.var
      (elim k.1 [ inl o ↦ absurd o | inr c ↦ l.0 x c ])

  touched : (of : List Block → ℕ → Mention → Option Variable) (targets : List Variable) → Lists targets (IsTarget unit) → (x : Variable) → Touches of unit b x →
      Outside unit b of All x ⊎ (VarFound unit b of All × (⊥ ⊎ Contains targets x))
  touched of targets l x (outside k e) = inl (record { block = k.block; mention = k.mention; there = (k.reach, k.stands); is = k.is }, e)
  touched of targets l x (through y k var target) =
      inr (record { variable = y; found = record { block = k.block; mention = k.mention; there = (k.reach, k.stands); is = k.is }; var = var }, inr (l.1 x target))

  pub footprint_is : (texts : List (Vec Mention)) → AreTexts unit texts → (ns : List ℕ) → IsReach unit b ns → (targets : List Variable) → Lists targets (IsTarget unit) →
      (found : Footprint) → view_of found ≡ targets_in targets (blocks_in unit.blocks unit.program b texts ns nothing_in) → IsFootprint unit b found
  footprint_is texts t ns r targets l found e =
      let h : Ends unit b All (λ x. ⊥ ⊎ Contains targets x) (targets_in targets (blocks_in unit.blocks unit.program b texts ns nothing_in)) =
      targets_end unit b All (λ x. ⊥) targets (blocks_in unit.blocks unit.program b texts ns nothing_in)
      (begin_ends unit b All (blocks_in unit.blocks unit.program b texts ns nothing_in) (all_hold texts t ns r)) in
      is (subst (Ends unit b All (λ x. ⊥ ⊎ Contains targets x)) (sym e) h)
    where
      is : Ends unit b All (λ x. ⊥ ⊎ Contains targets x) (view_of found) → IsFootprint unit b found
      is h = record {
        seen = lists_as _ (touches seen targets l) (touched seen targets l) h.seen_all;
        written = lists_as _ (touches written targets l) (touched written targets l) h.written_all;
        system = decides_as found.calls_system _ _ (λ k. record { block = k.block; reach = k.there.0; levels = k.levels; number = k.number; stands = k.there.1; is = k.of })
            (λ k. record { block = k.block; levels = k.levels; number = k.number; there = (k.reach, k.stands); of = k.is }) h.system;
        parameter = decides_as found.calls_parameter _ _ (λ k. record { block = k.block; reach = k.there.0; levels = k.levels; number = k.number; stands = k.there.1; other = k.of })
            (λ k. record { block = k.block; levels = k.levels; number = k.number; there = (k.reach, k.stands); of = k.other }) h.parameter;
      }

-- the texts of all blocks that the branch gets to, and then the targets
pub footing : (unit : ProgramUnit) → Fits unit → (texts : List (Vec Mention)) → AreTexts unit texts → (b : ℕ) → IsBranch unit b → (blocks : List ℕ) → IsReach unit b blocks →
    (targets : List Variable) → Lists targets (IsTarget unit) → (found : Footprint) →
    view_of found ≡ targets_in targets (blocks_in unit.blocks unit.program b texts blocks nothing_in) → IsFootprint unit b found
footing unit ok texts t b is blocks r targets l found e = footprint_is unit (go_inwards unit ok) b is.0 texts t blocks r targets l found e

-- a block of another kind is no branch
pub no_branch : (unit : ProgramUnit) (n : ℕ) (block : Block) → is_branch_kind block.kind ≡ false → block ≡ block_at unit.blocks n → IsBranch unit n → ⊥
no_branch unit n block e is h = not_so (sym (ap is_branch_kind (ap (λ b. b.kind) is ∙ h.1)) ∙ e)
  where
    not_so : true ≡ false → ⊥
    not_so e = cc
