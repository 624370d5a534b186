-- What a branch uses outside critical phases is what the code finds in the texts without them.
use Rattle.std.proofs.Common.{◌≡◌, ℕ, zero, suc, Bool, true, false, ◌&&◌, ◌==◌, ◌+◌, ◌<◌, ◌⊎◌, inl, inr, List, [], ◌∷◌, ◌++◌, map, length, if◌then◌else◌, nat_lt, Some, refl, sym, subst, ap, ◌∙◌, arith}
use Rattle.std.specs.Prelude.{Contains, not}
use Rattle.std.specs.Bool.{Decides}
use Rattle.std.specs.Global.{Vec}
use Rattle.std.proofs.lemmas.Bool.{eqb-true, lt-ltb}
use Rattle.std.proofs.lemmas.List.{length-map}
use Rattle.edi_unit.specs.declared.expressions.Callee.{Callee}
use Rattle.edi_unit.specs.declared.expressions.Callee.TheVariants as callee
use Rattle.edi_unit.specs.declared.units.BlockKind.{BlockKind}
use Rattle.edi_unit.specs.declared.units.BlockKind.TheVariants as kind
use Rattle.edi_unit.specs.Fits.{Fits}
use Rattle.edi_unit.specs.Need.{block_at}
use Rattle.edi_unit.specs.Tree.{Block, ProgramUnit}
use Rattle.edi_disjoint.specs.declared.mentions.Mention.{Mention}
use Rattle.edi_disjoint.specs.declared.mentions.Mention.TheVariants as mention
use Rattle.edi_disjoint.specs.declared.openly.OpenUse as code_use
use Rattle.edi_disjoint.specs.declared.touching.Footprint.{Footprint}
use Rattle.edi_disjoint.specs.Footprints.{Variable, IsBranch, IsTarget, NamesProgram, seen}
use Rattle.edi_disjoint.specs.Found.{Lists, AreTexts, CallsAreThere, IsReach}
use Rattle.edi_disjoint.specs.Apart.{view_of, nothing_in, blocks_in, targets_in, is_branch_kind, text_at}
use Rattle.edi_disjoint.specs.Open.{open_block, open_unit, OpenUse, NamesOpenly, UsesOpenly, used, outer_one, lent_one, handles, parameter_of, handled, IsOpenUse, comes_before, AreInOrder, AreOpenUses, NoOpenUses}
use Rattle.edi_disjoint.specs.Openly.{use_of, with_variables, with_blocks, AreBefore, AreValues, Adds}
use Rattle.edi_disjoint.proofs.ByValue.{IsValue, value_used, used_value, in_values, to_values, values_at}
use Rattle.edi_disjoint.proofs.Contained.{contains_append, contains_first, contains_halves, contains_later, contains_none, contains_right}
use Rattle.edi_disjoint.proofs.Deciding.{and_true, both_true, not_true, true_not}
use Rattle.edi_disjoint.proofs.Enclosing.{GoInwards, go_inwards}
use Rattle.edi_disjoint.proofs.Reaching.{text_is}
use Rattle.edi_disjoint.proofs.Mentioned.{Found, Outside, VarFound, nothing_holds, blocks_hold}
use Rattle.edi_disjoint.proofs.Footing.{begin_ends, targets_end, no_branch}
use Rattle.edi_disjoint.proofs.Opened.{up_opened, stands_opened, variable_opened, encloses_opened, then_encloses_opened, blocks_opened, var_opened, then_var_opened}
use Rattle.edi_disjoint.proofs.Written.{called_there}
use Rattle.edi_disjoint.proofs.Placing.{Put, put_then, variables_put, HandledBy, blocks_put}

-- ---- the program without its phases

opened_inwards : (bs : List Block) → GoInwards bs → GoInwards (map open_block bs)
opened_inwards bs g = record {
  outermost = up_opened bs 0 ∙ g.outermost;
  inner = λ n some l. subst (λ k. k < n) (sym (up_opened bs n)) (g.inner n some (subst (λ k. n < k) (length-map bs open_block) l));
}

pub opened_calls : (unit : ProgramUnit) → Fits unit → CallsAreThere (open_unit unit)
opened_calls unit ok n levels d h =
    subst (λ k. d < k) (sym (length-map unit.blocks open_block)) (called_there unit ok n levels d (stands_opened unit n (mention.Calls (callee.Block levels d)) h))

-- ---- one branch

module _ (unit : ProgramUnit) (ok : Fits unit) (b : ℕ) (is : IsBranch unit b) (texts : List (Vec Mention)) (t : AreTexts (open_unit unit) texts)
    (values : List (Vec Mention)) (without : AreValues texts values) (ns : List ℕ) (r : IsReach (open_unit unit) b ns) where
  abbrev U : ProgramUnit
  U = open_unit unit

  low : b < length U.blocks
  low = subst (λ k. b < k) (sym (length-map unit.blocks open_block)) is.0

  -- what the texts mention that the branch gets to, without what they lend
  abbrev There : ℕ → Mention → Type 0
  There k m = ⊥ ⊎ (Contains ns k × Contains (text_at values k) m)

  -- the variables that are used, in the words of the code
  abbrev Seen : List Variable → Variable → Type 0
  Seen targets v = Outside U b seen There v ⊎ (VarFound U b seen There × (⊥ ⊎ Contains targets v))

  seen_is : (targets : List Variable) (found : Footprint) → view_of found ≡ targets_in targets (blocks_in unit.blocks unit.program b values ns nothing_in) →
      Lists (view_of found).seen (Seen targets)
  seen_is targets found e =
      subst (λ view. Lists view.seen (Seen targets)) (sym (e ∙ ap (targets_in targets) (sym (blocks_opened unit.blocks unit.program b values ns nothing_in))))
      (targets_end U b There (λ x. ⊥) targets (blocks_in U.blocks U.program b values ns nothing_in)
      (begin_ends U b There (blocks_in U.blocks U.program b values ns nothing_in)
      (blocks_hold U b (opened_inwards unit.blocks (go_inwards unit ok)) low values (λ n m. ⊥) ns nothing_in (nothing_holds U b)))).seen_all

  -- in the words of the definition
  found_used : (x : Variable) → Found U b seen There x → NamesOpenly used unit b x
  found_used x k = go k.there
    where
      go : There k.block k.mention → NamesOpenly used unit b x
      go (inl o) = absurd o
      go (inr e) =
          let m : Contains (text_at texts k.block) k.mention × IsValue k.mention =
          in_values (text_at texts k.block) k.mention (subst (λ ms. Contains ms k.mention) (values_at texts values without k.block) e.1) in
          record {
            block = k.block;
            reach = r.0 k.block e.0;
            mention = k.mention;
            stands = subst (λ ms. Contains ms k.mention) (text_is U texts t k.block) m.0;
            is = value_used U.blocks k.block k.mention m.1 ∙ k.is;
          }

  used_found : (x : Variable) → NamesOpenly used unit b x → Found U b seen There x
  used_found x k =
      let m : IsValue k.mention × (seen U.blocks k.block k.mention ≡ Some x) = used_value U.blocks k.block k.mention x k.is in
      record {
        block = k.block;
        mention = k.mention;
        there = inr (
          r.1 k.block k.reach,
          subst (λ ms. Contains ms k.mention) (sym (values_at texts values without k.block))
              (to_values (text_at texts k.block) k.mention (subst (λ ms. Contains ms k.mention) (sym (text_is U texts t k.block)) k.stands) m.0),
        );
        is = m.1;
      }

  to_uses : (targets : List Variable) → Lists targets (IsTarget unit) → (v : Variable) → Seen targets v → UsesOpenly unit b v
  to_uses targets l v (inl k) = outer_one (found_used v k.0) (encloses_opened unit.blocks v.home b k.1)
  to_uses targets l v (inr k) =
      lent_one k.0.variable (found_used k.0.variable k.0.found) (var_opened unit k.0.variable k.0.var) (elim k.1 [ inl o ↦ absurd o | inr c ↦ l.0 v c ])

  -- what a text handles
  parameter_same : (n : ℕ) (c : Callee) → parameter_of U.blocks n c ≡ parameter_of unit.blocks n c
  parameter_same n (callee.Block levels d) = refl
  parameter_same n (callee.Formal levels number) = ap (λ (v : Variable). Some v) (variable_opened unit.blocks n levels number)

  handled_same : (n : ℕ) (m : Mention) → handled U.blocks n m ≡ handled unit.blocks n m
  handled_same n (mention.Reads levels number) = refl
  handled_same n (mention.Assigns levels number) = refl
  handled_same n (mention.Lends levels number) = refl
  handled_same n (mention.Calls c) = parameter_same n c
  handled_same n (mention.Passes c) = parameter_same n c

  by_text : (v : Variable) → HandledBy unit.blocks b texts ns v → UsesOpenly unit b v
  by_text v h = handles (record {
    block = h.0;
    reach = r.0 h.0 h.1;
    mention = h.2.0;
    stands = subst (λ ms. Contains ms h.2.0) (text_is U texts t h.0) h.2.1;
    is = handled_same h.0 h.2.0 ∙ h.2.2;
  })

  from_uses : (targets : List Variable) → Lists targets (IsTarget unit) → (v : Variable) → UsesOpenly unit b v → Seen targets v ⊎ HandledBy unit.blocks b texts ns v
  from_uses targets l v (outer_one k e) = inl (inl (used_found v k, then_encloses_opened unit.blocks v.home b e))
  from_uses targets l v (lent_one x k var target) =
      inl (inr (record { variable = x; found = used_found x k; var = then_var_opened unit x var }, inr (l.1 v target)))
  from_uses targets l v (handles k) =
      inr (k.block, r.1 k.block k.reach, (k.mention, subst (λ ms. Contains ms k.mention) (sym (text_is U texts t k.block)) k.stands, sym (handled_same k.block k.mention) ∙ k.is))

  pub branch_adds : (targets : List Variable) → Lists targets (IsTarget unit) → (found : Footprint) →
      view_of found ≡ targets_in targets (blocks_in unit.blocks unit.program b values ns nothing_in) → (xs : List OpenUse) →
      Adds unit b xs (with_blocks unit.blocks b texts (with_variables b xs (view_of found).seen) ns)
  branch_adds targets l found e xs =
      let put : Put xs (with_blocks unit.blocks b texts (with_variables b xs (view_of found).seen) ns)
      (λ x. ((b ≡ x.block) × Contains (view_of found).seen x.variable) ⊎ ((b ≡ x.block) × HandledBy unit.blocks b texts ns x.variable)) =
      put_then xs (with_variables b xs (view_of found).seen) _ _ _ (variables_put b (view_of found).seen xs)
      (blocks_put unit.blocks b texts ns (with_variables b xs (view_of found).seen)) in
      record {
        kept = put.kept;
        only = λ x h. elim (put.only x h) [
          | inl o ↦ inl o
          | inr q ↦ elim q [
            | inl k ↦ inr (one x k.0 (to_uses targets l x.variable ((seen_is targets found e).0 x.variable k.1)))
            | inr k ↦ inr (one x k.0 (by_text x.variable k.1))
          ]
        ];
        all = λ x q h. put.all x (found_too x q h.1);
        order = put.order;
      }
    where
      one : (x : OpenUse) → b ≡ x.block → UsesOpenly unit b x.variable → (x.block ≡ b) × IsOpenUse unit x
      one x q u = (sym q, (subst (IsBranch unit) q is, subst (λ k. UsesOpenly unit k x.variable) q u))

      found_too : (x : OpenUse) → x.block ≡ b → UsesOpenly unit x.block x.variable →
          ((b ≡ x.block) × Contains (view_of found).seen x.variable) ⊎ ((b ≡ x.block) × HandledBy unit.blocks b texts ns x.variable)
      found_too x q u = elim (from_uses targets l x.variable (subst (λ k. UsesOpenly unit k x.variable) q u)) [
        | inl k ↦ inl (sym q, (seen_is targets found e).1 x.variable k)
        | inr k ↦ inr (sym q, k)
      ]

-- ---- block after block

-- a block of that kind is a branch
pub a_branch : (unit : ProgramUnit) (n : ℕ) (block : Block) → is_branch_kind block.kind ≡ true → block ≡ block_at unit.blocks n → n < length unit.blocks → IsBranch unit n
a_branch unit n block e is l = (l, ap (λ b. b.kind) (sym is) ∙ of block.kind e)
  where
    of : (k : BlockKind) → is_branch_kind k ≡ true → k ≡ kind.Branch
    of kind.Program h = absurd (cc)
    of kind.Procedure h = absurd (cc)
    of kind.Function h = absurd (cc)
    of kind.Branch h = refl

-- a block of another kind adds nothing
pub no_branch_adds : (unit : ProgramUnit) (n : ℕ) (block : Block) → is_branch_kind block.kind ≡ false → block ≡ block_at unit.blocks n → (xs : List OpenUse) → Adds unit n xs xs
no_branch_adds unit n block e is xs = record {
  kept = λ x h. h;
  only = λ x h. inl h;
  all = λ x q h. absurd (no_branch unit n block e is (subst (IsBranch unit) q h.0));
  order = λ o. o;
}

-- the open uses of a block, put behind those of blocks before it
module _ (unit : ProgramUnit) (n : ℕ) (own : List OpenUse) (a : Adds unit n [] own) where
  of_block : (one : OpenUse) → Contains own one → (one.block ≡ n) × IsOpenUse unit one
  of_block one c = elim (a.only one c) [ inl o ↦ absurd (contains_none one o) | inr q ↦ q ]

  by_block : (x y : OpenUse) → x.block < y.block → comes_before x y ≡ true
  by_block x y l = go (x.block == y.block) refl
    where
      go : (s : Bool) → (x.block == y.block) ≡ s →
          (if s then (if x.variable.home == y.variable.home then nat_lt x.variable.number y.variable.number else nat_lt x.variable.home y.variable.home)
          else nat_lt x.block y.block) ≡ true
      go true e = absurd (let same : x.block ≡ y.block = eqb-true _ _ e in omega (arith, same, l))
      go false e = lt-ltb x.block y.block l

  all_in_order : (xs : List OpenUse) → AreBefore n xs → AreInOrder xs → AreInOrder (xs ++ own)
  all_in_order [] low o = a.order tt
  all_in_order (x ∷ []) low o = go own of_block (a.order tt)
    where
      go : (ys : List OpenUse) → ((one : OpenUse) → Contains ys one → (one.block ≡ n) × IsOpenUse unit one) → AreInOrder ys → AreInOrder (x ∷ ys)
      go [] of oy = tt
      go (y ∷ ys) of oy =
          let first : x.block < n = low x (contains_first x []) in
          let second : y.block ≡ n = (of y (contains_first y ys)).0 in
          (by_block x y (omega (arith, first, second)), oy)
  all_in_order (x ∷ y ∷ xs) low o = (o.0, all_in_order (y ∷ xs) (λ z c. low z (contains_later x z (y ∷ xs) c)) o.1)

  pub appended_adds : (xs : List OpenUse) → AreBefore n xs → Adds unit n xs (xs ++ own)
  appended_adds xs low = record {
    kept = λ x c. contains_append xs own x c;
    only = λ x c. elim (contains_halves xs own x c) [ inl o ↦ inl o | inr q ↦ inr (of_block x q) ];
    all = λ x e q. contains_right xs own x (a.all x e q);
    order = λ o. all_in_order xs low o;
  }

-- the open uses of the first n blocks
pub record SoFar (unit : ProgramUnit) (n : ℕ) (xs : List OpenUse) : Type 0 where
  pub low : AreBefore n xs
  pub sound : (one : OpenUse) → Contains xs one → IsOpenUse unit one
  pub complete : (one : OpenUse) → one.block < n → IsOpenUse unit one → Contains xs one
  pub order : AreInOrder xs

pub begins : (unit : ProgramUnit) → SoFar unit 0 []
begins unit = record { low = λ x h. absurd (contains_none x h); sound = λ x h. absurd (none h.1); complete = λ x l. absurd (low l); order = tt }
  where
    none : {n : ℕ} → n < 0 → ⊥
    none h = omega (arith, h)

    low : {n : ℕ} → n < 0 → ⊥
    low l = omega (arith, l)

pub one_more : (unit : ProgramUnit) (n : ℕ) (xs ys : List OpenUse) → SoFar unit n xs → Adds unit n xs ys → SoFar unit (n + 1) ys
one_more unit n xs ys h a = record {
  low = λ x c. elim (a.only x c) [
    | inl o ↦ let l : x.block < n = h.low x o in omega (arith, l)
    | inr q ↦ let e : x.block ≡ n = q.0 in omega (arith, e)
  ];
  sound = λ x c. elim (a.only x c) [ inl o ↦ h.sound x o | inr q ↦ q.1 ];
  complete = λ x l q. elim (before_or_at x.block n l) [ inl low ↦ a.kept x (h.complete x low q) | inr e ↦ a.all x e q ];
  order = a.order h.order;
}
  where
    before_or_at : (b n : ℕ) → b < n + 1 → (b < n) ⊎ (b ≡ n)
    before_or_at zero zero h = inr refl
    before_or_at zero (suc n) h = inl (omega arith)
    before_or_at (suc b) zero h = absurd (omega (arith, h))
    before_or_at (suc b) (suc n) h = elim (before_or_at b n (omega (arith, h))) [ inl l ↦ inl (omega (arith, l)) | inr e ↦ inr (ap suc e) ]

pub ends : (unit : ProgramUnit) (n : ℕ) (xs : List OpenUse) → n ≡ length unit.blocks → SoFar unit n xs → AreOpenUses unit xs
ends unit n xs e h = record { sound = h.sound; complete = λ x q. h.complete x (subst (λ k. x.block < k) (sym e) q.0.0) q; order = h.order }

-- ---- whether there is none

pub none_decides : (unit : ProgramUnit) (named empty : Bool) (us : List code_use.OpenUse) → empty ≡ (length us == 0) → Decides named (NamesProgram unit) →
    AreOpenUses unit (map use_of us) → Decides (not named && empty) (NoOpenUses unit)
none_decides unit named empty us is d h = (
  λ e. let both : (not named ≡ true) × (empty ≡ true) = and_true (not named) empty e in
      record {
        unnamed = λ n. not_true named both.0 (d.1 n);
        none = λ b v i u. nothing us (sym is ∙ both.1) (record { block = b; variable = v }) (h.complete (record { block = b; variable = v }) (i, u));
      },
  λ n. both_true (not named) empty (true_not named (λ e. n.unnamed (d.0 e))) (is ∙ emptied us h n),
)
  where
    nothing : (us : List code_use.OpenUse) → (length us == 0) ≡ true → (one : OpenUse) → Contains (map use_of us) one → ⊥
    nothing [] e one k = contains_none one k
    nothing (u ∷ us) e one k = let none : length (u ∷ us) ≡ 0 = eqb-true (length (u ∷ us)) 0 e in absurd (omega (arith, none))

    emptied : (us : List code_use.OpenUse) → AreOpenUses unit (map use_of us) → NoOpenUses unit → (length us == 0) ≡ true
    emptied [] h n = refl
    emptied (u ∷ us) h n =
        let first : IsOpenUse unit (use_of u) = h.sound (use_of u) (contains_first (use_of u) (map use_of us)) in
        absurd (n.none u.block (use_of u).variable first.0 first.1)
