-- An instruction stands only inside the words of a code, and has a word at least.
use Rattle.std.proofs.Common.{◌≡◌, ℕ, zero, suc, ◌+◌, ◌*◌, ◌<◌, Bool, true, false, nat_lt, if◌then◌else◌, List, [], ◌∷◌, length, drop, take, Option, Some}
use Rattle.std.proofs.Common.{None, arith, length-drop}
use Rattle.std.specs.Prelude.{⊤, IfSome, slice_get}
use Rattle.edi_target.specs.Op as op
use Rattle.edi_target.specs.Op.{Instruction, is_allowed, integer_of_word, address_of_words}
use Rattle.edi_target.specs.Decode.{Row, rows, no_operands, one_word, two_words, three_words, four_words, five_words, counted_text, counted_branches}
use Rattle.edi_target.specs.Decode.{branches_of, shaped, decode}
use Rattle.edi_target.specs.Fetch.{fetch}
use Rattle.edi_target.specs.Laws.{StandsBelow}

-- the row reads one word at least, which is the number
abbrev IsLong : Row → Type 0
IsLong row = (words : List ℕ) → IfSome (row words) (λ found. 0 < found.1)

abbrev AreLong : List Row → Type 0
AreLong [] = ⊤
AreLong (row ∷ rest) = IsLong row × AreLong rest

nothing_long : IsLong (λ _. None)
nothing_long words = tt

none_long : (i : Instruction) → IsLong (no_operands i)
none_long i words = omega arith

one_long : (f : ℕ → Instruction) → IsLong (one_word f)
one_long f [] = tt
one_long f (a ∷ ws) = omega arith

two_long : (f : ℕ → ℕ → Instruction) → IsLong (two_words f)
two_long f [] = tt
two_long f (a ∷ []) = tt
two_long f (a ∷ b ∷ ws) = omega arith

three_long : (f : ℕ → ℕ → ℕ → Instruction) → IsLong (three_words f)
three_long f [] = tt
three_long f (a ∷ []) = tt
three_long f (a ∷ b ∷ []) = tt
three_long f (a ∷ b ∷ c ∷ ws) = omega arith

four_long : (f : ℕ → ℕ → ℕ → ℕ → Instruction) → IsLong (four_words f)
four_long f [] = tt
four_long f (a ∷ []) = tt
four_long f (a ∷ b ∷ []) = tt
four_long f (a ∷ b ∷ c ∷ []) = tt
four_long f (a ∷ b ∷ c ∷ d ∷ ws) = omega arith

five_long : (f : ℕ → ℕ → ℕ → ℕ → ℕ → Instruction) → IsLong (five_words f)
five_long f [] = tt
five_long f (a ∷ []) = tt
five_long f (a ∷ b ∷ []) = tt
five_long f (a ∷ b ∷ c ∷ []) = tt
five_long f (a ∷ b ∷ c ∷ d ∷ []) = tt
five_long f (a ∷ b ∷ c ∷ d ∷ e ∷ ws) = omega arith

tested : (b : Bool) (x : Instruction × ℕ) → 0 < x.1 → IfSome (if b then None else Some x) (λ found. 0 < found.1)
tested true x h = tt
tested false x h = h

text_long : IsLong counted_text
text_long [] = tt
text_long (n ∷ ws) = tested (nat_lt (length ws) n) (op.text (take n ws), n + 2) (omega arith)

branches_long : IsLong counted_branches
branches_long [] = tt
branches_long (n ∷ []) = tt
branches_long (n ∷ line ∷ ws) = tested (nat_lt (length ws) (3 * n)) (op.cobegin line (branches_of (take (3 * n) ws)), 3 * n + 3) (omega arith)

row_at : (rs : List Row) → AreLong rs → (n : ℕ) → IfSome (slice_get rs n) IsLong
row_at [] h n = tt
row_at (r ∷ rs) h zero = h.0
row_at (r ∷ rs) h (suc n) = row_at rs h.1 n

all_long : AreLong rows
all_long = (
  nothing_long,
  (
    one_long _,
    (
      text_long,
      (
        one_long _,
        (
          two_long _,
          (
            one_long _,
            (
              four_long _,
              (
                one_long _,
                (
                  one_long _,
                  (
                    one_long _,
                    (
                      one_long _,
                      (
                        one_long _,
                        (
                          one_long _,
                          (
                            one_long _,
                            (
                              one_long _,
                              (
                                none_long op.not_,
                                (
                                  one_long _,
                                  (
                                    one_long _,
                                    (
                                      none_long op.lt,
                                      (
                                        none_long op.le,
                                        (
                                          none_long op.gt,
                                          (
                                            none_long op.ge,
                                            (
                                              none_long op.union,
                                              (
                                                none_long op.minus,
                                                (
                                                  none_long op.meet,
                                                  (
                                                    none_long op.in_,
                                                    (
                                                      one_long _,
                                                      (
                                                        three_long _,
                                                        (
                                                          two_long _,
                                                          (
                                                            two_long _,
                                                            (
                                                              two_long _,
                                                              (
                                                                two_long _,
                                                                (
                                                                  two_long _,
                                                                  (
                                                                    five_long _,
                                                                    (
                                                                      four_long _,
                                                                      (
                                                                        three_long _,
                                                                        (
                                                                          three_long _,
                                                                          (
                                                                            two_long _,
                                                                            (
                                                                              one_long _,
                                                                              (
                                                                                one_long _,
                                                                                (
                                                                                  two_long _,
                                                                                  (
                                                                                    none_long op.done,
                                                                                    (
                                                                                      branches_long,
                                                                                      (
                                                                                        none_long op.exit,
                                                                                        (two_long _, tt),
                                                                                      ),
                                                                                    ),
                                                                                  ),
                                                                                ),
                                                                              ),
                                                                            ),
                                                                          ),
                                                                        ),
                                                                      ),
                                                                    ),
                                                                  ),
                                                                ),
                                                              ),
                                                            ),
                                                          ),
                                                        ),
                                                      ),
                                                    ),
                                                  ),
                                                ),
                                              ),
                                            ),
                                          ),
                                        ),
                                      ),
                                    ),
                                  ),
                                ),
                              ),
                            ),
                          ),
                        ),
                      ),
                    ),
                  ),
                ),
              ),
            ),
          ),
        ),
      ),
    ),
  ),
)

pub shaped_long : (words : List ℕ) → IfSome (shaped words) (λ found. (0 < length words) × (0 < found.1))
shaped_long [] = tt
shaped_long (number ∷ ws) = of_row (slice_get rows number) (row_at rows all_long number)
  where
    with_words : (x : Option (Instruction × ℕ)) → IfSome x (λ found. 0 < found.1) → IfSome x (λ found. (0 < length (number ∷ ws)) × (0 < found.1))
    with_words None h = tt
    with_words (Some x) h = (omega arith, h)

    of_row : (r : Option Row) → IfSome r IsLong → IfSome (elim r [ None ↦ None | Some row ↦ row ws ]) (λ found. (0 < length (number ∷ ws)) × (0 < found.1))
    of_row None h = tt
    of_row (Some row) h = with_words (row ws) (h ws)

decode_long : (words : List ℕ) → IfSome (decode words) (λ found. (0 < length words) × (0 < found.1))
unfolding decode
decode_long words = of_shape (shaped words) (shaped_long words)
  where
    allowed : (b : Bool) (x : Instruction × ℕ) → (0 < length words) × (0 < x.1) → IfSome (if b then Some x else None)
        (λ found. (0 < length words) × (0 < found.1))
    allowed true x h = h
    allowed false x h = tt

    of_shape : (x : Option (Instruction × ℕ)) → IfSome x (λ found. (0 < length words) × (0 < found.1))
        → IfSome (elim x [ None ↦ None | Some x ↦ if is_allowed x.0 then Some x else None ]) (λ found. (0 < length words) × (0 < found.1))
    of_shape None h = tt
    of_shape (Some x) h = allowed (is_allowed x.0) x h

pub code_stands_below : (words : List ℕ) → StandsBelow (length words) (fetch words)
code_stands_below words at found e = of_decoded (decode (drop at words)) (decode_long (drop at words)) e
  where
    of_decoded : (x : Option (Instruction × ℕ)) → IfSome x (λ found. (0 < length (drop at words)) × (0 < found.1))
        → elim x [ None ↦ None | Some found ↦ Some (found.0, at + found.1) ] ≡ Some found → (at < length words) × (at < found.1)
    of_decoded None h e = absurd (cc)
    of_decoded (Some x) h e =
        let next : at + x.1 ≡ found.1 = next_is e in
        (omega (arith, length-drop at words, h.0), omega (arith, h.1))
      where
        next_is : Some (x.0, at + x.1) ≡ Some found → at + x.1 ≡ found.1
        next_is e = cc
