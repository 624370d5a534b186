-- Jumps whose targets are set behind what they jump over.
use Rattle.std.proofs.Common.{◌≡◌, ℕ, ◌+◌, ◌-◌, ◌<◌, ◌≤◌, true, false, List, [], ◌∷◌, ◌++◌, length, refl, sym, ap, subst, ◌∙◌, arith, append_assoc}
use Rattle.std.specs.Prelude.{slice_set, slice_index_or, suc, drop, Result, Ok, Err, OnOk}
use Rattle.std.proofs.Math.Seq.{drop-cons}
use Rattle.std.proofs.lemmas.List.{append-nil, drop_all, length-append, length-set, set-append_left, set-append_right}
use Rattle.edi_unit.specs.declared.expressions.Operator.{Operator}
use Rattle.edi_unit.specs.declared.expressions.Operator.TheVariants as op
use Rattle.edi_target.specs.Op as instruction
use Rattle.edi_target.specs.Op.{Instruction, words_of, high_word, low_word}
use Rattle.edi_scheme.specs.Pieces.{Code, words_of_code, code_length, decision, ClauseKind, once, repeated, released, close_code}
use Rattle.edi_unit.specs.Tree.{Clauses, no_clause, clause_then}
use Rattle.edi_code.specs.Aimed.{aimed_at, aimed, AreThere, decided, IsTarget, target_of, Opens}
use Rattle.edi_code.specs.Emits.{Emits}
use Rattle.edi_code.specs.Scope.{is_end}
use Rattle.edi_code.proofs.Emitting.{words_append, emits_then}

-- ---- one jump

pub long_as_before : (target start : ℕ) (words : List ℕ) → length (aimed_at target start words) ≡ length words
long_as_before target start words =
    length-set (slice_set words (start + 1) (high_word target)) (start + 2) (low_word target) ∙ length-set words (start + 1) (high_word target)

-- what stands behind is as it was
pub aimed_before : (target start : ℕ) (words more : List ℕ) → start + 3 ≤ length words → aimed_at target start (words ++ more) ≡ aimed_at target start words
    ++ more
aimed_before target start words more there =
    let first : slice_set (words ++ more) (start + 1) (high_word target) ≡ slice_set words (start + 1) (high_word target) ++ more =
    set-append_left words more (start + 1) (high_word target) (omega (arith, there)) in
    ap (λ (l : List ℕ). slice_set l (start + 2) (low_word target)) first
    ∙ set-append_left (slice_set words (start + 1) (high_word target)) more (start + 2) (low_word target)
    (omega (arith, there, length-set words (start + 1) (high_word target)))

-- a jump between two lists of words
pub aimed_between : (target : ℕ) (before rest : List ℕ) (number high low : ℕ) → aimed_at target (length before) (before ++ (number ∷ high ∷ low ∷ rest))
    ≡ before ++ (number ∷ high_word target ∷ low_word target ∷ rest)
aimed_between target before rest number high low =
    let one : length before + 1 - length before ≡ 1 = omega arith in
    let two : length before + 2 - length before ≡ 2 = omega arith in
    let first : slice_set (before ++ (number ∷ high ∷ low ∷ rest)) (length before + 1) (high_word target) ≡ before
    ++ (number ∷ high_word target ∷ low ∷ rest) = set-append_right before (number ∷ high ∷ low ∷ rest) (length before) (length before + 1) (high_word target) refl
    (omega arith) ∙ ap (λ (k : ℕ). before ++ slice_set (number ∷ high ∷ low ∷ rest) k (high_word target)) one in
    ap (λ (l : List ℕ). slice_set l (length before + 2) (low_word target)) first
    ∙ set-append_right before (number ∷ high_word target ∷ low ∷ rest) (length before) (length before + 2) (low_word target) refl (omega arith)
    ∙ ap (λ (k : ℕ). before ++ slice_set (number ∷ high_word target ∷ low ∷ rest) k (low_word target)) two

-- ---- what is appended

pub grown : (old new : List ℕ) (code : Code) → Emits old new code → length new ≡ length old + code_length code
grown old new code p = ap length p.appended ∙ length-append old (words_of_code code)

-- an instruction with a target, and a code behind it: the target is set behind both
pub aims : (one two three four : List ℕ) (i : ℕ → Instruction) (number target : ℕ) (rest : Code)
    → ((k : ℕ) → words_of (i k) ≡ number ∷ high_word k ∷ low_word k ∷ []) → Emits one two (i 0 ∷ []) → Emits two three rest
    → four ≡ aimed_at target (length one) three → Emits one four (i target ∷ rest)
aims one two three four i number target rest is p q e =
    let all : three ≡ one ++ (number ∷ high_word 0 ∷ low_word 0 ∷ words_of_code rest) = (emits_then one two three (i 0 ∷ []) rest p q).appended
    ∙ ap (λ (l : List ℕ). one ++ (l ++ words_of_code rest)) (is 0) in
    record {
      appended =
          e
          ∙ ap (aimed_at target (length one)) all
          ∙ aimed_between target one (words_of_code rest) number (high_word 0) (low_word 0)
          ∙ ap (λ (l : List ℕ). one ++ (l ++ words_of_code rest)) (sym (is target));
    }

-- the same of what decides before a right operand
pub decides : (o : Operator) (one two three four : List ℕ) (behind : ℕ) (rest : Code) → Emits one two (decision o 0) → Emits two three rest
    → four ≡ decided o behind (length one) three → Emits one four (decision o behind ++ rest)
decides op.And one two three four behind rest p q e = aims one two three four instruction.and 30 behind rest (λ k. refl) p q e
decides op.Or one two three four behind rest p q e = aims one two three four instruction.or 31 behind rest (λ k. refl) p q e
decides o one two three four behind rest p q e = subst (λ l. Emits one l rest) (sym e) (emits_then one two three [] rest p q)

-- ---- jumps that start at indices

pub all_long_as_before : (target : ℕ) (starts words : List ℕ) → length (aimed target starts words) ≡ length words
all_long_as_before target [] words = refl
all_long_as_before target (p ∷ ps) words = all_long_as_before target ps (aimed_at target p words) ∙ long_as_before target p words

pub all_aimed_before : (target : ℕ) (starts words more : List ℕ) → AreThere starts (length words) → aimed target starts (words ++ more)
    ≡ aimed target starts words ++ more
all_aimed_before target [] words more there = refl
all_aimed_before target (p ∷ ps) words more there =
    ap (aimed target ps) (aimed_before target p words more there.0)
    ∙ all_aimed_before target ps (aimed_at target p words) more (subst (AreThere ps) (sym (long_as_before target p words)) there.1)

pub one_start_more : (target : ℕ) (starts : List ℕ) (start : ℕ) (words : List ℕ) → aimed target (starts ++ start ∷ []) words
    ≡ aimed_at target start (aimed target starts words)
one_start_more target [] start words = refl
one_start_more target (p ∷ ps) start words = one_start_more target ps start (aimed_at target p words)

pub there_among_more : (starts : List ℕ) (long more : ℕ) → long ≤ more → AreThere starts long → AreThere starts more
there_among_more [] long more l there = tt
there_among_more (p ∷ ps) long more l there = (omega (arith, there.0, l), there_among_more ps long more l there.1)

pub one_more_there : (starts : List ℕ) (start long : ℕ) → start + 3 ≤ long → AreThere starts long → AreThere (starts ++ start ∷ []) long
one_more_there [] start long l there = (l, tt)
one_more_there (p ∷ ps) start long l there = (there.0, one_more_there ps start long l there.1)

-- ---- codes with open jumps

-- nothing
pub opens_nothing : (kind : ClauseKind) (top : ℕ) (starts words : List ℕ) (code : ℕ → Code) → ((t : ℕ) → IsTarget kind top t → code t ≡ [])
    → Opens kind top starts starts words words code
opens_nothing kind top starts words code none = record {
  there = λ h. h;
  with_target =
      λ t is h. sym (append-nil (aimed t starts words)) ∙ ap (λ (c : Code). aimed t starts words ++ words_of_code c) (sym (none t is));
}

-- a code with no jump to the target
pub opens_closed : (kind : ClauseKind) (top : ℕ) (starts old new : List ℕ) (code : Code) (later : ℕ → Code) → Emits old new code
    → ((t : ℕ) → IsTarget kind top t → later t ≡ code) → Opens kind top starts starts old new later
opens_closed kind top starts old new code later p same = record {
  there = λ h. there_among_more starts (length old) (length new) (omega (arith, grown old new code p)) h;
  with_target =
      λ t is h. ap (aimed t starts) p.appended
      ∙ all_aimed_before t starts old (words_of_code code) h
      ∙ ap (λ (c : Code). aimed t starts old ++ words_of_code c) (sym (same t is));
}

-- a jump
pub opens_jump : (kind : ClauseKind) (top : ℕ) (starts later old new : List ℕ) → Emits old new (instruction.jump 0 ∷ []) → later ≡ starts
    ++ length old ∷ [] → Opens kind top starts later old new (λ t. instruction.jump t ∷ [])
opens_jump kind top starts later old new p e =
    let long : length new ≡ length old + 3 = grown old new (instruction.jump 0 ∷ []) p in
    record {
      there = λ h. subst (λ l. AreThere l (length new)) (sym e)
          (one_more_there starts (length old) (length new) (omega (arith, long)) (there_among_more starts (length old) (length new) (omega (arith, long)) h));
      with_target =
          λ t is h. ap (λ (l : List ℕ). aimed t l new) e
          ∙ one_start_more t starts (length old) new
          ∙ ap (λ (l : List ℕ). aimed_at t (length old) (aimed t starts l)) p.appended
          ∙ ap (aimed_at t (length old)) (all_aimed_before t starts old (28 ∷ high_word 0 ∷ low_word 0 ∷ []) h)
          ∙ ap (λ (k : ℕ). aimed_at t k (aimed t starts old ++ (28 ∷ high_word 0 ∷ low_word 0 ∷ []))) (sym (all_long_as_before t starts old))
          ∙ aimed_between t (aimed t starts old) [] 28 (high_word 0) (low_word 0);
    }

-- one behind another
pub opens_then : (kind : ClauseKind) (top : ℕ) (first second third old middle new : List ℕ) (a b : ℕ → Code) → Opens kind top first second old middle a
    → Opens kind top second third middle new b → Opens kind top first third old new (λ t. a t ++ b t)
opens_then kind top first second third old middle new a b p q = record {
  there = λ h. q.there (p.there h);
  with_target =
      λ t is h. q.with_target t is (p.there h)
      ∙ ap (λ (l : List ℕ). l ++ words_of_code (b t)) (p.with_target t is h)
      ∙ append_assoc (aimed t first old) (words_of_code (a t)) (words_of_code (b t))
      ∙ ap (λ (l : List ℕ). aimed t first old ++ l) (sym (words_append (a t) (b t)));
}

-- the same code, told in another form
pub opens_stated : (kind : ClauseKind) (top : ℕ) (first second old new : List ℕ) (a b : ℕ → Code) → ((t : ℕ) → a t ≡ b t)
    → Opens kind top first second old new a → Opens kind top first second old new b
opens_stated kind top first second old new a b same p = record {
  there = p.there;
  with_target = λ t is h. p.with_target t is h ∙ ap (λ (c : Code). aimed t first old ++ words_of_code c) (same t);
}

-- all jumps get their target
pub opens_all : (kind : ClauseKind) (top target : ℕ) (starts old unaimed new : List ℕ) (code : ℕ → Code) → IsTarget kind top target
    → Opens kind top [] starts old unaimed code → new ≡ aimed target starts unaimed → Emits old new (code target)
opens_all kind top target starts old unaimed new code is p e = record { appended = e ∙ p.with_target target is tt }

-- ---- what closes a list

pub closes_last : (top : ℕ) (starts words : List ℕ) (clauses : Clauses) → is_end clauses ≡ true
    → Opens once top starts starts words words (λ t. close_code once t clauses)
closes_last top starts words no_clause e = opens_nothing once top starts words (λ t. []) (λ t is. refl)
closes_last top starts words (clause_then c cs) e = absurd (cc)

pub closes_not_last : (top : ℕ) (starts later old new : List ℕ) (clauses : Clauses) → is_end clauses ≡ false → Emits old new (instruction.jump 0 ∷ [])
    → later ≡ starts ++ length old ∷ [] → Opens once top starts later old new (λ t. close_code once t clauses)
closes_not_last top starts later old new no_clause e p is = absurd (cc)
closes_not_last top starts later old new (clause_then c cs) e p is = opens_jump once top starts later old new p is

pub closes_loop : (top : ℕ) (starts old new : List ℕ) (clauses : Clauses) → Emits old new (instruction.loop top ∷ [])
    → Opens repeated top starts starts old new (λ t. close_code repeated t clauses)
closes_loop top starts old new clauses p =
    opens_closed repeated top starts old new (instruction.loop top ∷ []) (λ t. instruction.loop t ∷ []) p (λ t is. ap (λ (k : ℕ). instruction.loop k ∷ []) is)

pub closes_phase : (top : ℕ) (starts later old middle new : List ℕ) (clauses : Clauses) → Emits old middle (instruction.done ∷ [])
    → Emits middle new (instruction.jump 0 ∷ []) → later ≡ starts ++ length middle ∷ []
    → Opens released top starts later old new (λ t. close_code released t clauses)
closes_phase top starts later old middle new clauses p q is =
    opens_then released top starts starts later old middle new (λ t. instruction.done ∷ []) (λ t. instruction.jump t ∷ [])
    (opens_closed released top starts old middle (instruction.done ∷ []) (λ t. instruction.done ∷ []) p (λ t i. refl))
    (opens_jump released top starts later middle new q is)

-- what closes a list of this kind, told of the kind that it is
pub of_kind : (kind known : ClauseKind) (top : ℕ) (starts later old new : List ℕ) (clauses : Clauses) → kind ≡ known
    → Opens known top starts later old new (λ t. close_code known t clauses) → Opens kind top starts later old new (λ t. close_code kind t clauses)
of_kind kind known top starts later old new clauses e p =
    subst (λ (k : ClauseKind). Opens k top starts later old new (λ t. close_code k t clauses)) (sym e) p

-- ---- a loop over clauses

-- What was appended so far, with a target in all jumps that are open, and the rest are all of a code.
pub record IsOpen (kind : ClauseKind) (top : ℕ) (first second old new : List ℕ) (rest code : ℕ → Code) : Type 0 where
  pub there : AreThere first (length old) → AreThere second (length new)
  pub left : (target : ℕ) → IsTarget kind top target → AreThere first (length old)
      → aimed target second new ++ words_of_code (rest target) ≡ aimed target first old ++ words_of_code (code target)

pub open_at_first : (kind : ClauseKind) (top : ℕ) (starts words : List ℕ) (code : ℕ → Code) → IsOpen kind top starts starts words words code code
open_at_first kind top starts words code = record { there = λ h. h; left = λ t is h. refl }

pub open_later : (kind : ClauseKind) (top : ℕ) (first second third old middle new : List ℕ) (part rest later code : ℕ → Code)
    → IsOpen kind top first second old middle rest code → Opens kind top second third middle new part → ((t : ℕ) → rest t ≡ part t ++ later t)
    → IsOpen kind top first third old new later code
open_later kind top first second third old middle new part rest later code p q is = record {
  there = λ h. q.there (p.there h);
  left =
      λ t i h. ap (λ (l : List ℕ). l ++ words_of_code (later t)) (q.with_target t i (p.there h))
      ∙ append_assoc (aimed t second middle) (words_of_code (part t)) (words_of_code (later t))
      ∙ ap (λ (l : List ℕ). aimed t second middle ++ l) (sym (words_append (part t) (later t)))
      ∙ ap (λ (c : Code). aimed t second middle ++ words_of_code c) (sym (is t))
      ∙ p.left t i h;
}

pub open_at_last : (kind : ClauseKind) (top : ℕ) (first second old new : List ℕ) (code : ℕ → Code)
    → IsOpen kind top first second old new (λ t. []) code → Opens kind top first second old new code
open_at_last kind top first second old new code p = record {
  there = p.there;
  with_target = λ t i h. sym (append-nil (aimed t second new)) ∙ p.left t i h;
}

-- ---- the loop over the starts of jumps

pub aim_step : (target : ℕ) (starts : List ℕ) (i : ℕ) (old new whole : List ℕ) → i < length starts → new ≡ aimed_at target (slice_index_or starts i 0) old
    → AreThere (drop i starts) (length old) → aimed target (drop i starts) old ≡ whole
    → AreThere (drop (i + 1) starts) (length new) × (aimed target (drop (i + 1) starts) new ≡ whole)
aim_step target starts i old new whole within e there left =
    let next : suc i ≡ i + 1 = omega arith in
    let cut : drop i starts ≡ slice_index_or starts i 0 ∷ drop (i + 1) starts = drop-cons starts i 0 within
    ∙ ap (λ (n : ℕ). slice_index_or starts i 0 ∷ drop n starts) next in
    let known : AreThere (slice_index_or starts i 0 ∷ drop (i + 1) starts) (length old) = subst (λ l. AreThere l (length old)) cut there in (
      subst (AreThere (drop (i + 1) starts)) (sym (ap length e ∙ long_as_before target (slice_index_or starts i 0) old)) known.1,
      ap (aimed target (drop (i + 1) starts)) e ∙ sym (ap (λ (l : List ℕ). aimed target l old) cut) ∙ left,
    )

pub aim_ends : (target : ℕ) (starts : List ℕ) (i : ℕ) (words whole : List ℕ) → length starts ≤ i → aimed target (drop i starts) words ≡ whole → words ≡ whole
aim_ends target starts i words whole past left = sym (ap (λ (l : List ℕ). aimed target l words) (drop_all i starts past)) ∙ left

-- ---- what is so where a call succeeds

pub on_ok : {T E : Type 0} (r : Result T E) (P Q : Type 0) → (P → Q) → OnOk r P → OnOk r Q
on_ok (Err e) P Q f p = tt
on_ok (Ok x) P Q f p = f p

pub on_ok_two : {T E : Type 0} (r : Result T E) (P R Q : Type 0) → (P → R → Q) → OnOk r P → OnOk r R → OnOk r Q
on_ok_two (Err e) P R Q f p q = tt
on_ok_two (Ok x) P R Q f p q = f p q

-- ---- where lists go on

pub target_is : (kind : ClauseKind) (at long : ℕ) → IsTarget kind at (target_of kind at long)
target_is once at long = tt
target_is repeated at long = refl
target_is released at long = tt
