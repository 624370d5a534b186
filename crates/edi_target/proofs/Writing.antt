-- What was written is read again.
use Rattle.std.proofs.Common.{◌≡◌, ℕ, ◌+◌, ◌/◌, ◌%◌, ◌^◌, ◌<◌, ◌≤◌, Bor, Bool, true, ◌&&◌, List, ◌++◌, length, drop, refl, ap, sym, ◌∙◌, arith}
use Rattle.std.proofs.Common.{length-append, append_assoc}
use Rattle.std.proofs.Math.Seq.{drop-append_seam, drop-append-add}
use Rattle.std.proofs.lemmas.List.{drop-append-le}
use Rattle.std.specs.Prelude.{IsTrue, nat_le, nat_lt, ◌==◌}
use Rattle.std.proofs.lemmas.Bool.{ltb-true}
use Rattle.edi_target.specs.Op.{Instruction, words_of, is_allowed, has_integers}
use Rattle.edi_target.specs.Decode.{branches_of}
use Rattle.edi_target.specs.Reading.{Reads}
use Rattle.edi_target.specs.View.{instruction_of, is_whole}
use Rattle.edi_target.specs.declared.op.Op.{Op}
use Rattle.edi_target.specs.declared.op.Op.TheVariants as code
use Rattle.edi_target.proofs.Reading.{both_true}
use Rattle.edi_target.proofs.Branches.{branch_count}

pub written_again : (old new : List ℕ) (op : Instruction) (whole : Bool) → IsTrue (whole && is_allowed op) → has_integers op ≡ true → new ≡ old ++ words_of op
    → (rest : List ℕ) → Reads (new ++ rest) (length old) op (length new)
written_again old new op whole a i e rest =
    let words : new ++ rest ≡ old ++ (words_of op ++ rest) = ap (λ (l : List ℕ). l ++ rest) e ∙ append_assoc old (words_of op) rest in
    record {
      allowed = (both_true whole (is_allowed op) a).1;
      integers = i;
      stands =
          ap (drop (length old)) words
          ∙ drop-append_seam old (words_of op ++ rest)
          ∙ ap (λ (l : List ℕ). words_of op ++ l) (sym (drop-append_seam new rest));
      follows = ap length e ∙ length-append old (words_of op);
    }

-- the number of the branches of a COBEGIN is a word
pub count_is_word : (op : Op) (line : ℕ) (words : Bor (List ℕ)) → op ≡ code.Cobegin line words → IsTrue (is_whole op && is_allowed (instruction_of op))
    → length words.now / 3 < 2 ^ 16
count_is_word op line words e a =
    let n : ℕ = length (branches_of words.now) in
    let here : (is_whole (code.Cobegin line words) && is_allowed (instruction_of (code.Cobegin line words))) ≡ true =
    ap (λ (o : Op). is_whole o && is_allowed (instruction_of o)) (sym e) ∙ a in
    let counted : (nat_le 1 n && nat_lt n (2 ^ 16)) ≡ true =
    (both_true (nat_le 1 n && nat_lt n (2 ^ 16)) _ (both_true (length words.now % 3 == 0) _ here).1).0 in
    let small : n < 2 ^ 16 = ltb-true n (2 ^ 16) (both_true (nat_le 1 n) _ counted).1 in
    omega (arith, branch_count words.now)

-- an instruction whose words stand behind others is read there
pub stands_there : (before : List ℕ) (op : Instruction) (behind : List ℕ) → is_allowed op ≡ true → has_integers op ≡ true
    → Reads (before ++ (words_of op ++ behind)) (length before) op (length before + length (words_of op))
stands_there before op behind a i =
    record {
      allowed = a;
      integers = i;
      stands =
          drop-append_seam before (words_of op ++ behind)
          ∙ ap (λ (l : List ℕ). words_of op ++ l)
          (sym (drop-append-add before (words_of op ++ behind) (length (words_of op)) ∙ drop-append_seam (words_of op) behind));
      follows = refl;
    }

-- what is read is read in a longer code
pub reads_longer : (words more : List ℕ) (at : ℕ) (op : Instruction) (next : ℕ) → next ≤ length words → Reads words at op next
    → Reads (words ++ more) at op next
reads_longer words more at op next l r =
    let front : at ≤ length words = omega (arith, r.follows) in
    record {
      allowed = r.allowed;
      integers = r.integers;
      stands =
          drop-append-le at words more front
          ∙ ap (λ (l : List ℕ). l ++ more) r.stands
          ∙ append_assoc (words_of op) (drop next words) more
          ∙ ap (λ (l : List ℕ). words_of op ++ l) (sym (drop-append-le next words more l));
      follows = r.follows;
    }
