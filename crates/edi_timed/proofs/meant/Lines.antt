-- The line of a WHEN, a CALL and a CALL_P is the last of its words.
use Rattle.std.proofs.Common.{◌≡◌, ℕ, ◌+◌, ◌-◌, List, ◌++◌, length, drop, Option, Some, None, refl, sym, subst, ap, ◌∙◌, arith}
use Rattle.std.proofs.Math.ListN.{get_or}
use Rattle.std.proofs.lemmas.List.{get_or-drop}
use Rattle.edi_calls.proofs.Names.{some_is}
use Rattle.edi_target.specs.Op.{Instruction, words_of}
use Rattle.edi_target.specs.Decode.{decode}
use Rattle.edi_target.specs.Fetch.{fetch}
use Rattle.edi_target.specs.Reading.{Reads, AreWords}
use Rattle.edi_target.proofs.Reading.{decode_reads}
use Rattle.edi_waits.specs.Places.{line_before}

module _ (words : List ℕ) (fine : AreWords words) where
  reads_at : (at next : ℕ) (op : Instruction) → fetch words at ≡ Some (op, next) → Reads words at op next
  reads_at at next op e = go (decode (drop at words)) refl e
    where
      go : (x : Option (Instruction × ℕ)) → decode (drop at words) ≡ x →
          elim x as (λ _. Option (Instruction × ℕ)) [ None ↦ None | Some found ↦ Some (found.0, at + found.1) ] ≡ Some (op, next) →
          Reads words at op next
      go None d e = absurd (cc)
      go (Some x) d e = subst (λ (y : Instruction × ℕ). Reads words at y.0 y.1) (some_is e) (decode_reads words at x.0 x.1 fine d)

  -- where this is the last of the words of an instruction
  pub line_there : (at next k line : ℕ) (op : Instruction) → fetch words at ≡ Some (op, next) → length (words_of op) ≡ k + 1 →
      ((rest : List ℕ) → get_or (words_of op ++ rest) k 0 ≡ line) → line_before words next ≡ line
  line_there at next k line op e long last =
      ap (λ n. get_or words n 0) (here r.follows) ∙ sym (get_or-drop at words k 0) ∙ ap (λ l. get_or l k 0) r.stands ∙ last (drop next words)
    where
      r : Reads words at op next
      r = reads_at at next op e

      here : next ≡ at + length (words_of op) → next - 1 ≡ at + k
      here f = omega (arith, f, long)
