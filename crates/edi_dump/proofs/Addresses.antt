-- Where the blocks end in a code, one instruction after another.
use Rattle.std.proofs.Common.{◌≡◌, ℕ, ◌<◌, ◌≤◌, Bool, true, false, if◌then◌else◌, List, [], ◌∷◌, ◌++◌, Some, None, length, drop, map, refl, sym, ap}
use Rattle.std.proofs.Common.{◌∙◌, append_assoc, append-nil}
use Rattle.std.proofs.lemmas.Bool.{ltb-true, ltb-false}
use Rattle.std.specs.Prelude.{filter, nat_lt}
use Rattle.edi_target.specs.Op.{Instruction}
use Rattle.edi_target.specs.Decode.{decode}
use Rattle.edi_target.specs.Check.{Start, starts_from}
use Rattle.edi_target.specs.View.{Found}
use Rattle.edi_target.proofs.Places.{starts_step, starts_broken, starts_end}
use Rattle.edi_dump.specs.Frames.{block_ends, ends_block}

-- those of these instructions
abbrev pub ends_in : List Start → List ℕ
ends_in starts = map (λ (s : Start). s.at) (filter (λ (s : Start). ends_block s.op) starts)

one : (wanted : Bool) (s : Start) (rest : List Start)
    → map (λ (s : Start). s.at) (if wanted then s ∷ rest else rest) ≡ (if wanted then s.at ∷ [] else []) ++ map (λ (s : Start). s.at) rest
one true s rest = refl
one false s rest = refl

pub ends_more : (s : Start) (rest : List Start) → ends_in (s ∷ rest) ≡ (if ends_block s.op then s.at ∷ [] else []) ++ ends_in rest
ends_more s rest = one (ends_block s.op) s (filter (λ (s : Start). ends_block s.op) rest)

pub ends_step : (words : List ℕ) (at next : ℕ) (op : Instruction) (before after : List ℕ) → Found words at op next → at < next → next ≤ length words
    → after ≡ before ++ (if ends_block (Some op) then at ∷ [] else [])
    → before ++ ends_in (starts_from (drop at words) at 0) ≡ block_ends words
    → after ++ ends_in (starts_from (drop next words) next 0) ≡ block_ends words
ends_step words at next op before after found l m more h =
    let rest : List Start = starts_from (drop next words) next 0 in
    let own : List ℕ = if ends_block (Some op) then at ∷ [] else [] in
    ap (λ xs. xs ++ ends_in rest) more
    ∙ (append_assoc before own (ends_in rest)
    ∙ (ap (λ xs. before ++ xs)
    (sym (ap ends_in (starts_step words at next op found.decoded l m)
    ∙ ends_more (record { at = at; word = _; op = Some op }) rest))
    ∙ h))

-- where no instruction is read no block ends
none_left : (words : List ℕ) (at : ℕ) → decode (drop at words) ≡ None → ends_in (starts_from (drop at words) at 0) ≡ []
none_left words at e = by_test (nat_lt at (length words)) refl
  where
    by_test : (b : Bool) → nat_lt at (length words) ≡ b → ends_in (starts_from (drop at words) at 0) ≡ []
    by_test true t = ap ends_in (starts_broken words at e (ltb-true at (length words) t))
    by_test false t = ap ends_in (starts_end words at (ltb-false at (length words) t))

pub ends_all : (words : List ℕ) (at : ℕ) (ends : List ℕ) → decode (drop at words) ≡ None
    → ends ++ ends_in (starts_from (drop at words) at 0) ≡ block_ends words → ends ≡ block_ends words
ends_all words at ends e h = sym (append-nil ends) ∙ (ap (λ xs. ends ++ xs) (sym (none_left words at e)) ∙ h)
