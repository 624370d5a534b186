-- What stands at a code address, from what was read there.
use Rattle.std.proofs.Common.{◌≡◌, ℕ, ◌+◌, ◌-◌, ◌<◌, ◌≤◌, Bool, ◌&&◌, nat_le, List, [], ◌∷◌, Option, Some, None, drop, get_or, length, take, ap, subst, sym}
use Rattle.std.proofs.Common.{◌∙◌, arith}
use Rattle.std.specs.Prelude.{if◌then◌else◌}
use Rattle.std.proofs.lemmas.Bool.{le-leb}
use Rattle.edi_target.specs.Op as op
use Rattle.edi_target.specs.Op.{Instruction}
use Rattle.edi_target.specs.Decode.{decode, if_allowed, shaped}
use Rattle.edi_target.specs.Fetch.{fetch}
use Rattle.edi_target.specs.View.{Found}

abbrev behind : ℕ → Option (Instruction × ℕ) → Option (Instruction × ℕ)
behind at x = elim x [ None ↦ None | Some found ↦ Some (found.0, at + found.1) ]

pub fetched : (words : List ℕ) (at : ℕ) (op : Instruction) (next : ℕ) → Found words at op next → at < next → fetch words at ≡ Some (op, next)
fetched words at op next found after =
    let same : at + (next - at) ≡ next = omega arith in
    ap (behind at) found.decoded ∙ ap (λ (n : ℕ). Some (op, n)) same

pub not_fetched : (words : List ℕ) (at : ℕ) → decode (drop at words) ≡ None → fetch words at ≡ None
not_fetched words at none = ap (behind at) none

-- ---- an ENTRY by its words

-- what these six words say
abbrev entry_of : List ℕ → Instruction
entry_of ws = op.entry (get_or ws 1 0) (get_or ws 2 0) (get_or ws 3 0) (get_or ws 4 0) (get_or ws 5 0)

decode_entry : (ws : List ℕ) → 6 ≤ length ws → get_or (take 6 ws) 0 0 ≡ 33
    → 5 + get_or (take 6 ws) 2 0 + get_or (take 6 ws) 3 0 + get_or (take 6 ws) 4 0 ≤ get_or (take 6 ws) 1 0 → get_or (take 6 ws) 5 0 ≤ 1
    → decode ws ≡ Some (entry_of (take 6 ws), 6)
unfolding decode
decode_entry [] long is fits flag = absurd (omega (arith, long))
decode_entry (n ∷ []) long is fits flag = absurd (omega (arith, long))
decode_entry (n ∷ a ∷ []) long is fits flag = absurd (omega (arith, long))
decode_entry (n ∷ a ∷ b ∷ []) long is fits flag = absurd (omega (arith, long))
decode_entry (n ∷ a ∷ b ∷ c ∷ []) long is fits flag = absurd (omega (arith, long))
decode_entry (n ∷ a ∷ b ∷ c ∷ d ∷ []) long is fits flag = absurd (omega (arith, long))
decode_entry (n ∷ a ∷ b ∷ c ∷ d ∷ e ∷ rest) long is fits flag =
    let found : Option (Instruction × ℕ) = Some (op.entry a b c d e, 6) in
    ap (λ (m : ℕ). if_allowed (shaped (m ∷ a ∷ b ∷ c ∷ d ∷ e ∷ rest))) is
    ∙ ap (λ (t : Bool). if◌then◌else◌ {A = Option (Instruction × ℕ)} (t && nat_le e 1) found None) (le-leb (5 + b + c + d) a fits)
    ∙ ap (λ (t : Bool). if◌then◌else◌ {A = Option (Instruction × ℕ)} t found None) (le-leb e 1 flag)

pub entry_there : (words front : List ℕ) (at : ℕ) → front ≡ take 6 (drop at words) → 6 ≤ length (drop at words) → get_or front 0 0 ≡ 33
    → 5 + get_or front 2 0 + get_or front 3 0 + get_or front 4 0 ≤ get_or front 1 0 → get_or front 5 0 ≤ 1
    → fetch words at ≡ Some (entry_of front, at + 6)
entry_there words front at here long =
    subst (λ (ws : List ℕ). get_or ws 0 0 ≡ 33 → 5 + get_or ws 2 0 + get_or ws 3 0 + get_or ws 4 0 ≤ get_or ws 1 0 → get_or ws 5 0 ≤ 1
    → fetch words at ≡ Some (entry_of ws, at + 6)) (sym here)
    (λ is fits flag. ap (behind at) (decode_entry (drop at words) long is fits flag))
