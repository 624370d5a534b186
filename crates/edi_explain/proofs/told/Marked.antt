-- One symbol more on the way to the next name of a line, and one name more on the way to one that is declared nowhere.
use Rattle.std.proofs.Common.{◌≡◌, ◌∙◌, ◌+◌, ◌-◌, ◌<◌, ℕ, suc, Bool, true, List, Option, Some, None, length, sym, ap, arith}
use Rattle.std.specs.Prelude.{option_and_then, option_map, if◌then◌else◌}
use Rattle.std.specs.Option.{option_or}
use Rattle.edi_lex.specs.declared.symbol.Mark.{Mark}
use Rattle.edi_explain.specs.told.Names.{Found, lost_from, may_mean, next_from, next_name, used_at}

-- ---- the next name

module _ (marks : List Mark) (line i : ℕ) (within : i < length marks) where
  abbrev by_use : Option (List ℕ) → Found
  by_use u = option_or (option_map (λ (letters : List ℕ). (i, letters)) u) (next_from marks line (i + 1) (length marks - (i + 1)))

  one_more : next_from marks line i (length marks - i) ≡ by_use (used_at marks line i)
  one_more = let same : length marks - i ≡ suc (length marks - (i + 1)) = omega (arith, within) in ap (λ n. next_from marks line i n) same

  pub passes : (all : Found) → None ≡ used_at marks line i → next_from marks line i (length marks - i) ≡ all
      → next_from marks line (i + 1) (length marks - (i + 1)) ≡ all
  passes all e h = ap (λ u. by_use u) e ∙ sym one_more ∙ h

-- ---- the first one that is declared nowhere

module _ (marks : List Mark) (line i names : ℕ) (some : 0 < names) where
  abbrev by_next : Found → Found
  by_next f = option_and_then (λ (one : ℕ × List ℕ). if may_mean one.1 marks then lost_from marks line (one.0 + 1) (names - 1) else Some one) f

  one_name_more : lost_from marks line i names ≡ by_next (next_name marks line i)
  one_name_more = let same : names ≡ suc (names - 1) = omega (arith, some) in ap (λ n. lost_from marks line i n) same

  pub no_name : (all : Found) → None ≡ next_name marks line i → lost_from marks line i names ≡ all → None ≡ all
  no_name all e h = ap (λ f. by_next f) e ∙ sym one_name_more ∙ h

  abbrev by_mean : ℕ × List ℕ → Bool → Found
  by_mean one b = if b then lost_from marks line (one.0 + 1) (names - 1) else Some one

  pub may_be_declared : (one : ℕ × List ℕ) (all : Found) → Some one ≡ next_name marks line i → true ≡ may_mean one.1 marks
      → lost_from marks line i names ≡ all → lost_from marks line (one.0 + 1) (names - 1) ≡ all
  may_be_declared one all e m h = ap (λ b. by_mean one b) m ∙ ap (λ f. by_next f) e ∙ sym one_name_more ∙ h
