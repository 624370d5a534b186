-- Lines that follow one another, and what taking a line leaves as it is.
use Rattle.std.proofs.Common.{ℕ, zero, suc, Bool, true, false, List, [], ◌∷◌, ◌++◌, refl}
use Rattle.std.specs.Prelude.{nat_le, ◌==◌}
use Rattle.edi_calls.specs.Choice.{Choices}
use Rattle.edi_session.specs.Session.{AfterLine, goes, ComesTo, Goes}
use Rattle.edi_session.specs.Shell.{Shell, took, limited, shell_of, limit, took_byte, echoed, last_line, take_line}
use Rattle.edi_shell.proofs.commands.Keeping.{TakingKeeps, itself, one_keeps, took_keeps}
use Rattle.edi_shell.specs.edit.Chain.{Chain, IsEditing}

-- ---- lines one after another

module _ (bound : ℕ) (choices : Choices) where
  -- a line of the editing more
  pub chain_on : (Row : AfterLine → Type 0) (n : ℕ) (now : Shell) (next : AfterLine) → Chain bound choices Row n (goes now) → IsEditing now.mode
      → Goes bound choices now next → Chain bound choices Row (suc n) next
  chain_on Row zero now next chain mode row = (now, chain, mode, row)
  chain_on Row (suc n) now next chain mode row =
      (chain.0, chain.1, chain.2, chain_on (Goes bound choices chain.0) n now next chain.3 mode row)

  -- the same lines by another row of the first
  pub chain_by : (Row Other : AfterLine → Type 0) → ((next : AfterLine) → Row next → Other next) → (n : ℕ) (next : AfterLine) → Chain bound choices Row n next
      → Chain bound choices Other n next
  chain_by Row Other to_row zero next chain = to_row next chain
  chain_by Row Other to_row (suc n) next chain = (chain.0, to_row (goes chain.0) chain.1, chain.2, chain.3)

  -- the last line of a chain, and those before it
  pub comes_of : (n : ℕ) (s : Shell) (next : AfterLine) → Chain bound choices (Goes bound choices s) n next
      → (now : Shell) × ComesTo bound choices n s now × Goes bound choices now next
  comes_of zero s next row = (s, refl, row)
  comes_of (suc n) s next chain =
      let rest = comes_of n chain.0 next chain.3 in (rest.0, (chain.0, chain.1, rest.1), rest.2)

-- ---- what taking a line leaves as it is

echo_keeps : (echo : Bool) (bytes : List ℕ) (s t : Shell) → TakingKeeps s t → TakingKeeps s (echoed echo bytes t)
echo_keeps true bytes s t k = record { drawn_is = k.drawn_is; mode_is = k.mode_is; before_is = k.before_is }
echo_keeps false bytes s t k = k

last_keeps : (echo : Bool) (line : List ℕ) (s t : Shell) → TakingKeeps s t → TakingKeeps s (shell_of (last_line echo line t))
last_keeps echo [] s t k = k
last_keeps echo (b ∷ bytes) s t k = echo_keeps echo (10 ∷ []) s t k

taken_keeps : (echo : Bool) (input line : List ℕ) (s t : Shell) → TakingKeeps s t → TakingKeeps s (shell_of (take_line echo input line t))
taken_keeps echo [] line s t k = one_keeps (nat_le limit t.taken) s (limited t) (last_line echo line t) k (last_keeps echo line s t k)
taken_keeps echo (b ∷ input) line s t k =
    one_keeps (nat_le limit t.taken) s (limited t) _ k
    (one_keeps (b == 10) s (took line (echoed echo (10 ∷ []) (took_byte input t)))
    (take_line echo input (line ++ b ∷ []) (echoed echo (b ∷ []) (took_byte input t)))
    (echo_keeps echo (10 ∷ []) s (took_byte input t) (took_keeps input s t k))
    (taken_keeps echo input (line ++ b ∷ []) s (echoed echo (b ∷ []) (took_byte input t))
    (echo_keeps echo (b ∷ []) s (took_byte input t) (took_keeps input s t k))))

pub line_keeps : (echo : Bool) (input line : List ℕ) (s : Shell) → TakingKeeps s (shell_of (take_line echo input line s))
line_keeps echo input line s = taken_keeps echo input line s s (itself s)
