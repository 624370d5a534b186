-- Helper. The list of open uses that the code keeps, and how it puts one in.
use Rattle.std.specs.Prelude.{◌≡◌, ◌⊎◌, ◌<◌, Contains, ℕ, suc, Bool, true, false, not, if◌then◌else◌, List, [], ◌∷◌, ◌++◌, map, Option, Some, None}
use Rattle.std.specs.Global.{Vec}
use Rattle.edi_unit.specs.declared.expressions.Callee.{Callee}
use Rattle.edi_unit.specs.declared.expressions.Callee.TheVariants as callee
use Rattle.edi_unit.specs.Tree.{Block, ProgramUnit}
use Rattle.edi_disjoint.specs.declared.mentions.Mention.{Mention}
use Rattle.edi_disjoint.specs.declared.mentions.Mention.TheVariants as mention
use Rattle.edi_disjoint.specs.declared.openly.OpenUse as code_use
use Rattle.edi_disjoint.specs.Footprints.{Variable, variable_at}
use Rattle.edi_disjoint.specs.Apart.{text_at}
use Rattle.edi_disjoint.specs.Open.{OpenUse, comes_before, AreInOrder, IsOpenUse}

abbrev pub use_of : code_use.OpenUse → OpenUse
use_of one = record { block = one.block; variable = record { home = one.home; number = one.number } }

-- a list with a mention at its end, unless that lends a variable
abbrev pub with_value : List Mention → Mention → List Mention
with_value xs (mention.Reads levels number) = xs ++ mention.Reads levels number ∷ []
with_value xs (mention.Assigns levels number) = xs ++ mention.Assigns levels number ∷ []
with_value xs (mention.Lends levels number) = xs
with_value xs (mention.Calls c) = xs ++ mention.Calls c ∷ []
with_value xs (mention.Passes c) = xs ++ mention.Passes c ∷ []

abbrev pub with_values : List Mention → List Mention → List Mention
with_values xs [] = xs
with_values xs (m ∷ ms) = with_values (with_value xs m) ms

-- the same texts without what they lend
abbrev pub AreValues : List (Vec Mention) → List (Vec Mention) → Type 0
AreValues texts values = map (λ t. t.items) values ≡ map (λ t. with_values [] t.items) texts

-- how many of these come before this one
abbrev pub index_among : OpenUse → List OpenUse → ℕ
index_among one [] = 0
index_among one (x ∷ xs) = if comes_before x one then suc (index_among one xs) else 0

-- the one there, if any, does not come before this one
abbrev pub is_past : OpenUse → Option code_use.OpenUse → Bool
is_past one None = true
is_past one (Some x) = not (comes_before (use_of x) one)

-- and this one does not come before it: it is the same
abbrev pub is_there : OpenUse → Option code_use.OpenUse → Bool
is_there one None = false
is_there one (Some x) = not (comes_before one (use_of x))

-- with this one at its place, unless it is there
abbrev pub put_in : OpenUse → List OpenUse → List OpenUse
put_in one [] = one ∷ []
put_in one (x ∷ xs) = if comes_before x one then x ∷ put_in one xs else if comes_before one x then one ∷ x ∷ xs else x ∷ xs

-- with these variables, which branch `branch` uses
abbrev pub with_variables : (branch : ℕ) → List OpenUse → List Variable → List OpenUse
with_variables branch xs [] = xs
with_variables branch xs (v ∷ vs) = with_variables branch (put_in (record { block = branch; variable = v }) xs) vs

-- with a procedure parameter that a text in block `here` calls or passes on
abbrev pub with_callee : List Block → (branch here : ℕ) → List OpenUse → Callee → List OpenUse
with_callee blocks branch here xs (callee.Block levels b) = xs
with_callee blocks branch here xs (callee.Formal levels number) =
    put_in (record { block = branch; variable = variable_at blocks here levels number }) xs

abbrev pub with_handled : List Block → (branch here : ℕ) → List OpenUse → Mention → List OpenUse
with_handled blocks branch here xs (mention.Reads levels number) = xs
with_handled blocks branch here xs (mention.Assigns levels number) = xs
with_handled blocks branch here xs (mention.Lends levels number) = xs
with_handled blocks branch here xs (mention.Calls c) = with_callee blocks branch here xs c
with_handled blocks branch here xs (mention.Passes c) = with_callee blocks branch here xs c

abbrev pub with_text : List Block → (branch here : ℕ) → List OpenUse → List Mention → List OpenUse
with_text blocks branch here xs [] = xs
with_text blocks branch here xs (m ∷ ms) = with_text blocks branch here (with_handled blocks branch here xs m) ms

abbrev pub with_blocks : List Block → (branch : ℕ) → List (Vec Mention) → List OpenUse → List ℕ → List OpenUse
with_blocks blocks branch texts xs [] = xs
with_blocks blocks branch texts xs (n ∷ ns) = with_blocks blocks branch texts (with_text blocks branch n xs (text_at texts n)) ns

-- these are of blocks with smaller numbers
abbrev pub AreBefore : (block : ℕ) → List OpenUse → Type 0
AreBefore block xs = (one : OpenUse) → Contains xs one → one.block < block

-- a list with the open uses of one block more
pub record Adds (unit : ProgramUnit) (block : ℕ) (old new : List OpenUse) : Type 0 where
  pub kept : (one : OpenUse) → Contains old one → Contains new one
  pub only : (one : OpenUse) → Contains new one → Contains old one ⊎ ((one.block ≡ block) × IsOpenUse unit one)
  pub all : (one : OpenUse) → one.block ≡ block → IsOpenUse unit one → Contains new one
  pub order : AreInOrder old → AreInOrder new
