-- Helper. What the code answers of texts and of two footprints.
use Rattle.std.specs.Prelude.{ℕ, Bool, true, false, not, ◌&&◌, ◌||◌, ◌==◌, List, [], ◌∷◌, Option, Some, None, slice_get}
use Rattle.std.specs.Prelude.{◌+◌, ◌-◌, ◌^◌, ◌++◌, if◌then◌else◌, length, map, min, nat_le, slice_index_or, slice_set}
use Rattle.std.specs.Global.{Vec}
use Rattle.edi_unit.specs.declared.expressions.Callee.{Callee}
use Rattle.edi_unit.specs.declared.expressions.Callee.TheVariants as callee
use Rattle.edi_unit.specs.Need.{block_at, outer, slot_at}
use Rattle.edi_unit.specs.Tree.{Block}
use Rattle.edi_disjoint.specs.declared.mentions.Mention.{Mention}
use Rattle.edi_disjoint.specs.declared.mentions.Mention.TheVariants as mention
use Rattle.edi_disjoint.specs.declared.reach.Queue.{Queue}
use Rattle.edi_disjoint.specs.declared.touching.Variable as code_variable
use Rattle.edi_disjoint.specs.Footprints.{Variable, variable_at}
use Rattle.edi_disjoint.specs.Found.{variable_of}
use Rattle.edi_unit.specs.declared.units.BlockKind.{BlockKind}
use Rattle.edi_unit.specs.declared.units.BlockKind.TheVariants as kind
use Rattle.edi_unit.specs.declared.units.Parameter.{Parameter}
use Rattle.edi_unit.specs.declared.units.Parameter.TheVariants as parameter
use Rattle.edi_disjoint.specs.declared.touching.Footprint.{Footprint}
use Rattle.edi_disjoint.specs.declared.touching.Footprints.{Footprints}

abbrev pub is_same : code_variable.Variable → code_variable.Variable → Bool
is_same x y = (x.home == y.home) && (x.number == y.number)

abbrev pub is_same_view : Variable → Variable → Bool
is_same_view x y = (x.home == y.home) && (x.number == y.number)

abbrev pub has_view : List Variable → Variable → Bool
has_view [] v = false
has_view (x ∷ xs) v = is_same_view x v || has_view xs v

abbrev pub with_view : List Variable → Variable → List Variable
with_view xs v = if has_view xs v then xs else xs ++ v ∷ []

abbrev pub has_variable : List code_variable.Variable → code_variable.Variable → Bool
has_variable xs v = has_view (map variable_of xs) (variable_of v)

-- two lists have a variable in common
abbrev pub do_meet : List code_variable.Variable → List code_variable.Variable → Bool
do_meet [] ys = false
do_meet (x ∷ xs) ys = has_variable ys x || do_meet xs ys

abbrev pub apart : Footprint → Footprint → Bool
apart one other =
    not (one.calls_parameter || other.calls_parameter)
    && (not (one.calls_system && other.calls_system)
    && (not (do_meet one.written.items other.seen.items) && not (do_meet one.seen.items other.written.items)))

abbrev pub both_apart : Option Footprint → Option Footprint → Bool
both_apart (Some one) (Some other) = apart one other
both_apart _ _ = false

-- the answer for two blocks
abbrev pub answer_of : Footprints → ℕ → ℕ → Bool
answer_of found a b = not found.named && both_apart (slice_get found.branches.items a) (slice_get found.branches.items b)

-- ---- the program's name

abbrev pub is_block : ℕ → Callee → Bool
is_block program (callee.Block levels b) = b == program
is_block program (callee.Formal levels v) = false

-- a mention of the program itself
abbrev pub is_naming : ℕ → Mention → Bool
is_naming program (mention.Reads levels v) = false
is_naming program (mention.Assigns levels v) = false
is_naming program (mention.Lends levels v) = false
is_naming program (mention.Calls c) = is_block program c
is_naming program (mention.Passes c) = is_block program c

abbrev pub names_in : ℕ → List Mention → Bool
names_in program [] = false
names_in program (m ∷ ms) = is_naming program m || names_in program ms

abbrev pub any_names : ℕ → List (Vec Mention) → Bool
any_names program [] = false
any_names program (t ∷ ts) = names_in program t.items || any_names program ts

-- ---- lists of blocks

abbrev pub has_number : List ℕ → ℕ → Bool
has_number [] n = false
has_number (x ∷ xs) n = (x == n) || has_number xs n

-- the blocks that have been found, in the order in which they came, and a mark for each block of the program that is among them
pub record Reached : Type 0 where
  pub list : List ℕ
  pub marks : List Bool

abbrev pub reached_of : Queue → Reached
reached_of queue = record { list = queue.list.items; marks = queue.marks.items }

-- with a block, unless it is among them or is none of the program
abbrev pub with_number : Reached → ℕ → Reached
with_number q n =
    if nat_le (length q.marks) n then q
    else if slice_index_or q.marks n false then q
    else record { list = q.list ++ n ∷ []; marks = slice_set q.marks n true }

-- with the blocks that a text calls by their names
abbrev pub with_mention : Reached → Mention → Reached
with_mention q (mention.Calls (callee.Block levels b)) = with_number q b
with_mention q (mention.Calls (callee.Formal levels v)) = q
with_mention q (mention.Reads levels v) = q
with_mention q (mention.Assigns levels v) = q
with_mention q (mention.Lends levels v) = q
with_mention q (mention.Passes c) = q

abbrev pub with_called : Reached → List Mention → Reached
with_called q [] = q
with_called q (m ∷ ms) = with_called (with_mention q m) ms

-- the text of a block; of one that is not there nothing
abbrev pub items_of : Option (Vec Mention) → List Mention
items_of None = []
items_of (Some t) = t.items

abbrev pub text_at : List (Vec Mention) → ℕ → List Mention
text_at texts n = items_of (slice_get texts n)

-- ---- blocks round a block, as many steps out as the last list is long; the program, which stands in itself, is the last

abbrev pub encloses_by : {A : Type 0} → List Block → (home here : ℕ) → List A → Bool
encloses_by blocks home here [] = false
encloses_by blocks home here (x ∷ xs) =
    ((block_at blocks here).up == home)
    || (not ((block_at blocks here).up == here) && encloses_by blocks home (block_at blocks here).up xs)

-- ---- the variables that texts lend

abbrev pub with_lent : List Block → (block : ℕ) → List Variable → Mention → List Variable
with_lent blocks block xs (mention.Lends levels number) = with_view xs (variable_at blocks block levels number)
with_lent blocks block xs (mention.Reads levels number) = xs
with_lent blocks block xs (mention.Assigns levels number) = xs
with_lent blocks block xs (mention.Calls c) = xs
with_lent blocks block xs (mention.Passes c) = xs

abbrev pub with_all_lent : List Block → (block : ℕ) → List Variable → List Mention → List Variable
with_all_lent blocks block xs [] = xs
with_all_lent blocks block xs (m ∷ ms) = with_all_lent blocks block (with_lent blocks block xs m) ms

-- the number of the next block; the last word has none
abbrev pub next_block : ℕ → ℕ
next_block n = min (n + 1) (2 ^ 32 - 1)

-- from block n on
abbrev pub all_lent : List Block → (n : ℕ) → List Variable → List (Vec Mention) → List Variable
all_lent blocks n xs [] = xs
all_lent blocks n xs (t ∷ ts) = all_lent blocks (next_block n) (with_all_lent blocks n xs t.items) ts

-- ---- what a branch touches, as it is found

pub record View : Type 0 where
  pub seen : List Variable
  pub written : List Variable
  pub system : Bool
  pub parameter : Bool
  pub sees_var : Bool
  pub writes_var : Bool

abbrev pub view_of : Footprint → View
view_of found = record {
  seen = map variable_of found.seen.items;
  written = map variable_of found.written.items;
  system = found.calls_system;
  parameter = found.calls_parameter;
  sees_var = found.sees_var;
  writes_var = found.writes_var;
}

abbrev pub is_var_slot : Option Parameter → Bool
is_var_slot None = false
is_var_slot (Some (parameter.Value t)) = false
is_var_slot (Some (parameter.Var t)) = true
is_var_slot (Some (parameter.Formal r)) = false

-- with a variable that a text in block `here` mentions, which may be written there; `round` is whether its block stands round the branch
abbrev pub seen_in : Bool → Variable → Bool → Bool → View → View
seen_in round v var written view = record view {
  seen = if round then with_view view.seen v else view.seen;
  written = if round && written then with_view view.written v else view.written;
  sees_var = view.sees_var || var;
  writes_var = view.writes_var || (var && written);
}

abbrev pub see_in : List Block → (branch here levels number : ℕ) → (written : Bool) → View → View
see_in blocks branch here levels number written view =
    seen_in (encloses_by blocks (outer blocks here levels) branch blocks) (variable_at blocks here levels number) (is_var_slot (slot_at blocks here levels number)) written view

abbrev pub call_in : List Block → (program here : ℕ) → Callee → View → View
call_in blocks program here (callee.Block levels b) view = view
call_in blocks program here (callee.Formal levels v) view =
    if outer blocks here levels == program then record view { system = true } else record view { parameter = true }

abbrev pub take_in : List Block → (program branch here : ℕ) → Mention → View → View
take_in blocks program branch here (mention.Reads levels number) view = see_in blocks branch here levels number false view
take_in blocks program branch here (mention.Assigns levels number) view = see_in blocks branch here levels number true view
take_in blocks program branch here (mention.Lends levels number) view = see_in blocks branch here levels number true view
take_in blocks program branch here (mention.Calls c) view = call_in blocks program here c view
take_in blocks program branch here (mention.Passes c) view = view

abbrev pub take_all_in : List Block → (program branch here : ℕ) → List Mention → View → View
take_all_in blocks program branch here [] view = view
take_all_in blocks program branch here (m ∷ ms) view = take_all_in blocks program branch here ms (take_in blocks program branch here m view)

-- the targets, where a `var` parameter is mentioned
abbrev pub target_in : Variable → View → View
target_in v view = record view {
  seen = if view.sees_var then with_view view.seen v else view.seen;
  written = if view.writes_var then with_view view.written v else view.written;
}

abbrev pub targets_in : List Variable → View → View
targets_in [] view = view
targets_in (v ∷ vs) view = targets_in vs (target_in v view)

abbrev pub nothing_in : View
nothing_in = record { seen = []; written = []; system = false; parameter = false; sees_var = false; writes_var = false }

abbrev pub blocks_in : List Block → (program branch : ℕ) → List (Vec Mention) → List ℕ → View → View
blocks_in blocks program branch texts [] view = view
blocks_in blocks program branch texts (n ∷ ns) view = blocks_in blocks program branch texts ns (take_all_in blocks program branch n (text_at texts n) view)

abbrev pub is_branch_kind : BlockKind → Bool
is_branch_kind kind.Program = false
is_branch_kind kind.Procedure = false
is_branch_kind kind.Function = false
is_branch_kind kind.Branch = true
