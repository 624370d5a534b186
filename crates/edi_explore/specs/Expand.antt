-- Words of contracts. States of a search that are expanded: of each process that is ready there a stint was followed.
use Rattle.std.specs.Prelude.{◌≡◌, ◌<◌, ℕ, Bool, true, false, List, length}
use Rattle.edi_target.specs.Check.{CodeParts}
use Rattle.edi_explored.specs.Covered as covered
use Rattle.edi_explored.specs.machine.Kernels.{AreApart, IsFailed, OneGoes, StintOf}
use Rattle.edi_explored.specs.machine.Levels.{AreKept, FirstBelow, Nothing}
use Rattle.edi_explored.specs.machine.Ranks.{Among, IsExpandedTo, IsLinked}
use Rattle.edi_explore.specs.declared.ends.Limits.{Limits}
use Rattle.edi_explore.specs.declared.expand.Expanded.{Expanded}
use Rattle.edi_explore.specs.declared.expand.Expanded.TheVariants as expanded
use Rattle.edi_explore.specs.declared.finding.Search.{Search}
use Rattle.edi_explore.specs.Links.{first_states, targets_of}
use Rattle.edi_explore.specs.Offline.{offline}
use Rattle.edi_explore.specs.Shown.{asks_of, told_by}
use Rattle.edi_explore.specs.States.{AreStates}
use Rattle.edi_explore.specs.Tables.{Grows, table_of}

-- what is lacking of the first, or else of the other
abbrev pub both : Expanded → Expanded → Expanded
both expanded.Whole other = other
both one other = one

-- an ending that has a record or none
abbrev pub by_record : (told : Bool) → Expanded
by_record true = expanded.Whole
by_record false = expanded.Unrecorded

module _ (code : CodeParts) (input : List ℕ) where
  module _ (limits : Limits) (s : Search) where
    abbrev pub told : covered.Report
    told = told_by (asks_of limits) s.found.items

    abbrev pub count : ℕ
    count = length s.states.keys.keys

    abbrev pub Apart : (state : ℕ) → Type 0
    Apart state = AreApart ((table_of s.states input).processes state)

    -- the states to which the links of a state lead
    abbrev pub targets : (state : ℕ) → List ℕ
    targets = targets_of s.states.links.items

    -- the states that are kept, to which these links lead
    abbrev pub LeadsFrom : (state : ℕ) → ℕ → ℕ → Type 0
    LeadsFrom state = Among code (offline input) limits.turns told (table_of s.states input) count targets (targets state)

    abbrev pub Never : ℕ → Type 0
    Never = Nothing code (offline input) limits.turns told (table_of s.states input)

    -- the process at this index of those that are ready in a state has had a stint, which leads to a state that is kept, with a link, or to an
    -- ending that is told
    abbrev pub HasStint : (state index : ℕ) → Type 0
    HasStint state index =
        StintOf code (offline input) limits.turns told ℕ (table_of s.states input).processes (table_of s.states input).slots
        (table_of s.states input).system Never (LeadsFrom state) 0 state index

    -- and where it does not fail, the stint was more than a failed attempt
    pub record HasStintThat (fails : Bool) (state index : ℕ) : Type 0 where
      pub one : HasStint state index
      pub goes : fails ≡ false → IsFailed one.end one.after → ⊥

    abbrev pub HasOneThatGoes : (state : ℕ) → Type 0
    HasOneThatGoes state =
        OneGoes code (offline input) limits.turns told ℕ (table_of s.states input).processes (table_of s.states input).slots
        (table_of s.states input).system Never (LeadsFrom state) 0 state

    -- the state was expanded
    abbrev pub HasExpanded : (state : ℕ) → Type 0
    HasExpanded state = IsExpandedTo code (offline input) limits.turns told (table_of s.states input) count targets state

    -- the program was begun
    abbrev pub HasBegun : Type 0
    HasBegun = FirstBelow code (offline input) limits.turns told (table_of s.states input) count

    -- all states were expanded, and each stint leads along a link
    abbrev pub IsWhole : Type 0
    IsWhole = IsLinked code (offline input) limits.turns told (table_of s.states input) count targets (first_states count)

    -- each state is that of some kernel, and the system has this input
    pub record IsSearch : Type 0 where
      pub states : AreStates s.states
      pub input_is : s.calls.input.items ≡ input
      pub kept : AreKept code (offline input) limits.turns told (table_of s.states input) count

    -- of the processes at the first so many indices
    pub record HasStintsTo (index state : ℕ) (stands : Bool) : Type 0 where
      pub each : (i : ℕ) → i < index → HasStint state i
      pub goes : stands ≡ false → HasOneThatGoes state

  -- the search has what it had
  pub record GoesFurther (limits : Limits) (old new : Search) : Type 0 where
    pub search : IsSearch limits new
    pub grows : Grows old.states new.states

  -- it goes further, and where nothing is lacking this is so
  pub record ComesTo (limits : Limits) (old new : Search) (result : Expanded) (whole : Type 0) : Type 0 where
    pub further : GoesFurther limits old new
    pub so : result ≡ expanded.Whole → whole
