-- Words of contracts. Where the stints of a search lead: links from state to state, and ranks that fall along them.
use Rattle.std.specs.Prelude.{◌≡◌, ◌<◌, ℕ, zero, suc, Bool, true, false, List, [], ◌∷◌, ◌++◌, length, ◌==◌, slice_index_or, Contains}
use Rattle.edi_explored.specs.machine.Ranks.{RanksFall}
use Rattle.edi_explore.specs.declared.states.Link.{Link}

abbrev pub with_target : (is : Bool) → (target : ℕ) → List ℕ → List ℕ
with_target true w ws = w ∷ ws
with_target false w ws = ws

-- the states to which these lead from one
abbrev pub targets_of : List Link → (from : ℕ) → List ℕ
targets_of [] v = []
targets_of (l ∷ links) v = with_target (l.from == v) l.to (targets_of links v)

-- one link more, from there to there
abbrev pub AddsLink : (from to : ℕ) → (old new : List Link) → Type 0
AddsLink from to old new = (l : Link) × (l.from ≡ from) × (l.to ≡ to) × (new ≡ old ++ l ∷ [])

-- the first so many states
abbrev pub first_states : (count : ℕ) → List ℕ
first_states zero = []
first_states (suc n) = n ∷ first_states n

-- the rank of a state; of one that has none it is 0
abbrev pub rank_in : List ℕ → (state : ℕ) → ℕ
rank_in ranks v = slice_index_or ranks v 0

-- the rank falls along this link, where it leads from a state that has one
abbrev pub FallsAlong : List ℕ → Link → Type 0
FallsAlong ranks l = l.from < length ranks → rank_in ranks l.to < rank_in ranks l.from

abbrev pub FallAlongAll : List ℕ → List Link → Type 0
FallAlongAll ranks links = (l : Link) → Contains links l → FallsAlong ranks l

-- all ranks are below this number
abbrev pub AreBelow : List ℕ → (most : ℕ) → Type 0
AreBelow ranks most = (v : ℕ) → v < length ranks → rank_in ranks v < most

-- THE FIRST SO MANY STATES HAVE RANKS, all below this number, which fall along each link from one of them
pub record HaveRanks (links : List Link) (count most : ℕ) : Type 0 where
  pub rank : ℕ → ℕ
  pub fall : RanksFall rank count most (first_states count) (targets_of links)
