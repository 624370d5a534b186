-- What is said of devices and does not speak of the terminal's bytes.
use Rattle.std.proofs.Common.{ℕ, List, Option, Some, None, inl, inr}
use Rattle.std.specs.Prelude.{⊤}
use Rattle.edi_told.specs.Told.{WhereTold}
use Rattle.edi_host.specs.Contents.{Contents}
use Rattle.edi_calls.specs.Choice.{Choices}
use Rattle.edi_words.specs.Words.{ChoicesFrom}
use Rattle.edi_statuses.specs.Outside.{Outside, seen, Devices, devices_of, devices_with}
use Rattle.edi_statuses.specs.Steps.{AfterStep, goes, stops, ◌>>=◌, Ready, Fetches, ReadsChoices, Mounts}
use Rattle.edi_statuses.specs.Decided.{with_shown}

-- what is told later was told before
abbrev pub StillTold : {A : Type 0} → (x y : Option A) → Type 0
StillTold x None = ⊤
StillTold None (Some y) = ⊥
StillTold (Some x) (Some y) = ⊤

-- ---- the devices

where_map : {A : Type 0} (P : A → A → Type 0) (before : Option A) (e e' : A) → ((d : A) → P d e → P d e') → WhereTold before (Some e) P
    → WhereTold before (Some e') P
where_map P None e e' f told = told
where_map P (Some d) e e' f told = f d told

-- what is said of four devices and does not speak of the terminal's bytes
abbrev pub Silent : (Devices → Devices → Type 0) → Type 0
Silent P = (d e : Devices) (bytes : List ℕ) → P d e → P d (devices_with e.blocks e.input bytes e.printed)

pub devices_later : (P : Devices → Devices → Type 0) → Silent P → (b : Outside) (files : Option Contents) (blocks : Option (List (List ℕ)))
    (input x y printed : Option (List ℕ)) → StillTold x y →
    let m : Outside = record { files = files; blocks = blocks; input = input; shown = x; printed = printed } in
    WhereTold (devices_of (seen b m)) (devices_of m) P → WhereTold (devices_of (seen b (with_shown y m))) (devices_of (with_shown y m)) P
devices_later P silent b files None input x y printed still told = tt
devices_later P silent b files (Some blocks) None x y printed still told = tt
devices_later P silent b files (Some blocks) (Some input) x None printed still told = tt
devices_later P silent b files (Some blocks) (Some input) None (Some y) printed still told = absurd still
devices_later P silent b files (Some blocks) (Some input) (Some x) (Some y) None still told = tt
devices_later P silent b files (Some blocks) (Some input) (Some x) (Some y) (Some printed) still told =
    where_map P (devices_of b) (devices_with blocks input x printed) (devices_with blocks input y printed)
    (λ d p. silent d (devices_with blocks input x printed) y p) told

pub step_later : {A B : Type 0} (step step' : AfterStep A → Type 0) (more more' : A → AfterStep B → Type 0) → ((r : AfterStep A) → step r → step' r)
    → ((v : A) (r : AfterStep B) → more v r → more' v r) → (r : AfterStep B) → (step >>= more) r → (step' >>= more') r
step_later step step' more more' f g (goes v) (inl h) = absurd h
step_later step step' more more' f g (stops s) (inl h) = inl (f (stops s) h)
step_later step step' more more' f g r (inr h) = inr (h.0, f (goes h.0) h.1, g h.0 r h.2)

-- the steps of a command that runs the program of a file: what is run is made of the bytes, the choices and what the bytes give
abbrev pub ProgramSteps : {A B : Type 0} → Outside → (List ℕ → AfterStep B → Type 0) → (List ℕ → Choices → B → A) → (file : List ℕ) → ChoicesFrom
    → AfterStep A → Type 0
ProgramSteps o step a file from =
    Fetches o file >>= λ bytes. ReadsChoices o from >>= λ choices. step bytes >>= λ x. Mounts o >>= λ done. Ready (a bytes choices x)
