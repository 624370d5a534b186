-- What a status of `watch` means does not change where the terminal takes its line.
use Rattle.std.proofs.Common.{ℕ, List, Option, inl, inr}
use Rattle.std.specs.Prelude.{◌⊎◌}
use Rattle.edi_calls.specs.declared.ends.Outside as failing
use Rattle.edi_calls.specs.Choice.{Choices}
use Rattle.edi_debug.specs.stops.Stops.{Watched}
use Rattle.edi_runs.specs.watch.Logs.{IsLogOf}
use Rattle.edi_words.specs.Words.{ChoicesFrom, Options}
use Rattle.edi_statuses.specs.declared.status.Status.{Status}
use Rattle.edi_statuses.specs.Outside.{Outside, seen, Lent, system_on}
use Rattle.edi_statuses.specs.Steps.{goes}
use Rattle.edi_statuses.specs.Executions.{text, BrokeRun, HasRun}
use Rattle.edi_statuses.specs.Commands.{IsLog, IsNothing, Watches, WatchSteps}
use Rattle.edi_statuses.specs.Broken.{HasBegun, WatchedLost, WatchedUnkept}
use Rattle.edi_statuses.specs.Decided.{with_shown}
use Rattle.edi_statuses.proofs.Terminal.{StillTold, broke_later, has_run_silent, nothing_later, told_later, watch_later, whole_later}

module _ (b m : Outside) (y : Option (List ℕ)) (still : StillTold m.shown y) where
  abbrev before_ : Outside
  before_ = seen b m

  abbrev later_ : Outside
  later_ = with_shown y m

  abbrev seen_later : Outside
  seen_later = seen b (with_shown y m)

  log_later : (bytes : List ℕ) (points : List Watched) (bound : ℕ) (choices : Choices) (log : List ℕ) → IsLog bytes points bound choices before_ m log
      → IsLog bytes points bound choices seen_later later_ log
  log_later bytes points bound choices log h =
      told_later b m y still (λ d e. IsLogOf bytes (system_on d) bound choices points log) (λ d e shown k. k) h

  pub watches_later : (bytes : List ℕ) (points : List Watched) (bound : ℕ) (choices : Choices) (out : List ℕ) (name : Option (List ℕ)) (s : Status)
      (shown : List ℕ) (kernel : Lent) → Watches bytes points bound choices out name s before_ m shown kernel
      → Watches bytes points bound choices out name s seen_later later_ shown kernel
  watches_later bytes points bound choices out name s shown kernel h = record {
    ending = h.ending;
    drawn = h.drawn;
    within = h.within;
    used = h.used;
    status_is = h.status_is;
    ran = told_later b m y still (λ d e. HasRun (text bytes) bound choices h.ending h.drawn d e shown kernel.after)
        (has_run_silent b m y still (text bytes) bound choices h.ending h.drawn shown kernel.after) h.ran;
    log = h.log;
    log_is = log_later bytes points bound choices h.log h.log_is;
    keeps = h.keeps;
  }

  unkept_later : (bytes : List ℕ) (points : List Watched) (bound : ℕ) (choices : Choices) (out : List ℕ) (name : Option (List ℕ)) (shown : List ℕ)
      (kernel : Lent) → WatchedUnkept bytes points bound choices out name before_ m shown kernel
      → WatchedUnkept bytes points bound choices out name seen_later later_ shown kernel
  unkept_later bytes points bound choices out name shown kernel h = (
    whole_later b m y still (text bytes) bound choices shown kernel h.0,
    elim h.1 [
      | inl same ↦ inl same
      | inr kept ↦ inr (record {
        asked = kept.asked;
        log = kept.log;
        log_is = log_later bytes points bound choices kept.log kept.log_is;
        keeps = kept.keeps;
      })
    ],
  )

  lost_later : (bytes : List ℕ) (points : List Watched) (bound : ℕ) (choices : Choices) (out : List ℕ) (name : Option (List ℕ)) (shown : List ℕ)
      (kernel : Lent) → WatchedLost bytes points bound choices out name before_ m shown kernel
      → WatchedLost bytes points bound choices out name seen_later later_ shown kernel
  lost_later bytes points bound choices out name shown kernel h = (
    whole_later b m y still (text bytes) bound choices shown kernel h.0,
    elim h.1 [
      | inl same ↦ inl same
      | inr lost ↦ inr (record {
        asked = lost.asked;
        log = lost.log;
        log_is = log_later bytes points bound choices lost.log lost.log_is;
        files = lost.files;
      })
    ],
  )

  pub watched_wants : (file points_file out : List ℕ) (o : Options) (shown : List ℕ) (kernel : Lent)
      → IsNothing before_ m shown kernel
      ⊎ HasBegun (WatchSteps before_ file points_file o.choices) (λ a. WatchedUnkept a.0 a.2 o.turns a.1 out o.record_file before_ m shown kernel)
      → IsNothing seen_later later_ shown kernel
      ⊎ HasBegun (WatchSteps seen_later file points_file o.choices) (λ a. WatchedUnkept a.0 a.2 o.turns a.1 out o.record_file seen_later later_ shown kernel)
  watched_wants file points_file out o shown kernel (inl h) = inl (nothing_later b m y still shown kernel h)
  watched_wants file points_file out o shown kernel (inr h) =
      inr (h.0, watch_later b m y still file points_file o.choices (goes h.0) h.1, unkept_later h.0.0 h.0.2 o.turns h.0.1 out o.record_file shown kernel h.2)

  pub watched_lost : (file points_file out : List ℕ) (o : Options) (shown : List ℕ) (kernel : Lent)
      → HasBegun (WatchSteps before_ file points_file o.choices) (λ a. WatchedLost a.0 a.2 o.turns a.1 out o.record_file before_ m shown kernel)
      → HasBegun (WatchSteps seen_later file points_file o.choices) (λ a. WatchedLost a.0 a.2 o.turns a.1 out o.record_file seen_later later_ shown kernel)
  watched_lost file points_file out o shown kernel h =
      (h.0, watch_later b m y still file points_file o.choices (goes h.0) h.1, lost_later h.0.0 h.0.2 o.turns h.0.1 out o.record_file shown kernel h.2)

  pub watched_broke : (file points_file : List ℕ) (from : ChoicesFrom) (bound : ℕ) (shown : List ℕ) (blamed : Option failing.Outside) (s : Status)
      → HasBegun (WatchSteps before_ file points_file from) (λ a. BrokeRun s blamed (text a.0) bound a.1 before_ m shown)
      → HasBegun (WatchSteps seen_later file points_file from) (λ a. BrokeRun s blamed (text a.0) bound a.1 seen_later later_ shown)
  watched_broke file points_file from bound shown blamed s h =
      (h.0, watch_later b m y still file points_file from (goes h.0) h.1, broke_later b m y still s blamed (text h.0.0) bound h.0.1 shown h.2)
