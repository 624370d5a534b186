-- Pages of a file of the disk.
use Rattle.std.proofs.Common.{◌≡◌, ℕ, ◌+◌, ◌-◌, ◌*◌, ◌<◌, List, length, take, drop, get_or, Option, Some, None, sym, ap, ◌∙◌, arith}
use Rattle.std.specs.Prelude.{IfSome, slice_get, unwrap_or}
use Rattle.std.specs.Option.{option_map}
use Rattle.std.proofs.lemmas.List.{drop_all, ext_get_or, get_or-take, get_or-drop, length-take, length-drop}
use Rattle.std.proofs.lemmas.Option.{unwrap_or-slice_get}
use Rattle.edi_calls.specs.State.{File}
use Rattle.edi_catalog.specs.declared.entry.Entry.{Entry}
use Rattle.edi_catalog.specs.InSlots.{entry_told}
use Rattle.edi_shell_io.specs.calls.OnSystem.{page_size}
use Rattle.edi_shell_io.specs.calls.Standing.{HasRead}

-- so many bytes of a page of a file
pub page_part : (n i : ℕ) (bytes page : List ℕ) → length page ≡ 512 → n ≡ page_size i (length bytes)
    → ((k : ℕ) → k < 512 → 512 * i + k < length bytes → slice_get page k ≡ slice_get bytes (512 * i + k)) → take n page ≡ take 512 (drop (512 * i) bytes)
page_part n i bytes page size count same = ext_get_or 0 (take n page) (take 512 (drop (512 * i) bytes)) long each where
  rest : ℕ
  rest = length bytes - 512 * i

  long : length (take n page) ≡ length (take 512 (drop (512 * i) bytes))
  long =
      let one = length-take n page in
      let two = length-take 512 (drop (512 * i) bytes) in
      let three = length-drop (512 * i) bytes in
      omega (arith, one, two, three, count, size)

  each : (k : ℕ) → k < length (take n page) → get_or (take n page) k 0 ≡ get_or (take 512 (drop (512 * i) bytes)) k 0
  each k h =
      let one = length-take n page in
      let within : k < n = omega (arith, one, h) in
      let here : k < 512 = omega (arith, within, count) in
      let there : 512 * i + k < length bytes = omega (arith, within, count) in
      get_or-take n page k 0 within
      ∙ sym (unwrap_or-slice_get page k 0) ∙ ap (λ o. unwrap_or o 0) (same k here there) ∙ unwrap_or-slice_get bytes (512 * i + k) 0
      ∙ sym (get_or-take 512 (drop (512 * i) bytes) k 0 here ∙ get_or-drop (512 * i) bytes k 0)

pub counted : (file : Option File) (entry : Entry) (n i : ℕ) → option_map entry_told file ≡ Some entry → n ≡ page_size i entry.length
    → IfSome file (λ f. n ≡ page_size i (length f.bytes))
counted (Some file) entry n i found count =
    let same : entry_told file ≡ entry = cc in
    count ∙ ap (λ e. page_size i e.length) (sym same)
counted None entry n i found count = tt

-- no byte stands behind the last one
pub nothing_behind : (file : Option File) (entry : Entry) (i : ℕ) (into : List ℕ) → option_map entry_told file ≡ Some entry → page_size i entry.length ≡ 0
    → HasRead (Some 0) file (λ bytes. take 512 (drop (512 * i) bytes)) into
nothing_behind (Some file) entry i into found none =
    let same : entry_told file ≡ entry = cc in
    let is : page_size i (length file.bytes) ≡ 0 = ap (λ e. page_size i e.length) same ∙ none in
    ap (take 512) (sym (drop_all (512 * i) file.bytes (omega (arith, is))))
nothing_behind None entry i into found none = absurd (cc)

pub no_file : (file : Option File) (part : List ℕ → List ℕ) (into : List ℕ) → option_map entry_told file ≡ None → HasRead None file part into
no_file None part into found = tt
no_file (Some file) part into found = absurd (cc)
